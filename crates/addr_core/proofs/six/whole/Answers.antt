use Rattle.std.proofs.Common.{◌∙◌, ap, length}
use Rattle.std.proofs.Common.{[]}
use Rattle.std.specs.Option.{unwrap_or}
use Rattle.addr_core.specs.Six.{groups_in, words_of}
use Rattle.addr_core.proofs.SixSteps.{reads_from, whole_length}
use Rattle.addr_core.proofs.six.whole.Goals as goal

pub number_of-requires : goal.number_of-requires
number_of-requires c =
    ap length c.as_slice.ensures.value
    ∙ whole_length (words_of c.args.text.now) c.unwrap_or.result c.push_text.new.groups.items (c.unwrap_or.ensures ∙ ap (λ o. unwrap_or o 0) c.count.ensures) c.if-unwrap_or-ne8.false
    (reads_from c.new-groups.result.items [] (groups_in (words_of c.args.text.now)) c.push_text.new.groups.items c.new-groups.ensures c.in_ok-push_text.ensures.ok)
