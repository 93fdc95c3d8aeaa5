use Rattle.std.proofs.Common.{[], ◌∙◌, ap, arith, length, length-append, replicate, sym, true, ℕ}
use Rattle.std.proofs.lemmas.List.{length-replicate}
use Rattle.addr_core.specs.Six.{groups_in, words_of}
use Rattle.addr_core.proofs.SixSteps.{front_length, gap_is, reads_from, short_length}
use Rattle.addr_core.proofs.six.short.Goals as goal

pub push_zeros-requires : goal.push_zeros-requires
push_zeros-requires c =
    let is = gap_is (words_of c.args.front.now) (words_of c.args.back.now) c.in-Some.gap (sym c.gap.ensures ∙ c.in-Some.is) in
    let first = reads_from c.new-groups.result.items [] (groups_in (words_of c.args.front.now)) c.push_text.new.groups.items c.new-groups.ensures c.in_ok-push_text.ensures.ok in
    omega (arith, is.all, front_length (words_of c.args.front.now) (words_of c.args.back.now) c.in-Some.gap c.push_text.new.groups.items is first)

pub push_text-requires-2 : goal.push_text-requires-2
push_text-requires-2 c =
    let is = gap_is (words_of c.args.front.now) (words_of c.args.back.now) c.in-Some.gap (sym c.gap.ensures ∙ c.in-Some.is) in
    let first = reads_from c.new-groups.result.items [] (groups_in (words_of c.args.front.now)) c.push_text.new.groups.items c.new-groups.ensures c.in_ok-push_text.ensures.ok in (
      true,
      is.after,
      is.back_count,
      omega (
        arith,
        is.all,
        front_length (words_of c.args.front.now) (words_of c.args.back.now) c.in-Some.gap c.push_text.new.groups.items is first,
        ap length c.push_zeros.ensures,
        length-append c.push_text.new.groups.items (replicate c.in-Some.gap 0),
        length-replicate {A = ℕ} c.in-Some.gap 0,
      ),
    )

pub number_of-requires : goal.number_of-requires
number_of-requires c =
    let is = gap_is (words_of c.args.front.now) (words_of c.args.back.now) c.in-Some.gap (sym c.gap.ensures ∙ c.in-Some.is) in
    let first = reads_from c.new-groups.result.items [] (groups_in (words_of c.args.front.now)) c.push_text.new.groups.items c.new-groups.ensures c.in_ok-push_text.ensures.ok in
    ap length c.as_slice.ensures.value
    ∙ short_length (words_of c.args.front.now) (words_of c.args.back.now) c.in-Some.gap c.push_text.new.groups.items c.push_zeros.new.groups.items c.push_text-2.new.groups.items is first c.push_zeros.ensures c.in_ok-push_text-2.ensures.ok
