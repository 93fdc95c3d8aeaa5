use Rattle.std.proofs.Common.{◌+◌, ◌∙◌, ap, arith, sym}
use Rattle.std.specs.List.{slice_split}
use Rattle.std.specs.Option.{option_map}
use Rattle.addr_core.specs.Dotted.{is_colon}
use Rattle.addr_core.specs.Six.{group_count}
use Rattle.addr_core.proofs.SixSteps.{count_more, count_step, count_stop, neither, words_are}
use Rattle.addr_core.proofs.six.count.Goals as goal

pub returns-then-is_no_group : goal.returns-then-is_no_group
returns-then-is_no_group c =
    sym (
    ap (group_count c.args.may_be_dotted) (words_are c.args.text.now (sym c.is_empty.ensures ∙ c.if-is_empty.false))
    ∙ c.loop-word.invariant.0
    ∙ ap (option_map (λ n. n + c.loop-word.count))
    (count_stop c.args.may_be_dotted (slice_split is_colon c.loop-word.rest.now) c.in-Some.word.now c.in-Some.more.now c.in-Some.ensures.some (sym c.is_no_group.ensures ∙ c.if-is_no_group.true))
    )

pub loop-word-preserved : goal.loop-word-preserved
loop-word-preserved c =
    let plain = neither _ _ (sym c.is_no_group.ensures ∙ c.if-is_no_group.false) in (
      c.loop-word.invariant.0
          ∙ ap (option_map (λ n. n + c.loop-word.count))
          (count_step c.args.may_be_dotted (slice_split is_colon c.loop-word.rest.now) c.in-Some.word.now c.in-Some.more.now c.in-Some.ensures.some plain.0 plain.1)
          ∙ count_more c.loop-word.count (group_count c.args.may_be_dotted (slice_split is_colon c.in-Some.more.now)),
      omega (arith, c.loop-word.invariant.1, c.in-Some.ensures.shorter),
    )
