use Rattle.std.proofs.Common.{◌≡◌, ◌∙◌, ◌+◌, ap, arith}
use Rattle.std.proofs.lemmas.List.Sums.{sum_by_push}
use Rattle.desk_core.specs.Calls.{calls_of, PassState}
use Rattle.desk_core.proofs.Whole.{whole_more}
use Rattle.desk_core.proofs.settling.gather.Goals as goal

pub loop-pass-preserved : goal.loop-pass-preserved
loop-pass-preserved g c =
    let before = c.pop.new.self.items in
    let pass = c.in-Some.pass in
    let more : calls_of c.loop-pass.passes.items ≡ calls_of before + pass.calls = ap calls_of c.in-Some.ensures.items ∙ sum_by_push (λ (p : PassState). p.calls) before pass in (
      omega (arith, c.loop-pass.invariant.0, c.merge.ensures.parts, c.into_share.ensures.parts, c.in-Some.ensures.cases),
      omega (arith, more, c.loop-pass.invariant.1, c.merge.ensures.amount, c.into_share.ensures.amount),
      λ rest. c.loop-pass.invariant.2 (whole_more c.loop-pass.passes.items before pass c.in-Some.ensures.items c.into_share.ensures.whole rest),
    )
