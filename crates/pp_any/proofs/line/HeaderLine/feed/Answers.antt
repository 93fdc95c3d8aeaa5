use Rattle.std.proofs.Common.{refl, ap, ◌∙◌, sym}
use Rattle.pp_any.specs.Status.{line_decision}
use Rattle.pp_any.proofs.Bytes.{line_answers, line_goes_on}
use Rattle.pp_any.proofs.line.HeaderLine.feed.Goals as goal

pub returns-in-Some-clause-answers : goal.returns-in-Some-clause-answers
returns-in-Some-clause-answers c =
    rw c.of.ensures
    (line_answers c.args.self.bytes.items c.args.piece.now c.loop-at.at c.loop-at.bytes.items c.push.new.self.items c.in-Some.decision
    c.loop-at.invariant.bytes_of c.loop-at-test.true c.loop-at.invariant.inside c.push.ensures.items
    (ap line_decision (sym c.as_slice.ensures.value) ∙ sym c.last_decision.ensures.decision ∙ c.in-Some.is))

pub loop-at-preserved : goal.loop-at-preserved
loop-at-preserved c =
    let both = line_goes_on c.args.self.bytes.items c.args.piece.now c.loop-at.at c.loop-at.bytes.items c.push.new.self.items
    c.loop-at.invariant.bytes_of c.loop-at-test.true c.loop-at.invariant.inside c.push.ensures.items
    (ap line_decision (sym c.as_slice.ensures.value) ∙ sym c.last_decision.ensures.decision ∙ c.in_default.is)
    ((rw c.as_slice.ensures.value at c.in_default.ensures.room) refl) in
    record { bytes_of = both.0; inside = both.1 }
