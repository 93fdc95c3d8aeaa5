use Rattle.std.proofs.Common.{◌≡◌, ◌≢◌, ◌<◌, ◌≤◌, List, ℕ, length, ap, ◌∙◌, sym, arith}
use Rattle.pp_any.specs.Status.{early_fault}
use Rattle.pp_any.proofs.Bytes.{head_answers, head_goes_on, head_is_whole}
use Rattle.pp_any.proofs.head.HeaderStart.feed.Goals as goal

few_bytes : (xs ys : List ℕ) → xs ≡ ys → length xs ≤ 16 → length xs ≢ 16 → length ys < 16
few_bytes xs ys same fits other = let l : length xs ≡ length ys = ap length same in omega arith

pub returns-in-Ok-clause-answers : goal.returns-in-Ok-clause-answers
returns-in-Ok-clause-answers c =
    let whole = head_is_whole c.args.self.bytes.items c.args.piece.now c.loop-at.at c.loop-at.bytes.items c.in-Ok.head.now
    c.loop-at.invariant.bytes_of c.loop-at-test.true c.loop-at.invariant.inside
    (c.in-Ok.ensures.1.same ∙ c.as_slice.ensures.value ∙ c.push.ensures.items)
    (ap length c.in-Ok.ensures.1.same ∙ c.in-Ok.ensures.1.long) in
    c.feed_after.ensures.answers c.args.self.bytes.items whole.0 whole.1

pub returns-in-Some-clause-answers : goal.returns-in-Some-clause-answers
returns-in-Some-clause-answers c =
    let few : length c.push.new.self.items < 16 = few_bytes c.as_slice.result.now c.push.new.self.items c.as_slice.ensures.value c.as_slice.ensures.fits c.in_default.ensures.1 in
    rw c.from.ensures
    (head_answers c.args.self.bytes.items c.args.piece.now c.loop-at.at c.loop-at.bytes.items c.push.new.self.items c.in-Some.fault
    c.loop-at.invariant.bytes_of c.loop-at-test.true c.loop-at.invariant.inside c.push.ensures.items few
    (ap early_fault (sym c.as_slice-in-loop-at.ensures.value) ∙ sym c.fault_at_last.ensures ∙ c.in-Some.is))

pub loop-at-preserved : goal.loop-at-preserved
loop-at-preserved c =
    let few : length c.push.new.self.items < 16 = few_bytes c.as_slice.result.now c.push.new.self.items c.as_slice.ensures.value c.as_slice.ensures.fits c.in_default.ensures.1 in
    let both = head_goes_on c.args.self.bytes.items c.args.piece.now c.loop-at.at c.loop-at.bytes.items c.push.new.self.items
    c.loop-at.invariant.bytes_of c.loop-at-test.true c.loop-at.invariant.inside c.push.ensures.items few
    (ap early_fault (sym c.as_slice-in-loop-at.ensures.value) ∙ sym c.fault_at_last.ensures ∙ c.in_default-fault_at_last.is) in
    record { bytes_of = both.0; inside = both.1 }
