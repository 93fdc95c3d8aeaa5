use Rattle.std.proofs.Common.{◌≡◌, ◌∙◌, ◌+◌, ◌-◌, length, arith, refl, ap, sym}
use Rattle.std.proofs.lemmas.Bool.{false≢true}
use Rattle.std.proofs.lemmas.Option.{slice_get_read}
use Rattle.std.specs.Prelude.{slice_get}
use Rattle.desk_core.proofs.Segments.{chained_next, in_a_row_chained, in_a_row_more, InARow}
use Rattle.desk_core.proofs.records.are_chained.Goals as goal

pub returns-then-not-follows : goal.returns-then-not-follows
returns-then-not-follows c =
    let segments = c.args.segments.now in
    let i = c.loop-at.at in
    let s = c.index-segments-at.result in
    let t = c.index-segments-at-in-loop-at.result in
    let at = slice_get_read segments (length segments) (i - 1) s refl (omega arith) c.index-segments-at.is in
    let to = slice_get_read segments (length segments) i t refl (omega arith) c.index-segments-at-in-loop-at.is in
    let e : i ≡ i - 1 + 1 = omega arith in
    (λ no. absurd (false≢true no), λ chain. sym c.if-not-follows.true ∙ c.follows.ensures.1 (chained_next chain.0 segments (i - 1) s t chain.1 at (ap (slice_get segments) (sym e) ∙ to)))

pub loop-at-preserved : goal.loop-at-preserved
loop-at-preserved c =
    let segments = c.args.segments.now in
    let i = c.loop-at.at in
    let s = c.index-segments-at.result in
    let t = c.index-segments-at-in-loop-at.result in
    let at = slice_get_read segments (length segments) (i - 1) s refl (omega arith) c.index-segments-at.is in
    let to = slice_get_read segments (length segments) i t refl (omega arith) c.index-segments-at-in-loop-at.is in
    in_a_row_more segments i s t (omega arith) c.loop-at.invariant at to (c.follows.ensures.0 c.if-not-follows.false)

pub returns : goal.returns
returns c =
    let segments = c.args.segments.now in
    let row : InARow segments (length segments) = λ k s t less e f. c.loop-at.invariant k s t (omega arith) e f in
    (λ _. in_a_row_chained segments row, λ _. refl)
