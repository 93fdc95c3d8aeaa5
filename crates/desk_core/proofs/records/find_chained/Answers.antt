use Rattle.std.proofs.Common.{◌≡◌, ◌∙◌, ◌+◌, ◌-◌, ◌/◌, ap, sym, length, refl, arith, Some, None, List}
use Rattle.std.proofs.lemmas.Option.{slice_get_read}
use Rattle.record_core.specs.declared.record.Record.{Record}
use Rattle.desk_core.specs.Receipts.{record_at}
use Rattle.desk_core.proofs.Segments.{listed_here, none_before, sought_down, sought_none, sought_up}
use Rattle.desk_core.proofs.records.find_chained.Goals as goal

pub loop-low-preserved-then-number-segment : goal.loop-low-preserved-then-number-segment
loop-low-preserved-then-number-segment c =
    let segments = c.args.segments.now in
    let m = c.loop-low.low + (c.loop-low.high - c.loop-low.low) / 2 in
    let s = c.index-segments-middle.result in
    let at = slice_get_read segments (length segments) m s refl (omega (arith, c.loop-low.invariant.order)) c.index-segments-middle.is in
    sought_down c.requires.0 segments c.args.number c.loop-low.low c.loop-low.high m s c.requires.1 c.loop-low.invariant (omega arith) (omega arith) at c.if-number-segment.true

pub returns-in-Some : goal.returns-in-Some
returns-in-Some c =
    let segments = c.args.segments.now in
    let m = c.loop-low.low + (c.loop-low.high - c.loop-low.low) / 2 in
    let s = c.index-segments-middle.result in
    let at = slice_get_read segments (length segments) m s refl (omega (arith, c.loop-low.invariant.order)) c.index-segments-middle.is in
    let found : record_at s.first s.records c.args.number ≡ Some c.in-Some.record.now =
    ap (λ (l : List Record). record_at s.first l c.args.number) (sym c.as_slice.ensures) ∙ sym c.in-Some.ensures in
    sym (listed_here segments c.args.number m s c.in-Some.record.now (none_before c.requires.0 segments c.args.number m s c.requires.1 at c.if-number-segment.false) at found)

pub loop-low-preserved : goal.loop-low-preserved
loop-low-preserved c =
    let segments = c.args.segments.now in
    let m = c.loop-low.low + (c.loop-low.high - c.loop-low.low) / 2 in
    let s = c.index-segments-middle.result in
    let at = slice_get_read segments (length segments) m s refl (omega (arith, c.loop-low.invariant.order)) c.index-segments-middle.is in
    let none : record_at s.first s.records c.args.number ≡ None =
    ap (λ (l : List Record). record_at s.first l c.args.number) (sym c.as_slice.ensures) ∙ sym c.in-None.ensures in
    sought_up c.requires.0 segments c.args.number c.loop-low.low c.loop-low.high m s c.requires.1 c.loop-low.invariant (omega arith) at c.if-number-segment.false none

pub returns : goal.returns
returns c = sym (sought_none c.args.segments.now c.args.number c.loop-low.low c.loop-low.high c.loop-low.invariant (omega arith))
