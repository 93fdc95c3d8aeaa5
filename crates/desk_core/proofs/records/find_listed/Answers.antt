use Rattle.std.proofs.Common.{◌≡◌, ◌∙◌, ap, sym, length, refl, arith, Some, None, List}
use Rattle.std.proofs.lemmas.Option.{slice_get_read}
use Rattle.record_core.specs.declared.record.Record.{Record}
use Rattle.desk_core.specs.Receipts.{record_at}
use Rattle.desk_core.proofs.Segments.{listed_here, listed_none, none_more}
use Rattle.desk_core.proofs.records.find_listed.Goals as goal

pub returns-in-Some : goal.returns-in-Some
returns-in-Some c =
    let segments = c.args.segments.now in
    let i = c.loop-segment.segment-index in
    let s = c.segment-item.result in
    let at = slice_get_read segments (length segments) i s refl (omega arith) c.segment-item.is in
    let found : record_at s.first s.records c.args.number ≡ Some c.in-Some.record.now =
    ap (λ (l : List Record). record_at s.first l c.args.number) (sym c.as_slice.ensures) ∙ sym c.in-Some.ensures in
    sym (listed_here segments c.args.number i s c.in-Some.record.now c.loop-segment.invariant at found)

pub loop-segment-preserved : goal.loop-segment-preserved
loop-segment-preserved c =
    let segments = c.args.segments.now in
    let i = c.loop-segment.segment-index in
    let s = c.segment-item.result in
    let at = slice_get_read segments (length segments) i s refl (omega arith) c.segment-item.is in
    let none : record_at s.first s.records c.args.number ≡ None =
    ap (λ (l : List Record). record_at s.first l c.args.number) (sym c.as_slice.ensures) ∙ sym c.in_default.ensures in
    none_more segments c.args.number i s c.loop-segment.invariant at none

pub returns : goal.returns
returns c = sym (listed_none c.args.segments.now c.args.number (λ k s low high e. c.loop-segment.invariant k s low (omega arith) e))
