use Rattle.std.proofs.Common.{ap, ◌≤◌, length, refl, sym, subst, ◌≡◌, ◌<◌, arith, ◌+◌, ◌-◌, ◌/◌, ◌≢◌, get_or}
use Rattle.std.proofs.lemmas.Option.{slice_get_read}
use Rattle.record_core.specs.declared.record.Record.{Record}
use Rattle.desk_core.proofs.Lists.{halved_up, halved_down}
use Rattle.desk_core.proofs.receipts.has_number.Goals as goal

pub loop-low-preserved-then-at-number-2 : goal.loop-low-preserved-then-at-number-2
loop-low-preserved-then-at-number-2 c =
    let p = c.args.pass.now in
    let m = c.loop-low.low + (c.loop-low.high - c.loop-low.low) / 2 in
    halved_up p c.args.number c.loop-low.low c.loop-low.high m c.index-pass-middle.result c.requires c.loop-low.invariant (omega arith) (slice_get_read p (length p) m c.index-pass-middle.result refl (omega (arith, c.loop-low.invariant.order)) c.index-pass-middle.is) (subst (λ (x : Record). x.number < c.args.number) (sym c.index-pass-middle.is) c.if-at-number-2.true)

pub loop-low-preserved : goal.loop-low-preserved
loop-low-preserved c =
    let p = c.args.pass.now in
    let m = c.loop-low.low + (c.loop-low.high - c.loop-low.low) / 2 in
    let s = c.index-pass-middle.result in
    let e : s.number ≡ (get_or p m s).number = ap (λ (x : Record). x.number) c.index-pass-middle.is in
    let differs : (get_or p m s).number ≢ c.args.number = c.if-at-number.false in
    let low : c.args.number ≤ (get_or p m s).number = c.if-at-number-2.false in
    halved_down p c.args.number c.loop-low.low c.loop-low.high m c.index-pass-middle.result c.requires c.loop-low.invariant (omega arith) (omega arith) (slice_get_read p (length p) m c.index-pass-middle.result refl (omega (arith, c.loop-low.invariant.order)) c.index-pass-middle.is) (omega arith)
