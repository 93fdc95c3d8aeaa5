use Rattle.std.proofs.Common.{◌++◌, take, refl, ap}
use Rattle.event_text.specs.Script.{ended_lines}
use Rattle.explain_core.specs.Text.{once}
use Rattle.explain_core.proofs.OnceLemmas.{once_first, once_next}
use Rattle.explain_core.proofs.quotes.write_once.Goals as goal

pub loop-place-init : goal.loop-place-init
loop-place-init c = ap (λ lines. c.args.out.now.items ++ ended_lines lines) (once_first (once c.args.lines.now))

pub loop-place-preserved : goal.loop-place-preserved
loop-place-preserved c =
    once_next c.args.lines.now c.loop-place.place c.index-lines-place.result c.as_slice.result.now (take c.loop-place.place c.args.lines.now) c.loop-place.out.items c.write_new.new.out.items _
    c.loop-place-test.true c.index-lines-place.is c.as_slice.ensures refl c.in_ok-write_new.ensures c.loop-place.invariant
