use Rattle.std.proofs.Common.{sym}
use Rattle.plan_types.specs.Lines.{has_line}
use Rattle.conn_rows.proofs.PlaceLemmas.{find-only}
use Rattle.conn_rows.proofs.settings.backend_at.Goals as goal

pub returns-in-Some : goal.returns-in-Some
returns-in-Some c =
    let found = c.in-Some.ensures in
    let has = c.has_place.ensures c.if-has_place.true in
    sym (find-only (has_line c.args.place.line) c.args.plan.now.backends found.0 c.in-Some.backend.now found.1 has
    (λ j other at passes. c.requires c.args.place.line j found.0 other c.in-Some.backend.now at found.1 passes has))
