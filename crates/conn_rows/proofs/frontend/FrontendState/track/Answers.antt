use Rattle.std.proofs.Common.{refl}
use Rattle.conn_rows.specs.Stored.{stored_tracking}
use Rattle.conn_rows.specs.Value.{HasSlot, row_judged, row_slots}
use Rattle.conn_rows.proofs.Counted.{total-with}
use Rattle.conn_rows.proofs.Served.{all-with}
use Rattle.conn_rows.proofs.Serials.{open-with}
use Rattle.conn_rows.proofs.frontend.FrontendState.track.Goals as goal

pub invariant_of-self : goal.invariant_of-self
invariant_of-self c =
    rw c.put_tracking.ensures.rows
    (open-with c.args.serial c.self.inside.serial (stored_tracking c.args.counter c.args.tracking) c.self.inside.rows (λ row. refl) (λ row held. held) c.self.invariant)

pub returns-clause-slots : goal.returns-clause-slots
returns-clause-slots c =
    rw (← c.self.view_is, c.put_tracking.ensures.rows) (λ place. total-with (row_slots place) c.args.serial (stored_tracking c.args.counter c.args.tracking) c.self.inside.rows (λ row. refl))

pub returns-clause-judged : goal.returns-clause-judged
returns-clause-judged c =
    rw (← c.self.view_is, c.put_tracking.ensures.rows) (λ number. total-with (row_judged number) c.args.serial (stored_tracking c.args.counter c.args.tracking) c.self.inside.rows (λ row. refl))

pub returns-clause-each : goal.returns-clause-each
returns-clause-each c =
    rw (← c.self.view_is, c.put_tracking.ensures.rows) (λ kept all. all-with (HasSlot kept) c.args.serial (stored_tracking c.args.counter c.args.tracking) c.self.inside.rows (λ row has. has) all)
