use Rattle.std.proofs.Common.{◌≡◌, ℕ, Some, refl, sym, subst}
use Rattle.std.specs.Prelude.{find}
use Rattle.conn_rows.specs.Changes.{stored_moved, CanMove}
use Rattle.conn_rows.specs.Stored.{StoredFrontend, has_serial}
use Rattle.conn_rows.specs.Value.{HasSlot}
use Rattle.conn_rows.specs.declared.row.StoredRow.{StoredRow}
use Rattle.conn_rows.proofs.Serials.{open-with}
use Rattle.conn_rows.proofs.Fed.{moved_held}
use Rattle.conn_rows.proofs.Served.{each_moved, slots_moved}
use Rattle.conn_rows.proofs.frontend.FrontendState.move_to.Goals as goal

abbrev Moving : ℕ → StoredFrontend → Type 0
Moving serial own = (row : StoredRow) × (find (has_serial serial) own.rows ≡ Some row) × CanMove row.stage

pub invariant_of-self : goal.invariant_of-self
invariant_of-self c =
    rw c.move_row.ensures.rows
    (open-with c.args.serial c.self.inside.serial (stored_moved c.args.seat c.args.slot) c.self.inside.rows (λ row. refl) (λ row. moved_held c.args.seat c.args.slot row.stage) c.self.invariant)

pub returns-clause-slots : goal.returns-clause-slots
returns-clause-slots c =
    let there = subst (Moving c.args.serial) (sym c.self.view_is) c.requires in
    rw (← c.self.view_is, c.move_row.ensures.rows)
    (slots_moved c.args.serial c.self.inside.rows c.args.seat c.args.slot c.move_row.result there.0 c.self.invariant.rise there.1 (c.move_row.ensures.left there.0 there.1))

pub returns-clause-each : goal.returns-clause-each
returns-clause-each c =
    let there = subst (Moving c.args.serial) (sym c.self.view_is) c.requires in
    rw (← c.self.view_is, c.move_row.ensures.rows)
    (λ kept moved. each_moved (HasSlot kept) c.args.serial (stored_moved c.args.seat c.args.slot) c.self.inside.rows there.0 c.self.invariant.rise there.1 (moved there.0 there.1))
