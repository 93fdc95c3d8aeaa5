use Rattle.std.proofs.Common.{◌≡◌, rules, sym, subst}
use Rattle.conn_model.specs.declared.plain.Plain.{Plain}
use Rattle.conn_model.specs.History.{opening}
use Rattle.conn_model.proofs.Well.{opening_well}
use Rattle.conn_core.specs.Machine.{IsCoreState, state_of}
use Rattle.conn_core.proofs.machine.Core.start.Goals as goal

pub invariant_of-result : goal.invariant_of-result
invariant_of-result c =
    let state : Plain = state_of c.in_ok-listeners.listeners c.in_ok-rows.rows in
    let same : state ≡ opening c.args.plan c.args.last = search rules in
    subst IsCoreState (sym same) (record { well = opening_well c.args.plan c.args.last; plans = (c.requires, tt) })

pub returns-clause-well : goal.returns-clause-well
returns-clause-well c = (invariant_of-result c).well
