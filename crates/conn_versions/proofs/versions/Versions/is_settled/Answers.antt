use Rattle.conn_versions.proofs.Busy.{busy_in_use}
use Rattle.conn_versions.proofs.versions.Versions.is_settled.Goals as goal

pub returns : goal.returns
returns c known =
    rw (← c.self.view_is)
    (busy_in_use c.self.inside.slots c.self.inside.versions.items c.self.inside.picks.items c.self.invariant.kept (c.self.invariant.busy known))
