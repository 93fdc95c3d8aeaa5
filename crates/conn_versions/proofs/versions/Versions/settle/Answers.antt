use Rattle.conn_versions.proofs.Busy.{in_use_busy}
use Rattle.conn_versions.proofs.versions.Versions.settle.Goals as goal

pub invariant_of-self : goal.invariant_of-self
invariant_of-self c = record {
  kept = c.self.invariant.kept;
  busy = λ known.
      in_use_busy c.self.inside.slots c.self.inside.versions.items c.self.inside.picks.items c.self.invariant.kept (rw (← c.self.view_is) at c.requires);
}
