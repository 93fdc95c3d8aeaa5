use Rattle.std.proofs.Common.{◌-◌, ap, ◌∙◌}
use Rattle.slot_core.specs.Counts.{identity_at}
use Rattle.conn_versions.proofs.Identities.{identity-changed}
use Rattle.conn_versions.proofs.Moves.{still_kept}
use Rattle.conn_versions.proofs.versions.Versions.give_back.Goals as goal

pub invariant_of-self : goal.invariant_of-self
invariant_of-self c =
    rw c.give_back.ensures.counts
    (record {
      kept = still_kept (λ n. n - 1) c.args.slot.place c.self.inside.slots c.self.inside.versions.items c.self.inside.picks.items c.self.invariant.kept;
      busy = c.self.invariant.busy;
    })

pub returns-clause-identities : goal.returns-clause-identities
returns-clause-identities c = λ place.
    ap (identity_at place) c.give_back.ensures.counts ∙ identity-changed (λ n. n - 1) c.args.slot.place c.self.inside.slots place ∙ ap (λ v. identity_at place v.counts) c.self.view_is
