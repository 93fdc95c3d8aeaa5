use Rattle.std.proofs.Common.{subst}
use Rattle.stick_core.specs.Listing.{IsSound, Listing}
use Rattle.stick_core.proofs.LivingLemmas.{sound-living}
use Rattle.stick_core.proofs.table.StickTable.listed_key.Goals as goal

pub returns-in-None-clause-sound : goal.returns-in-None-clause-sound
returns-in-None-clause-sound c =
    let P : Listing → Type 0 = λ t. IsSound t.size t.entries in
    subst P c.self.view_is (sound-living c.self.inside.size c.self.inside.expire c.self.inside.clock c.self.inside.touched.entries c.self.invariant.0)

pub returns-in-Some-clause-sound : goal.returns-in-Some-clause-sound
returns-in-Some-clause-sound c =
    let P : Listing → Type 0 = λ t. IsSound t.size t.entries in
    subst P c.self.view_is (sound-living c.self.inside.size c.self.inside.expire c.self.inside.clock c.self.inside.touched.entries c.self.invariant.0)
