use Rattle.std.proofs.Common.{subst}
use Rattle.stick_core.specs.Listing.{IsSound, Listing}
use Rattle.stick_core.specs.PlainEntries.{plain, KeysDiffer}
use Rattle.stick_core.proofs.LivingLemmas.{sound-living}
use Rattle.stick_core.proofs.PlainLemmas.{keys_differ}
use Rattle.stick_core.proofs.table.StickTable.size.Goals as goal

pub returns-clause-sound : goal.returns-clause-sound
returns-clause-sound c =
    let P : Listing → Type 0 = λ t. IsSound t.size t.entries in
    subst P c.self.view_is (sound-living c.self.inside.size c.self.inside.expire c.self.inside.clock c.self.inside.touched.entries c.self.invariant.0)

pub returns-clause-keys : goal.returns-clause-keys
returns-clause-keys c =
    let P : Listing → Type 0 = λ t. KeysDiffer (plain t.entries) in
    let living-sound = sound-living c.self.inside.size c.self.inside.expire c.self.inside.clock c.self.inside.touched.entries c.self.invariant.0 in
    subst P c.self.view_is (keys_differ _ living-sound.once)
