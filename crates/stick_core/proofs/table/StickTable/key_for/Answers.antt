use Rattle.std.proofs.Common.{sym, ◌∙◌}
use Rattle.stick_core.specs.Listing.{passed}
use Rattle.stick_core.proofs.LivingLemmas.{sound-living, taken-passed, trackers-living}
use Rattle.stick_core.proofs.PlainLemmas.{taken_plain}
use Rattle.stick_core.proofs.table.StickTable.key_for.Goals as goal

pub returns-clause-later : goal.returns-clause-later
returns-clause-later c = λ moment. c.listed_key.ensures.value ∙ sym (taken-passed moment c.args.self.now c.args.addr.now c.listed_key.ensures.sound)

pub returns-clause-plain_value : goal.returns-clause-plain_value
returns-clause-plain_value c = λ moment trackers agree.
    let table = c.args.self.now in
    let sound = c.listed_key.ensures.sound in
    c.listed_key.ensures.value ∙ sym (taken-passed moment table c.args.addr.now sound)
    ∙ taken_plain trackers (passed moment table) c.args.addr.now (sound-living table.size table.expire moment table.entries sound)
    (trackers-living trackers table.expire moment table.entries sound.once agree)
