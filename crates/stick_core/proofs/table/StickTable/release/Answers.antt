use Rattle.std.proofs.Common.{◌≡◌, ◌<◌, sym, ap, subst, ◌∙◌, arith}
use Rattle.stick_core.specs.Entries.{cur_of, released}
use Rattle.stick_core.specs.Listing.{passed, IsShown, Listing}
use Rattle.stick_core.specs.PlainEntries.{plain}
use Rattle.stick_core.proofs.KeptLemmas.{shown-passed, shown-released}
use Rattle.stick_core.proofs.LivingLemmas.{cur_of-living, sound-living}
use Rattle.stick_core.proofs.PlainLemmas.{counts_released, released_plain}
use Rattle.stick_core.proofs.table.StickTable.release.Goals as goal

pub release_key-requires : goal.release_key-requires
release_key-requires c =
    let table = c.args.self.now in
    let same = ap (λ t. cur_of c.args.tracked t.entries) c.pass.ensures.value ∙ cur_of-living table.expire c.args.moment table.entries c.pass.ensures.sound.once c.args.tracked in
    omega (arith, same, c.requires.tracked)

left : (c : goal.After-release_key) → c.release_key.new.self ≡ record (passed c.args.moment c.args.self.now) { entries = released c.args.moment c.args.tracked (passed c.args.moment c.args.self.now).entries }
left c =
    let change : Listing → Listing = λ t. record t { entries = released t.clock c.args.tracked t.entries } in
    c.release_key.ensures ∙ ap change c.pass.ensures.value

pub returns-clause-value : goal.returns-clause-value
returns-clause-value c = left c

pub returns-clause-counts : goal.returns-clause-counts
returns-clause-counts c = λ key.
    let table = c.args.self.now in
    let sound = c.pass.ensures.sound in
    let was = cur_of-living table.expire c.args.moment table.entries sound.once in
    let some : 0 < cur_of c.args.tracked (passed c.args.moment table).entries = omega (arith, was c.args.tracked, c.requires.tracked) in
    rw (left c) (counts_released c.args.moment c.args.tracked (passed c.args.moment table).entries some key ∙ was key)

pub returns-clause-plain_entries : goal.returns-clause-plain_entries
returns-clause-plain_entries c =
    let table = c.args.self.now in
    let sound = sound-living table.size table.expire c.args.moment table.entries c.pass.ensures.sound in
    ap (λ t. plain t.entries) (left c) ∙ released_plain c.args.moment c.args.tracked (passed c.args.moment table).entries sound.once

pub returns-clause-shown : goal.returns-clause-shown
returns-clause-shown c =
    let table = c.args.self.now in
    let was = cur_of-living table.expire c.args.moment table.entries c.pass.ensures.sound.once in
    let some : 0 < cur_of c.args.tracked (passed c.args.moment table).entries = omega (arith, was c.args.tracked, c.requires.tracked) in
    subst IsShown (sym (left c)) (shown-released (passed c.args.moment table) c.args.tracked (shown-passed c.args.moment table c.pass.ensures.sound) some)
