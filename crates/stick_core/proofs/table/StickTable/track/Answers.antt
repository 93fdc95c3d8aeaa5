use Rattle.std.proofs.Common.{◌≡◌, Option, List, sym, ap, subst, ℕ, ◌+◌, ◌∙◌, arith}
use Rattle.std.specs.Prelude.{Result, Ok, Err, IfOk, OnOk, OnErr}
use Rattle.addr_core.specs.declared.addr.Addr.{Addr}
use Rattle.stick_core.specs.declared.entries.StickEntry.{StickEntry}
use Rattle.stick_core.specs.Entries.{cur_of}
use Rattle.stick_core.specs.Listing.{key_taken, entries_after, cur_at, passed, IsShown, Listing}
use Rattle.stick_core.proofs.KeptLemmas.{shown-after, shown-passed}
use Rattle.stick_core.specs.PlainEntries.{plain, AreTrackers, tracked_key, with_trackings, trackings_of}
use Rattle.stick_core.proofs.LivingLemmas.{cur_at-passed, cur_of-living, sound-living, trackers-living}
use Rattle.stick_core.proofs.PlainLemmas.{taken_plain, after_plain, counts_after}
use Rattle.stick_core.proofs.table.StickTable.track.Goals as goal

pub track_key-requires : goal.track_key-requires
track_key-requires c =
    let same = ap (λ t. cur_at t c.args.addr.now) c.pass.ensures.value ∙ cur_at-passed c.args.moment c.args.self.now c.args.addr.now c.pass.ensures.sound in
    omega (arith, same, c.requires.below)

-- what holds of the key that is tracked and of the entries that are left holds of what was answered
answered : {F : Type 0} (result : Result (Option Addr) F) (left : List StickEntry) (table now : Listing) (addr : Addr) (P : Option Addr → List StickEntry → Type 0)
    → table ≡ now → IfOk result (λ tracked. tracked ≡ key_taken table addr) → OnOk result (left ≡ entries_after table addr) → P (key_taken now addr) (entries_after now addr)
    → IfOk result (λ tracked. P tracked left)
answered (Ok tracked) left table now addr P same is after holds =
    let with_key : P tracked (entries_after now addr) = subst (λ t. P t (entries_after now addr)) (sym (is ∙ ap (λ t. key_taken t addr) same)) holds in
    subst (λ l. P tracked l) (sym (after ∙ ap (λ t. entries_after t addr) same)) with_key
answered (Err fault) left table now addr P same is after holds = tt

pub returns-clause-counts : goal.returns-clause-counts
returns-clause-counts c =
    let table = c.args.self.now in
    let sound = c.pass.ensures.sound in
    answered c.track_key.result c.track_key.new.self.entries c.pass.new.self (passed c.args.moment table) c.args.addr.now
    (λ tracked left. (key : Addr) → cur_of key left ≡ cur_of key table.entries + trackings_of key tracked)
    c.pass.ensures.value c.track_key.ensures.tracked c.track_key.ensures.entries
    (λ key.
    counts_after (passed c.args.moment table) c.args.addr.now (sound-living table.size table.expire c.args.moment table.entries sound) key
    ∙ ap (λ n. n + trackings_of key (key_taken (passed c.args.moment table) c.args.addr.now)) (cur_of-living table.expire c.args.moment table.entries sound.once key))

pub returns-clause-plain_key : goal.returns-clause-plain_key
returns-clause-plain_key c =
    let table = c.args.self.now in
    let sound = c.pass.ensures.sound in
    answered c.track_key.result c.track_key.new.self.entries c.pass.new.self (passed c.args.moment table) c.args.addr.now
    (λ tracked left. (trackers : Addr → ℕ) → AreTrackers trackers table.entries →
    tracked ≡ tracked_key trackers table.kind table.size (plain (passed c.args.moment table).entries) c.args.addr.now)
    c.pass.ensures.value c.track_key.ensures.tracked c.track_key.ensures.entries
    (λ trackers agree.
    taken_plain trackers (passed c.args.moment table) c.args.addr.now (sound-living table.size table.expire c.args.moment table.entries sound)
    (trackers-living trackers table.expire c.args.moment table.entries sound.once agree))

pub returns-clause-plain_entries : goal.returns-clause-plain_entries
returns-clause-plain_entries c =
    let table = c.args.self.now in
    let sound = c.pass.ensures.sound in
    answered c.track_key.result c.track_key.new.self.entries c.pass.new.self (passed c.args.moment table) c.args.addr.now
    (λ tracked left. (trackers : Addr → ℕ) → AreTrackers trackers table.entries →
    plain left ≡ with_trackings c.args.moment trackers table.size tracked (plain (passed c.args.moment table).entries))
    c.pass.ensures.value c.track_key.ensures.tracked c.track_key.ensures.entries
    (λ trackers agree.
    after_plain trackers (passed c.args.moment table) c.args.addr.now (sound-living table.size table.expire c.args.moment table.entries sound)
    (trackers-living trackers table.expire c.args.moment table.entries sound.once agree))

-- what was left is shown
left-shown : {F : Type 0} (T : Type 0) (result : Result (Option Addr) F) (left : List StickEntry) (spare : ℕ) (table : Listing) (addr : Addr)
    → OnOk result (left ≡ entries_after table addr) → OnErr result ((left ≡ table.entries) × T) → IsShown table → IsShown (record table { entries = left; spare = spare })
left-shown T (Ok tracked) left spare table addr after same shown =
    let P : List StickEntry → Type 0 = λ l. IsShown (record table { entries = l }) in
    let is = subst P (sym after) (shown-after table addr shown) in
    record { sound = is.sound; lives = is.lives }
left-shown T (Err fault) left spare table addr after same shown =
    let P : List StickEntry → Type 0 = λ l. IsShown (record table { entries = l }) in
    let is = subst P (sym same.0) (record { sound = shown.sound; lives = shown.lives }) in
    record { sound = is.sound; lives = is.lives }

pub returns-clause-shown : goal.returns-clause-shown
returns-clause-shown c =
    subst IsShown (sym (c.track_key.ensures.same))
    (left-shown _ c.track_key.result c.track_key.new.self.entries c.track_key.new.self.spare c.pass.new.self c.args.addr.now c.track_key.ensures.entries c.track_key.ensures.err
    (subst IsShown (sym c.pass.ensures.value) (shown-passed c.args.moment c.args.self.now c.pass.ensures.sound)))
