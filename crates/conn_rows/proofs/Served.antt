-- Open connections of servers, as the rows change.
use Rattle.std.proofs.Common.{◌≡◌, ℕ, ◌*◌, ◌+◌, Bool, true, false, List, [], ◌∷◌, ◌++◌, length, map, set, Option, Some, None, refl, sym, ap, subst, ◌∙◌, arith}
use Rattle.std.specs.Prelude.{filter, find, ◌<◌, ◌≤◌, slice_get, slice_set, option_map, ◌==◌, if◌then◌else◌, IfSome, IsSome, option_and_then}
use Rattle.std.specs.List.{AllByRecursion}
use Rattle.std.proofs.lemmas.Bool.Decides.{nat_tests}
use Rattle.std.specs.Option.{option_map_or}
use Rattle.keyed_list.specs.Entries.{IsFew}
use Rattle.plan_types.specs.declared.plan.Frontend.{Frontend}
use Rattle.plan_types.specs.declared.plan.Plan.{Plan}
use Rattle.slot_core.specs.declared.slots.SlotIx.{SlotIx}
use Rattle.slot_core.specs.Counts.{identity_at, open_at, slots_at}
use Rattle.conn_model.specs.declared.plain.Version.{Version}
use Rattle.conn_model.specs.Answer.{version_at}
use Rattle.conn_model.specs.Counts.{server_of, total}
use Rattle.conn_model.specs.History.{identity_of, with_offer}
use Rattle.conn_model.specs.Servers.{cursors_after, identity_in}
use Rattle.proxy_types.specs.declared.balance.Place.{Place}
use Rattle.conn_model.proofs.Lists.{all-append, all-at, all-filter, all-map, all-more}
use Rattle.conn_tables.proofs.PlaceLemmas.{all_set}
use Rattle.conn_versions.specs.Judged.{judged_by, judged_of}
use Rattle.conn_versions.specs.Versions.{HasServer, VersionsValue}
use Rattle.conn_rows.specs.declared.row.ServerHold.{ServerHold}
use Rattle.conn_rows.specs.declared.row.ServerChoice.{ServerChoice}
use Rattle.conn_rows.specs.declared.row.Stage.{Stage}
use Rattle.conn_rows.specs.declared.row.Stage.TheVariants.{Waiting, Offered}
use Rattle.conn_rows.specs.declared.row.StoredRow.{StoredRow}
use Rattle.conn_rows.specs.Changes.{stage_fed, stage_moved, stage_offered, stage_up, stored_fed, stored_moved, stored_up}
use Rattle.conn_rows.specs.Stored.{StoredFrontend, at_stage, has_serial, phase_of, plan_at, rest_kept, rest_within, slot_of, with_stored}
use Rattle.conn_rows.specs.Value.{AllRows, AreServed, CountsFor, HasSlot, row_judged, row_slots, rows_total}
use Rattle.conn_model.proofs.Totals.{total-push, total-set}
use Rattle.conn_rows.proofs.Counted.{total-arrival}
use Rattle.conn_rows.proofs.Serials.{places}
use Rattle.conn_model.specs.Words.{Rise}
use Rattle.arrayvec.specs.ArrayVec.{ArrayVec}

-- a frontend is changed, whose rows are worth what they were
pub worth_same : (worth : StoredRow → ℕ) (frontends : List StoredFrontend) (n : ℕ) (own next : StoredFrontend) → slice_get frontends n ≡ Some own → total worth next.rows ≡ total worth own.rows →
    rows_total worth (set frontends n next) ≡ rows_total worth frontends
worth_same worth frontends n own next there same =
    let all : rows_total worth (set frontends n next) + total worth own.rows ≡ rows_total worth frontends + total worth next.rows =
    total-set (λ own. total worth own.rows) frontends n own next there in
    omega (arith, all, same)

-- whose rows are as many open connections of each server and of each version as they were
pub still_served : (frontends : List StoredFrontend) (kept : VersionsValue) (n : ℕ) (own next : StoredFrontend) → slice_get frontends n ≡ Some own →
    ((place : ℕ) → total (row_slots place) next.rows ≡ total (row_slots place) own.rows) → ((number : ℕ) → total (row_judged number) next.rows ≡ total (row_judged number) own.rows) →
    (AllByRecursion (HasSlot kept) own.rows → AllByRecursion (HasSlot kept) next.rows) → AreServed frontends kept → AreServed (set frontends n next) kept
still_served frontends kept n own next there same judged each known = record {
  counted = λ place. known.counted place ∙ sym (worth_same (row_slots place) frontends n own next there (same place));
  judged = λ number some. known.judged number some ∙ sym (worth_same (row_judged number) frontends n own next there (judged number));
  slots = all_set (λ own. AllByRecursion (HasSlot kept) own.rows) frontends n next known.slots (each (all-at (λ own. AllByRecursion (HasSlot kept) own.rows) frontends n own known.slots there));
}

-- rows of which one is changed
pub all-with : (P : StoredRow → Type 0) (serial : ℕ) (change : StoredRow → StoredRow) (rows : List StoredRow) → ((row : StoredRow) → P row → P (change row)) → AllByRecursion P rows → AllByRecursion P (with_stored serial change rows)
all-with P serial change rows keeps all =
    all-map P (λ row. if row.serial == serial then change row else row) rows (all-more P (λ row. P (if row.serial == serial then change row else row)) rows kept all)
  where
    kept : (row : StoredRow) → P row → P (if row.serial == serial then change row else row)
    kept row known = by (row.serial == serial)
      where
        by : (b : Bool) → P (if b then change row else row)
        by true = keeps row known
        by false = known

-- a connection that is fed, and one that its server took

pub fed_slot : (piece : List ℕ) (stage : Stage) → slot_of (stage_fed piece stage) ≡ slot_of stage
fed_slot piece (Waiting rest) = refl
fed_slot piece (Offered held) = refl

fed_server : (plan : Option Plan) (piece : List ℕ) (stage : Stage) → server_of (phase_of plan (stage_fed piece stage)) ≡ server_of (phase_of plan stage)
fed_server plan piece (Waiting rest) = refl
fed_server plan piece (Offered held) = refl

pub up_slot : (stage : Stage) → slot_of (stage_up stage) ≡ slot_of stage
up_slot (Waiting rest) = refl
up_slot (Offered held) = refl

up_server : (plan : Option Plan) (stage : Stage) → server_of (phase_of plan (stage_up stage)) ≡ server_of (phase_of plan stage)
up_server plan (Waiting rest) = refl
up_server plan (Offered held) = by held.is_up
  where
    by : (b : Bool) → server_of (phase_of plan (stage_up (Offered (record held { is_up = b })))) ≡ server_of (phase_of plan (Offered (record held { is_up = b })))
    by true = refl
    by false = refl

-- a stage in the place of another one, of the same slot and server
pub at-stage : (kept : VersionsValue) (row : StoredRow) (stage : Stage) → slot_of stage ≡ slot_of row.stage → server_of (phase_of (plan_at kept.versions row.version) stage) ≡ server_of (phase_of (plan_at kept.versions row.version) row.stage) →
    HasSlot kept row → HasSlot kept (at_stage stage row)
at-stage kept row stage slot server known =
    subst (λ s. CountsFor kept s (server_of (phase_of (plan_at kept.versions row.version) stage))) (sym slot)
    (subst (λ s. CountsFor kept (slot_of row.stage) s) (sym server) known)

pub fed_has : (kept : VersionsValue) (piece : List ℕ) (row : StoredRow) → HasSlot kept row → HasSlot kept (stored_fed piece row)
fed_has kept piece row = at-stage kept row (stage_fed piece row.stage) (fed_slot piece row.stage) (fed_server (plan_at kept.versions row.version) piece row.stage)

pub up_has : (kept : VersionsValue) (row : StoredRow) → HasSlot kept row → HasSlot kept (stored_up row)
up_has kept row = at-stage kept row (stage_up row.stage) (up_slot row.stage) (up_server (plan_at kept.versions row.version) row.stage)

pub slots-fed : (place : ℕ) (piece : List ℕ) (row : StoredRow) → row_slots place (stored_fed piece row) ≡ row_slots place row
slots-fed place piece row = ap (λ o. option_map_or (slots_at place) o 0) (fed_slot piece row.stage)

pub slots-up : (place : ℕ) (row : StoredRow) → row_slots place (stored_up row) ≡ row_slots place row
slots-up place row = ap (λ o. option_map_or (slots_at place) o 0) (up_slot row.stage)

-- The same versions and servers.

pub still_has : (kept rest : VersionsValue) → rest.versions ≡ kept.versions → ((place : ℕ) → identity_at place rest.counts ≡ identity_at place kept.counts) → (row : StoredRow) → HasSlot kept row → HasSlot rest row
still_has kept rest versions identities row is =
    subst (λ vs. CountsFor rest (slot_of row.stage) (server_of (phase_of (plan_at vs row.version) row.stage))) (sym versions) (same (slot_of row.stage) (server_of (phase_of (plan_at kept.versions row.version) row.stage)) is)
  where
    same : (o : Option SlotIx) (s : Option _) → CountsFor kept o s → CountsFor rest o s
    same None s is = tt
    same (Some slot) s is = identities slot.place ∙ is

pub all_still : (kept rest : VersionsValue) (frontends : List StoredFrontend) → rest.versions ≡ kept.versions → ((place : ℕ) → identity_at place rest.counts ≡ identity_at place kept.counts) → AllRows (HasSlot kept) frontends →
    AllRows (HasSlot rest) frontends
all_still kept rest frontends versions identities known =
    all-more (λ own. AllByRecursion (HasSlot kept) own.rows) (λ own. AllByRecursion (HasSlot rest) own.rows) frontends (λ own. all-more (HasSlot kept) (HasSlot rest) own.rows (still_has kept rest versions identities)) known

-- a row more, which waits: its version judges one more
pub arrived_served : (frontends : List StoredFrontend) (kept rest : VersionsValue) (n : ℕ) (own next : StoredFrontend) (row : StoredRow) → slice_get frontends n ≡ Some own → next.rows ≡ own.rows ++ row ∷ [] →
    slot_of row.stage ≡ None → rest.versions ≡ kept.versions → rest.counts ≡ kept.counts →
    ((number : ℕ) → IsSome (version_at kept.versions number) → judged_of rest number ≡ judged_of kept number + judged_by number row.version) → AreServed frontends kept → AreServed (set frontends n next) rest
arrived_served frontends kept rest n own next row there rows none versions counts enters known = record {
  counted = λ place.
      let same : total (row_slots place) next.rows ≡ total (row_slots place) own.rows =
      ap (total (row_slots place)) rows ∙ total-arrival (row_slots place) own.rows row (ap (λ o. option_map_or (slots_at place) o 0) none) in
      ap (open_at place) counts ∙ known.counted place ∙ sym (worth_same (row_slots place) frontends n own next there same);
  judged = λ number some.
      let all : rows_total (row_judged number) (set frontends n next) + total (row_judged number) own.rows ≡ rows_total (row_judged number) frontends + total (row_judged number) next.rows =
      total-set (λ own. total (row_judged number) own.rows) frontends n own next there in
      let kept_before : IsSome (version_at kept.versions number) = subst (λ vs. IsSome (version_at vs number)) versions some in
      let before = known.judged number kept_before in
      let more : total (row_judged number) next.rows ≡ total (row_judged number) own.rows + row_judged number row = ap (total (row_judged number)) rows ∙ total-push (row_judged number) own.rows row in
      let one = enters number kept_before in
      omega (arith, all, before, more, one);
  slots =
      all_still kept rest (set frontends n next) versions (λ place. ap (identity_at place) counts)
      (all_set (λ own. AllByRecursion (HasSlot kept) own.rows) frontends n next known.slots
      (subst (AllByRecursion (HasSlot kept)) (sym rows)
      (all-append (HasSlot kept) own.rows (row ∷ []) (all-at (λ own. AllByRecursion (HasSlot kept) own.rows) frontends n own known.slots there)
      (subst (λ o. CountsFor kept o (server_of (phase_of (plan_at kept.versions row.version) row.stage))) (sym none) tt, tt))));
}

-- Frontends of which nothing is open.

pub none-served : (kept : VersionsValue) (frontends : List Frontend) (last : ℕ) → AllRows (HasSlot kept) (map (λ frontend. record { name = frontend.name; serial = last; rows = [] }) frontends)
none-served kept [] last = tt
none-served kept (f ∷ frontends) last = (tt, none-served kept frontends last)

-- Not too many connections of a version.

one-judged : (number version : ℕ) → judged_by number version ≤ 1
one-judged number version = by (version == number)
  where
    by : (b : Bool) → (if b then 1 else 0) ≤ 1
    by true = omega arith
    by false = omega arith

judged-few : (number : ℕ) (rows : List StoredRow) → total (row_judged number) rows ≤ length rows
judged-few number [] = omega arith
judged-few number (row ∷ rows) = let one = one-judged number row.version in let more = judged-few number rows in omega (arith, one, more)

pub all_judged_few : (number : ℕ) (frontends : List StoredFrontend) → AllByRecursion (λ own. IsFew (length own.rows)) frontends → rows_total (row_judged number) frontends ≤ 0x100_0000_0000_0000 * length frontends
all_judged_few number [] small = omega arith
all_judged_few number (own ∷ frontends) small =
    let here = judged-few number own.rows in
    let less : length own.rows < 0x100_0000_0000_0000 = small.0 in
    let more = all_judged_few number frontends small.1 in
    omega (arith, here, less, more)

-- An offer.

pub version-offer : (number line server : ℕ) (versions : List Version) (n : ℕ) → option_map (λ version. version.plan) (version_at (map (with_offer number line server) versions) n) ≡ plan_at versions n
version-offer number line server [] n = refl
version-offer number line server (v ∷ versions) n = by (v.number == number) refl (version-offer number line server versions n)
  where
    by : (b : Bool) → (v.number == number) ≡ b → option_map (λ version. version.plan) (version_at (map (with_offer number line server) versions) n) ≡ plan_at versions n →
        option_map (λ version. version.plan) (version_at (map (with_offer number line server) (v ∷ versions)) n) ≡ plan_at (v ∷ versions) n
    by b is rest = rw is (here (cursors_after v.plan line server v.cursors) b (v.number == n) refl)
      where
        here : (cursors : List (Option Place)) (b c : Bool) → (v.number == n) ≡ c →
            option_map (λ version. version.plan) (version_at ((if b then record v { cursors = cursors } else v) ∷ map (with_offer number line server) versions) n) ≡ plan_at (v ∷ versions) n
        here cursors true true c = rw c refl
        here cursors true false c = rw c rest
        here cursors false true c = rw c refl
        here cursors false false c = rw c rest

-- the versions that are kept are the same
pub still_there : (number line server : ℕ) (versions : List Version) (n : ℕ) → IsSome (version_at (map (with_offer number line server) versions) n) → IsSome (version_at versions n)
still_there number line server versions n some =
    below (version_at versions n) (subst IsSome (version-offer number line server versions n) (above (version_at (map (with_offer number line server) versions) n) some))
  where
    above : (o : Option Version) → IsSome o → IsSome (option_map (λ version. version.plan) o)
    above None some = absurd (cc)
    above (Some version) some = refl

    below : (o : Option Version) → IsSome (option_map (λ version. version.plan) o) → IsSome o
    below None some = absurd (cc)
    below (Some version) some = refl

-- the rows of a frontend have other slots, and so many connections fewer and more are open at each place
seated : (frontends : List StoredFrontend) (kept rest : VersionsValue) (n : ℕ) (own next : StoredFrontend) (fewer more : ℕ → ℕ) → slice_get frontends n ≡ Some own →
    ((place : ℕ) → total (row_slots place) next.rows + fewer place ≡ total (row_slots place) own.rows + more place) →
    ((place : ℕ) → open_at place rest.counts + fewer place ≡ open_at place kept.counts + more place) →
    ((number : ℕ) → total (row_judged number) next.rows ≡ total (row_judged number) own.rows) →
    ((number : ℕ) → IsSome (version_at rest.versions number) → IsSome (version_at kept.versions number)) → ((number : ℕ) → judged_of rest number ≡ judged_of kept number) →
    (AllByRecursion (HasSlot rest) own.rows → AllByRecursion (HasSlot rest) next.rows) → AllRows (HasSlot rest) frontends →
    AreServed frontends kept → AreServed (set frontends n next) rest
seated frontends kept rest n own next fewer more there rows counts own_judged kept_before judged each slots known = record {
  counted = λ place.
      let all : rows_total (row_slots place) (set frontends n next) + total (row_slots place) own.rows ≡ rows_total (row_slots place) frontends + total (row_slots place) next.rows =
      total-set (λ own. total (row_slots place) own.rows) frontends n own next there in
      let before = known.counted place in
      let change = rows place in
      let count = counts place in
      omega (arith, all, before, change, count);
  judged = λ number some.
      judged number ∙ known.judged number (kept_before number some) ∙ sym (worth_same (row_judged number) frontends n own next there (own_judged number));
  slots = all_set (λ own. AllByRecursion (HasSlot rest) own.rows) frontends n next slots (each (all-at (λ own. AllByRecursion (HasSlot rest) own.rows) frontends n own slots there));
}

-- a slot is taken: one connection more is open to its server
pub more_served : (frontends : List StoredFrontend) (kept rest : VersionsValue) (n : ℕ) (own next : StoredFrontend) (slot : SlotIx) → slice_get frontends n ≡ Some own →
    ((place : ℕ) → total (row_slots place) next.rows ≡ total (row_slots place) own.rows + slots_at place slot) →
    ((place : ℕ) → open_at place rest.counts ≡ open_at place kept.counts + slots_at place slot) →
    ((number : ℕ) → total (row_judged number) next.rows ≡ total (row_judged number) own.rows) →
    ((number : ℕ) → IsSome (version_at rest.versions number) → IsSome (version_at kept.versions number)) → ((number : ℕ) → judged_of rest number ≡ judged_of kept number) →
    (AllByRecursion (HasSlot rest) own.rows → AllByRecursion (HasSlot rest) next.rows) → AllRows (HasSlot rest) frontends →
    AreServed frontends kept → AreServed (set frontends n next) rest
more_served frontends kept rest n own next slot there rows counts =
    seated frontends kept rest n own next (λ place. 0) (λ place. slots_at place slot) there
    (λ place. let is = rows place in omega (arith, is))
    (λ place. let is = counts place in omega (arith, is))

-- the others count for their servers as before
pub slots-offer : (frontends : List StoredFrontend) (kept rest : VersionsValue) (number line server : ℕ) → rest.versions ≡ map (with_offer number line server) kept.versions →
    ((place : ℕ) → identity_at place rest.counts ≡ identity_at place kept.counts) → AllRows (HasSlot kept) frontends → AllRows (HasSlot rest) frontends
slots-offer frontends kept rest number line server versions identities known =
    all-more (λ own. AllByRecursion (HasSlot kept) own.rows) (λ own. AllByRecursion (HasSlot rest) own.rows) frontends (λ own. all-more (HasSlot kept) (HasSlot rest) own.rows each) known
  where
    counts : (o : Option SlotIx) (s : Option _) → CountsFor kept o s → CountsFor rest o s
    counts None s is = tt
    counts (Some slot) s is = identities slot.place ∙ is

    plans : (row : StoredRow) → plan_at kept.versions row.version ≡ plan_at rest.versions row.version
    plans row = sym (ap (λ vs. plan_at vs row.version) versions ∙ version-offer number line server kept.versions row.version)

    each : (row : StoredRow) → HasSlot kept row → HasSlot rest row
    each row is = subst (λ plan. CountsFor rest (slot_of row.stage) (server_of (phase_of plan row.stage))) (plans row) (counts (slot_of row.stage) (server_of (phase_of (plan_at kept.versions row.version) row.stage)) is)

-- and so does the connection that is offered a server
pub offered_has : (kept rest : VersionsValue) (number : ℕ) (seat : ServerChoice) (slot : SlotIx) → rest.versions ≡ map (with_offer number seat.line seat.server) kept.versions →
    (there : HasServer kept.versions number seat.line seat.server) → there.server.to ≡ seat.to → identity_at slot.place rest.counts ≡ Some (identity_in there.backend there.server) →
    (row : StoredRow) → row.version ≡ number → HasSlot rest (at_stage (stage_offered seat slot) row)
offered_has kept rest number seat slot versions there to identity row judged =
    identity ∙ ap (λ s. Some s) (sym server)
  where
    plan_is : plan_at rest.versions row.version ≡ Some there.kept.plan
    plan_is =
        ap (λ vs. plan_at vs row.version) versions ∙ version-offer number seat.line seat.server kept.versions row.version ∙ ap (plan_at kept.versions) judged
        ∙ ap (option_map (λ version. version.plan)) there.version_is

    server : identity_of (plan_at rest.versions row.version) seat.line seat.server seat.to ≡ identity_in there.backend there.server
    server = rw (plan_is, there.backend_is, there.server_is, to) refl

-- what waited had no slot
pub waited : (stage : Stage) → IsSome (rest_within stage) → (place : ℕ) → option_map_or (slots_at place) (slot_of stage) 0 ≡ 0
waited (Waiting rest) some place = refl
waited (Offered held) some place = absurd (cc)

pub not_waiting : (serial : ℕ) (rows : List StoredRow) (stage : Stage) (held : ServerHold) → IsSome (rest_kept serial rows) → ((row : StoredRow) → find (has_serial serial) rows ≡ Some row → stage ≡ row.stage) → stage ≡ Offered held → ⊥
not_waiting serial rows stage held some before is = by (find (has_serial serial) rows) refl some
  where
    wrong : (s : Stage) → stage ≡ s → IsSome (rest_within s) → ⊥
    wrong (Waiting rest) same some = absurd (let no : Waiting rest ≡ Offered held = sym same ∙ is in cc)
    wrong (Offered held) same some = absurd (cc)

    by : (o : Option StoredRow) → find (has_serial serial) rows ≡ o → IsSome (option_and_then (λ row. rest_within row.stage) o) → ⊥
    by None none some = absurd (cc)
    by (Some row) found some = wrong row.stage (before row found) some

pub slots_offered : (serial : ℕ) (rows next : List StoredRow) (seat : ServerChoice) (slot : SlotIx) → IsSome (rest_kept serial rows) →
    ((row : StoredRow) → find (has_serial serial) rows ≡ Some row → (place : ℕ) × (slice_get rows place ≡ Some row) × (next ≡ slice_set rows place (at_stage (stage_offered seat slot) row))) →
    (place : ℕ) → total (row_slots place) next ≡ total (row_slots place) rows + slots_at place slot
slots_offered serial rows next seat slot some places place = by (find (has_serial serial) rows) refl some
  where
    by : (o : Option StoredRow) → find (has_serial serial) rows ≡ o → IsSome (option_and_then (λ row. rest_within row.stage) o) → total (row_slots place) next ≡ total (row_slots place) rows + slots_at place slot
    by None none some = absurd (cc)
    by (Some row) found some =
        let at = places row found in
        let all : total (row_slots place) (slice_set rows at.0 (at_stage (stage_offered seat slot) row)) + row_slots place row ≡ total (row_slots place) rows + row_slots place (at_stage (stage_offered seat slot) row) =
        total-set (row_slots place) rows at.0 row (at_stage (stage_offered seat slot) row) at.1 in
        let none : row_slots place row ≡ 0 = waited row.stage some place in
        let is : total (row_slots place) next ≡ total (row_slots place) (slice_set rows at.0 (at_stage (stage_offered seat slot) row)) = ap (total (row_slots place)) at.2 in
        omega (arith, all, none, is)

pub each_offered : (P : StoredRow → Type 0) (serial : ℕ) (rows next : List StoredRow) (seat : ServerChoice) (slot : SlotIx) → IsSome (rest_kept serial rows) →
    ((row : StoredRow) → find (has_serial serial) rows ≡ Some row → (place : ℕ) × (slice_get rows place ≡ Some row) × (next ≡ slice_set rows place (at_stage (stage_offered seat slot) row))) →
    ((row : StoredRow) → find (has_serial serial) rows ≡ Some row → P (at_stage (stage_offered seat slot) row)) → AllByRecursion P rows → AllByRecursion P next
each_offered P serial rows next seat slot some places offered all = by (find (has_serial serial) rows) refl some
  where
    by : (o : Option StoredRow) → find (has_serial serial) rows ≡ o → IsSome (option_and_then (λ row. rest_within row.stage) o) → AllByRecursion P next
    by None none some = absurd (cc)
    by (Some row) found some =
        let at = places row found in
        subst (AllByRecursion P) (sym at.2) (all_set P rows at.0 (at_stage (stage_offered seat slot) row) all (offered row found))

-- A move.

-- a connection that moves has the slot of another server
pub slots_moved : (serial : ℕ) (rows : List StoredRow) (seat : ServerChoice) (slot left : SlotIx) (row : StoredRow) → Rise (λ row. row.serial) rows → find (has_serial serial) rows ≡ Some row → Some left ≡ slot_of row.stage →
    (place : ℕ) → total (row_slots place) (with_stored serial (stored_moved seat slot) rows) + slots_at place left ≡ total (row_slots place) rows + slots_at place slot
slots_moved serial rows seat slot left row rise found is place =
    let at = places serial (stored_moved seat slot) rows (with_stored serial (stored_moved seat slot) rows) rise refl row found in
    let all : total (row_slots place) (slice_set rows at.0 (stored_moved seat slot row)) + row_slots place row ≡ total (row_slots place) rows + row_slots place (stored_moved seat slot row) =
    total-set (row_slots place) rows at.0 row (stored_moved seat slot row) at.1 in
    let before : row_slots place row ≡ slots_at place left = ap (λ s. option_map_or (slots_at place) s 0) (sym is) in
    let after : row_slots place (stored_moved seat slot row) ≡ slots_at place slot = by row.stage is in
    let same : total (row_slots place) (with_stored serial (stored_moved seat slot) rows) ≡ total (row_slots place) (slice_set rows at.0 (stored_moved seat slot row)) = ap (total (row_slots place)) at.2 in
    omega (arith, all, before, after, same)
  where
    by : (stage : Stage) → Some left ≡ slot_of stage → option_map_or (slots_at place) (slot_of (stage_moved seat slot stage)) 0 ≡ slots_at place slot
    by (Waiting rest) is = absurd (cc)
    by (Offered held) is = refl

pub each_moved : (P : StoredRow → Type 0) (serial : ℕ) (change : StoredRow → StoredRow) (rows : List StoredRow) (row : StoredRow) → Rise (λ row. row.serial) rows → find (has_serial serial) rows ≡ Some row → P (change row) →
    AllByRecursion P rows → AllByRecursion P (with_stored serial change rows)
each_moved P serial change rows row rise found moved all =
    let at = places serial change rows (with_stored serial change rows) rise refl row found in
    subst (AllByRecursion P) (sym at.2) (all_set P rows at.0 (change row) all moved)

-- the connection that moves counts for its new server
pub moved_has : (kept rest : VersionsValue) (number : ℕ) (seat : ServerChoice) (slot : SlotIx) → rest.versions ≡ map (with_offer number seat.line seat.server) kept.versions →
    (there : HasServer kept.versions number seat.line seat.server) → there.server.to ≡ seat.to → identity_at slot.place rest.counts ≡ Some (identity_in there.backend there.server) →
    (row : StoredRow) → row.version ≡ number → HasSlot rest (stored_moved seat slot row)
moved_has kept rest number seat slot versions there to identity row judged = by row.stage
  where
    by : (stage : Stage) → CountsFor rest (slot_of (stage_moved seat slot stage)) (server_of (phase_of (plan_at rest.versions row.version) (stage_moved seat slot stage)))
    by (Waiting rest) = tt
    by (Offered held) = offered_has kept rest number seat slot versions there to identity row judged

pub moved_served : (frontends : List StoredFrontend) (kept rest : VersionsValue) (n : ℕ) (own next : StoredFrontend) (slot left : SlotIx) → slice_get frontends n ≡ Some own →
    ((place : ℕ) → total (row_slots place) next.rows + slots_at place left ≡ total (row_slots place) own.rows + slots_at place slot) →
    ((place : ℕ) → open_at place rest.counts + slots_at place left ≡ open_at place kept.counts + slots_at place slot) →
    ((number : ℕ) → total (row_judged number) next.rows ≡ total (row_judged number) own.rows) →
    ((number : ℕ) → IsSome (version_at rest.versions number) → IsSome (version_at kept.versions number)) → ((number : ℕ) → judged_of rest number ≡ judged_of kept number) →
    (AllByRecursion (HasSlot rest) own.rows → AllByRecursion (HasSlot rest) next.rows) → AllRows (HasSlot rest) frontends →
    AreServed frontends kept → AreServed (set frontends n next) rest
moved_served frontends kept rest n own next slot left there rows counts =
    seated frontends kept rest n own next (λ place. slots_at place left) (λ place. slots_at place slot) there rows counts

-- the slot that is given back is of an open connection
pub left_counted : (frontends : List StoredFrontend) (kept rest : VersionsValue) (n : ℕ) (own next : StoredFrontend) (slot left : SlotIx) → slice_get frontends n ≡ Some own →
    ((place : ℕ) → total (row_slots place) next.rows + slots_at place left ≡ total (row_slots place) own.rows + slots_at place slot) →
    ((place : ℕ) → open_at place rest.counts ≡ open_at place kept.counts + slots_at place slot) →
    AreServed frontends kept → (place : ℕ) → slots_at place left ≤ open_at place rest.counts
left_counted frontends kept rest n own next slot left there rows counts known place =
    let all : rows_total (row_slots place) (set frontends n next) + total (row_slots place) own.rows ≡ rows_total (row_slots place) frontends + total (row_slots place) next.rows =
    total-set (λ own. total (row_slots place) own.rows) frontends n own next there in
    let before = known.counted place in
    let more = rows place in
    let count = counts place in
    omega (arith, all, before, more, count)

-- An end.

pub all-without : (P : StoredRow → Type 0) (frontends : List StoredFrontend) (n : ℕ) (own next : StoredFrontend) (test : StoredRow → Bool) → slice_get frontends n ≡ Some own → next.rows ≡ filter test own.rows →
    AllRows P frontends → AllRows P (set frontends n next)
all-without P frontends n own next test there rows known =
    all_set (λ own. AllByRecursion P own.rows) frontends n next known (subst (AllByRecursion P) (sym rows) (all-filter P test own.rows (all-at (λ own. AllByRecursion P own.rows) frontends n own known there)))

-- after a connection ended its slot is given back, and its version judges one less
pub left_served : (frontends next : List StoredFrontend) (kept rest : VersionsValue) (row : StoredRow) →
    ((worth : StoredRow → ℕ) → rows_total worth next + worth row ≡ rows_total worth frontends) → ((kept : VersionsValue) → AllRows (HasSlot kept) frontends → AllRows (HasSlot kept) next) →
    rest.versions ≡ kept.versions → ((place : ℕ) → open_at place rest.counts + row_slots place row ≡ open_at place kept.counts) →
    ((place : ℕ) → identity_at place rest.counts ≡ identity_at place kept.counts) →
    ((number : ℕ) → IsSome (version_at kept.versions number) → judged_of rest number + judged_by number row.version ≡ judged_of kept number) → AreServed frontends kept → AreServed next rest
left_served frontends next kept rest row counts each versions backs identities leaves known = record {
  counted = λ place.
      let before = known.counted place in
      let gone = counts (row_slots place) in
      let back = backs place in
      omega (arith, before, gone, back);
  judged = λ number some.
      let there : IsSome (version_at kept.versions number) = subst (λ vs. IsSome (version_at vs number)) versions some in
      let before = known.judged number there in
      let gone = counts (row_judged number) in
      let less = leaves number there in
      omega (arith, before, gone, less);
  slots = all_still kept rest next versions identities (each kept known.slots);
}

-- a connection is one of its version
pub own-judged : (version : ℕ) → judged_by version version ≡ 1
own-judged version = let same : (version == version) ≡ true = grind (arith, nat_tests) in rw same refl

-- a slot that is given back is one of those that are counted
pub slot_counted : (counts : ℕ → ℕ) (o : Option SlotIx) → ((place : ℕ) → option_map_or (slots_at place) o 0 ≤ counts place) → IfSome o (λ slot. 0 < counts slot.place)
slot_counted counts None below = tt
slot_counted counts (Some slot) below = let one : slots_at slot.place slot ≤ counts slot.place = below slot.place in let is = itself slot.place in by (slot.place == slot.place) refl one is
  where
    itself : (n : ℕ) → (n == n) ≡ true
    itself n = grind (arith, nat_tests)

    by : (b : Bool) → (slot.place == slot.place) ≡ b → slots_at slot.place slot ≤ counts slot.place → (slot.place == slot.place) ≡ true → 0 < counts slot.place
    by true is one same = let less : 1 ≤ counts slot.place = rw is at one in omega (arith, less)
    by false is one same = absurd (cc)

-- where no server was out of reach before
abbrev lines_of : List ℕ → ArrayVec ℕ
lines_of lines = record { items = lines }

pub none_failed : (failed : ArrayVec ℕ) → failed.items ≡ [] → failed ≡ record { items = [] }
none_failed failed none = ap lines_of none
