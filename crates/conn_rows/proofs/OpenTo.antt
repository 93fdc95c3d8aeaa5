-- How many connections to a server are open, by its slot and by the rows.
use Rattle.std.proofs.Common.{◌≡◌, ℕ, zero, suc, Bool, true, false, List, [], ◌∷◌, length, map, Option, Some, None, refl, sym, ap, ◌∙◌, arith}
use Rattle.std.proofs.Math.Path.{fun_ext}
use Rattle.std.specs.Prelude.{filter, find, slice_get, option_map, ◌==◌, if◌then◌else◌, ◌||◌}
use Rattle.std.specs.List.{AllByRecursion}
use Rattle.std.specs.Option.{option_map_or}
use Rattle.std.proofs.lemmas.Bool.Decides.{nat_tests}
use Rattle.addr_core.specs.declared.addr.Addr.{Addr}
use Rattle.proxy_types.specs.declared.balance.Place.{Place}
use Rattle.proxy_types.specs.declared.server.ServerIdentity.{ServerIdentity}
use Rattle.proxy_types.specs.ServerIdentity.{same_server}
use Rattle.slot_core.specs.declared.slots.Count.{Count}
use Rattle.slot_core.specs.declared.slots.SlotIx.{SlotIx}
use Rattle.slot_core.specs.Counts.{identity_at, is_of, open_at, slots_at, IdentitiesDiffer}
use Rattle.slot_core.proofs.CountLemmas.{same_server-refl}
use Rattle.plan_types.specs.declared.plan.Backend.{Backend}
use Rattle.plan_types.specs.declared.plan.Plan.{Plan}
use Rattle.conn_model.specs.declared.plain.Phase.{Phase}
use Rattle.conn_model.specs.Counts.{served_by, server_of, total}
use Rattle.conn_model.specs.Servers.{pick_in, is_down}
use Rattle.conn_model.proofs.Lists.{all-at}
use Rattle.conn_versions.specs.Versions.{VersionsValue, open_to}
use Rattle.conn_versions.proofs.Identities.{find_identity, server_is}
use Rattle.conn_rows.specs.declared.row.Stage.{Stage}
use Rattle.conn_rows.specs.declared.row.Stage.TheVariants.{Waiting, Offered}
use Rattle.conn_rows.specs.declared.row.StoredRow.{StoredRow}
use Rattle.conn_rows.specs.Stored.{StoredFrontend, assignment_in, phase_of, phase_with, plan_at, plain_frontend, plain_row, slot_of}
use Rattle.conn_rows.specs.Value.{AllRows, AreServed, CountsFor, HasSlot, row_slots, rows_total}
use Rattle.plan_types.specs.declared.plan.Server.{Server}
use Rattle.conn_versions.specs.Barred.{is_barred}

-- a count is of no server from which all differ
beside : (counts : List Count) (identity : ServerIdentity) (n : ℕ) → AllByRecursion (λ other. same_server identity other.identity ≡ false) counts → identity_at n counts ≡ Some identity → ⊥
beside counts identity n apart is = by (slice_get counts n) refl is
  where
    by : (o : Option Count) → slice_get counts n ≡ o → option_map (λ count. count.identity) o ≡ Some identity → ⊥
    by None none is = absurd (let wrong : None ≡ Some identity = is in cc)
    by (Some count) there is =
        let differs : same_server identity count.identity ≡ false = all-at (λ other. same_server identity other.identity ≡ false) counts n count apart there in
        let same : count.identity ≡ identity = cc in
        let itself : same_server identity identity ≡ true = same_server-refl identity in
        let wrong : false ≡ true = sym (ap (same_server identity) (sym same) ∙ differs) ∙ itself in
        cc

-- two places of one server are one
unique : (counts : List Count) (identity : ServerIdentity) (m n : ℕ) → IdentitiesDiffer counts → identity_at m counts ≡ Some identity → identity_at n counts ≡ Some identity → m ≡ n
unique [] identity m n apart first second = absurd (let wrong : None ≡ Some identity = first in cc)
unique (count ∷ counts) identity zero zero apart first second = refl
unique (count ∷ counts) identity zero (suc n) apart first second = absurd (beside counts count.identity n apart.0 (second ∙ sym first))
unique (count ∷ counts) identity (suc m) zero apart first second = absurd (beside counts count.identity m apart.0 (first ∙ sym second))
unique (count ∷ counts) identity (suc m) (suc n) apart first second = ap suc (unique counts identity m n apart.1 first second)

-- one for a connection that was offered a server of those
abbrev pub served : (ServerIdentity → Bool) → Option ServerIdentity → ℕ
served test server = if option_map_or test server false then 1 else 0

abbrev pub is_served_in : (ServerIdentity → Bool) → Phase → Bool
is_served_in test phase = option_map_or test (server_of phase) false

-- the count at the place of a server is of the connections that were offered it
at_place : (kept : VersionsValue) (identity : ServerIdentity) (place : ℕ) → IdentitiesDiffer kept.counts → identity_at place kept.counts ≡ Some identity → (slot : SlotIx) (server : ServerIdentity) →
    identity_at slot.place kept.counts ≡ Some server → slots_at place slot ≡ served (same_server identity) (Some server)
at_place kept identity place apart there slot server is = by (slot.place == place) refl (same_server identity server) refl
  where
    by : (b : Bool) → (slot.place == place) ≡ b → (s : Bool) → same_server identity server ≡ s → ◌≡◌ {A = ℕ} (if b then 1 else 0) (if s then 1 else 0)
    by true here true same = refl
    by true here false differs =
        let at : slot.place ≡ place = grind (arith, nat_tests, here) in
        let one : Some server ≡ Some identity = sym is ∙ ap (λ n. identity_at n kept.counts) at ∙ there in
        let it : server ≡ identity = cc in
        absurd (let wrong : false ≡ true = sym differs ∙ ap (same_server identity) it ∙ same_server-refl identity in cc)
    by false apart_from true same =
        let it : identity ≡ server = server_is identity server same in
        let at : slot.place ≡ place = unique kept.counts identity slot.place place apart (is ∙ ap (λ s. Some s) (sym it)) there in
        absurd (let wrong : (slot.place == place) ≡ true = grind (arith, nat_tests, at) in let no : false ≡ true = sym apart_from ∙ wrong in cc)
    by false apart_from false differs = refl

-- a server without a count was offered to nobody
nowhere : (kept : VersionsValue) (identity : ServerIdentity) → IdentitiesDiffer kept.counts → find (is_of identity) kept.counts ≡ None → (slot : SlotIx) (server : ServerIdentity) →
    identity_at slot.place kept.counts ≡ Some server → 0 ≡ served (same_server identity) (Some server)
nowhere kept identity apart none slot server is = by (same_server identity server) refl
  where
    by : (s : Bool) → same_server identity server ≡ s → ◌≡◌ {A = ℕ} 0 (if s then 1 else 0)
    by false differs = refl
    by true same =
        let it : identity ≡ server = server_is identity server same in
        let there : find (is_of identity) kept.counts ≡ slice_get kept.counts slot.place = find_identity identity kept.counts slot.place apart (is ∙ ap (λ s. Some s) (sym it)) in
        absurd (let gone : slice_get kept.counts slot.place ≡ None = sym there ∙ none in let wrong : None ≡ Some server = sym (ap (option_map (λ count. count.identity)) gone) ∙ is in cc)

-- of a row
pub row_served : (kept : VersionsValue) (test : ServerIdentity → Bool) (worth : Option SlotIx → ℕ) → worth None ≡ 0 →
    ((slot : SlotIx) (server : ServerIdentity) → identity_at slot.place kept.counts ≡ Some server → worth (Some slot) ≡ served test (Some server)) → (row : StoredRow) → HasSlot kept row →
    worth (slot_of row.stage) ≡ served test (server_of (phase_of (plan_at kept.versions row.version) row.stage))
row_served kept test worth none each row = by row.stage
  where
    plan : Option Plan
    plan = plan_at kept.versions row.version

    by : (stage : Stage) → CountsFor kept (slot_of stage) (server_of (phase_of plan stage)) → worth (slot_of stage) ≡ served test (server_of (phase_of plan stage))
    by (Waiting rest) is = none
    by (Offered held) is = taken held.is_up is
      where
        taken : (b : Bool) → identity_at held.slot.place kept.counts ≡ server_of (phase_with b (assignment_in plan held.seat held.failed.items)) → worth (Some held.slot) ≡ served test (server_of (phase_with b (assignment_in plan held.seat held.failed.items)))
        taken true is = each held.slot (assignment_in plan held.seat held.failed.items).server is
        taken false is = each held.slot (assignment_in plan held.seat held.failed.items).server is

-- of the rows of a frontend
rows_served : (kept : VersionsValue) (test : ServerIdentity → Bool) (worth : StoredRow → ℕ) →
    ((row : StoredRow) → HasSlot kept row → worth row ≡ served test (server_of (phase_of (plan_at kept.versions row.version) row.stage))) → (rows : List StoredRow) → AllByRecursion (HasSlot kept) rows →
    total worth rows ≡ length (filter (λ row. is_served_in test row.phase) (map (plain_row kept.versions) rows))
rows_served kept test worth each [] known = refl
rows_served kept test worth each (row ∷ rows) known =
    let here = each row known.0 in
    let more = rows_served kept test worth each rows known.1 in
    by (is_served_in test (phase_of (plan_at kept.versions row.version) row.stage)) refl here more
  where
    by : (b : Bool) → is_served_in test (phase_of (plan_at kept.versions row.version) row.stage) ≡ b → worth row ≡ served test (server_of (phase_of (plan_at kept.versions row.version) row.stage)) →
        total worth rows ≡ length (filter (λ row. is_served_in test row.phase) (map (plain_row kept.versions) rows)) →
        total worth (row ∷ rows) ≡ length (filter (λ row. is_served_in test row.phase) (map (plain_row kept.versions) (row ∷ rows)))
    by true is here more = let one : worth row ≡ 1 = here ∙ rw is refl in rw is (omega (arith, one, more))
    by false is here more = let none : worth row ≡ 0 = here ∙ rw is refl in rw is (omega (arith, none, more))

pub all_served : (kept : VersionsValue) (test : ServerIdentity → Bool) (worth : StoredRow → ℕ) →
    ((row : StoredRow) → HasSlot kept row → worth row ≡ served test (server_of (phase_of (plan_at kept.versions row.version) row.stage))) → (frontends : List StoredFrontend) → AllRows (HasSlot kept) frontends →
    rows_total worth frontends ≡ total (λ own. length (filter (λ row. is_served_in test row.phase) own.rows)) (map (plain_frontend kept.versions) frontends)
all_served kept test worth each [] known = refl
all_served kept test worth each (own ∷ frontends) known =
    let here = rows_served kept test worth each own.rows known.0 in
    let more = all_served kept test worth each frontends known.1 in
    omega (arith, here, more)

-- nobody, where nothing is counted
nobody : (frontends : List StoredFrontend) → rows_total (λ row. 0) frontends ≡ 0
nobody [] = refl
nobody (own ∷ frontends) = let here = none own.rows in let more = nobody frontends in omega (arith, here, more)
  where
    none : (rows : List StoredRow) → total {X = StoredRow} (λ row. 0) rows ≡ 0
    none [] = refl
    none (row ∷ rows) = let more = none rows in omega (arith, more)

-- the place of a count that is found
found_place : (identity : ServerIdentity) (counts : List Count) (count : Count) → find (is_of identity) counts ≡ Some count → (place : ℕ) × (slice_get counts place ≡ Some count) × (same_server count.identity identity ≡ true)
found_place identity [] count is = absurd (let wrong : None ≡ Some count = is in cc)
found_place identity (c ∷ counts) count is = by (same_server c.identity identity) refl is (found_place identity counts count)
  where
    by : (b : Bool) → same_server c.identity identity ≡ b → (if b then Some c else find (is_of identity) counts) ≡ Some count →
        (find (is_of identity) counts ≡ Some count → (place : ℕ) × (slice_get counts place ≡ Some count) × (same_server count.identity identity ≡ true)) →
        (place : ℕ) × (slice_get (c ∷ counts) place ≡ Some count) × (same_server count.identity identity ≡ true)
    by true passes is later = let same : c ≡ count = cc in (0, ap (λ c. Some c) same, ap (λ (c : Count). same_server c.identity identity) (sym same) ∙ passes)
    by false fails is later = let rest = later is in (suc rest.0, rest.1, rest.2)

-- as many connections to a server are open as its slot counts
pub open_is_served : (frontends : List StoredFrontend) (kept : VersionsValue) → IdentitiesDiffer kept.counts → AreServed frontends kept → (identity : ServerIdentity) →
    open_to kept.counts identity ≡ served_by (map (plain_frontend kept.versions) frontends) identity
open_is_served frontends kept apart known identity = by (find (is_of identity) kept.counts) refl
  where
    by : (o : Option Count) → find (is_of identity) kept.counts ≡ o → option_map_or (λ count. count.connections) o 0 ≡ served_by (map (plain_frontend kept.versions) frontends) identity
    by None none =
        sym (nobody frontends)
        ∙ all_served kept (same_server identity) (λ row. 0) (row_served kept (same_server identity) (λ o. 0) refl (nowhere kept identity apart none)) frontends known.slots
    by (Some count) is =
        let at = found_place identity kept.counts count is in
        let its : identity_at at.0 kept.counts ≡ Some identity = ap (option_map (λ c. c.identity)) at.1 ∙ ap (λ i. Some i) (server_is count.identity identity at.2) in
        let open_here : open_at at.0 kept.counts ≡ count.connections = ap (λ o. option_map_or (λ c. c.connections) o 0) at.1 in
        sym open_here ∙ known.counted at.0
        ∙ all_served kept (same_server identity) (row_slots at.0) (row_served kept (same_server identity) (λ o. option_map_or (slots_at at.0) o 0) refl (at_place kept identity at.0 apart its)) frontends known.slots

-- so what is picked by slots is what is picked by the rows
pub picks_served : (frontends : List StoredFrontend) (kept : VersionsValue) → IdentitiesDiffer kept.counts → AreServed frontends kept → (barred : Backend → Server → Bool) (backend : Backend) (last : Option Place) (source : Addr) →
    pick_in (open_to kept.counts) barred backend last source ≡ pick_in (served_by (map (plain_frontend kept.versions) frontends)) barred backend last source
picks_served frontends kept apart known barred backend last source = ap (λ served. pick_in served barred backend last source) (fun_ext (open_is_served frontends kept apart known))

no_more : (b : Bool) → (b || false) ≡ b
no_more true = refl
no_more false = refl

-- where servers of no lines are barred, those that are down are
pub none_barred : (down : List ServerIdentity) → is_barred down [] ≡ is_down down
none_barred down = fun_ext (λ backend. fun_ext (λ server. no_more (is_down down backend server)))
