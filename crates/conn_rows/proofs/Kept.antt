-- The plain state as versions come and are forgotten.
use Rattle.std.proofs.Common.{◌≡◌, ℕ, zero, suc, ◌<◌, ◌≤◌, ◌+◌, Bool, true, false, nat_lt, List, [], ◌∷◌, ◌++◌, map, Option, Some, None, refl, sym, ap, subst, ◌∙◌, arith}
use Rattle.std.specs.Prelude.{filter, flat_map, slice_get, option_map, IfSome, IsSome, ◌==◌, ◌||◌, if◌then◌else◌}
use Rattle.std.specs.List.{AllByRecursion, list_any}
use Rattle.std.proofs.lemmas.Bool.{false≢true, eqb-true, eq-eqb}
use Rattle.std.proofs.lemmas.Bool.Decides.{nat_tests}
use Rattle.addr_core.specs.declared.addr.Addr.{Addr}
use Rattle.proxy_types.specs.declared.server.ServerIdentity.{ServerIdentity}
use Rattle.slot_core.specs.declared.slots.SlotIx.{SlotIx}
use Rattle.slot_core.specs.Counts.{identity_at, open_at}
use Rattle.plan_types.specs.declared.plan.Plan.{Plan}
use Rattle.plan_types.specs.declared.track.TableId.{TableId}
use Rattle.plan_types.specs.declared.track.Track.{Track}
use Rattle.conn_model.specs.declared.plain.FrontendRows.{FrontendRows}
use Rattle.conn_model.specs.declared.plain.Version.{Version}
use Rattle.conn_model.specs.Answer.{version_at}
use Rattle.conn_model.specs.Counts.{server_of, total}
use Rattle.conn_model.specs.History.{has_version, is_needed, needed_versions, with_version}
use Rattle.conn_model.specs.Tables.{open_tracks, same_id, trackers, tracks_in}
use Rattle.conn_model.proofs.Lists.{all-append, all-at, all-each, all-more, any-at, or_right}
use Rattle.conn_model.proofs.Versions.{version_at-filter, version_at-with}
use Rattle.conn_tables.specs.declared.tables.StoredTable.{StoredTable}
use Rattle.conn_tables.specs.Tables.{cur_in, is_listed_in}
use Rattle.conn_tables.proofs.TableLemmas.{same_id-is}
use Rattle.conn_versions.specs.Judged.{in_use, is_in_use, judged_by, judged_of}
use Rattle.conn_versions.specs.Versions.{VersionsValue}
use Rattle.conn_versions.proofs.Judged.{judged-other, not_kept, pass_alike, still_passes}
use Rattle.conn_rows.specs.declared.row.StoredRow.{StoredRow}
use Rattle.conn_rows.specs.Needed.{AreTracksHeld, AreVersionsKept}
use Rattle.conn_rows.specs.Stored.{StoredFrontend, phase_of, plan_at, plain_frontend, plain_row, slot_of}
use Rattle.conn_rows.specs.Value.{row_judged, row_slots, rows_total, AllRows, AreRows, AreServed, CountsFor, HasSlot}
use Rattle.conn_rows.proofs.Counted.{are_counted}
use Rattle.conn_rows.proofs.Served.{slot_counted}

-- Lists.

-- what holds at each place
all-places : {X : Type 0} (P : X → Type 0) (xs : List X) → ((n : ℕ) (x : X) → slice_get xs n ≡ Some x → P x) → AllByRecursion P xs
all-places P [] each = tt
all-places P (x ∷ xs) each = (each 0 x refl, all-places P xs (λ n y there. each (suc n) y there))

all-flat : {X Y : Type 0} (P : Y → Type 0) (f : X → List Y) (xs : List X) → AllByRecursion (λ x. AllByRecursion P (f x)) xs → AllByRecursion P (flat_map f xs)
all-flat P f [] all = tt
all-flat P f (x ∷ xs) all = all-append P (f x) (flat_map f xs) all.0 (all-flat P f xs all.1)

-- Versions that are needed.

-- some connection of the frontend is of the version of that number
abbrev pub has_stored : ℕ → StoredFrontend → Bool
has_stored number own = list_any (λ row. row.version == number) own.rows

-- the version of that number is in force, where that is the one, or an open connection is of it
abbrev pub is_stored_needed : List StoredFrontend → ℕ → ℕ → Bool
is_stored_needed frontends force number = (number == force) || list_any (has_stored number) frontends

-- the versions that are
abbrev pub stored_needed : List StoredFrontend → ℕ → List Version → List Version
stored_needed frontends force versions = filter (λ version. is_stored_needed frontends force version.number) versions

-- What is needed of plain rows and of stored ones.

any-rows : (versions : List Version) (n : ℕ) (rows : List StoredRow) → list_any (λ row. row.version == n) (map (plain_row versions) rows) ≡ list_any (λ row. row.version == n) rows
any-rows versions n [] = refl
any-rows versions n (row ∷ rows) = ap (λ b. (row.version == n) || b) (any-rows versions n rows)

any-frontends : (versions : List Version) (n : ℕ) (frontends : List StoredFrontend) → list_any (has_version n) (map (plain_frontend versions) frontends) ≡ list_any (has_stored n) frontends
any-frontends versions n [] = refl
any-frontends versions n (own ∷ frontends) =
    ap (λ b. b || list_any (has_version n) (map (plain_frontend versions) frontends)) (any-rows versions n own.rows) ∙ ap (λ b. has_stored n own || b) (any-frontends versions n frontends)

pub needed_alike : (versions : List Version) (frontends : List StoredFrontend) (force : ℕ) (all : List Version) → needed_versions (map (plain_frontend versions) frontends) force all ≡ stored_needed frontends force all
needed_alike versions frontends force all =
    pass_alike (is_needed (map (plain_frontend versions) frontends) force) (is_stored_needed frontends force) all (λ number some. ap (λ b. (number == force) || b) (any-frontends versions number frontends))

-- Rows whose versions have the plans that they had.

-- the version of that number has the same plan
abbrev pub IsSeenAlike : List Version → List Version → ℕ → Type 0
IsSeenAlike versions others number = plan_at others number ≡ plan_at versions number

abbrev pub AreSeenAlike : List Version → List Version → List StoredFrontend → Type 0
AreSeenAlike versions others frontends = AllRows (λ row. IsSeenAlike versions others row.version) frontends

rows-seen : (versions others : List Version) (rows : List StoredRow) → AllByRecursion (λ row. IsSeenAlike versions others row.version) rows → map (plain_row others) rows ≡ map (plain_row versions) rows
rows-seen versions others [] same = refl
rows-seen versions others (row ∷ rows) same =
    let here : plain_row others row ≡ plain_row versions row = ap (λ plan. record (plain_row versions row) { phase = phase_of plan row.stage }) same.0 in
    let more = rows-seen versions others rows same.1 in
    cc (here, more)

pub frontends_seen : (versions others : List Version) (frontends : List StoredFrontend) → AreSeenAlike versions others frontends → map (plain_frontend others) frontends ≡ map (plain_frontend versions) frontends
frontends_seen versions others [] same = refl
frontends_seen versions others (own ∷ frontends) same =
    let here : plain_frontend others own ≡ plain_frontend versions own = ap (λ rows. record { name = own.name; serial = own.serial; rows = rows }) (rows-seen versions others own.rows same.0) in
    let more = frontends_seen versions others frontends same.1 in
    cc (here, more)

total-at : {X : Type 0} (worth : X → ℕ) (xs : List X) (n : ℕ) (x : X) → slice_get xs n ≡ Some x → worth x ≤ total worth xs
total-at worth [] n x there = absurd (cc)
total-at worth (y ∷ xs) zero x there = let same : y ≡ x = cc in let is : worth y ≡ worth x = ap worth same in omega (arith, is)
total-at worth (y ∷ xs) (suc n) x there = let more : worth x ≤ total worth xs = total-at worth xs n x there in omega (arith, more)

-- their servers are counted as they were
pub served_seen : (frontends : List StoredFrontend) (kept rest : VersionsValue) → AreSeenAlike kept.versions rest.versions frontends → ((place : ℕ) → open_at place rest.counts ≡ open_at place kept.counts) →
    ((number : ℕ) → IsSome (version_at rest.versions number) → judged_of rest number ≡ rows_total (row_judged number) frontends) →
    ((place : ℕ) → 0 < open_at place kept.counts → identity_at place rest.counts ≡ identity_at place kept.counts) → AreServed frontends kept → AreServed frontends rest
served_seen frontends kept rest same opens judged identities known = record {
  counted = λ place. opens place ∙ known.counted place;
  judged = judged;
  slots = all-places (λ own. AllByRecursion (HasSlot rest) own.rows) frontends (λ n own there. all-places (HasSlot rest) own.rows (still n own there));
}
  where
    counts : (o : Option SlotIx) (server : Option ServerIdentity) → IfSome o (λ slot. 0 < open_at slot.place kept.counts) → CountsFor kept o server → CountsFor rest o server
    counts None server some is = tt
    counts (Some slot) server some is = identities slot.place some ∙ is

    -- a row's own slot is one of those that are open
    open_there : (n : ℕ) (own : StoredFrontend) → slice_get frontends n ≡ Some own → (m : ℕ) (row : StoredRow) → slice_get own.rows m ≡ Some row → (place : ℕ) → row_slots place row ≤ open_at place kept.counts
    open_there n own there m row at place =
        let one = total-at (row_slots place) own.rows m row at in
        let all : total (row_slots place) own.rows ≤ rows_total (row_slots place) frontends = total-at (λ own. total (row_slots place) own.rows) frontends n own there in
        let is = known.counted place in
        omega (arith, one, all, is)

    still : (n : ℕ) (own : StoredFrontend) → slice_get frontends n ≡ Some own → (m : ℕ) (row : StoredRow) → slice_get own.rows m ≡ Some row → HasSlot rest row
    still n own there m row at =
        let seen : IsSeenAlike kept.versions rest.versions row.version =
        all-at (λ row. IsSeenAlike kept.versions rest.versions row.version) own.rows m row (all-at (λ own. AllByRecursion (λ row. IsSeenAlike kept.versions rest.versions row.version) own.rows) frontends n own same there) at in
        let has : HasSlot kept row = all-at (HasSlot kept) own.rows m row (all-at (λ own. AllByRecursion (HasSlot kept) own.rows) frontends n own known.slots there) at in
        subst (λ plan. CountsFor rest (slot_of row.stage) (server_of (phase_of plan row.stage))) (sym seen)
        (counts (slot_of row.stage) (server_of (phase_of (plan_at kept.versions row.version) row.stage)) (slot_counted (λ place. open_at place kept.counts) (slot_of row.stage) (open_there n own there m row at)) has)

-- the same versions
pub seen_same : (versions others : List Version) (frontends : List StoredFrontend) → others ≡ versions → AreSeenAlike versions others frontends
seen_same versions others frontends same =
    all-each (λ own. AllByRecursion (λ row. IsSeenAlike versions others row.version) own.rows) frontends
    (λ own. all-each (λ row. IsSeenAlike versions others row.version) own.rows (λ row. ap (λ vs. plan_at vs row.version) same))

-- one version more, where the version of each row is kept

rows-stored : (P : ℕ → Type 0) (versions : List Version) (rows : List StoredRow) → AllByRecursion (λ row. P row.version) (map (plain_row versions) rows) → AllByRecursion (λ row. P row.version) rows
rows-stored P versions [] all = tt
rows-stored P versions (row ∷ rows) all = (all.0, rows-stored P versions rows all.1)

frontends-stored : (P : ℕ → Type 0) (versions : List Version) (frontends : List StoredFrontend) →
    AllByRecursion (λ own. AllByRecursion (λ row. P row.version) own.rows) (map (plain_frontend versions) frontends) → AllRows (λ row. P row.version) frontends
frontends-stored P versions [] all = tt
frontends-stored P versions (own ∷ frontends) all = (rows-stored P versions own.rows all.0, frontends-stored P versions frontends all.1)

pub seen_more : (versions others : List Version) (number : ℕ) (plan : Plan) (frontends : List StoredFrontend) → AreVersionsKept (map (plain_frontend versions) frontends) versions →
    others ≡ with_version versions (Some (number, plan)) → AreSeenAlike versions others frontends
seen_more versions others number plan frontends kept more =
    all-more (λ own. AllByRecursion (λ row. IsSome (version_at versions row.version)) own.rows) (λ own. AllByRecursion (λ row. IsSeenAlike versions others row.version) own.rows) frontends
    (λ own. all-more (λ row. IsSome (version_at versions row.version)) (λ row. IsSeenAlike versions others row.version) own.rows each) (frontends-stored (λ n. IsSome (version_at versions n)) versions frontends kept)
  where
    each : (row : StoredRow) → IsSome (version_at versions row.version) → IsSeenAlike versions others row.version
    each row there = ap (λ vs. plan_at vs row.version) more ∙ ap (option_map (λ version. version.plan)) (version_at-with versions (Some (number, plan)) row.version there)

-- versions less, where the version of each row is needed
pub seen_needed : (versions others : List Version) (force : ℕ) (frontends : List StoredFrontend) → others ≡ stored_needed frontends force versions → AreSeenAlike versions others frontends
seen_needed versions others force frontends less =
    all-places (λ own. AllByRecursion (λ row. IsSeenAlike versions others row.version) own.rows) frontends
    (λ n own there. all-places (λ row. IsSeenAlike versions others row.version) own.rows (λ m row at. each row.version (needed n own there m row at)))
  where
    needed : (n : ℕ) (own : StoredFrontend) → slice_get frontends n ≡ Some own → (m : ℕ) (row : StoredRow) → slice_get own.rows m ≡ Some row → is_stored_needed frontends force row.version ≡ true
    needed n own there m row at =
        or_right (row.version == force) (list_any (has_stored row.version) frontends)
        (any-at (has_stored row.version) frontends n own there (any-at (λ other. other.version == row.version) own.rows m row at (eq-eqb row.version row.version refl)))

    each : (number : ℕ) → is_stored_needed frontends force number ≡ true → IsSeenAlike versions others number
    each number passes = ap (λ vs. plan_at vs number) less ∙ ap (option_map (λ version. version.plan)) (version_at-filter (is_stored_needed frontends force) versions number passes)

-- Versions that judge an open connection.

lt-sum : (m n : ℕ) → (nat_lt 0 m || nat_lt 0 n) ≡ nat_lt 0 (m + n)
lt-sum m n = grind (arith, nat_tests)

one-any : (number version : ℕ) → (version == number) ≡ nat_lt 0 (judged_by number version)
one-any number version = by (version == number)
  where
    by : (b : Bool) → b ≡ nat_lt 0 (if b then 1 else 0)
    by true = refl
    by false = refl

rows-any : (number : ℕ) (rows : List StoredRow) → list_any (λ row. row.version == number) rows ≡ nat_lt 0 (total (row_judged number) rows)
rows-any number [] = refl
rows-any number (row ∷ rows) =
    ap (λ b. b || list_any (λ row. row.version == number) rows) (one-any number row.version) ∙ ap (λ b. nat_lt 0 (row_judged number row) || b) (rows-any number rows)
    ∙ lt-sum (row_judged number row) (total (row_judged number) rows)

frontends-any : (number : ℕ) (frontends : List StoredFrontend) → list_any (has_stored number) frontends ≡ nat_lt 0 (rows_total (row_judged number) frontends)
frontends-any number [] = refl
frontends-any number (own ∷ frontends) =
    ap (λ b. b || list_any (has_stored number) frontends) (rows-any number own.rows) ∙ ap (λ b. nat_lt 0 (total (row_judged number) own.rows) || b) (frontends-any number frontends)
    ∙ lt-sum (total (row_judged number) own.rows) (rows_total (row_judged number) frontends)

-- they are those that open connections are of
pub used_needed : (frontends : List StoredFrontend) (kept : VersionsValue) (force : ℕ) (versions : List Version) → AreServed frontends kept → versions ≡ in_use (judged_of kept) force kept.versions →
    versions ≡ stored_needed frontends force kept.versions
used_needed frontends kept force versions known are =
    are
    ∙ pass_alike (is_in_use (judged_of kept) force) (is_stored_needed frontends force) kept.versions
    (λ number some. ap (λ b. (number == force) || b) (ap (nat_lt 0) (known.judged number some) ∙ sym (frontends-any number frontends)))

-- those that are left judge the connections that they did
pub left_judged : (frontends : List StoredFrontend) (kept rest : VersionsValue) (force : ℕ) → AreServed frontends kept → rest.versions ≡ in_use (judged_of kept) force kept.versions →
    ((number : ℕ) → IsSome (version_at rest.versions number) → judged_of rest number ≡ judged_of kept number) →
    (number : ℕ) → IsSome (version_at rest.versions number) → judged_of rest number ≡ rows_total (row_judged number) frontends
left_judged frontends kept rest force known are same number some =
    same number some ∙ known.judged number (still_passes (is_in_use (judged_of kept) force) kept.versions number (subst (λ vs. IsSome (version_at vs number)) are some)).1

-- A version that comes judges nobody.

new_number : (versions : List Version) (next : Version) (number : ℕ) → version_at versions number ≡ None → IsSome (version_at (versions ++ next ∷ []) number) → next.number ≡ number
new_number [] next number none some = by (next.number == number) refl
  where
    by : (b : Bool) → (next.number == number) ≡ b → next.number ≡ number
    by true e = eqb-true next.number number e
    by false e = absurd (false≢true (rw e at some))
new_number (v ∷ versions) next number none some = by (v.number == number) refl (new_number versions next number)
  where
    by : (b : Bool) → (v.number == number) ≡ b → (version_at versions number ≡ None → IsSome (version_at (versions ++ next ∷ []) number) → next.number ≡ number) → next.number ≡ number
    by true e more = absurd (let wrong : Some v ≡ None = rw e at none in cc)
    by false e more = more (rw e at none) (rw e at some)

-- no connection is of a version that is not kept
nobody-rows : (versions : List Version) (number : ℕ) (rows : List StoredRow) → version_at versions number ≡ None → AllByRecursion (λ row. IsSome (version_at versions row.version)) rows → total (row_judged number) rows ≡ 0
nobody-rows versions number [] none kept = refl
nobody-rows versions number (row ∷ rows) none kept =
    let here = judged-other number row.version (λ same. not_kept versions number row.version none kept.0 (sym same)) in
    let more = nobody-rows versions number rows none kept.1 in
    omega (arith, here, more)

nobody : (versions : List Version) (number : ℕ) (frontends : List StoredFrontend) → version_at versions number ≡ None → AllRows (λ row. IsSome (version_at versions row.version)) frontends → rows_total (row_judged number) frontends ≡ 0
nobody versions number [] none kept = refl
nobody versions number (own ∷ frontends) none kept =
    let here = nobody-rows versions number own.rows none kept.0 in
    let more = nobody versions number frontends none kept.1 in
    omega (arith, here, more)

pub brought_judged : (frontends : List StoredFrontend) (kept rest : VersionsValue) (number : ℕ) (plan : Plan) → AreServed frontends kept → AreVersionsKept (map (plain_frontend kept.versions) frontends) kept.versions →
    rest.versions ≡ with_version kept.versions (Some (number, plan)) → ((other : ℕ) → IsSome (version_at kept.versions other) → judged_of rest other ≡ judged_of kept other) → judged_of rest number ≡ 0 →
    (other : ℕ) → IsSome (version_at rest.versions other) → judged_of rest other ≡ rows_total (row_judged other) frontends
brought_judged frontends kept rest number plan known held more same none other some = by (version_at kept.versions other) refl
  where
    by : (o : Option Version) → version_at kept.versions other ≡ o → judged_of rest other ≡ rows_total (row_judged other) frontends
    by (Some version) e = let there : IsSome (version_at kept.versions other) = rw e refl in same other there ∙ known.judged other there
    by None e =
        let it : number ≡ other = new_number kept.versions _ other e (subst (λ vs. IsSome (version_at vs other)) more some) in
        ap (judged_of rest) (sym it) ∙ none ∙ sym (nobody kept.versions other frontends e (frontends-stored (λ n. IsSome (version_at kept.versions n)) kept.versions frontends held))

-- Tables that no version lists.

none-track : (versions : List Version) (id : TableId) (key : Addr) (tracks : List Track) → is_listed_in versions id ≡ false → AllByRecursion (λ track. is_listed_in versions track.table ≡ true) tracks → trackers tracks id key ≡ 0
none-track versions id key [] unlisted held = refl
none-track versions id key (track ∷ tracks) unlisted held = by (same_id track.table id) refl (none-track versions id key tracks unlisted held.1)
  where
    by : (b : Bool) → same_id track.table id ≡ b → trackers tracks id key ≡ 0 → trackers (track ∷ tracks) id key ≡ 0
    by true same more = absurd (false≢true (sym unlisted ∙ ap (is_listed_in versions) (sym (same_id-is track.table id same)) ∙ held.0))
    by false other more = rw other more

-- nobody tracks a key of them
pub idle_tables : (versions needed : List Version) (frontends : List StoredFrontend) (tables : List StoredTable) → AreRows frontends tables → AreTracksHeld (map (plain_frontend versions) frontends) needed →
    (id : TableId) → is_listed_in needed id ≡ false → (key : Addr) → cur_in id key tables ≡ 0
idle_tables versions needed frontends tables known held id unlisted key =
    are_counted versions frontends tables known id key ∙ none-track needed id key (open_tracks plain) unlisted tracks
  where
    plain : List FrontendRows
    plain = map (plain_frontend versions) frontends

    tracks : AllByRecursion (λ track. is_listed_in needed track.table ≡ true) (open_tracks plain)
    tracks =
        all-flat (λ track. is_listed_in needed track.table ≡ true) tracks_in plain
        (all-more (λ own. AllByRecursion (λ row. AllByRecursion (λ track. is_listed_in needed track.table ≡ true) row.tracks) own.rows) (λ own. AllByRecursion (λ track. is_listed_in needed track.table ≡ true) (tracks_in own)) plain
        (λ own. all-flat (λ track. is_listed_in needed track.table ≡ true) (λ row. row.tracks) own.rows) held)
