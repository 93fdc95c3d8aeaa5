-- Keys that are tracked stay in the entries of their table.
use Rattle.std.specs.Prelude.{ℕ, suc, Bool, true, false, List, [], length, filter, flat_map, slice_get, Some, refl, ◌≡◌, ◌==◌, ◌||◌, ◌∷◌, ◌++◌}
use Rattle.std.specs.List.{list_any, AllByRecursion}
use Rattle.std.proofs.Common.{ap, ◌∙◌, arith}
use Rattle.std.proofs.lemmas.Bool.{false≢true}
use Rattle.std.proofs.lemmas.Bool.Decides.{nat_tests}
use Rattle.std.proofs.lemmas.List.Folds.{list_any-append}
use Rattle.stick_core.specs.declared.entries.PlainEntry.{PlainEntry}
use Rattle.stick_core.specs.PlainEntries.{has_key, is_idle, is_in}
use Rattle.addr_core.proofs.SameLemmas.{same_addr-is, same_addr-refl}
use Rattle.plan_types.specs.declared.track.TableId.{TableId}
use Rattle.plan_types.specs.declared.track.Track.{Track}
use Rattle.conn_model.specs.declared.reply.Reply.{Reply}
use Rattle.conn_model.specs.declared.plain.FrontendRows.{FrontendRows}
use Rattle.conn_model.specs.declared.plain.Row.{Row}
use Rattle.conn_model.specs.declared.plain.TableState.{TableState}
use Rattle.conn_model.specs.Tables.{is_of, open_tracks, same_id, table_with, table_without, trackers, tracks_in}
use Rattle.conn_model.specs.History.{ended_by}
use Rattle.conn_model.proofs.Lists.{all-more, any-at, or_left, or_right}
use Rattle.conn_model.proofs.Entries.{in-touched, in-tracked, in-tracking}
use Rattle.conn_model.proofs.OneTable.{same_id-is, same_id-refl, table_by, table_with-entries, table_with_tracks, table_without_tracks}

-- what is found by whatever it passes
abbrev pub IsIn : {X : Type 0} → List X → X → Type 0
IsIn {X} xs x = (test : X → Bool) → test x ≡ true → list_any test xs ≡ true

pub all-in : {X : Type 0} (xs : List X) → AllByRecursion (IsIn xs) xs
all-in [] = tt
all-in (x ∷ xs) = (
  (λ test is. or_left (test x) (list_any test xs) is),
  all-more (IsIn xs) (IsIn (x ∷ xs)) xs (λ y found test is. or_right (test x) (list_any test xs) (found test is)) (all-in xs),
)

pub in-left : {X : Type 0} (xs ys : List X) (x : X) → IsIn xs x → IsIn (xs ++ ys) x
in-left xs ys x found test is = list_any-append test xs ys ∙ or_left (list_any test xs) (list_any test ys) (found test is)

pub in-end : {X : Type 0} (xs : List X) (x : X) → IsIn (xs ++ x ∷ []) x
in-end xs x test is = list_any-append test xs (x ∷ []) ∙ or_right (list_any test xs) (test x || false) (or_left (test x) false is)

-- Tracks of open connections.

any-flat : {X Y : Type 0} (test : Y → Bool) (f : X → List Y) (xs : List X) → list_any test (flat_map f xs) ≡ list_any (λ x. list_any test (f x)) xs
any-flat test f [] = refl
any-flat test f (x ∷ xs) = list_any-append test (f x) (flat_map f xs) ∙ ap (λ b. list_any test (f x) || b) (any-flat test f xs)

pub in-open : (frontends : List FrontendRows) (n : ℕ) (own : FrontendRows) (row : Row) (track : Track) → slice_get frontends n ≡ Some own → IsIn own.rows row → IsIn row.tracks track →
    IsIn (open_tracks frontends) track
in-open frontends n own row track there row_in track_in test is =
    any-flat test tracks_in frontends
    ∙ any-at (λ f. list_any test (tracks_in f)) frontends n own there
    (any-flat test (λ r. r.tracks) own.rows ∙ row_in (λ r. list_any test r.tracks) (track_in test is))

-- Entries of keys that are tracked.

above_zero : (n : ℕ) → (suc n == 0) ≡ false
above_zero n = grind (arith, nat_tests)

any-length : {X : Type 0} (test : X → Bool) (xs : List X) → list_any test xs ≡ true → (length (filter test xs) == 0) ≡ false
any-length test [] is = absurd (false≢true is)
any-length {X} test (x ∷ xs) is = by (test x) refl (any-length test xs)
  where
    by : (b : Bool) → test x ≡ b → (list_any test xs ≡ true → (length (filter test xs) == 0) ≡ false) → (length (filter test (x ∷ xs)) == 0) ≡ false
    by true e rest = rw e (above_zero (length (filter test xs)))
    by false e rest = rw e (rest (rw e at is))

-- an entry of a key that somebody tracks is not idle
pub busy : (tracks : List Track) (track : Track) (id : TableId) (entry : PlainEntry) → IsIn tracks track → same_id id track.table ≡ true → has_key track.key entry ≡ true → is_idle (trackers tracks id) entry ≡ false
busy tracks track id entry found on is =
    let ids : id ≡ track.table = same_id-is id track.table on in
    let keys : entry.key ≡ track.key = same_addr-is entry.key track.key is in
    any-length (is_of id entry.key) tracks
    (found (is_of id entry.key) (ap (λ i. is_of i entry.key track) ids ∙ ap (λ k. is_of track.table k track) keys ∙ rw (same_id-refl track.table, same_addr-refl track.key) refl))

table_with-stays : (moment : ℕ) (tracks : List Track) (new' track : Track) (table : TableState) → IsIn tracks track → same_id table.id track.table ≡ true → is_in track.key table.entries ≡ true →
    is_in track.key (table_with moment tracks new' table).entries ≡ true
table_with-stays moment tracks new' track table found on is = by (same_id table.id new'.table) refl
  where
    by : (b : Bool) → same_id table.id new'.table ≡ b → is_in track.key (table_with moment tracks new' table).entries ≡ true
    by true e = rw e (in-tracking moment (trackers tracks table.id) table.table.size track.key new'.key table.entries (λ entry own. busy tracks track table.id entry found on own) is)
    by false e = rw e is

table_with-id : (moment : ℕ) (tracks : List Track) (track : Track) (table : TableState) (id : TableId) → same_id table.id id ≡ true → same_id (table_with moment tracks track table).id id ≡ true
table_with-id moment tracks track table id on = ap (λ t. same_id t.id id) (table_with-entries moment tracks track table) ∙ on

with_tracks-stays : (moment : ℕ) (tracks made : List Track) (track : Track) (table : TableState) → IsIn tracks track → same_id table.id track.table ≡ true → is_in track.key table.entries ≡ true →
    is_in track.key (table_with_tracks moment tracks made table).entries ≡ true
with_tracks-stays moment tracks [] track table found on is = is
with_tracks-stays moment tracks (new' ∷ made) track table found on is =
    with_tracks-stays moment (tracks ++ new' ∷ []) made track (table_with moment tracks new' table) (in-left tracks (new' ∷ []) track found) (table_with-id moment tracks new' table track.table on)
    (table_with-stays moment tracks new' track table found on is)

-- each that is made
with_tracks-new : (moment : ℕ) (tracks made : List Track) (table : TableState) →
    AllByRecursion (λ track. same_id table.id track.table ≡ true → is_in track.key (table_with_tracks moment tracks made table).entries ≡ true) made
with_tracks-new moment tracks [] table = tt
with_tracks-new moment tracks (track ∷ made) table =
    let next : TableState = table_with moment tracks track table in (
      (λ on. with_tracks-stays moment (tracks ++ track ∷ []) made track next (in-end tracks track) (table_with-id moment tracks track table track.table on)
          (rw on (in-tracked moment (trackers tracks table.id) table.table.size track.key table.entries))),
      all-more (λ t. same_id next.id t.table ≡ true → is_in t.key (table_with_tracks moment (tracks ++ track ∷ []) made next).entries ≡ true)
          (λ t. same_id table.id t.table ≡ true → is_in t.key (table_with_tracks moment (tracks ++ track ∷ []) made next).entries ≡ true) made
          (λ t known on. known (table_with-id moment tracks track table t.table on)) (with_tracks-new moment (tracks ++ track ∷ []) made next),
    )

table_without-stays : (moment : ℕ) (ended track : Track) (table : TableState) → is_in track.key table.entries ≡ true → is_in track.key (table_without moment ended table).entries ≡ true
table_without-stays moment ended track table is = by (same_id table.id ended.table) refl
  where
    by : (b : Bool) → same_id table.id ended.table ≡ b → is_in track.key (table_without moment ended table).entries ≡ true
    by true e = rw e (in-touched moment track.key ended.key table.entries is)
    by false e = rw e is

without_tracks-stays : (moment : ℕ) (ended : List Track) (track : Track) (table : TableState) → is_in track.key table.entries ≡ true → is_in track.key (table_without_tracks moment ended table).entries ≡ true
without_tracks-stays moment [] track table is = is
without_tracks-stays moment (e ∷ ended) track table is = without_tracks-stays moment ended track (table_without moment e table) (table_without-stays moment e track table is)

-- what was tracked before a step stays in the entries
pub table_by-stays : (moment : ℕ) (frontends : List FrontendRows) (reply : Reply) (track : Track) (table : TableState) → IsIn (open_tracks frontends) track → same_id table.id track.table ≡ true →
    is_in track.key table.entries ≡ true → is_in track.key (table_by moment frontends reply table).entries ≡ true
table_by-stays moment frontends reply track table found on is =
    without_tracks-stays moment (ended_by frontends reply) track (table_with_tracks moment (open_tracks frontends) reply.tracks.items table)
    (with_tracks-stays moment (open_tracks frontends) reply.tracks.items track table found on is)

-- and what it tracks comes in
pub table_by-new : (moment : ℕ) (frontends : List FrontendRows) (reply : Reply) (table : TableState) →
    AllByRecursion (λ track. same_id table.id track.table ≡ true → is_in track.key (table_by moment frontends reply table).entries ≡ true) reply.tracks.items
table_by-new moment frontends reply table =
    let made : List Track = reply.tracks.items in
    let ended : List Track = ended_by frontends reply in
    let next : TableState = table_with_tracks moment (open_tracks frontends) made table in
    all-more (λ track. same_id table.id track.table ≡ true → is_in track.key next.entries ≡ true)
    (λ track. same_id table.id track.table ≡ true → is_in track.key (table_without_tracks moment ended next).entries ≡ true) made
    (λ track known on. without_tracks-stays moment ended track next (known on)) (with_tracks-new moment (open_tracks frontends) made table)
