-- The state at a moment: entries that are gone by then are not there.
use Rattle.std.specs.Prelude.{ℕ, Bool, true, false, not, List, [], suc, map, max, slice_get, Option, Some, None, IsSome, refl, ◌≤◌, ◌≡◌, ◌∷◌}
use Rattle.std.specs.List.{AllByRecursion}
use Rattle.std.proofs.Common.{sym, ap, ◌∙◌, subst, arith}
use Rattle.std.proofs.lemmas.Bool.{false≢true}
use Rattle.std.proofs.lemmas.Bool.Decides.{nat_tests}
use Rattle.addr_core.specs.declared.addr.Addr.{Addr}
use Rattle.stick_core.specs.declared.entries.PlainEntry.{PlainEntry}
use Rattle.stick_core.specs.Entries.{is_over}
use Rattle.stick_core.specs.PlainEntries.{alive, is_absent, is_idle}
use Rattle.stick_core.proofs.LivingLemmas.{filter-twice}
use Rattle.plan_types.specs.declared.track.Track.{Track}
use Rattle.conn_model.specs.declared.plain.Row.{Row}
use Rattle.conn_model.specs.declared.plain.TableState.{TableState}
use Rattle.conn_model.specs.declared.plain.Plain.{Plain}
use Rattle.conn_model.specs.Answer.{at_moment}
use Rattle.conn_model.specs.Tables.{is_listed, is_listed_by, open_tracks, same_id, table_alive, table_at, tables_alive, trackers, IsTableWell, IsTrackListed}
use Rattle.conn_model.specs.History.{newest_number, tables_of, AreTablesWell, AreTracksListed, IsWell}
use Rattle.conn_model.proofs.Lists.{all-at, all-both, all-map, all-more}
use Rattle.conn_model.proofs.Entries.{alive-differ, alive-length, in-alive}
use Rattle.conn_model.proofs.OneTable.{differ-map, same_id-refl, some-map, table_at-map, table_found, EntriesChange}
use Rattle.conn_model.proofs.Listed.{all-in, busy, in-open, IsIn}

pub table_alive-entries : (moment : ℕ) (tracks : List Track) → EntriesChange (table_alive moment tracks)
table_alive-entries moment tracks table = refl

pub table_alive-well : (moment : ℕ) (tracks : List Track) (table : TableState) → IsTableWell table → IsTableWell (table_alive moment tracks table)
table_alive-well moment tracks table well =
    let fewer = alive-length (trackers tracks table.id) table.table.expire moment table.entries in
    record { keys = alive-differ (trackers tracks table.id) table.table.expire moment table.entries well.keys; fits = omega (arith, fewer, well.fits) }

-- what is tracked stays listed
pub alive_listed : (moment : ℕ) (tracks : List Track) (tables : List TableState) (track : Track) → IsIn tracks track → is_listed tables track ≡ true → is_listed (tables_alive moment tracks tables) track ≡ true
alive_listed moment tracks tables track found is = by (table_at tables track.table) refl
  where
    by : (o : Option TableState) → table_at tables track.table ≡ o → is_listed (tables_alive moment tracks tables) track ≡ true
    by None e = absurd (false≢true (rw e at is))
    by (Some table) e =
        let on : same_id table.id track.table ≡ true = ap (λ i. same_id i track.table) (table_found tables track.table table e) ∙ same_id-refl track.table in
        rw (table_at-map (table_alive moment tracks) (table_alive-entries moment tracks) tables track.table, e)
        (in-alive (trackers tracks table.id) table.table.expire moment track.key table.entries (λ entry own. busy tracks track table.id entry found on own) (rw e at is))

all-places : {X : Type 0} (P : X → Type 0) (xs : List X) → ((i : ℕ) (x : X) → slice_get xs i ≡ Some x → P x) → AllByRecursion P xs
all-places P [] each = tt
all-places P (x ∷ xs) each = (each 0 x refl, all-places P xs (λ i y there. each (suc i) y there))

tables-well : (p : Plain) → AreTablesWell p → (moment : ℕ) → AreTablesWell (at_moment moment p)
tables-well p well moment =
    let now : ℕ = max p.clock moment in
    let f : TableState → TableState = table_alive now (open_tracks p.frontends) in
    record {
      differ = differ-map f (table_alive-entries now (open_tracks p.frontends)) p.tables well.differ;
      there =
          all-more (λ version. AllByRecursion (λ id. IsSome (table_at p.tables id)) version.tables) (λ version. AllByRecursion (λ id. IsSome (table_at (map f p.tables) id)) version.tables) p.versions
          (λ version all.
          all-more (λ id. IsSome (table_at p.tables id)) (λ id. IsSome (table_at (map f p.tables) id)) version.tables
          (λ id is. subst IsSome (sym (table_at-map f (table_alive-entries now (open_tracks p.frontends)) p.tables id)) (some-map f (table_at p.tables id) is)) all) well.there;
      listed = all-map (λ table. is_listed_by p.versions table ≡ true) f p.tables well.listed;
      began = all-map (λ table. table.id.version ≤ newest_number p) f p.tables well.began;
      each = all-map IsTableWell f p.tables (all-more IsTableWell (λ table. IsTableWell (f table)) p.tables (table_alive-well now (open_tracks p.frontends)) well.each);
    }

tracks-well : (p : Plain) → AreTracksListed p → (moment : ℕ) → AreTracksListed (at_moment moment p)
tracks-well p listed moment =
    let now : ℕ = max p.clock moment in
    let tracks : List Track = open_tracks p.frontends in
    let R : List TableState → Row → Type 0 = λ tables row. AllByRecursion (IsTrackListed (tables_of p.versions row.version) tables) row.tracks in
    all-places (λ own. AllByRecursion (R (tables_alive now tracks p.tables)) own.rows) p.frontends
    (λ number own there.
    all-more (λ row. IsIn own.rows row × R p.tables row) (R (tables_alive now tracks p.tables)) own.rows
    (λ row both.
    all-more (λ track. IsIn row.tracks track × IsTrackListed (tables_of p.versions row.version) p.tables track) (IsTrackListed (tables_of p.versions row.version) (tables_alive now tracks p.tables)) row.tracks
    (λ track known. record { table = known.1.table; key = alive_listed now tracks p.tables track (in-open p.frontends number own row track there both.0 known.0) known.1.key })
    (all-both (IsIn row.tracks) (IsTrackListed (tables_of p.versions row.version) p.tables) row.tracks (all-in row.tracks) both.1))
    (all-both (IsIn own.rows) (R p.tables) own.rows (all-in own.rows) (all-at (λ own. AllByRecursion (R p.tables) own.rows) p.frontends number own listed there)))

-- time keeps what is known of a state
pub at-well : (p : Plain) → IsWell p → (moment : ℕ) → IsWell (at_moment moment p)
at-well p well moment = record {
  frontends = well.frontends;
  rise = well.rise;
  last = well.last;
  needed = well.needed;
  versions = well.versions;
  tables = tables-well p well.tables moment;
  tracks = tracks-well p well.tracks moment;
}

-- One moment after another.

over-later : (expire moment later last : ℕ) → moment ≤ later → is_over expire moment last ≡ true → is_over expire later last ≡ true
over-later expire moment later last less over = grind (arith, nat_tests)

not-absent : (f : Addr → ℕ) (expire moment later : ℕ) → moment ≤ later → (e : PlainEntry) → not (is_absent f expire later e) ≡ true → not (is_absent f expire moment e) ≡ true
not-absent f expire moment later less e lives = by (is_idle f e) (is_over expire moment e.last_touch) refl refl
  where
    by : (a b : Bool) → is_idle f e ≡ a → is_over expire moment e.last_touch ≡ b → not (is_absent f expire moment e) ≡ true
    by false b idle over = rw idle refl
    by true false idle over = rw (idle, over) refl
    by true true idle over =
        let more : is_over expire later e.last_touch ≡ true = over-later expire moment later e.last_touch less over in
        absurd (false≢true (rw (idle, more) at lives))

alive-twice : (f : Addr → ℕ) (expire moment later : ℕ) → moment ≤ later → (entries : List PlainEntry) → alive f expire later (alive f expire moment entries) ≡ alive f expire later entries
alive-twice f expire moment later less entries = filter-twice (λ e. not (is_absent f expire later e)) (λ e. not (is_absent f expire moment e)) (not-absent f expire moment later less) entries

pub tables-twice : (moment later : ℕ) (tracks : List Track) (tables : List TableState) → moment ≤ later → tables_alive later tracks (tables_alive moment tracks tables) ≡ tables_alive later tracks tables
tables-twice moment later tracks [] less = refl
tables-twice moment later tracks (t ∷ tables) less =
    ap (λ es. record t { entries = es } ∷ tables_alive later tracks (tables_alive moment tracks tables)) (alive-twice (trackers tracks t.id) t.table.expire moment later less t.entries)
    ∙ ap (λ ts. table_alive later tracks t ∷ ts) (tables-twice moment later tracks tables less)

-- the state at a moment, as it is at a later one
pub at-twice : (p : Plain) (moment later : ℕ) → moment ≤ max p.clock later → at_moment later (at_moment moment p) ≡ at_moment later p
at-twice p moment later less =
    let same : max (max p.clock moment) later ≡ max p.clock later = omega (arith, less) in
    let before : max p.clock moment ≤ max p.clock later = omega (arith, less) in
    ap (λ n. record p { clock = n; tables = tables_alive n (open_tracks p.frontends) (tables_alive (max p.clock moment) (open_tracks p.frontends) p.tables) }) same
    ∙ ap (λ ts. record p { clock = max p.clock later; tables = ts }) (tables-twice (max p.clock moment) (max p.clock later) (open_tracks p.frontends) p.tables before)
