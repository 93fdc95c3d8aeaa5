-- One entry that brings no version: what it leaves of frontends, versions and tables.
use Rattle.std.specs.Prelude.{ℕ, max, zero, suc, Bool, true, false, not, List, [], map, filter, find, zip, slice_get, Option, Some, None, option_map, IfSome, IsSome, Ok, refl, ◌⊎◌, ◌+◌, ◌≡◌, ◌==◌, ◌&&◌, ◌∷◌, ◌++◌}
use Rattle.std.specs.List.{list_any, AllByRecursion}
use Rattle.std.specs.Option.{option_map_or}
use Rattle.std.proofs.Common.{sym, ap, subst, inl, inr, ◌∙◌, arith}
use Rattle.std.proofs.lemmas.Bool.{false≢true, eqb-true}
use Rattle.plan_types.specs.Lines.{has_line, LinesDiffer}
use Rattle.plan_types.specs.declared.plan.Plan.{Plan}
use Rattle.plan_types.specs.declared.plan.Table.{Table}
use Rattle.plan_types.specs.declared.track.TableId.{TableId}
use Rattle.plan_types.specs.declared.track.Track.{Track}
use Rattle.conn_model.specs.declared.event.OwnedEvent.{OwnedEvent}
use Rattle.conn_model.specs.declared.plain.FrontendRows.{FrontendRows}
use Rattle.conn_model.specs.declared.plain.Phase.{Phase}
use Rattle.conn_model.specs.declared.plain.Phase.TheVariants.{Waiting, Offered, Up}
use Rattle.conn_model.specs.declared.plain.Plain.{Plain}
use Rattle.conn_model.specs.declared.plain.Row.{Row}
use Rattle.conn_model.specs.declared.plain.TableState.{TableState}
use Rattle.conn_model.specs.declared.plain.Version.{Version}
use Rattle.conn_model.specs.declared.reply.Said.{Said}
use Rattle.conn_model.specs.declared.reply.Said.TheVariants as saids
use Rattle.conn_model.specs.declared.reply.Said.TheVariants.{Wait, Offer}
use Rattle.conn_model.specs.Words.{map_from}
use Rattle.conn_model.specs.Answer.{answer_in, at_moment, version_at}
use Rattle.conn_model.specs.History.{after, arrivals, frontend_after, frontends_after, has_ended, identity_at, identity_of, is_needed, judging_version, newest_number, nobody, phase_by, phase_on, phase_up, piece_of, plan_of, row_after, speaks_to, tables_after, version_of, versions_after, Entry, IsLegal, IsWell}
use Rattle.conn_model.specs.Tables.{by_counter, is_listed_by, open_tracks, same_id, table_at, written_tables}
use Rattle.conn_model.proofs.Lists.{all-append, all-both, all-filter, all-found, all-map, all-more}
use Rattle.conn_model.proofs.Nothing.{after-nil}
use Rattle.conn_model.proofs.OneTable.{same_id-is, table_at-map, table_by, table_by-entries, tables_by-each}
use Rattle.conn_model.proofs.Parts.{newest_after}
use Rattle.conn_model.proofs.Serials.{arrival-one}
use Rattle.conn_model.proofs.TableSteps.{tables_quiet}
use Rattle.conn_model.proofs.Versions.{version_at-map, with_said-each}
use Rattle.conn_model.proofs.VersionSteps.{version_step, version_step-cursors, versions_quiet}
use Rattle.conn_model.proofs.Well.{well_after}
use Rattle.tenant_laws.specs.Parts.{keeps_apart, owns_table, Part}
use Rattle.tenant_laws.specs.Agreement.{is_own_id, owns_id, IsApart, IsInside, IsNamed, IsOfLine, IsOutside, IsSound, IsWritten}
use Rattle.tenant_laws.proofs.Alive.{owns-then, written-then}
use Rattle.tenant_laws.proofs.Lists.{any-of, both, contrary, nothing, some_same}

-- Lists that are filtered.

pub find-kept_in : {X : Type 0} (test keep : X → Bool) (xs : List X) → ((x : X) → test x ≡ true → keep x ≡ true) → find test (filter keep xs) ≡ find test xs
find-kept_in test keep [] kept = refl
find-kept_in {X} test keep (x ∷ xs) kept = by (test x) (keep x) refl refl (find-kept_in test keep xs kept)
  where
    by : (a b : Bool) → test x ≡ a → keep x ≡ b → find test (filter keep xs) ≡ find test xs → find test (filter keep (x ∷ xs)) ≡ find test (x ∷ xs)
    by true true e f rest = rw (f, e) refl
    by false true e f rest = rw (f, e) rest
    by true false e f rest = contrary (keep x) (kept x e) f
    by false false e f rest = rw (f, e) rest

pub find-kept_out : {X : Type 0} (test keep : X → Bool) (xs : List X) → ((x : X) → test x ≡ true → keep x ≡ false) → find test (filter keep xs) ≡ None
find-kept_out test keep [] gone = refl
find-kept_out {X} test keep (x ∷ xs) gone = by (test x) (keep x) refl refl (find-kept_out test keep xs gone)
  where
    by : (a b : Bool) → test x ≡ a → keep x ≡ b → find test (filter keep xs) ≡ None → find test (filter keep (x ∷ xs)) ≡ None
    by true true e f rest = contrary (keep x) f (gone x e)
    by false true e f rest = rw (f, e) rest
    by true false e f rest = rw f rest
    by false false e f rest = rw f rest

-- versions by a test of their numbers
pub version-filter : (test : ℕ → Bool) (versions : List Version) (k : ℕ) → (version_at (filter (λ version. test version.number) versions) k ≡ None) ⊎ (version_at (filter (λ version. test version.number) versions) k ≡ version_at versions k)
version-filter test versions k = by (test k) refl
  where
    by : (b : Bool) → test k ≡ b → (version_at (filter (λ version. test version.number) versions) k ≡ None) ⊎ (version_at (filter (λ version. test version.number) versions) k ≡ version_at versions k)
    by true e = inr (find-kept_in (λ (v : Version). v.number == k) (λ version. test version.number) versions (λ v is. ap test (eqb-true v.number k is) ∙ e))
    by false e = inl (find-kept_out (λ (v : Version). v.number == k) (λ version. test version.number) versions (λ v is. ap test (eqb-true v.number k is) ∙ e))

-- tables by a test of their incarnations
pub table-filter : (test : TableId → Bool) (tables : List TableState) (id : TableId) → (table_at (filter (λ table. test table.id) tables) id ≡ None) ⊎ (table_at (filter (λ table. test table.id) tables) id ≡ table_at tables id)
table-filter test tables id = by (test id) refl
  where
    by : (b : Bool) → test id ≡ b → (table_at (filter (λ table. test table.id) tables) id ≡ None) ⊎ (table_at (filter (λ table. test table.id) tables) id ≡ table_at tables id)
    by true e = inr (find-kept_in (λ (t : TableState). same_id t.id id) (λ table. test table.id) tables (λ t is. ap test (same_id-is t.id id is) ∙ e))
    by false e = inl (find-kept_out (λ (t : TableState). same_id t.id id) (λ table. test table.id) tables (λ t is. ap test (same_id-is t.id id is) ∙ e))

pub get-mapped : {X : Type 0} (f : ℕ → X → X) (k : ℕ) (xs : List X) (n : ℕ) → slice_get (map_from f k xs) n ≡ option_map (f (k + n)) (slice_get xs n)
get-mapped f k [] n = refl
get-mapped f k (x ∷ xs) zero = let place : k + 0 ≡ k = omega arith in rw place refl
get-mapped f k (x ∷ xs) (suc n) = let place : (k + 1) + n ≡ k + suc n = omega arith in rw (← place) (get-mapped f (k + 1) xs n)

pub map-same_from : {X Y : Type 0} (h : X → Y) (f : ℕ → X → X) (k : ℕ) (xs : List X) → ((n : ℕ) (x : X) → h (f n x) ≡ h x) → map h (map_from f k xs) ≡ map h xs
map-same_from h f k [] same = refl
map-same_from h f k (x ∷ xs) same = cc (same k x, map-same_from h f (k + 1) xs same)

pub all-by_counter : (P : Track → Type 0) (tracks : List Track) → AllByRecursion P tracks → AllByRecursion P (by_counter tracks)
all-by_counter P tracks all =
    let of : (n : ℕ) → AllByRecursion P (filter (λ track. track.counter == n) tracks) = λ n. all-filter P (λ track. track.counter == n) tracks all in
    all-append P (filter (λ track. track.counter == 0) tracks ++ filter (λ track. track.counter == 1) tracks) (filter (λ track. track.counter == 2) tracks)
    (all-append P (filter (λ track. track.counter == 0) tracks) (filter (λ track. track.counter == 1) tracks) (of 0) (of 1)) (of 2)

pub zip-all : {X Y : Type 0} (P : Y → Type 0) (xs : List X) (ys : List Y) → AllByRecursion P ys → AllByRecursion (λ (pair : X × Y). P pair.1) (zip xs ys)
zip-all P [] ys all = tt
zip-all P (x ∷ xs) [] all = tt
zip-all P (x ∷ xs) (y ∷ ys) all = (all.0, zip-all P xs ys all.1)

-- a legal entry, by its answer
pub legal_one : (p : Plain) → IsWell p → (e : Entry) → answer_in p e.moment e.event ≡ Ok e.reply → IsLegal p (e ∷ [])
legal_one p well e is = (tt, subst (λ s. answer_in s e.moment e.event ≡ Ok e.reply) (sym (after-nil p well)) is)

-- the plan of a version that is kept
pub plan-kept : (p : Plain) (k : ℕ) → plan_of p [] k ≡ option_map (λ v. v.plan) (version_at p.versions k)
plan-kept p k = go p.versions
  where
    go : (vs : List Version) → option_map (λ (pair : ℕ × Plan). pair.1) (find (λ (pair : ℕ × Plan). pair.0 == k) (map (λ (v : Version). (v.number, v.plan)) vs)) ≡ option_map (λ v. v.plan) (find (λ v. v.number == k) vs)
    go [] = refl
    go (v ∷ vs) = by (v.number == k) refl (go vs)
      where
        by : (b : Bool) → (v.number == k) ≡ b → option_map (λ (pair : ℕ × Plan). pair.1) (find (λ (pair : ℕ × Plan). pair.0 == k) (map (λ (v : Version). (v.number, v.plan)) vs)) ≡ option_map (λ v. v.plan) (find (λ v. v.number == k) vs) →
            option_map (λ (pair : ℕ × Plan). pair.1) (find (λ (pair : ℕ × Plan). pair.0 == k) (map (λ (v : Version). (v.number, v.plan)) (v ∷ vs))) ≡ option_map (λ v. v.plan) (find (λ v. v.number == k) (v ∷ vs))
        by true e rest = rw e refl
        by false e rest = rw e rest

-- the tables that a kept version lists are there
pub listed-there : (p : Plain) → IsWell p → (k : ℕ) (v : Version) → version_at p.versions k ≡ Some v → AllByRecursion (λ (pair : Table × TableId). IsSome (table_at p.tables pair.1)) (written_tables (Some v))
listed-there p well k v found =
    zip-all (λ id. IsSome (table_at p.tables id)) v.plan.tables v.tables (all-found (λ (v : Version). AllByRecursion (λ id. IsSome (table_at p.tables id)) v.tables) (λ v. v.number == k) p.versions v well.tables.there found).0

pub own-there : (part : Part) (p : Plain) → IsWell p → (k : ℕ) (v : Version) (id : TableId) → version_at p.versions k ≡ Some v → is_own_id part v id ≡ true → IsSome (table_at p.tables id)
own-there part p well k v id found own =
    let got = any-of (λ (pair : Table × TableId). IsSome (table_at p.tables pair.1)) (λ (pair : Table × TableId). owns_table part pair.0 && same_id pair.1 id) (written_tables (Some v)) (listed-there p well k v found) own in
    let pair : Table × TableId = got.0 in
    subst (λ i. IsSome (table_at p.tables i)) (same_id-is pair.1 id (both (owns_table part pair.0) (same_id pair.1 id) got.2).1) got.1

-- what names no version and no table
pub names-after : (p : Plain) (h : List Entry) → map (λ (own : FrontendRows). own.name) (after p h).frontends ≡ map (λ (own : FrontendRows). own.name) p.frontends
names-after p h = map-same_from (λ (own : FrontendRows). own.name) (frontend_after p h) 0 p.frontends (λ n own. refl)

pub frontend-at : (p : Plain) (h : List Entry) (n : ℕ) → slice_get (after p h).frontends n ≡ option_map (frontend_after p h n) (slice_get p.frontends n)
frontend-at p h n = get-mapped (frontend_after p h) 0 p.frontends n ∙ ap (λ k. option_map (frontend_after p h k) (slice_get p.frontends n)) (let it : 0 + n ≡ n = omega arith in it)

-- what holds of the rows of a frontend after an entry
pub rows-after : (p : Plain) (e : Entry) (n : ℕ) (own : FrontendRows) (R : Row → Type 0) → AllByRecursion (λ row. R (row_after p n (e ∷ []) row)) (own.rows ++ arrivals p n (e ∷ [])) →
    AllByRecursion R (frontend_after p (e ∷ []) n own).rows
rows-after p e n own R all =
    all-map R (row_after p n (e ∷ [])) (filter (λ row. not (has_ended n (e ∷ []) row.serial)) (own.rows ++ arrivals p n (e ∷ [])))
    (all-filter (λ row. R (row_after p n (e ∷ []) row)) (λ row. not (has_ended n (e ∷ []) row.serial)) (own.rows ++ arrivals p n (e ∷ [])) all)

module _ (p : Plain) (well : IsWell p) (e : Entry) (brings : version_of e ≡ None) where
  pub number-after : newest_number (after p (e ∷ [])) ≡ newest_number p
  number-after = newest_after p (e ∷ []) ∙ ap (λ o. option_map_or (λ (brought : ℕ × Plan). brought.0) o (newest_number p)) brings

  -- a version that is kept was kept before
  pub version-before : (k : ℕ) (v' : Version) → version_at (after p (e ∷ [])).versions k ≡ Some v' → (v : Version) × (version_at p.versions k ≡ Some v) × (v' ≡ version_step p e v)
  version-before k v' found =
      let stepped : versions_after p (e ∷ []) ≡ filter (λ version. is_needed (frontends_after p (e ∷ [])) (newest_number p) version.number) (map (version_step p e) p.versions) =
      versions_quiet p well e brings
      ∙ ap (λ vs. filter (λ (version : Version). is_needed (frontends_after p (e ∷ [])) (newest_number p) version.number) vs) (with_said-each (judging_version p.frontends (newest_number p) e.reply.said) e.reply.said p.versions) in
      let there : version_at (filter (λ version. is_needed (frontends_after p (e ∷ [])) (newest_number p) version.number) (map (version_step p e) p.versions)) k ≡ Some v' = ap (λ vs. version_at vs k) (sym stepped) ∙ found in
      by (version-filter (λ n. is_needed (frontends_after p (e ∷ [])) (newest_number p) n) (map (version_step p e) p.versions) k) there
    where
      mapped : (o : Option Version) → version_at p.versions k ≡ o → option_map (version_step p e) o ≡ Some v' → (v : Version) × (version_at p.versions k ≡ Some v) × (v' ≡ version_step p e v)
      mapped None e' is = nothing is
      mapped (Some v) e' is = (v, e', sym (some_same is))

      by : (version_at (filter (λ version. is_needed (frontends_after p (e ∷ [])) (newest_number p) version.number) (map (version_step p e) p.versions)) k ≡ None)
          ⊎ (version_at (filter (λ version. is_needed (frontends_after p (e ∷ [])) (newest_number p) version.number) (map (version_step p e) p.versions)) k ≡ version_at (map (version_step p e) p.versions) k) →
          version_at (filter (λ version. is_needed (frontends_after p (e ∷ [])) (newest_number p) version.number) (map (version_step p e) p.versions)) k ≡ Some v' →
          (v : Version) × (version_at p.versions k ≡ Some v) × (v' ≡ version_step p e v)
      by (inl none) there = nothing (sym none ∙ there)
      by (inr same) there = mapped (version_at p.versions k) refl (sym (version_at-map (version_step p e) (version_step-cursors p e) p.versions k) ∙ sym same ∙ there)

  -- a table goes, or changes by itself
  pub table-after : (id : TableId) → (table_at (after p (e ∷ [])).tables id ≡ None) ⊎ (table_at (after p (e ∷ [])).tables id ≡ option_map (table_by (max p.clock e.moment) p.frontends e.reply) (table_at (at_moment e.moment p).tables id))
  table-after id =
      let stepped : tables_after p (e ∷ []) ≡ filter (is_listed_by (versions_after p (e ∷ []))) (map (table_by (max p.clock e.moment) p.frontends e.reply) (at_moment e.moment p).tables) =
      tables_quiet p well e brings ∙ ap (filter (is_listed_by (versions_after p (e ∷ [])))) (tables_by-each (max p.clock e.moment) p.frontends (at_moment e.moment p).tables e.reply) in
      elim (table-filter (λ i. list_any (λ (version : Version). list_any (same_id i) version.tables) (versions_after p (e ∷ []))) (map (table_by (max p.clock e.moment) p.frontends e.reply) (at_moment e.moment p).tables) id) [
        | inl none ↦ inl (ap (λ ts. table_at ts id) stepped ∙ none)
        | inr same ↦ inr (ap (λ ts. table_at ts id) stepped ∙ same ∙ table_at-map (table_by (max p.clock e.moment) p.frontends e.reply) (table_by-entries (max p.clock e.moment) p.frontends e.reply) (at_moment e.moment p).tables id)
      ]

  pub table-stays : (id : TableId) → IsSome (table_at (after p (e ∷ [])).tables id) → table_at (after p (e ∷ [])).tables id ≡ option_map (table_by (max p.clock e.moment) p.frontends e.reply) (table_at (at_moment e.moment p).tables id)
  table-stays id is = elim (table-after id) [
    | inl none ↦ absurd (false≢true (rw none at is))
    | inr same ↦ same
  ]

-- of a version an entry changes the cursors alone
pub step-plan : (p : Plain) (e : Entry) (v : Version) → ((version_step p e v).number ≡ v.number) × (((version_step p e v).plan ≡ v.plan) × ((version_step p e v).tables ≡ v.tables))
step-plan p e v = (ap (λ (x : Version). x.number) (version_step-cursors p e v), (ap (λ (x : Version). x.plan) (version_step-cursors p e v), ap (λ (x : Version). x.tables) (version_step-cursors p e v)))

pub step-written : (p : Plain) (e : Entry) (v : Version) → written_tables (Some (version_step p e v)) ≡ written_tables (Some v)
step-written p e v = ap (λ (x : Version). written_tables (Some x)) (version_step-cursors p e v)

pub step-own : (part : Part) (p : Plain) (e : Entry) (v : Version) (id : TableId) → is_own_id part (version_step p e v) id ≡ is_own_id part v id
step-own part p e v id = ap (λ (x : Version). is_own_id part x id) (version_step-cursors p e v)

-- What was offered is of the backend that has its line.

-- so it is once that is said to a connection
said-of_line : (p : Plain) (number : ℕ) (event : OwnedEvent) (said : Said) (phase : Phase) → IsOfLine p.versions number phase → IsOfLine p.versions number (phase_by (plan_of p [] number) event said phase)
said-of_line p number event (Wait id used) phase is = by phase is
  where
    by : (phase : Phase) → IsOfLine p.versions number phase → IsOfLine p.versions number (phase_on (piece_of event) phase)
    by (Waiting rest) is = tt
    by (Offered assignment) is = is
    by (Up assignment) is = tt
said-of_line p number event (saids.Up id) phase is = by phase
  where
    by : (phase : Phase) → IsOfLine p.versions number (phase_up phase)
    by (Waiting rest) = tt
    by (Offered assignment) = tt
    by (Up assignment) = tt
said-of_line p number event (Offer id used line server to pair send) phase is = λ version backend there found.
    let plan : plan_of p [] number ≡ Some version.plan = plan-kept p number ∙ ap (option_map (λ (v : Version). v.plan)) there in
    ap (λ o. (identity_of o line server to).backend) plan ∙ ap (λ o. (option_map_or (identity_at server to) o (nobody to)).backend) found
said-of_line p number event said phase is = is

-- a connection that comes was offered nothing
arrivals-of_line : (p : Plain) (e : Entry) (n : ℕ) → AllByRecursion (λ (row : Row). IsOfLine p.versions row.version row.phase) (arrivals p n (e ∷ []))
arrivals-of_line p e n = elim (arrival-one n (max p.clock e.moment) (newest_number p) e.event e.reply.said) [
  | inl none ↦ subst (AllByRecursion (λ (row : Row). IsOfLine p.versions row.version row.phase)) (sym none) tt
  | inr one ↦ subst (AllByRecursion (λ (row : Row). IsOfLine p.versions row.version row.phase)) (sym one.2) (tt, tt)
]

-- What a state has to say for the laws goes on.
pub sound-step : (p : Plain) → IsSound p → (e : Entry) → answer_in p e.moment e.event ≡ Ok e.reply → version_of e ≡ None → IsSound (after p (e ∷ []))
sound-step p sound e is brings = record { well = well; written = written; lines = lines; offers = offers }
  where
    well : IsWell (after p (e ∷ []))
    well = well_after p sound.well (e ∷ []) (legal_one p sound.well e is)

    lines : (k : ℕ) (v' : Version) → version_at (after p (e ∷ [])).versions k ≡ Some v' → LinesDiffer v'.plan
    lines k v' found =
        let got = version-before p sound.well e brings k v' found in
        subst LinesDiffer (sym (ap (λ (x : Version). x.plan) got.2 ∙ (step-plan p e got.0).1.0)) (sound.lines k got.0 got.1)

    one : (id : TableId) (t : Table) → IsSome (table_at (after p (e ∷ [])).tables id) → IsWritten p.tables (t, id) → IsWritten (after p (e ∷ [])).tables (t, id)
    one id t there was = ap (option_map (λ (s : TableState). s.table)) (table-stays p sound.well e brings id there) ∙ by (table_at (at_moment e.moment p).tables id) ∙ written-then (max p.clock e.moment) (open_tracks p.frontends) p.tables id ∙ was
      where
        by : (o : Option TableState) → option_map (λ (s : TableState). s.table) (option_map (table_by (max p.clock e.moment) p.frontends e.reply) o) ≡ option_map (λ (s : TableState). s.table) o
        by None = refl
        by (Some s) = ap (λ (x : TableState). Some x.table) (table_by-entries (max p.clock e.moment) p.frontends e.reply s)

    written : (k : ℕ) (v' : Version) → version_at (after p (e ∷ [])).versions k ≡ Some v' → AllByRecursion (IsWritten (after p (e ∷ [])).tables) (written_tables (Some v'))
    written k v' found =
        let got = version-before p sound.well e brings k v' found in
        let same : written_tables (Some v') ≡ written_tables (Some got.0) = ap (λ (x : Version). written_tables (Some x)) got.2 ∙ step-written p e got.0 in
        all-more (λ (pair : Table × TableId). IsSome (table_at (after p (e ∷ [])).tables pair.1) × IsWritten p.tables pair) (IsWritten (after p (e ∷ [])).tables) (written_tables (Some v')) (λ pair both'. one pair.1 pair.0 both'.0 both'.1)
        (all-both (λ (pair : Table × TableId). IsSome (table_at (after p (e ∷ [])).tables pair.1)) (IsWritten p.tables) (written_tables (Some v')) (listed-there (after p (e ∷ [])) well k v' found)
        (subst (AllByRecursion (IsWritten p.tables)) (sym same) (sound.written k got.0 got.1)))

    -- a version that is kept has the plan that it had
    kept-of_line : (number : ℕ) (phase : Phase) → IsOfLine p.versions number phase → IsOfLine (after p (e ∷ [])).versions number phase
    kept-of_line number (Waiting rest) of_line = tt
    kept-of_line number (Up assignment) of_line = tt
    kept-of_line number (Offered given) of_line = λ version backend there found.
        let got = version-before p sound.well e brings number version there in
        let plan : version.plan ≡ got.0.plan = ap (λ (x : Version). x.plan) got.2 ∙ (step-plan p e got.0).1.0 in
        of_line got.0 backend got.1 (ap (λ (x : Plan). find (has_line given.line) x.backends) (sym plan) ∙ found)

    row-of_line : (n : ℕ) (row : Row) → IsOfLine p.versions row.version row.phase → IsOfLine (after p (e ∷ [])).versions (row_after p n (e ∷ []) row).version (row_after p n (e ∷ []) row).phase
    row-of_line n row of_line = by (speaks_to n row.serial e.reply.said) refl
      where
        by : (b : Bool) → speaks_to n row.serial e.reply.said ≡ b → IsOfLine (after p (e ∷ [])).versions (row_after p n (e ∷ []) row).version (row_after p n (e ∷ []) row).phase
        by false eb = rw eb (kept-of_line row.version row.phase of_line)
        by true eb = rw eb (kept-of_line row.version (phase_by (plan_of p [] row.version) e.event e.reply.said row.phase) (said-of_line p row.version e.event e.reply.said row.phase of_line))

    offers : (n : ℕ) (own : FrontendRows) → slice_get (after p (e ∷ [])).frontends n ≡ Some own → AllByRecursion (λ (row : Row). IsOfLine (after p (e ∷ [])).versions row.version row.phase) own.rows
    offers n own there = by (slice_get p.frontends n) refl (sym (frontend-at p (e ∷ []) n) ∙ there)
      where
        by : (o : Option FrontendRows) → slice_get p.frontends n ≡ o → option_map (frontend_after p (e ∷ []) n) o ≡ Some own → AllByRecursion (λ (row : Row). IsOfLine (after p (e ∷ [])).versions row.version row.phase) own.rows
        by None e' is' = nothing is'
        by (Some before) e' is' =
            subst (λ (f : FrontendRows). AllByRecursion (λ (row : Row). IsOfLine (after p (e ∷ [])).versions row.version row.phase) f.rows) (some_same is')
            (rows-after p e n before (λ (row : Row). IsOfLine (after p (e ∷ [])).versions row.version row.phase)
            (all-more (λ (row : Row). IsOfLine p.versions row.version row.phase)
            (λ row. IsOfLine (after p (e ∷ [])).versions (row_after p n (e ∷ []) row).version (row_after p n (e ∷ []) row).phase) (before.rows ++ arrivals p n (e ∷ [])) (row-of_line n)
            (all-append (λ (row : Row). IsOfLine p.versions row.version row.phase) before.rows (arrivals p n (e ∷ [])) (sound.offers n before e') (arrivals-of_line p e n))))

-- What an entry that brings no version leaves apart.
module _ (part : Part) (p : Plain) (sound : IsSound p) (apart : IsApart part p) (e : Entry) (brings : version_of e ≡ None) where
  pub plans-apart : (k : ℕ) (v' : Version) → version_at (after p (e ∷ [])).versions k ≡ Some v' → keeps_apart part v'.plan ≡ true
  plans-apart k v' found =
      let got = version-before p sound.well e brings k v' found in
      ap (λ (x : Version). keeps_apart part x.plan) got.2 ∙ ap (keeps_apart part) (step-plan p e got.0).1.0 ∙ apart.plans k got.0 got.1

  pub named-apart : IsNamed part (after p (e ∷ []))
  named-apart n = rw (frontend-at p (e ∷ []) n) (by (slice_get p.frontends n) (apart.named n))
    where
      by : (o : Option FrontendRows) → IfSome o (λ own. part.frontends n ≡ part.frontend_names own.name) → IfSome (option_map (frontend_after p (e ∷ []) n) o) (λ own. part.frontends n ≡ part.frontend_names own.name)
      by None is = tt
      by (Some own) is = is

  -- what was not the part's is not now
  pub owns-apart : (id : TableId) → owns_id part p.tables id ≡ false → owns_id part (after p (e ∷ [])).tables id ≡ false
  owns-apart id out = elim (table-after p sound.well e brings id) [
    | inl none ↦ ap (λ o. option_map_or (λ (s : TableState). owns_table part s.table) o false) none
    | inr same ↦ ap (λ o. option_map_or (λ (s : TableState). owns_table part s.table) o false) same ∙ by (table_at (at_moment e.moment p).tables id)
        ∙ owns-then part (max p.clock e.moment) (open_tracks p.frontends) p.tables id ∙ out
  ]
    where
      by : (o : Option TableState) → option_map_or (λ (s : TableState). owns_table part s.table) (option_map (table_by (max p.clock e.moment) p.frontends e.reply) o) false ≡ option_map_or (λ (s : TableState). owns_table part s.table) o false
      by None = refl
      by (Some s) = ap (λ (x : TableState). owns_table part x.table) (table_by-entries (max p.clock e.moment) p.frontends e.reply s)

  -- rows as they were, by the versions and tables that are left
  pub outside-apart : (rows : List Row) → AllByRecursion (IsOutside part p.tables) rows → AllByRecursion (IsOutside part (after p (e ∷ [])).tables) rows
  outside-apart rows all =
      all-more (IsOutside part p.tables) (IsOutside part (after p (e ∷ [])).tables) rows
      (λ row is. record {
        tracks = all-more (λ (t : Track). owns_id part p.tables t.table ≡ false) (λ (t : Track). owns_id part (after p (e ∷ [])).tables t.table ≡ false) row.tracks (λ t out. owns-apart t.table out) is.tracks;
        offered = is.offered;
      }) all

  pub inside-apart : (rows : List Row) → AllByRecursion (λ row. IsSome (version_at (after p (e ∷ [])).versions row.version)) rows → AllByRecursion (IsInside part p.versions) rows →
      AllByRecursion (IsInside part (after p (e ∷ [])).versions) rows
  inside-apart rows kept all =
      all-more (λ (row : Row). IsSome (version_at (after p (e ∷ [])).versions row.version) × IsInside part p.versions row) (IsInside part (after p (e ∷ [])).versions) rows
      (λ row is. by row (version_at (after p (e ∷ [])).versions row.version) refl is.0 is.1)
      (all-both (λ (row : Row). IsSome (version_at (after p (e ∷ [])).versions row.version)) (IsInside part p.versions) rows kept all)
    where
      by : (row : Row) (o : Option Version) → version_at (after p (e ∷ [])).versions row.version ≡ o → IsSome (version_at (after p (e ∷ [])).versions row.version) → IsInside part p.versions row →
          IsInside part (after p (e ∷ [])).versions row
      by row None found is inside = absurd (false≢true (rw found at is))
      by row (Some v') found is inside =
          let got = version-before p sound.well e brings row.version v' found in
          let same : (id : TableId) → is_own_id part v' id ≡ is_own_id part got.0 id = λ id. ap (λ (x : Version). is_own_id part x id) got.2 ∙ step-own part p e got.0 id in
          record {
            tracks = rw found
                (all-more (λ (t : Track). is_own_id part got.0 t.table ≡ true) (λ (t : Track). is_own_id part v' t.table ≡ true) row.tracks (λ t own. same t.table ∙ own) (rw got.1 at inside.tracks));
            offered = inside.offered;
          }
