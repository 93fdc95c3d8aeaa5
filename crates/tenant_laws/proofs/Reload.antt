-- A reload whose text keeps a part apart, made in two states that agree on the part, leaves two that agree.
use Rattle.std.specs.Prelude.{ℕ, suc, Bool, true, false, max, List, [], map, filter, find, zip, slice_get, Option, Some, None, option_map, IsSome, Result, Ok, refl, ◌⊎◌, ◌+◌, ◌≤◌, ◌≡◌, ◌==◌, ◌&&◌, ◌∷◌, ◌++◌}
use Rattle.std.specs.List.{list_any, AllByRecursion, enumerate_from}
use Rattle.std.specs.Option.{option_map_or, option_or}
use Rattle.std.proofs.Common.{sym, ap, subst, inl, inr, ◌∙◌, arith}
use Rattle.std.proofs.lemmas.Bool.{false≢true, eq-eqb, eqb-true}
use Rattle.std.specs.Str.{bytes_eq}
use Rattle.proxy_types.specs.declared.table.KeyType.{KeyType}
use Rattle.proxy_types.specs.declared.table.KeyType.TheVariants.{Ip, Ipv6}
use Rattle.plan_types.specs.Lines.{LinesDiffer}
use Rattle.plan_types.specs.declared.plan.Plan.{Plan}
use Rattle.plan_types.specs.declared.plan.Section.{Section}
use Rattle.plan_types.specs.declared.plan.Section.TheVariants as sections
use Rattle.plan_types.specs.declared.plan.Table.{Table}
use Rattle.plan_types.specs.declared.track.TableId.{TableId}
use Rattle.plan_types.specs.declared.track.Track.{Track}
use Rattle.plan_core.specs.Binds.{same_flag}
use Rattle.config_core.specs.Meaning.{meaning}
use Rattle.config_core.specs.declared.fault.OpenFault.{OpenFault}
use Rattle.conn_model.specs.declared.event.OwnedEvent.TheVariants.{Reload}
use Rattle.conn_model.specs.declared.plain.FrontendRows.{FrontendRows}
use Rattle.conn_model.specs.declared.plain.Phase.{Phase}
use Rattle.conn_model.specs.declared.plain.Phase.TheVariants.{Waiting, Offered, Up}
use Rattle.conn_model.specs.declared.plain.Plain.{Plain}
use Rattle.conn_model.specs.declared.plain.Row.{Row}
use Rattle.conn_model.specs.declared.plain.TableState.{TableState}
use Rattle.conn_model.specs.declared.plain.Version.{Version}
use Rattle.conn_model.specs.declared.reply.Reply.{Reply}
use Rattle.conn_model.specs.declared.reply.Said.TheVariants.{Reloaded}
use Rattle.conn_model.specs.Words.{newest}
use Rattle.conn_model.specs.Answer.{answer_in, at_moment, reply_of, version_at}
use Rattle.conn_model.specs.History.{after, entry, has_version, is_needed, newest_number, next_version, tables_of, IsWell}
use Rattle.conn_model.specs.Tables.{is_listed_by, is_new, new_table, new_tables, next_id, same_id, same_kind, same_section, same_stores, same_table, open_tracks, table_alive, table_at, tables_alive, written_tables, IsTrackListed}
use Rattle.conn_model.proofs.Lists.{all-at, all-both, all-filter, all-found, all-map, all-more, or_left}
use Rattle.conn_model.proofs.Goes.{newest_of, versions_below, well_at}
use Rattle.conn_model.proofs.Moments.{at-well, tables-twice}
use Rattle.conn_model.proofs.OneTable.{same_id-is, same_id-refl, table_found}
use Rattle.conn_model.proofs.Replies.{followed, Followed}
use Rattle.conn_model.proofs.Steps.{after-reload, with_reload}
use Rattle.conn_model.proofs.TableSteps.{listed_there}
use Rattle.conn_model.proofs.Versions.{newest-end, newest-filter}
use Rattle.conn_model.proofs.Well.{well_after}
use Rattle.tenant_laws.specs.Parts.{keeps_apart, owns_table, Part}
use Rattle.tenant_laws.specs.Agreement.{is_own_id, owns_id, Agree, IsAlike, IsApart, IsInside, IsMeant, IsOfLine, IsOutside, IsSound, IsWritten, LookAlike}
use Rattle.tenant_laws.proofs.Lists.{any-of, both, contrary, find-any, nothing, some_same}
use Rattle.tenant_laws.proofs.Counts.{text_same}
use Rattle.tenant_laws.proofs.Later.{agree-at, at-sound}
use Rattle.tenant_laws.proofs.Same.{newest-alike, newest-there}
use Rattle.tenant_laws.proofs.Step.{legal_one, listed-there, own-there, table-filter, version-filter}

-- Tables that are written the same are equal.

pub table-same : (a b : Table) → same_table a b ≡ true → a ≡ b
table-same a b e =
    let one = parts e in
    let section : a.section ≡ b.section = sections-same a.section b.section one.0 in
    let name : a.name ≡ b.name = text_same a.name b.name one.1 in
    let kind : a.kind ≡ b.kind = kinds a.kind b.kind one.2 in
    let size : a.size ≡ b.size = eqb-true a.size b.size one.3 in
    let stores = both (same_flag a.stores.cur b.stores.cur) (same_flag a.stores.cnt b.stores.cnt) one.4 in
    let cur : a.stores.cur ≡ b.stores.cur = flags a.stores.cur b.stores.cur stores.0 in
    let cnt : a.stores.cnt ≡ b.stores.cnt = flags a.stores.cnt b.stores.cnt stores.1 in
    let expire : a.expire ≡ b.expire = eqb-true a.expire b.expire one.5 in
    λ i. record { section = section i; name = name i; kind = kind i; size = size i; stores = record { cur = cur i; cnt = cnt i }; expire = expire i }
  where
    six : (x y z u v w : Bool) → (x && y && z && u && v && w) ≡ true → (x ≡ true) × (y ≡ true) × (z ≡ true) × (u ≡ true) × (v ≡ true) × (w ≡ true)
    six true true true true true true e = (refl, refl, refl, refl, refl, refl)
    six true true true true true false e = contrary false e refl
    six true true true true false w e = contrary false e refl
    six true true true false v w e = contrary false e refl
    six true true false u v w e = contrary false e refl
    six true false z u v w e = contrary false e refl
    six false y z u v w e = contrary false e refl

    parts : same_table a b ≡ true →
        (same_section a.section b.section ≡ true) × (bytes_eq a.name b.name ≡ true) × (same_kind a.kind b.kind ≡ true) × ((a.size == b.size) ≡ true) × (same_stores a.stores b.stores ≡ true) × ((a.expire == b.expire) ≡ true)
    parts e = six (same_section a.section b.section) (bytes_eq a.name b.name) (same_kind a.kind b.kind) (a.size == b.size) (same_stores a.stores b.stores) (a.expire == b.expire) e

    flags : (x y : Bool) → same_flag x y ≡ true → x ≡ y
    flags true true e = refl
    flags true false e = contrary false e refl
    flags false true e = contrary false e refl
    flags false false e = refl

    sections-same : (x y : Section) → same_section x y ≡ true → x ≡ y
    sections-same sections.Frontend sections.Frontend e = refl
    sections-same sections.Frontend sections.Backend e = contrary false e refl
    sections-same sections.Backend sections.Frontend e = contrary false e refl
    sections-same sections.Backend sections.Backend e = refl

    kinds : (x y : KeyType) → same_kind x y ≡ true → x ≡ y
    kinds Ip Ip e = refl
    kinds Ip Ipv6 e = contrary false e refl
    kinds Ipv6 Ip e = contrary false e refl
    kinds Ipv6 Ipv6 e = refl

find-append : {X : Type 0} (test : X → Bool) (xs ys : List X) → find test (xs ++ ys) ≡ option_or (find test xs) (find test ys)
find-append test [] ys = refl
find-append {X} test (x ∷ xs) ys = by (test x) refl (find-append test xs ys)
  where
    by : (b : Bool) → test x ≡ b → find test (xs ++ ys) ≡ option_or (find test xs) (find test ys) → find test (x ∷ (xs ++ ys)) ≡ option_or (find test (x ∷ xs)) (find test ys)
    by true e rest = rw e refl
    by false e rest = rw e rest

pub enumerate-get : {X : Type 0} (all : List X) (k : ℕ) (xs : List X) → ((j : ℕ) → slice_get all (k + j) ≡ slice_get xs j) → AllByRecursion (λ (pair : ℕ × X). slice_get all pair.0 ≡ Some pair.1) (enumerate_from k xs)
enumerate-get all k [] same = tt
enumerate-get all k (x ∷ xs) same = (
  (let place : k + 0 ≡ k = omega arith in ap (slice_get all) (sym place) ∙ same 0),
  enumerate-get all (k + 1) xs (λ j. let place : (k + 1) + j ≡ k + suc j = omega arith in ap (slice_get all) place ∙ same (suc j)),
)

-- A reload in one state, of which nothing is gone at that moment.
module _ (p : Plain) (sound : IsSound p) (clock number : ℕ) (alive : tables_alive clock (open_tracks p.frontends) p.tables ≡ p.tables) (plan : Plan) (next : number ≡ newest_number p + 1)
    (well' : IsWell (with_reload p clock number plan)) where
  abbrev pub before : List (Table × TableId)
  before = written_tables (newest p.versions)

  abbrev pub fresh : Version
  fresh = next_version number (written_tables (newest p.versions)) plan

  abbrev pub begun : List TableState
  begun = new_tables number (written_tables (newest p.versions)) plan.tables

  -- a version was kept before, or is the new one
  pub version-reload : (k : ℕ) (v' : Version) → version_at (with_reload p clock number plan).versions k ≡ Some v' →
      (version_at p.versions k ≡ Some v') ⊎ ((k ≡ number) × (v' ≡ next_version number (written_tables (newest p.versions)) plan))
  version-reload k v' found = by (version-filter (λ n. is_needed p.frontends number n) (p.versions ++ fresh ∷ []) k)
    where
      last : (b : Bool) → (number == k) ≡ b → version_at (fresh ∷ []) k ≡ Some v' → (version_at p.versions k ≡ Some v') ⊎ ((k ≡ number) × (v' ≡ fresh))
      last true e is = inr (sym (eqb-true number k e), sym (some_same (rw e at is)))
      last false e is = nothing (rw e at is)

      old : (o : Option Version) → version_at p.versions k ≡ o → option_or o (version_at (fresh ∷ []) k) ≡ Some v' → (version_at p.versions k ≡ Some v') ⊎ ((k ≡ number) × (v' ≡ fresh))
      old None e is = last (number == k) refl is
      old (Some v) e is = inl (e ∙ is)

      by : (version_at (with_reload p clock number plan).versions k ≡ None) ⊎ (version_at (with_reload p clock number plan).versions k ≡ version_at (p.versions ++ fresh ∷ []) k) →
          (version_at p.versions k ≡ Some v') ⊎ ((k ≡ number) × (v' ≡ fresh))
      by (inl none) = nothing (sym none ∙ found)
      by (inr same) = old (version_at p.versions k) refl (sym (find-append (λ (v : Version). v.number == k) p.versions (fresh ∷ [])) ∙ sym same ∙ found)

  -- a table goes, stays as it is, or begins
  pub table-reload : (id : TableId) →
      (table_at (with_reload p clock number plan).tables id ≡ None)
      ⊎ (table_at (with_reload p clock number plan).tables id ≡ option_or (table_at p.tables id) (table_at (new_tables number (written_tables (newest p.versions)) plan.tables) id))
  table-reload id =
      elim (table-filter (λ i. list_any (λ (version : Version). list_any (same_id i) version.tables) (with_reload p clock number plan).versions) (tables_alive clock (open_tracks p.frontends) p.tables ++ begun) id) [
        | inl none ↦ inl none
        | inr same ↦ inr (same ∙ find-append (λ (t : TableState). same_id t.id id) (tables_alive clock (open_tracks p.frontends) p.tables) begun ∙ ap (λ ts. option_or (table_at ts id) (table_at begun id)) alive)
      ]

  pub table-stays : (id : TableId) → IsSome (table_at (with_reload p clock number plan).tables id) →
      table_at (with_reload p clock number plan).tables id ≡ option_or (table_at p.tables id) (table_at (new_tables number (written_tables (newest p.versions)) plan.tables) id)
  table-stays id is = elim (table-reload id) [
    | inl none ↦ absurd (false≢true (rw none at is))
    | inr same ↦ same
  ]

  -- no table of the new number was there
  pub none-yet : (id : TableId) → id.version ≡ number → table_at p.tables id ≡ None
  none-yet id is = by (table_at p.tables id) refl
    where
      by : (o : Option TableState) → table_at p.tables id ≡ o → table_at p.tables id ≡ None
      by None e = e
      by (Some table) e =
          let first : table.id ≡ id = table_found p.tables id table e in
          let old : table.id.version ≤ newest_number p = (all-found (λ (t : TableState). t.id.version ≤ newest_number p) (λ t. same_id t.id id) p.tables table sound.well.tables.began e).0 in
          let version : table.id.version ≡ id.version = ap (λ (i : TableId). i.version) first in
          absurd (omega (arith, old, version, is, next))

  -- nor a version
  pub no-version : (k : ℕ) (v : Version) {A : Type 0} → version_at p.versions k ≡ Some v → k ≡ number → A
  no-version k v found is =
      let got = all-found (λ (v : Version). v.number ≤ newest_number p) (λ v. v.number == k) p.versions v (versions_below p sound.well) found in
      let same : v.number ≡ k = eqb-true v.number k got.1 in
      let below : v.number ≤ newest_number p = got.0 in
      absurd (omega (arith, below, same, is, next))

  pub number-reload : newest_number (with_reload p clock number plan) ≡ number
  number-reload =
      let last : newest (with_reload p clock number plan).versions ≡ Some fresh =
      newest-filter (λ version. is_needed p.frontends number version.number) (p.versions ++ fresh ∷ []) fresh (newest-end p.versions fresh) (or_left (number == number) (list_any (has_version number) p.frontends) (eq-eqb number number refl)) in
      ap (λ o. option_map_or (λ (version : Version). version.number) o 0) last

  -- The tables of the new version are kept as they are written.

  stays-written : (id : TableId) (t : Table) → IsSome (table_at (with_reload p clock number plan).tables id) → IsWritten p.tables (t, id) → IsWritten (with_reload p clock number plan).tables (t, id)
  stays-written id t there was = by (table_at p.tables id) refl
    where
      by : (o : Option TableState) → table_at p.tables id ≡ o → IsWritten (with_reload p clock number plan).tables (t, id)
      by None e = nothing (rw e at was)
      by (Some s) e =
          let now : table_at (with_reload p clock number plan).tables id ≡ Some s = table-stays id there ∙ ap (λ o. option_or o (table_at begun id)) e in
          rw now (rw e at was)

  before-written : AllByRecursion (IsWritten p.tables) (written_tables (newest p.versions))
  before-written =
      let v = newest_of p sound.well in
      subst (λ (o : Option Version). AllByRecursion (IsWritten p.tables) (written_tables o)) (sym v.1) (sound.written (newest_number p) v.0 (newest-there p sound.well v.0 v.1).1)

  begun-written : AllByRecursion (λ (s : TableState). slice_get plan.tables s.id.position ≡ Some s.table) (new_tables number (written_tables (newest p.versions)) plan.tables)
  begun-written =
      all-map (λ (s : TableState). slice_get plan.tables s.id.position ≡ Some s.table) (new_table number) (filter (is_new before) (enumerate_from 0 plan.tables))
      (all-filter (λ (pair : ℕ × Table). slice_get plan.tables (new_table number pair).id.position ≡ Some (new_table number pair).table) (is_new before) (enumerate_from 0 plan.tables)
      (all-more (λ (pair : ℕ × Table). slice_get plan.tables pair.0 ≡ Some pair.1) (λ (pair : ℕ × Table). slice_get plan.tables (new_table number pair).id.position ≡ Some (new_table number pair).table) (enumerate_from 0 plan.tables)
      (λ pair is. is) (enumerate-get plan.tables 0 plan.tables (λ j. let place : 0 + j ≡ j = omega arith in ap (slice_get plan.tables) place))))

  new-written : (k : ℕ) (t : Table) → slice_get plan.tables k ≡ Some t → IsSome (table_at (with_reload p clock number plan).tables (next_id number (written_tables (newest p.versions)) (k, t))) →
      IsWritten (with_reload p clock number plan).tables (t, next_id number (written_tables (newest p.versions)) (k, t))
  new-written k t place there = by (find (λ (pair : Table × TableId). same_table pair.0 t) before) refl
    where
      empty : (s : TableState) → table_at (new_tables number (written_tables (newest p.versions)) plan.tables) (record { version = number; position = k }) ≡ Some s → s.table ≡ t
      empty s e =
          let got = all-found (λ (s : TableState). slice_get plan.tables s.id.position ≡ Some s.table) (λ s. same_id s.id (record { version = number; position = k })) begun s begun-written e in
          let at : s.id.position ≡ k = ap (λ (i : TableId). i.position) (same_id-is s.id (record { version = number; position = k }) got.1) in
          some_same (sym got.0 ∙ ap (slice_get plan.tables) at ∙ place)

      begins : (id : TableId) → id ≡ record { version = number; position = k } → IsSome (table_at (with_reload p clock number plan).tables id) → IsWritten (with_reload p clock number plan).tables (t, id)
      begins id is there = at (table_at (with_reload p clock number plan).tables id) refl there
        where
          at : (o : Option TableState) → table_at (with_reload p clock number plan).tables id ≡ o → IsSome (table_at (with_reload p clock number plan).tables id) → IsWritten (with_reload p clock number plan).tables (t, id)
          at None e some = absurd (false≢true (rw e at some))
          at (Some s) e some =
              let none : table_at p.tables id ≡ None = none-yet id (ap (λ (i : TableId). i.version) is) in
              let found : table_at begun id ≡ Some s = sym (table-stays id there ∙ ap (λ o. option_or o (table_at begun id)) none) ∙ e in
              rw e (ap Some (empty s (ap (table_at begun) (sym is) ∙ found)))

      by : (o : Option (Table × TableId)) → find (λ (pair : Table × TableId). same_table pair.0 t) before ≡ o → IsWritten (with_reload p clock number plan).tables (t, next_id number (written_tables (newest p.versions)) (k, t))
      by None e =
          let first : next_id number before (k, t) ≡ record { version = number; position = k } =
          ap (λ (o : Option (Table × TableId)). option_map_or (λ (id : TableId). id) (option_map (λ (pair : Table × TableId). pair.1) o) (record { version = number; position = k })) e in
          begins (next_id number before (k, t)) first there
      by (Some pair) e =
          let first : next_id number before (k, t) ≡ pair.1 =
          ap (λ (o : Option (Table × TableId)). option_map_or (λ (id : TableId). id) (option_map (λ (pair : Table × TableId). pair.1) o) (record { version = number; position = k })) e in
          let got = all-found (IsWritten p.tables) (λ (pair : Table × TableId). same_table pair.0 t) before pair before-written e in
          let same : pair.0 ≡ t = table-same pair.0 t got.1 in
          let there' : IsSome (table_at (with_reload p clock number plan).tables pair.1) = subst (λ i. IsSome (table_at (with_reload p clock number plan).tables i)) first there in
          let was : IsWritten p.tables (t, pair.1) = subst (λ (x : Table). IsWritten p.tables (x, pair.1)) same got.0 in
          subst (λ i. IsWritten (with_reload p clock number plan).tables (t, i)) (sym first) (stays-written pair.1 t there' was)

  zip-written : (k : ℕ) (ts : List Table) → ((j : ℕ) → slice_get plan.tables (k + j) ≡ slice_get ts j) →
      AllByRecursion (λ (pair : Table × TableId). IsSome (table_at (with_reload p clock number plan).tables pair.1) → IsWritten (with_reload p clock number plan).tables pair)
      (zip ts (map (next_id number (written_tables (newest p.versions))) (enumerate_from k ts)))
  zip-written k [] same = tt
  zip-written k (t ∷ ts) same = (
    (λ there. new-written k t (let place : k + 0 ≡ k = omega arith in ap (slice_get plan.tables) (sym place) ∙ same 0) there),
    zip-written (k + 1) ts (λ j. let place : (k + 1) + j ≡ k + suc j = omega arith in ap (slice_get plan.tables) place ∙ same (suc j)),
  )

  pub sound-reload : LinesDiffer plan → IsSound (with_reload p clock number plan)
  sound-reload differ = record { well = well'; written = written; lines = lines; offers = offers }
    where
      lines : (k : ℕ) (v' : Version) → version_at (with_reload p clock number plan).versions k ≡ Some v' → LinesDiffer v'.plan
      lines k v' found = elim (version-reload k v' found) [
        | inl old ↦ sound.lines k v' old
        | inr new ↦ subst (λ (v : Version). LinesDiffer v.plan) (sym new.1) differ
      ]

      -- a row's version is none that is new
      row-of_line : (number' : ℕ) (phase : Phase) → IsSome (version_at p.versions number') → IsOfLine p.versions number' phase → IsOfLine (with_reload p clock number plan).versions number' phase
      row-of_line number' (Waiting rest) kept of_line = tt
      row-of_line number' (Up assignment) kept of_line = tt
      row-of_line number' (Offered given) kept of_line = λ version backend there found. of_line version backend (old version (version_at p.versions number') refl kept (version-reload number' version there)) found
        where
          old : (version : Version) (o : Option Version) → version_at p.versions number' ≡ o → IsSome (version_at p.versions number') →
              (version_at p.versions number' ≡ Some version) ⊎ ((number' ≡ number) × (version ≡ next_version number (written_tables (newest p.versions)) plan)) → version_at p.versions number' ≡ Some version
          old version o e some (inl was) = was
          old version None e some (inr new) = absurd (false≢true (rw e at some))
          old version (Some v) e some (inr new) = no-version number' v e new.0

      offers : (n : ℕ) (own : FrontendRows) → slice_get p.frontends n ≡ Some own → AllByRecursion (λ (row : Row). IsOfLine (with_reload p clock number plan).versions row.version row.phase) own.rows
      offers n own there =
          all-more (λ (row : Row). IsSome (version_at p.versions row.version) × IsOfLine p.versions row.version row.phase) (λ (row : Row). IsOfLine (with_reload p clock number plan).versions row.version row.phase) own.rows
          (λ row known. row-of_line row.version row.phase known.0 known.1)
          (all-both (λ (row : Row). IsSome (version_at p.versions row.version)) (λ (row : Row). IsOfLine p.versions row.version row.phase) own.rows (well_at p sound.well n own there).kept (sound.offers n own there))

      old-pairs : (k : ℕ) (v' : Version) → version_at p.versions k ≡ Some v' → AllByRecursion (λ (pair : Table × TableId). IsSome (table_at (with_reload p clock number plan).tables pair.1) → IsWritten (with_reload p clock number plan).tables pair) (written_tables (Some v'))
      old-pairs k v' old =
          all-more (IsWritten p.tables) (λ (pair : Table × TableId). IsSome (table_at (with_reload p clock number plan).tables pair.1) → IsWritten (with_reload p clock number plan).tables pair) (written_tables (Some v'))
          (λ pair was there. stays-written pair.1 pair.0 there was) (sound.written k v' old)

      pairs : (k : ℕ) (v' : Version) → (version_at p.versions k ≡ Some v') ⊎ ((k ≡ number) × (v' ≡ fresh)) →
          AllByRecursion (λ (pair : Table × TableId). IsSome (table_at (with_reload p clock number plan).tables pair.1) → IsWritten (with_reload p clock number plan).tables pair) (written_tables (Some v'))
      pairs k v' (inl old) = old-pairs k v' old
      pairs k v' (inr (at, new)) =
          subst (λ (v : Version). AllByRecursion (λ (pair : Table × TableId). IsSome (table_at (with_reload p clock number plan).tables pair.1) → IsWritten (with_reload p clock number plan).tables pair) (written_tables (Some v))) (sym new)
          (zip-written 0 plan.tables (λ j. let place : 0 + j ≡ j = omega arith in ap (slice_get plan.tables) place))

      written : (k : ℕ) (v' : Version) → version_at (with_reload p clock number plan).versions k ≡ Some v' → AllByRecursion (IsWritten (with_reload p clock number plan).tables) (written_tables (Some v'))
      written k v' found =
          all-more
          (λ (pair : Table × TableId). IsSome (table_at (with_reload p clock number plan).tables pair.1) × (IsSome (table_at (with_reload p clock number plan).tables pair.1) → IsWritten (with_reload p clock number plan).tables pair))
          (IsWritten (with_reload p clock number plan).tables) (written_tables (Some v')) (λ pair both'. both'.1 both'.0)
          (all-both (λ (pair : Table × TableId). IsSome (table_at (with_reload p clock number plan).tables pair.1))
          (λ (pair : Table × TableId). IsSome (table_at (with_reload p clock number plan).tables pair.1) → IsWritten (with_reload p clock number plan).tables pair) (written_tables (Some v'))
          (listed-there (with_reload p clock number plan) well' k v' found) (pairs k v' (version-reload k v' found)))

  -- The part stays apart.
  pub apart-reload : (part : Part) → IsApart part p → keeps_apart part plan ≡ true → IsApart part (with_reload p clock number plan)
  apart-reload part apart keeps = record { plans = plans; named = apart.named; outside = outside; inside = inside }
    where
      plans : (k : ℕ) (v' : Version) → version_at (with_reload p clock number plan).versions k ≡ Some v' → keeps_apart part v'.plan ≡ true
      plans k v' found = elim (version-reload k v' found) [
        | inl old ↦ apart.plans k v' old
        | inr new ↦ ap (λ (v : Version). keeps_apart part v.plan) new.1 ∙ keeps
      ]

      owns : (id : TableId) → IsSome (table_at p.tables id) → owns_id part p.tables id ≡ false → owns_id part (with_reload p clock number plan).tables id ≡ false
      owns id there out = by (table_at p.tables id) refl there (table-reload id)
        where
          by : (o : Option TableState) → table_at p.tables id ≡ o → IsSome (table_at p.tables id) →
              (table_at (with_reload p clock number plan).tables id ≡ None) ⊎ (table_at (with_reload p clock number plan).tables id ≡ option_or (table_at p.tables id) (table_at begun id)) →
              owns_id part (with_reload p clock number plan).tables id ≡ false
          by o e is (inl none) = ap (λ o. option_map_or (λ (s : TableState). owns_table part s.table) o false) none
          by None e is (inr same) = absurd (false≢true (rw e at is))
          by (Some s) e is (inr same) =
              ap (λ o. option_map_or (λ (s : TableState). owns_table part s.table) o false) (same ∙ ap (λ o. option_or o (table_at begun id)) e ∙ sym e) ∙ out

      tracked : (n : ℕ) (own : FrontendRows) → slice_get p.frontends n ≡ Some own → AllByRecursion (λ (row : Row). AllByRecursion (λ (t : Track). IsSome (table_at p.tables t.table)) row.tracks) own.rows
      tracked n own there =
          all-more (λ (row : Row). AllByRecursion (IsTrackListed (tables_of p.versions row.version) p.tables) row.tracks) (λ (row : Row). AllByRecursion (λ (t : Track). IsSome (table_at p.tables t.table)) row.tracks) own.rows
          (λ row all. all-more (IsTrackListed (tables_of p.versions row.version) p.tables) (λ (t : Track). IsSome (table_at p.tables t.table)) row.tracks (λ t known. listed_there p.tables t known.key) all)
          (all-at (λ (own : FrontendRows). AllByRecursion (λ (row : Row). AllByRecursion (IsTrackListed (tables_of p.versions row.version) p.tables) row.tracks) own.rows) p.frontends n own sound.well.tracks there)

      outside : (n : ℕ) (own : FrontendRows) → part.frontends n ≡ false → slice_get p.frontends n ≡ Some own → AllByRecursion (IsOutside part (with_reload p clock number plan).tables) own.rows
      outside n own out there =
          all-more (λ (row : Row). AllByRecursion (λ (t : Track). IsSome (table_at p.tables t.table)) row.tracks × IsOutside part p.tables row) (IsOutside part (with_reload p clock number plan).tables) own.rows
          (λ row known. record {
            tracks = all-more (λ (t : Track). IsSome (table_at p.tables t.table) × (owns_id part p.tables t.table ≡ false)) (λ (t : Track). owns_id part (with_reload p clock number plan).tables t.table ≡ false) row.tracks
                (λ t both'. owns t.table both'.0 both'.1)
                (all-both (λ (t : Track). IsSome (table_at p.tables t.table)) (λ (t : Track). owns_id part p.tables t.table ≡ false) row.tracks known.0 known.1.tracks);
            offered = known.1.offered;
          })
          (all-both (λ (row : Row). AllByRecursion (λ (t : Track). IsSome (table_at p.tables t.table)) row.tracks) (IsOutside part p.tables) own.rows (tracked n own there) (apart.outside n own out there))

      inside : (n : ℕ) (own : FrontendRows) → part.frontends n ≡ true → slice_get p.frontends n ≡ Some own → AllByRecursion (IsInside part (with_reload p clock number plan).versions) own.rows
      inside n own in' there =
          all-more (λ (row : Row). (IsSome (version_at (with_reload p clock number plan).versions row.version) × IsSome (version_at p.versions row.version)) × IsInside part p.versions row)
          (IsInside part (with_reload p clock number plan).versions) own.rows
          (λ row known. row-inside row (version_at (with_reload p clock number plan).versions row.version) refl (version_at p.versions row.version) refl known.0.0 known.0.1 known.1)
          (all-both (λ (row : Row). IsSome (version_at (with_reload p clock number plan).versions row.version) × IsSome (version_at p.versions row.version)) (IsInside part p.versions) own.rows
          (all-both (λ (row : Row). IsSome (version_at (with_reload p clock number plan).versions row.version)) (λ (row : Row). IsSome (version_at p.versions row.version)) own.rows
          (well_at (with_reload p clock number plan) well' n own there).kept (well_at p sound.well n own there).kept) (apart.inside n own in' there))
        where
          row-inside : (row : Row) (o : Option Version) → version_at (with_reload p clock number plan).versions row.version ≡ o → (o' : Option Version) → version_at p.versions row.version ≡ o' →
              IsSome (version_at (with_reload p clock number plan).versions row.version) → IsSome (version_at p.versions row.version) → IsInside part p.versions row → IsInside part (with_reload p clock number plan).versions row
          row-inside row None e o' e' now was inside = absurd (false≢true (rw e at now))
          row-inside row (Some v') e None e' now was inside = absurd (false≢true (rw e' at was))
          row-inside row (Some v') e (Some v) e' now was inside = elim (version-reload row.version v' e) [
            | inl old ↦ record { tracks = rw e (rw old at inside.tracks); offered = inside.offered }
            | inr new ↦ no-version row.version v e' new.0
          ]

-- A reload in two states that look alike.
module _ (part : Part) (p q : Plain) (sound : IsSound p) (sound' : IsSound q) (agree : LookAlike part p q) (clock clock' number : ℕ)
    (alive : tables_alive clock (open_tracks p.frontends) p.tables ≡ p.tables) (alive' : tables_alive clock' (open_tracks q.frontends) q.tables ≡ q.tables) (plan : Plan) (next : number ≡ newest_number p + 1) (next' : number ≡ newest_number q + 1)
    (well : IsWell (with_reload p clock number plan)) (well' : IsWell (with_reload q clock' number plan)) (keeps : keeps_apart part plan ≡ true) where
  before-same : written_tables (newest p.versions) ≡ written_tables (newest q.versions)
  before-same =
      let v = newest_of p sound.well in
      let w = newest_of q sound'.well in
      let alike : IsAlike part p.tables q.tables v.0 w.0 = newest-alike part p q sound sound' agree v.0 w.0 v.1 w.1 in
      ap written_tables v.1 ∙ ap (λ (x : Plan). zip x.tables v.0.tables) alike.plan ∙ ap (λ ids. zip w.0.plan.tables ids) alike.tables ∙ sym (ap written_tables w.1)

  -- what the part owned before is the same in both
  old-same : (id : TableId) → list_any (λ (pair : Table × TableId). owns_table part pair.0 && same_id pair.1 id) (written_tables (newest p.versions)) ≡ true → table_at p.tables id ≡ table_at q.tables id
  old-same id own =
      let v = newest_of p sound.well in
      let w = newest_of q sound'.well in
      let alike : IsAlike part p.tables q.tables v.0 w.0 = newest-alike part p q sound sound' agree v.0 w.0 v.1 w.1 in
      alike.entries id (rw v.1 at own)

  found-own : (t : Table) (pair : Table × TableId) (pairs : List (Table × TableId)) → owns_table part t ≡ true → find (λ (pair : Table × TableId). same_table pair.0 t) pairs ≡ Some pair →
      list_any (λ (other : Table × TableId). owns_table part other.0 && same_id other.1 pair.1) pairs ≡ true
  found-own t pair pairs owned e =
      find-any (λ (pair : Table × TableId). same_table pair.0 t) (λ (other : Table × TableId). owns_table part other.0 && same_id other.1 pair.1) pairs pair e
      (let got = all-found (λ (x : Table × TableId). Unit {0}) (λ (pair : Table × TableId). same_table pair.0 t) pairs pair (units pairs) e in
      rw (ap (owns_table part) (table-same pair.0 t got.1) ∙ owned, same_id-refl pair.1) refl)
    where
      units : (pairs : List (Table × TableId)) → AllByRecursion (λ (x : Table × TableId). Unit {0}) pairs
      units [] = tt
      units (x ∷ pairs) = (tt, units pairs)

  -- and what it owns now was
  now-same : (k : ℕ) (ts : List Table) → AllByRecursion (λ (pair : Table × TableId). owns_table part pair.0 ≡ true → table_at p.tables pair.1 ≡ table_at q.tables pair.1)
      (zip ts (map (next_id number (written_tables (newest p.versions))) (enumerate_from k ts)))
  now-same k [] = tt
  now-same k (t ∷ ts) = ((λ owned. by owned (find (λ (pair : Table × TableId). same_table pair.0 t) (written_tables (newest p.versions))) refl), now-same (k + 1) ts)
    where
      by : owns_table part t ≡ true → (o : Option (Table × TableId)) → find (λ (pair : Table × TableId). same_table pair.0 t) (written_tables (newest p.versions)) ≡ o →
          table_at p.tables (next_id number (written_tables (newest p.versions)) (k, t)) ≡ table_at q.tables (next_id number (written_tables (newest p.versions)) (k, t))
      by owned None e =
          let first : next_id number (written_tables (newest p.versions)) (k, t) ≡ record { version = number; position = k } =
          ap (λ (o : Option (Table × TableId)). option_map_or (λ (id : TableId). id) (option_map (λ (pair : Table × TableId). pair.1) o) (record { version = number; position = k })) e in
          let version : (next_id number (written_tables (newest p.versions)) (k, t)).version ≡ number = ap (λ (i : TableId). i.version) first in
          none-yet p sound clock number alive plan next well (next_id number (written_tables (newest p.versions)) (k, t)) version
          ∙ sym (none-yet q sound' clock' number alive' plan next' well' (next_id number (written_tables (newest p.versions)) (k, t)) version)
      by owned (Some pair) e =
          let first : next_id number (written_tables (newest p.versions)) (k, t) ≡ pair.1 =
          ap (λ (o : Option (Table × TableId)). option_map_or (λ (id : TableId). id) (option_map (λ (pair : Table × TableId). pair.1) o) (record { version = number; position = k })) e in
          subst (λ i. table_at p.tables i ≡ table_at q.tables i) (sym first) (old-same pair.1 (found-own t pair (written_tables (newest p.versions)) owned e))

  fresh-same : next_version number (written_tables (newest p.versions)) plan ≡ next_version number (written_tables (newest q.versions)) plan
  fresh-same = ap (λ before. next_version number before plan) before-same

  entries-same : (k : ℕ) (v' w' : Version) (id : TableId) → version_at (with_reload p clock number plan).versions k ≡ Some v' → version_at (with_reload q clock' number plan).versions k ≡ Some w' →
      is_own_id part v' id ≡ true → is_own_id part w' id ≡ true → table_at p.tables id ≡ table_at q.tables id →
      table_at (with_reload p clock number plan).tables id ≡ table_at (with_reload q clock' number plan).tables id
  entries-same k v' w' id there there' own own' same =
      table-stays p sound clock number alive plan next well id (own-there part (with_reload p clock number plan) well k v' id there own)
      ∙ ap (λ o. option_or o (table_at (new_tables number (written_tables (newest p.versions)) plan.tables) id)) same
      ∙ ap (λ before. option_or (table_at q.tables id) (table_at (new_tables number before plan.tables) id)) before-same
      ∙ sym (table-stays q sound' clock' number alive' plan next' well' id (own-there part (with_reload q clock' number plan) well' k w' id there' own'))

  -- versions that were kept
  old-alike : (k : ℕ) (v w : Version) → version_at (with_reload p clock number plan).versions k ≡ Some v → version_at (with_reload q clock' number plan).versions k ≡ Some w →
      IsAlike part p.tables q.tables v w → IsAlike part (with_reload p clock number plan).tables (with_reload q clock' number plan).tables v w
  old-alike k v w there there' alike = record {
    number = alike.number;
    plan = alike.plan;
    tables = alike.tables;
    cursors = alike.cursors;
    entries = λ id own. entries-same k v w id there there' own (turned id own) (alike.entries id own);
  }
    where
      turned : (id : TableId) → is_own_id part v id ≡ true → is_own_id part w id ≡ true
      turned id own =
          ap (λ (x : Plan). list_any (λ (pair : Table × TableId). owns_table part pair.0 && same_id pair.1 id) (zip x.tables w.tables)) (sym alike.plan)
          ∙ ap (λ ids. list_any (λ (pair : Table × TableId). owns_table part pair.0 && same_id pair.1 id) (zip v.plan.tables ids)) (sym alike.tables) ∙ own

  -- the new ones
  new-alike : (v w : Version) → version_at (with_reload p clock number plan).versions number ≡ Some v → version_at (with_reload q clock' number plan).versions number ≡ Some w →
      v ≡ next_version number (written_tables (newest p.versions)) plan → w ≡ next_version number (written_tables (newest q.versions)) plan →
      IsAlike part (with_reload p clock number plan).tables (with_reload q clock' number plan).tables v w
  new-alike v w there there' is is' =
      let same : v ≡ w = is ∙ fresh-same ∙ sym is' in
      record {
        number = ap (λ (x : Version). x.number) same;
        plan = ap (λ (x : Version). x.plan) same;
        tables = ap (λ (x : Version). x.tables) same;
        cursors = λ n owns. ap (λ (x : Version). slice_get x.cursors n) same;
        entries = λ id own. entries-same number v w id there there' own (ap (λ (x : Version). is_own_id part x id) (sym same) ∙ own) (owned id (ap (λ (x : Version). is_own_id part x id) (sym is) ∙ own));
      }
    where
      owned : (id : TableId) → is_own_id part (next_version number (written_tables (newest p.versions)) plan) id ≡ true → table_at p.tables id ≡ table_at q.tables id
      owned id own =
          let got = any-of (λ (pair : Table × TableId). owns_table part pair.0 ≡ true → table_at p.tables pair.1 ≡ table_at q.tables pair.1) (λ (pair : Table × TableId). owns_table part pair.0 && same_id pair.1 id)
          (written_tables (Some (next_version number (written_tables (newest p.versions)) plan))) (now-same 0 plan.tables) own in
          let pair : Table × TableId = got.0 in
          let parts = both (owns_table part pair.0) (same_id pair.1 id) got.2 in
          subst (λ i. table_at p.tables i ≡ table_at q.tables i) (same_id-is pair.1 id parts.1) (got.1 parts.0)

  versions-alike : (k : ℕ) → IsMeant part (with_reload p clock number plan) k → (v w : Version) → version_at (with_reload p clock number plan).versions k ≡ Some v →
      version_at (with_reload q clock' number plan).versions k ≡ Some w → IsAlike part (with_reload p clock number plan).tables (with_reload q clock' number plan).tables v w
  versions-alike k meant v w there there' = by (version-reload p sound clock number alive plan next well k v there) (version-reload q sound' clock' number alive' plan next' well' k w there')
    where
      was : version_at p.versions k ≡ Some v → IsMeant part (with_reload p clock number plan) k → IsMeant part p k
      was found (inl newest') = no-version p sound clock number alive plan next well k v found (newest' ∙ number-reload p sound clock number alive plan next well)
      was found (inr row) = inr row

      by : (version_at p.versions k ≡ Some v) ⊎ ((k ≡ number) × (v ≡ next_version number (written_tables (newest p.versions)) plan)) →
          (version_at q.versions k ≡ Some w) ⊎ ((k ≡ number) × (w ≡ next_version number (written_tables (newest q.versions)) plan)) →
          IsAlike part (with_reload p clock number plan).tables (with_reload q clock' number plan).tables v w
      by (inl old) (inl old') = old-alike k v w there there' (agree.versions k (was old meant) v w old old')
      by (inl old) (inr (at, new')) = no-version p sound clock number alive plan next well k v old at
      by (inr (at, new')) (inl old') = no-version q sound' clock' number alive' plan next' well' k w old' at
      by (inr (at, new')) (inr (at', new'')) =
          new-alike v w (ap (version_at (with_reload p clock number plan).versions) (sym at) ∙ there) (ap (version_at (with_reload q clock' number plan).versions) (sym at) ∙ there') new' new''

  pub alike-reload : LookAlike part (with_reload p clock number plan) (with_reload q clock' number plan)
  alike-reload = record {
    listeners = agree.listeners;
    names = agree.names;
    number = number-reload p sound clock number alive plan next well ∙ sym (number-reload q sound' clock' number alive' plan next' well');
    frontends = agree.frontends;
    versions = versions-alike;
    down = agree.down;
    left = apart-reload p sound clock number alive plan next well part agree.left keeps;
    right = apart-reload q sound' clock' number alive' plan next' well' part agree.right keeps;
  }

-- What an accepted reload is.
pub record Reloads (p : Plain) (moment : ℕ) (text : List ℕ) (reply : Reply) : Type 0 where
  pub plan : Plan
  pub meant : meaning text ≡ Ok plan
  pub state : after p (entry moment (Reload text) reply ∷ []) ≡ with_reload p (max p.clock moment) (newest_number p + 1) plan
  pub well : IsWell (with_reload p (max p.clock moment) (newest_number p + 1) plan)

pub reloads : (p : Plain) → IsWell p → (moment : ℕ) (text : List ℕ) (reply : Reply) → answer_in p moment (Reload text) ≡ Ok reply → Reloads p moment text reply
reloads p well moment text reply is =
    let got : Followed (at_moment moment p) text reply = followed (at_moment moment p) text reply is in
    let number : newest_number p ≡ got.version.number = ap (λ o. option_map_or (λ (version : Version). version.number) o 0) got.newest_is in
    let said : reply ≡ reply_of (Reloaded (newest_number p + 1)) = sym got.reply_is ∙ ap (λ n. reply_of (Reloaded (n + 1))) (sym number) in
    let state : after p (entry moment (Reload text) reply ∷ []) ≡ with_reload p (max p.clock moment) (newest_number p + 1) got.plan =
    ap (λ r. after p (entry moment (Reload text) r ∷ [])) said ∙ after-reload p well moment (newest_number p + 1) text got.plan got.meant in
    record {
      plan = got.plan;
      meant = got.meant;
      state = state;
      well = subst IsWell state (well_after p well (entry moment (Reload text) reply ∷ []) (legal_one p well (entry moment (Reload text) reply) is));
    }

-- a state after a reload, where those are left of its tables
abbrev with_tables : Plain → ℕ → ℕ → Plan → List TableState → Plain
with_tables p clock number plan tables = record (with_reload p clock number plan) {
  tables = filter (is_listed_by (with_reload p clock number plan).versions) (tables ++ new_tables number (written_tables (newest p.versions)) plan.tables);
}

-- time makes nothing of tables that begin
new-alive : (moment : ℕ) (tracks : List Track) (version : ℕ) (places : List (ℕ × Table)) → tables_alive moment tracks (map (new_table version) places) ≡ map (new_table version) places
new-alive moment tracks version [] = refl
new-alive moment tracks version (place ∷ places) = ap (λ ts. new_table version place ∷ ts) (new-alive moment tracks version places)

alive-append : (moment : ℕ) (tracks : List Track) (ts us : List TableState) → tables_alive moment tracks (ts ++ us) ≡ tables_alive moment tracks ts ++ tables_alive moment tracks us
alive-append moment tracks [] us = refl
alive-append moment tracks (t ∷ ts) us = ap (λ rest. table_alive moment tracks t ∷ rest) (alive-append moment tracks ts us)

alive-listed : (moment : ℕ) (tracks : List Track) (versions : List Version) (ts : List TableState) → tables_alive moment tracks (filter (is_listed_by versions) ts) ≡ filter (is_listed_by versions) (tables_alive moment tracks ts)
alive-listed moment tracks versions [] = refl
alive-listed moment tracks versions (t ∷ ts) = by (is_listed_by versions t) refl (alive-listed moment tracks versions ts)
  where
    by : (b : Bool) → is_listed_by versions t ≡ b → tables_alive moment tracks (filter (is_listed_by versions) ts) ≡ filter (is_listed_by versions) (tables_alive moment tracks ts) →
        tables_alive moment tracks (filter (is_listed_by versions) (t ∷ ts)) ≡ filter (is_listed_by versions) (tables_alive moment tracks (t ∷ ts))
    by true e rest = rw e (ap (λ us. table_alive moment tracks t ∷ us) rest)
    by false e rest = rw e rest

-- a state after a reload, as it is at a later moment
reload-at : (p : Plain) (clock moment number : ℕ) (plan : Plan) → clock ≤ moment → p.clock ≤ moment → at_moment moment (with_reload p clock number plan) ≡ with_reload (at_moment moment p) (max p.clock moment) number plan
reload-at p clock moment number plan less late =
    let now : ℕ = max p.clock moment in
    let versions : List Version = (with_reload p clock number plan).versions in
    let begun : List TableState = new_tables number (written_tables (newest p.versions)) plan.tables in
    let tracks : List Track = open_tracks p.frontends in
    let clocks : max clock moment ≡ max p.clock moment = omega (arith, less, late) in
    let left : tables_alive now tracks (filter (is_listed_by versions) (tables_alive clock tracks p.tables ++ begun)) ≡ filter (is_listed_by versions) (tables_alive now tracks (tables_alive clock tracks p.tables) ++ begun) =
    alive-listed now tracks versions (tables_alive clock tracks p.tables ++ begun)
    ∙ ap (filter (is_listed_by versions)) (alive-append now tracks (tables_alive clock tracks p.tables) begun
    ∙ ap (λ us. tables_alive now tracks (tables_alive clock tracks p.tables) ++ us) (new-alive now tracks number (filter (is_new (written_tables (newest p.versions))) (enumerate_from 0 plan.tables)))) in
    let same : tables_alive now tracks (tables_alive clock tracks p.tables) ≡ tables_alive now tracks (tables_alive now tracks p.tables) =
    let before : clock ≤ max p.clock moment = omega (arith, less) in
    let itself : max p.clock moment ≤ max p.clock moment = omega arith in
    tables-twice clock now tracks p.tables before ∙ sym (tables-twice now now tracks p.tables itself) in
    ap (λ n. record (with_reload p clock number plan) { clock = n; tables = tables_alive n tracks (with_reload p clock number plan).tables }) clocks
    ∙ ap (λ ts. record (with_reload p clock number plan) { clock = now; tables = ts }) (left ∙ ap (λ us. filter (is_listed_by versions) (us ++ begun)) same)

-- an accepted reload, made in two states that agree
pub reload-step : (part : Part) (p q : Plain) → IsSound p → IsSound q → Agree part p q → (moment : ℕ) (text : List ℕ) (reply : Reply) → ((plan : Plan) → meaning text ≡ Ok plan → keeps_apart part plan ≡ true) →
    answer_in p moment (Reload text) ≡ Ok reply → answer_in q moment (Reload text) ≡ Ok reply → Agree part (after p (entry moment (Reload text) reply ∷ [])) (after q (entry moment (Reload text) reply ∷ []))
reload-step part p q sound sound' agree moment text reply keeps is is' =
    let one : Reloads p moment text reply = reloads p sound.well moment text reply is in
    let two : Reloads q moment text reply = reloads q sound'.well moment text reply is' in
    let now : ℕ = max (max p.clock moment) (max q.clock moment) in
    let late : p.clock ≤ now = omega arith in
    let late' : q.clock ≤ now = omega arith in
    let plans : one.plan ≡ two.plan = ok_same one.meant two.meant in
    let numbers : newest_number q + 1 ≡ newest_number p + 1 = ap (λ n. n + 1) (sym agree.number) in
    let left : at_moment now (after p (entry moment (Reload text) reply ∷ [])) ≡ with_reload (at_moment now p) (max p.clock now) (newest_number p + 1) one.plan =
    ap (at_moment now) one.state ∙ reload-at p (max p.clock moment) now (newest_number p + 1) one.plan (omega arith) late in
    let right : at_moment now (after q (entry moment (Reload text) reply ∷ [])) ≡ with_reload (at_moment now q) (max q.clock now) (newest_number p + 1) one.plan =
    ap (at_moment now) two.state ∙ reload-at q (max q.clock moment) now (newest_number q + 1) two.plan (omega arith) late'
    ∙ ap (λ n. with_reload (at_moment now q) (max q.clock now) n two.plan) numbers ∙ ap (with_reload (at_moment now q) (max q.clock now) (newest_number p + 1)) (sym plans) in
    let well : IsWell (with_reload (at_moment now p) (max p.clock now) (newest_number p + 1) one.plan) =
    subst IsWell left (at-well (after p (entry moment (Reload text) reply ∷ [])) (subst IsWell (sym one.state) one.well) now) in
    let well' : IsWell (with_reload (at_moment now q) (max q.clock now) (newest_number p + 1) one.plan) =
    subst IsWell right (at-well (after q (entry moment (Reload text) reply ∷ [])) (subst IsWell (sym two.state) two.well) now) in
    let alike : LookAlike part (with_reload (at_moment now p) (max p.clock now) (newest_number p + 1) one.plan) (with_reload (at_moment now q) (max q.clock now) (newest_number p + 1) one.plan) =
    alike-reload part (at_moment now p) (at_moment now q) (at-sound p sound now) (at-sound q sound' now) (agree-at part p q sound agree now late late') (max p.clock now) (max q.clock now) (newest_number p + 1)
    (tables-twice (max p.clock now) (max p.clock now) (open_tracks p.frontends) p.tables (omega arith)) (tables-twice (max q.clock now) (max q.clock now) (open_tracks q.frontends) q.tables (omega arith))
    one.plan refl (sym numbers) well well' (keeps one.plan one.meant) in
    subst (λ s. LookAlike part s (at_moment now (after q (entry moment (Reload text) reply ∷ [])))) (sym left)
    (subst (LookAlike part (with_reload (at_moment now p) (max p.clock now) (newest_number p + 1) one.plan)) (sym right) alike)
  where
    ok_same : {r : Result Plan OpenFault} {a b : Plan} → r ≡ Ok a → r ≡ Ok b → a ≡ b
    ok_same e is = cc

pub sound-after-reload : (p : Plain) → IsSound p → (moment : ℕ) (text : List ℕ) (reply : Reply) → ((plan : Plan) → meaning text ≡ Ok plan → LinesDiffer plan) → answer_in p moment (Reload text) ≡ Ok reply →
    IsSound (after p (entry moment (Reload text) reply ∷ []))
sound-after-reload p sound moment text reply lines is =
    let got : Reloads p moment text reply = reloads p sound.well moment text reply is in
    let now : ℕ = max p.clock moment in
    let same : with_reload p now (newest_number p + 1) got.plan ≡ with_reload (at_moment moment p) now (newest_number p + 1) got.plan =
    ap (λ ts. with_tables p now (newest_number p + 1) got.plan ts) (sym (tables-twice now now (open_tracks p.frontends) p.tables (omega arith))) in
    subst IsSound (sym (got.state ∙ same))
    (sound-reload (at_moment moment p) (at-sound p sound moment) now (newest_number p + 1) (tables-twice now now (open_tracks p.frontends) p.tables (omega arith)) got.plan refl (subst IsWell same got.well) (lines got.plan got.meant))
