-- One step keeps what is known of tables.
use Rattle.std.specs.Prelude.{ℕ, Bool, true, false, List, [], map, max, filter, find, zip, Option, Some, None, IsSome, is_none, option_map, Ok, refl, ◌+◌, ◌≤◌, ◌<◌, ◌≡◌, ◌==◌, ◌&&◌, ◌||◌, ◌∷◌, ◌++◌}
use Rattle.std.specs.List.{list_any, AllByRecursion, enumerate_from}
use Rattle.std.specs.Option.{option_map_or}
use Rattle.std.proofs.Common.{sym, ap, ◌∙◌, subst, arith, append-nil}
use Rattle.std.proofs.lemmas.Bool.{false≢true}
use Rattle.std.proofs.lemmas.Bool.Decides.{nat_tests}
use Rattle.stick_core.specs.PlainEntries.{is_in}
use Rattle.plan_types.specs.declared.plan.Plan.{Plan}
use Rattle.plan_types.specs.declared.plan.Table.{Table}
use Rattle.plan_types.specs.declared.track.TableId.{TableId}
use Rattle.plan_types.specs.declared.track.Track.{Track}
use Rattle.conn_model.specs.declared.reply.Reply.{Reply}
use Rattle.conn_model.specs.declared.plain.TableState.{TableState}
use Rattle.conn_model.specs.declared.plain.Version.{Version}
use Rattle.conn_model.specs.declared.plain.Plain.{Plain}
use Rattle.conn_model.specs.Words.{newest, Rise}
use Rattle.conn_model.specs.Tables.{is_listed, is_listed_by, is_new, new_id, new_table, next_id, open_tracks, same_before, same_id, same_table, table_at, written_tables, IncarnationsDiffer, IsTableWell}
use Rattle.conn_model.specs.Answer.{answer_in, at_moment}
use Rattle.conn_model.specs.History.{frontends_after, in_force, is_needed, judging_version, newest_number, next_version, opening, tables_after, tables_by, tables_of, tables_passed, tables_with, version_of, versions_after, with_said, with_version, after, Entry, AreTablesWell, IsLegal, IsWell}
use Rattle.conn_model.proofs.Lists.{all-append, all-both, all-filter, all-found, all-map, all-more, all-pass, filter-all, or_left, or_right, rise-filter}
use Rattle.conn_model.proofs.Versions.{newest-map, with_said-each, CursorsChange}
use Rattle.conn_model.proofs.Parts.{newest_after}
use Rattle.conn_model.proofs.Kept.{rises, stays, turn, turns, Turn}
use Rattle.conn_model.proofs.VersionSteps.{version_step, version_step-cursors, versions_all, versions_step-each}
use Rattle.conn_model.proofs.Nothing.{after-nil}
use Rattle.conn_model.proofs.Moments.{at-well}
use Rattle.conn_model.proofs.Sources.{has_source, judging, HasSource, IsOfSource}
use Rattle.conn_model.proofs.Listed.{all-in, IsIn}
use Rattle.conn_model.proofs.OneTable.{differ-map, some-map, table_at-map, table_by, table_by-entries, table_by-differ, table_by-fits, key_for, same_id-is, same_id-refl, same_id-sym, tables_by-each, AreOfSource, EntriesChange}

-- Incarnations stay.

differ-filter : (test : TableState → Bool) (tables : List TableState) → IncarnationsDiffer tables → IncarnationsDiffer (filter test tables)
differ-filter test [] differ = tt
differ-filter test (x ∷ tables) differ = by (test x) refl (differ-filter test tables differ.1)
  where
    by : (b : Bool) → test x ≡ b → IncarnationsDiffer (filter test tables) → IncarnationsDiffer (filter test (x ∷ tables))
    by true e rest = rw e (all-filter (λ other. same_id other.id x.id ≡ false) test tables differ.0, rest)
    by false e rest = rw e rest

and_left : (a b : Bool) → a ≡ false → (a && b) ≡ false
and_left a b e = rw e refl

-- where a version parts those that were there and those that begin
differ-append : (m : ℕ) (xs ys : List TableState) → IncarnationsDiffer xs → IncarnationsDiffer ys → AllByRecursion (λ table. table.id.version ≤ m) xs → AllByRecursion (λ table. m < table.id.version) ys →
    IncarnationsDiffer (xs ++ ys)
differ-append m [] ys one two low high = two
differ-append m (x ∷ xs) ys one two low high = (
  all-append (λ other. same_id other.id x.id ≡ false) xs ys one.0
      (all-more (λ table. m < table.id.version) (λ other. same_id other.id x.id ≡ false) ys
      (λ y above.
      let below : x.id.version ≤ m = low.0 in
      let apart : (y.id.version == x.id.version) ≡ false = grind (arith, nat_tests, above, below) in
      and_left (y.id.version == x.id.version) (y.id.position == x.id.position) apart) high),
  differ-append m xs ys one.1 two low.1 high,
)

-- Tables that are found.

-- some version lists the incarnation
abbrev pub lists : List Version → TableId → Bool
lists versions id = list_any (λ version. list_any (same_id id) version.tables) versions

table_at-filter : (test : TableId → Bool) (tables : List TableState) (id : TableId) → test id ≡ true → table_at (filter (λ table. test table.id) tables) id ≡ table_at tables id
table_at-filter test [] id is = refl
table_at-filter test (x ∷ tables) id is = by (test x.id) (same_id x.id id) refl refl (table_at-filter test tables id is)
  where
    by : (a b : Bool) → test x.id ≡ a → same_id x.id id ≡ b → table_at (filter (λ table. test table.id) tables) id ≡ table_at tables id →
        table_at (filter (λ table. test table.id) (x ∷ tables)) id ≡ table_at (x ∷ tables) id
    by true true ea eb rest = rw (ea, eb) refl
    by true false ea eb rest = rw (ea, eb) rest
    by false true ea eb rest = absurd (false≢true (sym ea ∙ ap test (same_id-is x.id id eb) ∙ is))
    by false false ea eb rest = rw (ea, eb) rest

table_at-left : (xs ys : List TableState) (id : TableId) → IsSome (table_at xs id) → table_at (xs ++ ys) id ≡ table_at xs id
table_at-left [] ys id is = absurd (false≢true is)
table_at-left (x ∷ xs) ys id is = by (same_id x.id id) refl (table_at-left xs ys id)
  where
    by : (b : Bool) → same_id x.id id ≡ b → (IsSome (table_at xs id) → table_at (xs ++ ys) id ≡ table_at xs id) → table_at (x ∷ (xs ++ ys)) id ≡ table_at (x ∷ xs) id
    by true e rest = rw e refl
    by false e rest = rw e (rest (rw e at is))

there-cons : (table : TableState) (tables : List TableState) (id : TableId) → IsSome (table_at tables id) → IsSome (table_at (table ∷ tables) id)
there-cons table tables id is = by (same_id table.id id) refl
  where
    by : (b : Bool) → same_id table.id id ≡ b → IsSome (table_at (table ∷ tables) id)
    by true e = rw e refl
    by false e = rw e is

there-right : (xs ys : List TableState) (id : TableId) → IsSome (table_at ys id) → IsSome (table_at (xs ++ ys) id)
there-right [] ys id is = is
there-right (x ∷ xs) ys id is = there-cons x (xs ++ ys) id (there-right xs ys id is)

-- what the version of a number lists
pub listed_in : (versions : List Version) (number : ℕ) (id : TableId) → list_any (same_id id) (tables_of versions number) ≡ true → lists versions id ≡ true
listed_in [] number id is = absurd (false≢true is)
listed_in (v ∷ versions) number id is = by (v.number == number) refl (listed_in versions number id)
  where
    by : (b : Bool) → (v.number == number) ≡ b → (list_any (same_id id) (tables_of versions number) ≡ true → lists versions id ≡ true) → lists (v ∷ versions) id ≡ true
    by true e rest = or_left (list_any (same_id id) v.tables) (lists versions id) (rw e at is)
    by false e rest = or_right (list_any (same_id id) v.tables) (lists versions id) (rest (rw e at is))

-- a key that is listed is in a table that is there
pub listed_there : (tables : List TableState) (track : Track) → is_listed tables track ≡ true → IsSome (table_at tables track.table)
listed_there tables track is = by (table_at tables track.table) refl is
  where
    by : (o : Option TableState) → table_at tables track.table ≡ o → option_map_or (λ table. is_in track.key table.entries) o false ≡ true → IsSome (table_at tables track.table)
    by None e found = absurd (false≢true found)
    by (Some table) e found = rw e refl

-- The tables after one step.

-- those that were there, at the moment of the step
abbrev pub passed : Plain → Entry → List TableState
passed q e = (at_moment e.moment q).tables

-- what the step makes of each
abbrev pub table_step : Plain → Entry → TableState → TableState
table_step q e = table_by (max q.clock e.moment) q.frontends e.reply

-- all of them, with those that begin, before any goes
abbrev pub tables_all : Plain → Entry → List TableState
tables_all q e = map (table_step q e) (passed q e) ++ tables_with (newest q.versions) (version_of e)

pub tables_step-by : (q : Plain) → IsWell q → (e : Entry) →
    tables_after q (e ∷ []) ≡ filter (is_listed_by (versions_after q (e ∷ []))) (tables_by (max q.clock e.moment) q.frontends (passed q e) e.reply ++ tables_with (newest q.versions) (version_of e))
tables_step-by q well e =
    ap (λ s. filter (is_listed_by (versions_after q (e ∷ []))) (tables_passed (max s.clock e.moment) s.frontends q.tables e.reply ++ tables_with (newest q.versions) (version_of e))) (after-nil q well)

pub tables_step-each : (q : Plain) → IsWell q → (e : Entry) → tables_after q (e ∷ []) ≡ filter (is_listed_by (versions_after q (e ∷ []))) (tables_all q e)
tables_step-each q well e =
    tables_step-by q well e ∙ ap (λ ts. filter (is_listed_by (versions_after q (e ∷ []))) (ts ++ tables_with (newest q.versions) (version_of e))) (tables_by-each (max q.clock e.moment) q.frontends (passed q e) e.reply)

-- where no version is brought
pub tables_quiet : (q : Plain) → IsWell q → (e : Entry) → version_of e ≡ None →
    tables_after q (e ∷ []) ≡ filter (is_listed_by (versions_after q (e ∷ []))) (tables_by (max q.clock e.moment) q.frontends (passed q e) e.reply)
tables_quiet q well e none =
    tables_step-by q well e
    ∙ ap (λ b. filter (is_listed_by (versions_after q (e ∷ []))) (tables_by (max q.clock e.moment) q.frontends (passed q e) e.reply ++ tables_with (newest q.versions) b)) none
    ∙ ap (λ ts. filter (is_listed_by (versions_after q (e ∷ []))) ts) (append-nil (tables_by (max q.clock e.moment) q.frontends (passed q e) e.reply))

lists-map : (f : Version → Version) → CursorsChange f → (versions : List Version) (id : TableId) → lists (map f versions) id ≡ lists versions id
lists-map f same [] id = refl
lists-map f same (v ∷ versions) id = ap (λ u. list_any (same_id id) u.tables || lists (map f versions) id) (same v) ∙ ap (λ b. list_any (same_id id) v.tables || b) (lists-map f same versions id)

-- and none is forgotten
pub tables_said : (q : Plain) → IsWell q → (e : Entry) → version_of e ≡ None →
    versions_after q (e ∷ []) ≡ with_said (judging_version q.frontends (newest_number q) e.reply.said) e.reply.said q.versions → tables_after q (e ∷ []) ≡ tables_by (max q.clock e.moment) q.frontends (passed q e) e.reply
tables_said q well e none same =
    let versions : versions_after q (e ∷ []) ≡ map (version_step q e) q.versions = same ∙ with_said-each (judging_version q.frontends (newest_number q) e.reply.said) e.reply.said q.versions in
    let each : tables_by (max q.clock e.moment) q.frontends (passed q e) e.reply ≡ map (table_step q e) (passed q e) = tables_by-each (max q.clock e.moment) q.frontends (passed q e) e.reply in
    let listed : AllByRecursion (λ table. is_listed_by (map (version_step q e) q.versions) table ≡ true) (map (table_step q e) (passed q e)) =
    all-map (λ table. is_listed_by (map (version_step q e) q.versions) table ≡ true) (table_step q e) (passed q e)
    (all-more (λ table. is_listed_by q.versions table ≡ true) (λ table. is_listed_by (map (version_step q e) q.versions) (table_step q e table) ≡ true) (passed q e)
    (λ table is. ap (λ t. lists (map (version_step q e) q.versions) t.id) (table_by-entries (max q.clock e.moment) q.frontends e.reply table) ∙ lists-map (version_step q e) (version_step-cursors q e) q.versions table.id ∙ is) (at-well q well e.moment).tables.listed) in
    tables_quiet q well e none ∙ ap (λ vs. filter (is_listed_by vs) (tables_by (max q.clock e.moment) q.frontends (passed q e) e.reply)) versions
    ∙ ap (λ ts. filter (is_listed_by (map (version_step q e) q.versions)) ts) each ∙ filter-all (is_listed_by (map (version_step q e) q.versions)) (map (table_step q e) (passed q e)) listed ∙ sym each

-- a table that was there, and that a kept version lists
pub table_kept : (q : Plain) → IsWell q → (e : Entry) (id : TableId) → lists (versions_after q (e ∷ [])) id ≡ true → IsSome (table_at (map (table_step q e) (passed q e)) id) →
    table_at (tables_after q (e ∷ [])) id ≡ table_at (map (table_step q e) (passed q e)) id
table_kept q well e id listed is =
    ap (λ ts. table_at ts id) (tables_step-each q well e) ∙ table_at-filter (lists (versions_after q (e ∷ []))) (tables_all q e) id listed
    ∙ table_at-left (map (table_step q e) (passed q e)) (tables_with (newest q.versions) (version_of e)) id is

-- Tables that begin.

and_right : (a b : Bool) → b ≡ false → (a && b) ≡ false
and_right true b e = e
and_right false b e = refl

enumerate-above : (k : ℕ) (tables : List Table) → AllByRecursion (λ (pair : ℕ × Table). k ≤ pair.0) (enumerate_from k tables)
enumerate-above k [] = tt
enumerate-above k (table ∷ tables) = (
  omega arith,
  all-more (λ (pair : ℕ × Table). k + 1 ≤ pair.0) (λ (pair : ℕ × Table). k ≤ pair.0) (enumerate_from (k + 1) tables) (λ pair le. omega (arith, le)) (enumerate-above (k + 1) tables),
)

enumerate-rise : (k : ℕ) (tables : List Table) → Rise (λ (pair : ℕ × Table). pair.0) (enumerate_from k tables)
enumerate-rise k [] = tt
enumerate-rise k (table ∷ tables) = (
  all-more (λ (pair : ℕ × Table). k + 1 ≤ pair.0) (λ (pair : ℕ × Table). k < pair.0) (enumerate_from (k + 1) tables) (λ pair le. omega (arith, le)) (enumerate-above (k + 1) tables),
  enumerate-rise (k + 1) tables,
)

new_position : (version : ℕ) (pair : ℕ × Table) → (new_table version pair).id.position ≡ pair.0
new_position version (k, table) = refl

-- where their positions rise
new_differ : (version : ℕ) (pairs : List (ℕ × Table)) → Rise (λ (pair : ℕ × Table). pair.0) pairs → IncarnationsDiffer (map (new_table version) pairs)
new_differ version [] rise = tt
new_differ version (first ∷ pairs) rise = (
  all-map (λ other. same_id other.id (new_table version first).id ≡ false) (new_table version) pairs
      (all-more (λ (pair : ℕ × Table). first.0 < pair.0) (λ pair. same_id (new_table version pair).id (new_table version first).id ≡ false) pairs
      (λ pair above.
      let one : (new_table version pair).id.position ≡ pair.0 = new_position version pair in
      let two : (new_table version first).id.position ≡ first.0 = new_position version first in
      let apart : ((new_table version pair).id.position == (new_table version first).id.position) ≡ false = rw (one, two) (grind (arith, nat_tests, above)) in
      and_right ((new_table version pair).id.version == (new_table version first).id.version) ((new_table version pair).id.position == (new_table version first).id.position) apart) rise.0),
  new_differ version pairs rise.1,
)

-- each of them
new_all : (P : TableState → Type 0) (version : ℕ) → ((k : ℕ) (table : Table) → P (new_table version (k, table))) → (pairs : List (ℕ × Table)) → AllByRecursion P (map (new_table version) pairs)
new_all P version each [] = tt
new_all P version each ((k, table) ∷ pairs) = (each k table, new_all P version each pairs)

-- what is known of those that begin with a step
record HaveBegun (before after' : ℕ) (tables : List TableState) : Type 0 where
  later : AllByRecursion (λ table. before < table.id.version) tables
  within : AllByRecursion (λ table. table.id.version ≤ after') tables
  differ : IncarnationsDiffer tables
  empty : AllByRecursion IsTableWell tables

have_begun : (q : Plain) (e : Entry) → IsLegal q (e ∷ []) → HaveBegun (newest_number q) (in_force (newest_number q) (e ∷ [])) (tables_with (newest q.versions) (version_of e))
have_begun q e legal = by (turn q e [] legal)
  where
    by : Turn q e [] → HaveBegun (newest_number q) (in_force (newest_number q) (e ∷ [])) (tables_with (newest q.versions) (version_of e))
    by (stays none force) =
        subst (λ b. HaveBegun (newest_number q) (in_force (newest_number q) (e ∷ [])) (tables_with (newest q.versions) b)) (sym none)
        (record { later = tt; within = tt; differ = tt; empty = tt })
    by (turns plan some force) =
        let before : List (Table × TableId) = written_tables (newest q.versions) in
        let version : ℕ = newest_number q + 1 in
        let pairs : List (ℕ × Table) = filter (is_new before) (enumerate_from 0 plan.tables) in
        subst (λ b. HaveBegun (newest_number q) (in_force (newest_number q) (e ∷ [])) (tables_with (newest q.versions) b)) (sym some)
        (record {
          later = new_all (λ table. newest_number q < table.id.version) version (λ k table. omega arith) pairs;
          within = new_all (λ table. table.id.version ≤ in_force (newest_number q) (e ∷ [])) version (λ k table. omega (arith, force)) pairs;
          differ = new_differ version pairs (rise-filter (λ (pair : ℕ × Table). pair.0) (is_new before) (enumerate_from 0 plan.tables) (enumerate-rise 0 plan.tables));
          empty = new_all IsTableWell version (λ k table. record { keys = tt; fits = omega arith }) pairs;
        })

-- The tables of each version are there.

zip-all : {X Y : Type 0} (P : Y → Type 0) (xs : List X) (ys : List Y) → AllByRecursion P ys → AllByRecursion (λ (pair : X × Y). P pair.1) (zip xs ys)
zip-all P [] ys all = tt
zip-all P (x ∷ xs) [] all = tt
zip-all P (x ∷ xs) (y ∷ ys) all = (all.0, zip-all P xs ys all.1)

pub newest-all : (P : Version → Type 0) (versions : List Version) (v : Version) → AllByRecursion P versions → newest versions ≡ Some v → P v
newest-all P [] v all there = absurd (let wrong : None ≡ Some v = there in cc)
newest-all P (w ∷ []) v all there = let same : w ≡ v = let it : Some w ≡ Some v = there in cc in subst P same all.0
newest-all P (w ∷ u ∷ versions) v all there = newest-all P (u ∷ versions) v all.1 there

-- those of the version before
written_there : (versions : List Version) (tables : List TableState) → AllByRecursion (λ version. AllByRecursion (λ id. IsSome (table_at tables id)) version.tables) versions →
    AllByRecursion (λ (pair : Table × TableId). IsSome (table_at tables pair.1)) (written_tables (newest versions))
written_there versions tables all = by (newest versions) refl
  where
    by : (o : Option Version) → newest versions ≡ o → AllByRecursion (λ (pair : Table × TableId). IsSome (table_at tables pair.1)) (written_tables o)
    by None e = tt
    by (Some v) e = zip-all (λ id. IsSome (table_at tables id)) v.plan.tables v.tables (newest-all (λ version. AllByRecursion (λ id. IsSome (table_at tables id)) version.tables) versions v all e)

before_there : (before : List (Table × TableId)) (tables : List TableState) (table : Table) (id : TableId) → AllByRecursion (λ (pair : Table × TableId). IsSome (table_at tables pair.1)) before →
    same_before before table ≡ Some id → IsSome (table_at tables id)
before_there before tables table id known is = by (find (λ (pair : Table × TableId). same_table pair.0 table) before) refl is
  where
    by : (o : Option (Table × TableId)) → find (λ (pair : Table × TableId). same_table pair.0 table) before ≡ o → option_map (λ (pair : Table × TableId). pair.1) o ≡ Some id → IsSome (table_at tables id)
    by None e found = absurd (let wrong : None ≡ Some id = found in cc)
    by (Some pair) e found =
        let same : pair.1 ≡ id = let it : Some pair.1 ≡ Some id = found in cc in
        subst (λ i. IsSome (table_at tables i)) same (all-found (λ (pair : Table × TableId). IsSome (table_at tables pair.1)) (λ (pair : Table × TableId). same_table pair.0 table) before pair known e).0

next_there : (version k : ℕ) (before : List (Table × TableId)) (tables : List Table) (all : List TableState) → AllByRecursion (λ (pair : Table × TableId). IsSome (table_at all pair.1)) before →
    ((id : TableId) → IsSome (table_at (map (new_table version) (filter (is_new before) (enumerate_from k tables))) id) → IsSome (table_at all id)) →
    AllByRecursion (λ id. IsSome (table_at all id)) (map (next_id version before) (enumerate_from k tables))
next_there version k before [] all known there = tt
next_there version k before (t ∷ tables) all known there = by (same_before before t) refl (next_there version (k + 1) before tables all known)
  where
    own : TableId
    own = record { version = version; position = k }

    rest : List TableState
    rest = map (new_table version) (filter (is_new before) (enumerate_from (k + 1) tables))

    P : TableId → Type 0
    P = λ id. IsSome (table_at all id)

    by : (o : Option TableId) → same_before before t ≡ o → (((id : TableId) → IsSome (table_at rest id) → IsSome (table_at all id)) → AllByRecursion P (map (next_id version before) (enumerate_from (k + 1) tables))) →
        AllByRecursion P (map (next_id version before) (enumerate_from k (t ∷ tables)))
    by (Some id) e later =
        let first : next_id version before (k, t) ≡ id = ap (λ o. option_map_or (λ i. i) o own) e in
        let old : is_new before (k, t) ≡ false = ap is_none e in
        let new' : map (new_table version) (filter (is_new before) (enumerate_from k (t ∷ tables))) ≡ rest = rw old refl in
        (subst P (sym first) (before_there before all t id known e), later (λ i is. there i (subst (λ ts. IsSome (table_at ts i)) (sym new') is)))
    by None e later =
        let first : next_id version before (k, t) ≡ own = ap (λ o. option_map_or (λ i. i) o own) e in
        let begins : is_new before (k, t) ≡ true = ap is_none e in
        let new' : map (new_table version) (filter (is_new before) (enumerate_from k (t ∷ tables))) ≡ new_table version (k, t) ∷ rest = rw begins refl in
        let here : IsSome (table_at (new_table version (k, t) ∷ rest) own) = rw (same_id-refl own) refl in (
          subst P (sym first) (there own (subst (λ ts. IsSome (table_at ts own)) (sym new') here)),
          later (λ i is. there i (subst (λ ts. IsSome (table_at ts i)) (sym new') (there-cons (new_table version (k, t)) rest i is))),
        )

written-map : (f : Version → Version) → CursorsChange f → (o : Option Version) → written_tables (option_map f o) ≡ written_tables o
written-map f same None = refl
written-map f same (Some v) = ap (λ u. zip u.plan.tables u.tables) (same v)

abbrev AllThere : List TableState → List Version → Type 0
AllThere tables versions = AllByRecursion (λ version. AllByRecursion (λ id. IsSome (table_at tables id)) version.tables) versions

all_there : (q : Plain) → IsWell q → (e : Entry) (b : Option (ℕ × Plan)) →
    AllThere (map (table_step q e) (passed q e) ++ tables_with (newest q.versions) b) (with_version (map (version_step q e) q.versions) b)
all_there q well e b = by b
  where
    f : TableState → TableState
    f = table_step q e

    old : (more : List TableState) (id : TableId) → IsSome (table_at (passed q e) id) → IsSome (table_at (map f (passed q e) ++ more) id)
    old more id is =
        let mapped : IsSome (table_at (map f (passed q e)) id) = subst IsSome (sym (table_at-map f (table_by-entries (max q.clock e.moment) q.frontends e.reply) (passed q e) id)) (some-map f (table_at (passed q e) id) is) in
        subst IsSome (sym (table_at-left (map f (passed q e)) more id mapped)) mapped

    each : (more : List TableState) → AllThere (map f (passed q e) ++ more) q.versions
    each more =
        all-more (λ version. AllByRecursion (λ id. IsSome (table_at (passed q e) id)) version.tables) (λ version. AllByRecursion (λ id. IsSome (table_at (map f (passed q e) ++ more) id)) version.tables) q.versions
        (λ version all. all-more (λ id. IsSome (table_at (passed q e) id)) (λ id. IsSome (table_at (map f (passed q e) ++ more) id)) version.tables (old more) all) (at-well q well e.moment).tables.there

    moved : (more : List TableState) → AllThere (map f (passed q e) ++ more) (map (version_step q e) q.versions)
    moved more =
        all-map (λ version. AllByRecursion (λ id. IsSome (table_at (map f (passed q e) ++ more) id)) version.tables) (version_step q e) q.versions
        (all-more (λ version. AllByRecursion (λ id. IsSome (table_at (map f (passed q e) ++ more) id)) version.tables) (λ version. AllByRecursion (λ id. IsSome (table_at (map f (passed q e) ++ more) id)) (version_step q e version).tables) q.versions
        (λ version all. subst (AllByRecursion (λ id. IsSome (table_at (map f (passed q e) ++ more) id))) (sym (ap (λ v. v.tables) (version_step-cursors q e version))) all) (each more))

    by : (b : Option (ℕ × Plan)) → AllThere (map f (passed q e) ++ tables_with (newest q.versions) b) (with_version (map (version_step q e) q.versions) b)
    by None = moved []
    by (Some (n, plan)) =
        let before : List (Table × TableId) = written_tables (newest q.versions) in
        let new' : List TableState = tables_with (newest q.versions) (Some (n, plan)) in
        let all : List TableState = map f (passed q e) ++ new' in
        let written : written_tables (newest (map (version_step q e) q.versions)) ≡ before =
        ap written_tables (newest-map (version_step q e) q.versions) ∙ written-map (version_step q e) (version_step-cursors q e) (newest q.versions) in
        let next : AllByRecursion (λ id. IsSome (table_at all id)) (map (next_id n before) (enumerate_from 0 plan.tables)) =
        next_there n 0 before plan.tables all (written_there q.versions all (each new')) (λ id is. there-right (map f (passed q e)) new' id is) in
        all-append (λ version. AllByRecursion (λ id. IsSome (table_at all id)) version.tables) (map (version_step q e) q.versions) (next_version n (written_tables (newest (map (version_step q e) q.versions))) plan ∷ []) (moved new')
        (subst (λ w. AllByRecursion (λ id. IsSome (table_at all id)) (map (next_id n w) (enumerate_from 0 plan.tables))) (sym written) next, tt)

-- those of the versions that are kept are kept
kept_there : (versions : List Version) (tables : List TableState) → AllThere tables versions → AllThere (filter (is_listed_by versions) tables) versions
kept_there versions tables all =
    all-more (λ version. IsIn versions version × AllByRecursion (λ id. IsSome (table_at tables id)) version.tables) (λ version. AllByRecursion (λ id. IsSome (table_at (filter (is_listed_by versions) tables) id)) version.tables) versions
    (λ version both.
    all-more (λ id. IsIn version.tables id × IsSome (table_at tables id)) (λ id. IsSome (table_at (filter (is_listed_by versions) tables) id)) version.tables
    (λ id known.
    let listed : lists versions id ≡ true = both.0 (λ v. list_any (same_id id) v.tables) (known.0 (same_id id) (same_id-refl id)) in
    subst IsSome (sym (table_at-filter (lists versions) tables id listed)) known.1)
    (all-both (IsIn version.tables) (λ id. IsSome (table_at tables id)) version.tables (all-in version.tables) both.1))
    (all-both (IsIn versions) (λ version. AllByRecursion (λ id. IsSome (table_at tables id)) version.tables) versions (all-in versions) all)

-- each table is found under its incarnation
own_at : (tables : List TableState) → IncarnationsDiffer tables → AllByRecursion (λ table. table_at tables table.id ≡ Some table) tables
own_at [] differ = tt
own_at (x ∷ tables) differ = (
  rw (same_id-refl x.id) refl,
  all-more (λ table. (same_id table.id x.id ≡ false) × (table_at tables table.id ≡ Some table)) (λ table. table_at (x ∷ tables) table.id ≡ Some table) tables
      (λ table both. rw (same_id-sym x.id table.id ∙ both.0) both.1)
      (all-both (λ table. same_id table.id x.id ≡ false) (λ table. table_at tables table.id ≡ Some table) tables differ.0 (own_at tables differ.1)),
)

-- what a step tracks in a table is one key
one_key : (q : Plain) (number : ℕ) (reply : Reply) → (has : HasSource q number reply) → (table : TableState) → table_at q.tables table.id ≡ Some table →
    AreOfSource (open_tracks q.frontends) has.0 table reply.tracks.items
one_key q number reply has table own =
    all-more (IsOfSource (open_tracks q.frontends) q.tables (tables_of q.versions number) has.0) (λ track. same_id table.id track.table ≡ true → key_for (open_tracks q.frontends) has.0 table ≡ Some track.key) reply.tracks.items
    (λ track known on.
    let ids : table.id ≡ track.table = same_id-is table.id track.table on in
    let found : Some known.table ≡ Some table = sym known.there ∙ ap (table_at q.tables) (sym ids) ∙ own in
    let same : known.table ≡ table = cc in
    subst (λ t. key_for (open_tracks q.frontends) has.0 t ≡ Some track.key) same known.key) has.1

pub tables_step : (q : Plain) → IsWell q → (e : Entry) → IsLegal q (e ∷ []) → AreTablesWell (after q (e ∷ []))
tables_step q well e legal =
    let is : answer_in q e.moment e.event ≡ Ok e.reply = subst (λ s. answer_in s e.moment e.event ≡ Ok e.reply) (after-nil q well) legal.1 in
    let now : Plain = at_moment e.moment q in
    let known : IsWell now = at-well q well e.moment in
    let has : HasSource now (judging q e.event) e.reply = has_source now known e.event e.reply is in
    let f : TableState → TableState = table_step q e in
    let entries : EntriesChange f = table_by-entries (max q.clock e.moment) q.frontends e.reply in
    let versions : List Version = versions_after q (e ∷ []) in
    let old : List TableState = map f (passed q e) in
    let new' : List TableState = tables_with (newest q.versions) (version_of e) in
    let begun : HaveBegun (newest_number q) (in_force (newest_number q) (e ∷ [])) new' = have_begun q e legal in
    let force : newest_number (after q (e ∷ [])) ≡ in_force (newest_number q) (e ∷ []) = newest_after q (e ∷ []) in
    let rises' : newest_number q ≤ in_force (newest_number q) (e ∷ []) = rises q e [] legal in
    let all : tables_after q (e ∷ []) ≡ filter (is_listed_by versions) (old ++ new') = tables_step-each q well e in
    let began : AllByRecursion (λ table. table.id.version ≤ newest_number q) old =
    all-map (λ table. table.id.version ≤ newest_number q) f (passed q e)
    (all-more (λ table. table.id.version ≤ newest_number q) (λ table. (f table).id.version ≤ newest_number q) (passed q e)
    (λ table le. let id : (f table).id.version ≡ table.id.version = ap (λ t. t.id.version) (entries table) in omega (arith, le, id)) known.tables.began) in
    let each : AllByRecursion IsTableWell old =
    all-map IsTableWell f (passed q e)
    (all-more (λ table. (table_at (passed q e) table.id ≡ Some table) × IsTableWell table) (λ table. IsTableWell (f table)) (passed q e)
    (λ table both. record {
      keys = table_by-differ (max q.clock e.moment) q.frontends e.reply table both.1.keys;
      fits = table_by-fits (max q.clock e.moment) q.frontends e.reply has.0 table (one_key now (judging q e.event) e.reply has table both.0) both.1.fits;
    })
    (all-both (λ table. table_at (passed q e) table.id ≡ Some table) IsTableWell (passed q e) (own_at (passed q e) known.tables.differ) known.tables.each)) in
    let versions_there : AllThere (old ++ new') versions =
    subst (AllThere (old ++ new')) (sym (versions_step-each q well e))
    (all-filter (λ version. AllByRecursion (λ id. IsSome (table_at (old ++ new') id)) version.tables) (λ version. is_needed (frontends_after q (e ∷ [])) (in_force (newest_number q) (e ∷ [])) version.number)
    (versions_all q e) (all_there q well e (version_of e))) in
    record {
      differ = subst IncarnationsDiffer (sym all)
          (differ-filter (is_listed_by versions) (old ++ new') (differ-append (newest_number q) old new' (differ-map f entries (passed q e) known.tables.differ) begun.differ began begun.later));
      there = subst (λ ts. AllThere ts versions) (sym all) (kept_there versions (old ++ new') versions_there);
      listed = subst (AllByRecursion (λ table. is_listed_by versions table ≡ true)) (sym all) (all-pass (is_listed_by versions) (old ++ new'));
      began = subst (λ n. AllByRecursion (λ table. table.id.version ≤ n) (tables_after q (e ∷ []))) (sym force)
          (subst (AllByRecursion (λ table. table.id.version ≤ in_force (newest_number q) (e ∷ []))) (sym all)
          (all-filter (λ table. table.id.version ≤ in_force (newest_number q) (e ∷ [])) (is_listed_by versions) (old ++ new')
          (all-append (λ table. table.id.version ≤ in_force (newest_number q) (e ∷ [])) old new'
          (all-more (λ table. table.id.version ≤ newest_number q) (λ table. table.id.version ≤ in_force (newest_number q) (e ∷ [])) old (λ table le. omega (arith, le, rises')) began) begun.within)));
      each = subst (AllByRecursion IsTableWell) (sym all) (all-filter IsTableWell (is_listed_by versions) (old ++ new') (all-append IsTableWell old new' each begun.empty));
    }

-- An opening.

new_there : (k : ℕ) (tables : List Table) → AllByRecursion (λ id. IsSome (table_at (map (new_table 1) (enumerate_from k tables)) id)) (map (new_id 1) (enumerate_from k tables))
new_there k [] = tt
new_there k (table ∷ tables) =
    let rest : List TableState = map (new_table 1) (enumerate_from (k + 1) tables) in (
      rw (same_id-refl (record { version = 1; position = k })) refl,
      all-more (λ id. IsSome (table_at rest id)) (λ id. IsSome (table_at (map (new_table 1) (enumerate_from k (table ∷ tables))) id)) (map (new_id 1) (enumerate_from (k + 1) tables))
          (there-cons (new_table 1 (k, table)) rest) (new_there (k + 1) tables),
    )

new_listed : (k : ℕ) (tables : List Table) → AllByRecursion (λ table. list_any (same_id table.id) (map (new_id 1) (enumerate_from k tables)) ≡ true) (map (new_table 1) (enumerate_from k tables))
new_listed k [] = tt
new_listed k (table ∷ tables) =
    let own : TableId = record { version = 1; position = k } in
    let rest : List TableId = map (new_id 1) (enumerate_from (k + 1) tables) in (
      or_left (same_id own own) (list_any (same_id own) rest) (same_id-refl own),
      all-more (λ other. list_any (same_id other.id) rest ≡ true) (λ other. list_any (same_id other.id) (own ∷ rest) ≡ true) (map (new_table 1) (enumerate_from (k + 1) tables))
          (λ other is. or_right (same_id other.id own) (list_any (same_id other.id) rest) is) (new_listed (k + 1) tables),
    )

pub new_tables_well : (plan : Plan) (last : ℕ) → AreTablesWell (opening plan last)
new_tables_well plan last = record {
  differ = new_differ 1 (enumerate_from 0 plan.tables) (enumerate-rise 0 plan.tables);
  there = (new_there 0 plan.tables, tt);
  listed = all-more (λ table. list_any (same_id table.id) (map (new_id 1) (enumerate_from 0 plan.tables)) ≡ true) (λ table. is_listed_by (opening plan last).versions table ≡ true) (opening plan last).tables
      (λ table is. or_left (list_any (same_id table.id) (map (new_id 1) (enumerate_from 0 plan.tables))) false is) (new_listed 0 plan.tables);
  began = new_all (λ table. table.id.version ≤ 1) 1 (λ k table. omega arith) (enumerate_from 0 plan.tables);
  each = new_all IsTableWell 1 (λ k table. record { keys = tt; fits = omega arith }) (enumerate_from 0 plan.tables);
}
