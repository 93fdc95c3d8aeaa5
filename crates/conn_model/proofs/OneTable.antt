-- What a step makes of each table.
use Rattle.std.specs.Prelude.{ℕ, Bool, true, false, List, [], length, map, filter, Option, Some, None, IsSome, option_map, refl, ◌≤◌, ◌≡◌, ◌==◌, ◌&&◌, ◌∷◌, ◌++◌, if◌then◌else◌}
use Rattle.std.specs.List.{AllByRecursion}
use Rattle.std.proofs.Common.{sym, ap, ◌∙◌, subst, arith, append-nil}
use Rattle.std.proofs.Math.Path.{fun_ext}
use Rattle.std.proofs.lemmas.Bool.{eqb-true, eq-eqb}
use Rattle.std.proofs.lemmas.Bool.Decides.{nat_tests}
use Rattle.std.proofs.lemmas.List.{map-id}
use Rattle.std.proofs.lemmas.List.Elements.{filter-append}
use Rattle.addr_core.specs.declared.addr.Addr.{Addr}
use Rattle.proxy_types.specs.declared.table.KeyType.{KeyType}
use Rattle.stick_core.specs.declared.entries.PlainEntry.{PlainEntry}
use Rattle.stick_core.specs.Key.{key_in}
use Rattle.stick_core.specs.PlainEntries.{can_track, is_in, touched, tracked_key, with_tracking, KeysDiffer}
use Rattle.list_core.proofs.PlaceLemmas.{find-passes}
use Rattle.plan_types.specs.declared.track.TableId.{TableId}
use Rattle.plan_types.specs.declared.track.Track.{Track}
use Rattle.conn_model.specs.declared.reply.Reply.{Reply}
use Rattle.conn_model.specs.declared.plain.FrontendRows.{FrontendRows}
use Rattle.conn_model.specs.declared.plain.TableState.{TableState}
use Rattle.conn_model.specs.Tables.{is_of, open_tracks, same_id, table_at, table_with, table_without, trackers, with_track, with_tracks, without_track, without_tracks, IncarnationsDiffer}
use Rattle.conn_model.specs.History.{ended_by, tables_by}
use Rattle.conn_model.proofs.Lists.{all-map, all-more, and_true}
use Rattle.conn_model.proofs.Entries.{in-tracked, touched-differ, touched-length, tracking-differ, tracking-fits}

-- Incarnations.

pub same_id-is : (a b : TableId) → same_id a b ≡ true → a ≡ b
same_id-is a b is =
    let both : ((a.version == b.version) ≡ true) × ((a.position == b.position) ≡ true) = and_true (a.version == b.version) (a.position == b.position) is in
    let version : a.version ≡ b.version = eqb-true a.version b.version both.0 in
    let position : a.position ≡ b.position = eqb-true a.position b.position both.1 in
    let first : a ≡ record { version = b.version; position = a.position } = ap (λ n. record { version = n; position = a.position }) version in
    first ∙ ap (λ n. record { version = b.version; position = n }) position

pub same_id-refl : (id : TableId) → same_id id id ≡ true
same_id-refl id = rw (eq-eqb id.version id.version refl, eq-eqb id.position id.position refl) refl

pub same_id-sym : (a b : TableId) → same_id a b ≡ same_id b a
same_id-sym a b = ap (λ c. c && (a.position == b.position)) (turned a.version b.version) ∙ ap (λ c. (b.version == a.version) && c) (turned a.position b.position)
  where
    turned : (m n : ℕ) → (m == n) ≡ (n == m)
    turned m n = grind (arith, nat_tests)

-- what is found under an incarnation has it
pub table_found : (tables : List TableState) (id : TableId) (table : TableState) → table_at tables id ≡ Some table → table.id ≡ id
table_found tables id table found = same_id-is table.id id (find-passes (λ (t : TableState). same_id t.id id) tables table found)

-- A step changes each table by itself.

-- a table once several keys are tracked, where those were tracked before
abbrev pub table_with_tracks : ℕ → List Track → List Track → TableState → TableState
table_with_tracks moment tracks [] table = table
table_with_tracks moment tracks (new ∷ rest) table = table_with_tracks moment (tracks ++ new ∷ []) rest (table_with moment tracks new table)

-- and once several trackings ended
abbrev pub table_without_tracks : ℕ → List Track → TableState → TableState
table_without_tracks moment [] table = table
table_without_tracks moment (track ∷ rest) table = table_without_tracks moment rest (table_without moment track table)

-- and after a reply
abbrev pub table_by : ℕ → List FrontendRows → Reply → TableState → TableState
table_by moment frontends reply table = table_without_tracks moment (ended_by frontends reply) (table_with_tracks moment (open_tracks frontends) reply.tracks.items table)

map-map : {X : Type 0} (f g h : X → X) → ((x : X) → g (f x) ≡ h x) → (xs : List X) → map g (map f xs) ≡ map h xs
map-map f g h same [] = refl
map-map f g h same (x ∷ xs) = cc (same x, map-map f g h same xs)

with_tracks-each : (moment : ℕ) (tracks made : List Track) (tables : List TableState) → with_tracks moment tracks made tables ≡ map (table_with_tracks moment tracks made) tables
with_tracks-each moment tracks [] tables = sym (map-id tables)
with_tracks-each moment tracks (track ∷ made) tables =
    with_tracks-each moment (tracks ++ track ∷ []) made (with_track moment tracks track tables)
    ∙ map-map (table_with moment tracks track) (table_with_tracks moment (tracks ++ track ∷ []) made) (table_with_tracks moment tracks (track ∷ made)) (λ table. refl) tables

without_tracks-each : (moment : ℕ) (ended : List Track) (tables : List TableState) → without_tracks moment ended tables ≡ map (table_without_tracks moment ended) tables
without_tracks-each moment [] tables = sym (map-id tables)
without_tracks-each moment (track ∷ ended) tables =
    without_tracks-each moment ended (without_track moment track tables)
    ∙ map-map (table_without moment track) (table_without_tracks moment ended) (table_without_tracks moment (track ∷ ended)) (λ table. refl) tables

pub tables_by-each : (moment : ℕ) (frontends : List FrontendRows) (tables : List TableState) (reply : Reply) → tables_by moment frontends tables reply ≡ map (table_by moment frontends reply) tables
tables_by-each moment frontends tables reply =
    let ended : List Track = ended_by frontends reply in
    let made : List Track = reply.tracks.items in
    ap (without_tracks moment ended) (with_tracks-each moment (open_tracks frontends) made tables) ∙ without_tracks-each moment ended (map (table_with_tracks moment (open_tracks frontends) made) tables)
    ∙ map-map (table_with_tracks moment (open_tracks frontends) made) (table_without_tracks moment ended) (table_by moment frontends reply) (λ table. refl) tables

-- Of a table only the entries change.

abbrev pub EntriesChange : (TableState → TableState) → Type 0
EntriesChange change = (table : TableState) → change table ≡ record table { entries = (change table).entries }

changes_twice : (f g : TableState → TableState) → EntriesChange f → EntriesChange g → EntriesChange (λ table. g (f table))
changes_twice f g one two table =
    let with_last : TableState → TableState = λ t. record t { entries = (g (f table)).entries } in
    two (f table) ∙ ap with_last (one table)

pub table_with-entries : (moment : ℕ) (tracks : List Track) (track : Track) → EntriesChange (table_with moment tracks track)
table_with-entries moment tracks track table = by (same_id table.id track.table) refl
  where
    by : (b : Bool) → same_id table.id track.table ≡ b → table_with moment tracks track table ≡ record table { entries = (table_with moment tracks track table).entries }
    by true e = rw e refl
    by false e = rw e refl

table_without-entries : (moment : ℕ) (track : Track) → EntriesChange (table_without moment track)
table_without-entries moment track table = by (same_id table.id track.table) refl
  where
    by : (b : Bool) → same_id table.id track.table ≡ b → table_without moment track table ≡ record table { entries = (table_without moment track table).entries }
    by true e = rw e refl
    by false e = rw e refl

with_tracks-entries : (moment : ℕ) (tracks made : List Track) → EntriesChange (table_with_tracks moment tracks made)
with_tracks-entries moment tracks [] table = refl
with_tracks-entries moment tracks (track ∷ made) table =
    changes_twice (table_with moment tracks track) (table_with_tracks moment (tracks ++ track ∷ []) made) (table_with-entries moment tracks track) (with_tracks-entries moment (tracks ++ track ∷ []) made) table

without_tracks-entries : (moment : ℕ) (ended : List Track) → EntriesChange (table_without_tracks moment ended)
without_tracks-entries moment [] table = refl
without_tracks-entries moment (track ∷ ended) table = changes_twice (table_without moment track) (table_without_tracks moment ended) (table_without-entries moment track) (without_tracks-entries moment ended) table

pub table_by-entries : (moment : ℕ) (frontends : List FrontendRows) (reply : Reply) → EntriesChange (table_by moment frontends reply)
table_by-entries moment frontends reply table =
    changes_twice (table_with_tracks moment (open_tracks frontends) reply.tracks.items) (table_without_tracks moment (ended_by frontends reply)) (with_tracks-entries moment (open_tracks frontends) reply.tracks.items)
    (without_tracks-entries moment (ended_by frontends reply)) table

-- so each is found under its incarnation
pub table_at-map : (f : TableState → TableState) → EntriesChange f → (tables : List TableState) (id : TableId) → table_at (map f tables) id ≡ option_map f (table_at tables id)
table_at-map f same [] id = refl
table_at-map f same (table ∷ tables) id = by (same_id table.id id) refl (table_at-map f same tables id)
  where
    by : (b : Bool) → same_id table.id id ≡ b → table_at (map f tables) id ≡ option_map f (table_at tables id) → table_at (map f (table ∷ tables)) id ≡ option_map f (table_at (table ∷ tables) id)
    by true e rest = let changed : same_id (f table).id id ≡ true = ap (λ t. same_id t.id id) (same table) ∙ e in rw (changed, e) refl
    by false e rest = let changed : same_id (f table).id id ≡ false = ap (λ t. same_id t.id id) (same table) ∙ e in rw (changed, e) rest

-- and no two are of one incarnation
pub differ-map : (f : TableState → TableState) → EntriesChange f → (tables : List TableState) → IncarnationsDiffer tables → IncarnationsDiffer (map f tables)
differ-map f same [] differ = tt
differ-map f same (table ∷ tables) differ = (
  all-map (λ other. same_id other.id (f table).id ≡ false) f tables
      (all-more (λ other. same_id other.id table.id ≡ false) (λ other. same_id (f other).id (f table).id ≡ false) tables
      (λ other apart. ap (λ t. same_id t.id (f table).id) (same other) ∙ ap (λ t. same_id other.id t.id) (same table) ∙ apart) differ.0),
  differ-map f same tables differ.1,
)

pub some-map : {X : Type 0} (f : X → X) (o : Option X) → IsSome o → IsSome (option_map f o)
some-map f None is = is
some-map f (Some x) is = refl

-- Keys that differ.

table_with-differ : (moment : ℕ) (tracks : List Track) (track : Track) (table : TableState) → KeysDiffer table.entries → KeysDiffer (table_with moment tracks track table).entries
table_with-differ moment tracks track table differ = by (same_id table.id track.table) refl
  where
    by : (b : Bool) → same_id table.id track.table ≡ b → KeysDiffer (table_with moment tracks track table).entries
    by true e = rw e (tracking-differ moment (trackers tracks table.id) table.table.size track.key table.entries differ)
    by false e = rw e differ

with_tracks-differ : (moment : ℕ) (tracks made : List Track) (table : TableState) → KeysDiffer table.entries → KeysDiffer (table_with_tracks moment tracks made table).entries
with_tracks-differ moment tracks [] table differ = differ
with_tracks-differ moment tracks (track ∷ made) table differ = with_tracks-differ moment (tracks ++ track ∷ []) made (table_with moment tracks track table) (table_with-differ moment tracks track table differ)

table_without-differ : (moment : ℕ) (track : Track) (table : TableState) → KeysDiffer table.entries → KeysDiffer (table_without moment track table).entries
table_without-differ moment track table differ = by (same_id table.id track.table) refl
  where
    by : (b : Bool) → same_id table.id track.table ≡ b → KeysDiffer (table_without moment track table).entries
    by true e = rw e (touched-differ moment track.key table.entries differ)
    by false e = rw e differ

without_tracks-differ : (moment : ℕ) (ended : List Track) (table : TableState) → KeysDiffer table.entries → KeysDiffer (table_without_tracks moment ended table).entries
without_tracks-differ moment [] table differ = differ
without_tracks-differ moment (track ∷ ended) table differ = without_tracks-differ moment ended (table_without moment track table) (table_without-differ moment track table differ)

pub table_by-differ : (moment : ℕ) (frontends : List FrontendRows) (reply : Reply) (table : TableState) → KeysDiffer table.entries → KeysDiffer (table_by moment frontends reply table).entries
table_by-differ moment frontends reply table differ =
    without_tracks-differ moment (ended_by frontends reply) (table_with_tracks moment (open_tracks frontends) reply.tracks.items table)
    (with_tracks-differ moment (open_tracks frontends) reply.tracks.items table differ)

-- At most as many as the size.

-- the key under which a table would track a source, if it can be listed
abbrev pub key_for : List Track → Addr → TableState → Option Addr
key_for tracks source table = tracked_key (trackers tracks table.id) table.table.kind table.table.size table.entries source

-- each of the tracks that is of the table has that key
abbrev pub AreOfSource : List Track → Addr → TableState → List Track → Type 0
AreOfSource tracks source table made = AllByRecursion (λ track. same_id table.id track.table ≡ true → key_for tracks source table ≡ Some track.key) made

-- a table that tracks an address under a key has that key, and can list it
pub tracked_is : (f : Addr → ℕ) (kind : KeyType) (size : ℕ) (entries : List PlainEntry) (addr key : Addr) → tracked_key f kind size entries addr ≡ Some key →
    (key_in kind addr ≡ Some key) × (can_track f size entries key ≡ true)
tracked_is f kind size entries addr key is = by (key_in kind addr) refl
  where
    able : (k : Addr) (b : Bool) → can_track f size entries k ≡ b → (if b then Some k else None) ≡ Some key → (Some k ≡ Some key) × (can_track f size entries key ≡ true)
    able k true can made = (made, ap (can_track f size entries) (let same : k ≡ key = cc in sym same) ∙ can)
    able k false can made = absurd (let wrong : None ≡ Some key = made in cc)

    by : (o : Option Addr) → key_in kind addr ≡ o → (key_in kind addr ≡ Some key) × (can_track f size entries key ≡ true)
    by None none = absurd (let wrong : None ≡ Some key = rw none at is in cc)
    by (Some k) there = let both = able k (can_track f size entries k) refl (rw there at is) in (there ∙ both.0, both.1)

-- so many track each key of a table beside a track in another
pub trackers_besides : (tracks : List Track) (track : Track) (id : TableId) → same_id id track.table ≡ false → trackers (tracks ++ track ∷ []) id ≡ trackers tracks id
trackers_besides tracks track id other = fun_ext (λ key.
    let apart : is_of id key track ≡ false = rw (sym (same_id-sym id track.table) ∙ other) refl in
    let none : filter (is_of id key) (track ∷ []) ≡ [] = rw apart refl in
    ap length (filter-append (is_of id key) tracks (track ∷ []) ∙ ap (λ ts. filter (is_of id key) tracks ++ ts) none ∙ append-nil (filter (is_of id key) tracks)))

abbrev IsSmall : TableState → Type 0
IsSmall table = length table.entries ≤ table.table.size

with_tracks-fits : (moment : ℕ) (tracks made : List Track) (source : Addr) (table : TableState) → AreOfSource tracks source table made → IsSmall table → IsSmall (table_with_tracks moment tracks made table)
with_tracks-fits moment tracks [] source table keys fits = fits
with_tracks-fits moment tracks (track ∷ made) source table keys fits = by (same_id table.id track.table) refl (with_tracks-fits moment (tracks ++ track ∷ []) made source)
  where
    by : (b : Bool) → same_id table.id track.table ≡ b →
        ((next : TableState) → AreOfSource (tracks ++ track ∷ []) source next made → IsSmall next → IsSmall (table_with_tracks moment (tracks ++ track ∷ []) made next)) →
        IsSmall (table_with_tracks moment tracks (track ∷ made) table)
    by true e rest =
        let f : Addr → ℕ = trackers tracks table.id in
        let more : Addr → ℕ = trackers (tracks ++ track ∷ []) table.id in
        let size : ℕ = table.table.size in
        let after : List PlainEntry = with_tracking moment f size track.key table.entries in
        let next : TableState = record table { entries = after } in
        let this : table_with moment tracks track table ≡ next = rw e refl in
        let own = tracked_is f table.table.kind size table.entries source track.key (keys.0 e) in
        let listed : is_in track.key after ≡ true = in-tracked moment f size track.key table.entries in
        let key : tracked_key more table.table.kind size after source ≡ Some track.key = rw (own.0, listed) refl in
        let later : AreOfSource (tracks ++ track ∷ []) source next made =
        all-more (λ t. same_id table.id t.table ≡ true → key_for tracks source table ≡ Some t.key) (λ t. same_id table.id t.table ≡ true → tracked_key more table.table.kind size after source ≡ Some t.key)
        made (λ t known on. key ∙ sym (keys.0 e) ∙ known on) keys.1 in
        subst (λ t. IsSmall (table_with_tracks moment (tracks ++ track ∷ []) made t)) (sym this) (rest next later (tracking-fits moment f size track.key table.entries own.1 fits))
    by false e rest =
        let this : table_with moment tracks track table ≡ table = rw e refl in
        let later : AreOfSource (tracks ++ track ∷ []) source table made =
        subst (λ (f : Addr → ℕ). AllByRecursion (λ t. same_id table.id t.table ≡ true → tracked_key f table.table.kind table.table.size table.entries source ≡ Some t.key) made)
        (sym (trackers_besides tracks track table.id e)) keys.1 in
        subst (λ t. IsSmall (table_with_tracks moment (tracks ++ track ∷ []) made t)) (sym this) (rest table later fits)

table_without-fits : (moment : ℕ) (track : Track) (table : TableState) → IsSmall table → IsSmall (table_without moment track table)
table_without-fits moment track table fits = by (same_id table.id track.table) refl
  where
    by : (b : Bool) → same_id table.id track.table ≡ b → IsSmall (table_without moment track table)
    by true e = let same : length (touched moment track.key table.entries) ≡ length table.entries = touched-length moment track.key table.entries in rw e (omega (arith, same, fits))
    by false e = rw e fits

without_tracks-fits : (moment : ℕ) (ended : List Track) (table : TableState) → IsSmall table → IsSmall (table_without_tracks moment ended table)
without_tracks-fits moment [] table fits = fits
without_tracks-fits moment (track ∷ ended) table fits = without_tracks-fits moment ended (table_without moment track table) (table_without-fits moment track table fits)

pub table_by-fits : (moment : ℕ) (frontends : List FrontendRows) (reply : Reply) (source : Addr) (table : TableState) → AreOfSource (open_tracks frontends) source table reply.tracks.items →
    length table.entries ≤ table.table.size → length (table_by moment frontends reply table).entries ≤ (table_by moment frontends reply table).table.size
table_by-fits moment frontends reply source table keys fits =
    without_tracks-fits moment (ended_by frontends reply) (table_with_tracks moment (open_tracks frontends) reply.tracks.items table)
    (with_tracks-fits moment (open_tracks frontends) reply.tracks.items source table keys fits)
