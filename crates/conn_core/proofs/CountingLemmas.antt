-- What rules see of tables.
use Rattle.std.proofs.Common.{◌≡◌, ℕ, ◌+◌, List, ◌++◌, Option, Some, None, refl, sym, ap, ◌∙◌, arith}
use Rattle.std.specs.Prelude.{Bool, find, min, slice_get, option_and_then, option_map}
use Rattle.std.specs.Option.{option_map_or, option_or}
use Rattle.std.proofs.lemmas.List.Folds.{find-append}
use Rattle.addr_core.specs.declared.addr.Addr.{Addr}
use Rattle.stick_core.specs.Key.{key_in}
use Rattle.stick_core.specs.PlainEntries.{count_in, trackers_at}
use Rattle.proxy_types.specs.declared.table.KeyType.{KeyType}
use Rattle.plan_types.specs.declared.track.TableId.{TableId}
use Rattle.conn_model.specs.declared.ask.Counts.{Counts}
use Rattle.conn_model.specs.declared.plain.TableState.{TableState}
use Rattle.conn_model.specs.Rules.{RuleView, current_of, key_in_table, key_of, total_of}
use Rattle.plan_types.specs.declared.track.Track.{Track}
use Rattle.conn_model.specs.Tables.{entry_counts, table_alive, table_at, tables_alive, trackers}
use Rattle.conn_rows.specs.Tables.{key_at, table_key}
use Rattle.conn_model.proofs.Trackers.{trackers-append}
use Rattle.conn_core.specs.Judging.{counts_of}
use Rattle.conn_model.proofs.Moments.{table_alive-entries}
use Rattle.conn_model.proofs.OneTable.{table_at-map, table_found}

-- nothing comes of nothing alone
pub nothing : {X Y : Type 0} (f : X → Y) (o : Option X) → option_map f o ≡ None → o ≡ None
nothing f None is = refl
nothing f (Some x) is = absurd (let wrong : Some (f x) ≡ None = is in cc)

pub something : {X Y : Type 0} (f : X → Y) (o : Option X) (y : Y) → option_map f o ≡ Some y → (x : X) × (o ≡ Some x) × (f x ≡ y)
something f None y is = absurd (let wrong : None ≡ Some y = is in cc)
something f (Some x) y is = (x, refl, let same : Some (f x) ≡ Some y = is in cc)

-- what is found in the first of two lists, or else in the second
pub found_first : {X : Type 0} (p : X → Bool) (xs ys : List X) (x : X) → find p xs ≡ Some x → find p (xs ++ ys) ≡ Some x
found_first p xs ys x found = find-append p xs ys ∙ ap (λ o. option_or o (find p ys)) found

pub found_next : {X : Type 0} (p : X → Bool) (xs ys : List X) → find p xs ≡ None → find p (xs ++ ys) ≡ find p ys
found_next p xs ys none = find-append p xs ys ∙ ap (λ o. option_or o (find p ys)) none

-- the key of a numbered table
pub key_by : (v : RuleView) (number : ℕ) (id : TableId) → slice_get v.version.tables number ≡ Some id → key_of v number ≡ option_map (λ key. (id, key)) (key_at v.tracks v.tables id v.source)
key_by v number id there = ap (λ o. option_and_then (key_in_table v) (option_and_then (table_at v.tables) o)) there ∙ by (table_at v.tables id) refl
  where
    by : (o : Option TableState) → table_at v.tables id ≡ o → option_and_then (key_in_table v) o ≡ option_map (λ key. (id, key)) (option_and_then (table_key v.tracks v.source) o)
    by None is = refl
    by (Some table) is = ap (λ (i : TableId). option_map (λ (key : Addr). (i, key)) (table_key v.tracks v.source table)) (table_found v.tables id table is)

-- a table is the same at each moment, but for its entries
pub plan_alive : (moment : ℕ) (tracks : List Track) (tables : List TableState) (id : TableId) →
    option_map (λ (table : TableState). table.table) (table_at (tables_alive moment tracks tables) id) ≡ option_map (λ (table : TableState). table.table) (table_at tables id)
plan_alive moment tracks tables id = ap (option_map (λ (table : TableState). table.table)) (table_at-map (table_alive moment tracks) (table_alive-entries moment tracks) tables id) ∙ by (table_at tables id)
  where
    by : (o : Option TableState) → option_map (λ (table : TableState). table.table) (option_map (table_alive moment tracks) o) ≡ option_map (λ (table : TableState). table.table) o
    by None = refl
    by (Some table) = refl

abbrev counts : ℕ → ℕ → Counts
counts cur cnt = record { cur = cur; cnt = cnt }

-- the counts of an address are those of the state and the tracks of the step
pub counts_by : (v : RuleView) (id : TableId) (addr : Addr) (table : TableState) → table_at v.tables id ≡ Some table →
    record {
      cur = (entry_counts v.tracks addr table).cur + trackers_at (trackers v.made id) table.table.kind addr;
      cnt = min 0xFFFF_FFFF_FFFF_FFFF ((entry_counts v.tracks addr table).cnt + trackers_at (trackers v.made id) table.table.kind addr);
    } ≡ counts_of v addr table
counts_by v id addr table found = by (key_in table.table.kind addr)
  where
    is : table.id ≡ id
    is = table_found v.tables id table found

    by : (key : Option Addr) →
        counts (option_map_or (trackers v.tracks table.id) key 0 + option_map_or (trackers v.made id) key 0)
        (min 0xFFFF_FFFF_FFFF_FFFF (option_map_or (λ k. count_in k table.entries) key 0 + option_map_or (trackers v.made id) key 0))
        ≡ counts (option_map_or (current_of v table) key 0) (option_map_or (total_of v table) key 0)
    by None = refl
    by (Some key) =
        ap (λ n. counts n (min 0xFFFF_FFFF_FFFF_FFFF (count_in key table.entries + trackers v.made id key)))
        (ap (λ i. trackers v.tracks table.id key + trackers v.made i key) (sym is) ∙ sym (trackers-append v.tracks v.made table.id key))
        ∙ ap (λ i. counts (current_of v table key) (min 0xFFFF_FFFF_FFFF_FFFF (count_in key table.entries + trackers v.made i key))) (sym is)

pub counted_by : (v : RuleView) (id : TableId) (addr : Addr) (table : TableState) (before : Counts) (kind : KeyType) (made sum : ℕ) → table_at v.tables id ≡ Some table → entry_counts v.tracks addr table ≡ before →
    table.table.kind ≡ kind → made ≡ trackers_at (trackers v.made id) kind addr → sum ≡ min (before.cnt + made) 0xFFFF_FFFF_FFFF_FFFF → record { cur = before.cur + made; cnt = sum } ≡ counts_of v addr table
counted_by v id addr table before kind made sum found opened same trackings saturated =
    rw (saturated ∙ turned, trackings, ← same, ← opened) (counts_by v id addr table found)
  where
    turned : min (before.cnt + made) 0xFFFF_FFFF_FFFF_FFFF ≡ min 0xFFFF_FFFF_FFFF_FFFF (before.cnt + made)
    turned = omega arith
