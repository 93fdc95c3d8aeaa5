-- Tables at a moment: what time leaves of them.
use Rattle.std.specs.Prelude.{ℕ, false, List, Option, Some, None, option_map, refl, ◌≡◌}
use Rattle.std.specs.Option.{option_map_or}
use Rattle.std.proofs.Common.{ap, ◌∙◌}
use Rattle.plan_types.specs.declared.track.TableId.{TableId}
use Rattle.plan_types.specs.declared.track.Track.{Track}
use Rattle.conn_model.specs.declared.plain.TableState.{TableState}
use Rattle.conn_model.specs.Tables.{table_alive, table_at, tables_alive}
use Rattle.conn_model.proofs.Moments.{table_alive-entries}
use Rattle.conn_model.proofs.OneTable.{table_at-map}
use Rattle.tenant_laws.specs.Parts.{owns_table, Part}
use Rattle.tenant_laws.specs.Agreement.{owns_id}

-- Tables, looked up.

pub table-then : (moment : ℕ) (tracks : List Track) (tables : List TableState) (id : TableId) → table_at (tables_alive moment tracks tables) id ≡ option_map (table_alive moment tracks) (table_at tables id)
table-then moment tracks tables id = table_at-map (table_alive moment tracks) (table_alive-entries moment tracks) tables id

-- each is kept as it was written
pub written-then : (moment : ℕ) (tracks : List Track) (tables : List TableState) (id : TableId) →
    option_map (λ (s : TableState). s.table) (table_at (tables_alive moment tracks tables) id) ≡ option_map (λ (s : TableState). s.table) (table_at tables id)
written-then moment tracks tables id = ap (option_map (λ (s : TableState). s.table)) (table-then moment tracks tables id) ∙ by (table_at tables id)
  where
    by : (o : Option TableState) → option_map (λ (s : TableState). s.table) (option_map (table_alive moment tracks) o) ≡ option_map (λ (s : TableState). s.table) o
    by None = refl
    by (Some s) = refl

-- and is the part's as before
pub owns-then : (part : Part) (moment : ℕ) (tracks : List Track) (tables : List TableState) (id : TableId) → owns_id part (tables_alive moment tracks tables) id ≡ owns_id part tables id
owns-then part moment tracks tables id = ap (λ o. option_map_or (λ (s : TableState). owns_table part s.table) o false) (table-then moment tracks tables id) ∙ by (table_at tables id)
  where
    by : (o : Option TableState) → option_map_or (λ (s : TableState). owns_table part s.table) (option_map (table_alive moment tracks) o) false ≡ option_map_or (λ (s : TableState). owns_table part s.table) o false
    by None = refl
    by (Some s) = refl
