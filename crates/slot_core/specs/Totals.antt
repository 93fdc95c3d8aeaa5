-- Running totals of open connections, by the names of backends.
use Rattle.std.specs.Prelude.{◌≡◌, ℕ, ◌+◌, Bool, ◌==◌, List, [], ◌∷◌, length, slice_get, slice_set, Option, Some, option_map, if◌then◌else◌}
use Rattle.std.specs.Option.{option_map_or}
use Rattle.std.specs.Str.{bytes_eq}
use Rattle.slot_core.specs.declared.slots.Count.{Count}
use Rattle.slot_core.specs.declared.totals.BackendTotal.{BackendTotal}
use Rattle.slot_core.specs.Counts.{open_in, IdentitiesDiffer}

abbrev pub has_name : List ℕ → BackendTotal → Bool
has_name name total = bytes_eq total.name name

-- no server of it is counted
abbrev pub is_unused : BackendTotal → Bool
is_unused total = total.servers == 0

abbrev pub name_at : ℕ → List BackendTotal → Option (List ℕ)
name_at place totals = option_map (λ total. total.name) (slice_get totals place)

abbrev pub connections_at : ℕ → List BackendTotal → ℕ
connections_at place totals = option_map_or (λ total. total.connections) (slice_get totals place) 0

abbrev pub servers_at : ℕ → List BackendTotal → ℕ
servers_at place totals = option_map_or (λ total. total.servers) (slice_get totals place) 0

abbrev pub with_connections : (ℕ → ℕ) → BackendTotal → BackendTotal
with_connections change total = record total { connections = change total.connections }

abbrev pub with_servers : (ℕ → ℕ) → BackendTotal → BackendTotal
with_servers change total = record total { servers = change total.servers }

-- one total changed, and no other
abbrev pub with_total : (BackendTotal → BackendTotal) → ℕ → List BackendTotal → List BackendTotal
with_total change place totals = option_map_or (λ total. slice_set totals place (change total)) (slice_get totals place) totals

-- how many servers of the backend of that name are counted
abbrev pub servers_in : List ℕ → List Count → ℕ
servers_in name [] = 0
servers_in name (count ∷ counts) = (if bytes_eq count.identity.backend name then 1 else 0) + servers_in name counts

-- a total says what those numbers are for its name
pub record IsTotal (connections_of servers_of : List ℕ → ℕ) (total : BackendTotal) : Type 0 where
  pub open_is : total.connections ≡ connections_of total.name
  pub servers_is : total.servers ≡ servers_of total.name

-- no two totals are of one name
abbrev pub NamesDiffer : List BackendTotal → Type 0
NamesDiffer totals = (m n : ℕ) (one other : BackendTotal) → slice_get totals m ≡ Some one → slice_get totals n ≡ Some other → one.name ≡ other.name → m ≡ n

-- each total does, and no two are of one name
pub record AreTotalsOf (connections_of servers_of : List ℕ → ℕ) (totals : List BackendTotal) : Type 0 where
  pub apart : (m n : ℕ) (one other : BackendTotal) → slice_get totals m ≡ Some one → slice_get totals n ≡ Some other → one.name ≡ other.name → m ≡ n
  pub each : (n : ℕ) (total : BackendTotal) → slice_get totals n ≡ Some total → IsTotal connections_of servers_of total

-- for each count the place of the total of its backend's name
pub record AreTotals (counts : List Count) (backends : List ℕ) (totals : List BackendTotal) : Type 0 where
  pub many : length backends ≡ length counts
  pub named : (n : ℕ) (count : Count) (place : ℕ) → slice_get counts n ≡ Some count → slice_get backends n ≡ Some place → name_at place totals ≡ Some count.identity.backend
  pub numbers : AreTotalsOf (λ name. open_in name counts) (λ name. servers_in name counts) totals

-- and no two counts are of one server
pub record AreCounts (counts : List Count) (backends : List ℕ) (totals : List BackendTotal) : Type 0 where
  pub apart : IdentitiesDiffer counts
  pub tied : AreTotals counts backends totals
