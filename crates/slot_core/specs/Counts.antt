-- Counts of open connections, each at its place.
use Rattle.std.specs.Prelude.{◌≡◌, ℕ, ◌+◌, Bool, false, ◌==◌, List, [], ◌∷◌, find, slice_get, slice_set, Option, option_map, if◌then◌else◌}
use Rattle.std.specs.Option.{option_map_or}
use Rattle.std.specs.Str.{bytes_eq}
use Rattle.std.specs.List.{position, AllByRecursion}
use Rattle.proxy_types.specs.declared.server.ServerIdentity.{ServerIdentity}
use Rattle.slot_core.specs.declared.slots.Count.{Count}
use Rattle.slot_core.specs.declared.slots.SlotIx.{SlotIx}
use Rattle.proxy_types.specs.ServerIdentity.{same_server}

abbrev pub is_of : ServerIdentity → Count → Bool
is_of identity count = same_server count.identity identity

abbrev pub place_of : ServerIdentity → List Count → Option ℕ
place_of identity counts = position (is_of identity) counts

-- the count of a server to which no connection is open
abbrev pub closed : ServerIdentity → Count
closed identity = record { identity = identity; connections = 0 }

-- the open connections of the count at a place, 0 where there is none
abbrev pub open_at : ℕ → List Count → ℕ
open_at place counts = option_map_or (λ count. count.connections) (slice_get counts place) 0

-- the open connections of a server, 0 where it has no count
abbrev pub open_of : ServerIdentity → List Count → ℕ
open_of identity counts = option_map_or (λ count. count.connections) (find (is_of identity) counts) 0

-- the open connections of the servers of the backend of that name
abbrev pub open_in : List ℕ → List Count → ℕ
open_in name [] = 0
open_in name (count ∷ counts) = (if bytes_eq count.identity.backend name then count.connections else 0) + open_in name counts

-- the open connections of all servers
abbrev pub open_in_all : List Count → ℕ
open_in_all [] = 0
open_in_all (count ∷ counts) = count.connections + open_in_all counts

abbrev pub identity_at : ℕ → List Count → Option ServerIdentity
identity_at place counts = option_map (λ count. count.identity) (slice_get counts place)

abbrev pub changed : (ℕ → ℕ) → Count → Count
changed change count = record count { connections = change count.connections }

-- one count changed, and no other
abbrev pub with_open : (ℕ → ℕ) → ℕ → List Count → List Count
with_open change place counts = option_map_or (λ count. slice_set counts place (changed change count)) (slice_get counts place) counts

-- by how much one slot raises the count at a place
abbrev pub slots_at : ℕ → SlotIx → ℕ
slots_at place slot = if slot.place == place then 1 else 0

-- no two counts are of one server
abbrev pub IdentitiesDiffer : List Count → Type 0
IdentitiesDiffer [] = Unit {0}
IdentitiesDiffer (count ∷ counts) = AllByRecursion (λ other. same_server count.identity other.identity ≡ false) counts × IdentitiesDiffer counts

-- whether a place is named; one past the end is not
abbrev pub named_at : ℕ → List Bool → Bool
named_at place named = option_map_or (λ is. is) (slice_get named place) false
