-- The servers of a backend, and their numbers.
use Rattle.std.specs.Prelude.{ℕ, Bool, false, List, [], ◌∷◌, ◌++◌, slice_get, Option, Some, None, ◌+◌, ◌-◌, min, ◌&&◌, ◌==◌, if◌then◌else◌, nat_lt}
use Rattle.std.specs.List.{range_with_len}
use Rattle.std.specs.Option.{option_map_or}
use Rattle.balance_core.specs.declared.load.ServerLoad.{ServerLoad}

abbrev pub weight_at : List ServerLoad → ℕ → ℕ
weight_at servers n = option_map_or (λ server. server.weight) (slice_get servers n) 0

abbrev pub connections_at : List ServerLoad → ℕ → ℕ
connections_at servers n = option_map_or (λ server. server.connections) (slice_get servers n) 0

abbrev pub has_room_at : List ServerLoad → ℕ → Bool
has_room_at servers n = option_map_or (λ server. server.has_room) (slice_get servers n) false

-- a server is usable if its weight is above 0
abbrev pub is_ready_at : List ServerLoad → ℕ → Bool
is_ready_at servers n = nat_lt 0 (weight_at servers n) && has_room_at servers n

-- all weights together
abbrev pub total_weight : List ServerLoad → ℕ
total_weight [] = 0
total_weight (server ∷ servers) = server.weight + total_weight servers

-- the number that comes after last, or all of them
abbrev pub first_after : Option ℕ → ℕ → ℕ
first_after None count = 0
first_after (Some last) count = min (last + 1) count

-- the one that comes next, going round
abbrev pub next_after : Option ℕ → ℕ → ℕ
next_after last count = if first_after last count == count then 0 else first_after last count

-- the numbers below count in the order in which they come after last, going round
abbrev pub going_round : Option ℕ → ℕ → List ℕ
going_round last count = range_with_len (first_after last count) (count - first_after last count) ++ range_with_len 0 (first_after last count)

-- whether a server has room, by a list of answers
abbrev pub room_in : List Bool → ℕ → Bool
room_in rooms n = option_map_or (λ room. room) (slice_get rooms n) false
