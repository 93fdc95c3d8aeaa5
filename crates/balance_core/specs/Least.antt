-- Least connections.
use Rattle.std.specs.Prelude.{◌≡◌, ℕ, Bool, true, false, List, length, filter, slice_get, Option, Some, None, option_map, ◌*◌, ◌&&◌, nat_lt, if◌then◌else◌}
use Rattle.balance_core.specs.declared.load.ServerLoad.{ServerLoad}
use Rattle.balance_core.specs.declared.least.ReadyServer.{ReadyServer}
use Rattle.balance_core.specs.Loads.{weight_at, connections_at, is_ready_at, going_round}
use Rattle.balance_core.specs.Orders.{least}

-- fewer connections for its weight
abbrev pub is_lighter : List ServerLoad → ℕ → ℕ → Bool
is_lighter servers a b = nat_lt (connections_at servers a * weight_at servers b) (connections_at servers b * weight_at servers a)

-- the lightest server that is ready, of those that are level the first after the server last offered, going round
abbrev pub lightest : List ServerLoad → Option ℕ → Option ℕ
lightest servers last = least (is_lighter servers) (filter (is_ready_at servers) (going_round last (length servers)))

-- the server is ready, and no server that is ready is lighter
pub record IsLightest (servers : List ServerLoad) (n : ℕ) : Type 0 where
  pub ready : is_ready_at servers n ≡ true
  pub least : (m : ℕ) → is_ready_at servers m ≡ true → is_lighter servers m n ≡ false

-- What is seen of servers.

abbrev pub is_ready : ServerLoad → Bool
is_ready server = nat_lt 0 server.weight && server.has_room

abbrev pub carries_less : ServerLoad → ServerLoad → Bool
carries_less one other = nat_lt (one.connections * other.weight) (other.connections * one.weight)

abbrev pub number_of : Option ReadyServer → Option ℕ
number_of candidate = option_map (λ c. c.number) candidate

-- the load is that of the server
abbrev pub IsSeen : List ServerLoad → ReadyServer → Type 0
IsSeen servers candidate = slice_get servers candidate.number ≡ Some candidate.server

abbrev pub lighter_of : Option ReadyServer → ReadyServer → ReadyServer
lighter_of None candidate = candidate
lighter_of (Some other) candidate = if carries_less other.server candidate.server then other else candidate
