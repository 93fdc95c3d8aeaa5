-- What picks of a backend go by.
use Rattle.std.specs.Prelude.{ℕ, List, [], ◌∷◌, map, Option, ◌≡◌, ◌==◌, ◌+◌}
use Rattle.proxy_types.specs.declared.balance.Method.TheVariants.{RoundRobin}
use Rattle.proxy_types.specs.declared.balance.Place.{Place}
use Rattle.balance_core.specs.declared.load.ServerLoad.{ServerLoad}
use Rattle.balance_core.specs.Cycles.{turn_at, IsRound}
use Rattle.plan_types.specs.declared.plan.Backend.{Backend}
use Rattle.plan_types.specs.declared.plan.Server.{Server}
use Rattle.conn_model.specs.Servers.{weight_of}
use Rattle.conn_versions.specs.declared.picks.BackendPicks.{BackendPicks}

-- servers of which that one alone has room
abbrev pub load_of_one : ℕ → ℕ → Server → ServerLoad
load_of_one number n server = record { weight = weight_of server; has_room = n == number; connections = 0 }

abbrev pub loads_from : ℕ → ℕ → List Server → List ServerLoad
loads_from number n [] = []
loads_from number n (server ∷ servers) = load_of_one number n server ∷ loads_from number (n + 1) servers

abbrev pub loads_of_one : ℕ → List Server → List ServerLoad
loads_of_one number servers = loads_from number 0 servers

-- the cycle is of the weights of the backend; by round robin the cursor is the turn at the place last used
pub record IsTied (backend : Backend) (cursor : Option Place) (own : BackendPicks) : Type 0 where
  pub cycle : IsRound (map weight_of backend.servers) own.cycle
  pub used : backend.method ≡ RoundRobin → turn_at own.cycle own.used ≡ cursor
