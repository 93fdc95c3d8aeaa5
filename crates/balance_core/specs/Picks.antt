-- Which server of a backend is picked, by its method.
use Rattle.std.specs.Prelude.{ℕ, List, Option, Some, option_map}
use Rattle.addr_core.specs.declared.addr.Addr.{Addr}
use Rattle.proxy_types.specs.declared.balance.Method.{Method}
use Rattle.proxy_types.specs.declared.balance.Method.TheVariants.{RoundRobin, LeastConn, Source}
use Rattle.proxy_types.specs.declared.balance.Place.{Place}
use Rattle.balance_core.specs.declared.load.ServerLoad.{ServerLoad}
use Rattle.balance_core.specs.Rounds.{turn_of, next_turn, used_turn}
use Rattle.balance_core.specs.Least.{lightest}
use Rattle.balance_core.specs.Source.{of_source}

-- the turn that is picked; but for round robin it is the first one of a server
abbrev pub picked : List ServerLoad → Method → Option Place → Addr → Option Place
picked servers RoundRobin last source = next_turn servers last
picked servers LeastConn last source = option_map (λ n. turn_of n 0) (lightest servers (option_map (λ turn. turn.server) last))
picked servers Source last source = option_map (λ n. turn_of n 0) (of_source servers source)

-- what was last used, once that server was offered
abbrev pub used_after : List ℕ → Method → Option Place → ℕ → Option Place
used_after weights RoundRobin last server = used_turn weights last server
used_after weights LeastConn last server = Some (turn_of server 0)
used_after weights Source last server = last

-- what was last used, once that turn was picked
abbrev pub used_now : Method → Option Place → Place → Option Place
used_now RoundRobin last turn = Some turn
used_now LeastConn last turn = Some turn
used_now Source last turn = last
