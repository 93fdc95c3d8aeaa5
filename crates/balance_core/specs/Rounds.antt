-- Round robin: the turns of the servers, and their order.
use Rattle.std.specs.Prelude.{ℕ, Bool, true, List, [], ◌∷◌, ◌++◌, map, filter, slice_index, Option, Some, None, ◌+◌, ◌*◌, ◌==◌, ◌&&◌, ◌||◌, nat_lt}
use Rattle.std.specs.List.{range_with_len}
use Rattle.std.specs.Option.{option_or}
use Rattle.balance_core.specs.declared.load.ServerLoad.{ServerLoad}
use Rattle.proxy_types.specs.declared.balance.Place.{Place}
use Rattle.balance_core.specs.Loads.{has_room_at}
use Rattle.balance_core.specs.Orders.{least}

abbrev pub turn_of : ℕ → ℕ → Place
turn_of server turn = record { server = server; turn = turn }

-- so many turns of each server as its weight is, the first server having that number
abbrev pub turns_from : ℕ → List ℕ → List Place
turns_from server [] = []
turns_from server (weight ∷ weights) = map (turn_of server) (range_with_len 0 weight) ++ turns_from (server + 1) weights

abbrev pub weights_of : List ServerLoad → List ℕ
weights_of servers = map (λ server. server.weight) servers

-- all turns
abbrev pub turns : List ServerLoad → List Place
turns servers = turns_from 0 (weights_of servers)

abbrev pub weight_in : List ℕ → ℕ → ℕ
weight_in weights server = slice_index weights server

-- the order of the round: by (2 turn + 1) / weight, then as written
abbrev pub comes_before : List ℕ → Place → Place → Bool
comes_before weights a b =
    let left = (2 * a.turn + 1) * weight_in weights b.server in
    let right = (2 * b.turn + 1) * weight_in weights a.server in
    nat_lt left right || ((left == right) && nat_lt a.server b.server)

abbrev pub is_after : List ℕ → Option Place → Place → Bool
is_after weights None turn = true
is_after weights (Some last) turn = comes_before weights last turn

-- of some turns, the first after the one last used, going round
abbrev pub next_of : List ℕ → Option Place → List Place → Option Place
next_of weights last some = option_or (least (comes_before weights) (filter (is_after weights last) some)) (least (comes_before weights) some)

abbrev pub can_take : List ServerLoad → Place → Bool
can_take servers turn = has_room_at servers turn.server

-- the first turn after the one last used, going round, whose server has room
abbrev pub next_turn : List ServerLoad → Option Place → Option Place
next_turn servers last = next_of (weights_of servers) last (filter (can_take servers) (turns servers))

-- the turn that was used where that server was offered
abbrev pub used_turn : List ℕ → Option Place → ℕ → Option Place
used_turn weights last server = next_of weights last (filter (λ turn. turn.server == server) (turns_from 0 weights))
