use Rattle.std.proofs.Common.{ap, ◌∙◌}
use Rattle.std.specs.Prelude.{option_map}
use Rattle.balance_core.specs.Loads.{has_room_at}
use Rattle.balance_core.specs.Cycles.{turn_at}
use Rattle.balance_core.proofs.RoundLemmas.{next_is, place_has_server}
use Rattle.balance_core.proofs.round.pick_round.Goals as goal

pub returns-clause-turn : goal.returns-clause-turn
returns-clause-turn g c = λ round.
    ap (λ o. turn_at c.args.cycle.now (option_map (λ placed. placed.place) o)) c.place_after.ensures
    ∙ next_is (g.L.Load.servers c.args.load.now) c.args.cycle.now c.args.last round

pub returns-clause-server : goal.returns-clause-server
returns-clause-server g c =
    rw c.place_after.ensures (place_has_server (has_room_at (g.L.Load.servers c.args.load.now)) c.args.cycle.now c.args.last)
