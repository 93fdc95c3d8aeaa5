use Rattle.std.proofs.Common.{ap, sym, ◌∙◌, subst}
use Rattle.std.specs.Prelude.{option_map}
use Rattle.balance_core.specs.Cycles.{turn_at, IsRound}
use Rattle.balance_core.specs.Rounds.{weights_of}
use Rattle.conn_versions.specs.Picks.{loads_of_one}
use Rattle.conn_versions.proofs.ServerLoads.{turn_of_one, weights-one}
use Rattle.conn_versions.proofs.picks.next_of_server.Goals as goal

pub returns-in-Some : goal.returns-in-Some
returns-in-Some c =
    let round : IsRound (weights_of (loads_of_one c.args.number c.args.servers.now)) c.args.cycle.now =
    subst (λ ws. IsRound ws c.args.cycle.now) (sym (weights-one c.args.number c.args.servers.now)) c.requires.round in
    sym (ap (λ o. turn_at c.args.cycle.now (option_map (λ placed. placed.place) o)) c.in-Some.is) ∙ c.pick_round.ensures.turn round
    ∙ turn_of_one c.args.number c.args.servers.now (turn_at c.args.cycle.now c.args.used)

pub returns-in-None : goal.returns-in-None
returns-in-None c =
    let round : IsRound (weights_of (loads_of_one c.args.number c.args.servers.now)) c.args.cycle.now =
    subst (λ ws. IsRound ws c.args.cycle.now) (sym (weights-one c.args.number c.args.servers.now)) c.requires.round in
    sym (ap (λ o. turn_at c.args.cycle.now (option_map (λ placed. placed.place) o)) c.in-None.is) ∙ c.pick_round.ensures.turn round
    ∙ turn_of_one c.args.number c.args.servers.now (turn_at c.args.cycle.now c.args.used)
