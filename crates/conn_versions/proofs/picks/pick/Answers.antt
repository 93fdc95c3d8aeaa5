use Rattle.std.proofs.Common.{ap, sym, ◌∙◌, subst, refl}
use Rattle.std.specs.Prelude.{option_map}
use Rattle.balance_core.specs.Cycles.{IsRound}
use Rattle.balance_core.specs.Picks.{picked}
use Rattle.balance_core.specs.Rounds.{next_turn, weights_of}
use Rattle.conn_model.specs.Servers.{loads_of}
use Rattle.conn_model.proofs.Cursors.{weights_of-loads}
use Rattle.conn_versions.specs.Barred.{is_barred}
use Rattle.conn_versions.specs.Versions.{open_to}
use Rattle.conn_versions.proofs.picks.pick.Goals as goal

pub returns-in-RoundRobin : goal.returns-in-RoundRobin
returns-in-RoundRobin c =
    let barred = is_barred c.args.barred.down.now c.args.barred.lines.now in
    let loads = loads_of (open_to c.args.slots.now) barred c.args.backend.now in
    let round : IsRound (weights_of loads) c.args.own.now.cycle = subst (λ ws. IsRound ws c.args.own.now.cycle)
    (sym (weights_of-loads (open_to c.args.slots.now) barred c.args.backend.now (λ server. rw c.in-RoundRobin.is refl))) c.requires.tied.cycle in
    c.pick_next.ensures round
    ∙ ap (λ last. option_map (λ turn. turn.server) (next_turn loads last)) (c.requires.tied.used c.in-RoundRobin.is)
    ∙ sym (ap (λ method. option_map (λ turn. turn.server) (picked loads method c.args.cursor c.args.source.now)) c.in-RoundRobin.is)
