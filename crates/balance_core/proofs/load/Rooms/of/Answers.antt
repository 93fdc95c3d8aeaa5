use Rattle.std.proofs.Common.{refl, ◌∙◌, arith}
use Rattle.std.proofs.lemmas.List.{length-set}
use Rattle.proxy_types.specs.declared.limits.TheConstants.{MOST_SERVERS}
use Rattle.balance_core.specs.Loads.{has_room_at}
use Rattle.balance_core.proofs.RoomLemmas.{none_asked, one_asked, all_asked}
use Rattle.balance_core.proofs.load.Rooms.of.Goals as goal

pub loop-number-init : goal.loop-number-init
loop-number-init g c = (refl, λ k. none_asked MOST_SERVERS k (has_room_at (g.L.Load.servers c.args.load.now) k))

pub loop-number-preserved : goal.loop-number-preserved
loop-number-preserved g c = (
  length-set c.loop-number.rooms c.from.result c.has_room.result ∙ c.loop-number.invariant.0,
  λ k. rw c.from.ensures (one_asked (has_room_at (g.L.Load.servers c.args.load.now)) c.loop-number.rooms c.loop-number.number k c.has_room.result c.has_room.ensures
      (omega (arith, c.loop-number.invariant.0, c.loop-number-test.true, c.count-number-end.ensures.few)) (c.loop-number.invariant.1 k)),
)

pub returns : goal.returns
returns g c = λ number.
    all_asked (g.L.Load.servers c.args.load.now) c.loop-number.rooms c.loop-number.number number
    (omega (arith, c.loop-number-test.false, c.count-number-end.ensures.value)) (c.loop-number.invariant.1 number)
