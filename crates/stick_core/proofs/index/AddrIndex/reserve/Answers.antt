use Rattle.std.specs.Prelude.{min, vec_capacity, vec_len}
use Rattle.std.proofs.Common.{◌-◌, length, ap, ◌∙◌, arith}
use Rattle.stick_core.proofs.IndexLemmas.{room-is}
use Rattle.stick_core.proofs.index.AddrIndex.reserve.Goals as goal
use Rattle.stick_core.proofs.index.AddrIndex.reserve.Goals.{else-more-gt0-via-then-more-gt0+else-count-eq0, else-more-gt0-via-else-more-gt0}

pub returns-clause-room : goal.returns-clause-room
returns-clause-room c =
    room-is (length c.spread.new.chains.chains) (min (vec_capacity c.reserve.new.self - vec_len c.reserve.new.self) c.spread.new.chains.spare) c.args.more
    (omega (arith, c.in_ok-reserve.ensures.ok, c.in_ok-reserve-2.ensures.room, ap (λ t. t.spare) c.spread.ensures.same))
    (λ is. elim c.else-more-gt0.branch [
      | else-more-gt0-via-then-more-gt0+else-count-eq0 w ↦ absurd (w.if-count-eq0.false (w.count.ensures.value ∙ is))
      | else-more-gt0-via-else-more-gt0 w ↦ omega (arith, w.if-more-gt0.false)
    ])
