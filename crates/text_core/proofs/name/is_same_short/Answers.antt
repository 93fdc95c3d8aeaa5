use Rattle.std.proofs.Common.{arith}
use Rattle.text_core.proofs.SameLemmas.{short_same}
use Rattle.text_core.proofs.name.is_same_short.Goals as goal

pub returns : goal.returns
returns c =
    short_same c.args.one.now c.args.other.now c.requires (λ k low high. c.loop-place.invariant k low (omega (arith, high, c.loop-place-test.false)))
