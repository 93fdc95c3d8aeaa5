use Rattle.std.proofs.Common.{arith}
use Rattle.text_core.proofs.SameLemmas.{long_same}
use Rattle.text_core.proofs.name.is_same_long.Goals as goal

pub returns : goal.returns
returns c =
    long_same c.have_same_eight-2.result c.args.one.now c.args.other.now c.loop-eighth.eighth c.requires.length c.requires.long (omega (arith, c.loop-eighth-test.false))
    c.loop-eighth.invariant c.have_same_eight-2.ensures
