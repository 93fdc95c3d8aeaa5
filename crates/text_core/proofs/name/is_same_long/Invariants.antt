use Rattle.std.proofs.Common.{◌*◌}
use Rattle.text_core.specs.Names.{AreSameBetween}
use Rattle.text_core.proofs.name.is_same_long.Given as goal

abbrev pub invariant-loop-eighth : goal.invariant-loop-eighth
invariant-loop-eighth l = AreSameBetween l.one l.other 0 (8 * l.eighth)
