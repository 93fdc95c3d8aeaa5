use Rattle.text_core.specs.Names.{AreSameBetween}
use Rattle.text_core.proofs.name.is_same_short.Given as goal

abbrev pub invariant-loop-place : goal.invariant-loop-place
invariant-loop-place l = AreSameBetween l.one l.other 0 l.place
