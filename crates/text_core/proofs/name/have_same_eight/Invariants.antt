use Rattle.std.specs.Prelude.{◌↔◌, IsTrue}
use Rattle.text_core.specs.Names.{AreSameBetween}
use Rattle.text_core.proofs.name.have_same_eight.Given as goal

abbrev pub invariant-loop-place : goal.invariant-loop-place
invariant-loop-place l = IsTrue l.same ↔ AreSameBetween l.one l.other l.at l.place
