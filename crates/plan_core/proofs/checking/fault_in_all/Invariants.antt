use Rattle.std.proofs.Common.{◌≡◌, drop}
use Rattle.std.specs.List.{flat_map}
use Rattle.plan_core.specs.Faults.{faults_in, earliest, least}
use Rattle.plan_core.proofs.checking.fault_in_all.Given as goal

abbrev pub invariant-loop-proxy : goal.invariant-loop-proxy
invariant-loop-proxy l = earliest l.found (least (flat_map (faults_in l.tables l.backends l.all) (drop l.proxy-index l.all))) ≡ least (flat_map (faults_in l.tables l.backends l.all) l.all)
