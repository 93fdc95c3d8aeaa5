use Rattle.std.proofs.Common.{◌≡◌, ◌-◌, ◌≤◌}
use Rattle.std.specs.Io.KnownBytes.{Keeps}
use Rattle.device_core.specs.Device.{raised_by}
use Rattle.device_core.proofs.patience.read_on.Given as goal

abbrev pub invariant-loop-stalls : goal.invariant-loop-stalls
invariant-loop-stalls g l = record {
  left : Keeps (g.I.Input.left l.initial.input) (g.I.Input.left l.input);
  failures : g.I.Input.failures l.input ≡ g.I.Input.failures l.initial.input;
  reads : l.reads ≤ l.initial.reads;
  calls : g.I.Input.calls l.input ≡ raised_by (l.initial.reads - l.reads) (g.I.Input.calls l.initial.input);
  stalls : g.I.Input.stalls l.input ≡ raised_by l.stalls (g.I.Input.stalls l.initial.input);
  few : l.stalls ≤ 1000000;
}

abbrev pub decreases-loop-stalls : goal.decreases-loop-stalls
decreases-loop-stalls g l = 1000000 - l.stalls
