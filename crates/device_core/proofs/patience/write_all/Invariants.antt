use Rattle.std.proofs.Common.{◌≡◌, ◌⊎◌, ◌+◌, ◌*◌, ◌-◌, ◌<◌, ◌≤◌, length, take}
use Rattle.std.specs.Io.KnownBytes.{Appends}
use Rattle.device_core.specs.Device.{raised_by}
use Rattle.device_core.proofs.patience.write_all.Given as goal

abbrev pub invariant-loop-written : goal.invariant-loop-written
invariant-loop-written g l = record {
  held : Appends (g.O.Output.held l.initial.output) (g.O.Output.held l.output) (take l.written l.bytes);
  within : l.written ≤ length l.bytes;
  failures : g.O.Output.failures l.output ≡ g.O.Output.failures l.initial.output;
  stalls : (g.O.Output.stalls l.output ≡ raised_by l.stalls (g.O.Output.stalls l.initial.output)) ⊎ (g.O.Output.stalls l.output ≡ l.stalls);
  few : l.stalls ≤ 1000000;
  waits : (l.stalls ≡ 0) ⊎ (l.written < length l.bytes);
}

abbrev pub decreases-loop-written : goal.decreases-loop-written
decreases-loop-written g l = (length l.bytes - l.written) * 1000001 + (1000000 - l.stalls)
