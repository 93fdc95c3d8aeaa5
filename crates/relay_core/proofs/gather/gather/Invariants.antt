use Rattle.std.proofs.Common.{◌≡◌, ◌-◌, ◌≤◌, take}
use Rattle.std.specs.Io.KnownBytes.{Consumes}
use Rattle.relay_core.specs.Burst.{stalls_before}
use Rattle.relay_core.proofs.Gathers.{AsksOn}
use Rattle.relay_core.proofs.gather.gather.Given as goal

abbrev pub invariant-loop-count : goal.invariant-loop-count
invariant-loop-count g l = record {
  within : l.count ≤ l.limit;
  read : Consumes (g.I.Input.left l.initial.reader) (g.I.Input.left l.reader) (take l.count l.piece);
  calls : AsksOn l.most l.limit l.count (g.I.Input.calls l.initial.reader) (g.I.Input.calls l.reader);
  failures : g.I.Input.failures l.reader ≡ g.I.Input.failures l.initial.reader;
  stalls : g.I.Input.stalls l.reader ≡ stalls_before l.count (g.I.Input.stalls l.initial.reader);
}

abbrev pub decreases-loop-count : goal.decreases-loop-count
decreases-loop-count g l = l.limit - l.count
