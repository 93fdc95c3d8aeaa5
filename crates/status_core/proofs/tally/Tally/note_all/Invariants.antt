use Rattle.std.proofs.Common.{◌≡◌, take}
use Rattle.status_core.specs.Tally.{all_counted}
use Rattle.status_core.proofs.tally.Tally.note_all.Given as goal

abbrev pub invariant-loop-entry : goal.invariant-loop-entry
invariant-loop-entry l = l.self.decisions ≡ all_counted l.fn.self.decisions (take l.entry-index l.entries)
