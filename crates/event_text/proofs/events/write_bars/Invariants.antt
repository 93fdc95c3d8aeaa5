use Rattle.std.proofs.Common.{◌≡◌, ◌++◌, length}
use Rattle.event_text.specs.Script.{bar_lines, ended_lines}
use Rattle.event_text.proofs.events.write_bars.Given as goal

abbrev pub invariant-loop-line : goal.invariant-loop-line
invariant-loop-line l = l.out.items ++ ended_lines (bar_lines l.rest) ≡ l.initial.out.items ++ ended_lines (bar_lines l.text)

abbrev pub decreases-loop-line : goal.decreases-loop-line
decreases-loop-line l = length l.rest
