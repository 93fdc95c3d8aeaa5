use Rattle.std.proofs.Common.{◌≡◌, ◌+◌, ◌≤◌, length, []}
use Rattle.list_core.specs.Each.{each}
use Rattle.text_core.specs.Parts.{parts, is_line_feed}
use Rattle.conf_text.specs.Lines.{next_line}
use Rattle.conf_text.specs.declared.line.TheConstants.{MOST_LINES}
use Rattle.conf_text.proofs.reading.read_lines.Given as goal

abbrev pub invariant-loop-rest : goal.invariant-loop-rest
invariant-loop-rest l = record {
  reads : each next_line l.lines (parts is_line_feed l.rest) ≡ each next_line [] (parts is_line_feed l.text);
  number : l.number ≡ length l.lines + 1;
  few : l.number ≤ MOST_LINES + 1;
}

abbrev pub decreases-loop-rest : goal.decreases-loop-rest
decreases-loop-rest l = length l.rest
