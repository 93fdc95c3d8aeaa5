use Rattle.std.proofs.Common.{◌≡◌, ◌+◌, ◌≤◌, take}
use Rattle.std.specs.List.{count_by}
use Rattle.text_core.specs.Parts.{is_line_feed}
use Rattle.event_text.proofs.events.count_lines.Given as goal

abbrev pub invariant-loop-byte : goal.invariant-loop-byte
invariant-loop-byte l = (l.lines ≡ count_by is_line_feed (take l.byte-index l.text) + 1) × (l.lines ≤ l.byte-index + 1)
