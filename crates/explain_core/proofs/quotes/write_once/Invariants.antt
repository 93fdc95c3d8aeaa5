use Rattle.std.proofs.Common.{◌≡◌, ◌++◌, drop, take}
use Rattle.std.specs.Prelude.{filter}
use Rattle.event_text.specs.Script.{ended_lines}
use Rattle.explain_core.specs.Text.{once}
use Rattle.explain_core.proofs.OnceLemmas.{is_new}
use Rattle.explain_core.proofs.quotes.write_once.Given as goal

abbrev pub invariant-loop-place : goal.invariant-loop-place
invariant-loop-place l = l.out.items ++ ended_lines (filter (is_new (take l.place l.lines)) (once (drop l.place l.lines))) ≡ l.initial.out.items ++ ended_lines (once l.lines)
