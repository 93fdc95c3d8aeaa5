use Rattle.std.proofs.Common.{ap, ◌∙◌}
use Rattle.std.specs.Prelude.{List, ℕ, position}
use Rattle.std.specs.Str.{bytes_eq}
use Rattle.conn_core.proofs.facts.RuleFacts.table_number.Goals as goal

pub returns-in-Some : goal.returns-in-Some
returns-in-Some c = rw (c.in-Some.is, ← c.as_slice-tables.ensures) (c.place_of.ensures ∙ ap (λ (n : List ℕ). position (λ table. bytes_eq table.name n) c.as_slice-tables.result.now) c.as_slice.ensures)
