use Rattle.std.proofs.Common.{sym, ◌∙◌}
use Rattle.conf_text.proofs.LineLemmas.{nothing_wrong}
use Rattle.conf_text.proofs.reading.check_bytes.Goals as goal

pub returns-then-are_allowed : goal.returns-then-are_allowed
returns-then-are_allowed c = nothing_wrong c.args.code.now (sym c.are_allowed.ensures ∙ c.if-are_allowed.true)
