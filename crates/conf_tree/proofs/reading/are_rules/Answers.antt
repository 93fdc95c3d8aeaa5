use Rattle.std.proofs.Common.{sym}
use Rattle.conf_tree.specs.declared.limits.TheConstants.{MOST_RULES}
use Rattle.conf_tree.specs.Config.{is_rule}
use Rattle.conf_tree.proofs.FewLemmas.{too_few}
use Rattle.conf_tree.proofs.reading.are_rules.Goals as goal

pub returns-then-lines-lt-MOST_RULES : goal.returns-then-lines-lt-MOST_RULES
returns-then-lines-lt-MOST_RULES c = sym (too_few MOST_RULES (λ item. is_rule item.statement) c.args.lines.now c.if-lines-lt-MOST_RULES.true)
