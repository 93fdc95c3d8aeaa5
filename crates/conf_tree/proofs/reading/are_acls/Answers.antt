use Rattle.std.proofs.Common.{sym}
use Rattle.conf_tree.specs.declared.limits.TheConstants.{MOST_ACLS}
use Rattle.conf_tree.specs.Config.{is_acl}
use Rattle.conf_tree.proofs.FewLemmas.{too_few}
use Rattle.conf_tree.proofs.reading.are_acls.Goals as goal

pub returns-then-lines-lt-MOST_ACLS : goal.returns-then-lines-lt-MOST_ACLS
returns-then-lines-lt-MOST_ACLS c = sym (too_few MOST_ACLS (λ item. is_acl item.statement) c.args.lines.now c.if-lines-lt-MOST_ACLS.true)
