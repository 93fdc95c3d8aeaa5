use Rattle.std.proofs.Common.{sym}
use Rattle.proxy_types.specs.declared.limits.TheConstants.{MOST_SERVERS}
use Rattle.conf_tree.specs.Config.{is_server}
use Rattle.conf_tree.proofs.FewLemmas.{too_few}
use Rattle.conf_tree.proofs.reading.are_servers.Goals as goal

pub returns-then-lines-lt-MOST_SERVERS : goal.returns-then-lines-lt-MOST_SERVERS
returns-then-lines-lt-MOST_SERVERS c = sym (too_few MOST_SERVERS (λ item. is_server item.statement) c.args.lines.now c.if-lines-lt-MOST_SERVERS.true)
