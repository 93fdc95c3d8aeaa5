use Rattle.addr_core.proofs.GroupLemmas.{groups_pushed}
use Rattle.addr_core.proofs.groups.push_groups.Goals as goal

pub returns-clause-bytes : goal.returns-clause-bytes
returns-clause-bytes c =
    groups_pushed c.args.groups.now c.args.text.now.bytes c.push_short.new.text.bytes c.push_more.new.text.bytes c.in-len1-up.len_at_least c.push_short.ensures.bytes c.push_more.ensures.bytes
