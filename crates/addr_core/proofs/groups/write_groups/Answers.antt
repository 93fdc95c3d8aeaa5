use Rattle.addr_core.proofs.GroupLemmas.{plain_written, run_written}
use Rattle.addr_core.proofs.groups.write_groups.Goals as goal

pub returns-then-run-lt-SHORTEST_RUN-clause-text : goal.returns-then-run-lt-SHORTEST_RUN-clause-text
returns-then-run-lt-SHORTEST_RUN-clause-text c =
    plain_written c.args.groups.now c.new-text.result.bytes c.push_groups.new.text.bytes c.longest-run.result.count c.new-text.ensures c.push_groups.ensures.bytes c.longest-run.ensures.count c.if-run-lt-SHORTEST_RUN.true

pub returns-clause-text : goal.returns-clause-text
returns-clause-text c =
    run_written c.args.groups.now c.new-text.result.bytes c.push_groups-2.new.text.bytes c.push_colon.new.text.bytes c.push_colon-2.new.text.bytes c.push_groups-3.new.text.bytes
    c.longest-run.result.place c.longest-run.result.count c.new-text.ensures c.push_groups-2.ensures.bytes c.push_colon.ensures.bytes c.push_colon-2.ensures.bytes c.push_groups-3.ensures.bytes
    c.longest-run.ensures.place c.longest-run.ensures.count c.if-run-lt-SHORTEST_RUN.false
