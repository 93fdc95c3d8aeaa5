use Rattle.std.proofs.Common.{◌-◌}
use Rattle.slot_core.specs.Totals.{with_servers}
use Rattle.slot_core.proofs.TotalLemmas.{changed_total}
use Rattle.slot_core.proofs.totals.leave.Goals as goal

pub returns : goal.returns
returns c = changed_total (with_servers (λ n. n - 1)) c.args.place c.args.totals.now.items c.index_mut.result.now c.requires.there c.index_mut.ensures.value
