use Rattle.std.proofs.Common.{◌∙◌}
use Rattle.list_core.proofs.NewestLemmas.{slice_get-last}
use Rattle.list_core.proofs.last.newest.Goals as goal

pub returns : goal.returns
returns g c = c.last.ensures.value ∙ slice_get-last c.args.items.now
