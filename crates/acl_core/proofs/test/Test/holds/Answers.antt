use Rattle.std.proofs.Common.{sym, ◌∙◌}
use Rattle.acl_core.proofs.NetworkLemmas.{test_by_index}
use Rattle.acl_core.proofs.test.Test.holds.Goals as goal

pub returns-in-Source : goal.returns-in-Source
returns-in-Source g c =
    rw (← c.self.view_is)
    (c.holds.ensures ∙ test_by_index (g.V.View.worth c.args.view.now) c.in-Source.addr (record { criterion = c.self.inside.criterion; patterns = c.self.inside.patterns }) c.self.inside.index
    (sym c.value.ensures ∙ c.in-Source.is) c.self.invariant)
