use Rattle.std.proofs.Common.{not, sym, ap, ◌∙◌}
use Rattle.std.specs.Prelude.{◌&&◌}
use Rattle.std.specs.List.{list_any}
use Rattle.acl_core.specs.Networks.{is_of_source}
use Rattle.acl_core.specs.Truth.{test_holds}
use Rattle.acl_core.proofs.NetworkLemmas.{index_answers, others_answer, none_answers}
use Rattle.acl_core.proofs.tests.Tests.holds.Goals as goal

pub returns-then-holds : goal.returns-then-holds
returns-then-holds g c =
    rw (← c.self.view_is)
    (c.holds.ensures ∙ index_answers (g.V.View.worth c.args.view.now) c.in-Source.addr c.self.inside.tests c.self.inside.index
    (sym c.value.ensures ∙ c.in-Source.is) c.self.invariant.1 (sym c.holds.ensures ∙ c.if-holds.true))

pub returns-then-not-self : goal.returns-then-not-self
returns-then-not-self g c =
    rw (← c.self.view_is)
    (c.some_other_holds.ensures ∙ ap (list_any (λ test. not (is_of_source test) && test_holds (g.V.View.worth c.args.view.now) test)) c.as_slice-tests.ensures
    ∙ others_answer (g.V.View.worth c.args.view.now) c.in-Source.addr c.self.inside.tests c.self.inside.index
    (sym c.value.ensures ∙ c.in-Source.is) c.self.invariant.1 (sym c.holds.ensures ∙ c.if-holds.false))

pub returns-else-not-self : goal.returns-else-not-self
returns-else-not-self g c =
    rw (← c.self.view_is)
    (none_answers (g.V.View.worth c.args.view.now) c.in-Source.addr c.self.inside.tests c.self.inside.index c.self.inside.is_all_source
    (sym c.value.ensures ∙ c.in-Source.is) c.self.invariant.1 (sym c.holds.ensures ∙ c.if-holds.false) c.self.invariant.0 c.if-not-self.false)
