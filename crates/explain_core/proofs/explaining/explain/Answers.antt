use Rattle.std.proofs.Common.{subst}
use Rattle.conn_model.specs.declared.plain.Plain.{Plain}
use Rattle.explain_core.specs.Listeners.{HasNone}
use Rattle.explain_core.proofs.OpeningLemmas.{none_named}
use Rattle.explain_core.proofs.explaining.explain.Goals as goal

pub returns-in-Ok-None-clause-no_frontend : goal.returns-in-Ok-None-clause-no_frontend
returns-in-Ok-None-clause-no_frontend c = λ is.
    let opened = c.in_ok-core.ensures.ok in
    let none : HasNone c.in_ok-core.core c.args.name.now = rw c.in-Ok-None.field-0-is at c.in-Ok-None.ensures.explained in
    (opened.0, opened.1, none_named opened.0 c.args.name.now (subst (λ (p : Plain). HasNone p c.args.name.now) opened.2 none))
