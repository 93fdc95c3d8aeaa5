use Rattle.std.proofs.Common.{◌++◌, refl, ap, ◌∙◌}
use Rattle.conn_model.specs.declared.event.OwnedEvent.TheVariants.{Accept}
use Rattle.conn_model.specs.Answer.{answer_in}
use Rattle.explain_core.specs.Text.{accept_text}
use Rattle.explain_core.proofs.OpeningLemmas.{no_fault}
use Rattle.explain_core.proofs.showing.Shower.explain_accept.Goals as goal

pub unreachable-requires : goal.unreachable-requires
unreachable-requires c =
    no_fault (answer_in c.args.core.now 0 (Accept c.args.number c.args.real)) c.requires
    (let none = c.in_default.ensures.none 0 in rw none refl)

pub returns : goal.returns
returns c = (
  record { facts = c.in-Some.facts; sees = c.in-Some.ensures.some; entry = c.in_ok-entry.ensures; trials = c.in_ok-trials.ensures },
  c.in_ok-show_accept.ensures ∙ ap (λ tried. c.args.text.now.items ++ accept_text c.args.self.now.lines.now c.in-Some.facts c.args.at.now tried c.in_ok-trials.trials) c.as_slice.ensures.value,
)
