use Rattle.std.proofs.Common.{◌≡◌, ◌∙◌, None, Some, ap, refl, sym, subst}
use Rattle.std.specs.Prelude.{option_map}
use Rattle.conn_model.specs.declared.plain.Plain.{Plain}
use Rattle.conn_rows.specs.Summaries.{pending_in}
use Rattle.conn_core.specs.Machine.{state_of}
use Rattle.conn_core.specs.Moving.{HasOther}
use Rattle.conn_core.proofs.MovedLemmas.{pending_known}
use Rattle.conn_core.proofs.machine.Core.other_offer.Goals as goal

pub returns-in-None-clause-ok : goal.returns-in-None-clause-ok
returns-in-None-clause-ok c =
    let known = pending_known c.self.inside.rows.frontends c.args.id c.in-Some-pending.pending (sym c.pending.ensures ∙ ap (option_map pending_in) c.in-Some-pending.is) in
    let p : Plain = state_of c.self.inside.listeners c.self.inside.rows in
    subst (λ p. HasOther p c.args.id None) c.self.view_is
    (record {
      row = known.0;
      given = known.1;
      row_is = known.2;
      offered = known.3;
      version = tt;
      other = sym c.in-None.is ∙ c.other_offer.ensures p known.0 known.1 (record { frontends = refl; versions = refl; tables = refl; down = refl }) known.4;
    })
