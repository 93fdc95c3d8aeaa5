use Rattle.std.proofs.Common.{sym, ◌∙◌}
use Rattle.conn_model.specs.Tables.{same_table}
use Rattle.conn_versions.proofs.Written.{pair_found, pair_missing}
use Rattle.conn_versions.proofs.opening.same_among.Goals as goal

pub returns-in_err-place : goal.returns-in_err-place
returns-in_err-place c =
    c.from_residual.ensures ∙ sym (pair_missing (λ other. same_table other c.args.table.now) c.args.tables.now c.args.ids.now (sym c.same_place.ensures ∙ c.in_err-place.was))

pub returns : goal.returns
returns c =
    c.id_at.ensures
    ∙ sym (pair_found (λ other. same_table other c.args.table.now) c.args.tables.now c.args.ids.now c.in_ok-place.place (sym c.same_place.ensures ∙ c.in_ok-place.was))
