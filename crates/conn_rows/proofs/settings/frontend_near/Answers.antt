use Rattle.std.proofs.Common.{◌≡◌, Some, sym, ap, ◌∙◌}
use Rattle.std.specs.Prelude.{slice_get}
use Rattle.std.specs.Option.{option_copied}
use Rattle.conn_rows.proofs.PlaceLemmas.{find-named}
use Rattle.conn_rows.proofs.settings.frontend_near.Goals as goal

pub returns-in-Some : goal.returns-in-Some
returns-in-Some c =
    let frontend = c.in-Some.frontend.now in
    let there : slice_get c.args.plan.now.frontends c.args.number ≡ Some frontend =
    ap (λ xs. slice_get xs c.args.number) (sym c.as_slice.ensures) ∙ sym c.item.ensures ∙ ap option_copied c.in-Some.is in
    sym (find-named c.args.name.now c.args.plan.now.frontends c.requires.frontend_names c.args.number frontend there (sym c.has_name.ensures ∙ c.if-has_name.true))
