use Rattle.std.proofs.Common.{◌≡◌, Some, sym, ap, ◌∙◌}
use Rattle.std.specs.Prelude.{slice_get, option_map}
use Rattle.std.specs.Option.{option_copied}
use Rattle.std.proofs.lemmas.List.{length-map}
use Rattle.conn_rows.specs.Stored.{plain_frontend, plain_row}
use Rattle.conn_rows.proofs.Plain.{get-map}
use Rattle.conn_rows.proofs.rows.Rows.frontend.Goals as goal

pub returns-clause-some : goal.returns-clause-some
returns-clause-some c =
    let own = c.in_ok-own.own.now in
    let there : slice_get c.self.inside.frontends.items c.args.number ≡ Some own =
    ap (λ xs. slice_get xs c.args.number) (sym c.as_slice.ensures.value) ∙ sym c.item.ensures ∙ ap option_copied c.in_ok-own.was in (
      plain_frontend c.self.inside.kept.versions own,
      ap (λ s. slice_get s.frontends c.args.number) (sym c.self.view_is) ∙ get-map (plain_frontend c.self.inside.kept.versions) c.self.inside.frontends.items c.args.number
          ∙ ap (option_map (plain_frontend c.self.inside.kept.versions)) there,
      record {
        name = c.name.ensures;
        serial = c.serial.ensures;
        connections = c.count.ensures.value ∙ sym (length-map own.rows (plain_row c.self.inside.kept.versions));
      },
    )
