use Rattle.std.proofs.Common.{◌≡◌, Some, ap, ◌∙◌, refl, sym, subst}
use Rattle.std.specs.Prelude.{slice_get}
use Rattle.std.specs.List.{AllByRecursion}
use Rattle.conn_model.specs.Counts.{total}
use Rattle.conn_model.specs.Changes.{row_up, with_row}
use Rattle.conn_rows.specs.Changes.{stored_up}
use Rattle.conn_rows.specs.Stored.{StoredFrontend, with_stored}
use Rattle.conn_rows.specs.Value.{HasSlot, row_judged, row_on, row_slots}
use Rattle.conn_rows.proofs.Counted.{still_rows, total-with}
use Rattle.conn_rows.proofs.Plain.{changed, own_there, row_there, stored_open, up_plain}
use Rattle.conn_rows.proofs.Served.{all-with, slots-up, still_served, up_has}
use Rattle.conn_rows.proofs.rows.Rows.up.Goals as goal

there : (c : goal.After-index_mut) → slice_get c.self.inside.frontends.items c.args.id.frontend ≡ Some c.index_mut.result.now
there c =
    own_there c.self.inside.frontends.items c.self.inside.kept.versions c.self.inside.tables c.args.self.now c.from.result c.args.id.frontend c.index_mut.result.now c.self.view_is c.from.ensures c.index_mut.ensures.value
    (row_there c.args.self.now.frontends c.args.id c.requires)

there_after : (c : goal.After-self-1) → slice_get c.self.inside.frontends.items c.args.id.frontend ≡ Some c.index_mut.result.now
there_after c =
    own_there c.self.inside.frontends.items c.self.inside.kept.versions c.self.inside.tables c.args.self.now c.from.result c.args.id.frontend c.index_mut.result.now c.self.view_is c.from.ensures c.index_mut.ensures.value
    (row_there c.args.self.now.frontends c.args.id c.requires)

pub up-requires : goal.up-requires
up-requires c = stored_open c.self.inside.frontends.items c.self.inside.kept.versions c.self.inside.tables c.args.self.now c.args.id c.index_mut.result.now c.self.view_is (there c) c.requires

pub returns : goal.returns
returns c =
    let own = c.index_mut.result.now in
    rw c.up.ensures.new
    (changed c.self.inside.frontends.items c.self.inside.kept.versions c.self.inside.tables c.args.self.now c.from.result c.args.id.frontend own (record own { rows = with_stored c.args.id.serial stored_up own.rows })
    (λ versions. with_row c.args.id.serial row_up) c.self.view_is c.from.ensures (there_after c)
    (up_plain c.self.inside.kept.versions own c.args.id.serial))

pub invariant_of-self : goal.invariant_of-self
invariant_of-self c =
    let own = c.index_mut.result.now in
    let kept = c.self.inside.kept in
    record {
      rows =
          still_rows c.self.inside.frontends.items c.self.inside.tables.tables c.from.result own c.up.new.self (ap (slice_get c.self.inside.frontends.items) c.from.ensures ∙ there_after c) c.up.ensures.few
          (λ id key. ap (λ f. total (row_on id key) f.rows) c.up.ensures.new ∙ total-with (row_on id key) c.args.id.serial stored_up own.rows (λ row. refl)) c.self.invariant.rows;
      served =
          still_served c.self.inside.frontends.items kept c.from.result own c.up.new.self (ap (slice_get c.self.inside.frontends.items) c.from.ensures ∙ there_after c)
          (λ place. ap (λ f. total (row_slots place) f.rows) c.up.ensures.new ∙ total-with (row_slots place) c.args.id.serial stored_up own.rows (slots-up place))
          (λ number. ap (λ f. total (row_judged number) f.rows) c.up.ensures.new ∙ total-with (row_judged number) c.args.id.serial stored_up own.rows (λ row. refl))
          (λ all. subst (λ (f : StoredFrontend). AllByRecursion (HasSlot kept) f.rows) (sym c.up.ensures.new) (all-with (HasSlot kept) c.args.id.serial stored_up own.rows (up_has kept) all))
          c.self.invariant.served;
      listed = c.self.invariant.listed;
    }
