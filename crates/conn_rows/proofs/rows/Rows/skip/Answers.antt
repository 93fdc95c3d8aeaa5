use Rattle.std.proofs.Common.{◌≡◌, ◌+◌, ◌∙◌, Some, ap, sym, subst, refl}
use Rattle.std.specs.Prelude.{slice_get}
use Rattle.conn_model.specs.Counts.{total}
use Rattle.conn_model.specs.Changes.{with_refusal}
use Rattle.conn_rows.specs.Stored.{StoredFrontend}
use Rattle.conn_rows.specs.Value.{row_on}
use Rattle.std.specs.List.{AllByRecursion}
use Rattle.conn_rows.specs.Value.{HasSlot, row_judged, row_slots}
use Rattle.conn_rows.proofs.Counted.{still_rows}
use Rattle.conn_rows.proofs.Served.{still_served}
use Rattle.conn_rows.proofs.Plain.{changed, own_there}
use Rattle.conn_rows.proofs.rows.Rows.skip.Goals as goal

there : (c : goal.After-self-1) → slice_get c.self.inside.frontends.items c.args.number ≡ Some c.index_mut.result.now
there c = own_there c.self.inside.frontends.items c.self.inside.kept.versions c.self.inside.tables c.args.self.now c.from.result c.args.number c.index_mut.result.now c.self.view_is c.from.ensures c.index_mut.ensures.value c.requires.there

pub invariant_of-self : goal.invariant_of-self
invariant_of-self c = record {
  rows =
      still_rows c.self.inside.frontends.items c.self.inside.tables.tables c.from.result c.index_mut.result.now c.skip.new.self (ap (slice_get c.self.inside.frontends.items) c.from.ensures ∙ there c) c.skip.ensures.few
      (λ id key. ap (λ f. total (row_on id key) f.rows) c.skip.ensures.new) c.self.invariant.rows;
  served =
      still_served c.self.inside.frontends.items c.self.inside.kept c.from.result c.index_mut.result.now c.skip.new.self (ap (slice_get c.self.inside.frontends.items) c.from.ensures ∙ there c)
      (λ place. ap (λ f. total (row_slots place) f.rows) c.skip.ensures.new) (λ number. ap (λ f. total (row_judged number) f.rows) c.skip.ensures.new) (λ all. subst (λ (f : StoredFrontend). AllByRecursion (HasSlot c.self.inside.kept) f.rows) (sym c.skip.ensures.new) all) c.self.invariant.served;
  listed = c.self.invariant.listed;
}

pub returns : goal.returns
returns c =
    rw c.skip.ensures.new
    (changed c.self.inside.frontends.items c.self.inside.kept.versions c.self.inside.tables c.args.self.now c.from.result c.args.number c.index_mut.result.now (record c.index_mut.result.now { serial = c.index_mut.result.now.serial + 1 }) (λ versions. with_refusal)
    c.self.view_is c.from.ensures (there c) refl)
