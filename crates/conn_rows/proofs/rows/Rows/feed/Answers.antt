use Rattle.std.proofs.Common.{◌≡◌, Some, sym, subst, ◌∙◌, ap, refl}
use Rattle.std.specs.Prelude.{slice_get, IsSome}
use Rattle.conn_rows.specs.Stored.{with_stored}
use Rattle.conn_model.specs.Changes.{row_fed, with_row}
use Rattle.conn_rows.specs.Changes.{stored_fed}
use Rattle.conn_rows.proofs.Plain.{changed, fed_plain, own_there, rest_of_state, rest_there}
use Rattle.conn_model.specs.Counts.{total}
use Rattle.std.specs.List.{AllByRecursion}
use Rattle.conn_rows.specs.Stored.{StoredFrontend}
use Rattle.conn_rows.specs.Value.{HasSlot, row_judged, row_on, row_slots}
use Rattle.conn_rows.proofs.Served.{all-with, fed_has, slots-fed, still_served}
use Rattle.conn_rows.proofs.Counted.{still_rows, total-with}
use Rattle.conn_rows.proofs.rows.Rows.feed.Goals as goal

there : (c : goal.After-index_mut) → slice_get c.self.inside.frontends.items c.args.id.frontend ≡ Some c.index_mut.result.now
there c =
    own_there c.self.inside.frontends.items c.self.inside.kept.versions c.self.inside.tables c.args.self.now c.from.result c.args.id.frontend c.index_mut.result.now c.self.view_is c.from.ensures c.index_mut.ensures.value
    (rest_there c.args.self.now.frontends c.args.id c.requires)

there_after : (c : goal.After-self-1) → slice_get c.self.inside.frontends.items c.args.id.frontend ≡ Some c.index_mut.result.now
there_after c =
    own_there c.self.inside.frontends.items c.self.inside.kept.versions c.self.inside.tables c.args.self.now c.from.result c.args.id.frontend c.index_mut.result.now c.self.view_is c.from.ensures c.index_mut.ensures.value
    (rest_there c.args.self.now.frontends c.args.id c.requires)

pub feed-requires : goal.feed-requires
feed-requires c = subst IsSome (rest_of_state c.self.inside.frontends.items c.self.inside.kept.versions c.self.inside.tables c.args.self.now c.args.id c.index_mut.result.now c.self.view_is (there c)) c.requires

pub returns-clause-status : goal.returns-clause-status
returns-clause-status c = λ rest is. c.feed.ensures.status rest (sym (rest_of_state c.self.inside.frontends.items c.self.inside.kept.versions c.self.inside.tables c.args.self.now c.args.id c.index_mut.result.now c.self.view_is (there_after c)) ∙ is)

pub returns-clause-new : goal.returns-clause-new
returns-clause-new c =
    let own = c.index_mut.result.now in
    rw c.feed.ensures.new
    (changed c.self.inside.frontends.items c.self.inside.kept.versions c.self.inside.tables c.args.self.now c.from.result c.args.id.frontend own (record own { rows = with_stored c.args.id.serial (stored_fed c.args.piece.now) own.rows })
    (λ versions. with_row c.args.id.serial (row_fed c.args.piece.now)) c.self.view_is c.from.ensures (there_after c)
    (fed_plain c.self.inside.kept.versions own c.args.id.serial c.args.piece.now))

pub invariant_of-self : goal.invariant_of-self
invariant_of-self c =
    let own = c.index_mut.result.now in
    let kept = c.self.inside.kept in
    record {
      rows =
          still_rows c.self.inside.frontends.items c.self.inside.tables.tables c.from.result own c.feed.new.self (ap (slice_get c.self.inside.frontends.items) c.from.ensures ∙ there_after c) c.feed.ensures.few
          (λ id key. ap (λ f. total (row_on id key) f.rows) c.feed.ensures.new ∙ total-with (row_on id key) c.args.id.serial (stored_fed c.args.piece.now) own.rows (λ row. refl)) c.self.invariant.rows;
      served =
          still_served c.self.inside.frontends.items kept c.from.result own c.feed.new.self (ap (slice_get c.self.inside.frontends.items) c.from.ensures ∙ there_after c)
          (λ place. ap (λ f. total (row_slots place) f.rows) c.feed.ensures.new ∙ total-with (row_slots place) c.args.id.serial (stored_fed c.args.piece.now) own.rows (slots-fed place c.args.piece.now))
          (λ number. ap (λ f. total (row_judged number) f.rows) c.feed.ensures.new ∙ total-with (row_judged number) c.args.id.serial (stored_fed c.args.piece.now) own.rows (λ row. refl))
          (λ all. subst (λ (f : StoredFrontend). AllByRecursion (HasSlot kept) f.rows) (sym c.feed.ensures.new) (all-with (HasSlot kept) c.args.id.serial (stored_fed c.args.piece.now) own.rows (fed_has kept c.args.piece.now) all))
          c.self.invariant.served;
      listed = c.self.invariant.listed;
    }
