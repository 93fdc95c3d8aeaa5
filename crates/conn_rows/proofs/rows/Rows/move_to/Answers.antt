use Rattle.std.proofs.Common.{◌≡◌, ◌<◌, Some, ap, ◌∙◌, refl, sym, subst, length, map, arith}
use Rattle.std.specs.Prelude.{slice_get, IsSome}
use Rattle.slot_core.specs.Counts.{open_at}
use Rattle.conn_model.specs.Answer.{row_at, version_at}
use Rattle.conn_model.specs.Counts.{total}
use Rattle.conn_rows.specs.Changes.{stored_moved}
use Rattle.conn_rows.specs.Value.{row_judged, row_on, RowsValue}
use Rattle.conn_rows.proofs.Counted.{still_rows, total-with}
use Rattle.conn_rows.proofs.Plain.{judged_there, moved_value, moving_there, own_exists, own_there, row_there}
use Rattle.conn_rows.proofs.OfferedTo.{open_few}
use Rattle.conn_rows.proofs.Served.{left_counted, moved_has, moved_served, slot_counted, slots-offer, still_there}
use Rattle.conn_tables.specs.Tables.{plain_table}
use Rattle.conn_versions.specs.Versions.{HasServer}
use Rattle.conn_rows.proofs.TablesListed.{listed-offer}
use Rattle.conn_rows.proofs.rows.Rows.move_to.Goals as goal
use Rattle.conn_rows.proofs.rows.Rows.move_to.Goals.{After-give_back}

pub offer-slot-requires-clause-there : goal.offer-slot-requires-clause-there
offer-slot-requires-clause-there c = subst (λ (v : RowsValue). HasServer v.versions c.args.version c.args.seat.line c.args.seat.server) (sym c.self.view_is) c.requires.server.0

pub offer-slot-requires-clause-below : goal.offer-slot-requires-clause-below
offer-slot-requires-clause-below c = open_few c.self.inside.frontends.items c.self.inside.kept c.self.invariant.served c.self.invariant.rows.few c.self.invariant.rows.small

pub index_mut-requires : goal.index_mut-requires
index_mut-requires c =
    let less : c.args.id.frontend < length c.self.inside.frontends.items =
    own_exists c.self.inside.frontends.items c.self.inside.kept.versions c.self.inside.tables c.args.self.now c.args.id c.self.view_is (subst IsSome (sym c.requires.moves.1) refl) in
    let is = c.from.ensures in
    omega (arith, less, is)

there : (c : goal.After-index_mut) → slice_get c.self.inside.frontends.items c.args.id.frontend ≡ Some c.index_mut.result.now
there c =
    own_there c.self.inside.frontends.items c.self.inside.kept.versions c.self.inside.tables c.args.self.now c.from.result c.args.id.frontend c.index_mut.result.now c.self.view_is c.from.ensures c.index_mut.ensures.value
    (row_there c.args.self.now.frontends c.args.id (subst IsSome (sym c.requires.moves.1) refl))

there_left : (c : goal.After-give_back-arg-1) → slice_get c.self.inside.frontends.items c.args.id.frontend ≡ Some c.index_mut.result.now
there_left c =
    own_there c.self.inside.frontends.items c.self.inside.kept.versions c.self.inside.tables c.args.self.now c.from.result c.args.id.frontend c.index_mut.result.now c.self.view_is c.from.ensures c.index_mut.ensures.value
    (row_there c.args.self.now.frontends c.args.id (subst IsSome (sym c.requires.moves.1) refl))

there_after : (c : After-give_back) → slice_get c.self.inside.frontends.items c.args.id.frontend ≡ Some c.index_mut.result.now
there_after c =
    own_there c.self.inside.frontends.items c.self.inside.kept.versions c.self.inside.tables c.args.self.now c.from.result c.args.id.frontend c.index_mut.result.now c.self.view_is c.from.ensures c.index_mut.ensures.value
    (row_there c.args.self.now.frontends c.args.id (subst IsSome (sym c.requires.moves.1) refl))

pub move_to-left-requires : goal.move_to-left-requires
move_to-left-requires c =
    moving_there c.self.inside.frontends.items c.self.inside.kept.versions c.self.inside.tables c.args.self.now c.args.id c.index_mut.result.now c.self.view_is (there c) c.requires.moves

pub give_back-requires : goal.give_back-requires
give_back-requires c =
    slot_counted (λ place. open_at place c.offer-slot.new.self.counts) (Some c.move_to-left.result)
    (left_counted c.self.inside.frontends.items c.self.inside.kept c.offer-slot.new.self c.from.result c.index_mut.result.now c.move_to-left.new.self c.offer-slot.result c.move_to-left.result
    (ap (slice_get c.self.inside.frontends.items) c.from.ensures ∙ there_left c) c.move_to-left.ensures.slots c.offer-slot.ensures.open c.self.invariant.served)

pub returns : goal.returns
returns c =
    let own = c.index_mut.result.now in
    rw c.move_to-left.ensures.new
    (moved_value c.self.inside.frontends.items c.self.inside.kept.versions c.give_back.new.self.versions c.self.inside.tables c.args.self.now c.from.result c.args.id own c.args.version c.args.seat c.offer-slot.result
    c.self.view_is c.from.ensures (there_after c) (c.give_back.ensures.versions ∙ c.offer-slot.ensures.versions))

pub invariant_of-self : goal.invariant_of-self
invariant_of-self c =
    let own = c.index_mut.result.now in
    let frontends = c.self.inside.frontends.items in
    let kept = c.self.inside.kept in
    let rest = c.give_back.new.self in
    let change = stored_moved c.args.seat c.offer-slot.result in
    let versions = c.give_back.ensures.versions ∙ c.offer-slot.ensures.versions in
    let has = subst (λ (v : RowsValue). (there : HasServer v.versions c.args.version c.args.seat.line c.args.seat.server) × (there.server.to ≡ c.args.seat.to)) (sym c.self.view_is) c.requires.server in
    record {
      rows =
          still_rows frontends c.self.inside.tables.tables c.from.result own c.move_to-left.new.self (ap (slice_get frontends) c.from.ensures ∙ there_after c) c.move_to-left.ensures.few
          (λ id key. ap (λ f. total (row_on id key) f.rows) c.move_to-left.ensures.new ∙ total-with (row_on id key) c.args.id.serial change own.rows (λ row. refl)) c.self.invariant.rows;
      served =
          moved_served frontends kept rest c.from.result own c.move_to-left.new.self c.offer-slot.result c.move_to-left.result (ap (slice_get frontends) c.from.ensures ∙ there_after c) c.move_to-left.ensures.slots
          (λ place. c.give_back.ensures.open place ∙ c.offer-slot.ensures.open place)
          (λ number. ap (λ f. total (row_judged number) f.rows) c.move_to-left.ensures.new ∙ total-with (row_judged number) c.args.id.serial change own.rows (λ row. refl))
          (λ number some. still_there c.args.version c.args.seat.line c.args.seat.server kept.versions number (subst (λ vs. IsSome (version_at vs number)) versions some))
          (λ number. c.give_back.ensures.judged number ∙ c.offer-slot.ensures.judged number)
          (c.move_to-left.ensures.each rest
          (λ row found.
          moved_has kept rest c.args.version c.args.seat c.offer-slot.result versions has.0 has.1 (c.give_back.ensures.identities c.offer-slot.result.place ∙ c.offer-slot.ensures.slot has.0) row
          (judged_there frontends kept.versions c.self.inside.tables c.args.self.now c.args.id own row c.args.version c.self.view_is (there_after c) found c.requires.judged)))
          (slots-offer frontends kept rest c.args.version c.args.seat.line c.args.seat.server versions (λ place. c.give_back.ensures.identities place ∙ c.offer-slot.ensures.identities place) c.self.invariant.served.slots) c.self.invariant.served;
      listed = listed-offer c.args.version c.args.seat.line c.args.seat.server kept.versions rest.versions (map (plain_table c.self.inside.tables.clock) c.self.inside.tables.tables) versions c.self.invariant.listed;
    }
