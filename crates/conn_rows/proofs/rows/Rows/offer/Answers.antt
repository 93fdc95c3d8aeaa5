use Rattle.std.proofs.Common.{◌≡◌, ◌<◌, Some, ap, ◌∙◌, refl, sym, subst, length, map, arith}
use Rattle.std.specs.Prelude.{slice_get, IsSome}
use Rattle.conn_model.specs.Answer.{version_at}
use Rattle.conn_model.specs.Counts.{total}
use Rattle.conn_rows.specs.Changes.{stage_offered}
use Rattle.conn_rows.specs.Stored.{at_stage}
use Rattle.conn_rows.specs.Value.{row_judged, row_on, RowsValue}
use Rattle.conn_rows.proofs.Counted.{still_rows, total-with}
use Rattle.conn_rows.proofs.Plain.{judged_there, offered_value, own_exists, own_there, rest_of_state, rest_open, rest_there}
use Rattle.conn_rows.proofs.OfferedTo.{open_few}
use Rattle.conn_rows.proofs.Served.{more_served, offered_has, slots-offer, still_there}
use Rattle.conn_tables.specs.Tables.{plain_table}
use Rattle.conn_versions.specs.Versions.{HasServer}
use Rattle.conn_rows.proofs.TablesListed.{listed-offer}
use Rattle.conn_rows.proofs.rows.Rows.offer.Goals as goal

pub offer-slot-requires-clause-there : goal.offer-slot-requires-clause-there
offer-slot-requires-clause-there c = subst (λ (v : RowsValue). HasServer v.versions c.args.version c.args.seat.line c.args.seat.server) (sym c.self.view_is) c.requires.server.0

pub offer-slot-requires-clause-below : goal.offer-slot-requires-clause-below
offer-slot-requires-clause-below c = open_few c.self.inside.frontends.items c.self.inside.kept c.self.invariant.served c.self.invariant.rows.few c.self.invariant.rows.small

pub index_mut-requires : goal.index_mut-requires
index_mut-requires c =
    let less : c.args.id.frontend < length c.self.inside.frontends.items =
    own_exists c.self.inside.frontends.items c.self.inside.kept.versions c.self.inside.tables c.args.self.now c.args.id c.self.view_is (rest_open c.args.self.now.frontends c.args.id c.requires.waits) in
    let is = c.from.ensures in
    omega (arith, less, is)

there : (c : goal.After-index_mut) → slice_get c.self.inside.frontends.items c.args.id.frontend ≡ Some c.index_mut.result.now
there c =
    own_there c.self.inside.frontends.items c.self.inside.kept.versions c.self.inside.tables c.args.self.now c.from.result c.args.id.frontend c.index_mut.result.now c.self.view_is c.from.ensures c.index_mut.ensures.value
    (rest_there c.args.self.now.frontends c.args.id c.requires.waits)

there_after : (c : goal.After-self-1) → slice_get c.self.inside.frontends.items c.args.id.frontend ≡ Some c.index_mut.result.now
there_after c =
    own_there c.self.inside.frontends.items c.self.inside.kept.versions c.self.inside.tables c.args.self.now c.from.result c.args.id.frontend c.index_mut.result.now c.self.view_is c.from.ensures c.index_mut.ensures.value
    (rest_there c.args.self.now.frontends c.args.id c.requires.waits)

pub offer-requires : goal.offer-requires
offer-requires c =
    subst IsSome (rest_of_state c.self.inside.frontends.items c.self.inside.kept.versions c.self.inside.tables c.args.self.now c.args.id c.index_mut.result.now c.self.view_is (there c)) c.requires.waits

pub returns : goal.returns
returns c =
    let own = c.index_mut.result.now in
    rw c.offer.ensures.new
    (offered_value c.self.inside.frontends.items c.self.inside.kept.versions c.offer-slot.new.self.versions c.self.inside.tables c.args.self.now c.from.result c.args.id own c.args.version c.args.seat c.offer-slot.result
    c.self.view_is c.from.ensures (there_after c) c.offer-slot.ensures.versions)

pub invariant_of-self : goal.invariant_of-self
invariant_of-self c =
    let own = c.index_mut.result.now in
    let frontends = c.self.inside.frontends.items in
    let kept = c.self.inside.kept in
    let rest = c.offer-slot.new.self in
    let has = subst (λ (v : RowsValue). (there : HasServer v.versions c.args.version c.args.seat.line c.args.seat.server) × (there.server.to ≡ c.args.seat.to)) (sym c.self.view_is) c.requires.server in
    record {
      rows =
          still_rows frontends c.self.inside.tables.tables c.from.result own c.offer.new.self (ap (slice_get frontends) c.from.ensures ∙ there_after c) c.offer.ensures.few
          (λ id key. ap (λ f. total (row_on id key) f.rows) c.offer.ensures.new ∙ total-with (row_on id key) c.args.id.serial (at_stage (stage_offered c.args.seat c.offer-slot.result)) own.rows (λ row. refl)) c.self.invariant.rows;
      served =
          more_served frontends kept rest c.from.result own c.offer.new.self c.offer-slot.result (ap (slice_get frontends) c.from.ensures ∙ there_after c) c.offer.ensures.slots c.offer-slot.ensures.open
          (λ number. ap (λ f. total (row_judged number) f.rows) c.offer.ensures.new ∙ total-with (row_judged number) c.args.id.serial (at_stage (stage_offered c.args.seat c.offer-slot.result)) own.rows (λ row. refl))
          (λ number some.
          still_there c.args.version c.args.seat.line c.args.seat.server kept.versions number (subst (λ vs. IsSome (version_at vs number)) c.offer-slot.ensures.versions some))
          c.offer-slot.ensures.judged
          (c.offer.ensures.each rest
          (λ row found.
          offered_has kept rest c.args.version c.args.seat c.offer-slot.result c.offer-slot.ensures.versions has.0 has.1 (c.offer-slot.ensures.slot has.0) row
          (judged_there frontends kept.versions c.self.inside.tables c.args.self.now c.args.id own row c.args.version c.self.view_is (there_after c) found c.requires.judged)))
          (slots-offer frontends kept rest c.args.version c.args.seat.line c.args.seat.server c.offer-slot.ensures.versions c.offer-slot.ensures.identities c.self.invariant.served.slots) c.self.invariant.served;
      listed = listed-offer c.args.version c.args.seat.line c.args.seat.server kept.versions rest.versions (map (plain_table c.self.inside.tables.clock) c.self.inside.tables.tables) c.offer-slot.ensures.versions c.self.invariant.listed;
    }
