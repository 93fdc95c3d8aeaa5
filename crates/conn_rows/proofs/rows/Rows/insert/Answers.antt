use Rattle.std.proofs.Common.{◌≡◌, ◌+◌, ◌≤◌, ◌∙◌, ◌++◌, ◌∷◌, [], Some, length, map, ap, refl, sym, subst, arith}
use Rattle.std.specs.Prelude.{slice_get}
use Rattle.conn_rows.specs.Stored.{stored_arrival}
use Rattle.conn_model.specs.Changes.{with_arrival}
use Rattle.conn_model.specs.Counts.{total}
use Rattle.conn_tables.specs.Tables.{plain_table}
use Rattle.conn_rows.specs.Value.{AreTablesListed, row_on}
use Rattle.conn_rows.proofs.Served.{all_judged_few, arrived_served}
use Rattle.conn_rows.proofs.Counted.{still_rows, total-arrival}
use Rattle.conn_rows.proofs.Plain.{arrival_plain, changed, next_serial, own_there}
use Rattle.conn_rows.proofs.rows.Rows.insert.Goals as goal

pub enter-requires : goal.enter-requires
enter-requires c = record {
  below = λ some.
      let is = c.self.invariant.served.judged c.args.version some in
      let most = all_judged_few c.args.version c.self.inside.frontends.items c.self.invariant.rows.small in
      let few : length c.self.inside.frontends.items ≤ 64 = c.self.invariant.rows.few in
      omega (arith, is, most, few);
}

there : (c : goal.After-enter) → slice_get c.self.inside.frontends.items c.args.number ≡ Some c.index_mut.result.now
there c = own_there c.self.inside.frontends.items c.self.inside.kept.versions c.self.inside.tables c.args.self.now c.from.result c.args.number c.index_mut.result.now c.self.view_is c.from.ensures c.index_mut.ensures.value c.requires.there

pub invariant_of-self-2 : goal.invariant_of-self-2
invariant_of-self-2 c =
    let own = c.index_mut.result.now in
    let row = stored_arrival (own.serial + 1) c.args.version c.args.real c.args.accepted in
    record {
      rows =
          still_rows c.self.inside.frontends.items c.self.inside.tables.tables c.from.result own c.insert.new.self (ap (slice_get c.self.inside.frontends.items) c.from.ensures ∙ there c) c.insert.ensures.few
          (λ id key. ap (λ f. total (row_on id key) f.rows) c.in_ok-serial.ensures.ok ∙ total-arrival (row_on id key) own.rows row refl) c.self.invariant.rows;
      served =
          arrived_served c.self.inside.frontends.items c.self.inside.kept c.enter.new.self c.from.result own c.insert.new.self row (ap (slice_get c.self.inside.frontends.items) c.from.ensures ∙ there c)
          (ap (λ f. f.rows) c.in_ok-serial.ensures.ok) refl c.enter.ensures.versions c.enter.ensures.counts c.enter.ensures.judged c.self.invariant.served;
      listed = subst (λ versions. AreTablesListed versions (map (plain_table c.self.inside.tables.clock) c.self.inside.tables.tables)) (sym c.enter.ensures.versions) c.self.invariant.listed;
    }

pub returns-clause-serial : goal.returns-clause-serial
returns-clause-serial c =
    next_serial c.self.inside.frontends.items c.self.inside.kept.versions c.self.inside.tables c.args.self.now c.args.number c.index_mut.result.now c.in_ok-serial.serial c.self.view_is (there c)
    c.in_ok-serial.ensures.serial

pub returns-clause-ok : goal.returns-clause-ok
returns-clause-ok c =
    let own = c.index_mut.result.now in
    rw (c.enter.ensures.versions, c.in_ok-serial.ensures.ok)
    (changed c.self.inside.frontends.items c.self.inside.kept.versions c.self.inside.tables c.args.self.now c.from.result c.args.number own
    (record own { serial = own.serial + 1; rows = own.rows ++ stored_arrival (own.serial + 1) c.args.version c.args.real c.args.accepted ∷ [] })
    (λ versions. with_arrival c.args.version c.args.real c.args.accepted) c.self.view_is c.from.ensures (there c)
    (arrival_plain c.self.inside.kept.versions own c.args.version c.args.accepted c.args.real))
