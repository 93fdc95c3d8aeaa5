use Rattle.std.proofs.Common.{◌≡◌, ◌<◌, Some, ap, sym, subst, ◌∙◌, map, length, arith}
use Rattle.std.specs.Prelude.{slice_get}
use Rattle.conn_model.specs.Tables.{open_tracks}
use Rattle.conn_rows.specs.Stored.{plain_frontend}
use Rattle.conn_tables.specs.Tables.{key_at, plain_table}
use Rattle.conn_rows.specs.Value.{RowsValue}
use Rattle.conn_rows.proofs.Served.{still_served}
use Rattle.conn_rows.proofs.Counted.{are_counted, cur_few, more_rows, trackers_more}
use Rattle.conn_rows.proofs.Plain.{free_there, own_exists, own_there, row_there, tracking_value}
use Rattle.conn_rows.proofs.TablesListed.{listed-track}
use Rattle.conn_rows.proofs.rows.Rows.track.Goals as goal

pub track-tracking-requires-clause-below : goal.track-tracking-requires-clause-below
track-tracking-requires-clause-below c = cur_few c.self.inside.frontends.items c.self.inside.tables.tables c.self.invariant.rows

pub track-tracking-requires-clause-key : goal.track-tracking-requires-clause-key
track-tracking-requires-clause-key c = (
  open_tracks (map (plain_frontend c.self.inside.kept.versions) c.self.inside.frontends.items),
  are_counted c.self.inside.kept.versions c.self.inside.frontends.items c.self.inside.tables.tables c.self.invariant.rows,
  subst (λ (v : RowsValue). key_at (open_tracks v.frontends) v.tables c.args.track.table c.args.track.key ≡ Some c.args.track.key) (sym c.self.view_is) c.requires.key,
)

pub index_mut-requires : goal.index_mut-requires
index_mut-requires c =
    let less : c.args.id.frontend < length c.self.inside.frontends.items = own_exists c.self.inside.frontends.items c.self.inside.kept.versions c.self.inside.tables c.args.self.now c.args.id c.self.view_is c.requires.there in
    let is = c.from.ensures in
    omega (arith, less, is)

there : (c : goal.After-index_mut) → slice_get c.self.inside.frontends.items c.args.id.frontend ≡ Some c.index_mut.result.now
there c =
    own_there c.self.inside.frontends.items c.self.inside.kept.versions c.self.inside.tables c.args.self.now c.from.result c.args.id.frontend c.index_mut.result.now c.self.view_is c.from.ensures c.index_mut.ensures.value
    (row_there c.args.self.now.frontends c.args.id c.requires.there)

there_after : (c : goal.After-self-1) → slice_get c.self.inside.frontends.items c.args.id.frontend ≡ Some c.index_mut.result.now
there_after c =
    own_there c.self.inside.frontends.items c.self.inside.kept.versions c.self.inside.tables c.args.self.now c.from.result c.args.id.frontend c.index_mut.result.now c.self.view_is c.from.ensures c.index_mut.ensures.value
    (row_there c.args.self.now.frontends c.args.id c.requires.there)

pub track-requires-clause-free : goal.track-requires-clause-free
track-requires-clause-free c =
    free_there c.self.inside.frontends.items c.self.inside.kept.versions c.self.inside.tables c.args.self.now c.args.id c.index_mut.result.now c.args.track.counter c.self.view_is (there c) c.requires.counter c.requires.there
    c.requires.free

pub invariant_of-self : goal.invariant_of-self
invariant_of-self c = record {
  rows =
      more_rows c.self.inside.frontends.items c.self.inside.tables.tables c.track-tracking.new.self.tables c.from.result c.index_mut.result.now c.track.new.self (record { table = c.args.track.table; token = c.args.track.key })
      (ap (slice_get c.self.inside.frontends.items) c.from.ensures ∙ there_after c) c.track.ensures.few (rw c.track-tracking.ensures.tracking at c.track.ensures.counts) c.track-tracking.ensures.counts c.self.invariant.rows;
  served =
      still_served c.self.inside.frontends.items c.self.inside.kept c.from.result c.index_mut.result.now c.track.new.self (ap (slice_get c.self.inside.frontends.items) c.from.ensures ∙ there_after c)
      c.track.ensures.slots c.track.ensures.judged (c.track.ensures.each c.self.inside.kept) c.self.invariant.served;
  listed =
      listed-track c.self.inside.kept.versions c.self.inside.tables.clock (open_tracks (map (plain_frontend c.self.inside.kept.versions) c.self.inside.frontends.items)) c.args.track (map (plain_table c.self.inside.tables.clock) c.self.inside.tables.tables) (map (plain_table c.track-tracking.new.self.clock) c.track-tracking.new.self.tables)
      (c.track-tracking.ensures.plain (open_tracks (map (plain_frontend c.self.inside.kept.versions) c.self.inside.frontends.items))
      (are_counted c.self.inside.kept.versions c.self.inside.frontends.items c.self.inside.tables.tables c.self.invariant.rows) c.args.track.counter) c.self.invariant.listed;
}

pub returns-clause-value : goal.returns-clause-value
returns-clause-value c =
    tracking_value c.self.inside.frontends.items c.self.inside.kept.versions c.self.inside.tables c.track-tracking.new.self c.args.self.now c.from.result c.args.id c.index_mut.result.now c.track.new.self c.args.track c.self.view_is
    c.from.ensures (there_after c) (rw c.track-tracking.ensures.tracking at (c.track.ensures.plain c.self.inside.kept.versions))
    (c.track-tracking.ensures.plain (open_tracks (map (plain_frontend c.self.inside.kept.versions) c.self.inside.frontends.items))
    (are_counted c.self.inside.kept.versions c.self.inside.frontends.items c.self.inside.tables.tables c.self.invariant.rows) c.args.track.counter) c.track-tracking.ensures.spare c.track-tracking.ensures.clock

pub returns-clause-trackers : goal.returns-clause-trackers
returns-clause-trackers c =
    rw (← c.self.view_is)
    (trackers_more c.self.inside.kept.versions c.self.inside.frontends.items c.from.result c.index_mut.result.now c.track.new.self c.args.track
    (ap (slice_get c.self.inside.frontends.items) c.from.ensures ∙ there_after c) (rw c.track-tracking.ensures.tracking at c.track.ensures.counts))
