use Rattle.std.proofs.Common.{◌≡◌, ◌+◌, map, refl, sym, ap, subst, ◌∙◌, arith}
use Rattle.std.specs.Prelude.{IsSome}
use Rattle.slot_core.specs.Counts.{identity_at, open_at, slots_at}
use Rattle.std.specs.Option.{option_map_or}
use Rattle.conn_model.specs.Answer.{version_at}
use Rattle.conn_tables.specs.Tables.{cur_in, plain_table}
use Rattle.conn_tables.specs.Tracks.{plain_tracks}
use Rattle.conn_versions.specs.Judged.{judged_by}
use Rattle.conn_rows.specs.Value.{row_judged, row_on, row_slots}
use Rattle.conn_rows.proofs.Plain.{removed}
use Rattle.conn_rows.proofs.Served.{left_served, own-judged, slot_counted}
use Rattle.conn_rows.proofs.TablesListed.{listed-ended}
use Rattle.conn_rows.proofs.rows.Rows.remove.Goals as goal

pub give_back-requires : goal.give_back-requires
give_back-requires c =
    slot_counted (λ place. open_at place c.self.inside.kept.counts) c.end-tracks.result.slot
    (λ place.
    let before = c.self.invariant.served.counted place in
    let gone = c.in-Some.ensures.counts (row_slots place) in
    let is : option_map_or (slots_at place) c.end-tracks.result.slot 0 ≡ row_slots place c.in-Some.row = ap (λ o. option_map_or (slots_at place) o 0) c.end-tracks.ensures.slot in
    omega (arith, before, gone, is))

-- its version judges it
pub leave-requires : goal.leave-requires
leave-requires c = record {
  there = λ some.
      let there : IsSome (version_at c.self.inside.kept.versions c.in-Some.row.version) = subst (λ vs. IsSome (version_at vs c.in-Some.row.version)) c.give_back.ensures.versions some in
      let before = c.self.invariant.served.judged c.in-Some.row.version there in
      let gone = c.in-Some.ensures.counts (row_judged c.in-Some.row.version) in
      let same = c.give_back.ensures.judged c.in-Some.row.version in
      let one : judged_by c.in-Some.row.version c.in-Some.row.version ≡ 1 = own-judged c.in-Some.row.version in
      omega (arith, before, gone, same, one);
}

pub returns-in-Some : goal.returns-in-Some
returns-in-Some c =
    rw (c.leave.ensures.versions, c.give_back.ensures.versions)
    (removed c.self.inside.frontends.items c.take_conn.new.frontends.items c.self.inside.kept.versions c.self.inside.tables c.release.new.self c.args.self.now c.args.id c.take_conn.result c.self.view_is
    c.take_conn.ensures.row (c.take_conn.ensures.left c.self.inside.kept.versions) (rw (c.in-Some.is, ← c.end-tracks.ensures.tracks) c.release.ensures.plain) c.release.ensures.spare c.release.ensures.clock)

pub returns-in_default : goal.returns-in_default
returns-in_default c =
    removed c.self.inside.frontends.items c.take_conn.new.frontends.items c.self.inside.kept.versions c.self.inside.tables c.self.inside.tables c.args.self.now c.args.id c.take_conn.result c.self.view_is
    c.take_conn.ensures.row (c.take_conn.ensures.left c.self.inside.kept.versions) (rw c.in_default.is refl) refl refl

pub invariant_of-self : goal.invariant_of-self
invariant_of-self c = record {
  rows = record {
    few = rw c.take_conn.ensures.len c.self.invariant.rows.few;
    small = c.take_conn.ensures.small c.self.invariant.rows.small;
    counted = λ id key.
        let before = c.self.invariant.rows.counted id key in
        let gone = c.in-Some.ensures.counts (row_on id key) in
        let ended : cur_in id key c.release.new.self.tables + row_on id key c.in-Some.row ≡ cur_in id key c.self.inside.tables.tables = rw (← c.end-tracks.ensures.tracks) (c.release.ensures.counts id key) in
        omega (arith, before, gone, ended);
  };
  served =
      left_served c.self.inside.frontends.items c.take_conn.new.frontends.items c.self.inside.kept c.leave.new.self c.in-Some.row c.in-Some.ensures.counts c.take_conn.ensures.rows
      (c.leave.ensures.versions ∙ c.give_back.ensures.versions)
      (λ place.
      ap (λ counts. open_at place counts + row_slots place c.in-Some.row) c.leave.ensures.counts ∙ ap (λ o. open_at place c.give_back.new.kept.counts + option_map_or (slots_at place) o 0) (sym c.end-tracks.ensures.slot)
      ∙ c.give_back.ensures.open place)
      (λ place. ap (identity_at place) c.leave.ensures.counts ∙ c.give_back.ensures.identities place)
      (λ number some. c.leave.ensures.judged number (subst (λ vs. IsSome (version_at vs number)) (sym c.give_back.ensures.versions) some) ∙ c.give_back.ensures.judged number)
      c.self.invariant.served;
  listed =
      listed-ended c.self.inside.kept.versions c.leave.new.self.versions c.self.inside.tables.clock (plain_tracks c.end-tracks.result.tracks) (map (plain_table c.self.inside.tables.clock) c.self.inside.tables.tables) (map (plain_table c.release.new.self.clock) c.release.new.self.tables) (c.leave.ensures.versions ∙ c.give_back.ensures.versions)
      c.release.ensures.plain c.self.invariant.listed;
}

pub invariant_of-self-in_default : goal.invariant_of-self-in_default
invariant_of-self-in_default c = record {
  rows = record {
    few = rw c.take_conn.ensures.len c.self.invariant.rows.few;
    small = c.take_conn.ensures.small c.self.invariant.rows.small;
    counted = λ id key. c.self.invariant.rows.counted id key ∙ sym (c.in_default.ensures.none (row_on id key));
  };
  served = record {
    counted = λ place. c.self.invariant.served.counted place ∙ sym (c.in_default.ensures.none (row_slots place));
    judged = λ number some. c.self.invariant.served.judged number some ∙ sym (c.in_default.ensures.none (row_judged number));
    slots = c.take_conn.ensures.rows c.self.inside.kept c.self.invariant.served.slots;
  };
  listed = c.self.invariant.listed;
}
