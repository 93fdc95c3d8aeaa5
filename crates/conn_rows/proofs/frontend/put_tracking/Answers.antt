use Rattle.std.proofs.Common.{◌≡◌, ℕ, List, Some, map, refl, ap, sym, subst, ◌∙◌, arith}
use Rattle.std.specs.Prelude.{IsSome, find}
use Rattle.conn_rows.specs.Lends.{at_tracks}
use Rattle.conn_rows.specs.Stored.{has_serial, plain_row, stored_tracking, with_stored}
use Rattle.conn_rows.specs.declared.row.StoredRow.{StoredRow}
use Rattle.conn_model.specs.Changes.{row_tracking}
use Rattle.conn_model.specs.Counts.{total}
use Rattle.conn_tables.specs.declared.tracking.Tracking.{Tracking}
use Rattle.conn_tables.specs.declared.tracking.Trackings.{Trackings}
use Rattle.conn_model.specs.Words.{Rise}
use Rattle.conn_tables.specs.Tracks.{at_counter, on_counter, track_by}
use Rattle.conn_rows.specs.Value.{row_on}
use Rattle.conn_tables.proofs.CounterLemmas.{counters_more, plain_tracking}
use Rattle.conn_rows.proofs.Plain.{set-plain}
use Rattle.conn_rows.proofs.Serials.{few-with, placed, with_placed, with_same}
use Rattle.conn_model.proofs.Totals.{total-set}
use Rattle.conn_rows.proofs.frontend.put_tracking.Goals as goal

pub tracks_mut-requires : goal.tracks_mut-requires
tracks_mut-requires c = subst IsSome (sym c.requires.free.1) refl

pub put-requires-clause-free : goal.put-requires-clause-free
put-requires-clause-free c = ap (on_counter c.args.counter) (c.tracks_mut.ensures.value c.requires.free.0 c.requires.free.1) ∙ c.requires.free.2

-- what was written is what the row tracked, and one more
written : (serial counter : ℕ) (tracking : Tracking) (tracks : Trackings) (rows : List StoredRow) (row : StoredRow) → Rise (λ row. row.serial) rows → find (has_serial serial) rows ≡ Some row → tracks ≡ row.tracks →
    with_stored serial (at_tracks (at_counter counter tracking tracks)) rows ≡ with_stored serial (stored_tracking counter tracking) rows
written serial counter tracking tracks rows row rise found same =
    with_same serial (at_tracks (at_counter counter tracking tracks)) (stored_tracking counter tracking) rows row rise found (ap (λ tracks. at_tracks (at_counter counter tracking tracks) row) same)

pub returns-clause-rows : goal.returns-clause-rows
returns-clause-rows c = rw c.put.ensures (written c.args.serial c.args.counter c.args.tracking c.tracks_mut.result.now c.args.rows.now c.requires.free.0 c.requires.rise c.requires.free.1 (c.tracks_mut.ensures.value c.requires.free.0 c.requires.free.1))

pub returns-clause-plain : goal.returns-clause-plain
returns-clause-plain c =
    let row = c.requires.free.0 in
    let at = placed c.args.serial c.args.rows.now row c.requires.free.1 in
    rw c.put.ensures
    (λ versions.
    ap (map (plain_row versions)) (written c.args.serial c.args.counter c.args.tracking c.tracks_mut.result.now c.args.rows.now c.requires.free.0 c.requires.rise c.requires.free.1 (c.tracks_mut.ensures.value c.requires.free.0 c.requires.free.1) ∙ with_placed c.args.serial (stored_tracking c.args.counter c.args.tracking) c.args.rows.now row c.requires.rise at)
    ∙ set-plain versions c.args.serial (row_tracking (track_by c.args.counter c.args.tracking)) c.args.rows.now at.place row (stored_tracking c.args.counter c.args.tracking row) c.requires.rise at.there at.is
    (ap (λ ts. record (plain_row versions row) { tracks = ts }) (plain_tracking c.args.counter c.args.tracking row.tracks c.requires.counter c.requires.free.2)))

pub returns-clause-counts : goal.returns-clause-counts
returns-clause-counts c =
    let row = c.requires.free.0 in
    let at = placed c.args.serial c.args.rows.now row c.requires.free.1 in
    rw c.put.ensures
    (λ id key.
    let all = total-set (row_on id key) c.args.rows.now at.place row (stored_tracking c.args.counter c.args.tracking row) at.there in
    let more = counters_more c.args.counter c.args.tracking row.tracks id key c.requires.counter c.requires.free.2 in
    let is = ap (total (row_on id key)) (written c.args.serial c.args.counter c.args.tracking c.tracks_mut.result.now c.args.rows.now c.requires.free.0 c.requires.rise c.requires.free.1 (c.tracks_mut.ensures.value c.requires.free.0 c.requires.free.1) ∙ with_placed c.args.serial (stored_tracking c.args.counter c.args.tracking) c.args.rows.now row c.requires.rise at) in
    omega (arith, all, more, is))

pub returns-clause-few : goal.returns-clause-few
returns-clause-few c = rw c.put.ensures (few-with c.args.serial (at_tracks (at_counter c.args.counter c.args.tracking c.tracks_mut.result.now)) c.args.rows.now c.tracks_mut.ensures.few)
