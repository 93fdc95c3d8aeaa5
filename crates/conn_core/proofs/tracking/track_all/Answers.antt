use Rattle.std.proofs.Common.{None, Some, ap, subst, sym, ◌∙◌, ◌+◌}
use Rattle.conn_model.specs.Tables.{open_tracks, trackers}
use Rattle.conn_rows.specs.Value.{RowsValue}
use Rattle.conn_core.proofs.TrackedLemmas.{all_tracked, counter_below, counter_free, key_possible, next_slot, none_yet, after_empty_slot, after_slot, IsTracked}
use Rattle.conn_core.proofs.tracking.track_all.Goals.{in-Some, in_default}
use Rattle.conn_core.proofs.tracking.track_all.Goals as goal

pub loop-slot-init : goal.loop-slot-init
loop-slot-init c = none_yet c.args.rows.now c.args.id c.args.tracks.now c.requires.there c.requires.sorted c.requires.can c.requires.room

pub track-requires-clause-counter : goal.track-requires-clause-counter
track-requires-clause-counter c =
    counter_below c.args.rows.now c.loop-slot.rows c.args.id c.loop-slot.slot-index c.args.tracks.now c.in-Some.track c.loop-slot.invariant
    (next_slot c.args.tracks.now c.loop-slot.slot-index (Some c.in-Some.track) c.told-tracks c.loop-slot-test.true c.in-Some.is)

pub track-requires-clause-free : goal.track-requires-clause-free
track-requires-clause-free c =
    counter_free c.args.rows.now c.loop-slot.rows c.args.id c.loop-slot.slot-index c.args.tracks.now c.in-Some.track c.loop-slot.invariant
    (next_slot c.args.tracks.now c.loop-slot.slot-index (Some c.in-Some.track) c.told-tracks c.loop-slot-test.true c.in-Some.is)

pub track-requires-clause-key : goal.track-requires-clause-key
track-requires-clause-key c =
    key_possible c.args.rows.now c.loop-slot.rows c.args.id c.loop-slot.slot-index c.args.tracks.now c.in-Some.track c.loop-slot.invariant
    (next_slot c.args.tracks.now c.loop-slot.slot-index (Some c.in-Some.track) c.told-tracks c.loop-slot-test.true c.in-Some.is)

pub loop-slot-preserved : goal.loop-slot-preserved
loop-slot-preserved c = elim c.match-slot.branch [
  | in-Some w ↦
      after_slot c.args.rows.now c.loop-slot.rows c.match-slot.rows c.args.id c.loop-slot.slot-index c.args.tracks.now w.in-Some.track
      (next_slot c.args.tracks.now c.loop-slot.slot-index (Some w.in-Some.track) c.told-tracks c.loop-slot-test.true w.in-Some.is) (w.rows-is ∙ w.track.ensures.value)
      (λ id key. ap (λ (r : RowsValue). trackers (open_tracks r.frontends) id key) w.rows-is ∙ w.track.ensures.trackers id key) c.loop-slot.invariant
  | in_default w ↦
      subst (λ (r : RowsValue). IsTracked c.args.rows.now r c.args.id (c.loop-slot.slot-index + 1) c.args.tracks.now) (sym w.rows-is)
      (after_empty_slot c.args.rows.now c.loop-slot.rows c.args.id c.loop-slot.slot-index c.args.tracks.now
      (next_slot c.args.tracks.now c.loop-slot.slot-index None c.told-tracks c.loop-slot-test.true w.in_default.is) c.loop-slot.invariant)
]

pub returns-clause-frontends : goal.returns-clause-frontends
returns-clause-frontends c = (all_tracked c.args.rows.now c.loop-slot.rows c.args.id c.loop-slot.slot-index c.args.tracks.now c.told-tracks c.loop-slot-test.false c.loop-slot.invariant).0

pub returns-clause-clock : goal.returns-clause-clock
returns-clause-clock c = c.loop-slot.invariant.clock
