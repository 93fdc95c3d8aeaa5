-- What a step may track.
use Rattle.std.proofs.Common.{◌≡◌, true, List, [], Option, Some, None, refl, ◌∙◌, sym, ap, append-nil}
use Rattle.std.specs.Prelude.{slice_get, find, is_none, option_and_then, ◌==◌}
use Rattle.std.proofs.lemmas.Bool.{false≢true}
use Rattle.addr_core.specs.declared.addr.Addr.{Addr}
use Rattle.stick_core.specs.PlainEntries.{tracked_key}
use Rattle.plan_types.specs.declared.track.TableId.{TableId}
use Rattle.plan_types.specs.declared.track.Track.{Track}
use Rattle.rule_engine.specs.Meaning.{present}
use Rattle.rule_engine.specs.Judging.{TrackSlots, judged_after}
use Rattle.rule_engine.proofs.SlotLemmas.{Makes, judged-slots, track}
use Rattle.plan_types.specs.declared.plan.Rule.{Rule}
use Rattle.conn_model.specs.declared.plain.TableState.{TableState}
use Rattle.conn_model.specs.Rules.{RuleView, key_in_table, numbered_table, own_track, scene_of}
use Rattle.conn_model.specs.Tables.{open_tracks, table_at, trackers}
use Rattle.conn_model.proofs.OneTable.{table_found}
use Rattle.conn_rows.specs.Tables.{key_at}
use Rattle.conn_core.specs.Judging.{facts_view, rows_at, AreAllowed}
use Rattle.conn_core.specs.Tracking.{IsPossible}
use Rattle.conn_core.specs.declared.facts.RuleFacts.{RuleFacts}

-- no track is found where none is
none_found : (o : Option Track) → is_none o ≡ true → o ≡ None
none_found None is = refl
none_found (Some track) is = absurd (false≢true is)

-- the table of an incarnation, under its own
at_own : (tables : List TableState) (o : Option TableId) (table : TableId) (t : TableState) → option_and_then (table_at tables) o ≡ Some t → t.id ≡ table → table_at tables table ≡ Some t
at_own tables None table t is same = absurd (let wrong : None ≡ Some t = is in cc)
at_own tables (Some id) table t is same = ap (table_at tables) (sym same ∙ table_found tables id t is) ∙ is

-- a scene lets a free counter track only what is possible
pub allowed : (facts : RuleFacts) → Makes (scene_of (facts_view facts)) (IsPossible (open_tracks facts.rows.now.frontends) (rows_at facts.moment facts.rows.now).tables (present facts.own) facts.source)
allowed facts counter number made table key below free there = record {
  counter_is = refl;
  below = below;
  free = ap (find (λ (other : Track). other.counter == counter)) (sym (append-nil (present facts.own))) ∙ none_found (own_track (facts_view facts []) counter) free;
  key = keyed (numbered_table (facts_view facts []) number) refl;
}
  where
    view : RuleView
    view = facts_view facts []

    in_table : (t : TableState) → (o : Option Addr) → tracked_key (trackers view.tracks t.id) t.table.kind t.table.size t.entries view.source ≡ o → key_in_table view t ≡ Some (table, key) →
        (t.id ≡ table) × (tracked_key (trackers view.tracks t.id) t.table.kind t.table.size t.entries view.source ≡ Some key)
    in_table t None is made_is = absurd (let wrong : None ≡ Some (table, key) = rw is at made_is in cc)
    in_table t (Some k) is made_is =
        let a : TableId × Addr = (t.id, k) in
        let b : TableId × Addr = (table, key) in
        let same : a ≡ b = let pair : Some a ≡ Some b = rw is at made_is in cc in
        (ap (λ p. p.0) same, is ∙ ap (λ p. Some p.1) same)

    keyed : (o : Option TableState) → numbered_table view number ≡ o → key_at (open_tracks facts.rows.now.frontends) (rows_at facts.moment facts.rows.now).tables table facts.source ≡ Some key
    keyed None is = absurd (let wrong : None ≡ Some (table, key) = rw is at there in cc)
    keyed (Some t) is =
        let made_is : key_in_table view t ≡ Some (table, key) = rw is at there in
        let both = in_table t (tracked_key (trackers view.tracks t.id) t.table.kind t.table.size t.entries view.source) refl made_is in
        let found : table_at (rows_at facts.moment facts.rows.now).tables table ≡ Some t = at_own (rows_at facts.moment facts.rows.now).tables (slice_get facts.version.now.tables number) table t is both.0 in
        rw found both.1

-- so do lists of rules
pub allowed_after : (facts : RuleFacts) (earlier : TrackSlots) (rules : List Rule) → AreAllowed facts earlier → AreAllowed facts (judged_after (scene_of (facts_view facts)) earlier rules).tracks
allowed_after facts earlier rules known =
    judged-slots (scene_of (facts_view facts)) (IsPossible (open_tracks facts.rows.now.frontends) (rows_at facts.moment facts.rows.now).tables (present facts.own) facts.source) (allowed facts) earlier rules known
