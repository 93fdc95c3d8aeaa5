-- What a list of rules decides.
use Rattle.std.specs.Prelude.{ℕ, Bool, true, false, ◌&&◌, List, [], ◌∷◌, take, slice_get, slice_set, find, Option, Some, None, is_some, if◌then◌else◌}
use Rattle.std.specs.List.{enumerate_from}
use Rattle.addr_core.specs.declared.addr.Addr.{Addr}
use Rattle.acl_core.specs.Truth.{applies}
use Rattle.plan_types.specs.declared.plan.Action.{Action}
use Rattle.plan_types.specs.declared.plan.Action.TheVariants as actions
use Rattle.plan_types.specs.declared.plan.Rule.{Rule}
use Rattle.plan_types.specs.declared.track.TableId.{TableId}
use Rattle.plan_types.specs.declared.track.Track.{Track}
use Rattle.rule_engine.specs.declared.judging.Judged.{Judged}
use Rattle.rule_engine.specs.declared.judging.Verdict.{Verdict}
use Rattle.rule_engine.specs.declared.judging.Verdict.TheVariants as verdicts
use Rattle.rule_engine.specs.Meaning.{SceneMeaning, present}

-- The tracks that a list has made so far: a slot for each counter.

abbrev pub TrackSlots : Type 0
TrackSlots = List (Option Track)

abbrev pub no_tracks : TrackSlots
no_tracks = None ∷ None ∷ None ∷ []

-- the condition of the rule is true once those tracks are made
abbrev pub is_true : SceneMeaning → TrackSlots → Rule → Bool
is_true scene tracks rule = applies scene.acls (scene.worth (present tracks)) rule.when

-- Tracks.

-- the counter is one of the three and tracks nothing
abbrev pub is_empty : Option (Option Track) → Bool
is_empty None = false
is_empty (Some None) = true
is_empty (Some (Some track)) = false

abbrev pub is_free : SceneMeaning → TrackSlots → ℕ → Bool
is_free scene tracks counter = is_empty (slice_get tracks counter) && scene.is_free counter

-- one more track, where there is something to track
abbrev pub with_track : TrackSlots → ℕ → Option (TableId × Addr) → TrackSlots
with_track tracks counter None = tracks
with_track tracks counter (Some (table, key)) = slice_set tracks counter (Some (record { counter = counter; table = table; key = key }))

-- the counter tracks in the table of that number, if it is free
abbrev pub after_track : SceneMeaning → TrackSlots → ℕ → ℕ → TrackSlots
after_track scene tracks counter number = if is_free scene tracks counter then with_track tracks counter (scene.key (present tracks) number) else tracks

abbrev pub after_action : SceneMeaning → TrackSlots → Action → TrackSlots
after_action scene tracks (actions.Track counter number) = after_track scene tracks counter number
after_action scene tracks event = tracks

-- a rule whose condition is true tracks what it can
abbrev pub after_rule : SceneMeaning → TrackSlots → Rule → TrackSlots
after_rule scene tracks rule = if is_true scene tracks rule then after_action scene tracks rule.action else tracks

abbrev pub after_rules : SceneMeaning → TrackSlots → List Rule → TrackSlots
after_rules scene tracks [] = tracks
after_rules scene tracks (rule ∷ rules) = after_rules scene (after_rule scene tracks rule) rules

-- Decisions.

-- such a rule ends its list
abbrev pub is_final : Action → Bool
is_final actions.Accept = true
is_final actions.Reject = true
is_final (actions.Track counter number) = false
is_final actions.ExpectProxy = false

-- a final rule decides at its place if its condition is true once the rules before it have tracked
abbrev pub decides : SceneMeaning → TrackSlots → List Rule → ℕ × Rule → Bool
decides scene tracks rules (place, rule) = is_final rule.action && is_true scene (after_rules scene tracks (take place rules)) rule

-- the least place at which a rule decides, with that rule
abbrev pub deciding_rule : SceneMeaning → TrackSlots → List Rule → Option (ℕ × Rule)
deciding_rule scene tracks rules = find (decides scene tracks rules) (enumerate_from 0 rules)

abbrev pub verdict_of : Action → Verdict
verdict_of actions.Accept = verdicts.Accept
verdict_of actions.Reject = verdicts.Reject
verdict_of (actions.Track counter number) = verdicts.On
verdict_of actions.ExpectProxy = verdicts.On

-- Headers.

abbrev pub is_expectation : Action → Bool
is_expectation actions.ExpectProxy = true
is_expectation event = false

-- such a rule expects a header at its place if its condition is true once the rules before it have tracked
abbrev pub expects : SceneMeaning → TrackSlots → List Rule → ℕ × Rule → Bool
expects scene tracks rules (place, rule) = is_expectation rule.action && is_true scene (after_rules scene tracks (take place rules)) rule

-- one of the rules expects a header, where all of them are tried
abbrev pub expects_header : SceneMeaning → TrackSlots → List Rule → Bool
expects_header scene tracks rules = is_some (find (expects scene tracks rules) (enumerate_from 0 rules))

-- what the list says, by the rule that decides it: the rules before that one are tried
abbrev pub judged_by : SceneMeaning → TrackSlots → List Rule → Option (ℕ × Rule) → Judged
judged_by scene tracks rules None = record {
  verdict = verdicts.On;
  line = 0;
  tracks = after_rules scene tracks rules;
  expects_header = expects_header scene tracks rules;
}
judged_by scene tracks rules (Some (place, rule)) = record {
  verdict = verdict_of rule.action;
  line = rule.line;
  tracks = after_rules scene tracks (take place rules);
  expects_header = expects_header scene tracks (take place rules);
}

-- what the list says, after those tracks
abbrev pub judged_after : SceneMeaning → TrackSlots → List Rule → Judged
judged_after scene tracks rules = judged_by scene tracks rules (deciding_rule scene tracks rules)

abbrev pub judged : SceneMeaning → List Rule → Judged
judged scene rules = judged_after scene no_tracks rules
