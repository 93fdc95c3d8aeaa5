-- The rules of a list that are tried, and the `use_backend` lines.
use Rattle.std.specs.Prelude.{ℕ, Bool, List, [], ◌∷◌, ◌&&◌, if◌then◌else◌}
use Rattle.acl_core.specs.declared.condition.Acl.{Acl}
use Rattle.acl_core.specs.declared.criterion.Criterion.{Criterion}
use Rattle.acl_core.specs.declared.criterion.Value.{Value}
use Rattle.acl_core.specs.Truth.{applies}
use Rattle.plan_types.specs.declared.plan.Choice.{Choice}
use Rattle.plan_types.specs.declared.plan.Rule.{Rule}
use Rattle.rule_engine.specs.Meaning.{SceneMeaning}
use Rattle.rule_engine.specs.Judging.{TrackSlots, after_rule, is_final, is_true, verdict_of}
use Rattle.rule_engine.specs.declared.judging.Verdict.{Verdict}
use Rattle.rule_engine.specs.declared.judging.Verdict.TheVariants.{On}
use Rattle.explain_core.specs.declared.tried.Tried.{Tried}
use Rattle.explain_core.specs.declared.tried.TriedChoice.{TriedChoice}

-- a rule that is tried once those tracks are made
abbrev pub tried_rule : SceneMeaning → TrackSlots → Rule → Tried
tried_rule scene tracks rule = record { line = rule.line; action = rule.action; applies = is_true scene tracks rule; before = tracks }

-- it ends its list
abbrev pub ends_list : SceneMeaning → TrackSlots → Rule → Bool
ends_list scene tracks rule = is_true scene tracks rule && is_final rule.action

-- the rules that are tried, in order: up to the first that ends the list, and that one
abbrev pub tried : SceneMeaning → TrackSlots → List Rule → List Tried
tried scene tracks [] = []
tried scene tracks (rule ∷ rules) =
    tried_rule scene tracks rule ∷ (if ends_list scene tracks rule then [] else tried scene (after_rule scene tracks rule) rules)

-- what a rule that was tried decides, and its line
abbrev pub decided_by : Tried → Verdict × ℕ
decided_by it = if it.applies && is_final it.action then (verdict_of it.action, it.line) else (On, 0)

-- and what a list of them decides: what the last one does
abbrev pub decided_in : List Tried → Verdict × ℕ
decided_in [] = (On, 0)
decided_in (it ∷ []) = decided_by it
decided_in (it ∷ next ∷ more) = decided_in (next ∷ more)

-- the `use_backend` lines that are tried, in order: up to the first that applies, and that one
abbrev pub tried_choices : List Acl → (Criterion → Value) → List Choice → List TriedChoice
tried_choices acls worth [] = []
tried_choices acls worth (choice ∷ choices) =
    record { line = choice.line; applies = applies acls worth choice.when }
    ∷ (if applies acls worth choice.when then [] else tried_choices acls worth choices)
