-- In scenes that are alike a list of rules says the same.
use Rattle.std.proofs.Common.{◌≡◌, ℕ, Bool, List, [], ◌∷◌, take, Some, None, refl, ap, ◌∙◌}
use Rattle.std.specs.Prelude.{Option, find, is_some, ◌&&◌}
use Rattle.std.specs.List.{enumerate_from}
use Rattle.acl_core.specs.Truth.{applies}
use Rattle.acl_core.proofs.TruthLemmas.{applies-same}
use Rattle.plan_types.specs.declared.plan.Action.{Action}
use Rattle.plan_types.specs.declared.plan.Action.TheVariants as actions
use Rattle.plan_types.specs.declared.plan.Rule.{Rule}
use Rattle.rule_engine.specs.Meaning.{SceneMeaning, AreAlike, present}
use Rattle.rule_engine.specs.Judging.{TrackSlots, no_tracks, is_true, after_action, after_rule, after_rules, is_final, decides, deciding_rule, is_expectation, expects, expects_header, judged_by, judged}

is_true-same : (a b : SceneMeaning) → AreAlike a b → (tracks : TrackSlots) (rule : Rule) → is_true a tracks rule ≡ is_true b tracks rule
is_true-same a b alike tracks rule =
    ap (λ acls. applies acls (a.worth (present tracks)) rule.when) alike.acls
    ∙ applies-same b.acls (a.worth (present tracks)) (b.worth (present tracks)) (alike.worth (present tracks)) rule.when

after_action-same : (a b : SceneMeaning) → AreAlike a b → (tracks : TrackSlots) (action : Action) → after_action a tracks action ≡ after_action b tracks action
after_action-same a b alike tracks (actions.Track counter number) = rw (alike.is_free counter, alike.key (present tracks) number) refl
after_action-same a b alike tracks event = refl

after_rule-same : (a b : SceneMeaning) → AreAlike a b → (tracks : TrackSlots) (rule : Rule) → after_rule a tracks rule ≡ after_rule b tracks rule
after_rule-same a b alike tracks rule = rw (is_true-same a b alike tracks rule, after_action-same a b alike tracks rule.action) refl

after_rules-same : (a b : SceneMeaning) → AreAlike a b → (tracks : TrackSlots) (rules : List Rule) → after_rules a tracks rules ≡ after_rules b tracks rules
after_rules-same a b alike tracks [] = refl
after_rules-same a b alike tracks (rule ∷ rules) =
    ap (λ t. after_rules a t rules) (after_rule-same a b alike tracks rule) ∙ after_rules-same a b alike (after_rule b tracks rule) rules

find-same : {X : Type 0} (p q : X → Bool) → ((x : X) → p x ≡ q x) → (xs : List X) → find p xs ≡ find q xs
find-same p q same [] = refl
find-same p q same (x ∷ xs) = rw (same x, find-same p q same xs) refl

-- a rule after others
tried-same : (a b : SceneMeaning) → AreAlike a b → (tracks : TrackSlots) (before : List Rule) (rule : Rule) → is_true a (after_rules a tracks before) rule ≡ is_true b (after_rules b tracks before) rule
tried-same a b alike tracks before rule =
    ap (λ t. is_true a t rule) (after_rules-same a b alike tracks before) ∙ is_true-same a b alike (after_rules b tracks before) rule

decides-same : (a b : SceneMeaning) → AreAlike a b → (tracks : TrackSlots) (rules : List Rule) (item : ℕ × Rule) → decides a tracks rules item ≡ decides b tracks rules item
decides-same a b alike tracks rules (place, rule) = ap (λ truth. is_final rule.action && truth) (tried-same a b alike tracks (take place rules) rule)

expects-same : (a b : SceneMeaning) → AreAlike a b → (tracks : TrackSlots) (rules : List Rule) (item : ℕ × Rule) → expects a tracks rules item ≡ expects b tracks rules item
expects-same a b alike tracks rules (place, rule) = ap (λ truth. is_expectation rule.action && truth) (tried-same a b alike tracks (take place rules) rule)

expects_header-same : (a b : SceneMeaning) → AreAlike a b → (tracks : TrackSlots) (rules : List Rule) → expects_header a tracks rules ≡ expects_header b tracks rules
expects_header-same a b alike tracks rules =
    ap is_some (find-same (expects a tracks rules) (expects b tracks rules) (expects-same a b alike tracks rules) (enumerate_from 0 rules))

judged_by-same : (a b : SceneMeaning) → AreAlike a b → (tracks : TrackSlots) (rules : List Rule) (decided : Option (ℕ × Rule)) → judged_by a tracks rules decided ≡ judged_by b tracks rules decided
judged_by-same a b alike tracks rules None = rw (after_rules-same a b alike tracks rules, expects_header-same a b alike tracks rules) refl
judged_by-same a b alike tracks rules (Some (place, rule)) = rw (after_rules-same a b alike tracks (take place rules), expects_header-same a b alike tracks (take place rules)) refl

pub judged-same : (a b : SceneMeaning) → AreAlike a b → (rules : List Rule) → judged a rules ≡ judged b rules
judged-same a b alike rules =
    ap (judged_by a no_tracks rules) (find-same (decides a no_tracks rules) (decides b no_tracks rules) (decides-same a b alike no_tracks rules) (enumerate_from 0 rules))
    ∙ judged_by-same a b alike no_tracks rules (deciding_rule b no_tracks rules)
