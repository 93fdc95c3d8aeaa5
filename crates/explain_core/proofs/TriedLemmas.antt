-- What the rules that are tried decide.
use Rattle.std.proofs.Common.{◌≡◌, ℕ, Bool, true, false, List, [], ◌∷◌, Some, refl, sym, ap, ◌∙◌}
use Rattle.std.specs.Prelude.{◌&&◌}
use Rattle.plan_types.specs.declared.plan.Rule.{Rule}
use Rattle.rule_engine.specs.Meaning.{SceneMeaning}
use Rattle.rule_engine.specs.declared.judging.Judged.{Judged}
use Rattle.rule_engine.specs.declared.judging.Verdict.{Verdict}
use Rattle.rule_engine.specs.Judging.{TrackSlots, after_rule, deciding_rule, is_final, is_true, judged_after, judged_by, verdict_of}
use Rattle.rule_engine.proofs.JudgingLemmas.{decided_later}
use Rattle.explain_core.specs.declared.tried.Tried.{Tried}
use Rattle.explain_core.specs.Tried.{decided_by, decided_in, ends_list, tried, tried_rule}

-- a rule that does not end its list
pub tried_on : (scene : SceneMeaning) (tracks : TrackSlots) (rule : Rule) (rules : List Rule) → ends_list scene tracks rule ≡ false →
    tried scene tracks (rule ∷ rules) ≡ tried_rule scene tracks rule ∷ tried scene (after_rule scene tracks rule) rules
tried_on scene tracks rule rules e = rw e refl

-- and one that does
pub tried_last : (scene : SceneMeaning) (tracks : TrackSlots) (rule : Rule) (rules : List Rule) → ends_list scene tracks rule ≡ true → tried scene tracks (rule ∷ rules) ≡ tried_rule scene tracks rule ∷ []
tried_last scene tracks rule rules e = rw e refl

-- what a list says
abbrev said : Judged → Verdict × ℕ
said says = (says.verdict, says.line)

and_swapped : (a b c : Bool) → (a && b) ≡ c → (b && a) ≡ c
and_swapped true true c e = e
and_swapped true false c e = e
and_swapped false true c e = e
and_swapped false false c e = e

not_decided : (it : Tried) → (it.applies && is_final it.action) ≡ false → decided_by it ≡ decided_in []
not_decided it e = rw e refl

is_decided : (it : Tried) → (it.applies && is_final it.action) ≡ true → decided_by it ≡ (verdict_of it.action, it.line)
is_decided it e = rw e refl

pub decided : (scene : SceneMeaning) (tracks : TrackSlots) (rules : List Rule) → said (judged_after scene tracks rules) ≡ decided_in (tried scene tracks rules)
decided scene tracks [] = refl
decided scene tracks (rule ∷ rules) = by (decided scene (after_rule scene tracks rule) rules) (ends_list scene tracks rule) refl
  where
    later : (more : List Rule) → ends_list scene tracks rule ≡ false → said (judged_after scene (after_rule scene tracks rule) more) ≡ decided_in (tried scene (after_rule scene tracks rule) more) →
        said (judged_after scene (after_rule scene tracks rule) more) ≡ decided_in (tried_rule scene tracks rule ∷ tried scene (after_rule scene tracks rule) more)
    later [] e rest = sym (not_decided (tried_rule scene tracks rule) e)
    later (next ∷ more) e rest = rest

    by : said (judged_after scene (after_rule scene tracks rule) rules) ≡ decided_in (tried scene (after_rule scene tracks rule) rules) →
        (b : Bool) → ends_list scene tracks rule ≡ b → said (judged_after scene tracks (rule ∷ rules)) ≡ decided_in (tried scene tracks (rule ∷ rules))
    by rest true e =
        let final : (is_final rule.action && is_true scene tracks rule) ≡ true = and_swapped (is_true scene tracks rule) (is_final rule.action) true e in
        let there : deciding_rule scene tracks (rule ∷ rules) ≡ Some (0, rule) = rw final refl in
        ap (λ d. said (judged_by scene tracks (rule ∷ rules) d)) there
        ∙ sym (ap decided_in (tried_last scene tracks rule rules e) ∙ is_decided (tried_rule scene tracks rule) e)
    by rest false e =
        let final : (is_final rule.action && is_true scene tracks rule) ≡ false = and_swapped (is_true scene tracks rule) (is_final rule.action) false e in
        ap said (decided_later scene tracks rule rules final)
        ∙ later rules e rest
        ∙ sym (ap decided_in (tried_on scene tracks rule rules e))
