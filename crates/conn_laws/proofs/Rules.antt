-- What a list of rules says, by the rule that decides.
use Rattle.std.specs.Prelude.{ℕ, List, Option, Some, None, refl, IfSome, ◌≡◌, ◌≢◌}
use Rattle.std.proofs.Common.{sym, ap, ◌∙◌}
use Rattle.rule_engine.specs.Meaning.{SceneMeaning}
use Rattle.rule_engine.specs.Judging.{deciding_rule, judged_after, judged_by, verdict_of, TrackSlots}
use Rattle.plan_types.specs.declared.plan.Action.{Action}
use Rattle.plan_types.specs.declared.plan.Action.TheVariants as actions
use Rattle.plan_types.specs.declared.plan.Rule.{Rule}
use Rattle.conn_model.specs.Rules.{reject_line, rejection}
use Rattle.conn_laws.specs.Deciding.{IsNotRejected, IsRejected}

-- a list of rules rejects by the rule that decides
pub rejected : (scene : SceneMeaning) (made : TrackSlots) (rules : List Rule) (line : ℕ) → rejection (judged_after scene made rules) ≡ Some line → IsRejected scene made rules line
rejected scene made rules line is = by (deciding_rule scene made rules) refl is
  where
    acts : (place : ℕ) (rule : Rule) → deciding_rule scene made rules ≡ Some (place, rule) → (action : Action) → rule.action ≡ action → reject_line (verdict_of action) rule.line ≡ Some line → IsRejected scene made rules line
    acts place rule decides actions.Accept action_is now = absurd (let wrong : None ≡ Some line = now in cc)
    acts place rule decides actions.Reject action_is now = record { place = place; rule = rule; decides = decides; rejects = action_is; line_is = cc }
    acts place rule decides (actions.Track counter table) action_is now = absurd (let wrong : None ≡ Some line = now in cc)
    acts place rule decides actions.ExpectProxy action_is now = absurd (let wrong : None ≡ Some line = now in cc)

    by : (o : Option (ℕ × Rule)) → deciding_rule scene made rules ≡ o → rejection (judged_by scene made rules (deciding_rule scene made rules)) ≡ Some line → IsRejected scene made rules line
    by None none now = absurd (let wrong : None ≡ Some line = sym (ap (λ o. rejection (judged_by scene made rules o)) none) ∙ now in cc)
    by (Some found) some now = acts found.0 found.1 some found.1.action refl (sym (ap (λ o. rejection (judged_by scene made rules o)) some) ∙ now)

-- and where it does not, that rule is no reject
pub not_rejected : (scene : SceneMeaning) (made : TrackSlots) (rules : List Rule) → rejection (judged_after scene made rules) ≡ None → IsNotRejected scene made rules
not_rejected scene made rules is = by (deciding_rule scene made rules) refl
  where
    acts : (rule : Rule) → reject_line (verdict_of rule.action) rule.line ≡ None → rule.action ≢ actions.Reject
    acts rule now rejects =
        let line : reject_line (verdict_of rule.action) rule.line ≡ Some rule.line = ap (λ action. reject_line (verdict_of action) rule.line) rejects in
        let wrong : None ≡ Some rule.line = sym now ∙ line in
        cc

    by : (o : Option (ℕ × Rule)) → deciding_rule scene made rules ≡ o → IfSome o (λ found. found.1.action ≢ actions.Reject)
    by None none = tt
    by (Some found) some = acts found.1 (sym (ap (λ o. rejection (judged_by scene made rules o)) some) ∙ is)

pub no_rejection : (scene : SceneMeaning) (made : TrackSlots) (rules : List Rule) → IsNotRejected scene made rules → rejection (judged_after scene made rules) ≡ None
no_rejection scene made rules is = by (deciding_rule scene made rules) refl is
  where
    acts : (line : ℕ) (action : Action) → action ≢ actions.Reject → reject_line (verdict_of action) line ≡ None
    acts line actions.Accept other = refl
    acts line actions.Reject other = absurd (other refl)
    acts line (actions.Track counter table) other = refl
    acts line actions.ExpectProxy other = refl

    by : (o : Option (ℕ × Rule)) → deciding_rule scene made rules ≡ o → IfSome o (λ found. found.1.action ≢ actions.Reject) → rejection (judged_by scene made rules (deciding_rule scene made rules)) ≡ None
    by None none other = ap (λ o. rejection (judged_by scene made rules o)) none
    by (Some found) some other = ap (λ o. rejection (judged_by scene made rules o)) some ∙ acts found.1.line found.1.action other
