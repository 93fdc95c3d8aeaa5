-- Two scenes that rules cannot tell apart say the same, and what the rules track is known.
use Rattle.std.specs.Prelude.{ℕ, zero, suc, Bool, true, false, List, [], take, slice_set, Option, Some, None, is_some, refl, ◌≡◌, ◌&&◌, ◌∷◌, ◌+◌}
use Rattle.std.specs.List.{list_all, enumerate_from, AllByRecursion}
use Rattle.std.proofs.Common.{sym, ap, ◌∙◌}
use Rattle.addr_core.specs.declared.addr.Addr.{Addr}
use Rattle.acl_core.specs.declared.condition.Acl.{Acl}
use Rattle.acl_core.specs.declared.criterion.Criterion.{Criterion}
use Rattle.acl_core.specs.Truth.{applies}
use Rattle.plan_types.specs.declared.plan.Action.{Action}
use Rattle.plan_types.specs.declared.plan.Action.TheVariants as actions
use Rattle.plan_types.specs.declared.plan.Rule.{Rule}
use Rattle.plan_types.specs.declared.track.TableId.{TableId}
use Rattle.plan_types.specs.declared.track.Track.{Track}
use Rattle.rule_engine.specs.Meaning.{SceneMeaning, present}
use Rattle.rule_engine.specs.Judging.{TrackSlots, is_free, is_true, with_track, after_track, after_action, after_rule, after_rules, is_final, decides, deciding_rule, is_expectation, expects, expects_header, judged_by, judged_after}
use Rattle.tenant_laws.specs.Parts.{action_passes, rule_passes, rules_pass, when_passes}
use Rattle.tenant_laws.proofs.Lists.{both}
use Rattle.tenant_laws.proofs.Truth.{applies-kept, find-kept}

abbrev pub track_of : ℕ → TableId → Addr → Track
track_of counter table key = record { counter = counter; table = table; key = key }

-- one slot more
set-present : (P : Track → Type 0) (slots : TrackSlots) (n : ℕ) (new' : Track) → P new' → AllByRecursion P (present slots) → AllByRecursion P (present (slice_set slots n (Some new')))
set-present P [] n new' is all = tt
set-present P (None ∷ slots) zero new' is all = (is, all)
set-present P (None ∷ slots) (suc n) new' is all = set-present P slots n new' is all
set-present P (Some track ∷ slots) zero new' is all = (is, all.1)
set-present P (Some track ∷ slots) (suc n) new' is all = (all.0, set-present P slots n new' is all.1)

take-passes : {X : Type 0} (test : X → Bool) (n : ℕ) (xs : List X) → list_all test xs ≡ true → list_all test (take n xs) ≡ true
take-passes test zero xs kept = refl
take-passes test (suc n) [] kept = refl
take-passes test (suc n) (x ∷ xs) kept =
    let parts = both (test x) (list_all test xs) kept in
    rw (parts.0, take-passes test n xs parts.1) refl

numbered-passes : {X : Type 0} (test : X → Bool) (k : ℕ) (xs : List X) → list_all test xs ≡ true → list_all (λ (pair : ℕ × X). test pair.1) (enumerate_from k xs) ≡ true
numbered-passes test k [] kept = refl
numbered-passes test k (x ∷ xs) kept =
    let parts = both (test x) (list_all test xs) kept in
    rw (parts.0, numbered-passes test (k + 1) xs parts.1) refl

-- P holds of each track in the slots
abbrev pub Known : (Track → Type 0) → TrackSlots → Type 0
Known P slots = AllByRecursion P (present slots)

module _ (a b : SceneMeaning) (P : Track → Type 0) (table : ℕ → Bool) (passes : Criterion → Bool) (acls : List Acl) (left : a.acls ≡ acls) (right : b.acls ≡ acls)
    (free : (counter : ℕ) → a.is_free counter ≡ b.is_free counter)
    (worth : (made : List Track) → AllByRecursion P made → (criterion : Criterion) → passes criterion ≡ true → a.worth made criterion ≡ b.worth made criterion)
    (key : (made : List Track) → AllByRecursion P made → (number : ℕ) → table number ≡ true → a.key made number ≡ b.key made number)
    (makes : (made : List Track) (counter number : ℕ) (id : TableId) (addr : Addr) → table number ≡ true → a.key made number ≡ Some (id, addr) → P (track_of counter id addr)) where
  is_true-same : (slots : TrackSlots) → Known P slots → (rule : Rule) → when_passes passes acls rule.when ≡ true → is_true a slots rule ≡ is_true b slots rule
  is_true-same slots known rule kept =
      ap (λ own. applies own (a.worth (present slots)) rule.when) left
      ∙ applies-kept passes acls (a.worth (present slots)) (b.worth (present slots)) (worth (present slots) known) rule.when kept
      ∙ ap (λ own. applies own (b.worth (present slots)) rule.when) (sym right)

  action-same : (slots : TrackSlots) → Known P slots → (action : Action) → action_passes table action ≡ true → after_action a slots action ≡ after_action b slots action
  action-same slots known (actions.Track counter number) kept = rw (free counter, key (present slots) known number kept) refl
  action-same slots known event kept = refl

  action-known : (slots : TrackSlots) → Known P slots → (action : Action) → action_passes table action ≡ true → Known P (after_action a slots action)
  action-known slots known actions.Accept kept = known
  action-known slots known actions.Reject kept = known
  action-known slots known (actions.Track counter number) kept = by (is_free a slots counter) refl
    where
      keyed : (o : Option (TableId × Addr)) → a.key (present slots) number ≡ o → Known P (with_track slots counter o)
      keyed None e = known
      keyed (Some (id, addr)) e = set-present P slots counter (track_of counter id addr) (makes (present slots) counter number id addr kept e) known

      by : (c : Bool) → is_free a slots counter ≡ c → Known P (after_track a slots counter number)
      by true e = rw e (keyed (a.key (present slots) number) refl)
      by false e = rw e known
  action-known slots known actions.ExpectProxy kept = known

  rule-same : (slots : TrackSlots) → Known P slots → (rule : Rule) → rule_passes table passes acls rule ≡ true → after_rule a slots rule ≡ after_rule b slots rule
  rule-same slots known rule kept =
      let parts = both (action_passes table rule.action) (when_passes passes acls rule.when) kept in
      rw (is_true-same slots known rule parts.1, action-same slots known rule.action parts.0) refl

  rule-known : (slots : TrackSlots) → Known P slots → (rule : Rule) → rule_passes table passes acls rule ≡ true → Known P (after_rule a slots rule)
  rule-known slots known rule kept = by (is_true a slots rule) refl
    where
      parts : (action_passes table rule.action ≡ true) × (when_passes passes acls rule.when ≡ true)
      parts = both (action_passes table rule.action) (when_passes passes acls rule.when) kept

      by : (c : Bool) → is_true a slots rule ≡ c → Known P (after_rule a slots rule)
      by true e = rw e (action-known slots known rule.action parts.0)
      by false e = rw e known

  rules-same : (slots : TrackSlots) → Known P slots → (rules : List Rule) → rules_pass table passes acls rules ≡ true → (after_rules a slots rules ≡ after_rules b slots rules) × Known P (after_rules a slots rules)
  rules-same slots known [] kept = (refl, known)
  rules-same slots known (rule ∷ rules) kept =
      let parts = both (rule_passes table passes acls rule) (rules_pass table passes acls rules) kept in
      let one : after_rule a slots rule ≡ after_rule b slots rule = rule-same slots known rule parts.0 in
      let rest = rules-same (after_rule a slots rule) (rule-known slots known rule parts.0) rules parts.1 in
      (rest.0 ∙ ap (λ s. after_rules b s rules) one, rest.1)

  -- a rule after others
  tried-same : (slots : TrackSlots) → Known P slots → (before : List Rule) → rules_pass table passes acls before ≡ true → (rule : Rule) → rule_passes table passes acls rule ≡ true →
      is_true a (after_rules a slots before) rule ≡ is_true b (after_rules b slots before) rule
  tried-same slots known before kept rule kept' =
      let rules = rules-same slots known before kept in
      let parts = both (action_passes table rule.action) (when_passes passes acls rule.when) kept' in
      is_true-same (after_rules a slots before) rules.1 rule parts.1 ∙ ap (λ s. is_true b s rule) rules.0

  decides-same : (slots : TrackSlots) → Known P slots → (rules : List Rule) → rules_pass table passes acls rules ≡ true → (item : ℕ × Rule) → rule_passes table passes acls item.1 ≡ true →
      decides a slots rules item ≡ decides b slots rules item
  decides-same slots known rules kept (place, rule) kept' =
      ap (λ truth. is_final rule.action && truth)
      (tried-same slots known (take place rules) (take-passes (rule_passes table passes acls) place rules kept) rule kept')

  expects-same : (slots : TrackSlots) → Known P slots → (rules : List Rule) → rules_pass table passes acls rules ≡ true → (item : ℕ × Rule) → rule_passes table passes acls item.1 ≡ true →
      expects a slots rules item ≡ expects b slots rules item
  expects-same slots known rules kept (place, rule) kept' =
      ap (λ truth. is_expectation rule.action && truth)
      (tried-same slots known (take place rules) (take-passes (rule_passes table passes acls) place rules kept) rule kept')

  header-same : (slots : TrackSlots) → Known P slots → (rules : List Rule) → rules_pass table passes acls rules ≡ true → expects_header a slots rules ≡ expects_header b slots rules
  header-same slots known rules kept =
      ap is_some (find-kept (λ (pair : ℕ × Rule). rule_passes table passes acls pair.1) (expects a slots rules) (expects b slots rules) (enumerate_from 0 rules)
      (numbered-passes (rule_passes table passes acls) 0 rules kept) (expects-same slots known rules kept))

  by-same : (slots : TrackSlots) → Known P slots → (rules : List Rule) → rules_pass table passes acls rules ≡ true → (decided : Option (ℕ × Rule)) →
      (judged_by a slots rules decided ≡ judged_by b slots rules decided) × Known P (judged_by a slots rules decided).tracks
  by-same slots known rules kept None =
      let all = rules-same slots known rules kept in
      (rw (all.0, header-same slots known rules kept) refl, all.1)
  by-same slots known rules kept (Some (place, rule)) =
      let passing = take-passes (rule_passes table passes acls) place rules kept in
      let before = rules-same slots known (take place rules) passing in
      (rw (before.0, header-same slots known (take place rules) passing) refl, before.1)

  pub judged-kept : (slots : TrackSlots) → Known P slots → (rules : List Rule) → rules_pass table passes acls rules ≡ true →
      (judged_after a slots rules ≡ judged_after b slots rules) × Known P (judged_after a slots rules).tracks
  judged-kept slots known rules kept =
      let decided : deciding_rule a slots rules ≡ deciding_rule b slots rules =
      find-kept (λ (pair : ℕ × Rule). rule_passes table passes acls pair.1) (decides a slots rules) (decides b slots rules) (enumerate_from 0 rules)
      (numbered-passes (rule_passes table passes acls) 0 rules kept) (decides-same slots known rules kept) in
      let one = by-same slots known rules kept (deciding_rule a slots rules) in
      (one.0 ∙ ap (judged_by b slots rules) decided, one.1)
