-- A list of rules, judged by the least place that decides, and by going through it.
use Rattle.std.proofs.Common.{◌≡◌, ℕ, ◌+◌, Bool, true, false, List, [], ◌∷◌, take, Some, None, refl, ap, ◌∙◌}
use Rattle.std.specs.Prelude.{Option, find, is_some, option_map, ◌&&◌, ◌||◌}
use Rattle.std.specs.List.{enumerate_from}
use Rattle.std.proofs.Math.Numerals.{add-one}
use Rattle.plan_types.specs.declared.plan.Action.TheVariants.{Track, ExpectProxy}
use Rattle.plan_types.specs.declared.plan.Rule.{Rule}
use Rattle.rule_engine.specs.Meaning.{SceneMeaning}
use Rattle.rule_engine.specs.declared.judging.Judged.{Judged}
use Rattle.rule_engine.specs.Judging.{TrackSlots, is_true, after_rule, after_track, is_final, decides, deciding_rule, is_expectation, expects, expects_header, judged_by, judged_after}

abbrev shifted : {X : Type 0} → ℕ × X → ℕ × X
shifted (n, x) = (n + 1, x)

found : {X : Type 0} (test other : ℕ × X → Bool) (k : ℕ) (x : X) (xs : List X) (b : Bool) → test (k + 1, x) ≡ other (k, x) → other (k, x) ≡ b →
    find test (enumerate_from ((k + 1) + 1) xs) ≡ option_map shifted (find other (enumerate_from (k + 1) xs)) →
    find test (enumerate_from (k + 1) (x ∷ xs)) ≡ option_map shifted (find other (enumerate_from k (x ∷ xs)))
found test other k x xs true same e rest = rw (same, e) refl
found test other k x xs false same e rest = rw (same, e) rest

find-enumerate : {X : Type 0} (test other : ℕ × X → Bool) (k : ℕ) (xs : List X) →
    ((n : ℕ) (x : X) → test (n + 1, x) ≡ other (n, x)) → find test (enumerate_from (k + 1) xs) ≡ option_map shifted (find other (enumerate_from k xs))
find-enumerate test other k [] same = refl
find-enumerate test other k (x ∷ xs) same = found test other k x xs (other (k, x)) (same k x) refl (find-enumerate test other (k + 1) xs same)

decides-past : (scene : SceneMeaning) (tracks : TrackSlots) (rule : Rule) (rules : List Rule) (n : ℕ) (x : Rule) →
    decides scene tracks (rule ∷ rules) (n + 1, x) ≡ decides scene (after_rule scene tracks rule) rules (n, x)
decides-past scene tracks rule rules n x = rw add-one refl

-- Headers.

-- what rules say where one before them may have expected a header
abbrev pub also_expecting : Bool → Judged → Judged
also_expecting before says = record says { expects_header = says.expects_header || before }

-- the first rule of a list expects a header
abbrev pub first_expects : SceneMeaning → TrackSlots → Rule → Bool
first_expects scene tracks rule = is_expectation rule.action && is_true scene tracks rule

expects-past : (scene : SceneMeaning) (tracks : TrackSlots) (rule : Rule) (rules : List Rule) (n : ℕ) (x : Rule) →
    expects scene tracks (rule ∷ rules) (n + 1, x) ≡ expects scene (after_rule scene tracks rule) rules (n, x)
expects-past scene tracks rule rules n x = rw add-one refl

some-shifted : {X : Type 0} (o : Option (ℕ × X)) → is_some (option_map shifted o) ≡ is_some o
some-shifted None = refl
some-shifted (Some found) = refl

or_false : (b : Bool) → (b || false) ≡ b
or_false true = refl
or_false false = refl

or_true : (b : Bool) → (b || true) ≡ true
or_true true = refl
or_true false = refl

expects_header-more : (scene : SceneMeaning) (tracks : TrackSlots) (rule : Rule) (rules : List Rule) →
    expects_header scene tracks (rule ∷ rules) ≡ (expects_header scene (after_rule scene tracks rule) rules || first_expects scene tracks rule)
expects_header-more scene tracks rule rules = by (first_expects scene tracks rule) refl
  where
    later : Bool
    later = expects_header scene (after_rule scene tracks rule) rules

    rest : is_some (find (expects scene tracks (rule ∷ rules)) (enumerate_from 1 rules)) ≡ later
    rest =
        ap is_some (find-enumerate (expects scene tracks (rule ∷ rules)) (expects scene (after_rule scene tracks rule) rules) 0 rules (expects-past scene tracks rule rules))
        ∙ some-shifted (find (expects scene (after_rule scene tracks rule) rules) (enumerate_from 0 rules))

    by : (b : Bool) → first_expects scene tracks rule ≡ b → expects_header scene tracks (rule ∷ rules) ≡ (later || first_expects scene tracks rule)
    by true e = rw (e, or_true later) refl
    by false e = rw (e, or_false later) rest

one_more : (scene : SceneMeaning) (tracks : TrackSlots) (rule : Rule) (rules : List Rule) (decided : Option (ℕ × Rule)) →
    judged_by scene tracks (rule ∷ rules) (option_map shifted decided)
    ≡ also_expecting (first_expects scene tracks rule) (judged_by scene (after_rule scene tracks rule) rules decided)
one_more scene tracks rule rules None = rw (expects_header-more scene tracks rule rules) refl
one_more scene tracks rule rules (Some (n, x)) = rw (add-one, expects_header-more scene tracks rule (take n rules)) refl

-- a rule that does not decide
pub decided_later : (scene : SceneMeaning) (tracks : TrackSlots) (rule : Rule) (rules : List Rule) → (is_final rule.action && is_true scene tracks rule) ≡ false →
    judged_after scene tracks (rule ∷ rules) ≡ also_expecting (first_expects scene tracks rule) (judged_after scene (after_rule scene tracks rule) rules)
decided_later scene tracks rule rules e =
    let there : deciding_rule scene tracks (rule ∷ rules) ≡ option_map shifted (deciding_rule scene (after_rule scene tracks rule) rules) =
    rw e (find-enumerate (decides scene tracks (rule ∷ rules)) (decides scene (after_rule scene tracks rule) rules) 0 rules (decides-past scene tracks rule rules)) in
    ap (judged_by scene tracks (rule ∷ rules)) there ∙ one_more scene tracks rule rules (deciding_rule scene (after_rule scene tracks rule) rules)

and_false : (b : Bool) → (b && false) ≡ false
and_false true = refl
and_false false = refl

expecting_nothing : (says : Judged) → also_expecting false says ≡ says
expecting_nothing says = rw (or_false says.expects_header) refl

expecting_both : (before : Bool) (says : Judged) → also_expecting before (also_expecting true says) ≡ also_expecting true says
expecting_both before says = rw (or_true says.expects_header) refl

-- a rule whose condition is not true
pub passed : (scene : SceneMeaning) (tracks : TrackSlots) (rule : Rule) (rules : List Rule) → is_true scene tracks rule ≡ false →
    judged_after scene tracks (rule ∷ rules) ≡ judged_after scene tracks rules
passed scene tracks rule rules e =
    let same : after_rule scene tracks rule ≡ tracks = rw e refl in
    let nothing : first_expects scene tracks rule ≡ false = rw e (and_false (is_expectation rule.action)) in
    decided_later scene tracks rule rules (rw e (and_false (is_final rule.action)))
    ∙ ap (λ b. also_expecting b (judged_after scene (after_rule scene tracks rule) rules)) nothing
    ∙ expecting_nothing (judged_after scene (after_rule scene tracks rule) rules)
    ∙ ap (λ m. judged_after scene m rules) same

-- a rule that tracks
pub tracked_past : (scene : SceneMeaning) (tracks : TrackSlots) (rule : Rule) (rules : List Rule) (counter number : ℕ) → is_true scene tracks rule ≡ true → rule.action ≡ Track counter number →
    judged_after scene tracks (rule ∷ rules) ≡ judged_after scene (after_track scene tracks counter number) rules
tracked_past scene tracks rule rules counter number e is =
    let same : after_rule scene tracks rule ≡ after_track scene tracks counter number = rw (e, is) refl in
    let nothing : first_expects scene tracks rule ≡ false = rw is refl in
    decided_later scene tracks rule rules (rw is refl)
    ∙ ap (λ b. also_expecting b (judged_after scene (after_rule scene tracks rule) rules)) nothing
    ∙ expecting_nothing (judged_after scene (after_rule scene tracks rule) rules)
    ∙ ap (λ m. judged_after scene m rules) same

-- a rule that expects a header
pub expected_past : (scene : SceneMeaning) (tracks : TrackSlots) (rule : Rule) (rules : List Rule) (before : Bool) → is_true scene tracks rule ≡ true → rule.action ≡ ExpectProxy →
    also_expecting before (judged_after scene tracks (rule ∷ rules)) ≡ also_expecting true (judged_after scene tracks rules)
expected_past scene tracks rule rules before e is =
    let same : after_rule scene tracks rule ≡ tracks = rw (e, is) refl in
    let first : first_expects scene tracks rule ≡ true = rw (e, is) refl in
    ap (also_expecting before)
    (decided_later scene tracks rule rules (rw is refl) ∙ ap (λ b. also_expecting b (judged_after scene (after_rule scene tracks rule) rules)) first)
    ∙ expecting_both before (judged_after scene (after_rule scene tracks rule) rules)
    ∙ ap (λ m. also_expecting true (judged_after scene m rules)) same
