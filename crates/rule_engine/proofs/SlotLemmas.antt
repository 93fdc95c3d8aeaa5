-- What is known of each track that a list of rules makes.
use Rattle.std.proofs.Common.{◌≡◌, ◌⊎◌, inl, inr, ℕ, ◌<◌, Bool, true, false, List, [], ◌∷◌, length, take, Some, None, refl, sym, ap, subst, ◌∙◌, arith}
use Rattle.std.specs.Prelude.{zero, suc, Option, slice_get, slice_set, ◌&&◌}
use Rattle.std.proofs.lemmas.Bool.{false≢true}
use Rattle.std.proofs.lemmas.Option.{slice_get_within}
use Rattle.addr_core.specs.declared.addr.Addr.{Addr}
use Rattle.plan_types.specs.declared.plan.Action.{Action}
use Rattle.plan_types.specs.declared.plan.Action.TheVariants as actions
use Rattle.plan_types.specs.declared.plan.Rule.{Rule}
use Rattle.plan_types.specs.declared.track.TableId.{TableId}
use Rattle.plan_types.specs.declared.track.Track.{Track}
use Rattle.rule_engine.specs.Meaning.{SceneMeaning, present}
use Rattle.rule_engine.specs.Judging.{TrackSlots, no_tracks, is_free, with_track, after_track, after_action, after_rule, after_rules, is_true, is_empty, deciding_rule, judged_by, judged_after}

abbrev pub track : ℕ → TableId → Addr → Track
track counter table key = record { counter = counter; table = table; key = key }

-- there are three slots, and each track has the property with its place
pub record AreSlots (P : ℕ → Track → Type 0) (slots : TrackSlots) : Type 0 where
  pub three : length slots ≡ 3
  pub each : (counter : ℕ) (made : Track) → slice_get slots counter ≡ Some (Some made) → P counter made

-- what a scene lets a free counter track has the property
abbrev pub Makes : SceneMeaning → (ℕ → Track → Type 0) → Type 0
Makes scene P = (counter number : ℕ) (made : List Track) (table : TableId) (key : Addr) → counter < 3 → scene.is_free counter ≡ true → scene.key made number ≡ Some (table, key) →
    P counter (track counter table key)

pub none_made : (P : ℕ → Track → Type 0) → AreSlots P no_tracks
none_made P = record { three = refl; each = nothing }
  where
    nothing : (counter : ℕ) (made : Track) → slice_get no_tracks counter ≡ Some (Some made) → P counter made
    nothing zero made there = absurd (let wrong : Some None ≡ Some (Some made) = there in cc)
    nothing (suc zero) made there = absurd (let wrong : Some None ≡ Some (Some made) = there in cc)
    nothing (suc (suc zero)) made there = absurd (let wrong : Some None ≡ Some (Some made) = there in cc)
    nothing (suc (suc (suc n))) made there = absurd (let wrong : None ≡ Some (Some made) = there in cc)

-- A slot that is filled.

length-set : {X : Type 0} (xs : List X) (n : ℕ) (y : X) → length (slice_set xs n y) ≡ length xs
length-set [] n y = refl
length-set (x ∷ xs) zero y = refl
length-set (x ∷ xs) (suc n) y = ap (λ l. suc l) (length-set xs n y)

get-set : {X : Type 0} (xs : List X) (n m : ℕ) (y z : X) → slice_get (slice_set xs n y) m ≡ Some z → ((m ≡ n) × (y ≡ z)) ⊎ (slice_get xs m ≡ Some z)
get-set [] n m y z there = inr there
get-set (x ∷ xs) zero zero y z there = inl (refl, let same : Some y ≡ Some z = there in cc)
get-set (x ∷ xs) zero (suc m) y z there = inr there
get-set (x ∷ xs) (suc n) zero y z there = inr there
get-set (x ∷ xs) (suc n) (suc m) y z there = elim (get-set xs n m y z there) [
  | inl both ↦ inl (ap (λ k. suc k) both.0, both.1)
  | inr old ↦ inr old
]

both_true : (a b : Bool) → (a && b) ≡ true → (a ≡ true) × (b ≡ true)
both_true true b is = (refl, is)
both_true false b is = absurd (false≢true is)

empty_slot : (slot : Option (Option Track)) → is_empty slot ≡ true → slot ≡ Some None
empty_slot None is = absurd (false≢true is)
empty_slot (Some None) is = refl
empty_slot (Some (Some made)) is = absurd (false≢true is)

filled : (P : ℕ → Track → Type 0) (slots : TrackSlots) (counter : ℕ) (new' : Track) → AreSlots P slots → P counter new' → AreSlots P (slice_set slots counter (Some new'))
filled P slots counter new' known has = record { three = length-set slots counter (Some new') ∙ known.three; each = each }
  where
    each : (n : ℕ) (made : Track) → slice_get (slice_set slots counter (Some new')) n ≡ Some (Some made) → P n made
    each n made there = elim (get-set slots counter n (Some new') (Some made) there) [
      | inl both ↦
          let same : new' ≡ made = let it : Some new' ≡ Some made = both.1 in cc in
          subst (λ k. P k made) (sym both.0) (subst (P counter) same has)
      | inr old ↦ known.each n made old
    ]

-- Along a list.

after_track-slots : (scene : SceneMeaning) (P : ℕ → Track → Type 0) → Makes scene P → (slots : TrackSlots) (counter number : ℕ) → AreSlots P slots → AreSlots P (after_track scene slots counter number)
after_track-slots scene P makes slots counter number known = by (is_free scene slots counter) refl
  where
    keyed : (o : Option (TableId × Addr)) → scene.key (present slots) number ≡ o → is_free scene slots counter ≡ true → AreSlots P (with_track slots counter o)
    keyed None is free = known
    keyed (Some (table, key)) is free =
        let both : (is_empty (slice_get slots counter) ≡ true) × (scene.is_free counter ≡ true) = both_true (is_empty (slice_get slots counter)) (scene.is_free counter) free in
        let within : counter < length slots = slice_get_within slots counter None (empty_slot (slice_get slots counter) both.0) in
        let three = known.three in
        filled P slots counter (track counter table key) known (makes counter number (present slots) table key (omega (arith, within, three)) both.1 is)

    by : (b : Bool) → is_free scene slots counter ≡ b → AreSlots P (after_track scene slots counter number)
    by false e = rw e known
    by true e = rw e (keyed (scene.key (present slots) number) refl e)

after_action-slots : (scene : SceneMeaning) (P : ℕ → Track → Type 0) → Makes scene P → (slots : TrackSlots) (action : Action) → AreSlots P slots → AreSlots P (after_action scene slots action)
after_action-slots scene P makes slots actions.Accept known = known
after_action-slots scene P makes slots actions.Reject known = known
after_action-slots scene P makes slots (actions.Track counter number) known = after_track-slots scene P makes slots counter number known
after_action-slots scene P makes slots actions.ExpectProxy known = known

after_rule-slots : (scene : SceneMeaning) (P : ℕ → Track → Type 0) → Makes scene P → (slots : TrackSlots) (rule : Rule) → AreSlots P slots → AreSlots P (after_rule scene slots rule)
after_rule-slots scene P makes slots rule known = by (is_true scene slots rule) refl
  where
    by : (b : Bool) → is_true scene slots rule ≡ b → AreSlots P (after_rule scene slots rule)
    by true e = rw e (after_action-slots scene P makes slots rule.action known)
    by false e = rw e known

after_rules-slots : (scene : SceneMeaning) (P : ℕ → Track → Type 0) → Makes scene P → (slots : TrackSlots) (rules : List Rule) → AreSlots P slots → AreSlots P (after_rules scene slots rules)
after_rules-slots scene P makes slots [] known = known
after_rules-slots scene P makes slots (rule ∷ rules) known = after_rules-slots scene P makes (after_rule scene slots rule) rules (after_rule-slots scene P makes slots rule known)

pub judged-slots : (scene : SceneMeaning) (P : ℕ → Track → Type 0) → Makes scene P → (slots : TrackSlots) (rules : List Rule) → AreSlots P slots → AreSlots P (judged_after scene slots rules).tracks
judged-slots scene P makes slots rules known = by (deciding_rule scene slots rules)
  where
    by : (decided : Option (ℕ × Rule)) → AreSlots P (judged_by scene slots rules decided).tracks
    by None = after_rules-slots scene P makes slots rules known
    by (Some (place, rule)) = after_rules-slots scene P makes slots (take place rules) known
