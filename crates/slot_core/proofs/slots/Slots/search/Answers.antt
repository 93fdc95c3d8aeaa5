use Rattle.std.proofs.Common.{◌≡◌, ◌<◌, ◌≤◌, ◌+◌, Bool, ◌⊎◌, inl, inr, ℕ, true, false, length, None, Some, ap, refl, sym, ◌∙◌, arith}
use Rattle.std.specs.Prelude.{nat_lt, slice_get}
use Rattle.std.specs.List.{position}
use Rattle.std.proofs.lemmas.Option.{slice_get-get_or, slice_get_within}
use Rattle.std.proofs.lemmas.Bool.Decides.{nat_tests}
use Rattle.list_core.proofs.Items.{one_item, position_first, position_none}
use Rattle.slot_core.specs.declared.slots.Count.{Count}
use Rattle.slot_core.specs.Counts.{is_of, place_of}
use Rattle.slot_core.specs.Totals.{has_name}
use Rattle.slot_core.proofs.FindLemmas.{no_total, other_total}
use Rattle.slot_core.proofs.slots.Slots.search.Goals.{else-index-total-via-then-index-total+else-is_same, else-index-total-via-else-index-total}
use Rattle.slot_core.proofs.slots.Slots.search.Goals as goal

-- The backend has no total.
pub returns-in_err-total : goal.returns-in_err-total
returns-in_err-total c =
    let none : position (has_name c.args.identity.now.backend) c.self.inside.totals.items ≡ None =
    ap (λ name. position (has_name name) c.self.inside.totals.items) (sym c.as_slice-2.ensures)
    ∙ ap (position (has_name c.as_slice-2.result.now)) (sym c.as_slice.ensures.value) ∙ sym c.find_total.ensures ∙ c.in_err-total.was in
    c.from_residual.ensures
    ∙ sym (no_total c.self.inside.counts.items c.self.inside.backends.items c.self.inside.totals.items c.args.identity.now c.self.invariant.tied none)
    ∙ ap (place_of c.args.identity.now) c.self.view_is

-- It is the first one of the server.
pub returns-then-is_same : goal.returns-then-is_same
returns-then-is_same c =
    let low : c.loop-place.place < length c.self.inside.counts.items = omega (arith, c.loop-place-test.true) in
    let there : slice_get c.self.inside.counts.items c.loop-place.place ≡ Some c.index-then-index-total.result.now =
    slice_get-get_or c.self.inside.counts.items c.loop-place.place c.index-then-index-total.result.now low ∙ ap Some (sym c.index-then-index-total.ensures) in
    sym (position_first (is_of c.args.identity.now) c.args.self.now c.loop-place.place c.index-then-index-total.result.now
    (ap (λ counts. slice_get counts c.loop-place.place) (sym c.self.view_is) ∙ there) (sym c.is_same.ensures.value ∙ c.if-is_same.true) c.loop-place.invariant)

pub loop-place-preserved : goal.loop-place-preserved
loop-place-preserved c = λ n count lt at. by n count (earlier n c.loop-place.place lt) at
  where
    earlier : (n place : ℕ) → n < place + 1 → (n < place) ⊎ (n ≡ place)
    earlier n place lt = either (nat_lt n place) refl
      where
        either : (b : Bool) → nat_lt n place ≡ b → (n < place) ⊎ (n ≡ place)
        either true e = inl (grind (arith, nat_tests))
        either false e = inr (let past : place ≤ n = grind (arith, nat_tests) in omega (arith, past, lt))

    counted : c.loop-place.place < length c.self.inside.counts.items
    counted = omega (arith, c.loop-place-test.true)

    here : (count : Count) → slice_get c.args.self.now c.loop-place.place ≡ Some count → is_of c.args.identity.now count ≡ false
    here count at = elim c.else-index-total.branch [
      | else-index-total-via-then-index-total+else-is_same w ↦
          let there : slice_get c.args.self.now c.loop-place.place ≡ Some w.index-then-index-total.result.now =
          ap (λ counts. slice_get counts c.loop-place.place) (sym c.self.view_is)
          ∙ slice_get-get_or c.self.inside.counts.items c.loop-place.place w.index-then-index-total.result.now counted ∙ ap Some (sym w.index-then-index-total.ensures) in
          ap (is_of c.args.identity.now) (one_item (slice_get c.args.self.now c.loop-place.place) count w.index-then-index-total.result.now at there)
          ∙ sym w.is_same.ensures.value ∙ w.if-is_same.false
      | else-index-total-via-else-index-total w ↦
          let many = c.self.invariant.tied.many in
          let backend : slice_get c.self.inside.backends.items c.loop-place.place ≡ Some c.index.result.now =
          slice_get-get_or c.self.inside.backends.items c.loop-place.place c.index.result.now (omega (arith, counted, many)) ∙ ap Some (sym c.index.ensures) in
          let total : position (has_name c.args.identity.now.backend) c.self.inside.totals.items ≡ Some c.in_ok-total.total =
          ap (λ name. position (has_name name) c.self.inside.totals.items) (sym c.as_slice-2.ensures)
          ∙ ap (position (has_name c.as_slice-2.result.now)) (sym c.as_slice.ensures.value) ∙ sym c.find_total.ensures ∙ c.in_ok-total.was in
          other_total c.self.inside.counts.items c.self.inside.backends.items c.self.inside.totals.items c.args.identity.now c.in_ok-total.total c.loop-place.place c.index.result.now count
          c.self.invariant.tied total (ap (λ counts. slice_get counts c.loop-place.place) c.self.view_is ∙ at) backend w.if-index-total.false
    ]

    by : (n : ℕ) (count : Count) → (n < c.loop-place.place) ⊎ (n ≡ c.loop-place.place) → slice_get c.args.self.now n ≡ Some count → is_of c.args.identity.now count ≡ false
    by n count (inl lt) at = c.loop-place.invariant n count lt at
    by n count (inr same) at = here count (ap (λ k. slice_get c.args.self.now k) (sym same) ∙ at)

pub returns : goal.returns
returns c = sym (position_none (is_of c.args.identity.now) c.args.self.now (λ n count at.
    let low : n < length c.args.self.now = slice_get_within c.args.self.now n count at in
    c.loop-place.invariant n count (all n (rw (← c.self.view_is) at low)) at))
  where
    all : (n : ℕ) → n < length c.self.inside.counts.items → n < c.loop-place.place
    all n low = omega (arith, low, c.loop-place-test.false)
