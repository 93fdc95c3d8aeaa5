-- Blocked calls in a row.
use Rattle.std.proofs.Common.{◌≡◌, ◌⊎◌, ℕ, ◌≤◌, ap, inl, inr, ◌∙◌, arith}
use Rattle.device_core.specs.Device.{raised_by}
use Rattle.device_core.specs.Patience.{IsUnblocked, IsWornOut}
use Rattle.device_core.specs.declared.patience.TheConstants.{MOST_STALLS}

raised_by_none : (more count : ℕ) → more ≡ 0 → raised_by more count ≡ count
raised_by_none more count none = omega arith

-- after calls of which none was blocked at the end
pub unblocked : (old new more : ℕ) → (new ≡ raised_by more old) ⊎ (new ≡ more) → more ≡ 0 → IsUnblocked old new
unblocked old new more (inl is) none = inl (is ∙ raised_by_none more old none)
unblocked old new more (inr is) none = inr (is ∙ none)

pub unblocked_on : (old mid new : ℕ) → IsUnblocked old mid → IsUnblocked mid new → IsUnblocked old new
unblocked_on old mid new (inl first) (inl second) = inl (second ∙ first)
unblocked_on old mid new (inr first) (inl second) = inr (second ∙ first)
unblocked_on old mid new first (inr second) = inr second

raised_from_none : (n : ℕ) → n ≤ MOST_STALLS → raised_by n 0 ≡ n
raised_from_none n fits = omega arith

worn_out_from : (old mid new : ℕ) → (mid ≡ old) ⊎ (mid ≡ 0) → new ≡ raised_by MOST_STALLS mid → IsWornOut old new
worn_out_from old mid new (inl same) is = inl (is ∙ ap (raised_by MOST_STALLS) same)
worn_out_from old mid new (inr none) is = inr (is ∙ ap (raised_by MOST_STALLS) none ∙ raised_from_none MOST_STALLS (omega arith))

-- a patience that ran out after calls of which the last was not blocked
pub worn_out_on : (old mid new : ℕ) → IsUnblocked old mid → IsWornOut mid new → IsWornOut old new
worn_out_on old mid new first (inl is) = worn_out_from old mid new first is
worn_out_on old mid new first (inr is) = inr is
