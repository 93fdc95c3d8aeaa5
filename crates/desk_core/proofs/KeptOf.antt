use Rattle.std.proofs.Common.{◌≡◌, ℕ, ◌+◌, ◌<◌, ◌≤◌, inl, inr, List, length, get_or, Some, subst, sym, ap, refl, arith, ◌∙◌}
use Rattle.std.specs.Prelude.{slice_get}
use Rattle.std.proofs.lemmas.List.{length-map}
use Rattle.std.proofs.lemmas.Option.{slice_get_within, slice_get_read, slice_get-map}
use Rattle.std.specs.Option.{option_map}
use Rattle.record_core.specs.declared.record.Record.{Record}
use Rattle.desk_core.specs.Calls.{kept_of, PassState}
use Rattle.desk_core.specs.Receipts.{HasNumber, HasEarlier}
use Rattle.desk_core.proofs.Once.{order, Order}

pub at_kept : (ps : List PassState) (i : ℕ) (p : PassState) (q : List Record) → i < length ps → p ≡ get_or ps i p → q ≡ p.kept → slice_get (kept_of ps) i ≡ Some q
at_kept ps i p q l is same =
    slice_get-map (λ (z : PassState). z.kept) ps i ∙ ap (λ o. option_map (λ (z : PassState). z.kept) o) (slice_get_read ps (length ps) i p refl l is) ∙ ap (λ z. Some z) (sym same)

pub none_more : (pss : List (List Record)) (n i : ℕ) (q : List Record) → ((k : ℕ) (p : List Record) → k < i → slice_get pss k ≡ Some p → HasNumber p n → ⊥) → slice_get pss i ≡ Some q → (HasNumber q n → ⊥) → (k : ℕ) (p : List Record) → k < i + 1 → slice_get pss k ≡ Some p → HasNumber p n → ⊥
none_more pss n i q below at here k p l e has = by_place (order k i)
  where
    by_place : Order k i → ⊥
    by_place (inl less) = below k p less e has
    by_place (inr (inl is)) =
        let both : Some p ≡ Some q = sym e ∙ (ap (slice_get pss) is ∙ at) in
        let same : p ≡ q = cc in
        here (subst (λ z. HasNumber z n) same has)
    by_place (inr (inr more)) = absurd (omega arith)

pub none_left : (ps : List PassState) (n i : ℕ) → length ps ≤ i → ((k : ℕ) (p : List Record) → k < i → slice_get (kept_of ps) k ≡ Some p → HasNumber p n → ⊥) → HasEarlier (kept_of ps) n → ⊥
none_left ps n i l none e =
    let m = slice_get_within (kept_of ps) e.0 e.1 e.2 in
    let long : length (kept_of ps) ≡ length ps = length-map ps (λ (z : PassState). z.kept) in
    none e.0 e.1 (omega arith) e.2 e.3
