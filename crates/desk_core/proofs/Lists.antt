use Rattle.std.proofs.Common.{◌≡◌, ℕ, ◌+◌, ◌<◌, ◌≤◌, List, length, get_or, Some, subst, sym, ap, arith, ◌∙◌}
use Rattle.std.specs.Prelude.{slice_get}
use Rattle.std.proofs.lemmas.Option.{get_or_from_slice_get, slice_get_within}
use Rattle.record_core.specs.declared.record.Record.{Record}
use Rattle.desk_core.specs.Receipts.{NumbersRise, HasNumber}

-- of two places the later has the greater number
pub rising : (p : List Record) (j k : ℕ) (r s : Record) → NumbersRise p → j < k → slice_get p j ≡ Some r → slice_get p k ≡ Some s → r.number < s.number
rising p j k r s h l e f =
    let low = get_or_from_slice_get p j r r e in
    let high = get_or_from_slice_get p k s r f in
    let below : (get_or p j r).number < (get_or p k r).number = h j k r l (slice_get_within p k s f) in
    subst (λ (x : Record). x.number < s.number) low (subst (λ (y : Record). (get_or p j r).number < y.number) high below)

-- what a search by halving knows
pub record Halved (p : List Record) (n low high : ℕ) : Type 0 where
  pub order : (low ≤ high) × (high ≤ length p)
  pub below : (k : ℕ) (r : Record) → k < low → slice_get p k ≡ Some r → r.number < n
  pub above : (k : ℕ) (r : Record) → high ≤ k → slice_get p k ≡ Some r → n < r.number

pub halved_all : (p : List Record) (n : ℕ) → Halved p n 0 (length p)
halved_all p n = record {
  order = omega arith;
  below = λ k r l e. absurd (omega arith);
  above = λ k r l e. let m = slice_get_within p k r e in absurd (omega (arith, m));
}

pub halved_up : (p : List Record) (n low high m : ℕ) (s : Record) → NumbersRise p → Halved p n low high → m < high → slice_get p m ≡ Some s → s.number < n → Halved p n (m + 1) high
halved_up p n low high m s h b l e less = record {
  order = omega (arith, b.order);
  below = λ k r q f. by_place k r q f;
  above = b.above;
}
  where
    same : (k : ℕ) (r : Record) → k ≡ m → slice_get p k ≡ Some r → s ≡ r
    same k r is f = let g : Some s ≡ Some r = sym e ∙ (ap (slice_get p) (sym is) ∙ f) in cc

    by_place : (k : ℕ) (r : Record) → k < m + 1 → slice_get p k ≡ Some r → r.number < n
    by_place k r q f = grind (arith, rising p k m r s h, same k r)

pub halved_down : (p : List Record) (n low high m : ℕ) (s : Record) → NumbersRise p → Halved p n low high → low ≤ m → m < high → slice_get p m ≡ Some s → n < s.number → Halved p n low m
halved_down p n low high m s h b l q e more = record {
  order = omega (arith, b.order);
  below = b.below;
  above = λ k r g f. by_place k r g f;
}
  where
    same : (k : ℕ) (r : Record) → k ≡ m → slice_get p k ≡ Some r → s ≡ r
    same k r is f = let g : Some s ≡ Some r = sym e ∙ (ap (slice_get p) (sym is) ∙ f) in cc

    by_place : (k : ℕ) (r : Record) → m ≤ k → slice_get p k ≡ Some r → n < r.number
    by_place k r g f = grind (arith, rising p m k s r h, same k r)

pub halved_none : (p : List Record) (n low high : ℕ) → Halved p n low high → high ≤ low → HasNumber p n → ⊥
halved_none p n low high b l w =
    let one = b.below w.0 w.1 in
    let two = b.above w.0 w.1 in
    grind (arith, one, two)
