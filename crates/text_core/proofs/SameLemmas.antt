-- Texts with the same bytes.
use Rattle.std.proofs.Common.{◌≡◌, ℕ, ◌+◌, ◌-◌, ◌*◌, ◌/◌, ◌<◌, ◌≤◌, Bool, true, false, List, refl, length, get_or, sym, ap, arith}
use Rattle.std.specs.Prelude.{◌↔◌, nat_le, IsTrue}
use Rattle.std.specs.Str.{bytes_eq}
use Rattle.std.proofs.lemmas.Bool.Decides.{nat_tests, same_from_decides}
use Rattle.std.proofs.lemmas.List.{ext_get_or}
use Rattle.std.proofs.lemmas.Slice.Eq.{bytes_eq-Decides}
use Rattle.text_core.specs.Names.{AreSameBetween}

-- texts of one length with the same bytes are the same
same_texts : (one other : List ℕ) → length one ≡ length other → AreSameBetween one other 0 (length one) → one ≡ other
same_texts one other long same = ext_get_or 0 one other long (λ k lt. same k (omega arith) lt)

pub short_same : (one other : List ℕ) → length one ≡ length other → AreSameBetween one other 0 (length one) → true ≡ bytes_eq one other
short_same one other long same = sym ((bytes_eq-Decides one other).1 (same_texts one other long same))

-- the bytes of all eights and the last eight are all bytes
pub long_same : (r : Bool) (one other : List ℕ) (n : ℕ) → length one ≡ length other → 8 ≤ length one → length one / 8 ≤ n → AreSameBetween one other 0 (8 * n)
    → IsTrue r ↔ AreSameBetween one other (length one - 8) (length one - 8 + 8) → r ≡ bytes_eq one other
long_same r one other n long some eights front last = same_from_decides r (bytes_eq one other) (whole, parts) (bytes_eq-Decides one other)
  where
    whole : r ≡ true → one ≡ other
    whole found = same_texts one other long all
      where
        all : AreSameBetween one other 0 (length one)
        all k low high = by (nat_le (length one - 8) k) refl
          where
            by : (t : Bool) → nat_le (length one - 8) k ≡ t → get_or one k 0 ≡ get_or other k 0
            by true test = let late : length one - 8 ≤ k = grind (arith, nat_tests) in last.0 found k late (omega (arith, high, some))
            by false test = let early : k < length one - 8 = grind (arith, nat_tests) in front k low (omega (arith, early, eights, some))

    parts : one ≡ other → r ≡ true
    parts same = last.1 (λ k low high. ap (λ text. get_or text k 0) same)
