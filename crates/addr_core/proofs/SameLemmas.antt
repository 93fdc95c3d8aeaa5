-- The test for the same address decides whether two are equal.
use Rattle.std.proofs.Common.{◌≡◌, ℕ, Bool, true, false, refl, ap, ◌∙◌, arith}
use Rattle.std.specs.Prelude.{◌==◌}
use Rattle.std.proofs.lemmas.Bool.Decides.{nat_tests}
use Rattle.addr_core.specs.declared.addr.Addr.{Addr}
use Rattle.addr_core.specs.declared.addr.Addr.TheVariants.{V4, V6}
use Rattle.addr_core.specs.Same.{same_addr}

same_number : (a b : ℕ) → (a == b) ≡ true → a ≡ b
same_number a b e = grind (arith, nat_tests)

number_itself : (a : ℕ) → (a == a) ≡ true
number_itself a = grind (arith, nat_tests)

pub same_addr-is : (a b : Addr) → same_addr a b ≡ true → a ≡ b
same_addr-is (V4 a) (V4 b) e = ap (λ n. V4 n) (same_number a b e)
same_addr-is (V4 a) (V6 b) e = absurd (cc)
same_addr-is (V6 a) (V4 b) e = absurd (cc)
same_addr-is (V6 a) (V6 b) e = ap (λ n. V6 n) (same_number a b e)

pub same_addr-refl : (a : Addr) → same_addr a a ≡ true
same_addr-refl (V4 a) = number_itself a
same_addr-refl (V6 a) = number_itself a

pub same_addr-sym : (a b : Addr) → same_addr a b ≡ false → same_addr b a ≡ false
same_addr-sym a b e = by (same_addr b a) refl
  where
    by : (t : Bool) → same_addr b a ≡ t → same_addr b a ≡ false
    by false is = is
    by true is =
        let same : b ≡ a = same_addr-is b a is in
        let wrong : same_addr a b ≡ true = ap (λ k. same_addr a k) same ∙ same_addr-refl a in
        absurd (cc)

-- what is the same as one is not the same as another
pub other_addr : (a b other : Addr) → same_addr b other ≡ false → same_addr a b ≡ true → same_addr a other ≡ false
other_addr a b other differ is = ap (λ x. same_addr x other) (same_addr-is a b is) ∙ differ
