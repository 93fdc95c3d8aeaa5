-- The numbers that agree in their first bits.
use Rattle.std.proofs.Common.{◌≡◌, ℕ, ◌+◌, ◌-◌, ◌*◌, ◌/◌, ◌%◌, ◌^◌, ◌<◌, ◌≤◌, Bool, true, false, refl, sym, ap, subst, ◌∙◌, arith}
use Rattle.std.specs.Prelude.{◌==◌}
use Rattle.std.proofs.lemmas.Bool.Decides.{nat_tests}
use Rattle.std.proofs.lemmas.Nat.{pow_pos, pow-add}
use Rattle.std.proofs.Math.Nat.{div-eq_of_lt-le, div-lt_iff_lt-mul, div-mul-le_self, lt-div-mul-add, mod-eq-sub-div-mul, mod-eq_of_lt, mul-le-mul_right}
use Rattle.std.proofs.Math.Pow.{pow-lt}
use Rattle.net_index.specs.declared.range.Range.{Range}
use Rattle.addr_core.specs.declared.addr.Addr.TheVariants.{V4, V6}
use Rattle.addr_core.specs.Prefix.{holds, Prefix}
use Rattle.net_index.specs.Ranges.{is_within}
use Rattle.net_index.specs.Index.{numbered}

pub power_small : (rest : ℕ) → rest < 128 → 1 * 2 ^ rest % 340282366920938463463374607431768211456 ≡ 2 ^ rest
power_small rest less =
    let below : 2 ^ rest < 2 ^ 128 = pow-lt less in
    let one : 1 * 2 ^ rest ≡ 2 ^ rest = omega arith in
    ap (λ n. n % 340282366920938463463374607431768211456) one ∙ mod-eq_of_lt below

pub power_short : (rest : ℕ) → rest < 32 → 1 * 2 ^ rest % 4294967296 ≡ 2 ^ rest
power_short rest less =
    let below : 2 ^ rest < 2 ^ 32 = pow-lt less in
    let one : 1 * 2 ^ rest ≡ 2 ^ rest = omega arith in
    ap (λ n. n % 4294967296) one ∙ mod-eq_of_lt below

-- a block ends within the numbers of so many bits
pub block_fits : (width number rest : ℕ) → number < 2 ^ width → rest < width → number / 2 ^ rest * 2 ^ rest + 2 ^ rest ≤ 2 ^ width
block_fits width number rest fits less =
    let whole : (width - rest) + rest ≡ width = omega (arith, less) in
    let split : 2 ^ width ≡ 2 ^ (width - rest) * 2 ^ rest = ap (λ n. 2 ^ n) (sym whole) ∙ pow-add 2 (width - rest) rest in
    let inside : number < 2 ^ (width - rest) * 2 ^ rest = subst (λ n. number < n) split fits in
    let blocks : number / 2 ^ rest < 2 ^ (width - rest) = (div-lt_iff_lt-mul (pow_pos rest)).1 inside in
    let next : number / 2 ^ rest + 1 ≤ 2 ^ (width - rest) = omega (arith, blocks) in
    let times : (number / 2 ^ rest + 1) * 2 ^ rest ≤ 2 ^ (width - rest) * 2 ^ rest = mul-le-mul_right (2 ^ rest) next in
    let out : (number / 2 ^ rest + 1) * 2 ^ rest ≡ number / 2 ^ rest * 2 ^ rest + 2 ^ rest = omega arith in
    subst (λ n. number / 2 ^ rest * 2 ^ rest + 2 ^ rest ≤ n) (sym split) (subst (λ n. n ≤ 2 ^ (width - rest) * 2 ^ rest) out times)

pub block_begins : (number size : ℕ) → number - number % size ≡ number / size * size
block_begins number size =
    let rest : number % size ≡ number - number / size * size = mod-eq-sub-div-mul number size in
    let within : number / size * size ≤ number = div-mul-le_self number size in
    ap (λ n. number - n) rest ∙ (omega (arith, within))

-- the numbers of a block are those with its first bits
pub block_has : (number size n : ℕ) (range : Range) → 0 < size → range.first ≡ number / size * size → range.last + 1 ≡ range.first + size → is_within n range ≡ (number / size == n / size)
block_has number size n range some first last = by (number / size == n / size) refl
  where
    q : ℕ
    q = number / size

    by : (b : Bool) → (number / size == n / size) ≡ b → is_within n range ≡ b
    by true is =
        let same : n / size ≡ number / size = grind (arith, nat_tests, is) in
        let low : n / size * size ≤ n = div-mul-le_self n size in
        let high : n < n / size * size + size = lt-div-mul-add some in
        let begins : range.first ≤ n = subst (λ m. m ≤ n) (ap (λ m. m * size) same ∙ sym first) low in
        let ends : n < range.first + size = subst (λ m. n < m + size) (ap (λ m. m * size) same ∙ sym first) high in
        grind (arith, nat_tests, begins, ends, last)
    by false is = other (is_within n range) refl
      where
        other : (b : Bool) → is_within n range ≡ b → is_within n range ≡ false
        other false out = out
        other true inside =
            let begins : range.first ≤ n = grind (arith, nat_tests, inside) in
            let ends : n ≤ range.last = grind (arith, nat_tests, inside) in
            let low : number / size * size ≤ n = subst (λ m. m ≤ n) first begins in
            let out : (number / size + 1) * size ≡ number / size * size + size = omega arith in
            let high : n < (number / size + 1) * size = let far : n < range.first + size = omega (arith, ends, last) in subst (λ m. n < m) (ap (λ m. m + size) first ∙ sym out) far in
            let same : n / size ≡ number / size = div-eq_of_lt-le size low high in
            absurd (let wrong : (number / size == n / size) ≡ true = grind (arith, nat_tests, same) in cc)

-- what a network of either family has
pub holds_four : (net : Prefix) (number n bits : ℕ) → net.addr ≡ V4 number → bits ≡ net.bits → (number / 2 ^ (32 - bits) == n / 2 ^ (32 - bits)) ≡ holds net (numbered false n)
holds_four net number n bits addr same = rw (addr, same) refl

pub holds_six : (net : Prefix) (number n bits : ℕ) → net.addr ≡ V6 number → bits ≡ net.bits → (number / 2 ^ (128 - bits) == n / 2 ^ (128 - bits)) ≡ holds net (numbered true n)
holds_six net number n bits addr same = rw (addr, same) refl
