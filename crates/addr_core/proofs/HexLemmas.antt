-- Groups in hexadecimal.
use Rattle.std.proofs.Common.{◌≡◌, ℕ, zero, suc, ◌+◌, ◌*◌, ◌/◌, ◌%◌, ◌^◌, ◌<◌, ◌≤◌, Bool, true, false, List, [], ◌∷◌, ◌++◌, length, refl, ◌∙◌, arith, length-append}
use Rattle.std.specs.Prelude.{nat_lt}
use Rattle.std.specs.List.{list_all}
use Rattle.std.specs.Char.{digit_char, is_ascii_hexdigit}
use Rattle.std.proofs.lemmas.Bool.Decides.{nat_tests}
use Rattle.std.proofs.lemmas.List.Sums.{fold-append}
use Rattle.std.proofs.lemmas.List.Folds.{list_all-append}
use Rattle.addr_core.specs.Groups.{hex_in, hexadecimal}
use Rattle.addr_core.specs.Six.{hex_value, nibble}

-- the digits do not depend on how many more there may be
hex_in_more : (k n : ℕ) → n < 16 ^ suc k → hex_in (suc k) n ≡ hex_in k n
hex_in_more zero n small = let test : nat_lt n 16 ≡ true = grind (arith, nat_tests) in rw test refl
hex_in_more (suc k) n small = by (nat_lt n 16) refl (hex_in_more k (n / 16) (let power : 16 ^ suc (suc k) ≡ 16 * 16 ^ suc k = grind arith in omega arith))
  where
    by : (t : Bool) → nat_lt n 16 ≡ t → hex_in (suc k) (n / 16) ≡ hex_in k (n / 16) → hex_in (suc (suc k)) n ≡ hex_in (suc k) n
    by true is rest = rw is refl
    by false is rest = rw (is, rest) refl

-- a group of one digit
pub hexadecimal_small : (n : ℕ) → n < 16 → hexadecimal n ≡ digit_char n ∷ []
unfolding hexadecimal
hexadecimal_small n small = let test : nat_lt n 16 ≡ true = grind (arith, nat_tests) in rw test refl

-- the last digit, after the others
pub hexadecimal_step : (n : ℕ) → 16 ≤ n → n < 2 ^ 16 → hexadecimal n ≡ hexadecimal (n / 16) ++ digit_char (n % 16) ∷ []
unfolding hexadecimal
hexadecimal_step n large small =
    let test : nat_lt n 16 ≡ false = grind (arith, nat_tests) in
    let rest : hex_in 3 (n / 16) ≡ hex_in 2 (n / 16) = hex_in_more 2 (n / 16) (omega arith) in
    rw (test, rest) refl

-- what is true of the digits of a group
pub record AreHexDigits (n : ℕ) (text : List ℕ) : Type 0 where
  pub value : hex_value text ≡ n
  pub digits : list_all is_ascii_hexdigit text ≡ true
  pub some : 0 < length text

digit_is_hex : (d : ℕ) → d < 16 → is_ascii_hexdigit (digit_char d) ≡ true
digit_is_hex d small = grind (arith, nat_tests)

value_of_digit : (d : ℕ) → d < 16 → nibble (digit_char d) ≡ d
value_of_digit d small = grind (arith, nat_tests)

one_digit : (n : ℕ) → n < 16 → AreHexDigits n (digit_char n ∷ [])
one_digit n small = record {
  value = rw (value_of_digit n small) (omega arith);
  digits = rw (digit_is_hex n small) refl;
  some = omega arith;
}

one_more : (n : ℕ) (digits : List ℕ) → AreHexDigits (n / 16) digits → AreHexDigits n (digits ++ digit_char (n % 16) ∷ [])
one_more n digits was = record {
  value = fold-append (λ value byte. value * 16 + nibble byte) 0 digits (digit_char (n % 16) ∷ []) ∙ rw (was.value, value_of_digit (n % 16) (omega arith)) (omega arith);
  digits = list_all-append is_ascii_hexdigit digits (digit_char (n % 16) ∷ []) ∙ rw (was.digits, digit_is_hex (n % 16) (omega arith)) refl;
  some = omega (arith, length-append digits (digit_char (n % 16) ∷ []));
}

digits_in : (k n : ℕ) → n < 16 ^ suc k → AreHexDigits n (hex_in k n)
digits_in zero n small = one_digit n (omega arith)
digits_in (suc k) n small = by (nat_lt n 16) refl (digits_in k (n / 16) (let power : 16 ^ suc (suc k) ≡ 16 * 16 ^ suc k = grind arith in omega arith))
  where
    by : (t : Bool) → nat_lt n 16 ≡ t → AreHexDigits (n / 16) (hex_in k (n / 16)) → AreHexDigits n (hex_in (suc k) n)
    by true is rest = rw is (one_digit n (grind (arith, nat_tests)))
    by false is rest = rw is (one_more n (hex_in k (n / 16)) rest)

pub are_digits_hexadecimal : (n : ℕ) → n < 2 ^ 16 → AreHexDigits n (hexadecimal n)
unfolding hexadecimal
are_digits_hexadecimal n small = digits_in 3 n (omega arith)

length-hex_in : (k n : ℕ) → length (hex_in k n) ≤ k + 1
length-hex_in zero n = omega arith
length-hex_in (suc k) n = by (nat_lt n 16) refl (length-hex_in k (n / 16))
  where
    by : (t : Bool) → nat_lt n 16 ≡ t → length (hex_in k (n / 16)) ≤ k + 1 → length (hex_in (suc k) n) ≤ suc k + 1
    by true is rest = rw is (omega arith)
    by false is rest = rw is (omega (arith, rest, length-append (hex_in k (n / 16)) (digit_char (n % 16) ∷ [])))

pub length-hexadecimal : (n : ℕ) → length (hexadecimal n) ≤ 4
unfolding hexadecimal
length-hexadecimal n = length-hex_in 3 n
