-- IPv4 addresses as text, and what is read of it.
use Rattle.std.proofs.Common.{◌≡◌, ℕ, ◌+◌, ◌*◌, ◌/◌, ◌%◌, ◌^◌, ◌<◌, ◌≤◌, Bool, true, false, List, [], ◌∷◌, ◌++◌, length, refl, ◌∙◌, sym, ap, arith, length-append}
use Rattle.std.specs.Prelude.{◌||◌, nat_lt, Result, Ok, Err}
use Rattle.std.specs.List.{list_all, list_any, slice_split, join_with_byte, All}
use Rattle.std.specs.Char.{is_ascii_digit}
use Rattle.std.proofs.lemmas.Bool.Decides.{nat_tests}
use Rattle.std.proofs.lemmas.List.Splits.{length-slice_split, slice_split_at, slice_split_none, join_with_byte-slice_split}
use Rattle.std.proofs.lemmas.List.Elements.{All-nil, All-cons, All-append}
use Rattle.std.proofs.lemmas.List.Folds.{list_any-append}
use Rattle.list_core.specs.Each.{◌>>=◌}
use Rattle.text_core.specs.Decimal.{decimal, value_of, has_leading_zero}
use Rattle.addr_core.specs.Dotted.{dotted_of, dotted_text, four_of, is_dot, is_empty, octet_of}
use Rattle.addr_core.specs.declared.reading.AddrFault.{AddrFault}
use Rattle.addr_core.specs.declared.reading.AddrFault.TheVariants.{BadGroups}
use Rattle.text_core.proofs.DecimalLemmas.{are_digits_decimal, has_leading_zero-decimal, decimal-value_of}

-- ---- each byte

-- what holds of each digit holds of each byte of a number
pub decimal_all : (P : ℕ → Type 0) → ((b : ℕ) → 48 ≤ b → b < 58 → P b) → (n : ℕ) → All P (decimal n)
decimal_all P digit n = by (decimal n) (are_digits_decimal n).digits
  where
    by : (text : List ℕ) → list_all is_ascii_digit text ≡ true → All P text
    by [] all = All-nil P
    by (b ∷ text) all = each (is_ascii_digit b) refl (λ rest. by text rest)
      where
        each : (t : Bool) → is_ascii_digit b ≡ t → (list_all is_ascii_digit text ≡ true → All P text) → All P (b ∷ text)
        each true is more = All-cons P b text (digit b (grind (arith, nat_tests)) (grind (arith, nat_tests))) (more (rw is at all))
        each false is more = let wrong = rw is at all in absurd cc

-- what holds of each digit and of the dot holds of each byte of an address
pub dotted_text_all : (P : ℕ → Type 0) → ((b : ℕ) → 48 ≤ b → b < 58 → P b) → P 46 → (n : ℕ) → All P (dotted_text n)
dotted_text_all P digit dot n =
    onto (n / 2 ^ 24) (decimal (n / 2 ^ 16 % 2 ^ 8) ++ 46 ∷ (decimal (n / 2 ^ 8 % 2 ^ 8) ++ 46 ∷ decimal (n % 2 ^ 8)))
    (onto (n / 2 ^ 16 % 2 ^ 8) (decimal (n / 2 ^ 8 % 2 ^ 8) ++ 46 ∷ decimal (n % 2 ^ 8))
    (onto (n / 2 ^ 8 % 2 ^ 8) (decimal (n % 2 ^ 8)) (decimal_all P digit (n % 2 ^ 8))))
  where
    onto : (m : ℕ) (rest : List ℕ) → All P rest → All P (decimal m ++ 46 ∷ rest)
    onto m rest each = All-append P (decimal m) (46 ∷ rest) (decimal_all P digit m) (All-cons P 46 rest dot each)

no_dot : (n : ℕ) → All (λ b. is_dot b ≡ false) (decimal n)
no_dot n = decimal_all (λ b. is_dot b ≡ false) (λ b low high. grind (arith, nat_tests)) n

-- ---- octets

octet_of-decimal : (n : ℕ) → n < 256 → octet_of (decimal n) ≡ Ok n
octet_of-decimal n small =
    let fits : nat_lt 255 n ≡ false = grind (arith, nat_tests) in
    rw ((are_digits_decimal n).digits, has_leading_zero-decimal n, (are_digits_decimal n).value, fits) refl

-- a part that is read is the number in decimal
octet_is : (part : List ℕ) (n : ℕ) → is_empty part ≡ false → octet_of part ≡ Ok n → (part ≡ decimal n) × (n < 256)
octet_is part n some is = by (list_all is_ascii_digit part) (has_leading_zero part) (nat_lt 255 (value_of part)) refl refl refl
  where
    by : (all zero_first large : Bool) → list_all is_ascii_digit part ≡ all → has_leading_zero part ≡ zero_first → nat_lt 255 (value_of part) ≡ large → (part ≡ decimal n) × (n < 256)
    by false z l a b c = let wrong = rw a at is in absurd cc
    by true true l a b c = let wrong = rw (a, b) at is in absurd cc
    by true false true a b c = let wrong = rw (a, b, c) at is in absurd cc
    by true false false a b c =
        let same = rw (a, b, c) at is in
        let value : value_of part ≡ n = cc in
        let above : 0 < length part = grind (arith, nat_tests) in
        let small : value_of part < 256 = grind (arith, nat_tests) in
        (sym (decimal-value_of part above a b) ∙ ap (λ m. decimal m) value, omega (arith, value, small))

-- ---- addresses

-- one answer has one value
number_is : (a b : ℕ) → ◌≡◌ {A = Result ℕ AddrFault} (Ok a) (Ok b) → a ≡ b
number_is a b is = cc

-- what a step of reading gave
pub bind_is : {A B F : Type 0} (r : Result A F) (f : A → Result B F) (b : B) → (r >>= f) ≡ Ok b → (a : A) × (r ≡ Ok a) × (f a ≡ Ok b)
bind_is (Ok a) f b is = (a, refl, is)
bind_is (Err e) f b is = absurd cc

octets-number : (w x y z : ℕ) → w < 256 → x < 256 → y < 256 → z < 256 →
    let n = ((w * 2 ^ 8 + x) * 2 ^ 8 + y) * 2 ^ 8 + z in (n / 2 ^ 24 ≡ w) × (n / 2 ^ 16 % 2 ^ 8 ≡ x) × (n / 2 ^ 8 % 2 ^ 8 ≡ y) × (n % 2 ^ 8 ≡ z)
octets-number w x y z a b c d = (omega arith, omega arith, omega arith, omega arith)

number-octets : (n : ℕ) → n < 2 ^ 32 → (((n / 2 ^ 24) * 2 ^ 8 + (n / 2 ^ 16 % 2 ^ 8)) * 2 ^ 8 + (n / 2 ^ 8 % 2 ^ 8)) * 2 ^ 8 + n % 2 ^ 8 ≡ n
number-octets n small = omega arith

-- the parts of the text of an address
split-text : (n : ℕ) → slice_split is_dot (dotted_text n) ≡ decimal (n / 2 ^ 24) ∷ decimal (n / 2 ^ 16 % 2 ^ 8) ∷ decimal (n / 2 ^ 8 % 2 ^ 8) ∷ decimal (n % 2 ^ 8) ∷ []
split-text n =
    slice_split_at is_dot (decimal (n / 2 ^ 24)) 46 (decimal (n / 2 ^ 16 % 2 ^ 8) ++ 46 ∷ (decimal (n / 2 ^ 8 % 2 ^ 8) ++ 46 ∷ decimal (n % 2 ^ 8))) (no_dot (n / 2 ^ 24)) refl
    ∙ ap (λ rest. decimal (n / 2 ^ 24) ∷ rest) (slice_split_at is_dot (decimal (n / 2 ^ 16 % 2 ^ 8)) 46 (decimal (n / 2 ^ 8 % 2 ^ 8) ++ 46 ∷ decimal (n % 2 ^ 8)) (no_dot (n / 2 ^ 16 % 2 ^ 8)) refl)
    ∙ ap (λ rest. decimal (n / 2 ^ 24) ∷ decimal (n / 2 ^ 16 % 2 ^ 8) ∷ rest) (slice_split_at is_dot (decimal (n / 2 ^ 8 % 2 ^ 8)) 46 (decimal (n % 2 ^ 8)) (no_dot (n / 2 ^ 8 % 2 ^ 8)) refl)
    ∙ ap (λ rest. decimal (n / 2 ^ 24) ∷ decimal (n / 2 ^ 16 % 2 ^ 8) ∷ decimal (n / 2 ^ 8 % 2 ^ 8) ∷ rest) (slice_split_none is_dot (decimal (n % 2 ^ 8)) (no_dot (n % 2 ^ 8)))

some_decimal : (n : ℕ) → is_empty (decimal n) ≡ false
some_decimal n = let some : 0 < length (decimal n) = (are_digits_decimal n).some in grind (arith, nat_tests)

pub some_dotted : (n : ℕ) → 0 < length (dotted_text n)
some_dotted n =
    let some : 0 < length (decimal (n / 2 ^ 24)) = (are_digits_decimal (n / 2 ^ 24)).some in
    let both = length-append (decimal (n / 2 ^ 24)) (46 ∷ (decimal (n / 2 ^ 16 % 2 ^ 8) ++ 46 ∷ (decimal (n / 2 ^ 8 % 2 ^ 8) ++ 46 ∷ decimal (n % 2 ^ 8)))) in
    omega (arith, some, both)

-- what is written is read again
pub dotted_of-dotted_text : (n : ℕ) → n < 2 ^ 32 → dotted_of (slice_split is_dot (dotted_text n)) ≡ Ok n
dotted_of-dotted_text n small =
    rw (
      split-text n,
      some_decimal (n / 2 ^ 24),
      some_decimal (n / 2 ^ 16 % 2 ^ 8),
      some_decimal (n / 2 ^ 8 % 2 ^ 8),
      some_decimal (n % 2 ^ 8),
      octet_of-decimal (n / 2 ^ 24) (omega arith),
      octet_of-decimal (n / 2 ^ 16 % 2 ^ 8) (omega arith),
      octet_of-decimal (n / 2 ^ 8 % 2 ^ 8) (omega arith),
      octet_of-decimal (n % 2 ^ 8) (omega arith),
    )
    (ap (λ number. Ok number) (number-octets n small))

joined-octets : (p q r s : List ℕ) (w x y z : ℕ) (n : ℕ) → p ≡ decimal w → q ≡ decimal x → r ≡ decimal y → s ≡ decimal z → w < 256 → x < 256 → y < 256 → z < 256 → (((w * 2 ^ 8 + x) * 2 ^ 8 + y) * 2 ^ 8 + z) ≡ n
    → join_with_byte 46 (p ∷ q ∷ r ∷ s ∷ []) ≡ dotted_text n
joined-octets p q r s w x y z n a b c d e f g h same = let back = octets-number w x y z e f g h in rw (a, b, c, d, ← same, back.0, back.1, back.2, back.3) refl

-- four parts that are read are the octets of the address
four_is : (p q r s : List ℕ) (n : ℕ) → is_empty p ≡ false → is_empty q ≡ false → is_empty r ≡ false → is_empty s ≡ false → four_of p q r s ≡ Ok n
    → (join_with_byte 46 (p ∷ q ∷ r ∷ s ∷ []) ≡ dotted_text n) × (n < 2 ^ 32)
four_is p q r s n some_p some_q some_r some_s is =
    let one = bind_is (octet_of p) (λ a. octet_of q >>= λ b. octet_of r >>= λ c. octet_of s >>= λ d. Ok ((((a * 2 ^ 8 + b) * 2 ^ 8 + c) * 2 ^ 8 + d))) n is in
    let two = bind_is (octet_of q) (λ b. octet_of r >>= λ c. octet_of s >>= λ d. Ok ((((one.0 * 2 ^ 8 + b) * 2 ^ 8 + c) * 2 ^ 8 + d))) n one.2 in
    let three = bind_is (octet_of r) (λ c. octet_of s >>= λ d. Ok ((((one.0 * 2 ^ 8 + two.0) * 2 ^ 8 + c) * 2 ^ 8 + d))) n two.2 in
    let last = bind_is (octet_of s) (λ d. Ok ((((one.0 * 2 ^ 8 + two.0) * 2 ^ 8 + three.0) * 2 ^ 8 + d))) n three.2 in
    let a = octet_is p one.0 some_p one.1 in
    let b = octet_is q two.0 some_q two.1 in
    let c = octet_is r three.0 some_r three.1 in
    let d = octet_is s last.0 some_s last.1 in
    let same = number_is ((((one.0 * 2 ^ 8 + two.0) * 2 ^ 8 + three.0) * 2 ^ 8 + last.0)) n last.2 in
    (joined-octets p q r s one.0 two.0 three.0 last.0 n a.0 b.0 c.0 d.0 a.1 b.1 c.1 d.1 same, omega (arith, same, a.1, b.1, c.1, d.1))

all_false : (a b c d : Bool) → (a || b || c || d) ≡ false → (a ≡ false) × (b ≡ false) × (c ≡ false) × (d ≡ false)
all_false false false false false is = (refl, refl, refl, refl)
all_false false false false true is = absurd cc
all_false false false true d is = absurd cc
all_false false true c d is = absurd cc
all_false true b c d is = absurd cc

dotted_is : (text : List ℕ) (parts : List (List ℕ)) (n : ℕ) → join_with_byte 46 parts ≡ text → dotted_of parts ≡ Ok n → (text ≡ dotted_text n) × (n < 2 ^ 32)
dotted_is text [] n joined is = absurd cc
dotted_is text (p ∷ []) n joined is = absurd cc
dotted_is text (p ∷ q ∷ []) n joined is = absurd cc
dotted_is text (p ∷ q ∷ r ∷ []) n joined is = absurd cc
dotted_is text (p ∷ q ∷ r ∷ s ∷ []) n joined is = by (is_empty p || is_empty q || is_empty r || is_empty s) refl
  where
    by : (t : Bool) → (is_empty p || is_empty q || is_empty r || is_empty s) ≡ t → (text ≡ dotted_text n) × (n < 2 ^ 32)
    by true test = let wrong = rw test at is in absurd cc
    by false test =
        let some = all_false (is_empty p) (is_empty q) (is_empty r) (is_empty s) test in
        let four = four_is p q r s n some.0 some.1 some.2 some.3 (rw test at is) in
        (sym joined ∙ four.0, four.1)
dotted_is text (p ∷ q ∷ r ∷ s ∷ t ∷ more) n joined is = absurd cc

-- what is read of a text is written as that text
pub dotted_text-dotted_of : (text : List ℕ) (n : ℕ) → dotted_of (slice_split is_dot text) ≡ Ok n → (text ≡ dotted_text n) × (n < 2 ^ 32)
dotted_text-dotted_of text n is = dotted_is text (slice_split is_dot text) n (join_with_byte-slice_split 46 text) is

-- there is a dot in it
pub has_dot_text : (n : ℕ) → list_any is_dot (dotted_text n) ≡ true
has_dot_text n = list_any-append is_dot (decimal (n / 2 ^ 24)) (46 ∷ (decimal (n / 2 ^ 16 % 2 ^ 8) ++ 46 ∷ (decimal (n / 2 ^ 8 % 2 ^ 8) ++ 46 ∷ decimal (n % 2 ^ 8)))) ∙ by (list_any is_dot (decimal (n / 2 ^ 24)))
  where
    by : (t : Bool) → (t || true) ≡ true
    by true = refl
    by false = refl

-- five parts or more
pub dotted_of-more : (a b c d x y : List ℕ) → slice_split is_dot d ≡ x ∷ slice_split is_dot y → dotted_of (a ∷ b ∷ c ∷ slice_split is_dot d) ≡ Err BadGroups
dotted_of-more a b c d x y is = by (slice_split is_dot y) refl
  where
    by : (rest : List (List ℕ)) → slice_split is_dot y ≡ rest → dotted_of (a ∷ b ∷ c ∷ slice_split is_dot d) ≡ Err BadGroups
    by [] some = absurd (let count = length-slice_split is_dot y in omega (arith, count, ap length some))
    by (z ∷ more) some = rw (is, some) refl
