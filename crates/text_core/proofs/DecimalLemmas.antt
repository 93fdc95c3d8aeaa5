-- Decimal numbers as text.
use Rattle.std.proofs.Common.{◌≡◌, ℕ, zero, suc, ◌+◌, ◌-◌, ◌*◌, ◌/◌, ◌%◌, ◌^◌, ◌<◌, ◌≤◌, Bool, true, false, List, [], ◌∷◌, ◌++◌, length, take, drop, get_or, Some, None, refl, ◌∙◌, sym, ap, arith, append_assoc, append-nil, length-append}
use Rattle.std.specs.Prelude.{not, ◌&&◌, if◌then◌else◌, nat_lt, nat_le}
use Rattle.std.specs.List.{fold, list_all}
use Rattle.std.specs.Char.{is_ascii_digit}
use Rattle.std.proofs.lemmas.Bool.Decides.{nat_tests}
use Rattle.std.proofs.lemmas.List.{take-append-drop}
use Rattle.std.proofs.lemmas.List.Folds.{list_all_at}
use Rattle.std.proofs.lemmas.List.Sums.{fold-append, fold_more}
use Rattle.text_core.specs.Decimal.{digits_in, decimal, value_of, has_leading_zero, is_decimal, up_to, decimal_of}

-- the digits do not depend on how many more there may be
digits_in-same : (j k n : ℕ) → n ≤ j → n ≤ k → digits_in j n ≡ digits_in k n
digits_in-same zero zero n a b = refl
digits_in-same zero (suc k) n a b = let small : nat_lt n 10 ≡ true = grind (arith, nat_tests) in rw small refl
digits_in-same (suc j) zero n a b = let small : nat_lt n 10 ≡ true = grind (arith, nat_tests) in rw small refl
digits_in-same (suc j) (suc k) n a b = by (nat_lt n 10) refl (λ large. digits_in-same j k (n / 10) (omega arith) (omega arith))
  where
    by : (t : Bool) → nat_lt n 10 ≡ t → (10 ≤ n → digits_in j (n / 10) ≡ digits_in k (n / 10)) → digits_in (suc j) n ≡ digits_in (suc k) n
    by true is rest = rw is refl
    by false is rest =
        let large : 10 ≤ n = grind (arith, nat_tests) in
        let same : digits_in j (n / 10) ≡ digits_in k (n / 10) = rest large in
        rw (is, same) refl

-- a number of one digit
pub decimal_small : (n : ℕ) → n < 10 → decimal n ≡ (48 + n) ∷ []
unfolding decimal
decimal_small zero small = refl
decimal_small (suc n) small = let test : nat_lt (suc n) 10 ≡ true = grind (arith, nat_tests) in rw test refl

-- the last digit, after the others
pub decimal_step : (n : ℕ) → 10 ≤ n → decimal n ≡ decimal (n / 10) ++ (48 + n % 10) ∷ []
unfolding decimal
decimal_step zero large = absurd (omega arith)
decimal_step (suc n) large =
    let test : nat_lt (suc n) 10 ≡ false = grind (arith, nat_tests) in
    let rest : digits_in n (suc n / 10) ≡ digits_in (suc n / 10) (suc n / 10) = digits_in-same n (suc n / 10) (suc n / 10) (omega arith) (omega arith) in
    rw (test, rest) refl

-- what holds of one digit, and of the digits with one more, holds of each number in decimal
pub decimal_by_steps : (P : ℕ → List ℕ → Type 0) → ((n : ℕ) → n < 10 → P n ((48 + n) ∷ [])) → ((n : ℕ) (digits : List ℕ) → 10 ≤ n → P (n / 10) digits → P n (digits ++ (48 + n % 10) ∷ [])) → (n : ℕ) → P n (decimal n)
unfolding decimal
decimal_by_steps P one more n = within n n (omega arith)
  where
    within : (k n : ℕ) → n ≤ k → P n (digits_in k n)
    within zero n le = one n (omega arith)
    within (suc k) n le = by (nat_lt n 10) refl (λ large. within k (n / 10) (omega arith))
      where
        by : (t : Bool) → nat_lt n 10 ≡ t → (10 ≤ n → P (n / 10) (digits_in k (n / 10))) → P n (digits_in (suc k) n)
        by true is rest = let small : n < 10 = grind (arith, nat_tests) in rw is (one n small)
        by false is rest = let large : 10 ≤ n = grind (arith, nat_tests) in rw is (more n (digits_in k (n / 10)) large (rest large))

-- what is true of the digits of a number
pub record AreDigits (n : ℕ) (text : List ℕ) : Type 0 where
  pub value : value_of text ≡ n
  pub digits : list_all is_ascii_digit text ≡ true
  pub some : 0 < length text
  pub first : 0 < n → 48 < get_or text 0 0
  pub short : (k : ℕ) → 0 < k → n < 10 ^ k → length text ≤ k

is_digit_small : (d : ℕ) → d < 10 → is_ascii_digit (48 + d) ≡ true
is_digit_small d small = grind (arith, nat_tests)

list_all-append : (p : ℕ → Bool) (xs ys : List ℕ) → list_all p xs ≡ true → list_all p ys ≡ true → list_all p (xs ++ ys) ≡ true
list_all-append p [] ys a b = b
list_all-append p (x ∷ xs) ys a b = by (p x) refl (λ both. list_all-append p xs ys both b)
  where
    by : (t : Bool) → p x ≡ t → (list_all p xs ≡ true → list_all p (xs ++ ys) ≡ true) → list_all p (x ∷ xs ++ ys) ≡ true
    by true is rest = rw is (rest (rw is at a))
    by false is rest = absurd (let wrong : false ≡ true = rw is at a in cc)

first-append : (xs ys : List ℕ) → 0 < length xs → get_or (xs ++ ys) 0 0 ≡ get_or xs 0 0
first-append [] ys some = absurd (omega arith)
first-append (x ∷ xs) ys some = refl

one_digit : (n : ℕ) → n < 10 → AreDigits n ((48 + n) ∷ [])
one_digit n small = record {
  value = omega arith;
  digits = rw (is_digit_small n small) refl;
  some = omega arith;
  first = λ above. omega arith;
  short = λ k above fits. omega arith;
}

shorter : (n k m : ℕ) → 10 ≤ n → n < 10 ^ k → ((j : ℕ) → 0 < j → n / 10 < 10 ^ j → m ≤ j) → m + 1 ≤ k
shorter n zero m large fits rest = absurd (omega arith)
shorter n (suc zero) m large fits rest = absurd (omega arith)
shorter n (suc (suc k)) m large fits rest =
    let power : 10 ^ suc (suc k) ≡ 10 * 10 ^ suc k = grind arith in
    let le : m ≤ suc k = rest (suc k) (omega arith) (omega arith) in
    omega arith

one_more : (n : ℕ) (digits : List ℕ) → 10 ≤ n → AreDigits (n / 10) digits → AreDigits n (digits ++ (48 + n % 10) ∷ [])
one_more n digits large was = record {
  value = fold-append (λ value byte. value * 10 + (byte - 48)) 0 digits ((48 + n % 10) ∷ []) ∙ rw was.value (omega arith);
  digits = list_all-append is_ascii_digit digits ((48 + n % 10) ∷ []) was.digits (rw (is_digit_small (n % 10) (omega arith)) refl);
  some = omega (arith, length-append digits ((48 + n % 10) ∷ []));
  first = λ above. rw (first-append digits ((48 + n % 10) ∷ []) was.some) (was.first (omega arith));
  short = λ k above fits. omega (arith, length-append digits ((48 + n % 10) ∷ []), shorter n k (length digits) large fits was.short);
}

pub are_digits_decimal : (n : ℕ) → AreDigits n (decimal n)
are_digits_decimal n = decimal_by_steps AreDigits one_digit one_more n

pub length-decimal-le : (k n : ℕ) → 0 < k → n < 10 ^ k → length (decimal n) ≤ k
length-decimal-le k n some fits = (are_digits_decimal n).short k some fits

-- a number in decimal has no leading zero
pub has_leading_zero-decimal : (n : ℕ) → has_leading_zero (decimal n) ≡ false
has_leading_zero-decimal zero = let le : length (decimal 0) ≤ 1 = length-decimal-le 1 0 (omega arith) (omega arith) in grind (arith, nat_tests)
has_leading_zero-decimal (suc n) = let above : 48 < get_or (decimal (suc n)) 0 0 = (are_digits_decimal (suc n)).first (omega arith) in grind (arith, nat_tests)

pub is_decimal-decimal : (n : ℕ) → is_decimal (decimal n) ≡ true
is_decimal-decimal n =
    let some : nat_lt 0 (length (decimal n)) ≡ true = let above : 0 < length (decimal n) = (are_digits_decimal n).some in grind (arith, nat_tests) in
    rw (some, (are_digits_decimal n).digits, has_leading_zero-decimal n) refl

-- what is written is read again
pub decimal_of-decimal : (n most : ℕ) → decimal_of (decimal n) most ≡ up_to most n
decimal_of-decimal n most = rw (is_decimal-decimal n, (are_digits_decimal n).value) refl

-- ---- texts as numbers

-- one more digit after a number
decimal_more : (a d : ℕ) → 0 < a → d < 10 → decimal (a * 10 + d) ≡ decimal a ++ (48 + d) ∷ []
decimal_more a d above small =
    let front : (a * 10 + d) / 10 ≡ a = omega arith in
    let last : (a * 10 + d) % 10 ≡ d = omega arith in
    decimal_step (a * 10 + d) (omega arith) ∙ rw (front, last) refl

digit_range : (b : ℕ) → is_ascii_digit b ≡ true → (48 ≤ b) × (b < 58)
digit_range b is = (grind (arith, nat_tests), grind (arith, nat_tests))

all_more : (b : ℕ) (rest : List ℕ) → list_all is_ascii_digit (b ∷ rest) ≡ true → (is_ascii_digit b ≡ true) × (list_all is_ascii_digit rest ≡ true)
all_more b rest all = by (is_ascii_digit b) refl
  where
    by : (t : Bool) → is_ascii_digit b ≡ t → (is_ascii_digit b ≡ true) × (list_all is_ascii_digit rest ≡ true)
    by true is = (is, rw is at all)
    by false is = absurd (let wrong : false ≡ true = rw is at all in cc)

-- more digits after a number
decimal_onto : (a : ℕ) (rest : List ℕ) → 0 < a → list_all is_ascii_digit rest ≡ true → decimal (fold (λ value byte. value * 10 + (byte - 48)) a rest) ≡ decimal a ++ rest
decimal_onto a [] above all = sym (append-nil (decimal a))
decimal_onto a (b ∷ rest) above all =
    let parts = all_more b rest all in
    let range = digit_range b parts.0 in
    let last : 48 + (b - 48) ≡ b = omega (arith, range.0) in
    let here : decimal (a * 10 + (b - 48)) ≡ decimal a ++ b ∷ [] = decimal_more a (b - 48) above (omega (arith, range.0, range.1)) ∙ ap (λ x. decimal a ++ x ∷ []) last in
    decimal_onto (a * 10 + (b - 48)) rest (omega arith) parts.1 ∙ ap (λ xs. xs ++ rest) here ∙ append_assoc (decimal a) (b ∷ []) rest

above_zero : (b d : ℕ) (rest : List ℕ) → 48 ≤ b → has_leading_zero (b ∷ d ∷ rest) ≡ false → 48 < b
above_zero b d rest low plain = grind (arith, nat_tests)

-- the number of a text in decimal is written as that text
pub decimal-value_of : (text : List ℕ) → 0 < length text → list_all is_ascii_digit text ≡ true → has_leading_zero text ≡ false → decimal (value_of text) ≡ text
decimal-value_of [] some all plain = absurd (omega arith)
decimal-value_of (b ∷ []) some all plain =
    let range = digit_range b (all_more b [] all).0 in
    let number : 0 * 10 + (b - 48) ≡ b - 48 = omega arith in
    let last : 48 + (b - 48) ≡ b = omega (arith, range.0) in
    ap (λ n. decimal n) number ∙ decimal_small (b - 48) (omega (arith, range.0, range.1)) ∙ ap (λ x. x ∷ []) last
decimal-value_of (b ∷ d ∷ rest) some all plain =
    let parts = all_more b (d ∷ rest) all in
    let range = digit_range b parts.0 in
    let above : 48 < b = above_zero b d rest range.0 plain in
    let number : 0 * 10 + (b - 48) ≡ b - 48 = omega arith in
    let last : 48 + (b - 48) ≡ b = omega (arith, range.0) in
    ap (λ n. decimal (fold (λ value byte. value * 10 + (byte - 48)) n (d ∷ rest))) number
    ∙ decimal_onto (b - 48) (d ∷ rest) (omega arith) parts.1
    ∙ ap (λ xs. xs ++ d ∷ rest) (decimal_small (b - 48) (omega (arith, range.0, range.1)) ∙ ap (λ x. x ∷ []) last)

-- what a text in decimal is
is_decimal_parts : (text : List ℕ) → is_decimal text ≡ true → (0 < length text) × (list_all is_ascii_digit text ≡ true) × (has_leading_zero text ≡ false)
is_decimal_parts text is = by (nat_lt 0 (length text)) (list_all is_ascii_digit text) (has_leading_zero text) refl refl refl is
  where
    by : (some all zero_first : Bool) → nat_lt 0 (length text) ≡ some → list_all is_ascii_digit text ≡ all → has_leading_zero text ≡ zero_first → (some && (all && not zero_first)) ≡ true
        → (0 < length text) × (list_all is_ascii_digit text ≡ true) × (has_leading_zero text ≡ false)
    by true true false a b c h = (grind (arith, nat_tests), b, c)
    by true true true a b c h = absurd cc
    by true false z a b c h = absurd cc
    by false all z a b c h = absurd cc

up_to_some : (most n : ℕ) → n ≤ most → up_to most n ≡ Some n
up_to_some most n le = let test : nat_le n most ≡ true = grind (arith, nat_tests) in rw test refl

pub up_to_is : (most n m : ℕ) → up_to most n ≡ Some m → (n ≡ m) × (m ≤ most)
up_to_is most n m is = by (nat_le n most) refl
  where
    by : (t : Bool) → nat_le n most ≡ t → (n ≡ m) × (m ≤ most)
    by true test = let same : Some n ≡ Some m = rw test at is in let e : n ≡ m = cc in (e, let le : n ≤ most = grind (arith, nat_tests) in omega (arith, e, le))
    by false test = let wrong : None ≡ Some m = rw test at is in absurd cc

decimal_of_is : (text : List ℕ) (most n : ℕ) → decimal_of text most ≡ Some n → (is_decimal text ≡ true) × (up_to most (value_of text) ≡ Some n)
decimal_of_is text most n is = by (is_decimal text) refl
  where
    by : (t : Bool) → is_decimal text ≡ t → (is_decimal text ≡ true) × (up_to most (value_of text) ≡ Some n)
    by true test = (test, rw test at is)
    by false test = let wrong : None ≡ Some n = rw test at is in absurd cc

-- what is read of a text is written as that text
pub decimal-decimal_of : (text : List ℕ) (most n : ℕ) → decimal_of text most ≡ Some n → (text ≡ decimal n) × (n ≤ most)
decimal-decimal_of text most n is =
    let read = decimal_of_is text most n is in
    let parts = is_decimal_parts text read.0 in
    let value = up_to_is most (value_of text) n read.1 in
    (sym (decimal-value_of text parts.0 parts.1 parts.2) ∙ ap (λ m. decimal m) value.0, value.1)

pub decimal_of_written : (text : List ℕ) (most n : ℕ) → n ≤ most → text ≡ decimal n → decimal_of text most ≡ Some n
decimal_of_written text most n le is = ap (λ t. decimal_of t most) is ∙ decimal_of-decimal n most ∙ up_to_some most n le

-- a front of the digits has no greater number
value_of_more : (text : List ℕ) (i : ℕ) → i < length text → value_of (take (i + 1) text) ≡ value_of (take i text) * 10 + (get_or text i 0 - 48)
value_of_more text i lt = fold_more (λ value byte. value * 10 + (byte - 48)) 0 text i 0 lt

grows : (n : ℕ) (text : List ℕ) → n ≤ fold (λ value byte. value * 10 + (byte - 48)) n text
grows n [] = omega arith
grows n (b ∷ text) = let more = grows (n * 10 + (b - 48)) text in omega (arith, more)

value_of_front : (text : List ℕ) (i : ℕ) → value_of (take i text) ≤ value_of text
value_of_front text i =
    let whole : value_of text ≡ value_of (take i text ++ drop i text) = ap (λ xs. value_of xs) (sym (take-append-drop i text)) in
    let split = fold-append (λ value byte. value * 10 + (byte - 48)) 0 (take i text) (drop i text) in
    let more = grows (value_of (take i text)) (drop i text) in
    omega (arith, whole, split, more)

-- past the greatest number at some digit, past it at the end
pub past_at_digit : (text : List ℕ) (i n most : ℕ) → n ≡ value_of (take i text) → i < length text → up_to most (n * 10 + (get_or text i 0 - 48)) ≡ None → up_to most (value_of text) ≡ None
past_at_digit text i n most so_far lt past = by (nat_le (n * 10 + (get_or text i 0 - 48)) most) refl
  where
    by : (t : Bool) → nat_le (n * 10 + (get_or text i 0 - 48)) most ≡ t → up_to most (value_of text) ≡ None
    by true test = let wrong : Some (n * 10 + (get_or text i 0 - 48)) ≡ None = rw test at past in absurd cc
    by false test =
        let here : most < n * 10 + (get_or text i 0 - 48) = grind (arith, nat_tests) in
        let more = value_of_more text i lt in
        let front = value_of_front text (i + 1) in
        let large : most < value_of text = omega (arith, so_far, more, front, here) in
        let whole : nat_le (value_of text) most ≡ false = grind (arith, nat_tests) in
        rw whole refl

-- no digit, or past the greatest number at some digit: there is no number
pub stops_at_byte : (text : List ℕ) (i n most : ℕ) → n ≡ value_of (take i text) → i < length text
    → (if is_ascii_digit (get_or text i 0) then up_to most (n * 10 + (get_or text i 0 - 48)) else None) ≡ None
    → (if list_all is_ascii_digit text then up_to most (value_of text) else None) ≡ None
stops_at_byte text i n most so_far lt stops = by (is_ascii_digit (get_or text i 0)) (list_all is_ascii_digit text) refl refl
  where
    by : (digit all : Bool) → is_ascii_digit (get_or text i 0) ≡ digit → list_all is_ascii_digit text ≡ all
        → (if list_all is_ascii_digit text then up_to most (value_of text) else None) ≡ None
    by digit false is none = rw none refl
    by true true is all = rw all (past_at_digit text i n most so_far lt (rw is at stops))
    by false true is all = let other = list_all_at is_ascii_digit text i 0 lt is in absurd cc

-- one digit more
pub length-decimal_step : (n : ℕ) → 10 ≤ n → length (decimal n) ≡ length (decimal (n / 10)) + 1
length-decimal_step n large = ap length (decimal_step n large) ∙ length-append (decimal (n / 10)) ((48 + n % 10) ∷ [])

-- ---- two digits at a time

pub decimal_pair : (n : ℕ) → 10 ≤ n → n < 100 → decimal n ≡ (48 + n / 10) ∷ (48 + n % 10) ∷ []
decimal_pair n low high =
    decimal_step n low ∙ ap (λ xs. xs ++ (48 + n % 10) ∷ []) (decimal_small (n / 10) (omega arith))

-- the digits before the last two, and those
pub decimal_pairs : (n : ℕ) → 100 ≤ n → decimal n ≡ decimal (n / 100) ++ (48 + n % 100 / 10) ∷ (48 + n % 100 % 10) ∷ []
decimal_pairs n low =
    let rest : n / 10 / 10 ≡ n / 100 = omega arith in
    let tens : n / 10 % 10 ≡ n % 100 / 10 = omega arith in
    let ones : n % 10 ≡ n % 100 % 10 = omega arith in
    decimal_step n (omega arith) ∙ ap (λ xs. xs ++ (48 + n % 10) ∷ []) (decimal_step (n / 10) (omega arith))
    ∙ append_assoc (decimal (n / 10 / 10)) ((48 + n / 10 % 10) ∷ []) ((48 + n % 10) ∷ [])
    ∙ rw (rest, tens, ones) refl

-- two digits more
pub length-decimal_pairs : (n : ℕ) → 100 ≤ n → length (decimal n) ≡ length (decimal (n / 100)) + 2
length-decimal_pairs n low =
    ap length (decimal_pairs n low) ∙ length-append (decimal (n / 100)) ((48 + n % 100 / 10) ∷ (48 + n % 100 % 10) ∷ [])

-- the last two of the digits that are missing, in front of those that are there
pub written_on : (n : ℕ) (there there_new all : List ℕ) → 100 ≤ n → there_new ≡ (48 + n % 100 / 10) ∷ (48 + n % 100 % 10) ∷ there → decimal n ++ there ≡ all
    → decimal (n / 100) ++ there_new ≡ all
written_on n there there_new all low new is =
    let pair = (48 + n % 100 / 10) ∷ (48 + n % 100 % 10) ∷ [] in
    ap (λ xs. decimal (n / 100) ++ xs) new ∙ sym (append_assoc (decimal (n / 100)) pair there)
    ∙ ap (λ xs. xs ++ there) (sym (decimal_pairs n low)) ∙ is

-- the last two digits after the others, which are after a text
pub pair_after : (text : List ℕ) (n : ℕ) → 100 ≤ n → (text ++ decimal (n / 100)) ++ (48 + n % 100 / 10) ∷ (48 + n % 100 % 10) ∷ [] ≡ text ++ decimal n
pair_after text n low =
    append_assoc text (decimal (n / 100)) ((48 + n % 100 / 10) ∷ (48 + n % 100 % 10) ∷ []) ∙ ap (λ xs. text ++ xs) (sym (decimal_pairs n low))
