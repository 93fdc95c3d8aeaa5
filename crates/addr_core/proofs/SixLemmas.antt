-- IPv6 addresses: each text of one is read as it.
use Rattle.std.proofs.Common.{append-nil, ◌≡◌, ℕ, suc, ◌+◌, ◌-◌, ◌/◌, ◌%◌, ◌^◌, ◌<◌, ◌≤◌, Bool, true, false, List, [], ◌∷◌, ◌++◌, length, get_or, replicate, Some, None, refl, ◌∙◌, sym, ap, subst, arith, inl, inr}
use Rattle.std.specs.Prelude.{◌&&◌, ◌||◌, ◌==◌, nat_lt, Ok}
use Rattle.std.specs.List.{list_all, list_any, join_with_byte, All, AllByRecursion}
use Rattle.std.specs.Char.{is_ascii_hexdigit}
use Rattle.std.proofs.lemmas.Bool.Decides.{nat_tests}
use Rattle.std.proofs.lemmas.List.Folds.{list_any_none, list_any-append}
use Rattle.std.proofs.lemmas.List.Elements.{All-nil, All-cons, All-append, All-head, All-weaker, recursion_from_All}
use Rattle.text_core.specs.Cut.{cut}
use Rattle.addr_core.specs.Dotted.{dotted_text, is_colon, is_dot, is_empty}
use Rattle.addr_core.specs.Six.{group_count, groups_in, has_dot, hex_value, is_group, is_six_byte, number_of, six_of, word_groups, words_of, AreGroups, IsSixText}
use Rattle.addr_core.proofs.DottedLemmas.{dotted_of-dotted_text, has_dot_text, dotted_text_all, some_dotted}
use Rattle.addr_core.proofs.SixSteps.{six_parts}
use Rattle.text_core.proofs.CutLemmas.{cut_pair-single, cut_pair-step, split-join}

-- ---- words

-- what is true of a word between colons
pub record IsWord (word : List ℕ) : Type 0 where
  pub some : 0 < length word
  pub plain : All (λ b. (b == 58) ≡ false) word
  pub bytes : All (λ b. is_six_byte b ≡ true) word

pub all_from : (p : ℕ → Bool) (xs : List ℕ) → list_all p xs ≡ true → All (λ b. p b ≡ true) xs
all_from p [] all = All-nil (λ b. p b ≡ true)
all_from p (x ∷ xs) all = by (p x) refl (λ rest. all_from p xs rest)
  where
    by : (t : Bool) → p x ≡ t → (list_all p xs ≡ true → All (λ b. p b ≡ true) xs) → All (λ b. p b ≡ true) (x ∷ xs)
    by true is rest = All-cons (λ b. p b ≡ true) x xs is (rest (rw is at all))
    by false is rest = let wrong = rw is at all in absurd cc

record HasGroupParts (word : List ℕ) : Type 0 where
  some : is_empty word ≡ false
  short : nat_lt (length word) 5 ≡ true
  digits : list_all is_ascii_hexdigit word ≡ true

group_parts : (word : List ℕ) → is_group word ≡ true → HasGroupParts word
group_parts word is = by (is_empty word) (nat_lt (length word) 5) (list_all is_ascii_hexdigit word) refl refl refl
  where
    by : (r s t : Bool) → is_empty word ≡ r → nat_lt (length word) 5 ≡ s → list_all is_ascii_hexdigit word ≡ t → HasGroupParts word
    by false true true a b c = record { some = a; short = b; digits = c }
    by false true false a b c = let wrong = rw (a, b, c) at is in absurd cc
    by false false t a b c = let wrong = rw (a, b) at is in absurd cc
    by true s t a b c = let wrong = rw a at is in absurd cc

hex_plain : (b : ℕ) → is_ascii_hexdigit b ≡ true → (b == 58) ≡ false
hex_plain b is = grind (arith, nat_tests)

hex_dotless : (b : ℕ) → is_ascii_hexdigit b ≡ true → is_dot b ≡ false
hex_dotless b is = grind (arith, nat_tests)

hex_six : (b : ℕ) → is_ascii_hexdigit b ≡ true → is_six_byte b ≡ true
hex_six b is = rw is refl

-- a group is a word, without a dot, and read as its number
record IsReadGroup (word : List ℕ) : Type 0 where
  good : IsWord word
  dotless : has_dot word ≡ false
  read : word_groups word ≡ Ok (hex_value word ∷ [])

read_group : (word : List ℕ) → is_group word ≡ true → IsReadGroup word
read_group word is =
    let parts = group_parts word is in
    let digits = all_from is_ascii_hexdigit word parts.digits in
    let dotless : has_dot word ≡ false = list_any_none is_dot word (All-weaker (λ b. is_ascii_hexdigit b ≡ true) (λ b. is_dot b ≡ false) hex_dotless word digits) in
    let small : nat_lt 4 (length word) ≡ false = let low : nat_lt (length word) 5 ≡ true = parts.short in grind (arith, nat_tests) in
    record {
      good = record {
        some = let above : is_empty word ≡ false = parts.some in grind (arith, nat_tests);
        plain = All-weaker (λ b. is_ascii_hexdigit b ≡ true) (λ b. (b == 58) ≡ false) hex_plain word digits;
        bytes = All-weaker (λ b. is_ascii_hexdigit b ≡ true) (λ b. is_six_byte b ≡ true) hex_six word digits;
      };
      dotless = dotless;
      read = rw (dotless, small) refl;
    }

some_is : (word : List ℕ) → 0 < length word → is_empty word ≡ false
some_is word some = grind (arith, nat_tests)

-- ---- groups

-- what is true of words that stand for groups
pub record AreRead (dotted : Bool) (words : List (List ℕ)) (groups : List ℕ) : Type 0 where
  pub each : AllByRecursion IsWord words
  pub count : group_count dotted words ≡ Some (length groups)
  pub read : groups_in words ≡ Ok groups

none_read : (dotted : Bool) → AreRead dotted [] []
none_read dotted = record { each = tt; count = refl; read = refl }

group_read : (dotted : Bool) (word : List ℕ) (words : List (List ℕ)) (groups : List ℕ) → is_group word ≡ true → AreRead dotted words groups → AreRead dotted (word ∷ words) (hex_value word ∷ groups)
group_read dotted word [] [] is rest =
    let one = read_group word is in
    record {
      each = (one.good, tt);
      count = rw (some_is word one.good.some, one.dotless) refl;
      read = rw one.read refl;
    }
group_read dotted word [] (group ∷ groups) is rest =
    let none : Some 0 ≡ Some (length (group ∷ groups)) = rest.count in
    let empty : 0 ≡ length (group ∷ groups) = cc in
    absurd (omega (arith, empty))
group_read dotted word (next ∷ words) groups is rest =
    let one = read_group word is in
    record {
      each = (one.good, rest.each);
      count = rw (some_is word one.good.some, one.dotless, rest.count) (ap (λ n. Some n) (let more : length groups + 1 ≡ suc (length groups) = omega arith in more));
      read = rw (one.read, rest.read) refl;
    }

digit_six : (b : ℕ) → 48 ≤ b → b < 58 → is_six_byte b ≡ true
digit_six b low high = grind (arith, nat_tests)

any_all : (p : ℕ → Bool) (xs : List ℕ) (b : ℕ) (ys : List ℕ) → p b ≡ true → list_any p (xs ++ b ∷ ys) ≡ true
any_all p xs b ys is = list_any-append p xs (b ∷ ys) ∙ rw is (by (list_any p xs))
  where
    by : (t : Bool) → (t || true) ≡ true
    by true = refl
    by false = refl

tail_read : (n : ℕ) → n < 2 ^ 32 → AreRead true (dotted_text n ∷ []) ((n / 2 ^ 16) ∷ (n % 2 ^ 16) ∷ [])
tail_read n small =
    let dot : has_dot (dotted_text n) ≡ true = has_dot_text n in
    record {
      each = (
        record {
          some = some_dotted n;
          plain = dotted_text_all (λ b. (b == 58) ≡ false) (λ b low high. grind (arith, nat_tests)) refl n;
          bytes = dotted_text_all (λ b. is_six_byte b ≡ true) digit_six refl n;
        },
        tt,
      );
      count = rw (some_is (dotted_text n) (some_dotted n), dot) refl;
      read = rw (dot, dotted_of-dotted_text n small) refl;
    }

pub are_read : (dotted : Bool) (words : List (List ℕ)) (groups : List ℕ) → AreGroups dotted words groups → AreRead dotted words groups
are_read dotted [] groups is = subst (λ (gs : List ℕ). AreRead dotted [] gs) (sym is) (none_read dotted)
are_read dotted (word ∷ words) groups (inl is) =
    let P : Bool → List (List ℕ) → Type 0 = λ t ws. AreRead t (word ∷ ws) groups in
    subst (λ (t : Bool). AreRead t (word ∷ words) groups) (sym is.0)
    (subst (λ (ws : List (List ℕ)). AreRead true (word ∷ ws) groups) (sym is.1)
    (subst (λ (w : List ℕ). AreRead true (w ∷ []) groups) (sym is.2.2)
    (subst (λ (gs : List ℕ). AreRead true (dotted_text is.2.0 ∷ []) gs) (sym is.2.3) (tail_read is.2.0 is.2.1))))
are_read dotted (word ∷ words) groups (inr is) =
    subst (λ (gs : List ℕ). AreRead dotted (word ∷ words) gs) (ap (λ g. g ∷ is.1) is.3.1 ∙ sym is.2) (group_read dotted word words is.1 is.3.0 (are_read dotted words is.1 is.4))

-- ---- joined words

join_all : (P : ℕ → Type 0) → P 58 → (words : List (List ℕ)) → AllByRecursion (All P) words → All P (join_with_byte 58 words)
join_all P colon [] each = All-nil P
join_all P colon (word ∷ []) each = each.0
join_all P colon (word ∷ next ∷ words) each = All-append P word (58 ∷ join_with_byte 58 (next ∷ words)) each.0 (All-cons P 58 (join_with_byte 58 (next ∷ words)) colon (join_all P colon (next ∷ words) each.1))

bytes_of : (words : List (List ℕ)) → AllByRecursion IsWord words → AllByRecursion (All (λ b. is_six_byte b ≡ true)) words
bytes_of [] each = tt
bytes_of (word ∷ words) each = (each.0.bytes, bytes_of words each.1)

plain_of : (words : List (List ℕ)) → AllByRecursion IsWord words → AllByRecursion (All (λ b. (b == 58) ≡ false)) words
plain_of [] each = tt
plain_of (word ∷ words) each = (each.0.plain, plain_of words each.1)

six_bytes : (words : List (List ℕ)) → AllByRecursion IsWord words → All (λ b. is_six_byte b ≡ true) (join_with_byte 58 words)
six_bytes words each = join_all (λ b. is_six_byte b ≡ true) refl words (bytes_of words each)

some_join : (word : List ℕ) (words : List (List ℕ)) → 0 < length word → 0 < length (join_with_byte 58 (word ∷ words))
some_join [] words some = absurd (omega arith)
some_join (b ∷ word) [] some = omega arith
some_join (b ∷ word) (next ∷ words) some = omega arith

words_of-join : (words : List (List ℕ)) → AllByRecursion IsWord words → words_of (join_with_byte 58 words) ≡ words
words_of-join [] each = refl
words_of-join (word ∷ words) each = rw (some_is (join_with_byte 58 (word ∷ words)) (some_join word words each.0.some)) (split-join 58 word words (plain_of (word ∷ words) each))

-- ---- two colons

-- no two colons side by side, and none at the end
abbrev IsTight : List ℕ → Type 0
IsTight [] = Unit {0}
IsTight (x ∷ []) = (x == 58) ≡ false
IsTight (x ∷ y ∷ text) = (((x == 58) && (y == 58)) ≡ false) × IsTight (y ∷ text)

tight_before : (b : ℕ) (text : List ℕ) → (b == 58) ≡ false → IsTight text → IsTight (b ∷ text)
tight_before b [] plain rest = plain
tight_before b (y ∷ text) plain rest = (rw plain refl, rest)

tight_word : (word text : List ℕ) → AllByRecursion (λ b. (b == 58) ≡ false) word → IsTight text → IsTight (word ++ text)
tight_word [] text plain rest = rest
tight_word (b ∷ word) text plain rest = tight_before b (word ++ text) plain.0 (tight_word word text plain.1 rest)

tight_colon : (text : List ℕ) → (get_or text 0 58 == 58) ≡ false → IsTight text → IsTight (58 ∷ text)
tight_colon [] first rest = absurd cc
tight_colon (y ∷ text) first rest = (rw first refl, rest)

first_join : (b : ℕ) (word : List ℕ) (words : List (List ℕ)) → get_or (join_with_byte 58 ((b ∷ word) ∷ words)) 0 58 ≡ b
first_join b word [] = refl
first_join b word (next ∷ words) = refl

first_plain : (word : List ℕ) (words : List (List ℕ)) → IsWord word → (get_or (join_with_byte 58 (word ∷ words)) 0 58 == 58) ≡ false
first_plain [] words is = absurd (let some : 0 < 0 = is.some in omega arith)
first_plain (b ∷ word) words is = rw (first_join b word words) (All-head (λ c. (c == 58) ≡ false) b word is.plain)

tight_join : (words : List (List ℕ)) → AllByRecursion IsWord words → IsTight (join_with_byte 58 words)
tight_join [] each = tt
tight_join (word ∷ []) each = subst (λ (t : List ℕ). IsTight t) (append-nil word) (tight_word word [] (recursion_from_All (λ b. (b == 58) ≡ false) word each.0.plain) tt)
tight_join (word ∷ next ∷ words) each =
    tight_word word (58 ∷ join_with_byte 58 (next ∷ words)) (recursion_from_All (λ b. (b == 58) ≡ false) word each.0.plain)
    (tight_colon (join_with_byte 58 (next ∷ words)) (first_plain next words each.1.0) (tight_join (next ∷ words) each.1))

cut-tight : (text : List ℕ) → IsTight text → cut (58 ∷ 58 ∷ []) text ≡ None
cut-tight [] tight = refl
cut-tight (x ∷ []) tight = cut_pair-single 58 58 x
cut-tight (x ∷ y ∷ text) tight = let rest : cut (58 ∷ 58 ∷ []) (y ∷ text) ≡ None = cut-tight (y ∷ text) tight.1 in cut_pair-step 58 58 x y text ∙ rw (tight.0, rest) refl

cut-front : (front back : List ℕ) → IsTight front → cut (58 ∷ 58 ∷ []) (front ++ 58 ∷ 58 ∷ back) ≡ Some (front, back)
cut-front [] back tight = cut_pair-step 58 58 58 58 back
cut-front (x ∷ []) back tight =
    cut_pair-step 58 58 x 58 (58 ∷ back) ∙ rw tight refl
cut-front (x ∷ y ∷ front) back tight =
    let rest : cut (58 ∷ 58 ∷ []) (y ∷ front ++ 58 ∷ 58 ∷ back) ≡ Some (y ∷ front, back) = cut-front (y ∷ front) back tight.1 in
    cut_pair-step 58 58 x y (front ++ 58 ∷ 58 ∷ back) ∙ rw (tight.0, rest) refl

-- ---- whole texts

list_all_from : (p : ℕ → Bool) (xs : List ℕ) → AllByRecursion (λ b. p b ≡ true) xs → list_all p xs ≡ true
list_all_from p [] all = refl
list_all_from p (x ∷ xs) all = let rest : list_all p xs ≡ true = list_all_from p xs all.1 in rw (all.0, rest) refl

all_six : (text : List ℕ) → All (λ b. is_six_byte b ≡ true) text → list_all is_six_byte text ≡ true
all_six text all = list_all_from is_six_byte text (recursion_from_All (λ b. is_six_byte b ≡ true) text all)

record IsSixRead (text : List ℕ) (n : ℕ) : Type 0 where
  bytes : All (λ b. is_six_byte b ≡ true) text
  colon : list_any is_colon text ≡ true
  read : six_of text ≡ Ok n

-- eight groups have more than one word
colon_in : (words : List (List ℕ)) (groups : List ℕ) → AreRead true words groups → length groups ≡ 8 → list_any is_colon (join_with_byte 58 words) ≡ true
colon_in [] groups is eight = let none : Some 0 ≡ Some (length groups) = is.count in let empty : 0 ≡ length groups = cc in absurd (omega (arith, eight, empty))
colon_in (word ∷ []) groups is eight = by (is_empty word) refl (has_dot word) refl
  where
    by : (s : Bool) → is_empty word ≡ s → (t : Bool) → has_dot word ≡ t → list_any is_colon word ≡ true
    by true a t b = let wrong = rw a at is.count in absurd cc
    by false a true b = let same = rw (a, b) at is.count in let two : 2 ≡ length groups = cc in absurd (omega (arith, eight, two))
    by false a false b = let same = rw (a, b) at is.count in let one : 1 ≡ length groups = cc in absurd (omega (arith, eight, one))
colon_in (word ∷ next ∷ words) groups is eight = any_all is_colon word 58 (join_with_byte 58 (next ∷ words)) refl

whole_is_read : (words : List (List ℕ)) (groups : List ℕ) → AreRead true words groups → length groups ≡ 8 → IsSixRead (join_with_byte 58 words) (number_of groups)
whole_is_read words groups is eight =
    let bytes = six_bytes words is.each in
    record {
      bytes = bytes;
      colon = colon_in words groups is eight;
      read =
          six_parts (join_with_byte 58 words) None (all_six (join_with_byte 58 words) bytes) (sym (cut-tight (join_with_byte 58 words) (tight_join words is.each)))
          ∙ rw (words_of-join words is.each, is.count, eight, is.read) refl;
    }

short_is_read : (front back : List (List ℕ)) (before after : List ℕ) → AreRead false front before → AreRead true back after → length before + length after < 8
    → IsSixRead (join_with_byte 58 front ++ 58 ∷ 58 ∷ join_with_byte 58 back) (number_of (before ++ replicate (8 - (length before + length after)) 0 ++ after))
short_is_read front back before after first last small =
    let text = join_with_byte 58 front ++ 58 ∷ 58 ∷ join_with_byte 58 back in
    let bytes : All (λ b. is_six_byte b ≡ true) text =
    All-append (λ b. is_six_byte b ≡ true) (join_with_byte 58 front) (58 ∷ 58 ∷ join_with_byte 58 back) (six_bytes front first.each)
    (All-cons (λ b. is_six_byte b ≡ true) 58 (58 ∷ join_with_byte 58 back) refl (All-cons (λ b. is_six_byte b ≡ true) 58 (join_with_byte 58 back) refl (six_bytes back last.each))) in
    let fits : nat_lt (length before + length after) 8 ≡ true = grind (arith, nat_tests) in
    record {
      bytes = bytes;
      colon = any_all is_colon (join_with_byte 58 front) 58 (58 ∷ join_with_byte 58 back) refl;
      read =
          six_parts text (Some (join_with_byte 58 front, join_with_byte 58 back)) (all_six text bytes) (sym (cut-front (join_with_byte 58 front) (join_with_byte 58 back) (tight_join front first.each)))
          ∙ rw (words_of-join front first.each, words_of-join back last.each, first.count, last.count, fits, first.read, last.read) refl;
    }

six_text_read : (text : List ℕ) (n : ℕ) → IsSixText text n → IsSixRead text n
six_text_read text n (inl is) =
    subst (λ (t : List ℕ). IsSixRead t n) (sym is.2) (subst (λ (m : ℕ). IsSixRead (join_with_byte 58 is.0) m) (sym is.5) (whole_is_read is.0 is.1 (are_read true is.0 is.1 is.3) is.4))
six_text_read text n (inr is) =
    subst (λ (t : List ℕ). IsSixRead t n) (sym is.4)
    (subst (λ (m : ℕ). IsSixRead (join_with_byte 58 is.0 ++ 58 ∷ 58 ∷ join_with_byte 58 is.1) m) (sym is.8)
    (short_is_read is.0 is.1 is.2 is.3 (are_read false is.0 is.2 is.5) (are_read true is.1 is.3 is.6) is.7))

some_colon : (text : List ℕ) → list_any is_colon text ≡ true → 0 < length text
some_colon [] is = absurd cc
some_colon (b ∷ text) is = omega arith

pub six_of_text : (text : List ℕ) (n : ℕ) → IsSixText text n → six_of text ≡ Ok n
six_of_text text n is = (six_text_read text n is).read

pub six_text_all : (text : List ℕ) (n : ℕ) → IsSixText text n → All (λ b. is_six_byte b ≡ true) text
six_text_all text n is = (six_text_read text n is).bytes

pub six_text_colon : (text : List ℕ) (n : ℕ) → IsSixText text n → list_any is_colon text ≡ true
six_text_colon text n is = (six_text_read text n is).colon

pub six_text_some : (text : List ℕ) (n : ℕ) → IsSixText text n → 0 < length text
six_text_some text n is = some_colon text (six_text_read text n is).colon
