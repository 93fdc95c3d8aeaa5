-- IPv6 addresses: what is read of a text has that text.
use Rattle.std.proofs.Common.{append-nil, ◌≡◌, ℕ, ◌+◌, ◌-◌, ◌/◌, ◌%◌, ◌^◌, Bool, true, false, List, [], ◌∷◌, ◌++◌, length, replicate, Some, None, Option, refl, ◌∙◌, sym, ap, arith, inl, inr}
use Rattle.std.specs.Prelude.{◌&&◌, ◌||◌, nat_lt, Result, Ok}
use Rattle.std.specs.List.{list_all, onto_first, slice_split, join_with_byte, AllByRecursion}
use Rattle.std.specs.Char.{is_ascii_hexdigit}
use Rattle.std.proofs.lemmas.Bool.Decides.{nat_tests}
use Rattle.std.proofs.lemmas.List.Folds.{list_all-append}
use Rattle.std.proofs.lemmas.List.Splits.{join_with_byte-slice_split}
use Rattle.list_core.specs.Each.{◌>>=◌}
use Rattle.text_core.specs.Cut.{cut}
use Rattle.addr_core.specs.Dotted.{dotted_of, is_colon, is_dot, is_empty}
use Rattle.addr_core.specs.Six.{gap_of, group_count, groups_in, has_dot, hex_value, is_eight, is_group, is_six_byte, number_of, short_of, short_with, six_of, whole_of, word_groups, words_of, AreGroups, IsShort, IsSixText, IsTail, IsWhole}
use Rattle.addr_core.specs.declared.reading.AddrFault.{AddrFault}
use Rattle.addr_core.proofs.DottedLemmas.{bind_is, dotted_text-dotted_of}
use Rattle.addr_core.proofs.SixSteps.{counted, gap_is, groups_are, neither}
use Rattle.text_core.proofs.CutLemmas.{cut_pair-joins}

-- ---- bytes of words

-- each byte is a digit or a dot
abbrev IsDotted : List ℕ → Type 0
IsDotted word = list_all (λ b. is_ascii_hexdigit b || is_dot b) word ≡ true

onto_dotted : (b : ℕ) (parts : List (List ℕ)) → (is_ascii_hexdigit b || is_dot b) ≡ true → AllByRecursion IsDotted parts → AllByRecursion IsDotted (onto_first b parts)
onto_dotted b [] is each = (rw is refl, tt)
onto_dotted b (part ∷ parts) is each = (rw (is, each.0) refl, each.1)

word_byte : (b : ℕ) → is_colon b ≡ false → is_six_byte b ≡ true → (is_ascii_hexdigit b || is_dot b) ≡ true
word_byte b plain six = rw plain at six

split_dotted : (text : List ℕ) → list_all is_six_byte text ≡ true → AllByRecursion IsDotted (slice_split is_colon text)
split_dotted [] all = (refl, tt)
split_dotted (b ∷ text) all = by (is_six_byte b) refl (is_colon b) refl (λ rest. split_dotted text rest)
  where
    by : (s : Bool) → is_six_byte b ≡ s → (t : Bool) → is_colon b ≡ t → (list_all is_six_byte text ≡ true → AllByRecursion IsDotted (slice_split is_colon text)) → AllByRecursion IsDotted (slice_split is_colon (b ∷ text))
    by false a t c rest = let wrong = rw a at all in absurd cc
    by true a true c rest = rw c ((refl, rest (rw a at all)))
    by true a false c rest = rw c (onto_dotted b (slice_split is_colon text) (word_byte b c a) (rest (rw a at all)))

words_dotted : (text : List ℕ) → list_all is_six_byte text ≡ true → AllByRecursion IsDotted (words_of text)
words_dotted text all = by (is_empty text) refl
  where
    by : (t : Bool) → is_empty text ≡ t → AllByRecursion IsDotted (words_of text)
    by true is = rw is tt
    by false is = rw is (split_dotted text all)

no_text : (text : List ℕ) → is_empty text ≡ true → text ≡ []
no_text [] is = refl
no_text (b ∷ text) is = absurd (let wrong : length (b ∷ text) ≡ 0 = grind (arith, nat_tests) in omega (arith, wrong))

-- the words joined are the text
join-words_of : (text : List ℕ) → text ≡ join_with_byte 58 (words_of text)
join-words_of text = by (is_empty text) refl
  where
    by : (t : Bool) → is_empty text ≡ t → text ≡ join_with_byte 58 (words_of text)
    by true is = rw is (no_text text is)
    by false is = rw is (sym (join_with_byte-slice_split 58 text))

-- ---- words

-- digits where there is no dot
digits_without : (word : List ℕ) → IsDotted word → has_dot word ≡ false → list_all is_ascii_hexdigit word ≡ true
digits_without [] dotted none = refl
digits_without (b ∷ word) dotted none = by (is_dot b) refl (is_ascii_hexdigit b) refl (λ d n. digits_without word d n)
  where
    by : (s : Bool) → is_dot b ≡ s → (t : Bool) → is_ascii_hexdigit b ≡ t → (IsDotted word → has_dot word ≡ false → list_all is_ascii_hexdigit word ≡ true) → list_all is_ascii_hexdigit (b ∷ word) ≡ true
    by true a t c rest = let wrong = rw a at none in absurd cc
    by false a false c rest = let wrong = rw (a, c) at dotted in absurd cc
    by false a true c rest = let more : list_all is_ascii_hexdigit word ≡ true = rest (rw (a, c) at dotted) (rw a at none) in rw (c, more) refl

record IsOneGroup (word groups : List ℕ) : Type 0 where
  group : is_group word ≡ true
  value : hex_value word ∷ [] ≡ groups

one_group : (word groups : List ℕ) → IsDotted word → is_empty word ≡ false → has_dot word ≡ false → word_groups word ≡ Ok groups → IsOneGroup word groups
one_group word groups dotted some none is = by (nat_lt 4 (length word)) refl
  where
    by : (t : Bool) → nat_lt 4 (length word) ≡ t → IsOneGroup word groups
    by true test = let wrong = rw (none, test) at is in absurd cc
    by false test =
        let short : nat_lt (length word) 5 ≡ true = grind (arith, nat_tests) in
        let digits : list_all is_ascii_hexdigit word ≡ true = digits_without word dotted none in
        record { group = rw (some, short, digits) refl; value = groups_are (hex_value word ∷ []) groups (rw (none, test) at is) }

tail_is : (word groups : List ℕ) → has_dot word ≡ true → word_groups word ≡ Ok groups → IsTail word groups
tail_is word groups dot is =
    let read = bind_is (dotted_of (slice_split is_dot word)) (λ number. Ok ((number / 2 ^ 16) ∷ (number % 2 ^ 16) ∷ [])) groups (rw dot at is) in
    let number = dotted_text-dotted_of word read.0 read.1 in
    (read.0, number.1, number.0, sym (groups_are ((read.0 / 2 ^ 16) ∷ (read.0 % 2 ^ 16) ∷ []) groups read.2))

-- words that were counted and read stand for their groups
are_groups : (dotted : Bool) (words : List (List ℕ)) (count : ℕ) (groups : List ℕ) → AllByRecursion IsDotted words → group_count dotted words ≡ Some count → groups_in words ≡ Ok groups → AreGroups dotted words groups
are_groups dotted [] count groups each some is = sym (groups_are [] groups is)
are_groups dotted (word ∷ []) count groups each some is =
    let read = bind_is (word_groups word) (λ first. groups_in [] >>= λ rest. Ok (first ++ rest)) groups is in
    let all : read.0 ≡ groups = sym (append-nil read.0) ∙ groups_are (read.0 ++ []) groups read.2 in
    by (is_empty word) refl (has_dot word) refl dotted refl (read.1 ∙ ap (λ g. Ok g) all)
  where
    by : (s : Bool) → is_empty word ≡ s → (t : Bool) → has_dot word ≡ t → (d : Bool) → dotted ≡ d → word_groups word ≡ Ok groups → AreGroups dotted (word ∷ []) groups
    by true a t b d c read = let wrong = rw a at some in absurd cc
    by false a true b false c read = let wrong = rw (a, b, c) at some in absurd cc
    by false a true b true c read = inl (c, refl, tail_is word groups b read)
    by false a false b d c read =
        let one = one_group word groups each.0 a b read in
        inr (hex_value word, [], sym one.value, (one.group, refl), refl)
are_groups dotted (word ∷ next ∷ words) count groups each some is =
    let read = bind_is (word_groups word) (λ first. groups_in (next ∷ words) >>= λ rest. Ok (first ++ rest)) groups is in
    let more = bind_is (groups_in (next ∷ words)) (λ rest. Ok (read.0 ++ rest)) groups read.2 in
    by (is_empty word || has_dot word) refl (group_count dotted (next ∷ words)) refl read.0 read.1 more.0 (groups_are (read.0 ++ more.0) groups more.2) (λ n e. are_groups dotted (next ∷ words) n more.0 each.1 e more.1)
  where
    by : (t : Bool) → (is_empty word || has_dot word) ≡ t → (o : Option ℕ) → group_count dotted (next ∷ words) ≡ o → (first : List ℕ) → word_groups word ≡ Ok first → (rest : List ℕ) → first ++ rest ≡ groups → ((n : ℕ) → group_count dotted (next ∷ words) ≡ Some n → AreGroups dotted (next ∷ words) rest) → AreGroups dotted (word ∷ next ∷ words) groups
    by true test o found first read rest all more = let wrong = rw test at some in absurd cc
    by false test None found first read rest all more = let wrong = rw (test, found) at some in absurd cc
    by false test (Some n) found first read rest all more =
        let plain = neither (is_empty word) (has_dot word) test in
        let one = one_group word first each.0 plain.0 plain.1 read in
        inr (hex_value word, rest, sym all ∙ ap (λ front. front ++ rest) (sym one.value), (one.group, refl), more n found)

-- ---- whole texts

eight_is : (o : Option ℕ) → is_eight o ≡ true → o ≡ Some 8
eight_is None is = absurd cc
eight_is (Some n) is = let same : n ≡ 8 = grind (arith, nat_tests) in ap (λ m. Some m) same

number_is : (a b : ℕ) → ◌≡◌ {A = Result ℕ AddrFault} (Ok a) (Ok b) → a ≡ b
number_is a b is = cc

whole_is : (text : List ℕ) (n : ℕ) → list_all is_six_byte text ≡ true → whole_of (words_of text) ≡ Ok n → IsWhole text n
whole_is text n all is = by (is_eight (group_count true (words_of text))) refl
  where
    by : (t : Bool) → is_eight (group_count true (words_of text)) ≡ t → IsWhole text n
    by false test = let wrong = rw test at is in absurd cc
    by true test =
        let eight = eight_is (group_count true (words_of text)) test in
        let read = bind_is (groups_in (words_of text)) (λ groups. Ok (number_of groups)) n (rw test at is) in
        (words_of text, read.0, join-words_of text, are_groups true (words_of text) 8 read.0 (words_dotted text all) eight read.1, counted true (words_of text) 8 read.0 eight read.1, sym (number_is (number_of read.0) n read.2))

short_is : (text front back : List ℕ) (n : ℕ) → text ≡ front ++ 58 ∷ 58 ∷ back → list_all is_six_byte front ≡ true → list_all is_six_byte back ≡ true → short_of (words_of front) (words_of back) ≡ Ok n → IsShort text n
short_is text front back n joined first last is = by (gap_of (group_count false (words_of front)) (group_count true (words_of back))) refl
  where
    by : (o : Option ℕ) → gap_of (group_count false (words_of front)) (group_count true (words_of back)) ≡ o → IsShort text n
    by None found = let wrong : short_with (words_of front) (words_of back) None ≡ Ok n = ap (short_with (words_of front) (words_of back)) (sym found) ∙ is in absurd cc
    by (Some gap) found =
        let same : short_with (words_of front) (words_of back) (Some gap) ≡ Ok n = ap (short_with (words_of front) (words_of back)) (sym found) ∙ is in
        let wide = gap_is (words_of front) (words_of back) gap found in
        let before = bind_is (groups_in (words_of front)) (λ b. groups_in (words_of back) >>= λ a. Ok (number_of (b ++ replicate gap 0 ++ a))) n same in
        let after = bind_is (groups_in (words_of back)) (λ a. Ok (number_of (before.0 ++ replicate gap 0 ++ a))) n before.2 in
        let first_length = counted false (words_of front) wide.before before.0 wide.front_count before.1 in
        let last_length = counted true (words_of back) wide.after after.0 wide.back_count after.1 in
        let zeros : gap ≡ 8 - (length before.0 + length after.0) = omega (arith, wide.all, first_length, last_length) in (
          words_of front,
          words_of back,
          before.0,
          after.0,
          joined ∙ ap (λ t. t ++ 58 ∷ 58 ∷ back) (join-words_of front) ∙ ap (λ t. join_with_byte 58 (words_of front) ++ 58 ∷ 58 ∷ t) (join-words_of back),
          are_groups false (words_of front) wide.before before.0 (words_dotted front first) wide.front_count before.1,
          are_groups true (words_of back) wide.after after.0 (words_dotted back last) wide.back_count after.1,
          omega (arith, wide.some, first_length, last_length),
          sym (number_is (number_of (before.0 ++ replicate gap 0 ++ after.0)) n after.2) ∙ ap (λ g. number_of (before.0 ++ replicate g 0 ++ after.0)) zeros,
        )

both_true : (s t : Bool) → (s && t) ≡ true → (s ≡ true) × (t ≡ true)
both_true true true is = (refl, refl)
both_true true false is = absurd cc
both_true false t is = absurd cc

pub six_is : (text : List ℕ) (n : ℕ) → six_of text ≡ Ok n → IsSixText text n
six_is text n is = by (list_all is_six_byte text) refl (cut (58 ∷ 58 ∷ []) text) refl
  where
    by : (t : Bool) → list_all is_six_byte text ≡ t → (o : Option (List ℕ × List ℕ)) → cut (58 ∷ 58 ∷ []) text ≡ o → IsSixText text n
    by false test o found = let wrong = rw test at is in absurd cc
    by true test None found = let whole : whole_of (words_of text) ≡ Ok n = rw (test, found) at is in inl (whole_is text n test whole)
    by true test (Some parts) found =
        let short : short_of (words_of parts.0) (words_of parts.1) ≡ Ok n = rw (test, found) at is in
        let joined = cut_pair-joins 58 58 text parts.0 parts.1 found in
        let bytes : (list_all is_six_byte parts.0 && list_all is_six_byte (58 ∷ 58 ∷ parts.1)) ≡ true = sym (list_all-append is_six_byte parts.0 (58 ∷ 58 ∷ parts.1)) ∙ ap (list_all is_six_byte) (sym joined) ∙ test in
        let both = both_true (list_all is_six_byte parts.0) (list_all is_six_byte (58 ∷ 58 ∷ parts.1)) bytes in
        inr (short_is text parts.0 parts.1 n joined both.0 both.1 short)
