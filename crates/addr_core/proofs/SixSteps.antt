-- The steps of reading an IPv6 address.
use Rattle.std.proofs.Common.{lit≤, replicate, append-nil, ◌≡◌, ◌-◌, ℕ, zero, suc, ◌+◌, ◌/◌, ◌%◌, ◌^◌, ◌<◌, ◌≤◌, Bool, true, false, List, [], ◌∷◌, ◌++◌, length, Some, None, Option, refl, ◌∙◌, sym, ap, arith, append_assoc, length-append}
use Rattle.std.specs.Prelude.{◌||◌, nat_lt, Result, Ok, Err}
use Rattle.std.specs.List.{list_all, slice_split}
use Rattle.std.specs.Option.{option_map, unwrap_or}
use Rattle.std.proofs.lemmas.Bool.Decides.{nat_tests}
use Rattle.std.proofs.lemmas.List.{length-replicate}
use Rattle.list_core.specs.Each.{◌>>=◌}
use Rattle.text_core.specs.Cut.{cut}
use Rattle.addr_core.specs.Dotted.{dotted_of, is_colon, is_dot, is_empty}
use Rattle.addr_core.specs.Six.{gap_of, group_count, groups_in, has_dot, is_six_byte, parts_of, six_of, words_of, word_groups, HasRoom, ReadsOnto}
use Rattle.addr_core.specs.declared.reading.AddrFault.{AddrFault}
use Rattle.addr_core.proofs.DottedLemmas.{bind_is}
use Rattle.text_core.proofs.CutLemmas.{split_first}

pub power_sixteen : (i : ℕ) → i < 4 → 16 ^ i ≤ 4096
power_sixteen zero small = omega arith
power_sixteen (suc zero) small = omega arith
power_sixteen (suc (suc zero)) small = omega arith
power_sixteen (suc (suc (suc zero))) small = omega arith
power_sixteen (suc (suc (suc (suc i)))) small = absurd (omega arith)

pub power_group : (i : ℕ) → i < 8 → 65536 ^ i ≤ 2 ^ 112
power_group zero small = lit≤ tt
power_group (suc zero) small = lit≤ tt
power_group (suc (suc zero)) small = lit≤ tt
power_group (suc (suc (suc zero))) small = lit≤ tt
power_group (suc (suc (suc (suc zero)))) small = lit≤ tt
power_group (suc (suc (suc (suc (suc zero))))) small = lit≤ tt
power_group (suc (suc (suc (suc (suc (suc zero)))))) small = lit≤ tt
power_group (suc (suc (suc (suc (suc (suc (suc zero))))))) small = lit≤ tt
power_group (suc (suc (suc (suc (suc (suc (suc (suc i)))))))) small = absurd (omega arith)

-- ---- counting

pub words_are : (text : List ℕ) → is_empty text ≡ false → words_of text ≡ slice_split is_colon text
words_are text some = rw some refl

pub count_more : (k : ℕ) (o : Option ℕ) → option_map (λ n. n + k) (option_map (λ n. n + 1) o) ≡ option_map (λ n. n + (k + 1)) o
count_more k None = refl
count_more k (Some n) = ap (λ m. Some m) (omega arith)

-- a word before others has one group
pub count_step : (dotted : Bool) (whole : List (List ℕ)) (word more : List ℕ) → whole ≡ word ∷ slice_split is_colon more → is_empty word ≡ false → has_dot word ≡ false
    → group_count dotted whole ≡ option_map (λ count. count + 1) (group_count dotted (slice_split is_colon more))
count_step dotted whole word more is some plain =
    let rest = split_first is_colon more in
    ap (group_count dotted) (is ∙ ap (λ ws. word ∷ ws) rest.2) ∙ rw (some, plain) refl ∙ ap (λ ws. option_map (λ count. count + 1) (group_count dotted ws)) (sym rest.2)

-- an empty word, or one with a dot, has no other after it
pub count_stop : (dotted : Bool) (whole : List (List ℕ)) (word more : List ℕ) → whole ≡ word ∷ slice_split is_colon more → (is_empty word || has_dot word) ≡ true → group_count dotted whole ≡ None
count_stop dotted whole word more is wrong =
    let rest = split_first is_colon more in
    ap (group_count dotted) (is ∙ ap (λ ws. word ∷ ws) rest.2) ∙ rw wrong refl

-- ---- room

pub neither : (s t : Bool) → (s || t) ≡ false → (s ≡ false) × (t ≡ false)
neither false false is = (refl, refl)
neither false true is = absurd cc
neither true t is = absurd cc

pub room_step : (used : ℕ) (whole : List (List ℕ)) (word more : List ℕ) → whole ≡ word ∷ slice_split is_colon more → HasRoom used whole → (has_dot word ≡ false) × HasRoom (used + 1) (slice_split is_colon more)
room_step used whole word more is room = by (is_empty word || has_dot word) refl (group_count room.0 (slice_split is_colon more)) refl
  where
    by : (t : Bool) → (is_empty word || has_dot word) ≡ t → (o : Option ℕ) → group_count room.0 (slice_split is_colon more) ≡ o → (has_dot word ≡ false) × HasRoom (used + 1) (slice_split is_colon more)
    by true test o rest = let wrong : None ≡ Some room.1 = sym (count_stop room.0 whole word more is test) ∙ room.2 in absurd cc
    by false test None rest =
        let both = neither (is_empty word) (has_dot word) test in
        let wrong : None ≡ Some room.1 = ap (option_map (λ count. count + 1)) (sym rest) ∙ sym (count_step room.0 whole word more is both.0 both.1) ∙ room.2 in
        absurd cc
    by false test (Some count) rest =
        let both = neither (is_empty word) (has_dot word) test in
        let same : Some (count + 1) ≡ Some room.1 = ap (option_map (λ n. n + 1)) (sym rest) ∙ sym (count_step room.0 whole word more is both.0 both.1) ∙ room.2 in
        let number : count + 1 ≡ room.1 = cc in
        (both.1, (room.0, count, rest, omega (arith, number, room.3)))

-- ---- collecting

pub groups_are : (a b : List ℕ) → ◌≡◌ {A = Result (List ℕ) AddrFault} (Ok a) (Ok b) → a ≡ b
groups_are a b is = cc

-- a word without a dot has one group
word_length : (word groups : List ℕ) → has_dot word ≡ false → word_groups word ≡ Ok groups → length groups ≡ 1
word_length word groups plain is = by (nat_lt 4 (length word)) refl
  where
    by : (t : Bool) → nat_lt 4 (length word) ≡ t → length groups ≡ 1
    by true test = let wrong = rw (plain, test) at is in absurd cc
    by false test = let same = rw (plain, test) at is in ap length (sym (groups_are _ groups same))

-- one with a dot for two
tail_length : (word groups : List ℕ) → has_dot word ≡ true → word_groups word ≡ Ok groups → length groups ≡ 2
tail_length word groups dot is =
    let read = bind_is (dotted_of (slice_split is_dot word)) (λ number. Ok ((number / 2 ^ 16) ∷ (number % 2 ^ 16) ∷ [])) groups (rw dot at is) in
    ap length (sym (groups_are ((read.0 / 2 ^ 16) ∷ (read.0 % 2 ^ 16) ∷ []) groups read.2))

pub read_length : (old word new : List ℕ) → has_dot word ≡ false → ReadsOnto old (word_groups word) new → length new ≡ length old + 1
read_length old word new plain read = omega (arith, ap length read.2, length-append old read.0, word_length word read.0 plain read.1)

onto : (old groups : List ℕ) (r : Result (List ℕ) AddrFault) → (r >>= (λ rest. Ok (groups ++ rest)) >>= λ all. Ok (old ++ all)) ≡ (r >>= λ rest. Ok ((old ++ groups) ++ rest))
onto old groups (Ok rest) = ap (λ all. Ok all) (sym (append_assoc old groups rest))
onto old groups (Err fault) = refl

-- one word more
pub read_step : (whole : List (List ℕ)) (word more old new : List ℕ) → whole ≡ word ∷ slice_split is_colon more → ReadsOnto old (word_groups word) new
    → (groups_in whole >>= λ groups. Ok (old ++ groups)) ≡ (groups_in (slice_split is_colon more) >>= λ groups. Ok (new ++ groups))
read_step whole word more old new is read =
    ap (λ ws. groups_in ws >>= λ groups. Ok (old ++ groups)) is
    ∙ rw read.1 (onto old read.0 (groups_in (slice_split is_colon more)))
    ∙ ap (λ front. groups_in (slice_split is_colon more) >>= λ groups. Ok (front ++ groups)) (sym read.2)

-- words that were counted stand for so many groups
pub counted : (dotted : Bool) (words : List (List ℕ)) (count : ℕ) (groups : List ℕ) → group_count dotted words ≡ Some count → groups_in words ≡ Ok groups → length groups ≡ count
counted dotted [] count groups some is = let number : 0 ≡ count = cc in ap length (sym (groups_are [] groups is)) ∙ number
counted dotted (word ∷ []) count groups some is =
    let read = bind_is (word_groups word) (λ first. groups_in [] >>= λ rest. Ok (first ++ rest)) groups is in
    let all : length groups ≡ length read.0 = ap length (sym (groups_are (read.0 ++ []) groups read.2)) ∙ ap length (append-nil read.0) in
    by (is_empty word) refl (has_dot word) refl dotted refl read.0 read.1 all
  where
    by : (empty : Bool) → is_empty word ≡ empty → (dot : Bool) → has_dot word ≡ dot → (t : Bool) → dotted ≡ t → (first : List ℕ) → word_groups word ≡ Ok first → length groups ≡ length first → length groups ≡ count
    by true a dot b t c first read all = let wrong = rw a at some in absurd cc
    by false a false b t c first read all = let same = rw (a, b) at some in let number : 1 ≡ count = cc in all ∙ word_length word first b read ∙ number
    by false a true b false c first read all = let wrong = rw (a, b, c) at some in absurd cc
    by false a true b true c first read all = let same = rw (a, b, c) at some in let number : 2 ≡ count = cc in all ∙ tail_length word first b read ∙ number
counted dotted (word ∷ next ∷ words) count groups some is =
    let read = bind_is (word_groups word) (λ first. groups_in (next ∷ words) >>= λ rest. Ok (first ++ rest)) groups is in
    let more = bind_is (groups_in (next ∷ words)) (λ rest. Ok (read.0 ++ rest)) groups read.2 in
    by (is_empty word || has_dot word) refl (group_count dotted (next ∷ words)) refl read.0 read.1 more.0 (groups_are (read.0 ++ more.0) groups more.2) (λ n e. counted dotted (next ∷ words) n more.0 e more.1)
  where
    by : (t : Bool) → (is_empty word || has_dot word) ≡ t → (o : Option ℕ) → group_count dotted (next ∷ words) ≡ o → (first : List ℕ) → word_groups word ≡ Ok first → (rest : List ℕ) → first ++ rest ≡ groups → ((n : ℕ) → group_count dotted (next ∷ words) ≡ Some n → length rest ≡ n) → length groups ≡ count
    by true test o found first read rest all more = let wrong = rw test at some in absurd cc
    by false test None found first read rest all more = let wrong = rw (test, found) at some in absurd cc
    by false test (Some n) found first read rest all more =
        let same = rw (test, found) at some in
        let number : n + 1 ≡ count = cc in
        let plain = neither (is_empty word) (has_dot word) test in
        omega (arith, number, more n found, word_length word first plain.1 read, length-append first rest, ap length all)

-- what was read onto an empty list
pub reads_from : (old none : List ℕ) (r : Result (List ℕ) AddrFault) (new : List ℕ) → old ≡ none → ReadsOnto old r new → ReadsOnto none r new
reads_from old none r new same read = (read.0, read.1, read.2 ∙ ap (λ front. front ++ read.0) same)

eight : (o : Option ℕ) → unwrap_or o 0 ≡ 8 → o ≡ Some 8
eight None is = absurd (omega arith)
eight (Some n) is = ap (λ m. Some m) is

-- all words are counted, and read
pub whole_length : (words : List (List ℕ)) (count : ℕ) (groups : List ℕ) → count ≡ unwrap_or (group_count true words) 0 → count ≡ 8 → ReadsOnto [] (groups_in words) groups → length groups ≡ 8
whole_length words count groups is all read = ap length read.2 ∙ counted true words 8 read.0 (eight (group_count true words) (sym is ∙ all)) read.1

-- ---- a gap

pub record IsGap (front back : List (List ℕ)) (gap : ℕ) : Type 0 where
  pub before : ℕ
  pub after : ℕ
  pub front_count : group_count false front ≡ Some before
  pub back_count : group_count true back ≡ Some after
  pub all : before + after + gap ≡ 8
  pub some : before + after < 8

pub gap_is : (front back : List (List ℕ)) (gap : ℕ) → gap_of (group_count false front) (group_count true back) ≡ Some gap → IsGap front back gap
gap_is front back gap is = by (group_count false front) refl (group_count true back) refl
  where
    by : (o : Option ℕ) → group_count false front ≡ o → (q : Option ℕ) → group_count true back ≡ q → IsGap front back gap
    by None a q b = let wrong = rw a at is in absurd cc
    by (Some m) a None b = let wrong = rw (a, b) at is in absurd cc
    by (Some m) a (Some n) b = test (nat_lt (m + n) 8) refl
      where
        test : (t : Bool) → nat_lt (m + n) 8 ≡ t → IsGap front back gap
        test false c = let wrong = rw (a, b, c) at is in absurd cc
        test true c =
            let same = rw (a, b, c) at is in
            let number : 8 - (m + n) ≡ gap = cc in
            let small : m + n < 8 = grind (arith, nat_tests) in
            record { before = m; after = n; front_count = a; back_count = b; all = omega (arith, number, small); some = small }

pub short_length : (front back : List (List ℕ)) (gap : ℕ) (first second third : List ℕ) → IsGap front back gap → ReadsOnto [] (groups_in front) first → second ≡ first ++ replicate gap 0 → ReadsOnto second (groups_in back) third → length third ≡ 8
short_length front back gap first second third is before zeros after =
    omega (
      arith,
      is.all,
      ap length before.2,
      counted false front is.before before.0 is.front_count before.1,
      ap length zeros,
      length-append first (replicate gap 0),
      length-replicate {A = ℕ} gap 0,
      ap length after.2,
      length-append second after.0,
      counted true back is.after after.0 is.back_count after.1,
    )

pub front_length : (front back : List (List ℕ)) (gap : ℕ) (first : List ℕ) → (is : IsGap front back gap) → ReadsOnto [] (groups_in front) first → length first ≡ is.before
front_length front back gap first is before = ap length before.2 ∙ counted false front is.before before.0 is.front_count before.1

-- the cut of a text that has only digits, colons and dots
pub six_parts : (text : List ℕ) (parts : Option (List ℕ × List ℕ)) → list_all is_six_byte text ≡ true → parts ≡ cut (58 ∷ 58 ∷ []) text → six_of text ≡ parts_of text parts
six_parts text parts all same = rw (all, ← same) refl
