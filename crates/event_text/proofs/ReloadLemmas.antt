-- The lines of the text of a reload, each after a bar.
use Rattle.std.proofs.Common.{◌≡◌, ℕ, zero, suc, ◌+◌, ◌<◌, ◌≤◌, false, List, [], ◌∷◌, ◌++◌, length, drop, map, Some, None, Option, Ok, Err, Result, refl, sym, ap, subst, ◌∙◌, Bor, arith, length-append, drop-drop}
use Rattle.std.specs.Prelude.{option_map, slice_index, get_or, ◌==◌, if◌then◌else◌}
use Rattle.std.specs.Result.{result_ok, MatchResult}
use Rattle.std.specs.List.{AllByRecursion, join_with_byte}
use Rattle.std.specs.Str.{is_utf8, IsUtf8}
use Rattle.std.proofs.lemmas.Bool.{false_from_ne_true}
use Rattle.std.proofs.lemmas.Bool.Decides.{nat_tests}
use Rattle.std.proofs.lemmas.List.{take_at, drop_at, get_or_at}
use Rattle.std.proofs.lemmas.List.Splits.{join_with_byte-slice_split, length-slice_split}
use Rattle.std.proofs.lemmas.List.Sums.{count_by-le-length}
use Rattle.std.proofs.lemmas.Str.{is_utf8-from_IsUtf8, IsUtf8-from_is_utf8, IsUtf8-take, IsUtf8-drop, IsCharBoundary-before_ascii, IsCharBoundary-after_ascii}
use Rattle.text_core.specs.Cut.{cut}
use Rattle.text_core.specs.Parts.{is_line_feed}
use Rattle.text_core.proofs.CutLemmas.{cut-joins, split-cut, split-uncut}
use Rattle.event_text.specs.Script.{bar_lines, bar_text, bar_texts, text_lines}

-- a text has a line at least
pub lines_some : (text : List ℕ) → 0 < length (text_lines text)
lines_some text = let is = length-slice_split is_line_feed text in omega (arith, is)

-- and one more than it has bytes at the most
pub lines_few : (text : List ℕ) → length (text_lines text) ≤ length text + 1
lines_few text = omega (arith, length-slice_split is_line_feed text, count_by-le-length is_line_feed text)

-- ---- the text after a bar

-- a slice as a text
pub utf8_text : {E : Type 0} (X : E → Type 0) (bytes : List ℕ) (r : Result (Bor (List ℕ)) E) → MatchResult r (λ s. (s.now ≡ bytes) × IsUtf8 bytes) (λ e. ¬ (IsUtf8 bytes) × X e)
    → option_map (λ text. text.now) (result_ok r) ≡ (if is_utf8 bytes then Some bytes else None)
utf8_text X bytes (Ok s) is = rw (is_utf8-from_IsUtf8 bytes is.1) (ap Some is.0)
utf8_text X bytes (Err e) is = let none : is_utf8 bytes ≡ false = false_from_ne_true (is_utf8 bytes) (λ t. is.0 (IsUtf8-from_is_utf8 bytes t)) in rw none refl

-- a line that begins with a bar
pub bar_text-bar : (line : List ℕ) → slice_index line 0 ≡ 124 → bar_text line ≡ (if is_utf8 (drop 1 line) then Some (drop 1 line) else None)
bar_text-bar [] is = absurd (omega arith)
bar_text-bar (b ∷ text) is = rw is refl

-- a line that does not
pub bar_text-none : (line : List ℕ) → ¬ (slice_index line 0 ≡ 124) → bar_text line ≡ None
bar_text-none [] not = refl
bar_text-none (b ∷ text) not = let differs : (b == 124) ≡ false = grind (arith, nat_tests) in rw differs refl

-- ---- the lines of a text are texts

abbrev AreTexts : List (List ℕ) → Type 0
AreTexts lines = AllByRecursion IsUtf8 lines

-- the text before a line feed, and the text after it
front_text : (front back : List ℕ) → IsUtf8 (front ++ 10 ∷ back) → IsUtf8 front
front_text front back is =
    let all = front ++ 10 ∷ back in
    let less : length front < length all = omega (arith, length-append front (10 ∷ back)) in
    let low : get_or all (length front) 0 < 128 = omega (arith, get_or_at front 10 back 0 (length front) refl) in
    subst IsUtf8 (take_at front (10 ∷ back) (length front) refl) (IsUtf8-take all (length front) is (IsCharBoundary-before_ascii all (length front) less low))

back_text : (front back : List ℕ) → IsUtf8 (front ++ 10 ∷ back) → IsUtf8 back
back_text front back is =
    let all = front ++ 10 ∷ back in
    let less : length front < length all = omega (arith, length-append front (10 ∷ back)) in
    let low : get_or all (length front) 0 < 128 = omega (arith, get_or_at front 10 back 0 (length front) refl) in
    let after : drop (length front + 1) all ≡ back = sym (drop-drop 1 (length front) all) ∙ ap (drop 1) (drop_at front (10 ∷ back) (length front) refl) in
    subst IsUtf8 after (IsUtf8-drop all (length front + 1) is (IsCharBoundary-after_ascii all (length front) is less low))

-- one line more
lines_step : (text : List ℕ) → IsUtf8 text → ((back : List ℕ) → length back < length text → IsUtf8 back → AreTexts (text_lines back)) → AreTexts (text_lines text)
lines_step text is rest = by (cut (10 ∷ []) text) refl
  where
    by : (o : Option (List ℕ × List ℕ)) → cut (10 ∷ []) text ≡ o → AreTexts (text_lines text)
    by None found = subst AreTexts (sym (split-uncut 10 text found)) (is, tt)
    by (Some parts) found =
        let whole : text ≡ parts.0 ++ 10 ∷ parts.1 = cut-joins 10 text parts.0 parts.1 found in
        let both : IsUtf8 (parts.0 ++ 10 ∷ parts.1) = subst IsUtf8 whole is in
        let less : length parts.1 < length text = omega (arith, ap length whole, length-append parts.0 (10 ∷ parts.1)) in
        subst AreTexts (sym (split-cut 10 text parts.0 parts.1 found)) (front_text parts.0 parts.1 both, rest parts.1 less (back_text parts.0 parts.1 both))

lines_within : (most : ℕ) (text : List ℕ) → length text ≤ most → IsUtf8 text → AreTexts (text_lines text)
lines_within zero text few is = lines_step text is (λ back less u. absurd (omega arith))
lines_within (suc most) text few is = lines_step text is (λ back less u. lines_within most back (omega arith) u)

-- ---- the lines after a reload are read again

bar_texts_of : (lines : List (List ℕ)) → AreTexts lines → bar_texts (map (λ line. 0x7C ∷ line) lines) ≡ Some lines
bar_texts_of [] are = refl
bar_texts_of (line ∷ lines) are = rw (is_utf8-from_IsUtf8 line are.0, bar_texts_of lines are.1) refl

pub bar_lines-read : (text : List ℕ) → IsUtf8 text → bar_texts (bar_lines text) ≡ Some (text_lines text)
bar_lines-read text is = bar_texts_of (text_lines text) (lines_within (length text) text (omega arith) is)

-- and joined again
pub lines_joined : (text : List ℕ) → join_with_byte 0x0A (text_lines text) ≡ text
lines_joined text = join_with_byte-slice_split 10 text
