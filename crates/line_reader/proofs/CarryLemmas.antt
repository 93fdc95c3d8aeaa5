-- Lines that come in pieces.
use Rattle.std.proofs.Common.{◌≡◌, ℕ, ◌+◌, ◌-◌, ◌<◌, ◌≤◌, true, List, [], ◌∷◌, ◌++◌, length, take, drop, refl, ap, subst, sym, ◌∙◌, append_assoc, append-nil, length-append, length-take, arith}
use Rattle.std.specs.Prelude.{slice_index}
use Rattle.std.proofs.lemmas.List.{drop-drop, drop-take}
use Rattle.std.proofs.Math.Seq.{take-length}
use Rattle.memchr.specs.Find.{Nowhere, Passes}
use Rattle.text_core.specs.Parts.{parts, is_line_feed, onto, BeginsWithLine, IsUnended}
use Rattle.text_core.proofs.PartLemmas.{begins_carried, no_part, onto-cons, onto-nil, parts_through, unended_both}
use Rattle.line_reader.specs.Unended.{BeginsTooLong}
use Rattle.line_reader.specs.declared.lines.TheConstants.{MOST_LINE_BYTES}

pub unended_none : IsUnended []
unended_none more = refl

-- the line that ends at the first line feed
pub begins_found : (carry text seen : List ℕ) (at : ℕ) → IsUnended carry → seen ≡ text → at < length seen → Nowhere (Passes is_line_feed seen) 0 at
    → is_line_feed (slice_index seen at) ≡ true → BeginsWithLine (carry ++ text) (carry ++ take at text) (drop (at + 1) text)
begins_found carry text seen at unended same lt none is =
    subst (λ xs. BeginsWithLine (carry ++ xs) (carry ++ take at xs) (drop (at + 1) xs)) same
    (begins_carried carry seen (take at seen) (drop (at + 1) seen) unended (λ more. parts_through is_line_feed seen at more lt none is))

-- with no line feed the line goes on
pub unended_carried : (carry text seen : List ℕ) → IsUnended carry → seen ≡ text → Nowhere (Passes is_line_feed seen) 0 (length seen) → IsUnended (carry ++ text)
unended_carried carry text seen first same none =
    subst (λ xs. IsUnended (carry ++ xs)) same (unended_both carry seen first (no_part is_line_feed seen none))

first_of_onto : (bytes : List ℕ) (lines : List (List ℕ)) → 0 < length bytes → (x : List ℕ) × (more : List (List ℕ)) × (onto bytes lines ≡ (bytes ++ x) ∷ more)
first_of_onto bytes [] some = ([], [], onto-nil bytes some ∙ ap (λ xs. xs ∷ []) (sym (append-nil bytes)))
first_of_onto bytes (line ∷ lines) some = (line, lines, onto-cons bytes line lines)

-- a line that is too long before it ends
pub too_long_unended : (bytes : List ℕ) → IsUnended bytes → MOST_LINE_BYTES < length bytes → BeginsTooLong bytes
too_long_unended bytes unended long more =
    let first = first_of_onto bytes (parts is_line_feed more) (omega arith) in
    (bytes ++ first.0, first.1, unended more ∙ first.2, omega (arith, length-append bytes first.0))

-- a line that is too long where it ends
pub too_long_found : (text line rest : List ℕ) → BeginsWithLine text line rest → MOST_LINE_BYTES < length line → BeginsTooLong text
too_long_found text line rest begins long more = (line, parts is_line_feed (rest ++ more), begins more, long)

pub length_carried : (carry text : List ℕ) (at : ℕ) → at ≤ length text → length (carry ++ take at text) ≡ length carry + at
length_carried carry text at within = omega (arith, length-append carry (take at text), length-take at text)

-- what is kept of a block, past so many bytes more
pub kept_past : (block : List ℕ) (at end n : ℕ) → n + at ≤ end → take (end - (at + n)) (drop (at + n) block) ≡ drop n (take (end - at) (drop at block))
kept_past block at end n within =
    let rest : end - at ≡ n + (end - (at + n)) = omega arith in
    sym (ap (λ k. drop n (take k (drop at block))) rest ∙ drop-take n (end - (at + n)) (drop at block)
    ∙ ap (take (end - (at + n))) (drop-drop n at block))

-- all of what is kept
pub all_taken : (line kept seen new : List ℕ) → seen ≡ kept → new ≡ line ++ take (length seen) kept → new ≡ line ++ kept
all_taken line kept seen new same is = is ∙ ap (λ xs. line ++ take (length xs) kept) same ∙ ap (λ xs. line ++ xs) (take-length kept)
