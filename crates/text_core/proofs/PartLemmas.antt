-- Parts of a text by the first byte that ends one.
use Rattle.std.proofs.Common.{◌≡◌, ℕ, zero, suc, ◌+◌, ◌-◌, ◌<◌, true, false, List, [], ◌∷◌, ◌++◌, length, take, drop, refl, ap, sym, ◌∙◌, append_assoc, append-nil, arith}
use Rattle.std.specs.Prelude.{Bool, slice_index}
use Rattle.std.specs.List.{onto_first}
use Rattle.std.proofs.lemmas.Bool.{false_from_ne_true}
use Rattle.std.proofs.lemmas.Grind.{common_steps}
use Rattle.std.proofs.lemmas.List.{take_rest}
use native.Mathlib.Numerals.{unary_clauses}
use Rattle.memchr.specs.Find.{Nowhere, Passes}
use Rattle.text_core.specs.Parts.{parts, before, is_line_feed, onto, BeginsWithLine, IsUnended}

-- ---- bytes in front of parts

pub onto-cons : (bytes line : List ℕ) (lines : List (List ℕ)) → onto bytes (line ∷ lines) ≡ (bytes ++ line) ∷ lines
onto-cons [] line lines = refl
onto-cons (b ∷ bytes) line lines = ap (onto_first b) (onto-cons bytes line lines)

pub onto-append : (xs ys : List ℕ) (lines : List (List ℕ)) → onto (xs ++ ys) lines ≡ onto xs (onto ys lines)
onto-append [] ys lines = refl
onto-append (b ∷ xs) ys lines = ap (onto_first b) (onto-append xs ys lines)

pub onto-nil : (bytes : List ℕ) → 0 < length bytes → onto bytes [] ≡ bytes ∷ []
onto-nil [] some = absurd (omega arith)
onto-nil (b ∷ []) some = refl
onto-nil (b ∷ c ∷ bytes) some = ap (onto_first b) (onto-nil (c ∷ bytes) (omega arith))

-- ---- a text that goes on

-- the first part that ends, and the text after it, whatever follows
pub parts_through : (ends : ℕ → Bool) (text : List ℕ) (at : ℕ) (more : List ℕ) → at < length text → Nowhere (Passes ends text) 0 at → ends (slice_index text at) ≡ true
    → parts ends (text ++ more) ≡ take at text ∷ parts ends (drop (at + 1) text ++ more)
parts_through ends [] at more lt none is = absurd (omega arith)
parts_through ends (b ∷ text) zero more lt none is = rw is refl
parts_through ends (b ∷ text) (suc at) more lt none is =
    let differs : ends b ≡ false = false_from_ne_true (ends b) (none 0 (omega arith) (omega arith)) in
    let rest : parts ends (text ++ more) ≡ take at text ∷ parts ends (drop (at + 1) text ++ more) = parts_through ends text at more (omega arith) (λ k low high. none (suc k) (omega arith) (omega arith)) is in
    let shift : drop (at + 1) text ≡ drop (suc at + 1) (b ∷ text) = simp unary_clauses refl in
    rw (differs, rest) (ap (λ xs. (b ∷ take at text) ∷ parts ends (xs ++ more)) shift)

-- the same, with the text after it as a range
pub first_part : (ends : ℕ → Bool) (text : List ℕ) (at : ℕ) → at < length text → Nowhere (Passes ends text) 0 at → ends (slice_index text at) ≡ true
    → (more : List ℕ) → parts ends (text ++ more) ≡ take at text ∷ parts ends (take (length text - (at + 1)) (drop (at + 1) text) ++ more)
first_part ends text at lt none is more = rw (take_rest text (at + 1)) (parts_through ends text at more lt none is)

-- with no such byte the text goes on
pub no_part : (ends : ℕ → Bool) (text : List ℕ) → Nowhere (Passes ends text) 0 (length text) → (more : List ℕ) → parts ends (text ++ more) ≡ onto text (parts ends more)
no_part ends [] none more = refl
no_part ends (b ∷ text) none more =
    let differs : ends b ≡ false = false_from_ne_true (ends b) (none 0 (omega arith) (omega arith)) in
    let rest : parts ends (text ++ more) ≡ onto text (parts ends more) = no_part ends text (λ k low high. none (suc k) (omega arith) (omega arith)) more in
    rw differs (ap (onto_first b) rest)

-- the line that begins with what was carried over
pub begins_carried : (carry text line after : List ℕ) → IsUnended carry → BeginsWithLine text line after → BeginsWithLine (carry ++ text) (carry ++ line) after
begins_carried carry text line after unended begins more =
    ap (parts is_line_feed) (append_assoc carry text more) ∙ unended (text ++ more) ∙ ap (onto carry) (begins more)
    ∙ onto-cons carry line (parts is_line_feed (after ++ more))

pub unended_both : (xs ys : List ℕ) → IsUnended xs → IsUnended ys → IsUnended (xs ++ ys)
unended_both xs ys first second more =
    ap (parts is_line_feed) (append_assoc xs ys more) ∙ first (ys ++ more) ∙ ap (onto xs) (second more) ∙ sym (onto-append xs ys (parts is_line_feed more))

-- ---- a text that ends

pub nothing_left : (text : List ℕ) → take (length text - length text) (drop (length text) text) ≡ []
nothing_left text = grind (arith, common_steps)

-- the last line, which lacks its end
pub last_line : (rest : List ℕ) → IsUnended rest → 0 < length rest → parts is_line_feed rest ≡ rest ∷ []
last_line rest unended some = ap (parts is_line_feed) (sym (append-nil rest)) ∙ unended [] ∙ onto-nil rest some

-- the first line, and the text after it
pub first_line : (text line rest : List ℕ) → BeginsWithLine text line rest → parts is_line_feed text ≡ line ∷ parts is_line_feed rest
first_line text line rest cut =
    ap (parts is_line_feed) (sym (append-nil text)) ∙ cut [] ∙ ap (λ xs. line ∷ parts is_line_feed xs) (append-nil rest)

pub part_found : (ends : ℕ → Bool) (text : List ℕ) (at : ℕ) → at < length text → Nowhere (Passes ends text) 0 at → ends (slice_index text at) ≡ true
    → parts ends text ≡ take at text ∷ parts ends (take (length text - (at + 1)) (drop (at + 1) text))
part_found ends text at lt none is =
    ap (parts ends) (sym (append-nil text)) ∙ first_part ends text at lt none is []
    ∙ ap (λ xs. take at text ∷ parts ends xs) (append-nil (take (length text - (at + 1)) (drop (at + 1) text)))

pub part_last : (ends : ℕ → Bool) (text : List ℕ) → 0 < length text → Nowhere (Passes ends text) 0 (length text) → parts ends text ≡ text ∷ []
part_last ends text some none = ap (parts ends) (sym (append-nil text)) ∙ no_part ends text none [] ∙ onto-nil text some

-- ---- the text before a byte

pub before_at : (ends : ℕ → Bool) (text : List ℕ) (at : ℕ) → at < length text → Nowhere (Passes ends text) 0 at → ends (slice_index text at) ≡ true → take at text ≡ before ends text
before_at ends [] at lt none is = absurd (omega arith)
before_at ends (b ∷ text) zero lt none is = rw is refl
before_at ends (b ∷ text) (suc at) lt none is =
    let differs : ends b ≡ false = false_from_ne_true (ends b) (none 0 (omega arith) (omega arith)) in
    rw differs (ap (λ xs. b ∷ xs) (before_at ends text at (omega arith) (λ k low high. none (suc k) (omega arith) (omega arith)) is))

pub before_none : (ends : ℕ → Bool) (text : List ℕ) → Nowhere (Passes ends text) 0 (length text) → text ≡ before ends text
before_none ends [] none = refl
before_none ends (b ∷ text) none =
    let differs : ends b ≡ false = false_from_ne_true (ends b) (none 0 (omega arith) (omega arith)) in
    rw differs (ap (λ xs. b ∷ xs) (before_none ends text (λ k low high. none (suc k) (omega arith) (omega arith))))
