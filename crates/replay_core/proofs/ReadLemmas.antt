-- What was read of bytes that a device reports.
use Rattle.std.proofs.Common.{◌≡◌, ◌<◌, ℕ, true, List, [], ◌∷◌, ◌++◌, Option, Some, None, refl, ap, subst, sym, ◌∙◌, append_assoc, arith}
use Rattle.std.specs.Prelude.{nat_lt}
use Rattle.std.specs.Io.KnownBytes.{Consumes}
use Rattle.std.proofs.lemmas.Bool.Decides.{nat_tests}
use Rattle.text_core.specs.Parts.{parts, is_line_feed}
use Rattle.line_reader.specs.Lines.{ConsumesAll, GivesLine, LineState}
use Rattle.line_reader.specs.declared.lines.TheConstants.{MOST_LINE_BYTES}

consumed : (rest : List ℕ) (new : Option (List ℕ)) (bytes : List ℕ) → Consumes (Some rest) new bytes → (less : List ℕ) × (new ≡ Some less) × (rest ≡ bytes ++ less)
consumed rest None bytes moved = absurd moved
consumed rest (Some less) bytes moved = (less, refl, moved)

-- some bytes
pub given : (rest : List ℕ) (left new : Option (List ℕ)) (bytes : List ℕ) → left ≡ Some rest → Consumes left new bytes → (less : List ℕ) × (new ≡ Some less) × (rest ≡ bytes ++ less)
given rest left new bytes is moved = consumed rest new bytes (subst (λ l. Consumes l new bytes) is moved)

-- some bytes after others
pub given_on : (got rest text : List ℕ) (left new : Option (List ℕ)) (bytes : List ℕ) → text ≡ got ++ rest → left ≡ Some rest → Consumes left new bytes
    → (less : List ℕ) × (new ≡ Some less) × (text ≡ (got ++ bytes) ++ less)
given_on got rest text left new bytes read is moved =
    let taken = given rest left new bytes is moved in (taken.0, taken.1, read ∙ ap (λ xs. got ++ xs) taken.2 ∙ sym (append_assoc got bytes taken.0))

-- a line
pub given_line : (rest : List ℕ) (left less : Option (List ℕ)) (old new : LineState) → left ≡ Some rest → GivesLine old new left less
    → (next : List ℕ) × (less ≡ Some next) × (parts is_line_feed (old.kept ++ rest) ≡ new.line ∷ parts is_line_feed (new.kept ++ next))
given_line rest left less old new is gives =
    let taken = given rest left less gives.bytes is gives.moved in
    let same : old.kept ++ rest ≡ (old.kept ++ gives.bytes) ++ taken.0 = ap (λ xs. old.kept ++ xs) taken.2 ∙ sym (append_assoc old.kept gives.bytes taken.0) in
    (taken.0, taken.1, ap (parts is_line_feed) same ∙ gives.begins taken.0)

-- all bytes
pub all_left : (rest : List ℕ) (left less : Option (List ℕ)) (bytes : List ℕ) → left ≡ Some rest → ConsumesAll left less bytes → (rest ≡ bytes) × (less ≡ Some [])
all_left rest None less bytes is moved = cc
all_left rest (Some xs) less bytes is moved = let same : xs ≡ rest = cc in (sym same ∙ moved.0, moved.1)

-- a line that is too long
pub long_test : (n : ℕ) → MOST_LINE_BYTES < n → nat_lt MOST_LINE_BYTES n ≡ true
long_test n long = grind (arith, nat_tests)
