-- Bytes in hexadecimal, one after the other.
use Rattle.std.proofs.Common.{◌≡◌, ℕ, ◌+◌, ◌/◌, ◌%◌, ◌<◌, ◌≤◌, List, [], ◌∷◌, ◌++◌, length, drop, ap, sym, ◌∙◌, append_assoc, append-nil, refl}
use Rattle.std.specs.Prelude.{slice_index}
use Rattle.std.proofs.lemmas.List.{drop_all}
use Rattle.hex.specs.Hex.{encode_lower, encode_with, lower_digits}
use Rattle.hex.proofs.Pairs.{encode_with-drop}

-- a byte more
pub digits_on : (out bytes all : List ℕ) (i : ℕ) → i < length bytes → out ++ encode_lower (drop i bytes) ≡ all
    → (out ++ slice_index lower_digits (slice_index bytes i / 16) ∷ slice_index lower_digits (slice_index bytes i % 16) ∷ []) ++ encode_lower (drop (i + 1) bytes) ≡ all
digits_on out bytes all i less is =
    let high = slice_index lower_digits (slice_index bytes i / 16) in
    let low = slice_index lower_digits (slice_index bytes i % 16) in
    append_assoc out (high ∷ low ∷ []) (encode_lower (drop (i + 1) bytes)) ∙ ap (λ xs. out ++ xs) (sym (encode_with-drop lower_digits bytes i less)) ∙ is

none : encode_lower [] ≡ []
unfolding encode_with
none = refl

-- all bytes
pub digits_end : (out bytes all : List ℕ) (i : ℕ) → length bytes ≤ i → out ++ encode_lower (drop i bytes) ≡ all → out ≡ all
digits_end out bytes all i less is = sym (ap (λ xs. out ++ encode_lower xs) (drop_all i bytes less) ∙ ap (λ xs. out ++ xs) none ∙ append-nil out) ∙ is
