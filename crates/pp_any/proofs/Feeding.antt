-- Answers to a piece, by what its bytes decide.
use Rattle.std.proofs.Common.{◌≡◌, ℕ, ◌+◌, ◌<◌, ◌≤◌, List, [], ◌∷◌, ◌++◌, length, take, drop, get_or, Some, None, refl, ◌∙◌, sym, ap, subst, arith, append_assoc, length-append}
use Rattle.std.specs.Prelude.{Result, Ok, Err}
use Rattle.std.proofs.lemmas.List.{length-take-le, length-drop, take-append-drop, drop_more}
use Rattle.pp_v1.specs.declared.meaning.Meaning.{Meaning}
use Rattle.pp_any.specs.declared.fault.HeaderFault.{HeaderFault}
use Rattle.pp_any.specs.declared.fed.Fed.{Fed}
use Rattle.pp_any.specs.declared.fed.Fed.TheVariants as feds
use Rattle.pp_any.specs.Status.{Whole, Fault, Wait, decided_at, status_from, status, decision, is_line}
use Rattle.pp_any.specs.Rest.{IsRest}
use Rattle.pp_any.specs.Fed.{Answers, later, answer_of}
use Rattle.pp_any.proofs.Steps.{status_from-append}

-- one more byte after bytes that wait
pub status-step : (b : List ℕ) (x : ℕ) (c : List ℕ) → status b ≡ Wait → status (b ++ x ∷ c) ≡ decided_at (length b + 1) (decision (b ++ x ∷ [])) (status_from decision (b ++ x ∷ []) c)
status-step b x c waits = status_from-append decision [] b (x ∷ c) waits

pub status-waits : (b : List ℕ) (x : ℕ) → status b ≡ Wait → decision (b ++ x ∷ []) ≡ None → status (b ++ x ∷ []) ≡ Wait
status-waits b x waits none = status-step b x [] waits ∙ ap (λ o. decided_at (length b + 1) o Wait) none

-- the bytes before a place of a piece, and those after it
pub joined_at : (b piece : List ℕ) (k : ℕ) (bytes : List ℕ) → bytes ≡ b ++ take k piece → bytes ++ drop k piece ≡ b ++ piece
joined_at b piece k bytes is = ap (λ e. e ++ drop k piece) is ∙ append_assoc b (take k piece) (drop k piece) ∙ ap (λ e. b ++ e) (take-append-drop k piece)

pub length_at : (b piece : List ℕ) (k : ℕ) (bytes : List ℕ) → bytes ≡ b ++ take k piece → k ≤ length piece → length bytes ≡ length b + k
length_at b piece k bytes is within = ap length is ∙ length-append b (take k piece) ∙ ap (λ n. length b + n) (length-take-le k piece within)

-- what a byte of the piece decides is the answer
pub answers_at : (b piece : List ℕ) (k : ℕ) (bytes : List ℕ) (s : Result Meaning HeaderFault) → bytes ≡ b ++ take k piece → k < length piece
    → status bytes ≡ Wait → decision (bytes ++ get_or piece k 0 ∷ []) ≡ Some s → Answers b piece (answer_of s (k + 1))
answers_at b piece k bytes s is within waits here =
    by s (ap status whole ∙ status-step bytes (get_or piece k 0) (drop (k + 1) piece) waits ∙ ap (λ o. decided_at (length bytes + 1) o (status_from decision (bytes ++ get_or piece k 0 ∷ []) (drop (k + 1) piece))) here)
  where
    whole : b ++ piece ≡ bytes ++ get_or piece k 0 ∷ drop (k + 1) piece
    whole = sym (joined_at b piece k bytes is) ∙ ap (λ e. bytes ++ e) (drop_more piece k 0 within)

    count : length bytes + 1 ≡ length b + (k + 1)
    count = let l = length_at b piece k bytes is (omega arith) in omega arith

    by : (s : Result Meaning HeaderFault) → status (b ++ piece) ≡ decided_at (length bytes + 1) (Some s) (status_from decision (bytes ++ get_or piece k 0 ∷ []) (drop (k + 1) piece)) → Answers b piece (answer_of s (k + 1))
    by (Ok meaning) found = (omega arith, found ∙ ap (λ n. Whole n meaning) count)
    by (Err fault) found = (omega arith, found ∙ ap (λ n. Fault fault n) count)

-- the answer to the rest of a piece, as one to the whole piece
pub answers_later : (b piece : List ℕ) (k : ℕ) (bytes : List ℕ) (fed : Fed) → bytes ≡ b ++ take k piece → k ≤ length piece
    → Answers bytes (drop k piece) fed → Answers b piece (later k fed)
answers_later b piece k bytes (feds.More parser) is within answers = let P : List ℕ → Type 0 = λ e. IsRest e parser in subst P (joined_at b piece k bytes is) answers
answers_later b piece k bytes (feds.Whole meaning used) is within answers =
    let l = length_at b piece k bytes is within in
    let d = length-drop k piece in
    let most : used ≤ length (drop k piece) = answers.0 in
    let count : length bytes + used ≡ length b + (used + k) = omega arith in
    (omega arith, ap status (sym (joined_at b piece k bytes is)) ∙ answers.1 ∙ ap (λ n. Whole n meaning) count)
answers_later b piece k bytes (feds.Bad fault used) is within answers =
    let l = length_at b piece k bytes is within in
    let d = length-drop k piece in
    let most : used ≤ length (drop k piece) = answers.0 in
    let count : length bytes + used ≡ length b + (used + k) = omega arith in
    (omega arith, ap status (sym (joined_at b piece k bytes is)) ∙ answers.1 ∙ ap (λ n. Fault fault n) count)

-- the first byte says the version
pub is_line-append : (b c : List ℕ) → 0 < length b → is_line (b ++ c) ≡ is_line b
is_line-append [] c some = absurd (omega arith)
is_line-append (x ∷ b) c some = refl
