-- Bytes of a line or a head, one by one.
use Rattle.std.proofs.Common.{◌≡◌, ℕ, ◌+◌, ◌<◌, ◌≤◌, Bool, true, false, List, [], ◌∷◌, ◌++◌, length, take, get_or, Some, None, Option, refl, ◌∙◌, sym, ap, subst, arith, append_assoc, length-append, nat_lt}
use Rattle.std.specs.Prelude.{Result, Ok, Err, nat_le, ◌||◌}
use Rattle.std.specs.Option.{option_map}
use Rattle.std.proofs.lemmas.Bool.Decides.{nat_tests}
use Rattle.std.proofs.lemmas.List.{take_more, take_at}
use Rattle.arrayvec.specs.ArrayVec.{ArrayVec}
use Rattle.pp_v1.specs.declared.meaning.Meaning.{Meaning}
use Rattle.pp_v2.specs.declared.head.Family.{Family}
use Rattle.pp_v2.specs.declared.head.Head.{Head}
use Rattle.pp_v2.specs.declared.fault.V2Fault.{V2Fault}
use Rattle.pp_v2.specs.Head.{head_of}
use Rattle.pp_any.specs.declared.fault.HeaderFault.{HeaderFault}
use Rattle.pp_any.specs.declared.rest.Rest.{Rest}
use Rattle.pp_any.specs.declared.rest.Rest.TheVariants.{Read}
use Rattle.pp_any.specs.declared.fed.Fed.{Fed}
use Rattle.pp_any.specs.declared.fed.Fed.TheVariants as feds
use Rattle.pp_any.specs.Faults.{of_head}
use Rattle.pp_any.specs.Status.{status, decision, early_fault, head_decision, is_line, line_decision}
use Rattle.pp_any.specs.Rest.{IsInHead, IsInLine, IsRest, IsWholeHead, rest_of, rest_after, rest_in_block}
use Rattle.pp_any.specs.Fed.{Answers, answer_of, used_in}
use Rattle.pp_any.proofs.Feeding.{answers_at, is_line-append, status-waits}

-- one more byte of the piece
more_joined : (b piece : List ℕ) (k : ℕ) (bytes now : List ℕ) → bytes ≡ b ++ take k piece → k < length piece → now ≡ bytes ++ get_or piece k 0 ∷ [] → now ≡ b ++ take (k + 1) piece
more_joined b piece k bytes now is within one =
    one ∙ ap (λ e. e ++ get_or piece k 0 ∷ []) is ∙ append_assoc b (take k piece) (get_or piece k 0 ∷ []) ∙ ap (λ e. b ++ e) (sym (take_more piece k 0 within))

pub used_within : (b piece : List ℕ) (fed : Fed) → Answers b piece fed → used_in fed ≤ length piece
used_within b piece (feds.More parser) answers = omega arith
used_within b piece (feds.Whole meaning used) answers = answers.0
used_within b piece (feds.Bad fault used) answers = answers.0

-- ---- a line

line_begun : (bytes : List ℕ) → is_line bytes ≡ true → 0 < length bytes
line_begun [] line = absurd cc
line_begun (x ∷ bytes) line = omega arith

said_in_line : (bytes : List ℕ) (x : ℕ) (now : List ℕ) → IsInLine bytes → now ≡ bytes ++ x ∷ [] → (is_line now ≡ true) × (decision (bytes ++ x ∷ []) ≡ line_decision now)
said_in_line bytes x now inside one =
    let after_first_byte = line_begun bytes inside.line in
    let line : is_line (bytes ++ x ∷ []) ≡ true = is_line-append bytes (x ∷ []) after_first_byte ∙ inside.line in
    (ap is_line one ∙ line, rw line (ap line_decision (sym one)))

pub line_answers : (b piece : List ℕ) (k : ℕ) (bytes now : List ℕ) (s : Result Meaning HeaderFault) → bytes ≡ b ++ take k piece → k < length piece → IsInLine bytes
    → now ≡ bytes ++ get_or piece k 0 ∷ [] → line_decision now ≡ Some s → Answers b piece (answer_of s (k + 1))
line_answers b piece k bytes now s is within inside one here =
    answers_at b piece k bytes s is within inside.waits ((said_in_line bytes (get_or piece k 0) now inside one).1 ∙ here)

pub line_goes_on : (b piece : List ℕ) (k : ℕ) (bytes now : List ℕ) → bytes ≡ b ++ take k piece → k < length piece → IsInLine bytes
    → now ≡ bytes ++ get_or piece k 0 ∷ [] → line_decision now ≡ None → length now < 107 → (now ≡ b ++ take (k + 1) piece) × IsInLine now
line_goes_on b piece k bytes now is within inside one none room =
    let both = said_in_line bytes (get_or piece k 0) now inside one in (
      more_joined b piece k bytes now is within one,
      record { waits = ap status one ∙ status-waits bytes (get_or piece k 0) inside.waits (both.1 ∙ none); line = both.0; room = room },
    )

-- ---- a head

short : (n : ℕ) → n < 16 → nat_le 16 n ≡ false
short n less = grind (arith, nat_tests)

said_in_head : (bytes : List ℕ) (x : ℕ) (now : List ℕ) → IsInHead bytes → now ≡ bytes ++ x ∷ [] → (is_line now ≡ false) × (decision (bytes ++ x ∷ []) ≡ head_decision now)
said_in_head bytes x now inside one =
    let line : is_line (bytes ++ x ∷ []) ≡ false = is_line-append bytes (x ∷ []) inside.some ∙ inside.head in
    (ap is_line one ∙ line, rw line (ap head_decision (sym one)))

head_decision-short : (now : List ℕ) (o : Option V2Fault) → length now < 16 → early_fault now ≡ o → head_decision now ≡ option_map (λ fault. Err (of_head fault)) o
head_decision-short now o less is = rw (short (length now) less) (ap (option_map (λ fault. Err (of_head fault))) is)

pub head_answers : (b piece : List ℕ) (k : ℕ) (bytes now : List ℕ) (fault : V2Fault) → bytes ≡ b ++ take k piece → k < length piece → IsInHead bytes
    → now ≡ bytes ++ get_or piece k 0 ∷ [] → length now < 16 → early_fault now ≡ Some fault → Answers b piece (feds.Bad (of_head fault) (k + 1))
head_answers b piece k bytes now fault is within inside one less here =
    answers_at b piece k bytes (Err (of_head fault)) is within inside.waits ((said_in_head bytes (get_or piece k 0) now inside one).1 ∙ head_decision-short now (Some fault) less here)

pub head_goes_on : (b piece : List ℕ) (k : ℕ) (bytes now : List ℕ) → bytes ≡ b ++ take k piece → k < length piece → IsInHead bytes
    → now ≡ bytes ++ get_or piece k 0 ∷ [] → length now < 16 → early_fault now ≡ None → (now ≡ b ++ take (k + 1) piece) × IsInHead now
head_goes_on b piece k bytes now is within inside one less none =
    let both = said_in_head bytes (get_or piece k 0) now inside one in
    let l = ap length one ∙ length-append bytes (get_or piece k 0 ∷ []) in (
      more_joined b piece k bytes now is within one,
      record {
        waits = ap status one ∙ status-waits bytes (get_or piece k 0) inside.waits (both.1 ∙ head_decision-short now None less none);
        head = both.0;
        some = omega arith;
        room = less;
      },
    )

pub head_is_whole : (b piece : List ℕ) (k : ℕ) (bytes now : List ℕ) → bytes ≡ b ++ take k piece → k < length piece → IsInHead bytes
    → now ≡ bytes ++ get_or piece k 0 ∷ [] → length now ≡ 16 → (now ≡ b ++ take (k + 1) piece) × IsWholeHead now
head_is_whole b piece k bytes now is within inside one all =
    let l = ap length one ∙ length-append bytes (get_or piece k 0 ∷ []) in (
      more_joined b piece k bytes now is within one,
      record {
        waits = ap (λ e. status (take 15 e)) one ∙ ap status (take_at bytes (get_or piece k 0 ∷ []) 15 (omega arith)) ∙ inside.waits;
        head = (said_in_head bytes (get_or piece k 0) now inside one).0;
        all = all;
      },
    )

-- ---- bytes that are held themselves

pub held_by : (b : List ℕ) (held : ArrayVec ℕ) → rest_of b ≡ Read held → b ≡ held.items
held_by b held is = by (is_line b || nat_lt (length b) 16) (head_of (take 16 b)) refl refl
  where
    same : (bytes : List ℕ) → Read (record { items = bytes }) ≡ Read held → bytes ≡ held.items
    same bytes e = let v : record { items = bytes } ≡ held = cc in ap (λ v. v.items) v

    by : (t : Bool) (h : Result Head V2Fault) → (is_line b || nat_lt (length b) 16) ≡ t → head_of (take 16 b) ≡ h → b ≡ held.items
    by true h test says = same b (rw test at is)
    by false (Err fault) test says = let found : rest_after b (head_of (take 16 b)) ≡ Read held = rw test at is in same b (ap (rest_after b) (sym says) ∙ found)
    by false (Ok head) test says =
        let found : rest_after b (head_of (take 16 b)) ≡ Read held = rw test at is in
        never head.declares (ap (rest_after b) (sym says) ∙ found)
      where
        never : (d : Option Family) → rest_in_block d head.len b ≡ Read held → b ≡ held.items
        never None wrong = absurd cc
        never (Some family) wrong = absurd cc

-- a parser that holds bytes answers for them
pub held_answers : (b bytes piece : List ℕ) (rest : Rest) (fed : Fed) → IsRest b rest → rest ≡ Read (record { items = bytes }) → Answers bytes piece fed → Answers b piece fed
held_answers b bytes piece rest fed is_rest is answers =
    let P : List ℕ → Type 0 = λ e. Answers e piece fed in
    subst P (sym (held_by b (record { items = bytes }) (is_rest.1 ∙ is))) answers
