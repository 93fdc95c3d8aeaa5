-- The first 16 bytes of version 2.
use Rattle.std.proofs.Common.{◌≡◌, ℕ, zero, suc, ◌+◌, ◌-◌, ◌<◌, ◌≤◌, Bool, true, false, List, [], ◌∷◌, ◌++◌, length, take, drop, get_or, Some, None, Option, refl, ◌∙◌, sym, ap, subst, arith, append_assoc, nat_lt, if◌then◌else◌}
use Rattle.std.specs.Prelude.{Result, Ok, Err, slice_index, ◌==◌}
use Rattle.std.proofs.lemmas.Bool.Decides.{nat_tests}
use Rattle.std.proofs.lemmas.List.{length-take-le, take_more, take_all, drop_all}
use Rattle.arrayvec.specs.ArrayVec.{ArrayVec}
use Rattle.pp_v1.specs.declared.meaning.Meaning.TheVariants.{Real}
use Rattle.pp_v2.specs.declared.head.Family.{Family}
use Rattle.pp_v2.specs.declared.head.Family.TheVariants.{V4, V6}
use Rattle.pp_v2.specs.declared.head.Head.{Head}
use Rattle.pp_v2.specs.declared.fault.V2Fault.{V2Fault}
use Rattle.pp_v2.specs.Head.{block_length, command_fault, declared_in, family_fault, head_of, length_fault, pair_length, signature_fault, unless}
use Rattle.pp_any.specs.declared.rest.Rest.TheVariants.{Block, Skip}
use Rattle.pp_any.specs.Faults.{of_head}
use Rattle.pp_any.specs.Status.{Fault, Whole, Wait, decided_at, status_from, status, decision, block_decision, meaning_in}
use Rattle.pp_any.specs.Rest.{Fits, IsAtBlock, IsRest, IsWholeHead, has_room, rest_in_block}
use Rattle.pp_any.proofs.Feeding.{status-step}
use Rattle.pp_any.proofs.Blocks.{at_least, equal, unequal}
use Rattle.pp_any.proofs.Rests.{rest_past}

-- the first 15 bytes and the last
last_apart : (b : List ℕ) → length b ≡ 16 → take 15 b ++ get_or b 15 0 ∷ [] ≡ b
last_apart b all = sym (take_more b 15 0 (omega arith)) ∙ take_all 16 b (omega arith)

said_whole : (b : List ℕ) → IsWholeHead b → decision b ≡ block_decision b (head_of b)
said_whole b whole =
    let all = whole.all in
    rw (whole.head, at_least (length b) (omega arith)) (ap (λ e. block_decision b (head_of e)) (take_all 16 b (omega arith)))

-- the status is decided at byte 16
status-whole : (b c : List ℕ) → IsWholeHead b → status (b ++ c) ≡ decided_at 16 (block_decision b (head_of b)) (status_from decision b c)
status-whole b c whole =
    let all = whole.all in
    let apart = last_apart b all in
    let l : length (take 15 b) ≡ 15 = length-take-le 15 b (omega arith) in
    let bytes_of : b ++ c ≡ take 15 b ++ get_or b 15 0 ∷ c = ap (λ e. e ++ c) (sym apart) ∙ append_assoc (take 15 b) (get_or b 15 0 ∷ []) c in
    ap status bytes_of ∙ status-step (take 15 b) (get_or b 15 0) c whole.waits
    ∙ ap (λ n. decided_at (n + 1) (decision (take 15 b ++ get_or b 15 0 ∷ [])) (status_from decision (take 15 b ++ get_or b 15 0 ∷ []) c)) l
    ∙ ap (λ e. decided_at 16 (decision e) (status_from decision e c)) apart
    ∙ ap (λ o. decided_at 16 o (status_from decision b c)) (said_whole b whole)

pub head_faulty : (b c : List ℕ) (fault : V2Fault) → IsWholeHead b → head_of b ≡ Err fault → status (b ++ c) ≡ Fault (of_head fault) (length b)
head_faulty b c fault whole says =
    status-whole b c whole ∙ ap (λ r. decided_at 16 (block_decision b r) (status_from decision b c)) says ∙ ap (λ n. Fault (of_head fault) n) (sym whole.all)

pub none_fits : (d : Option Family) → has_room d 0 → d ≡ None
none_fits None room = refl
none_fits (Some V4) room = absurd (omega arith)
none_fits (Some V6) room = absurd (omega arith)

said_at_head : (b : List ℕ) (head : Head) (t : Bool) → head_of b ≡ Ok head → (length b == 16 + head.len) ≡ t
    → block_decision b (head_of b) ≡ (if t then Some (Ok (meaning_in head.declares (drop 16 b))) else None)
said_at_head b head t says test = ap (block_decision b) says ∙ rw test refl

pub head_alone : (b c : List ℕ) (head : Head) → IsAtBlock b head → Fits head → head.len ≡ 0 → status (b ++ c) ≡ Whole (length b) Real
head_alone b c head there fits empty =
    let all = there.whole.all in
    let none : head.declares ≡ None = none_fits head.declares (rw empty at fits) in
    status-whole b c there.whole
    ∙ ap (λ o. decided_at 16 o (status_from decision b c)) (said_at_head b head true there.says (equal (length b) (16 + head.len) (omega arith)))
    ∙ ap (λ d. Whole 16 (meaning_in d (drop 16 b))) none
    ∙ ap (λ n. Whole n Real) (sym all)

nil_append : (b : List ℕ) → b ++ [] ≡ b
nil_append [] = refl
nil_append (x ∷ b) = ap (λ c. x ∷ c) (nil_append b)

pub head_rest : (b : List ℕ) (head : Head) → IsAtBlock b head → 0 < head.len → IsRest b (rest_in_block head.declares head.len b)
head_rest b head there some =
    let all = there.whole.all in (
      ap status (sym (nil_append b)) ∙ status-whole b [] there.whole
          ∙ ap (λ o. decided_at 16 o Wait) (said_at_head b head false there.says (unequal (length b) (16 + head.len) (omega arith))),
      rest_past b head there.whole.head (omega arith) (ap head_of (take_all 16 b (omega arith)) ∙ there.says),
    )

-- ---- a head that is read has room for its pair

pub unless_ok : (o : Option V2Fault) (r : Result Head V2Fault) (head : Head) → unless o r ≡ Ok head → (o ≡ None) × (r ≡ Ok head)
unless_ok None r head is = (refl, is)
unless_ok (Some fault) r head is = absurd cc

room_by : (d : Option Family) (len : ℕ) → length_fault d len ≡ None → has_room d len
room_by None len is = tt
room_by (Some family) len is = by (nat_lt len (pair_length family)) refl
  where
    by : (t : Bool) → nat_lt len (pair_length family) ≡ t → pair_length family ≤ len
    by true test = let wrong = rw test at is in absurd cc
    by false test = grind (arith, nat_tests)

same_head : (a b : Head) → ◌≡◌ {A = Result Head V2Fault} (Ok a) (Ok b) → a ≡ b
same_head a b is = cc

room_of : (a b c : Option V2Fault) (d : Option Family) (len : ℕ) (head : Head)
    → unless a (unless b (unless c (unless (length_fault d len) (Ok (record { declares = d; len = len }))))) ≡ Ok head → Fits head
room_of None None None d len head is =
    let fourth = unless_ok (length_fault d len) (Ok (record { declares = d; len = len })) head is in
    let P : Head → Type 0 = λ h. has_room h.declares h.len in
    subst P (same_head (record { declares = d; len = len }) head fourth.1) (room_by d len fourth.0)
room_of None None (Some fault) d len head is = absurd cc
room_of None (Some fault) c d len head is = absurd cc
room_of (Some fault) b c d len head is = absurd cc

pub head_fits : (b : List ℕ) (head : Head) → head_of b ≡ Ok head → Fits head
head_fits b head is =
    room_of (signature_fault b) (command_fault (slice_index b 12)) (family_fault (slice_index b 12) (slice_index b 13)) (declared_in b) (block_length b) head is

-- ---- the rest after the first 16 bytes

nothing_past : (b : List ℕ) → length b ≡ 16 → drop 16 b ≡ []
nothing_past b all = drop_all 16 b (omega arith)

nothing_of : (n : ℕ) → take {A = ℕ} n [] ≡ []
nothing_of zero = refl
nothing_of (suc n) = refl

pub head_declares : (b : List ℕ) (head : Head) (family : Family) (held : ArrayVec ℕ) (m : ℕ) → IsAtBlock b head → 0 < head.len → head.declares ≡ Some family
    → held.items ≡ [] → m ≡ head.len → IsRest b (Block family held m)
head_declares b head family held m there some declares empty missing =
    let all = there.whole.all in
    let rest = head_rest b head there some in
    let none : take (pair_length family) (drop 16 b) ≡ held.items =
    ap (λ e. take (pair_length family) e) (nothing_past b all) ∙ nothing_of (pair_length family) ∙ sym empty in
    let count : 16 + head.len - length b ≡ m = omega arith in (
      rest.0,
      rest.1 ∙ ap (λ d. rest_in_block d head.len b) declares
          ∙ ap (λ e. Block family (record { items = e }) (16 + head.len - length b)) none
          ∙ ap (λ n. Block family held n) count,
    )

pub head_skips : (b : List ℕ) (head : Head) (m : ℕ) → IsAtBlock b head → 0 < head.len → head.declares ≡ None → m ≡ head.len → IsRest b (Skip m)
head_skips b head m there some none missing =
    let all = there.whole.all in
    let rest = head_rest b head there some in
    let count : 16 + head.len - length b ≡ m = omega arith in
    (rest.0, rest.1 ∙ ap (λ d. rest_in_block d head.len b) none ∙ ap (λ n. Skip n) count)
