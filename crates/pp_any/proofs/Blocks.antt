-- Bytes of a block.
use Rattle.std.proofs.Common.{◌≡◌, ℕ, zero, suc, ◌+◌, ◌<◌, ◌≤◌, Bool, true, false, List, [], ◌∷◌, ◌++◌, length, take, drop, Some, None, refl, ◌∙◌, ap, arith, append_assoc, length-append, if◌then◌else◌}
use Rattle.std.specs.Prelude.{Ok, nat_le, ◌==◌}
use Rattle.std.proofs.lemmas.Bool.Decides.{nat_tests}
use Rattle.std.proofs.lemmas.List.{take-append-le}
use Rattle.pp_v2.specs.declared.head.Head.{Head}
use Rattle.pp_v2.specs.Head.{head_of}
use Rattle.pp_any.specs.Status.{Whole, Wait, decided_at, status_from, decision, is_line, block_decision, meaning_in}
use Rattle.pp_any.proofs.Feeding.{is_line-append}

-- bytes of a header with that head, of which so many are missing
pub record Lacks (bytes : List ℕ) (head : Head) (missing : ℕ) : Type 0 where
  pub version : is_line bytes ≡ false
  pub past : 16 ≤ length bytes
  pub says : head_of (take 16 bytes) ≡ Ok head
  pub all : length bytes + missing ≡ 16 + head.len

pub at_least : (n : ℕ) → 16 ≤ n → nat_le 16 n ≡ true
at_least n le = grind (arith, nat_tests)

pub equal : (n m : ℕ) → n ≡ m → (n == m) ≡ true
equal n m is = grind (arith, nat_tests)

pub unequal : (n m : ℕ) → n < m → (n == m) ≡ false
unequal n m is = grind (arith, nat_tests)

said_past : (b : List ℕ) (head : Head) (o : Bool) → is_line b ≡ false → 16 ≤ length b → head_of (take 16 b) ≡ Ok head → (length b == 16 + head.len) ≡ o
    → decision b ≡ (if o then Some (Ok (meaning_in head.declares (drop 16 b))) else None)
said_past b head o version past says test = rw (version, at_least (length b) past) (ap (block_decision b) says ∙ rw test refl)

-- a byte more
one_more : (b : List ℕ) (x : ℕ) (head : Head) (m : ℕ) → Lacks b head (suc m) → Lacks (b ++ x ∷ []) head m
one_more b x head m lacks =
    let l = length-append b (x ∷ []) in
    let p = lacks.past in
    let a = lacks.all in
    record {
      version = is_line-append b (x ∷ []) (omega arith) ∙ lacks.version;
      past = omega arith;
      says = ap head_of (take-append-le 16 b (x ∷ []) p) ∙ lacks.says;
      all = omega arith;
    }

said_inside : (b : List ℕ) (head : Head) (m : ℕ) → Lacks b head m → 0 < m → decision b ≡ None
said_inside b head m lacks some =
    let a = lacks.all in
    said_past b head false lacks.version lacks.past lacks.says (unequal (length b) (16 + head.len) (omega arith))

pub said_at_end : (b : List ℕ) (head : Head) → Lacks b head 0 → decision b ≡ Some (Ok (meaning_in head.declares (drop 16 b)))
said_at_end b head lacks =
    let a = lacks.all in
    said_past b head true lacks.version lacks.past lacks.says (equal (length b) (16 + head.len) (omega arith))

pub block_waits : (b c : List ℕ) (head : Head) (m : ℕ) → Lacks b head m → length c < m → status_from decision b c ≡ Wait
block_waits b [] head m lacks less = refl
block_waits b (x ∷ c) head zero lacks less = absurd (omega arith)
block_waits b (x ∷ c) head (suc m) lacks less =
    let more : Lacks (b ++ x ∷ []) head m = one_more b x head m lacks in
    ap (λ o. decided_at (length b + 1) o (status_from decision (b ++ x ∷ []) c)) (said_inside (b ++ x ∷ []) head m more (omega arith))
    ∙ block_waits (b ++ x ∷ []) c head m more (omega arith)

pub block_ends : (b c : List ℕ) (head : Head) (m : ℕ) → Lacks b head m → 0 < m → m ≤ length c
    → status_from decision b c ≡ Whole (length b + m) (meaning_in head.declares (drop 16 (b ++ take m c)))
block_ends b c head zero lacks some within = absurd (omega arith)
block_ends b [] head (suc m) lacks some within = absurd (omega arith)
block_ends b (x ∷ c) head (suc zero) lacks some within =
    ap (λ o. decided_at (length b + 1) o (status_from decision (b ++ x ∷ []) c)) (said_at_end (b ++ x ∷ []) head (one_more b x head 0 lacks))
block_ends b (x ∷ c) head (suc (suc m)) lacks some within =
    let more : Lacks (b ++ x ∷ []) head (suc m) = one_more b x head (suc m) lacks in
    let l = length-append b (x ∷ []) in
    let count : length (b ++ x ∷ []) + suc m ≡ length b + suc (suc m) = omega arith in
    ap (λ o. decided_at (length b + 1) o (status_from decision (b ++ x ∷ []) c)) (said_inside (b ++ x ∷ []) head (suc m) more (omega arith))
    ∙ block_ends (b ++ x ∷ []) c head (suc m) more (omega arith) (omega arith)
    ∙ ap (λ n. Whole n (meaning_in head.declares (drop 16 ((b ++ x ∷ []) ++ take (suc m) c)))) count
    ∙ ap (λ e. Whole (length b + suc (suc m)) (meaning_in head.declares (drop 16 e))) (append_assoc b (x ∷ []) (take (suc m) c))
