-- The status is what the first byte decides that decides anything.
use Rattle.std.proofs.Common.{◌≡◌, ◌≢◌, ℕ, zero, suc, ◌+◌, ◌<◌, ◌≤◌, List, [], ◌∷◌, ◌++◌, length, take, Some, None, refl, ◌∙◌, sym, ap, subst, arith, append_assoc, length-append}
use Rattle.std.specs.Prelude.{Result, Ok, Err}
use Rattle.pp_v1.specs.declared.meaning.Meaning.{Meaning}
use Rattle.pp_any.specs.declared.fault.HeaderFault.{HeaderFault}
use Rattle.pp_any.specs.Status.{Status, Whole, Fault, Wait, decided_at, decision, status, status_from}
use Rattle.pp_any.specs.Header.{IsHeader, IsDecidedAt}
use Rattle.pp_any.proofs.Steps.{Say, status_from-decided}

-- the status of a decision at so many bytes
abbrev pub given : ℕ → Result Meaning HeaderFault → Status
given count (Ok meaning) = Whole count meaning
given count (Err fault) = Fault fault count

decided_at-some : (n : ℕ) (s : Result Meaning HeaderFault) (later : Status) → decided_at n (Some s) later ≡ given n s
decided_at-some n (Ok meaning) later = refl
decided_at-some n (Err fault) later = refl

-- after some bytes: the last of so many more decides it
record FirstAfter (says : List ℕ → Say) (d b : List ℕ) (j : ℕ) (s : Result Meaning HeaderFault) : Type 0 where
  some : 0 < j
  within : j ≤ length b
  here : says (d ++ take j b) ≡ Some s
  first : (k : ℕ) → 0 < k → k < j → says (d ++ take k b) ≡ None

-- a byte further
shifted : (says : List ℕ → Say) (d : List ℕ) (x : ℕ) (b : List ℕ) (k : ℕ) (o : Say) → says ((d ++ x ∷ []) ++ take k b) ≡ o → says (d ++ take (suc k) (x ∷ b)) ≡ o
shifted says d x b k o is = ap says (sym (append_assoc d (x ∷ []) (take k b))) ∙ is

unshifted : (says : List ℕ → Say) (d : List ℕ) (x : ℕ) (b : List ℕ) (k : ℕ) (o : Say) → says (d ++ take (suc k) (x ∷ b)) ≡ o → says ((d ++ x ∷ []) ++ take k b) ≡ o
unshifted says d x b k o is = ap says (append_assoc d (x ∷ []) (take k b)) ∙ is

status_at : (says : List ℕ → Say) (d b : List ℕ) (j : ℕ) (s : Result Meaning HeaderFault) → FirstAfter says d b j s → status_from says d b ≡ given (length d + j) s
status_at says d [] j s f = let a = f.some in let w = f.within in absurd (omega arith)
status_at says d (x ∷ b) zero s f = let a = f.some in absurd (omega arith)
status_at says d (x ∷ b) (suc zero) s f =
    ap (λ o. decided_at (length d + 1) o (status_from says (d ++ x ∷ []) b)) f.here ∙ decided_at-some (length d + 1) s (status_from says (d ++ x ∷ []) b)
status_at says d (x ∷ b) (suc (suc j)) s f =
    let w = f.within in
    let l = length-append d (x ∷ []) in
    let count : length (d ++ x ∷ []) + suc j ≡ length d + suc (suc j) = omega arith in
    ap (λ o. decided_at (length d + 1) o (status_from says (d ++ x ∷ []) b)) (f.first 1 (omega arith) (omega arith))
    ∙ status_at says (d ++ x ∷ []) b (suc j) s (record {
      some = omega arith;
      within = omega arith;
      here = unshifted says d x b (suc j) (Some s) f.here;
      first = λ k some less. unshifted says d x b k None (f.first (suc k) (omega arith) (omega arith));
    })
    ∙ ap (λ n. given n s) count

-- what a status says of bytes
data Tells (says : List ℕ → Say) (d b : List ℕ) (status : Status) : Type 0 where
  At : (j : ℕ) (s : Result Meaning HeaderFault) → status ≡ given (length d + j) s → FirstAfter says d b j s → Tells says d b status
  Nowhere : status ≡ Wait → ((k : ℕ) → 0 < k → k ≤ length b → says (d ++ take k b) ≡ None) → Tells says d b status

at_first : (says : List ℕ → Say) (d : List ℕ) (x : ℕ) (b : List ℕ) (s : Result Meaning HeaderFault) → says (d ++ x ∷ []) ≡ Some s → FirstAfter says d (x ∷ b) 1 s
at_first says d x b s is = record { some = omega arith; within = omega arith; here = is; first = λ k some less. absurd (omega arith) }

tells : (says : List ℕ → Say) (d b : List ℕ) → Tells says d b (status_from says d b)
tells says d [] = Nowhere refl (λ k some within. absurd (omega arith))
tells says d (x ∷ b) = by (says (d ++ x ∷ [])) refl (tells says (d ++ x ∷ []) b)
  where
    later : says (d ++ x ∷ []) ≡ None → (status_is : status_from says d (x ∷ b) ≡ status_from says (d ++ x ∷ []) b) → Tells says (d ++ x ∷ []) b (status_from says (d ++ x ∷ []) b) → Tells says d (x ∷ b) (status_from says d (x ∷ b))
    later none status_is (At j s is f) =
        let w = f.within in
        let l = length-append d (x ∷ []) in
        let count : length (d ++ x ∷ []) + j ≡ length d + suc j = omega arith in
        At (suc j) s (status_is ∙ is ∙ ap (λ n. given n s) count)
        (record { some = omega arith; within = omega arith; here = shifted says d x b j (Some s) f.here; first = before j s f none })
      where
        before : (j : ℕ) (s : Result Meaning HeaderFault) → FirstAfter says (d ++ x ∷ []) b j s → says (d ++ x ∷ []) ≡ None → (k : ℕ) → 0 < k → k < suc j → says (d ++ take k (x ∷ b)) ≡ None
        before j s f none zero some less = absurd (omega arith)
        before j s f none (suc zero) some less = none
        before j s f none (suc (suc k)) some less = shifted says d x b (suc k) None (f.first (suc k) (omega arith) (omega arith))
    later none status_is (Nowhere is never) = Nowhere (status_is ∙ is) (nowhere never none)
      where
        nowhere : ((k : ℕ) → 0 < k → k ≤ length b → says ((d ++ x ∷ []) ++ take k b) ≡ None) → says (d ++ x ∷ []) ≡ None → (k : ℕ) → 0 < k → k ≤ length (x ∷ b) → says (d ++ take k (x ∷ b)) ≡ None
        nowhere never none zero some within = absurd (omega arith)
        nowhere never none (suc zero) some within = none
        nowhere never none (suc (suc k)) some within = shifted says d x b (suc k) None (never (suc k) (omega arith) (omega arith))

    by : (o : Say) → says (d ++ x ∷ []) ≡ o → Tells says (d ++ x ∷ []) b (status_from says (d ++ x ∷ []) b) → Tells says d (x ∷ b) (status_from says d (x ∷ b))
    by (Some s) is rest =
        At 1 s (ap (λ o. decided_at (length d + 1) o (status_from says (d ++ x ∷ []) b)) is ∙ decided_at-some (length d + 1) s (status_from says (d ++ x ∷ []) b)) (at_first says d x b s is)
    by None is rest = later is (ap (λ o. decided_at (length d + 1) o (status_from says (d ++ x ∷ []) b)) is) rest

given_same : (n m : ℕ) (r s : Result Meaning HeaderFault) → given n r ≡ given m s → (n ≡ m) × (r ≡ s)
given_same n m (Ok v) (Ok w) is = let count : n ≡ m = cc in let meaning : v ≡ w = cc in (count, ap (λ v. Ok v) meaning)
given_same n m (Err v) (Err w) is = let count : n ≡ m = cc in let fault : v ≡ w = cc in (count, ap (λ v. Err v) fault)
given_same n m (Ok v) (Err w) is = absurd cc
given_same n m (Err v) (Ok w) is = absurd cc

pub given_no_wait : (n : ℕ) (s : Result Meaning HeaderFault) → given n s ≡ Wait → ⊥
given_no_wait n (Ok v) is = absurd cc
given_no_wait n (Err v) is = absurd cc

pub status_first : (b : List ℕ) (count : ℕ) (s : Result Meaning HeaderFault) → IsDecidedAt b count s → status b ≡ given count s
status_first b count s f =
    let zero_more : 0 + count ≡ count = omega arith in
    status_at decision [] b count s (record { some = f.some; within = f.within; here = f.here; first = f.first }) ∙ ap (λ n. given n s) zero_more

pub first_of_status : (b : List ℕ) (count : ℕ) (s : Result Meaning HeaderFault) → status b ≡ given count s → IsDecidedAt b count s
first_of_status b count s is = by (tells decision [] b)
  where
    by : Tells decision [] b (status b) → IsDecidedAt b count s
    by (Nowhere waits never) = absurd (given_no_wait count s (sym is ∙ waits))
    by (At j t found f) = at_same j t (given_same (0 + j) count t s (sym found ∙ is)) f
      where
        at_same : (j : ℕ) (t : Result Meaning HeaderFault) → (0 + j ≡ count) × (t ≡ s) → FirstAfter decision [] b j t → IsDecidedAt b count s
        at_same j t same f =
            let count_is : j ≡ count = let e = same.0 in omega arith in
            let P : ℕ → Type 0 = λ n. IsDecidedAt b n s in
            subst P count_is (record { some = f.some; within = f.within; here = f.here ∙ ap (λ t. Some t) same.1; first = f.first })

pub waits_nowhere : (b : List ℕ) → status b ≡ Wait → (k : ℕ) → 0 < k → k ≤ length b → decision (take k b) ≡ None
waits_nowhere b waits = by (tells decision [] b)
  where
    by : Tells decision [] b (status b) → (k : ℕ) → 0 < k → k ≤ length b → decision (take k b) ≡ None
    by (Nowhere is never) = never
    by (At j t found f) = absurd (given_no_wait (0 + j) t (sym found ∙ waits))

pub nowhere_waits : (b : List ℕ) → ((k : ℕ) → 0 < k → k ≤ length b → decision (take k b) ≡ None) → status b ≡ Wait
nowhere_waits b never = by (tells decision [] b)
  where
    by : Tells decision [] b (status b) → status b ≡ Wait
    by (Nowhere is none) = is
    by (At j t found f) = absurd (apart (sym (never j f.some f.within) ∙ f.here))
      where
        apart : {t : Result Meaning HeaderFault} → ◌≡◌ {A = Say} None (Some t) → ⊥
        apart wrong = absurd cc

pub decided_once : (b c : List ℕ) → status b ≢ Wait → status (b ++ c) ≡ status b
decided_once b c decided = status_from-decided decision [] b c decided

-- no header is a proper prefix of another
pub header_alone : (b c : List ℕ) (meaning other : Meaning) → IsHeader b meaning → IsHeader (b ++ c) other → c ≡ []
header_alone b c meaning other is more =
    let same : Whole (length b) meaning ≡ Whole (length (b ++ c)) other =
    sym is ∙ sym (decided_once b c (λ waits. given_no_wait (length b) (Ok meaning) (sym is ∙ waits))) ∙ more in
    let count : length b ≡ length (b ++ c) = (given_same (length b) (length (b ++ c)) (Ok meaning) (Ok other) same).0 in
    let l = length-append b c in
    empty c (omega arith)
  where
    empty : (c : List ℕ) → length c ≡ 0 → c ≡ []
    empty [] none = refl
    empty (x ∷ c) none = absurd (omega arith)
