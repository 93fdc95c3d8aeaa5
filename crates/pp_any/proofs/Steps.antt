-- The status of bytes that go on.
use Rattle.std.proofs.Common.{◌≡◌, ◌≢◌, ℕ, ◌+◌, List, [], ◌∷◌, ◌++◌, length, Some, None, Option, refl, ◌∙◌, sym, ap, append_assoc}
use Rattle.std.specs.Prelude.{Result, Ok, Err}
use Rattle.std.proofs.lemmas.List.{append-nil}
use Rattle.pp_v1.specs.declared.meaning.Meaning.{Meaning}
use Rattle.pp_any.specs.declared.fault.HeaderFault.{HeaderFault}
use Rattle.pp_any.specs.Status.{Status, Wait, decided_at, status_from}

abbrev pub Say : Type 0
Say = Option (Result Meaning HeaderFault)

-- a decision is no wait, unless nothing is decided and what comes later waits
later_waits : (n : ℕ) (o : Say) (s : Status) → decided_at n o s ≡ Wait → (o ≡ None) × (s ≡ Wait)
later_waits n None s is = (refl, is)
later_waits n (Some (Ok meaning)) s is = absurd cc
later_waits n (Some (Err fault)) s is = absurd cc

-- bytes after some that wait
pub status_from-append : (says : List ℕ → Say) (d b c : List ℕ) → status_from says d b ≡ Wait → status_from says d (b ++ c) ≡ status_from says (d ++ b) c
status_from-append says d [] c waits = ap (λ e. status_from says e c) (sym (append-nil d))
status_from-append says d (x ∷ b) c waits =
    let both = later_waits (length d + 1) (says (d ++ x ∷ [])) (status_from says (d ++ x ∷ []) b) waits in
    ap (λ o. decided_at (length d + 1) o (status_from says (d ++ x ∷ []) (b ++ c))) both.0
    ∙ status_from-append says (d ++ x ∷ []) b c both.1
    ∙ ap (λ e. status_from says e c) (append_assoc d (x ∷ []) b)

-- bytes after some that are decided
pub status_from-decided : (says : List ℕ → Say) (d b c : List ℕ) → status_from says d b ≢ Wait → status_from says d (b ++ c) ≡ status_from says d b
status_from-decided says d [] c decided = absurd (decided refl)
status_from-decided says d (x ∷ b) c decided = by (says (d ++ x ∷ [])) refl (status_from-decided says (d ++ x ∷ []) b c)
  where
    by : (o : Say) → says (d ++ x ∷ []) ≡ o → (status_from says (d ++ x ∷ []) b ≢ Wait → status_from says (d ++ x ∷ []) (b ++ c) ≡ status_from says (d ++ x ∷ []) b)
        → status_from says d (x ∷ b ++ c) ≡ status_from says d (x ∷ b)
    by None is rest = rw is (rest (λ waits. decided (rw is waits)))
    by (Some (Ok meaning)) is rest = rw is refl
    by (Some (Err fault)) is rest = rw is refl
