-- Fronts of what is written.
use Rattle.std.proofs.Common.{◌≡◌, ℕ, ◌<◌, List, [], ◌++◌, length, take, drop, Option, Some, None, refl, ap, subst, sym, ◌∙◌, append_assoc, append-nil}
use Rattle.std.proofs.lemmas.List.{take-append-drop}
use Rattle.std.specs.Io.KnownBytes.{Appends}
use Rattle.replay_core.specs.Replay.{IsFront}

cut_text : (sent unsent rest : List ℕ) (n : ℕ) → sent ++ unsent ++ rest ≡ sent ++ take n unsent ++ (drop n unsent ++ rest)
cut_text sent unsent rest n =
    ap (λ xs. sent ++ xs ++ rest) (sym (take-append-drop n unsent))
    ∙ ap (λ xs. xs ++ rest) (sym (append_assoc sent (take n unsent) (drop n unsent)))
    ∙ append_assoc (sent ++ take n unsent) (drop n unsent) rest

appended : (sent : List ℕ) (new : Option (List ℕ)) (unsent rest : List ℕ) (n : ℕ) → Appends (Some sent) new (take n unsent) → IsFront new (sent ++ unsent ++ rest)
appended sent None unsent rest n added = absurd added
appended sent (Some held) unsent rest n added =
    (held, drop n unsent ++ rest, refl, cut_text sent unsent rest n ∙ ap (λ xs. xs ++ (drop n unsent ++ rest)) (sym added))

-- where a part was written, what is held is the front of all of it and more
pub front_written : (old new : Option (List ℕ)) (unsent : List ℕ) → ((n : ℕ) × (n < length unsent) × Appends old new (take n unsent)) → (sent rest : List ℕ) → old ≡ Some sent
    → IsFront new (sent ++ unsent ++ rest)
front_written None new unsent part sent rest is = cc
front_written (Some held) new unsent part sent rest is =
    let same : held ≡ sent = cc in
    let added : Appends (Some sent) new (take part.0 unsent) = subst (λ xs. Appends (Some xs) new (take part.0 unsent)) same part.2 in
    appended sent new unsent rest part.0 added

-- where a part of a line was written, what is held is the front of the line
pub front_line : (old new : Option (List ℕ)) (line : List ℕ) → ((n : ℕ) × (n < length line) × Appends old new (take n line)) → (sent : List ℕ) → old ≡ Some sent
    → IsFront new (sent ++ line)
front_line old new line part sent is =
    let front = front_written old new line part sent [] is in (front.0, front.1, front.2, sym (append-nil (sent ++ line)) ∙ front.3)
