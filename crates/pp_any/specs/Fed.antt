-- What a feed answers.
use Rattle.std.specs.Prelude.{◌≡◌, ℕ, ◌+◌, ◌≤◌, List, ◌++◌, length, Result, Ok, Err}
use Rattle.std.specs.List.{flat_map}
use Rattle.std.specs.Borrow.{Bor}
use Rattle.pp_v1.specs.declared.meaning.Meaning.{Meaning}
use Rattle.pp_any.specs.declared.fault.HeaderFault.{HeaderFault}
use Rattle.pp_any.specs.declared.fed.Fed.{Fed}
use Rattle.pp_any.specs.declared.fed.Fed.TheVariants as feds
use Rattle.pp_any.specs.Status.{Whole, Fault, status}
use Rattle.pp_any.specs.Rest.{IsRest}

-- The answer to a piece that comes after some bytes is the status of all of them. What it says was used counts
-- bytes of the piece.
abbrev pub Answers : List ℕ → List ℕ → Fed → Type 0
Answers before piece (feds.More parser) = IsRest (before ++ piece) parser
Answers before piece (feds.Whole meaning used) = (used ≤ length piece) × (status (before ++ piece) ≡ Whole (length before + used) meaning)
Answers before piece (feds.Bad fault used) = (used ≤ length piece) × (status (before ++ piece) ≡ Fault fault (length before + used))

abbrev pub answer_of : Result Meaning HeaderFault → ℕ → Fed
answer_of (Ok meaning) used = feds.Whole meaning used
answer_of (Err fault) used = feds.Bad fault used

abbrev pub used_in : Fed → ℕ
used_in (feds.More parser) = 0
used_in (feds.Whole meaning used) = used
used_in (feds.Bad fault used) = used

abbrev pub later : ℕ → Fed → Fed
later before (feds.More parser) = feds.More parser
later before (feds.Whole meaning used) = feds.Whole meaning (used + before)
later before (feds.Bad fault used) = feds.Bad fault (used + before)

-- the bytes of pieces, one after the other
abbrev pub bytes_of : List (Bor (List ℕ)) → List ℕ
bytes_of pieces = flat_map (λ piece. piece.now) pieces
