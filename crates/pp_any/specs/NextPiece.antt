-- What a piece says, judged by what is held of the bytes before it. Its counts are of the piece.
use Rattle.std.specs.Prelude.{◌≡◌, ℕ, ◌-◌, nat_lt, List, ◌++◌, length, take, if◌then◌else◌}
use Rattle.pp_v1.specs.declared.meaning.Meaning.TheVariants.{Real, Declared}
use Rattle.pp_v2.specs.Head.{pair_length}
use Rattle.pp_v2.specs.Block.{pair_in}
use Rattle.pp_any.specs.declared.rest.Rest.{Rest}
use Rattle.pp_any.specs.declared.rest.Rest.TheVariants.{Read, Block, Skip}
use Rattle.pp_any.specs.declared.fed.Fed.{Fed}
use Rattle.pp_any.specs.declared.fed.Fed.TheVariants as feds
use Rattle.pp_any.specs.Status.{Status, Fault, Wait, Whole, status}
use Rattle.pp_any.specs.Rest.{rest_of}

-- the status of bytes without so many in front
abbrev pub less : ℕ → Status → Status
less fewer (Whole count meaning) = Whole (count - fewer) meaning
less fewer (Fault fault count) = Fault fault (count - fewer)
less fewer Wait = Wait

abbrev pub status_on : Rest → List ℕ → Status
status_on (Read bytes) piece = less (length bytes.items) (status (bytes.items ++ piece))
status_on (Block family bytes missing) piece =
    if nat_lt (length piece) missing then Wait else Whole missing (Declared (pair_in family (take (pair_length family) (bytes.items ++ piece))))
status_on (Skip missing) piece = if nat_lt (length piece) missing then Wait else Whole missing Real

-- what is held after a piece that decides nothing
abbrev pub rest_on : Rest → List ℕ → Rest
rest_on (Read bytes) piece = rest_of (bytes.items ++ piece)
rest_on (Block family bytes missing) piece = Block family (record { items = take (pair_length family) (bytes.items ++ piece) }) (missing - length piece)
rest_on (Skip missing) piece = Skip (missing - length piece)

-- a parser answers what the piece says
abbrev pub Tells : Rest → List ℕ → Fed → Type 0
Tells rest piece (feds.More parser) = (status_on rest piece ≡ Wait) × (parser ≡ rest_on rest piece)
Tells rest piece (feds.Whole meaning used) = status_on rest piece ≡ Whole used meaning
Tells rest piece (feds.Bad fault used) = status_on rest piece ≡ Fault fault used
