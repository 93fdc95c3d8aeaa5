-- Whole headers, and the laws of the status.
use Rattle.std.specs.Prelude.{◌≡◌, ℕ, ◌+◌, ◌<◌, ◌≤◌, List, length, take, drop, Some, None, Result, Ok}
use Rattle.pp_v1.specs.declared.meaning.Meaning.{Meaning}
use Rattle.pp_v1.specs.Line.{line_meaning, IsLine}
use Rattle.pp_v2.specs.declared.head.Head.{Head}
use Rattle.pp_v2.specs.Head.{head_of}
use Rattle.pp_any.specs.declared.fault.HeaderFault.{HeaderFault}
use Rattle.pp_any.specs.Status.{Status, Fault, Wait, Whole, meaning_in, decision, status}

-- the last of so many bytes decides it, and none before decides anything
pub record IsDecidedAt (bytes : List ℕ) (count : ℕ) (what : Result Meaning HeaderFault) : Type 0 where
  pub some : 0 < count
  pub within : count ≤ length bytes
  pub here : decision (take count bytes) ≡ Some what
  pub first : (k : ℕ) → 0 < k → k < count → decision (take k bytes) ≡ None

-- the bytes are a header, no more and no less
abbrev pub IsHeader : List ℕ → Meaning → Type 0
IsHeader bytes meaning = status bytes ≡ Whole (length bytes) meaning

-- one line of version 1 that says so
pub record SaysInLine (bytes : List ℕ) (meaning : Meaning) : Type 0 where
  pub line : IsLine bytes
  pub says : line_meaning bytes ≡ Ok meaning

-- 16 bytes and their block
pub record IsBlock (bytes : List ℕ) (meaning : Meaning) : Type 0 where
  pub head : Head
  pub past : 16 ≤ length bytes
  pub says : head_of (take 16 bytes) ≡ Ok head
  pub all : length bytes ≡ 16 + head.len
  pub means : meaning ≡ meaning_in head.declares (drop 16 bytes)

-- the status of bytes that have so many more in front
abbrev pub shifted : ℕ → Status → Status
shifted more (Whole count meaning) = Whole (count + more) meaning
shifted more (Fault fault count) = Fault fault (count + more)
shifted more Wait = Wait
