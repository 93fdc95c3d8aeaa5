-- What a parser that waits holds of its bytes.
use Rattle.std.specs.Prelude.{◌≡◌, ℕ, true, false, ◌+◌, ◌-◌, ◌<◌, ◌≤◌, ◌||◌, nat_lt, List, [], length, take, drop, Option, Some, None, Result, Ok, Err, if◌then◌else◌}
use Rattle.pp_v1.specs.declared.TheConstants.{LINE_LIMIT}
use Rattle.pp_v2.specs.declared.head.Family.{Family}
use Rattle.pp_v2.specs.declared.head.Head.{Head}
use Rattle.pp_v2.specs.declared.fault.V2Fault.{V2Fault}
use Rattle.pp_v2.specs.Head.{head_of, pair_length}
use Rattle.pp_any.specs.declared.rest.Rest.{Rest}
use Rattle.pp_any.specs.declared.rest.Rest.TheVariants.{Read, Block, Skip}
use Rattle.pp_any.specs.declared.state.State.{State}
use Rattle.pp_any.specs.declared.state.State.TheVariants as states
use Rattle.pp_any.specs.Status.{Wait, is_line, status}

-- of a version 2 header: the bytes of the pair if there is one, and how many are missing
abbrev pub rest_in_block : Option Family → ℕ → List ℕ → Rest
rest_in_block None len bytes = Skip (16 + len - length bytes)
rest_in_block (Some family) len bytes = Block family (record { items = take (pair_length family) (drop 16 bytes) }) (16 + len - length bytes)

abbrev pub rest_after : List ℕ → Result Head V2Fault → Rest
rest_after bytes (Ok head) = rest_in_block head.declares head.len bytes
rest_after bytes (Err fault) = Read (record { items = bytes })

-- what is held of bytes that wait
abbrev pub rest_of : List ℕ → Rest
rest_of bytes = if is_line bytes || nat_lt (length bytes) 16 then Read (record { items = bytes }) else rest_after bytes (head_of (take 16 bytes))

-- the rest is what a parser holds that was fed the bytes and waits
abbrev pub IsRest : List ℕ → Rest → Type 0
IsRest bytes rest = (status bytes ≡ Wait) × (rest_of bytes ≡ rest)

-- ---- the states of a parser

abbrev pub rest_in : State → Rest
rest_in states.Start = Read (record { items = [] })
rest_in (states.Line line) = Read (record { items = line.bytes.items })
rest_in (states.Head head) = Read (record { items = head.bytes.items })
rest_in (states.Block block) = Block block.family (record { items = block.bytes.items }) block.missing
rest_in (states.Skip skip) = Skip skip.missing

pub record IsInLine (bytes : List ℕ) : Type 0 where
  pub waits : status bytes ≡ Wait
  pub line : is_line bytes ≡ true
  pub room : length bytes < LINE_LIMIT

-- one byte more than bytes of a line that wait
pub record IsNextInLine (bytes : List ℕ) : Type 0 where
  pub some : 0 < length bytes
  pub front : IsInLine (take (length bytes - 1) bytes)

pub record IsInHead (bytes : List ℕ) : Type 0 where
  pub waits : status bytes ≡ Wait
  pub head : is_line bytes ≡ false
  pub some : 0 < length bytes
  pub room : length bytes < 16

pub record IsInBlock (family : Family) (bytes : List ℕ) (missing : ℕ) : Type 0 where
  pub some : 0 < missing
  pub within : length bytes ≤ pair_length family
  pub enough : pair_length family ≤ length bytes + missing

abbrev pub IsState : State → Type 0
IsState states.Start = Unit {0}
IsState (states.Line line) = IsInLine line.bytes.items
IsState (states.Head head) = IsInHead head.bytes.items
IsState (states.Block block) = IsInBlock block.family block.bytes.items block.missing
IsState (states.Skip skip) = 0 < skip.missing

-- ---- the first 16 bytes

-- all 16 bytes, of which the first 15 decide nothing
pub record IsWholeHead (bytes : List ℕ) : Type 0 where
  pub waits : status (take 15 bytes) ≡ Wait
  pub head : is_line bytes ≡ false
  pub all : length bytes ≡ 16

pub record IsAtBlock (bytes : List ℕ) (head : Head) : Type 0 where
  pub whole : IsWholeHead bytes
  pub says : head_of bytes ≡ Ok head

-- the block has room for the pair
abbrev pub has_room : Option Family → ℕ → Type 0
has_room None len = Unit {0}
has_room (Some family) len = pair_length family ≤ len

abbrev pub Fits : Head → Type 0
Fits head = has_room head.declares head.len
