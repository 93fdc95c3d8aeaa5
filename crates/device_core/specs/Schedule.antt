-- How the calls of a device in memory go.
use Rattle.std.specs.Prelude.{ℕ, Bool, ◌&&◌, nat_le, nat_lt, List, if◌then◌else◌}
use Rattle.std.specs.List.{list_any}
use Rattle.device_core.specs.declared.schedule.Calls.{Calls}
use Rattle.device_core.specs.declared.schedule.Turn.{Turn}
use Rattle.device_core.specs.declared.schedule.Turn.TheVariants.{Fails, Blocks, Moves}

pub record Turns : Type 0 where
  pub per_call : ℕ
  pub blocked : List Calls
  pub failing : List Calls

-- the call of that number is one of those
abbrev pub is_among : List Calls → ℕ → Bool
is_among spans number = list_any (λ span. nat_le span.from number && nat_lt number span.to) spans

-- how the call of that number goes
abbrev pub turn_of : Turns → ℕ → Turn
turn_of turns number = if is_among turns.failing number then Fails else if is_among turns.blocked number then Blocks else Moves
