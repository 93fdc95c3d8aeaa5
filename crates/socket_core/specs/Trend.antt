-- What the checks of a server say of it.
use Rattle.std.specs.Prelude.{ℕ, Bool, true, false, Option, Some, None, min, ◌+◌, ◌-◌, ◌^◌, nat_le, if◌then◌else◌}
use Rattle.plan_types.specs.declared.plan.Check.{Check}
use Rattle.conn_model.specs.declared.event.Health.{Health}
use Rattle.conn_model.specs.declared.event.Health.TheVariants.{Down, Up}
use Rattle.socket_core.specs.declared.trend.Trend.{Trend}

-- how many checks in a row have to say otherwise: one is enough for a server of which none succeeded yet
abbrev pub turning_point : Check → Trend → ℕ
turning_point check trend = if trend.is_up then (if trend.has_passed then check.fall else 1) else check.rise

abbrev pub other_health : Bool → Health
other_health true = Down
other_health false = Up

-- after a check of a server that is up or down, and that succeeded or failed
abbrev pub trend_after : Bool → Bool → Trend → Trend
trend_after true true trend = record trend { has_passed = true; against = 0 }
trend_after true false trend = record trend { against = min (trend.against + 1) (2 ^ 64 - 1) }
trend_after false true trend = record trend { against = min (trend.against + 1) (2 ^ 64 - 1) }
trend_after false false trend = record trend { against = 0 }

-- what is to be reported then
abbrev pub report_after : Check → Trend → Option Health
report_after check trend = if nat_le (turning_point check trend) trend.against then Some (other_health trend.is_up) else None

-- once it was reported so
abbrev pub marked : Health → Trend
marked Down = record { is_up = false; has_passed = false; against = 0 }
marked Up = record { is_up = true; has_passed = true; against = 0 }
