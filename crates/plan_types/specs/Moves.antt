-- How often a connection may be moved to another server of its backend.
use Rattle.std.specs.Prelude.{ℕ, Bool, false, min, nat_le, nat_lt, ◌/◌, ◌%◌, ◌==◌, ◌&&◌}
use Rattle.plan_types.specs.declared.plan.Redispatch.{Redispatch}
use Rattle.plan_types.specs.declared.plan.Redispatch.TheVariants.{Never, Last, Every}
use Rattle.plan_types.specs.declared.plan.TheConstants.{MOST_MOVES}

-- where a server may be dialled again so often
abbrev pub moves_of : ℕ → Redispatch → ℕ
moves_of retries Never = 0
moves_of retries Last = min retries 1
moves_of retries (Every number) = min (retries / number) MOST_MOVES

-- whether that retry goes to another server, from 1 on
abbrev pub is_move : ℕ → ℕ → Redispatch → Bool
is_move retry retries Never = false
is_move retry retries Last = retry == retries
is_move retry retries (Every number) = nat_lt 0 number && (retry % number == 0) && nat_le (retry / number) MOST_MOVES
