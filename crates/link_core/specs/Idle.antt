-- Which sides of a connection are waited for, when one of them has been silent for too long, and the pause before a server is
-- dialled again.
use Rattle.std.specs.Prelude.{◌≡◌, ◌⊎◌, ℕ, ◌+◌, ◌≤◌, ◌<◌, ◌==◌, ◌&&◌, ◌||◌, not, nat_le, min, Bool, true, false, IsTrue, List, [], ◌∷◌, Option, Some, None, if◌then◌else◌}
use Rattle.conn_model.specs.declared.event.Why.{Why}
use Rattle.conn_model.specs.declared.event.Why.TheVariants.{ClientTimeout, ServerTimeout}
use Rattle.relay_core.specs.Flow.{Held, IsDone, asks_reader}
use Rattle.relay_core.specs.Relay.{Ways}
use Rattle.link_core.specs.declared.idle.Side.{Side}
use Rattle.link_core.specs.declared.idle.WaitedFor.{WaitedFor}

-- bytes wait to be written
abbrev pub are_held : List ℕ → Bool
are_held [] = false
are_held (byte ∷ bytes) = true

-- A side is waited for while something is expected of it: it is asked for bytes, since its end did not come and the flow that it
-- feeds has room, or bytes wait to be written to it.
abbrev pub is_waited_for : Held → Held → Bool
is_waited_for sends takes = asks_reader sends || are_held takes.bytes

-- the client feeds the flow forth and takes what the flow back holds, and the server the other way round
abbrev pub waited_for_by : Ways → WaitedFor
waited_for_by ways = record { client = is_waited_for ways.forth ways.back; server = is_waited_for ways.back ways.forth }

-- without a relay no byte is held and neither end came, so both sides are asked for bytes
abbrev pub waited_for : Option Ways → WaitedFor
waited_for None = record { client = true; server = true }
waited_for (Some ways) = waited_for_by ways

-- Both ends came, and all that came before them was written.
abbrev pub AreOver : Ways → Type 0
AreOver relay = IsDone relay.forth × IsDone relay.back

-- Something is expected of a side at least, where both flows have room at all, unless both directions are over.
abbrev pub SomeoneIsWaitedFor : Ways → WaitedFor → Type 0
SomeoneIsWaitedFor relay waited_for = 0 < relay.forth.capacity → 0 < relay.back.capacity → IsTrue waited_for.client ⊎ (IsTrue waited_for.server ⊎ AreOver relay)

-- The time of a side begins with each byte that it sends or takes, and when something comes to be expected of it.
abbrev pub time_begun : ℕ → Bool → Bool → ℕ → ℕ
time_begun before was_waited_for is_active now = if is_active || not was_waited_for then now else before

-- the moment from which on a side is overdue
abbrev pub due_of : Side → ℕ
due_of side = min 0xFFFF_FFFF_FFFF_FFFF (side.since + side.limit)

-- a side that is not waited for is not, and 0 bounds nothing
abbrev pub is_overdue : ℕ → Side → Bool
is_overdue now side = side.is_waited_for && not (side.limit == 0) && nat_le (due_of side) now

-- of two sides that are overdue the one that was first, and if both are level the client
abbrev pub overdue : ℕ → Side → Side → Option Why
overdue now client server =
    if is_overdue now client && (not (is_overdue now server) || nat_le (due_of client) (due_of server)) then Some ClientTimeout
    else if is_overdue now server then Some ServerTimeout
    else None

-- What a side may be later: its time went on, where it was waited for, or began at that moment or after it.
pub record GoesOn (now : ℕ) (side later : Side) : Type 0 where
  pub limit : later.limit ≡ side.limit
  pub since : (IsTrue side.is_waited_for × (later.since ≡ side.since)) ⊎ (now ≤ later.since)

-- The first moment at which a side may be overdue. One that is not waited for may be from now on.
abbrev pub first_end : ℕ → Side → ℕ
first_end now side = if side.limit == 0 then 0xFFFF_FFFF_FFFF_FFFF else min 0xFFFF_FFFF_FFFF_FFFF ((if side.is_waited_for then min side.since now else now) + side.limit)

-- as long as the server had to accept the connection, and a second at most
abbrev pub retry_pause : ℕ → ℕ
retry_pause connect = if connect == 0 then 1000 else min connect 1000
