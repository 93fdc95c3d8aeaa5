-- What a contract sees of a relay.
use Rattle.std.specs.Prelude.{◌≡◌, ℕ, false, List, [], Option}
use Rattle.relay_core.specs.Flow.{Held}
use Rattle.relay_core.specs.Law.{Stream}
use Rattle.relay_core.specs.declared.way.Way.{Way}
use Rattle.relay_core.specs.declared.way.Way.TheVariants.{Forth, Back}

-- one flow for each direction
pub record Ways : Type 0 where
  pub forth : Held
  pub back : Held

abbrev pub flow_of : Way → Ways → Held
flow_of Forth ways = ways.forth
flow_of Back ways = ways.back

abbrev pub opposite : Way → Way
opposite Forth = Back
opposite Back = Forth

-- a flow between its reader and its writer
abbrev pub stream_of : Option (List ℕ) → Held → Option (List ℕ) → Stream
stream_of left flow written = record { left = left; held = flow.bytes; written = written }

-- these bytes are on their way to the server, none is on its way to the client, and neither end came
abbrev pub IsBegun : Ways → List ℕ → Type 0
IsBegun ways bytes = (ways.forth.bytes ≡ bytes) × (ways.forth.ended ≡ false) × (ways.back.bytes ≡ []) × (ways.back.ended ≡ false)
