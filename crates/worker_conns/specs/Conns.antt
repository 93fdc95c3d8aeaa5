-- What a connection passes on.
use Rattle.std.specs.Prelude.{◌≡◌, ℕ, Bool, false, List, [], Option, Some, None}
use Rattle.link_core.specs.Idle.{AreOver}
use Rattle.link_core.specs.declared.stream.Progress.{Progress}
use Rattle.relay_core.specs.Law.{HasCarried, Stream}
use Rattle.relay_core.specs.Relay.{Ways}

-- the bytes on their way to the server, and to the client: none if there is no relay
abbrev pub forth_bytes : Option Ways → List ℕ
forth_bytes None = []
forth_bytes (Some ways) = ways.forth.bytes

abbrev pub back_bytes : Option Ways → List ℕ
back_bytes None = []
back_bytes (Some ways) = ways.back.bytes

abbrev pub between : Option (List ℕ) → List ℕ → Option (List ℕ) → Stream
between left held written = record { left = left; held = held; written = written }

-- First the client's bytes were passed on, and then the server's.
pub record PassesOn {K : Type 0} (left held : K → Option (List ℕ)) (client server : K) (old : Option Ways) (new_client new_server : K) (new' : Option Ways) : Type 0 where
  pub client_between : K
  pub server_between : K
  pub forth : HasCarried (between (left client) (forth_bytes old) (held server)) (between (left client_between) (forth_bytes new') (held server_between))
  pub back : HasCarried (between (left server_between) (back_bytes old) (held client_between)) (between (left new_server) (back_bytes new') (held new_client))

-- whether the end of the client came, and that of the server: not if there is no relay
abbrev pub forth_ended : Option Ways → Bool
forth_ended None = false
forth_ended (Some ways) = ways.forth.ended

abbrev pub back_ended : Option Ways → Bool
back_ended None = false
back_ended (Some ways) = ways.back.ended

-- The relay holds what was on its way, and knows which ends came.
pub record HasFlows (old : Option Ways) (relay : Ways) : Type 0 where
  pub forth : relay.forth.bytes ≡ forth_bytes old
  pub back : relay.back.bytes ≡ back_bytes old
  pub forth_end : relay.forth.ended ≡ forth_ended old
  pub back_end : relay.back.ended ≡ back_ended old

-- The relay is kept with its flows, unless both directions are over, which is answered.
abbrev pub IsKept : Option Progress → Ways → Option Ways → Type 0
IsKept None relay new = AreOver relay × (new ≡ None)
IsKept (Some progress) relay new = HasFlows new relay

-- Bytes were passed on by a relay, which is kept.
abbrev pub IsRelayed : {K : Type 0} → (K → Option (List ℕ)) → (K → Option (List ℕ)) → K → K → Option Ways → K → K → Option Progress → Option Ways → Type 0
IsRelayed left held client server old new_client new_server answer new' = (relay : Ways) × PassesOn left held client server old new_client new_server (Some relay) × IsKept answer relay new'
