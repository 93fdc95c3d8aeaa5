-- What becomes of one connection, and what its server is sent of it.
use Rattle.std.specs.Prelude.{◌≡◌, ℕ, ◌==◌, List, [], ◌∷◌, ◌++◌, length, drop, nat_lt, Option, Some, None, Result, Ok, Err, if◌then◌else◌}
use Rattle.std.specs.Option.{option_and_then}
use Rattle.std.specs.List.{position}
use Rattle.std.specs.Str.{bytes_eq}
use Rattle.list_core.specs.Each.{◌>>=◌}
use Rattle.addr_core.specs.PairValue.{PairValue}
use Rattle.plan_types.specs.declared.plan.Plan.{Plan}
use Rattle.conn_model.specs.declared.event.OwnedEvent.TheVariants.{Accept, Piece}
use Rattle.conn_model.specs.declared.plain.Plain.{Plain}
use Rattle.conn_model.specs.declared.reply.Reply.{Reply}
use Rattle.conn_model.specs.declared.reply.Said.{Said}
use Rattle.conn_model.specs.declared.reply.Said.TheVariants.{Wait, Offer, Refuse, Up, Closed, Reloaded, Marked}
use Rattle.conn_model.specs.declared.reply.StepFault.{StepFault}
use Rattle.conn_model.specs.Answer.{answer_in}
use Rattle.conn_model.specs.History.{answer, entry, opening}
use Rattle.config_core.specs.Meaning.{meaning}
use Rattle.pipe_core.specs.declared.end.PipeEnd.{PipeEnd}
use Rattle.pipe_core.specs.declared.end.PipeEnd.TheVariants.{Offered, Refused, Unfinished}
use Rattle.pipe_core.specs.declared.end.PipeFault.{PipeFault}
use Rattle.pipe_core.specs.declared.end.PipeFault.TheVariants as faults

-- The listener.

-- a listener has a number of 16 bits
abbrev pub as_listener : ℕ → Option ℕ
as_listener number = if nat_lt number 65536 then Some number else None

-- the number of the frontend of that name
abbrev pub frontend_of : Plain → List ℕ → Option ℕ
frontend_of p name = position (λ own. bytes_eq own.name name) p.frontends

-- the first listener of the frontend of that name: the first `bind` of its section
abbrev pub listener_of : Plain → List ℕ → Option ℕ
listener_of p name = option_and_then (λ number. option_and_then as_listener (position (λ listener. listener.frontend == number) p.listeners)) (frontend_of p name)

-- One connection.

-- what is said to a connection that was accepted, once these bytes came: what was said at its accept, or, where it
-- waits for a header, what is said to the bytes in one piece
abbrev pub said_on : Plain → ℕ → PairValue → List ℕ → Reply → Said → Result Reply StepFault
said_on p listener real bytes reply (Wait id used) = answer p (entry 0 (Accept listener real) reply ∷ []) 0 (Piece id bytes)
said_on p listener real bytes reply said = Ok reply

-- what is said to the first connection of a listener, which begins with these bytes
abbrev pub said_to : Plain → ℕ → PairValue → List ℕ → Result Reply StepFault
said_to p listener real bytes = answer_in p 0 (Accept listener real) >>= λ reply. said_on p listener real bytes reply reply.said

-- What the server gets.

-- the header that it is sent, and the connection's bytes after its own header; nothing where there is no offer
abbrev pub passed_on : List ℕ → Said → List ℕ
passed_on bytes (Offer id used line server to judged send) = send.items ++ drop used bytes
passed_on bytes said = []

-- how a connection of these bytes ends
abbrev pub end_of : List ℕ → Said → Option PipeEnd
end_of bytes (Offer id used line server to judged send) = Some (Offered (length (send.items ++ drop used bytes)))
end_of bytes (Refuse id used cause) = Some (Refused cause)
end_of bytes (Wait id used) = Some Unfinished
end_of bytes (Up id) = None
end_of bytes (Closed id why) = None
end_of bytes (Reloaded version) = None
end_of bytes (Marked line health) = None

abbrev pub output_of : List ℕ → Result Reply StepFault → List ℕ
output_of bytes (Ok reply) = passed_on bytes reply.said
output_of bytes (Err fault) = []

abbrev pub end_by : List ℕ → Result Reply StepFault → Option PipeEnd
end_by bytes (Ok reply) = end_of bytes reply.said
end_by bytes (Err fault) = None

-- what the server gets of a connection of these bytes, and how it ends
abbrev pub output : Plain → ℕ → PairValue → List ℕ → List ℕ
output p listener real bytes = output_of bytes (said_to p listener real bytes)

abbrev pub end : Plain → ℕ → PairValue → List ℕ → Option PipeEnd
end p listener real bytes = end_by bytes (said_to p listener real bytes)

-- A run.

-- what is held is the front of a text
abbrev pub IsFront : Option (List ℕ) → List ℕ → Type 0
IsFront held text = (now : List ℕ) × (rest : List ℕ) × (held ≡ Some now) × (text ≡ now ++ rest)

-- all is read, but where the connection is refused
abbrev pub IsReadOut : PipeEnd → Option (List ℕ) → Type 0
IsReadOut (Offered count) left = left ≡ Some []
IsReadOut (Refused cause) left = Unit {0}
IsReadOut Unfinished left = left ≡ Some []

-- The connection of an input ends so, and what its server gets of it comes after what was written before.
pub record IsPipedFrom (p : Plain) (name : List ℕ) (real : PairValue) (input sent : List ℕ) (left held : Option (List ℕ)) (how : PipeEnd) : Type 0 where
  pub listener : ℕ
  pub listens : listener_of p name ≡ Some listener
  pub ends : end p listener real input ≡ Some how
  pub wrote : held ≡ Some (sent ++ output p listener real input)
  pub read : IsReadOut how left

-- What was written is the front of what the server gets of a connection that begins with what was read.
pub record IsCutShort (p : Plain) (name : List ℕ) (real : PairValue) (input sent : List ℕ) (left held : Option (List ℕ)) : Type 0 where
  pub listener : ℕ
  pub listens : listener_of p name ≡ Some listener
  pub got : List ℕ
  pub rest : List ℕ
  pub is_left : left ≡ Some rest
  pub is_read : input ≡ got ++ rest
  pub front : IsFront held (sent ++ output p listener real got)

-- how a fault ends it
abbrev pub IsStopped : Plain → List ℕ → PairValue → List ℕ → List ℕ → Option (List ℕ) → Option (List ℕ) → PipeFault → Type 0
IsStopped p name real input sent left held (faults.Config fault) = ⊥
IsStopped p name real input sent left held faults.NoFrontend = (frontend_of p name ≡ None) × (held ≡ Some sent)
IsStopped p name real input sent left held faults.Read = IsCutShort p name real input sent left held
IsStopped p name real input sent left held faults.Write = IsCutShort p name real input sent left held
IsStopped p name real input sent left held faults.NoMemory = held ≡ Some sent

-- A whole run: the configuration has a plan, and the state is the one in which that is opened.

abbrev pub IsPiped : List ℕ → List ℕ → PairValue → List ℕ → List ℕ → Option (List ℕ) → Option (List ℕ) → PipeEnd → Type 0
IsPiped config name real input sent left held how = (plan : Plan) × (meaning config ≡ Ok plan) × IsPipedFrom (opening plan 0) name real input sent left held how

abbrev pub IsStoppedOn : List ℕ → List ℕ → PairValue → List ℕ → List ℕ → Option (List ℕ) → Option (List ℕ) → PipeFault → Type 0
IsStoppedOn config name real input sent left held fault = (plan : Plan) × (meaning config ≡ Ok plan) × IsStopped (opening plan 0) name real input sent left held fault

abbrev pub IsEnded : List ℕ → List ℕ → PairValue → List ℕ → List ℕ → Option (List ℕ) → Option (List ℕ) → PipeFault → Type 0
IsEnded config name real input sent left held (faults.Config fault) = (meaning config ≡ Err fault) × (held ≡ Some sent)
IsEnded config name real input sent left held faults.NoFrontend = IsStoppedOn config name real input sent left held faults.NoFrontend
IsEnded config name real input sent left held faults.Read = IsStoppedOn config name real input sent left held faults.Read
IsEnded config name real input sent left held faults.Write = IsStoppedOn config name real input sent left held faults.Write
IsEnded config name real input sent left held faults.NoMemory = held ≡ Some sent
