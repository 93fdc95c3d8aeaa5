-- What is known once a piece of a header came.
use Rattle.std.specs.Prelude.{◌≡◌, ℕ, ◌-◌, ◌≤◌, List, [], ◌++◌, length, take, drop, Option, Some, Result}
use Rattle.std.specs.Io.KnownBytes.{Consumes}
use Rattle.conn_model.specs.declared.event.ConnId.{ConnId}
use Rattle.conn_model.specs.declared.event.OwnedEvent.TheVariants.{Piece}
use Rattle.conn_model.specs.declared.plain.Plain.{Plain}
use Rattle.conn_model.specs.declared.reply.Cause.{Cause}
use Rattle.conn_model.specs.declared.reply.Reply.{Reply}
use Rattle.conn_model.specs.declared.reply.StepFault.{StepFault}
use Rattle.conn_model.specs.Answer.{answer_in}
use Rattle.pipe_core.specs.Pipe.{end_by, output_of}
use Rattle.pipe_core.specs.Stream.{ReadsAll}
use Rattle.pipe_core.specs.Waiting.{IsOffered, Waits}
use Rattle.pipe_core.specs.declared.end.PipeEnd.TheVariants as ends
use Rattle.pipe_core.specs.declared.header.Judgement.{Judgement}
use Rattle.pipe_core.specs.declared.header.Judgement.TheVariants as judgements
use Rattle.pipe_core.specs.declared.header.HeaderOffer.{HeaderOffer}
use Rattle.pipe_core.specs.declared.header.HeaderVerdict.{HeaderVerdict}
use Rattle.pipe_core.specs.declared.header.HeaderVerdict.TheVariants as verdicts

-- whatever follows, nothing is passed on, and the connection is refused for that cause
abbrev pub IsRefused : (List ℕ → Result Reply StepFault) → List ℕ → Cause → Type 0
IsRefused said got cause = (more : List ℕ) → (output_of (got ++ more) (said (got ++ more)) ≡ []) × (end_by (got ++ more) (said (got ++ more)) ≡ Some (ends.Refused cause))

-- what is known once a piece came after some bytes
abbrev pub Decides : Plain → ConnId → List ℕ → List ℕ → Plain → Judgement → Type 0
Decides first id got piece q judgements.Wait = Waits first id q (got ++ piece)
Decides first id got piece q (judgements.Offered send used) = IsOffered (λ bytes. answer_in first 0 (Piece id bytes)) (got ++ piece) send.items (drop used piece)
Decides first id got piece q (judgements.Refused cause) = IsRefused (λ bytes. answer_in first 0 (Piece id bytes)) (got ++ piece) cause

-- the header uses no more than the piece
abbrev pub IsWithin : List ℕ → Judgement → Type 0
IsWithin piece judgements.Wait = Unit {0}
IsWithin piece (judgements.Offered send used) = used ≤ length piece
IsWithin piece (judgements.Refused cause) = Unit {0}

-- what was read is offered a server, and the last of it is in the buffer, after the header
pub record HasOffer (said : List ℕ → Result Reply StepFault) (old new' : Option (List ℕ)) (buffer : List ℕ) (offer : HeaderOffer) : Type 0 where
  pub got : List ℕ
  pub read : Consumes old new' got
  pub from : offer.from ≤ offer.to
  pub to : offer.to ≤ length buffer
  pub offers : IsOffered said got offer.send.items (take (offer.to - offer.from) (drop offer.from buffer))

pub record HasRefusal (said : List ℕ → Result Reply StepFault) (old new' : Option (List ℕ)) (cause : Cause) : Type 0 where
  pub got : List ℕ
  pub read : Consumes old new' got
  pub refuses : IsRefused said got cause

-- what was read has no server yet
pub record HasNoOffer (said : List ℕ → Result Reply StepFault) (old new' : Option (List ℕ)) : Type 0 where
  pub got : List ℕ
  pub read : Consumes old new' got
  pub nothing : output_of got (said got) ≡ []
  pub waits : end_by got (said got) ≡ Some ends.Unfinished

-- what is known of a connection by what is said to its bytes
abbrev pub IsJudged : (List ℕ → Result Reply StepFault) → Option (List ℕ) → Option (List ℕ) → List ℕ → HeaderVerdict → Type 0
IsJudged said old new' buffer (verdicts.Offered offer) = HasOffer said old new' buffer offer
IsJudged said old new' buffer (verdicts.Refused cause) = HasRefusal said old new' cause
IsJudged said old new' buffer verdicts.Unfinished = HasNoOffer said old new' × ReadsAll old new'

-- the connection waits, and what was read since is what came of it
pub record IsReading (first : Plain) (id : ConnId) (q : Plain) (old new' : Option (List ℕ)) : Type 0 where
  pub got : List ℕ
  pub read : Consumes old new' got
  pub waits : Waits first id q got
