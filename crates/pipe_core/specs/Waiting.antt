-- A connection whose header comes in pieces.
use Rattle.std.specs.Prelude.{◌≡◌, ℕ, ◌+◌, List, ◌++◌, length, slice_get, Some, Result, Ok, Err}
use Rattle.pp_any.specs.declared.rest.Rest.{Rest}
use Rattle.pp_any.specs.Rest.{IsRest}
use Rattle.plan_types.specs.declared.plan.Frontend.{Frontend}
use Rattle.conn_model.specs.declared.event.ConnId.{ConnId}
use Rattle.conn_model.specs.declared.event.OwnedEvent.TheVariants.{Piece}
use Rattle.conn_model.specs.declared.plain.Row.{Row}
use Rattle.conn_model.specs.declared.plain.FrontendRows.{FrontendRows}
use Rattle.conn_model.specs.declared.plain.Version.{Version}
use Rattle.conn_model.specs.declared.plain.Plain.{Plain}
use Rattle.conn_model.specs.declared.reply.Reply.{Reply}
use Rattle.conn_model.specs.declared.reply.Said.{Said}
use Rattle.conn_model.specs.declared.reply.Said.TheVariants.{Wait, Offer, Refuse, Up, Closed, Reloaded, Marked}
use Rattle.conn_model.specs.declared.reply.StepFault.{StepFault}
use Rattle.conn_model.specs.Answer.{answer_in, frontend_in, rest_in, row_at, version_at}
use Rattle.conn_model.specs.History.{IsWell}
use Rattle.pipe_core.specs.Pipe.{end_by, output_of}
use Rattle.pipe_core.specs.declared.end.PipeEnd.TheVariants as ends

-- so many more bytes are used
abbrev pub with_used : ℕ → Said → Said
with_used more (Wait id used) = Wait id (used + more)
with_used more (Offer id used line server to judged send) = Offer id (used + more) line server to judged send
with_used more (Refuse id used cause) = Refuse id (used + more) cause
with_used more (Up id) = Up id
with_used more (Closed id why) = Closed id why
with_used more (Reloaded version) = Reloaded version
with_used more (Marked line health) = Marked line health

abbrev pub later : ℕ → Result Reply StepFault → Result Reply StepFault
later more (Ok reply) = Ok (record reply { said = with_used more reply.said })
later more (Err fault) = Err fault

-- in this state the connection waits, and these bytes of it came
pub record Holds (q : Plain) (id : ConnId) (got : List ℕ) : Type 0 where
  pub row : Row
  pub rest : Rest
  pub own : FrontendRows
  pub version : Version
  pub frontend : Frontend
  pub row_is : row_at q.frontends id ≡ Some row
  pub waits : rest_in row.phase ≡ Some rest
  pub there : slice_get q.frontends id.frontend ≡ Some own
  pub kept : version_at q.versions row.version ≡ Some version
  pub found : frontend_in version.plan own.name ≡ Some frontend
  pub is_rest : IsRest got rest
  pub well : IsWell q

-- it waits since that first state, and what is said to bytes after those that came is what is said to all of them in one piece
pub record Waits (first : Plain) (id : ConnId) (q : Plain) (got : List ℕ) : Type 0 where
  pub holds : Holds q id got
  pub same : (more : List ℕ) → answer_in first 0 (Piece id (got ++ more)) ≡ later (length got) (answer_in q 0 (Piece id more))

-- Whatever follows, an answer to all bytes passes on this header and these bytes and what follows; or it passes on nothing.

abbrev pub IsOffered : (List ℕ → Result Reply StepFault) → List ℕ → List ℕ → List ℕ → Type 0
IsOffered said got send payload =
    (more : List ℕ) → (output_of (got ++ more) (said (got ++ more)) ≡ send ++ (payload ++ more))
    × (end_by (got ++ more) (said (got ++ more)) ≡ Some (ends.Offered (length (send ++ (payload ++ more)))))
