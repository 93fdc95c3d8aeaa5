-- What is said to a connection.
use Rattle.std.specs.Prelude.{ℕ, List, [], Result, Ok, Err, if◌then◌else◌}
use Rattle.addr_core.specs.PairValue.{PairValue}
use Rattle.plan_types.specs.declared.plan.Server.{Server}
use Rattle.pp_v1.specs.Line.{line_of}
use Rattle.pp_v2.specs.Block.{header_of}
use Rattle.conn_model.specs.declared.event.ConnId.{ConnId}
use Rattle.conn_model.specs.declared.reply.Cause.{Cause}
use Rattle.conn_model.specs.declared.reply.Reply.{Reply}
use Rattle.conn_model.specs.declared.reply.Said.{Said}
use Rattle.conn_model.specs.declared.reply.Said.TheVariants as saids
use Rattle.conn_model.specs.Answer.{reply_with, NumberedServer}
use Rattle.conn_core.specs.declared.outcome.TrackedOutcome.{TrackedOutcome}
use Rattle.conn_core.specs.declared.outcome.Offer.{Offer}
use Rattle.conn_core.specs.declared.outcome.HeaderForm.{HeaderForm}
use Rattle.conn_core.specs.declared.outcome.HeaderForm.TheVariants.{Absent, Version1, Version2}
use Rattle.conn_core.specs.declared.outcome.Outcome.{Outcome}
use Rattle.conn_core.specs.declared.outcome.Outcome.TheVariants.{Wait, Offer as GiveServer, Refuse}

-- the header of that form, which states that pair
abbrev pub header_in : HeaderForm → PairValue → List ℕ
header_in Absent judged = []
header_in Version1 judged = line_of judged
header_in Version2 judged = header_of judged

abbrev pub said_by : ConnId → ℕ → Outcome → Said
said_by id used Wait = saids.Wait id used
said_by id used (GiveServer offer) = saids.Offer id used offer.seat.line offer.seat.server offer.seat.to offer.seat.judged (record { items = header_in offer.header offer.seat.judged })
said_by id used (Refuse cause) = saids.Refuse id used cause

-- the reply to it, with what the step tracks
abbrev pub reply_by : ConnId → ℕ → TrackedOutcome → Reply
reply_by id used decision = reply_with (said_by id used decision.outcome) decision.tracks

-- the form in which a server is sent the judged pair
abbrev pub form_of : Server → HeaderForm
form_of server = if server.send_proxy_v2 then Version2 else if server.send_proxy then Version1 else Absent

-- the offer of a server that has that number in its backend
abbrev pub offer_of : ℕ → Server → PairValue → Offer
offer_of number server judged = record {
  seat = record { server = number; line = server.line; to = server.to; judged = judged };
  header = form_of server;
}

abbrev pub outcome_of : PairValue → Result NumberedServer Cause → Outcome
outcome_of judged (Ok given) = GiveServer (offer_of given.number given.server judged)
outcome_of judged (Err cause) = Refuse cause
