-- A client that comes, and a connection that waits, is let wait, offered a server or refused.
use Rattle.std.specs.Prelude.{ℕ, Bool, true, false, List, length, Option, Some, None, Result, Ok, Err, refl, nat_le, ◌-◌, ◌^◌, ◌<◌, ◌≡◌, if◌then◌else◌}
use Rattle.addr_core.specs.PairValue.{PairValue}
use Rattle.pp_any.specs.NextPiece.{status_on}
use Rattle.pp_any.specs.Status as statuses
use Rattle.pp_any.specs.Status.{Status}
use Rattle.rule_engine.specs.Judging.{no_tracks, TrackSlots}
use Rattle.conn_model.specs.declared.event.ConnId.{ConnId}
use Rattle.conn_model.specs.declared.event.OwnedEvent.TheVariants.{Accept, Piece}
use Rattle.conn_model.specs.declared.plain.Plain.{Plain}
use Rattle.conn_model.specs.declared.reply.Cause.{Cause}
use Rattle.conn_model.specs.declared.reply.Cause.TheVariants.{Line}
use Rattle.conn_model.specs.declared.reply.Said.TheVariants.{Refuse}
use Rattle.conn_model.specs.Rules.{rejection, view_of, Candidate}
use Rattle.conn_model.specs.Answer.{admission, answer_in, decision, demands_header, entry_reply, entry_rules, header_reply, judged_pair, reply_of, said_of, verdict, NumberedServer}
use Rattle.conn_laws.specs.Deciding.{is_judgement, newcomer, waiting, Arrival, IsJudged, Waiter}
use Rattle.conn_laws.proofs.Offered.{accept_is, piece_is}

said_judges : (id : ConnId) (used : ℕ) (judged : PairValue) (given : Result NumberedServer Cause) → is_judgement (said_of id used judged given) ≡ true
said_judges id used judged (Ok given) = refl
said_judges id used judged (Err cause) = refl

decision_judges : (candidate : Candidate) (used : ℕ) (judged : PairValue) (made : TrackSlots) → is_judgement (decision candidate used judged made).said ≡ true
decision_judges candidate used judged made = said_judges candidate.id used judged (verdict (view_of candidate judged.source.addr) candidate.frontend made).result

entry_judges : (candidate : Candidate) (accept_proxy : Bool) (real : PairValue) (made : TrackSlots) (line : Option ℕ) → is_judgement (entry_reply candidate accept_proxy real made line).said ≡ true
entry_judges candidate accept_proxy real made (Some line) = refl
entry_judges candidate true real made None = refl
entry_judges candidate false real made None = decision_judges candidate 0 real made

admission_judges : (candidate : Candidate) (accept_proxy : Bool) (real : PairValue) (others : ℕ) → is_judgement (admission candidate accept_proxy real others).said ≡ true
admission_judges candidate accept_proxy real others = by (nat_le candidate.frontend.limit others)
  where
    by : (b : Bool) →
        is_judgement (if b then reply_of (Refuse candidate.id 0 (Line candidate.frontend.limit_line)) else entry_reply candidate (demands_header candidate accept_proxy real) real (entry_rules candidate real).tracks (rejection (entry_rules candidate real))).said ≡ true
    by true = refl
    by false = entry_judges candidate (demands_header candidate accept_proxy real) real (entry_rules candidate real).tracks (rejection (entry_rules candidate real))

header_judges : (candidate : Candidate) (real : PairValue) (count : ℕ) (status : Status) → is_judgement (header_reply candidate real count status).said ≡ true
header_judges candidate real count statuses.Wait = refl
header_judges candidate real count (statuses.Fault fault used) = refl
header_judges candidate real count (statuses.Whole used meaning) = decision_judges candidate used (judged_pair real meaning) no_tracks

pub accept_judged : (q : Plain) (moment listener : ℕ) (real : PairValue) (arrival : Arrival q listener) → arrival.own.serial < 2 ^ 64 - 1 → IsJudged (answer_in q moment (Accept listener real))
accept_judged q moment listener real arrival less =
    let candidate : Candidate = newcomer q moment real listener arrival in
    (admission candidate arrival.at.accept_proxy real (length arrival.own.rows), accept_is q moment listener real arrival less, admission_judges candidate arrival.at.accept_proxy real (length arrival.own.rows))

pub piece_judged : (q : Plain) (moment : ℕ) (id : ConnId) (piece : List ℕ) → Waiter q id → IsJudged (answer_in q moment (Piece id piece))
piece_judged q moment id piece waiter =
    let candidate : Candidate = waiting q moment id waiter in (
      header_reply candidate waiter.row.real (length piece) (status_on waiter.rest piece),
      piece_is q moment id piece waiter,
      header_judges candidate waiter.row.real (length piece) (status_on waiter.rest piece),
    )
