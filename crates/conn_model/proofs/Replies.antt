-- What is known of a reply.
use Rattle.std.specs.Prelude.{ℕ, Bool, true, false, List, length, slice_get, Option, Some, None, Result, Ok, Err, refl, ◌+◌, ◌≡◌, nat_lt, nat_le, if◌then◌else◌}
use Rattle.std.proofs.Common.{sym, ap, ◌∙◌}
use Rattle.list_core.specs.Each.{◌>>=◌}
use Rattle.addr_core.specs.PairValue.{PairValue}
use Rattle.plan_types.specs.declared.plan.Frontend.{Frontend}
use Rattle.plan_types.specs.declared.plan.Plan.{Plan}
use Rattle.config_core.specs.Binds.{same_binds}
use Rattle.config_core.specs.Meaning.{meaning}
use Rattle.config_core.specs.declared.fault.OpenFault.{OpenFault}
use Rattle.conn_model.specs.declared.event.ConnId.{ConnId}
use Rattle.conn_model.specs.declared.event.OwnedEvent.{OwnedEvent}
use Rattle.conn_model.specs.declared.event.OwnedEvent.TheVariants.{Accept, Piece, Connected, ConnectFailed, Close, Expire, Reload, Mark}
use Rattle.conn_model.specs.declared.reply.Cause.{Cause}
use Rattle.conn_model.specs.declared.reply.Cause.TheVariants.{Expired, NoBackend, NoServer}
use Rattle.conn_model.specs.declared.event.Why.TheVariants.{Failed}
use Rattle.conn_model.specs.declared.event.TheConstants.{HEADER_WAIT}
use Rattle.pp_any.specs.declared.rest.Rest.{Rest}
use Rattle.pp_any.specs.Status as statuses
use Rattle.pp_any.specs.Status.{Status}
use Rattle.pp_any.specs.NextPiece.{status_on}
use Rattle.conn_model.specs.declared.reply.Said.{Said}
use Rattle.conn_model.specs.declared.reply.Said.TheVariants as saids
use Rattle.conn_model.specs.declared.reply.Said.TheVariants.{Refuse, Closed, Reloaded, Marked}
use Rattle.conn_model.specs.declared.reply.Reply.{Reply}
use Rattle.conn_model.specs.declared.reply.StepFault.TheVariants.{NoListener, NoSuch, NotWaiting, NotOffered, NotDue, BadConfig, BindChanged, Exhausted, NotChecked}
use Rattle.conn_model.specs.declared.plain.Row.{Row}
use Rattle.conn_model.specs.declared.plain.FrontendRows.{FrontendRows}
use Rattle.conn_model.specs.declared.plain.Listener.{Listener}
use Rattle.conn_model.specs.declared.plain.Version.{Version}
use Rattle.conn_model.specs.declared.plain.Plain.{Plain}
use Rattle.conn_model.specs.Words.{newest, or_fault}
use Rattle.rule_engine.specs.Judging.{no_tracks, TrackSlots}
use Rattle.conn_model.specs.Rules.{Candidate, rejection, view_of}
use Rattle.conn_model.specs.Answer.{awaits_server, row_at, server_answer, version_at, NumberedServer, frontend_in, reply_of, verdict, said_of, decision, candidate_at, candidate_of, judged_pair, rest_in, waiting_row, demands_header, entry_reply, entry_rules, admission, header_reply, accept_answer, piece_answer, close_answer, expire_answer, next_answer, reload_answer, answer_in, answer_now, at_moment, failure_answer, other_server, offer_in, failure_said, mark_answer, checked_server}
use Rattle.conn_model.specs.History.{id_of}
use Rattle.conn_model.specs.declared.event.Health.{Health}
use Rattle.conn_model.specs.declared.plain.Assignment.{Assignment}
use Rattle.plan_types.specs.declared.plan.Backend.{Backend}
use Rattle.plan_types.specs.declared.plan.Server.{Server}

-- Answers in steps.

-- where the second step gives something, so does the first
pub bind-ok : {A B F : Type 0} (r : Result A F) (f : A → Result B F) (y : B) → (r >>= f) ≡ Ok y → (x : A) × (r ≡ Ok x) × (f x ≡ Ok y)
bind-ok (Ok x) f y is = (x, refl, is)
bind-ok (Err e) f y is = absurd (let wrong : Err e ≡ Ok y = is in cc)

pub or_fault-ok : {X F : Type 0} (fault : F) (o : Option X) (x : X) → or_fault fault o ≡ Ok x → o ≡ Some x
or_fault-ok fault None x is = absurd (let wrong : Err fault ≡ Ok x = is in cc)
or_fault-ok fault (Some y) x is = let same : Ok y ≡ Ok x = is in cc

pub chosen : {A F : Type 0} (b : Bool) (x y : A) (fault : F) → (if b then Ok x else Err fault) ≡ Ok y → (b ≡ true) × (x ≡ y)
chosen true x y fault is = (refl, cc)
chosen false x y fault is = absurd (let wrong : Err fault ≡ Ok y = is in cc)

-- Whom a reply speaks to.

pub said_of-id : (id : ConnId) (used : ℕ) (judged : PairValue) (result : Result NumberedServer Cause) → id_of (said_of id used judged result) ≡ Some id
said_of-id id used judged (Ok given) = refl
said_of-id id used judged (Err cause) = refl

pub decision-id : (candidate : Candidate) (used : ℕ) (judged : PairValue) (made : TrackSlots) → id_of (decision candidate used judged made).said ≡ Some candidate.id
decision-id candidate used judged made = said_of-id candidate.id used judged (verdict (view_of candidate judged.source.addr) candidate.frontend made).result

pub header_reply-id : (candidate : Candidate) (real : PairValue) (count : ℕ) (status : Status) → id_of (header_reply candidate real count status).said ≡ Some candidate.id
header_reply-id candidate real count statuses.Wait = refl
header_reply-id candidate real count (statuses.Fault fault used) = refl
header_reply-id candidate real count (statuses.Whole used meaning) = decision-id candidate used (judged_pair real meaning) no_tracks

entry_reply-id : (candidate : Candidate) (accept_proxy : Bool) (real : PairValue) (made : TrackSlots) (line : Option ℕ) → id_of (entry_reply candidate accept_proxy real made line).said ≡ Some candidate.id
entry_reply-id candidate accept_proxy real made (Some line) = refl
entry_reply-id candidate true real made None = refl
entry_reply-id candidate false real made None = decision-id candidate 0 real made

pub admission-id : (candidate : Candidate) (accept_proxy : Bool) (real : PairValue) (others : ℕ) → id_of (admission candidate accept_proxy real others).said ≡ Some candidate.id
admission-id candidate accept_proxy real others = by (nat_le candidate.frontend.limit others) refl
  where
    by : (b : Bool) → nat_le candidate.frontend.limit others ≡ b → id_of (admission candidate accept_proxy real others).said ≡ Some candidate.id
    by true e = rw e refl
    by false e = rw e (entry_reply-id candidate (demands_header candidate accept_proxy real) real (entry_rules candidate real).tracks (rejection (entry_rules candidate real)))

-- What is known of an answer.

-- it speaks to a new connection of a frontend, with the next serial
pub record IsNew (q : Plain) (said : Said) : Type 0 where
  pub id : ConnId
  pub speaks : id_of said ≡ Some id
  pub own : FrontendRows
  pub there : slice_get q.frontends id.frontend ≡ Some own
  pub next : id.serial ≡ own.serial + 1

-- it speaks to this connection, which is open
pub record IsOld (q : Plain) (id : ConnId) (said : Said) : Type 0 where
  pub speaks : id_of said ≡ Some id
  pub row : Row
  pub there : row_at q.frontends id ≡ Some row

-- it gives the next number to the plan that the text means
pub record IsReload (q : Plain) (text : List ℕ) (said : Said) : Type 0 where
  pub plan : Plan
  pub version : Version
  pub meant : meaning text ≡ Ok plan
  pub newest_is : newest q.versions ≡ Some version
  pub binds : same_binds version.plan plan ≡ true
  pub says : said ≡ Reloaded (version.number + 1)

-- it reports this of the server of those numbers
pub record IsMark (q : Plain) (number n : ℕ) (health : Health) (said : Said) : Type 0 where
  pub found : Backend × Server
  pub there : checked_server q.versions number n ≡ Some found
  pub says : said ≡ Marked found.1.line health

abbrev pub Says : Plain → OwnedEvent → Said → Type 0
Says q (Accept listener real) said = IsNew q said
Says q (Piece id bytes) said = IsOld q id said
Says q (Connected id) said = IsOld q id said
Says q (ConnectFailed id) said = IsOld q id said
Says q (Close id why) said = IsOld q id said
Says q (Expire id) said = IsOld q id said
Says q (Reload text) said = IsReload q text said
Says q (Mark number n health) said = IsMark q number n health said

-- what the answer to an accept looked up, and the reply that it gave
pub record Accepted (q : Plain) (clock listener : ℕ) (real : PairValue) (reply : Reply) : Type 0 where
  pub at : Listener
  pub own : FrontendRows
  pub version : Version
  pub frontend : Frontend
  pub listens : slice_get q.listeners listener ≡ Some at
  pub there : slice_get q.frontends at.frontend ≡ Some own
  pub newest_is : newest q.versions ≡ Some version
  pub found : frontend_in version.plan own.name ≡ Some frontend
  pub fits : nat_lt own.serial 0xFFFF_FFFF_FFFF_FFFF ≡ true
  pub reply_is : admission (candidate_at q clock at.frontend real own version frontend) at.accept_proxy real (length own.rows) ≡ reply

pub accepted : (q : Plain) (clock listener : ℕ) (real : PairValue) (reply : Reply) → accept_answer q clock listener real ≡ Ok reply → Accepted q clock listener real reply
accepted q clock listener real reply is =
    let one = bind-ok (or_fault NoListener (slice_get q.listeners listener)) _ reply is in
    let at : Listener = one.0 in
    let two = bind-ok (or_fault NoListener (slice_get q.frontends at.frontend)) _ reply one.2 in
    let own : FrontendRows = two.0 in
    let three = bind-ok (or_fault NoListener (newest q.versions)) _ reply two.2 in
    let version : Version = three.0 in
    let four = bind-ok (or_fault NoListener (frontend_in version.plan own.name)) _ reply three.2 in
    let frontend : Frontend = four.0 in
    let candidate : Candidate = candidate_at q clock at.frontend real own version frontend in
    let last = chosen (nat_lt own.serial 0xFFFF_FFFF_FFFF_FFFF) (admission candidate at.accept_proxy real (length own.rows)) reply Exhausted four.2 in
    record {
      at = at;
      own = own;
      version = version;
      frontend = frontend;
      listens = or_fault-ok NoListener (slice_get q.listeners listener) at one.1;
      there = or_fault-ok NoListener (slice_get q.frontends at.frontend) own two.1;
      newest_is = or_fault-ok NoListener (newest q.versions) version three.1;
      found = or_fault-ok NoListener (frontend_in version.plan own.name) frontend four.1;
      fits = last.0;
      reply_is = last.1;
    }

new_at : (q : Plain) (clock listener : ℕ) (real : PairValue) (reply : Reply) → Accepted q clock listener real reply → IsNew q reply.said
new_at q clock listener real reply got =
    let candidate : Candidate = candidate_at q clock got.at.frontend real got.own got.version got.frontend in
    record {
      id = candidate.id;
      speaks = ap (λ r. id_of r.said) (sym got.reply_is) ∙ admission-id candidate got.at.accept_proxy real (length got.own.rows);
      own = got.own;
      there = got.there;
      next = refl;
    }

closed : (q : Plain) (id : ConnId) (said : Said) (reply : Reply) → id_of said ≡ Some id → close_answer q id said ≡ Ok reply → IsOld q id reply.said
closed q id said reply speaks is =
    let one = bind-ok (or_fault NoSuch (row_at q.frontends id)) _ reply is in
    let same : reply_of said ≡ reply = let it : Ok (reply_of said) ≡ Ok reply = one.2 in cc in
    record { speaks = ap (λ r. id_of r.said) (sym same) ∙ speaks; row = one.0; there = or_fault-ok NoSuch (row_at q.frontends id) one.0 one.1 }

-- what the answer of a server looked up, and the reply that it gave
pub record ServerAnswered (q : Plain) (id : ConnId) (said : Said) (reply : Reply) : Type 0 where
  pub row : Row
  pub row_is : row_at q.frontends id ≡ Some row
  pub awaits : awaits_server row.phase ≡ true
  pub reply_is : reply_of said ≡ reply

pub server_answered : (q : Plain) (id : ConnId) (said : Said) (reply : Reply) → server_answer q id said ≡ Ok reply → ServerAnswered q id said reply
server_answered q id said reply is =
    let one = bind-ok (or_fault NoSuch (row_at q.frontends id)) _ reply is in
    let row : Row = one.0 in
    let last = chosen (awaits_server row.phase) (reply_of said) reply NotOffered one.2 in
    record { row = row; row_is = or_fault-ok NoSuch (row_at q.frontends id) row one.1; awaits = last.0; reply_is = last.1 }

old_server : (q : Plain) (id : ConnId) (said : Said) (reply : Reply) → id_of said ≡ Some id → ServerAnswered q id said reply → IsOld q id reply.said
old_server q id said reply speaks got = record { speaks = ap (λ r. id_of r.said) (sym got.reply_is) ∙ speaks; row = got.row; there = got.row_is }

-- a connection that waits
pub record IsWaiting (frontends : List FrontendRows) (id : ConnId) (row : Row) (rest : Rest) : Type 0 where
  pub there : row_at frontends id ≡ Some row
  pub holds : rest_in row.phase ≡ Some rest

pub waiting : (frontends : List FrontendRows) (id : ConnId) (found : Row × Rest) → waiting_row frontends id ≡ Ok found → IsWaiting frontends id found.0 found.1
waiting frontends id found is =
    let one = bind-ok (or_fault NoSuch (row_at frontends id)) _ found is in
    let two = bind-ok (or_fault NotWaiting (rest_in one.0.phase)) _ found one.2 in
    let same : (one.0, two.0) ≡ found = let it : Ok (one.0, two.0) ≡ Ok found = two.2 in cc in
    record {
      there = or_fault-ok NoSuch (row_at frontends id) one.0 one.1 ∙ ap (λ w. Some w.0) same;
      holds = ap (λ w. rest_in w.0.phase) (sym same) ∙ or_fault-ok NotWaiting (rest_in one.0.phase) two.0 two.1 ∙ ap (λ w. Some w.1) same;
    }

-- what the answer to a piece looked up, and the reply that it gave
pub record Received (q : Plain) (id : ConnId) (piece : List ℕ) (reply : Reply) : Type 0 where
  pub row : Row
  pub rest : Rest
  pub own : FrontendRows
  pub version : Version
  pub frontend : Frontend
  pub row_is : row_at q.frontends id ≡ Some row
  pub waits : rest_in row.phase ≡ Some rest
  pub there : slice_get q.frontends id.frontend ≡ Some own
  pub kept : version_at q.versions row.version ≡ Some version
  pub found : frontend_in version.plan own.name ≡ Some frontend
  pub reply_is : header_reply (candidate_of q id version frontend) row.real (length piece) (status_on rest piece) ≡ reply

pub received : (q : Plain) (id : ConnId) (piece : List ℕ) (reply : Reply) → piece_answer q id piece ≡ Ok reply → Received q id piece reply
received q id piece reply is =
    let one = bind-ok (waiting_row q.frontends id) _ reply is in
    let row : Row = one.0.0 in
    let rest : Rest = one.0.1 in
    let three = bind-ok (or_fault NoSuch (slice_get q.frontends id.frontend)) _ reply one.2 in
    let own : FrontendRows = three.0 in
    let four = bind-ok (or_fault NoSuch (version_at q.versions row.version)) _ reply three.2 in
    let version : Version = four.0 in
    let five = bind-ok (or_fault NoSuch (frontend_in version.plan own.name)) _ reply four.2 in
    let frontend : Frontend = five.0 in
    let same : header_reply (candidate_of q id version frontend) row.real (length piece) (status_on rest piece) ≡ reply =
    let it : Ok (header_reply (candidate_of q id version frontend) row.real (length piece) (status_on rest piece)) ≡ Ok reply = five.2 in cc in
    let waits = waiting q.frontends id one.0 one.1 in
    record {
      row = row;
      rest = rest;
      own = own;
      version = version;
      frontend = frontend;
      row_is = waits.there;
      waits = waits.holds;
      there = or_fault-ok NoSuch (slice_get q.frontends id.frontend) own three.1;
      kept = or_fault-ok NoSuch (version_at q.versions row.version) version four.1;
      found = or_fault-ok NoSuch (frontend_in version.plan own.name) frontend five.1;
      reply_is = same;
    }

old_piece : (q : Plain) (id : ConnId) (piece : List ℕ) (reply : Reply) → Received q id piece reply → IsOld q id reply.said
old_piece q id piece reply got = record {
  speaks = ap (λ r. id_of r.said) (sym got.reply_is) ∙ header_reply-id (candidate_of q id got.version got.frontend) got.row.real (length piece) (status_on got.rest piece);
  row = got.row;
  there = got.row_is;
}

-- what the answer to an expiry looked up, and the reply that it gave
pub record HasExpired (q : Plain) (clock : ℕ) (id : ConnId) (reply : Reply) : Type 0 where
  pub row : Row
  pub rest : Rest
  pub row_is : row_at q.frontends id ≡ Some row
  pub waits : rest_in row.phase ≡ Some rest
  pub due : nat_le (row.accepted + HEADER_WAIT) clock ≡ true
  pub reply_is : reply_of (Refuse id 0 Expired) ≡ reply

pub expired : (q : Plain) (clock : ℕ) (id : ConnId) (reply : Reply) → expire_answer q clock id ≡ Ok reply → HasExpired q clock id reply
expired q clock id reply is =
    let one = bind-ok (waiting_row q.frontends id) _ reply is in
    let row : Row = one.0.0 in
    let last = chosen (nat_le (row.accepted + HEADER_WAIT) clock) (reply_of (Refuse id 0 Expired)) reply NotDue one.2 in
    let waits = waiting q.frontends id one.0 one.1 in
    record { row = row; rest = one.0.1; row_is = waits.there; waits = waits.holds; due = last.0; reply_is = last.1 }

old_expired : (q : Plain) (clock : ℕ) (id : ConnId) (reply : Reply) → HasExpired q clock id reply → IsOld q id reply.said
old_expired q clock id reply got = record { speaks = ap (λ r. id_of r.said) (sym got.reply_is); row = got.row; there = got.row_is }

-- what the answer to a reload looked up, and the reply that it gave
pub record Followed (q : Plain) (text : List ℕ) (reply : Reply) : Type 0 where
  pub plan : Plan
  pub version : Version
  pub meant : meaning text ≡ Ok plan
  pub newest_is : newest q.versions ≡ Some version
  pub binds : same_binds version.plan plan ≡ true
  pub fits : nat_lt version.number 0xFFFF_FFFF_FFFF_FFFF ≡ true
  pub reply_is : reply_of (Reloaded (version.number + 1)) ≡ reply

both_chosen : {A F : Type 0} (a b : Bool) (x y : A) (one two : F) → (if a then if b then Ok x else Err one else Err two) ≡ Ok y → (a ≡ true) × (b ≡ true) × (x ≡ y)
both_chosen true true x y one two is = (refl, refl, cc)
both_chosen true false x y one two is = absurd (let wrong : Err one ≡ Ok y = is in cc)
both_chosen false b x y one two is = absurd (let wrong : Err two ≡ Ok y = is in cc)

followed_by : (q : Plain) (text : List ℕ) (reply : Reply) (read : Result Plan OpenFault) → meaning text ≡ read → reload_answer q read ≡ Ok reply → Followed q text reply
followed_by q text reply (Err fault) meant is = absurd (let wrong : Err (BadConfig fault) ≡ Ok reply = is in cc)
followed_by q text reply (Ok plan) meant is =
    let one = bind-ok (or_fault BindChanged (newest q.versions)) (next_answer plan) reply is in
    let version : Version = one.0 in
    let last = both_chosen (same_binds version.plan plan) (nat_lt version.number 0xFFFF_FFFF_FFFF_FFFF) (reply_of (Reloaded (version.number + 1))) reply Exhausted BindChanged one.2 in
    record {
      plan = plan;
      version = version;
      meant = meant;
      newest_is = or_fault-ok BindChanged (newest q.versions) version one.1;
      binds = last.0;
      fits = last.1;
      reply_is = last.2;
    }

pub followed : (q : Plain) (text : List ℕ) (reply : Reply) → reload_answer q (meaning text) ≡ Ok reply → Followed q text reply
followed q text reply is = followed_by q text reply (meaning text) refl is

reloaded : (q : Plain) (text : List ℕ) (reply : Reply) → Followed q text reply → IsReload q text reply.said
reloaded q text reply got =
    record { plan = got.plan; version = got.version; meant = got.meant; newest_is = got.newest_is; binds = got.binds; says = ap (λ r. r.said) (sym got.reply_is) }

-- what the answer to a server out of reach looked up, and the reply that it gave
pub record HasFailed (q : Plain) (id : ConnId) (reply : Reply) : Type 0 where
  pub row : Row
  pub given : Assignment
  pub row_is : row_at q.frontends id ≡ Some row
  pub offered : offer_in row.phase ≡ Some given
  pub reply_is : reply_of (failure_said id given (other_server q row given)) ≡ reply

pub has_failed : (q : Plain) (id : ConnId) (reply : Reply) → failure_answer q id ≡ Ok reply → HasFailed q id reply
has_failed q id reply is =
    let one = bind-ok (or_fault NoSuch (row_at q.frontends id)) _ reply is in
    let row : Row = one.0 in
    let two = bind-ok (or_fault NotOffered (offer_in row.phase)) _ reply one.2 in
    let said : Reply = reply_of (failure_said id two.0 (other_server q row two.0)) in
    record {
      row = row;
      given = two.0;
      row_is = or_fault-ok NoSuch (row_at q.frontends id) row one.1;
      offered = or_fault-ok NotOffered (offer_in row.phase) two.0 two.1;
      reply_is = let it : Ok said ≡ Ok reply = two.2 in cc;
    }

failure-id : (id : ConnId) (given : Assignment) (other : Option NumberedServer) → id_of (failure_said id given other) ≡ Some id
failure-id id given None = refl
failure-id id given (Some other) = refl

old_failed : (q : Plain) (id : ConnId) (reply : Reply) → HasFailed q id reply → IsOld q id reply.said
old_failed q id reply got =
    record { speaks = ap (λ r. id_of r.said) (sym got.reply_is) ∙ failure-id id got.given (other_server q got.row got.given); row = got.row; there = got.row_is }

-- what the answer to a report of a server looked up, and the reply that it gave
pub record IsReported (q : Plain) (number n : ℕ) (health : Health) (reply : Reply) : Type 0 where
  pub found : Backend × Server
  pub there : checked_server q.versions number n ≡ Some found
  pub reply_is : reply_of (Marked found.1.line health) ≡ reply

pub reported : (q : Plain) (number n : ℕ) (health : Health) (reply : Reply) → mark_answer q number n health ≡ Ok reply → IsReported q number n health reply
reported q number n health reply is =
    let one = bind-ok (or_fault NotChecked (checked_server q.versions number n)) _ reply is in
    record {
      found = one.0;
      there = or_fault-ok NotChecked (checked_server q.versions number n) one.0 one.1;
      reply_is = let it : Ok (reply_of (Marked one.0.1.line health)) ≡ Ok reply = one.2 in cc;
    }

marked : (q : Plain) (number n : ℕ) (health : Health) (reply : Reply) → IsReported q number n health reply → IsMark q number n health reply.said
marked q number n health reply got = record { found = got.found; there = got.there; says = ap (λ r. r.said) (sym got.reply_is) }

-- what is known of an answer
pub answered-now : (q : Plain) (event : OwnedEvent) (reply : Reply) → answer_now q event ≡ Ok reply → Says q event reply.said
answered-now q (Accept listener real) reply is = new_at q q.clock listener real reply (accepted q q.clock listener real reply is)
answered-now q (Piece id bytes) reply is = old_piece q id bytes reply (received q id bytes reply is)
answered-now q (Connected id) reply is = old_server q id (saids.Up id) reply refl (server_answered q id (saids.Up id) reply is)
answered-now q (ConnectFailed id) reply is = old_failed q id reply (has_failed q id reply is)
answered-now q (Close id why) reply is = closed q id (Closed id why) reply refl is
answered-now q (Expire id) reply is = old_expired q q.clock id reply (expired q q.clock id reply is)
answered-now q (Reload text) reply is = reloaded q text reply (followed q text reply is)
answered-now q (Mark number n health) reply is = marked q number n health reply (reported q number n health reply is)

-- time makes no difference to it

old_before : (q : Plain) (moment : ℕ) (id : ConnId) (said : Said) → IsOld (at_moment moment q) id said → IsOld q id said
old_before q moment id said old = record { speaks = old.speaks; row = old.row; there = old.there }

says_before : (q : Plain) (moment : ℕ) (event : OwnedEvent) (said : Said) → Says (at_moment moment q) event said → Says q event said
says_before q moment (Accept listener real) said new = record { id = new.id; speaks = new.speaks; own = new.own; there = new.there; next = new.next }
says_before q moment (Piece id bytes) said old = old_before q moment id said old
says_before q moment (Connected id) said old = old_before q moment id said old
says_before q moment (ConnectFailed id) said old = old_before q moment id said old
says_before q moment (Close id why) said old = old_before q moment id said old
says_before q moment (Expire id) said old = old_before q moment id said old
says_before q moment (Mark number n health) said got = record { found = got.found; there = got.there; says = got.says }
says_before q moment (Reload text) said got =
    record { plan = got.plan; version = got.version; meant = got.meant; newest_is = got.newest_is; binds = got.binds; says = got.says }

pub answered : (q : Plain) (moment : ℕ) (event : OwnedEvent) (reply : Reply) → answer_in q moment event ≡ Ok reply → Says q event reply.said
answered q moment event reply is = says_before q moment event reply.said (answered-now (at_moment moment q) event reply is)
