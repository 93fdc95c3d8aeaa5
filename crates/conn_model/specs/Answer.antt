-- What a balancer in a plain state answers to an event.
use Rattle.std.specs.Prelude.{ℕ, Bool, true, false, List, [], ◌∷◌, ◌++◌, length, max, find, position, is_some, slice_get, slice_set, Option, option_map, Some, None, Result, Ok, Err, ◌+◌, ◌==◌, ◌||◌, nat_le, nat_lt, if◌then◌else◌}
use Rattle.std.specs.Str.{bytes_eq}
use Rattle.std.specs.List.{list_any}
use Rattle.std.specs.Option.{option_and_then}
use Rattle.list_core.specs.Each.{◌>>=◌}
use Rattle.proxy_types.specs.declared.server.ServerIdentity.{ServerIdentity}
use Rattle.addr_core.specs.PairValue.{PairValue}
use Rattle.pp_v1.specs.declared.meaning.Meaning.{Meaning}
use Rattle.pp_v1.specs.declared.meaning.Meaning.TheVariants.{Real, Declared}
use Rattle.pp_v1.specs.Line.{line_of}
use Rattle.pp_v2.specs.Block.{header_of}
use Rattle.pp_any.specs.declared.rest.Rest.{Rest}
use Rattle.pp_any.specs.declared.rest.Rest.TheVariants.{Read}
use Rattle.pp_any.specs.Status as statuses
use Rattle.pp_any.specs.Status.{Status}
use Rattle.pp_any.specs.NextPiece.{status_on}
use Rattle.rule_engine.specs.Meaning.{present}
use Rattle.rule_engine.specs.Judging.{judged, judged_after, no_tracks, TrackSlots}
use Rattle.rule_engine.specs.declared.judging.Judged.{Judged}
use Rattle.plan_types.specs.declared.track.Track.{Track}
use Rattle.plan_types.specs.declared.plan.Server.{Server}
use Rattle.plan_types.specs.declared.plan.Backend.{Backend}
use Rattle.plan_types.specs.declared.plan.Frontend.{Frontend}
use Rattle.plan_types.specs.declared.plan.Plan.{Plan}
use Rattle.plan_types.specs.Lines.{has_line}
use Rattle.plan_types.specs.Moves.{moves_of}
use Rattle.config_core.specs.Binds.{same_binds}
use Rattle.config_core.specs.Meaning.{meaning}
use Rattle.config_core.specs.declared.fault.OpenFault.{OpenFault}
use Rattle.conn_model.specs.declared.event.ConnId.{ConnId}
use Rattle.conn_model.specs.declared.event.OwnedEvent.{OwnedEvent}
use Rattle.conn_model.specs.declared.event.OwnedEvent.TheVariants.{Accept, Piece, Connected, ConnectFailed, Close, Expire, Reload, Mark}
use Rattle.conn_model.specs.declared.event.Health.{Health}
use Rattle.conn_model.specs.declared.event.Why.TheVariants.{Failed}
use Rattle.conn_model.specs.declared.event.TheConstants.{HEADER_WAIT}
use Rattle.conn_model.specs.declared.reply.Cause.{Cause}
use Rattle.conn_model.specs.declared.reply.Cause.TheVariants.{Line, Header, Expired, NoBackend, NoServer}
use Rattle.conn_model.specs.declared.reply.Said.{Said}
use Rattle.conn_model.specs.declared.reply.Said.TheVariants as saids
use Rattle.conn_model.specs.declared.reply.Said.TheVariants.{Wait, Offer, Refuse, Closed, Reloaded, Marked}
use Rattle.conn_model.specs.declared.reply.Reply.{Reply}
use Rattle.conn_model.specs.declared.reply.StepFault.{StepFault}
use Rattle.conn_model.specs.declared.reply.StepFault.TheVariants.{NoListener, NoSuch, NotWaiting, NotOffered, NotDue, NotChecked, BadConfig, BindChanged, Exhausted}
use Rattle.conn_model.specs.declared.plain.Assignment.{Assignment}
use Rattle.conn_model.specs.declared.plain.Phase.{Phase}
use Rattle.conn_model.specs.declared.plain.Phase.TheVariants.{Waiting, Offered, Up}
use Rattle.conn_model.specs.declared.plain.Row.{Row}
use Rattle.conn_model.specs.declared.plain.FrontendRows.{FrontendRows}
use Rattle.conn_model.specs.declared.plain.Version.{Version}
use Rattle.conn_model.specs.declared.plain.Plain.{Plain}
use Rattle.conn_model.specs.Words.{newest, or_fault}
pub use Rattle.conn_model.specs.Words.{row_in, row_at}
use Rattle.conn_model.specs.Counts.{newest_backend, served_by}
use Rattle.conn_model.specs.Servers.{cursor_at, pick_in, is_down}
use Rattle.conn_model.specs.Tables.{open_tracks, tables_alive}
use Rattle.conn_model.specs.Rules.{Candidate, RuleView, view_of, worth, scene_of, rejection, backend_for}

-- The state, looked up.

abbrev pub version_at : List Version → ℕ → Option Version
version_at versions number = find (λ version. version.number == number) versions

abbrev pub frontend_in : Plan → List ℕ → Option Frontend
frontend_in plan name = find (λ frontend. bytes_eq frontend.name name) plan.frontends

-- a reply that tracks nothing
abbrev pub reply_of : Said → Reply
reply_of said = record { said = said; tracks = record { items = [] } }

-- a reply of a step that tracks those, by counter
abbrev pub reply_with : Said → TrackSlots → Reply
reply_with said made = record { said = said; tracks = record { items = present made } }

-- Judging a connection.

-- a server, with its number in its backend
pub record NumberedServer : Type 0 where
  pub number : ℕ
  pub server : Server

abbrev pub numbered_server : Backend → ℕ → Option NumberedServer
numbered_server backend number = option_map (λ server. record { number = number; server = server }) (slice_get backend.servers number)

-- the server that is picked for a connection in that view, or why there is none
abbrev pub server_for : RuleView → Result NumberedServer Cause
server_for v = do
  number ← or_fault (NoBackend v.frontend.line) (backend_for (worth v) v.frontend)
  backend ← or_fault (NoBackend v.frontend.line) (slice_get v.version.plan.backends number)
  turn ← or_fault (NoServer backend.line) (pick_in v.served v.barred backend (cursor_at v.version.cursors number) v.source)
  or_fault (NoServer backend.line) (numbered_server backend turn.server)

-- unless the session rules reject it by a line
abbrev pub server_unless : RuleView → Option ℕ → Result NumberedServer Cause
server_unless v (Some line) = Err (Line line)
server_unless v None = server_for v

-- What is decided of a connection: its server, or why it gets none, and what the step tracks, by counter.
pub record Decision : Type 0 where
  pub result : Result NumberedServer Cause
  pub made : TrackSlots

-- The session rules first, and then the backend and its server, where the step tracked those before.
abbrev pub verdict : (List Track → RuleView) → Frontend → TrackSlots → Decision
verdict views frontend made =
    let says = judged_after (scene_of views) made frontend.session_rules in
    record { result = server_unless (views (present says.tracks)) (rejection says); made = says.tracks }

-- what the server is sent before the stream: the header that states the judged pair, of version 2 where the
-- server is to get that one
abbrev pub header_sent : Server → PairValue → List ℕ
header_sent server judged = if server.send_proxy_v2 then header_of judged else if server.send_proxy then line_of judged else []

-- an offer of the server, or a refusal; so many bytes of the piece belong to the header
abbrev pub said_of : ConnId → ℕ → PairValue → Result NumberedServer Cause → Said
said_of id used judged (Ok given) = Offer id used given.server.line given.number given.server.to judged (record { items = header_sent given.server judged })
said_of id used judged (Err cause) = Refuse id used cause

-- once the header is whole, or where none is expected: what the step tracked before is given
abbrev pub decision : Candidate → ℕ → PairValue → TrackSlots → Reply
decision candidate used judged made =
    let decided = verdict (view_of candidate judged.source.addr) candidate.frontend made in
    reply_with (said_of candidate.id used judged decided.result) decided.made

-- An accept.

-- a connection that was accepted: it has no server yet, and no byte of a header
abbrev pub new_row : ℕ → ℕ → PairValue → ℕ → Row
new_row serial version real clock =
    record { serial = serial; version = version; real = real; accepted = clock; phase = Waiting (Read (record { items = [] })); tracks = [] }

-- the state with one more row of the frontend of that number, which has these rows
abbrev pub with_row : Plain → ℕ → FrontendRows → Row → Plain
with_row p number own row = record p { frontends = slice_set p.frontends number (record own { serial = row.serial; rows = own.rows ++ row ∷ [] }) }

-- where a connection is judged at its accept: it is one of the rows
abbrev pub candidate_at : Plain → ℕ → ℕ → PairValue → FrontendRows → Version → Frontend → Candidate
candidate_at p clock number real own version frontend = record {
  state = with_row p number own (new_row (own.serial + 1) version.number real clock);
  version = version;
  frontend = frontend;
  id = record { frontend = number; serial = own.serial + 1 };
}

-- after the connection rules, which may track and may reject by a line: the connection waits where a header is demanded
abbrev pub entry_reply : Candidate → Bool → PairValue → TrackSlots → Option ℕ → Reply
entry_reply candidate demanded real made (Some line) = reply_with (Refuse candidate.id 0 (Line line)) made
entry_reply candidate true real made None = reply_with (Wait candidate.id 0) made
entry_reply candidate false real made None = decision candidate 0 real made

-- what the connection rules say of a candidate
abbrev pub entry_rules : Candidate → PairValue → Judged
entry_rules candidate real = judged (scene_of (view_of candidate real.source.addr)) candidate.frontend.connection_rules

-- a header is demanded where the listener takes one, or where a connection rule that was tried expects one
abbrev pub demands_header : Candidate → Bool → PairValue → Bool
demands_header candidate accept_proxy real = accept_proxy || (entry_rules candidate real).expects_header

-- the reply to a candidate, where so many other connections of its frontend are open: the limit of the frontend
-- first, then the connection rules on the real source
abbrev pub admission : Candidate → Bool → PairValue → ℕ → Reply
admission candidate accept_proxy real others =
    if nat_le candidate.frontend.limit others then reply_of (Refuse candidate.id 0 (Line candidate.frontend.limit_line))
    else let says = entry_rules candidate real in entry_reply candidate (demands_header candidate accept_proxy real) real says.tracks (rejection says)

-- an accept is judged by the newest version, in the frontend of its listener
abbrev pub accept_answer : Plain → ℕ → ℕ → PairValue → Result Reply StepFault
accept_answer p clock listener real = do
  at ← or_fault NoListener (slice_get p.listeners listener)
  own ← or_fault NoListener (slice_get p.frontends at.frontend)
  version ← or_fault NoListener (newest p.versions)
  frontend ← or_fault NoListener (frontend_in version.plan own.name)
  if nat_lt own.serial 0xFFFF_FFFF_FFFF_FFFF then Ok (admission (candidate_at p clock at.frontend real own version frontend) at.accept_proxy real (length own.rows)) else Err Exhausted

-- A piece of a header.

-- the pair that is judged: the one that the header declares, or the connection's own
abbrev pub judged_pair : PairValue → Meaning → PairValue
judged_pair real Real = real
judged_pair real (Declared pair) = pair

-- what a connection that waits holds of its header
abbrev pub rest_in : Phase → Option Rest
rest_in (Waiting rest) = Some rest
rest_in (Offered assignment) = None
rest_in (Up assignment) = None

-- the open connection of that name, with what it holds of the header that it waits for
abbrev pub waiting_row : List FrontendRows → ConnId → Result (Row × Rest) StepFault
waiting_row frontends id = do
  row ← or_fault NoSuch (row_at frontends id)
  rest ← or_fault NotWaiting (rest_in row.phase)
  Ok (row, rest)

-- an open connection, judged in a version of the configuration
abbrev pub candidate_of : Plain → ConnId → Version → Frontend → Candidate
candidate_of p id version frontend = record { state = p; version = version; frontend = frontend; id = id }

-- the reply once a piece of that length came that decides this of the header
abbrev pub header_reply : Candidate → PairValue → ℕ → Status → Reply
header_reply candidate real length statuses.Wait = reply_of (Wait candidate.id length)
header_reply candidate real length (statuses.Fault fault count) = reply_of (Refuse candidate.id count (Header fault))
header_reply candidate real length (statuses.Whole count meaning) = decision candidate count (judged_pair real meaning) no_tracks

-- a piece is judged by the version of the connection's accept, in its own frontend
abbrev pub piece_answer : Plain → ConnId → List ℕ → Result Reply StepFault
piece_answer p id piece = do
  waiting ← waiting_row p.frontends id
  own ← or_fault NoSuch (slice_get p.frontends id.frontend)
  version ← or_fault NoSuch (version_at p.versions waiting.0.version)
  frontend ← or_fault NoSuch (frontend_in version.plan own.name)
  Ok (header_reply (candidate_of p id version frontend) waiting.0.real (length piece) (status_on waiting.1 piece))

-- Other events.

-- the connection was offered a server, which did not take it yet
abbrev pub awaits_server : Phase → Bool
awaits_server (Waiting rest) = false
awaits_server (Offered assignment) = true
awaits_server (Up assignment) = false

-- the server that such a connection was offered
abbrev pub offer_in : Phase → Option Assignment
offer_in (Waiting rest) = None
offer_in (Offered assignment) = Some assignment
offer_in (Up assignment) = None

-- the server of such a connection may take it
abbrev pub server_answer : Plain → ConnId → Said → Result Reply StepFault
server_answer p id said = do
  row ← or_fault NoSuch (row_at p.frontends id)
  if awaits_server row.phase then Ok (reply_of said) else Err NotOffered

-- Where its server is out of reach, a connection may be moved to another one of its backend.

-- a server that is down, or was out of reach for the connection, is not chosen
abbrev pub barred_for : List ServerIdentity → Assignment → Backend → Server → Bool
barred_for down given backend server = is_down down backend server || list_any (λ line. line == server.line) (given.line ∷ given.failed)

-- the backend that has the server of a line, with its number
abbrev pub backend_at : Plan → ℕ → Option (ℕ × Backend)
backend_at plan line = option_and_then (λ number. option_map (λ backend. (number, backend)) (slice_get plan.backends number)) (position (has_line line) plan.backends)

-- another server of that backend of a version, if the connection may be moved once more
abbrev pub other_in : Plain → Assignment → Version → ℕ → Backend → Option NumberedServer
other_in p given version number backend =
    if nat_lt (length given.failed) (moves_of backend.retries backend.redispatch)
    then option_and_then (λ turn. numbered_server backend turn.server)
    (pick_in (served_by p.frontends) (barred_for p.down given) backend (cursor_at version.cursors number) given.judged.source.addr)
    else None

-- another server of its backend, by the version of its accept
abbrev pub other_server : Plain → Row → Assignment → Option NumberedServer
other_server p row given =
    option_and_then (λ version. option_and_then (λ (at : ℕ × Backend). other_in p given version at.0 at.1) (backend_at version.plan given.line)) (version_at p.versions row.version)

-- an offer of it, or the end
abbrev pub failure_said : ConnId → Assignment → Option NumberedServer → Said
failure_said id given None = Closed id Failed
failure_said id given (Some other) = said_of id 0 given.judged (Ok other)

abbrev pub failure_answer : Plain → ConnId → Result Reply StepFault
failure_answer p id = do
  row ← or_fault NoSuch (row_at p.frontends id)
  given ← or_fault NotOffered (offer_in row.phase)
  Ok (reply_of (failure_said id given (other_server p row given)))

-- a connection that is open may be closed
abbrev pub close_answer : Plain → ConnId → Said → Result Reply StepFault
close_answer p id said = or_fault NoSuch (row_at p.frontends id) >>= λ row. Ok (reply_of said)

-- a connection may wait for its header for so long, and not longer
abbrev pub expire_answer : Plain → ℕ → ConnId → Result Reply StepFault
expire_answer p clock id = do
  waiting ← waiting_row p.frontends id
  if nat_le (waiting.0.accepted + HEADER_WAIT) clock then Ok (reply_of (Refuse id 0 Expired)) else Err NotDue

-- A server is reported down or up.

-- the server of that number in the backend of that number, by the newest version, with that backend; if it is checked
abbrev pub checked_server : List Version → ℕ → ℕ → Option (Backend × Server)
checked_server versions number n =
    option_and_then (λ backend. option_and_then (λ server. if is_some server.check then Some (backend, server) else None) (slice_get backend.servers n)) (newest_backend versions number)

abbrev pub mark_answer : Plain → ℕ → ℕ → Health → Result Reply StepFault
mark_answer p number n health = or_fault NotChecked (checked_server p.versions number n) >>= λ found. Ok (reply_of (Marked found.1.line health))

-- A reload.

-- a plan follows the version in force where it binds the same
abbrev pub next_answer : Plan → Version → Result Reply StepFault
next_answer plan version =
    if same_binds version.plan plan
    then if nat_lt version.number 0xFFFF_FFFF_FFFF_FFFF then Ok (reply_of (Reloaded (version.number + 1))) else Err Exhausted
    else Err BindChanged

-- a text is refused where it means no plan
abbrev pub reload_answer : Plain → Result Plan OpenFault → Result Reply StepFault
reload_answer p (Err fault) = Err (BadConfig fault)
reload_answer p (Ok plan) = or_fault BindChanged (newest p.versions) >>= next_answer plan

-- Time.

-- the state once it is that late, without the entries of tables that are gone then; time does not go back
abbrev pub at_moment : ℕ → Plain → Plain
at_moment moment p = record p { clock = max p.clock moment; tables = tables_alive (max p.clock moment) (open_tracks p.frontends) p.tables }

-- the reply to an event at the moment of the state, or why it has none
abbrev pub answer_now : Plain → OwnedEvent → Result Reply StepFault
answer_now p (Accept listener real) = accept_answer p p.clock listener real
answer_now p (Piece id bytes) = piece_answer p id bytes
answer_now p (Connected id) = server_answer p id (saids.Up id)
answer_now p (ConnectFailed id) = failure_answer p id
answer_now p (Close id why) = close_answer p id (Closed id why)
answer_now p (Expire id) = expire_answer p p.clock id
answer_now p (Reload text) = reload_answer p (meaning text)
answer_now p (Mark number n health) = mark_answer p number n health

-- the reply to an event at a moment
abbrev pub answer_in : Plain → ℕ → OwnedEvent → Result Reply StepFault
answer_in p moment event = answer_now (at_moment moment p) event
