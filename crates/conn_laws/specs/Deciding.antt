-- Why a connection is offered a server, waits or is refused, and what the step tracks.
use Rattle.std.specs.Prelude.{ℕ, Bool, true, false, List, [], length, max, slice_get, Some, None, IfSome, Result, Ok, ◌+◌, ◌-◌, ◌^◌, ◌%◌, ◌++◌, ◌≤◌, ◌<◌, ◌≡◌, ◌≢◌, ◌⊎◌}
use Rattle.std.specs.List.{AllByRecursion}
use Rattle.addr_core.specs.declared.addr.Addr.{Addr}
use Rattle.addr_core.specs.PairValue.{PairValue}
use Rattle.pp_v1.specs.declared.meaning.Meaning.{Meaning}
use Rattle.pp_any.specs.declared.rest.Rest.{Rest}
use Rattle.pp_any.specs.Status as statuses
use Rattle.pp_any.specs.Status.{status, Whole, Fault}
use Rattle.proxy_types.specs.declared.balance.Method.{Method}
use Rattle.proxy_types.specs.declared.balance.Method.TheVariants.{RoundRobin, LeastConn, Source}
use Rattle.proxy_types.specs.declared.balance.Place.{Place}
use Rattle.proxy_types.specs.declared.server.ServerIdentity.{ServerIdentity}
use Rattle.acl_core.specs.Truth.{applies}
use Rattle.balance_core.specs.Loads.{total_weight}
use Rattle.balance_core.specs.Source.{mixed, share_of}
use Rattle.rule_engine.specs.Meaning.{present, SceneMeaning}
use Rattle.rule_engine.specs.Judging.{deciding_rule, judged_after, no_tracks, TrackSlots}
use Rattle.rule_engine.specs.declared.judging.Judged.{Judged}
use Rattle.plan_types.specs.declared.plan.Action.TheVariants.{Reject}
use Rattle.plan_types.specs.declared.plan.Backend.{Backend}
use Rattle.plan_types.specs.declared.plan.Frontend.{Frontend}
use Rattle.plan_types.specs.declared.plan.Rule.{Rule}
use Rattle.plan_types.specs.declared.plan.Server.{Server}
use Rattle.plan_types.specs.declared.track.Track.{Track}
use Rattle.conn_model.specs.declared.event.ConnId.{ConnId}
use Rattle.conn_model.specs.declared.event.OwnedEvent.{OwnedEvent}
use Rattle.conn_model.specs.declared.event.OwnedEvent.TheVariants.{Accept, Piece, Connected, ConnectFailed, Close, Expire, Reload, Mark}
use Rattle.conn_model.specs.declared.event.TheConstants.{HEADER_WAIT}
use Rattle.conn_model.specs.declared.reply.Cause.{Cause}
use Rattle.conn_model.specs.declared.reply.Cause.TheVariants.{Line, Header, Expired, NoBackend, NoServer}
use Rattle.conn_model.specs.declared.reply.Reply.{Reply}
use Rattle.conn_model.specs.declared.reply.Said.{Said}
use Rattle.conn_model.specs.declared.reply.Said.TheVariants as saids
use Rattle.conn_model.specs.declared.reply.StepFault.{StepFault}
use Rattle.conn_model.specs.declared.plain.FrontendRows.{FrontendRows}
use Rattle.conn_model.specs.declared.plain.Listener.{Listener}
use Rattle.conn_model.specs.declared.plain.Plain.{Plain}
use Rattle.conn_model.specs.declared.plain.Row.{Row}
use Rattle.conn_model.specs.declared.plain.Version.{Version}
use Rattle.conn_model.specs.Words.{newest, row_at}
use Rattle.conn_model.specs.Servers.{cursor_at, identity_in, loads_of, pick_in}
use Rattle.conn_model.specs.Rules.{backend_for, scene_of, view_of, worth, Candidate, RuleView}
use Rattle.conn_model.specs.Answer.{candidate_at, candidate_of, demands_header, entry_rules, frontend_in, judged_pair, numbered_server, rest_in, said_of, version_at, NumberedServer, at_moment, barred_for, backend_at}
use Rattle.conn_model.specs.declared.plain.Assignment.{Assignment}
use Rattle.conn_model.specs.declared.plain.Phase.TheVariants.{Offered}
use Rattle.plan_types.specs.Moves.{moves_of}
use Rattle.conn_model.specs.Counts.{served_by}

-- What judges a connection.

-- a connection that comes to a listener: the version in force judges it
pub record Arrival (p : Plain) (listener : ℕ) : Type 0 where
  pub at : Listener
  pub own : FrontendRows
  pub version : Version
  pub frontend : Frontend
  pub listens : slice_get p.listeners listener ≡ Some at
  pub there : slice_get p.frontends at.frontend ≡ Some own
  pub in_force : newest p.versions ≡ Some version
  pub found : frontend_in version.plan own.name ≡ Some frontend

-- it is one of the open connections when it is judged, at that moment
abbrev pub newcomer : (p : Plain) (moment : ℕ) (real : PairValue) (listener : ℕ) → Arrival p listener → Candidate
newcomer p moment real listener arrival = candidate_at (at_moment moment p) (max p.clock moment) arrival.at.frontend real arrival.own arrival.version arrival.frontend

-- a connection that waits for its header: the version of its accept judges it
pub record Waiter (p : Plain) (id : ConnId) : Type 0 where
  pub row : Row
  pub rest : Rest
  pub own : FrontendRows
  pub version : Version
  pub frontend : Frontend
  pub row_is : row_at p.frontends id ≡ Some row
  pub waits : rest_in row.phase ≡ Some rest
  pub there : slice_get p.frontends id.frontend ≡ Some own
  pub of_accept : version_at p.versions row.version ≡ Some version
  pub found : frontend_in version.plan own.name ≡ Some frontend

-- as it is judged at a moment
abbrev pub waiting : (p : Plain) (moment : ℕ) (id : ConnId) → Waiter p id → Candidate
waiting p moment id waiter = candidate_of (at_moment moment p) id waiter.version waiter.frontend

-- The rules.

-- no rule of the list decides, or the one that does is not a reject
abbrev pub IsNotRejected : SceneMeaning → TrackSlots → List Rule → Type 0
IsNotRejected scene made rules = IfSome (deciding_rule scene made rules) (λ found. found.1.action ≢ Reject)

-- its frontend may have one connection more than so many others, and no connection rule rejects its real source
pub record IsAdmitted (candidate : Candidate) (real : PairValue) (others : ℕ) : Type 0 where
  pub limit : others < candidate.frontend.limit
  pub rules : IsNotRejected (scene_of (view_of candidate real.source.addr)) no_tracks candidate.frontend.connection_rules

-- what the session rules say of the judged source, where the step tracked those before
abbrev pub session_rules : Candidate → PairValue → TrackSlots → Judged
session_rules candidate judged made = judged_after (scene_of (view_of candidate judged.source.addr)) made candidate.frontend.session_rules

-- Tracks, in the order of their counters.

-- what the connection rules track of a connection that comes, up to the one that decides
abbrev pub entry_tracks : Candidate → PairValue → List Track
entry_tracks candidate real = present (entry_rules candidate real).tracks

-- that of the session rules as well, where the step tracked those before
abbrev pub session_tracks : Candidate → PairValue → TrackSlots → List Track
session_tracks candidate judged made = present (session_rules candidate judged made).tracks

-- The choice of a server.

-- what it sees: what the rules tracked is tracked
abbrev pub choice_view : Candidate → PairValue → TrackSlots → RuleView
choice_view candidate judged made = view_of candidate judged.source.addr (session_tracks candidate judged made)

-- the backend that the lines choose has that server for it, by the counts of the open connections and by what was
-- reported of its servers
pub record HasServer (view : RuleView) (given : NumberedServer) : Type 0 where
  pub number : ℕ
  pub backend : Backend
  pub place : Place
  pub chosen : backend_for (worth view) view.frontend ≡ Some number
  pub backend_is : slice_get view.version.plan.backends number ≡ Some backend
  pub picked : pick_in view.served view.barred backend (cursor_at view.version.cursors number) view.source ≡ Some place
  pub server_is : numbered_server backend place.server ≡ Some given

-- no session rule rejects its judged source, and its backend has that server for it
pub record IsGiven (candidate : Candidate) (judged : PairValue) (made : TrackSlots) (given : NumberedServer) : Type 0 where
  pub rules : IsNotRejected (scene_of (view_of candidate judged.source.addr)) made candidate.frontend.session_rules
  pub server : HasServer (choice_view candidate judged made) given

-- Offers.

abbrev pub reply_saying : Said → List Track → Reply
reply_saying said tracks = record { said = said; tracks = record { items = tracks } }

-- the answer says that, and the step tracks those
abbrev pub Says : Result Reply StepFault → Said → List Track → Type 0
Says answer said tracks = answer ≡ Ok (reply_saying said tracks)

-- A connection is offered a server at its accept: its frontend has a serial left, and no header is demanded: neither by
-- its listener nor by a connection rule that was tried. The newcomer is named, and what is sent first states the judged
-- pair, which is the real one. What both lists of rules track is tracked.
pub record IsOfferedAtAccept (p : Plain) (moment : ℕ) (real : PairValue) (listener : ℕ) (arrival : Arrival p listener) (said : Said) (tracks : List Track) : Type 0 where
  pub given : NumberedServer
  pub serial_left : arrival.own.serial < 2 ^ 64 - 1
  pub no_header : demands_header (newcomer p moment real listener arrival) arrival.at.accept_proxy real ≡ false
  pub admitted : IsAdmitted (newcomer p moment real listener arrival) real (length arrival.own.rows)
  pub is_given : IsGiven (newcomer p moment real listener arrival) real (entry_rules (newcomer p moment real listener arrival) real).tracks given
  pub said_is : said ≡ said_of (newcomer p moment real listener arrival).id 0 real (Ok given)
  pub tracks_are : tracks ≡ session_tracks (newcomer p moment real listener arrival) real (entry_rules (newcomer p moment real listener arrival) real).tracks

-- It is let in to wait for its header: one is demanded. The newcomer is named, and what the connection rules track is
-- tracked.
pub record IsLetWait (p : Plain) (moment : ℕ) (real : PairValue) (listener : ℕ) (arrival : Arrival p listener) (said : Said) (tracks : List Track) : Type 0 where
  pub serial_left : arrival.own.serial < 2 ^ 64 - 1
  pub demanded : demands_header (newcomer p moment real listener arrival) arrival.at.accept_proxy real ≡ true
  pub admitted : IsAdmitted (newcomer p moment real listener arrival) real (length arrival.own.rows)
  pub said_is : said ≡ saids.Wait (newcomer p moment real listener arrival).id 0
  pub tracks_are : tracks ≡ entry_tracks (newcomer p moment real listener arrival) real

-- At a piece, where so many of the bytes came before: they are a header, and maybe more bytes follow it. What is sent
-- first states the judged pair, which is the one that the header declares. What the session rules track is tracked.
pub record IsOfferedAtPiece (p : Plain) (moment : ℕ) (id : ConnId) (waiter : Waiter p id) (bytes : List ℕ) (before : ℕ) (said : Said) (tracks : List Track) : Type 0 where
  pub meaning : Meaning
  pub used : ℕ
  pub given : NumberedServer
  pub header : status bytes ≡ Whole (used + before) meaning
  pub is_given : IsGiven (waiting p moment id waiter) (judged_pair waiter.row.real meaning) no_tracks given
  pub said_is : said ≡ said_of id used (judged_pair waiter.row.real meaning) (Ok given)
  pub tracks_are : tracks ≡ session_tracks (waiting p moment id waiter) (judged_pair waiter.row.real meaning) no_tracks

-- It waits on after a piece of so many bytes: with it, the bytes are the beginning of a header. Nothing is tracked.
pub record IsLeftWaiting (id : ConnId) (bytes : List ℕ) (count : ℕ) (said : Said) (tracks : List Track) : Type 0 where
  pub header : status bytes ≡ statuses.Wait
  pub said_is : said ≡ saids.Wait id count
  pub tracks_are : tracks ≡ []

-- Where its server is out of reach, it is moved: the backend of that server has another one for it, by the version of its
-- accept, that is not down and was not out of reach for it; and it was moved fewer times than the backend says. No rule is
-- tried again, and what is sent first states the same pair.
pub record IsMoved (p : Plain) (id : ConnId) (said : Said) (tracks : List Track) : Type 0 where
  pub row : Row
  pub given : Assignment
  pub version : Version
  pub number : ℕ
  pub backend : Backend
  pub place : Place
  pub other : NumberedServer
  pub row_is : row_at p.frontends id ≡ Some row
  pub offered : row.phase ≡ Offered given
  pub of_accept : version_at p.versions row.version ≡ Some version
  pub backend_is : backend_at version.plan given.line ≡ Some (number, backend)
  pub moves : length given.failed < moves_of backend.retries backend.redispatch
  pub picked : pick_in (served_by p.frontends) (barred_for p.down given) backend (cursor_at version.cursors number) given.judged.source.addr ≡ Some place
  pub server_is : numbered_server backend place.server ≡ Some other
  pub said_is : said ≡ said_of id 0 given.judged (Ok other)
  pub tracks_are : tracks ≡ []

abbrev pub is_wait : Said → Bool
is_wait (saids.Wait id used) = true
is_wait said = false

abbrev pub is_offer : Said → Bool
is_offer (saids.Offer id used line server to judged send) = true
is_offer said = false

-- it waits, is offered a server, or is refused
abbrev pub is_judgement : Said → Bool
is_judgement (saids.Wait id used) = true
is_judgement (saids.Offer id used line server to judged send) = true
is_judgement (saids.Refuse id used cause) = true
is_judgement (saids.Up id) = false
is_judgement (saids.Closed id why) = false
is_judgement (saids.Reloaded version) = false
is_judgement (saids.Marked line health) = false

-- the answer is one of these
abbrev pub IsJudged : Result Reply StepFault → Type 0
IsJudged answer = (reply : Reply) × (answer ≡ Ok reply) × (is_judgement reply.said ≡ true)

-- the event is an accept, a piece of a header, or a server out of reach
abbrev pub may_offer : OwnedEvent → Bool
may_offer (Accept listener real) = true
may_offer (Piece id bytes) = true
may_offer (Connected id) = false
may_offer (ConnectFailed id) = true
may_offer (Close id why) = false
may_offer (Expire id) = false
may_offer (Reload text) = false
may_offer (Mark number n health) = false

-- rules are tried at the event: it is an accept or a piece of a header
abbrev pub tries_rules : OwnedEvent → Bool
tries_rules (Accept listener real) = true
tries_rules (Piece id bytes) = true
tries_rules (Connected id) = false
tries_rules (ConnectFailed id) = false
tries_rules (Close id why) = false
tries_rules (Expire id) = false
tries_rules (Reload text) = false
tries_rules (Mark number n health) = false

-- Refusals.

-- the rule of that line is the first that decides, and rejects
pub record IsRejected (scene : SceneMeaning) (made : TrackSlots) (rules : List Rule) (line : ℕ) : Type 0 where
  pub place : ℕ
  pub rule : Rule
  pub decides : deciding_rule scene made rules ≡ Some (place, rule)
  pub rejects : rule.action ≡ Reject
  pub line_is : rule.line ≡ line

-- no `use_backend` line applies, and there is no default
pub record LacksBackend (view : RuleView) (line : ℕ) : Type 0 where
  pub none_applies : AllByRecursion (λ choice. applies view.frontend.acls (worth view) choice.when ≡ false) view.frontend.choices
  pub no_default : view.frontend.default ≡ None
  pub line_is : view.frontend.line ≡ line

-- a server may be used: it is not disabled, and has a weight
pub record IsUsable (server : Server) : Type 0 where
  pub enabled : server.disabled ≡ false
  pub weighs : 0 < server.weight

-- a server is full: it has a limit, and at least that many connections are open to it
pub record IsFull (served : ServerIdentity → ℕ) (backend : Backend) (server : Server) : Type 0 where
  pub limited : 0 < server.limit
  pub reached : server.limit ≤ served (identity_in backend server)

-- it may be used, and is not barred
pub record IsLeft (barred : Backend → Server → Bool) (backend : Backend) (server : Server) : Type 0 where
  pub usable : IsUsable server
  pub stands : barred backend server ≡ false

-- each server that is left is full
abbrev pub NoneHasRoom : (ServerIdentity → ℕ) → (Backend → Server → Bool) → Backend → Type 0
NoneHasRoom served barred backend = AllByRecursion (λ server. IsLeft barred backend server → IsFull served backend server) backend.servers

-- no server is left
abbrev pub NoneIsLeft : (Backend → Server → Bool) → Backend → Type 0
NoneIsLeft barred backend = AllByRecursion (λ server. IsLeft barred backend server → ⊥) backend.servers

-- the server of the source, into whose part of the weights of those that are left it falls, is full
pub record SourceIsFull (served : ServerIdentity → ℕ) (barred : Backend → Server → Bool) (backend : Backend) (source : Addr) : Type 0 where
  pub number : ℕ
  pub server : Server
  pub of_source : share_of (loads_of served barred backend) (mixed source % total_weight (loads_of served barred backend)) ≡ Some number
  pub server_is : slice_get backend.servers number ≡ Some server
  pub full : IsFull served backend server

-- by that method the backend has no server for the source
abbrev pub HasNoServer : (ServerIdentity → ℕ) → (Backend → Server → Bool) → Backend → Addr → Method → Type 0
HasNoServer served barred backend source RoundRobin = NoneHasRoom served barred backend
HasNoServer served barred backend source LeastConn = NoneHasRoom served barred backend
HasNoServer served barred backend source Source = NoneIsLeft barred backend ⊎ SourceIsFull served barred backend source

-- the backend that the lines choose has no server for it, by the counts of the open connections and by what was reported
-- of its servers
pub record LacksServer (view : RuleView) (line : ℕ) : Type 0 where
  pub number : ℕ
  pub backend : Backend
  pub chosen : backend_for (worth view) view.frontend ≡ Some number
  pub backend_is : slice_get view.version.plan.backends number ≡ Some backend
  pub none : HasNoServer view.served view.barred backend view.source backend.method
  pub line_is : backend.line ≡ line

-- it is judged by that pair, and gets no server for that cause
abbrev pub IsWithheld : Candidate → PairValue → TrackSlots → Cause → Type 0
IsWithheld candidate judged made (Line line) = IsRejected (scene_of (view_of candidate judged.source.addr)) made candidate.frontend.session_rules line
IsWithheld candidate judged made (Header fault) = ⊥
IsWithheld candidate judged made Expired = ⊥
IsWithheld candidate judged made (NoBackend line) =
    IsNotRejected (scene_of (view_of candidate judged.source.addr)) made candidate.frontend.session_rules × LacksBackend (choice_view candidate judged made) line
IsWithheld candidate judged made (NoServer line) =
    IsNotRejected (scene_of (view_of candidate judged.source.addr)) made candidate.frontend.session_rules × LacksServer (choice_view candidate judged made) line

-- at its accept the limit of its frontend is reached, and nothing is tracked
pub record IsOverLimit (candidate : Candidate) (others : ℕ) (cause : Cause) (tracks : List Track) : Type 0 where
  pub limit : candidate.frontend.limit ≤ others
  pub cause_is : cause ≡ Line candidate.frontend.limit_line
  pub tracks_are : tracks ≡ []

-- or a connection rule rejects it, and what they track up to that one is tracked
pub record IsTurnedAway (candidate : Candidate) (real : PairValue) (others : ℕ) (cause : Cause) (tracks : List Track) : Type 0 where
  pub limit : others < candidate.frontend.limit
  pub line : ℕ
  pub cause_is : cause ≡ Line line
  pub rejected : IsRejected (scene_of (view_of candidate real.source.addr)) no_tracks candidate.frontend.connection_rules line
  pub tracks_are : tracks ≡ entry_tracks candidate real

-- or it is admitted, no header is demanded, and it gets no server: what both lists track is tracked
pub record IsWithheldAtAccept (candidate : Candidate) (accept_proxy : Bool) (real : PairValue) (others : ℕ) (cause : Cause) (tracks : List Track) : Type 0 where
  pub no_header : demands_header candidate accept_proxy real ≡ false
  pub admitted : IsAdmitted candidate real others
  pub withheld : IsWithheld candidate real (entry_rules candidate real).tracks cause
  pub tracks_are : tracks ≡ session_tracks candidate real (entry_rules candidate real).tracks

abbrev pub IsRefusedAtAccept : Candidate → Bool → PairValue → ℕ → Cause → List Track → Type 0
IsRefusedAtAccept candidate accept_proxy real others cause tracks =
    IsOverLimit candidate others cause tracks ⊎ (IsTurnedAway candidate real others cause tracks ⊎ IsWithheldAtAccept candidate accept_proxy real others cause tracks)

-- at a piece the bytes are a header, which ends after so many of them, and it gets no server: what the session rules
-- track is tracked
pub record IsWithheldAtPiece (p : Plain) (moment : ℕ) (id : ConnId) (waiter : Waiter p id) (bytes : List ℕ) (count : ℕ) (cause : Cause) (tracks : List Track) : Type 0 where
  pub meaning : Meaning
  pub header : status bytes ≡ Whole count meaning
  pub withheld : IsWithheld (waiting p moment id waiter) (judged_pair waiter.row.real meaning) no_tracks cause
  pub tracks_are : tracks ≡ session_tracks (waiting p moment id waiter) (judged_pair waiter.row.real meaning) no_tracks

-- or the bytes have that fault, which so many of them show, and nothing is tracked
abbrev pub IsRefusedAtPiece : (p : Plain) (moment : ℕ) (id : ConnId) → Waiter p id → List ℕ → ℕ → Cause → List Track → Type 0
IsRefusedAtPiece p moment id waiter bytes count (Line line) tracks = IsWithheldAtPiece p moment id waiter bytes count (Line line) tracks
IsRefusedAtPiece p moment id waiter bytes count (Header fault) tracks = (status bytes ≡ Fault fault count) × (tracks ≡ [])
IsRefusedAtPiece p moment id waiter bytes count Expired tracks = ⊥
IsRefusedAtPiece p moment id waiter bytes count (NoBackend line) tracks = IsWithheldAtPiece p moment id waiter bytes count (NoBackend line) tracks
IsRefusedAtPiece p moment id waiter bytes count (NoServer line) tracks = IsWithheldAtPiece p moment id waiter bytes count (NoServer line) tracks

-- no whole header came in time, and nothing is tracked
pub record IsLate (p : Plain) (moment : ℕ) (id : ConnId) (cause : Cause) (tracks : List Track) : Type 0 where
  pub waiter_row : Row
  pub row_is : row_at p.frontends id ≡ Some waiter_row
  pub rest : Rest
  pub waits : rest_in waiter_row.phase ≡ Some rest
  pub late : waiter_row.accepted + HEADER_WAIT ≤ max p.clock moment
  pub cause_is : cause ≡ Expired
  pub tracks_are : tracks ≡ []

-- Whom a refusal at an event names and why, and what the step tracks, where those bytes of the header came before, and
-- so many bytes of the piece belong to it. It names the newcomer at an accept, and otherwise the event's own connection.
abbrev pub IsCause : Plain → (ConnId → List ℕ) → ℕ → OwnedEvent → ConnId → ℕ → Cause → List Track → Type 0
IsCause p before moment (Accept listener real) id used cause tracks =
    (used ≡ 0)
    × ((arrival : Arrival p listener)
    × (id ≡ (newcomer p moment real listener arrival).id)
    × IsRefusedAtAccept (newcomer p moment real listener arrival) arrival.at.accept_proxy real (length arrival.own.rows) cause tracks)
IsCause p before moment (Piece own bytes) id used cause tracks =
    (id ≡ own) × ((waiter : Waiter p own) × IsRefusedAtPiece p moment own waiter (before own ++ bytes) (used + length (before own)) cause tracks)
IsCause p before moment (Expire own) id used cause tracks = (id ≡ own) × (used ≡ 0) × IsLate p moment own cause tracks
IsCause p before moment event id used cause tracks = ⊥
