-- What happened, and what is left of it.
use Rattle.std.specs.Prelude.{ℕ, Bool, true, false, not, max, List, [], map, filter, find, slice_get, length, Option, Some, None, option_map, option_and_then, option_to_list, IsSome, Result, Ok, Err, flat_map, ◌⊎◌, ◌+◌, ◌≤◌, ◌≡◌, ◌==◌, ◌&&◌, ◌||◌, ◌∷◌, ◌++◌, if◌then◌else◌}
use Rattle.std.specs.List.{list_any, AllByRecursion, enumerate_from}
use Rattle.std.specs.Option.{option_map_or, option_or}
use Rattle.addr_core.specs.declared.addr.Endpoint.{Endpoint}
use Rattle.addr_core.specs.PairValue.{PairValue}
use Rattle.proxy_types.specs.declared.server.ServerIdentity.{ServerIdentity}
use Rattle.proxy_types.specs.ServerIdentity.{same_server}
use Rattle.pp_any.specs.NextPiece.{rest_on}
use Rattle.plan_types.specs.declared.plan.Frontend.{Frontend}
use Rattle.plan_types.specs.declared.plan.Backend.{Backend}
use Rattle.plan_types.specs.declared.plan.Plan.{Plan}
use Rattle.plan_types.specs.declared.track.TableId.{TableId}
use Rattle.plan_types.specs.declared.track.Track.{Track}
use Rattle.plan_types.specs.declared.plan.Table.{Table}
use Rattle.plan_types.specs.Lines.{has_line}
use Rattle.config_core.specs.Meaning.{meaning}
use Rattle.config_core.specs.declared.fault.OpenFault.{OpenFault}
use Rattle.conn_model.specs.declared.event.ConnId.{ConnId}
use Rattle.conn_model.specs.declared.event.Event.{Event}
use Rattle.conn_model.specs.declared.event.Event.TheVariants as events
use Rattle.conn_model.specs.declared.event.Health.{Health}
use Rattle.conn_model.specs.declared.event.Health.TheVariants as healths
use Rattle.conn_model.specs.declared.event.OwnedEvent.{OwnedEvent}
use Rattle.conn_model.specs.declared.event.OwnedEvent.TheVariants.{Accept, Piece, Connected, ConnectFailed, Close, Expire, Reload, Mark}
use Rattle.conn_model.specs.declared.reply.Said.{Said}
use Rattle.conn_model.specs.declared.reply.Said.TheVariants as saids
use Rattle.conn_model.specs.declared.reply.Said.TheVariants.{Wait, Offer, Refuse, Closed, Reloaded, Marked}
use Rattle.conn_model.specs.declared.reply.Reply.{Reply}
use Rattle.conn_model.specs.declared.reply.StepFault.{StepFault}
use Rattle.conn_model.specs.declared.reply.StepFault.TheVariants.{NoMemory}
use Rattle.conn_model.specs.declared.plain.Phase.{Phase}
use Rattle.conn_model.specs.declared.plain.Phase.TheVariants.{Waiting, Offered, Up}
use Rattle.conn_model.specs.declared.plain.Row.{Row}
use Rattle.conn_model.specs.declared.plain.FrontendRows.{FrontendRows}
use Rattle.conn_model.specs.declared.plain.Listener.{Listener}
use Rattle.conn_model.specs.declared.plain.Version.{Version}
use Rattle.conn_model.specs.declared.plain.TableState.{TableState}
use Rattle.conn_model.specs.declared.plain.Plain.{Plain}
use Rattle.conn_model.specs.declared.ask.Ask.{Ask}
use Rattle.conn_model.specs.declared.ask.Counts.{Counts}
use Rattle.conn_model.specs.Words.{is_conn, newest, map_from, Rise}
use Rattle.conn_model.specs.Counts.{counts_in, is_served_by}
use Rattle.conn_model.specs.Answer.{answer_in, new_row, row_at, version_at, checked_server}
use Rattle.conn_model.specs.Servers.{cursors_after, identity_in}
use Rattle.conn_model.specs.Tables.{is_listed_by, new_id, new_table, new_tables, next_id, open_tracks, table_at, tables_alive, with_tracks, without_tracks, written_tables, IncarnationsDiffer, IsTableWell, IsTrackListed}
pub use Rattle.conn_model.specs.Tables.{by_counter, tracks_at}

-- an answered event, with the moment that was handed in
pub record Entry : Type 0 where
  pub moment : ℕ
  pub event : OwnedEvent
  pub reply : Reply

abbrev pub entry : ℕ → OwnedEvent → Reply → Entry
entry moment event reply = record { moment = moment; event = event; reply = reply }

-- A history is the list of the entries, the newest first.

-- the greatest moment
abbrev pub now_of : ℕ → List Entry → ℕ
now_of start [] = start
now_of start (e ∷ h) = max (now_of start h) e.moment

-- Of whom a reply speaks.

abbrev pub id_of : Said → Option ConnId
id_of (Wait id used) = Some id
id_of (Offer id used line server to judged send) = Some id
id_of (Refuse id used cause) = Some id
id_of (saids.Up id) = Some id
id_of (Closed id why) = Some id
id_of (Reloaded version) = None
id_of (Marked line health) = None

-- the reply speaks to the connection of that frontend and serial
abbrev pub speaks_to : ℕ → ℕ → Said → Bool
speaks_to number serial said = option_map_or (is_conn number serial) (id_of said) false

-- Versions of the configuration, by their numbers.

-- the number that a reply gives to a configuration
abbrev pub number_said : Said → Option ℕ
number_said (Reloaded version) = Some version
number_said said = None

-- the plan that a text means, if it means one
abbrev pub plan_in : Result Plan OpenFault → Option Plan
plan_in (Ok plan) = Some plan
plan_in (Err fault) = None

-- the plan that comes with an event
abbrev pub plan_with : OwnedEvent → Option Plan
plan_with (Reload text) = plan_in (meaning text)
plan_with event = None

-- the version that an entry brings into force: its number, with its plan
abbrev pub version_of : Entry → Option (ℕ × Plan)
version_of e = option_and_then (λ number. option_map (λ plan. (number, plan)) (plan_with e.event)) (number_said e.reply.said)

-- the number of the version in force: of the last that was brought, else of the newest at the start
abbrev pub in_force : ℕ → List Entry → ℕ
in_force start [] = start
in_force start (e ∷ h) = option_map_or (λ brought. brought.0) (version_of e) (in_force start h)

abbrev pub newest_number : Plain → ℕ
newest_number p = option_map_or (λ version. version.number) (newest p.versions) 0

-- the plans by the numbers of their versions: those at the start, and those that were brought
abbrev pub plans : Plain → List Entry → List (ℕ × Plan)
plans p [] = map (λ version. (version.number, version.plan)) p.versions
plans p (e ∷ h) = plans p h ++ option_to_list (version_of e)

abbrev pub plan_of : Plain → List Entry → ℕ → Option Plan
plan_of p h number = option_map (λ pair. pair.1) (find (λ pair. pair.0 == number) (plans p h))

-- What a connection is in, by the replies that speak to it.

abbrev pub identity_at : ℕ → Endpoint → Backend → ServerIdentity
identity_at n to backend = record { backend = backend.name; name = option_map_or (λ server. server.name) (slice_get backend.servers n) []; to = to }

abbrev pub nobody : Endpoint → ServerIdentity
nobody to = record { backend = []; name = []; to = to }

-- the server of a line, with its number in its backend
abbrev pub identity_of : Option Plan → ℕ → ℕ → Endpoint → ServerIdentity
identity_of plan line n to = option_map_or (identity_at n to) (option_and_then (λ plan. find (has_line line) plan.backends) plan) (nobody to)

-- the bytes that came with an event
abbrev pub piece_of : OwnedEvent → List ℕ
piece_of (Piece id bytes) = bytes
piece_of event = []

-- a connection that waits, and waits on once a piece came
abbrev pub phase_on : List ℕ → Phase → Phase
phase_on piece (Waiting rest) = Waiting (rest_on rest piece)
phase_on piece (Offered assignment) = Offered assignment
phase_on piece (Up assignment) = Up assignment

-- a connection that its server took
abbrev pub phase_up : Phase → Phase
phase_up (Waiting rest) = Waiting rest
phase_up (Offered assignment) = Up assignment
phase_up (Up assignment) = Up assignment

-- the lines of the servers that were out of reach for a connection, once it is offered one: where it is another one,
-- that which it had is the last of them
abbrev pub failed_by : OwnedEvent → Phase → List ℕ
failed_by (ConnectFailed id) (Offered assignment) = assignment.failed ++ assignment.line ∷ []
failed_by event phase = []

-- the phase after a reply to an event that speaks to the connection
abbrev pub phase_by : Option Plan → OwnedEvent → Said → Phase → Phase
phase_by plan event (Wait id used) phase = phase_on (piece_of event) phase
phase_by plan event (Offer id used line server to judged send) phase =
    Offered (record { server = identity_of plan line server to; line = line; judged = judged; failed = failed_by event phase })
phase_by plan event (Refuse id used cause) phase = phase
phase_by plan event (saids.Up id) phase = phase_up phase
phase_by plan event (Closed id why) phase = phase
phase_by plan event (Reloaded version) phase = phase
phase_by plan event (Marked line health) phase = phase

abbrev pub phase_after : Plain → ℕ → ℕ → ℕ → Phase → List Entry → Phase
phase_after p number serial version start [] = start
phase_after p number serial version start (e ∷ h) =
    if speaks_to number serial e.reply.said
    then phase_by (plan_of p h version) e.event e.reply.said (phase_after p number serial version start h)
    else phase_after p number serial version start h

-- the tracks that were made for a connection, the oldest first
abbrev pub tracks_of : ℕ → ℕ → List Entry → List Track
tracks_of number serial [] = []
tracks_of number serial (e ∷ h) = tracks_of number serial h ++ (if speaks_to number serial e.reply.said then e.reply.tracks.items else [])

-- Which connections are open.

-- the reply is a last one
abbrev pub is_last : Said → Bool
is_last (Wait id used) = false
is_last (Offer id used line server to judged send) = false
is_last (Refuse id used cause) = true
is_last (saids.Up id) = false
is_last (Closed id why) = true
is_last (Reloaded version) = false
is_last (Marked line health) = false

-- the reply to an accept leaves the connection open
abbrev pub leaves_open : Said → Bool
leaves_open (Wait id used) = true
leaves_open (Offer id used line server to judged send) = true
leaves_open (Refuse id used cause) = false
leaves_open (saids.Up id) = false
leaves_open (Closed id why) = false
leaves_open (Reloaded version) = false
leaves_open (Marked line health) = false

abbrev pub arrival_of : ℕ → ℕ → ℕ → PairValue → Said → Option ConnId → List Row
arrival_of number clock version real said None = []
arrival_of number clock version real said (Some id) = if leaves_open said && (id.frontend == number) then new_row id.serial version real clock ∷ [] else []

-- the row that an event opens in the frontend, as it is at its accept
abbrev pub arrival : ℕ → ℕ → ℕ → OwnedEvent → Said → List Row
arrival number clock version (Accept listener real) said = arrival_of number clock version real said (id_of said)
arrival number clock version event said = []

-- all that were opened in a frontend, the oldest first, each as it was at its accept
abbrev pub arrivals : Plain → ℕ → List Entry → List Row
arrivals p number [] = []
arrivals p number (e ∷ h) = arrivals p number h ++ arrival number (now_of p.clock (e ∷ h)) (in_force (newest_number p) h) e.event e.reply.said

-- some reply ends the connection
abbrev pub has_ended : ℕ → List Entry → ℕ → Bool
has_ended number h serial = list_any (λ e. is_last e.reply.said && speaks_to number serial e.reply.said) h

abbrev pub is_accept_at : ℕ → OwnedEvent → Said → Bool
is_accept_at number (Accept listener real) said = option_map_or (λ id. id.frontend == number) (id_of said) false
is_accept_at number event said = false

-- the accepts of the frontend that were answered
abbrev pub accepts : ℕ → List Entry → ℕ
accepts number [] = 0
accepts number (e ∷ h) = accepts number h + (if is_accept_at number e.event e.reply.said then 1 else 0)

-- a row as the replies to its connection left it
abbrev pub row_after : Plain → ℕ → List Entry → Row → Row
row_after p number h row = record row {
  phase = phase_after p number row.serial row.version row.phase h;
  tracks = by_counter (row.tracks ++ tracks_of number row.serial h);
}

-- a frontend after the history: the connections that were opened, without those that were ended
abbrev pub frontend_after : Plain → List Entry → ℕ → FrontendRows → FrontendRows
frontend_after p h number own = record own {
  serial = own.serial + accepts number h;
  rows = map (row_after p number h) (filter (λ row. not (has_ended number h row.serial)) (own.rows ++ arrivals p number h));
}

abbrev pub frontends_after : Plain → List Entry → List FrontendRows
frontends_after p h = map_from (frontend_after p h) 0 p.frontends

-- a version as it is when it comes into force: its tables begin with it, and nothing of its backends was used
abbrev pub new_version : ℕ → Plan → Version
new_version number plan = record {
  number = number;
  plan = plan;
  tables = map (new_id number) (enumerate_from 0 plan.tables);
  cursors = map (λ backend. None) plan.backends;
}

-- one that follows another: a table that is written the same as one of those before keeps its incarnation
abbrev pub next_version : ℕ → List (Table × TableId) → Plan → Version
next_version number before plan = record (new_version number plan) { tables = map (next_id number before) (enumerate_from 0 plan.tables) }

abbrev pub with_version : List Version → Option (ℕ × Plan) → List Version
with_version versions None = versions
with_version versions (Some (number, plan)) = versions ++ next_version number (written_tables (newest versions)) plan ∷ []

-- the number of the version that judges the connection of a reply: that of its row, or the one in force where the
-- connection comes with the reply
abbrev pub judging_version : List FrontendRows → ℕ → Said → ℕ
judging_version frontends force said = option_map_or (λ row. row.version) (option_and_then (row_at frontends) (id_of said)) force

-- that version, for a reply in a state
abbrev pub version_for : Plain → Said → Option Version
version_for p said = version_at p.versions (judging_version p.frontends (newest_number p) said)

-- a version after an offer by the version of that number: of the server of a line, by its number in its backend
abbrev pub with_offer : ℕ → ℕ → ℕ → Version → Version
with_offer number line server version =
    if version.number == number then record version { cursors = cursors_after version.plan line server version.cursors } else version

-- the versions once that is said to a connection that the version of that number judges
abbrev pub with_said : ℕ → Said → List Version → List Version
with_said number (Offer id used line server to judged send) versions = map (with_offer number line server) versions
with_said number said versions = versions

-- the versions after an entry, where those were the rows, the number in force and the versions before it
abbrev pub versions_by : List FrontendRows → ℕ → List Version → Entry → List Version
versions_by frontends force versions e =
    let number = judging_version frontends force e.reply.said in
    with_version (with_said number e.reply.said versions) (version_of e)

-- some connection of the frontend is of the version of that number
abbrev pub has_version : ℕ → FrontendRows → Bool
has_version number own = list_any (λ row. row.version == number) own.rows

-- the version of that number is in force, or an open connection is of it
abbrev pub is_needed : List FrontendRows → ℕ → ℕ → Bool
is_needed frontends force number = (number == force) || list_any (has_version number) frontends

-- the versions, without those that are forgotten
abbrev pub needed_versions : List FrontendRows → ℕ → List Version → List Version
needed_versions frontends force versions = filter (λ version. is_needed frontends force version.number) versions

-- the versions, one entry after the other: each is forgotten once it is not needed
abbrev pub versions_after : Plain → List Entry → List Version
versions_after p [] = p.versions
versions_after p (e ∷ h) =
    needed_versions (frontends_after p (e ∷ h)) (in_force (newest_number p) (e ∷ h))
    (versions_by (frontends_after p h) (in_force (newest_number p) h) (versions_after p h) e)

-- what is no longer tracked after a reply: where it is a last one, all that its connection tracked, in the order of
-- counters
abbrev pub ended_by : List FrontendRows → Reply → List Track
ended_by frontends reply =
    if is_last reply.said then by_counter (option_map_or (tracks_at frontends) (id_of reply.said) [] ++ reply.tracks.items) else []

-- the tables after a reply at a moment: what it tracks begins, and then what ends with it ends
abbrev pub tables_by : ℕ → List FrontendRows → List TableState → Reply → List TableState
tables_by moment frontends tables reply = without_tracks moment (ended_by frontends reply) (with_tracks moment (open_tracks frontends) reply.tracks.items tables)

-- the same of the tables before, from which the entries go that are gone by then
abbrev pub tables_passed : ℕ → List FrontendRows → List TableState → Reply → List TableState
tables_passed moment frontends tables reply = tables_by moment frontends (tables_alive moment (open_tracks frontends) tables) reply

-- the tables that begin with a version that is brought, where that was the newest before
abbrev pub tables_with : Option Version → Option (ℕ × Plan) → List TableState
tables_with version None = []
tables_with version (Some (number, plan)) = new_tables number (written_tables version) plan.tables

-- the tables, one entry after the other: each goes with the last version that lists it
abbrev pub tables_after : Plain → List Entry → List TableState
tables_after p [] = p.tables
tables_after p (e ∷ h) =
    filter (is_listed_by (versions_after p (e ∷ h))) (tables_passed (now_of p.clock (e ∷ h)) (frontends_after p h) (tables_after p h) e.reply ++ tables_with (newest (versions_after p h)) (version_of e))

-- Servers that are down.

-- a server that is reported down, where those were
abbrev pub with_down : ServerIdentity → List ServerIdentity → List ServerIdentity
with_down server down = if list_any (same_server server) down then down else down ++ server ∷ []

abbrev pub without_down : ServerIdentity → List ServerIdentity → List ServerIdentity
without_down server down = filter (λ other. not (same_server server other)) down

-- the server that an event reports, with how it is, by the versions before it
abbrev pub mark_of : List Version → OwnedEvent → Option (ServerIdentity × Health)
mark_of versions (Mark number n health) = option_map (λ found. (identity_in found.0 found.1, health)) (checked_server versions number n)
mark_of versions event = None

-- the servers that are down after a report, if there is one
abbrev pub marked_by : Option (ServerIdentity × Health) → List ServerIdentity → List ServerIdentity
marked_by None down = down
marked_by (Some (server, healths.Down)) down = with_down server down
marked_by (Some (server, healths.Up)) down = without_down server down

-- one entry after the other
abbrev pub down_after : Plain → List Entry → List ServerIdentity
down_after p [] = p.down
down_after p (e ∷ h) = marked_by (mark_of (versions_after p h) e.event) (down_after p h)

-- what a report says of a server, if it is one of that server
abbrev pub report_of : ServerIdentity → Option (ServerIdentity × Health) → Option Health
report_of server None = None
report_of server (Some (other, health)) = if same_server server other then Some health else None

-- what the last report of a server says, if there was one
abbrev pub last_report : Plain → List Entry → ServerIdentity → Option Health
last_report p [] server = None
last_report p (e ∷ h) server = option_or (report_of server (mark_of (versions_after p h) e.event)) (last_report p h server)

-- whether a server is down by a report, or else by what was before
abbrev pub is_down_by : Bool → Option Health → Bool
is_down_by before None = before
is_down_by before (Some healths.Down) = true
is_down_by before (Some healths.Up) = false

-- the plain state after the history
abbrev pub after : Plain → List Entry → Plain
after p h = record {
  clock = now_of p.clock h;
  listeners = p.listeners;
  frontends = frontends_after p h;
  versions = versions_after p h;
  tables = tables_after p h;
  down = down_after p h;
}

-- the answer to an event after the history
abbrev pub answer : Plain → List Entry → ℕ → OwnedEvent → Result Reply StepFault
answer p h moment event = answer_in (after p h) moment event

-- the counts that are asked for after the history
abbrev pub counts : Plain → List Entry → Ask → Option Counts
counts p h ask = counts_in (after p h) ask

-- how many more open connections count for a server once that is said
abbrev pub served_more : Plain → Said → ServerIdentity → ℕ
served_more p (Offer id used line n to judged send) server =
    let plan = option_map (λ version. version.plan) (version_for p (Offer id used line n to judged send)) in
    if same_server server (identity_of plan line n to) then 1 else 0
served_more p said server = 0

-- the connection does not count any longer for the server that it had: it ends, or is offered another one
abbrev pub leaves_server : Said → Bool
leaves_server (Wait id used) = false
leaves_server (Offer id used line server to judged send) = true
leaves_server (Refuse id used cause) = true
leaves_server (saids.Up id) = false
leaves_server (Closed id why) = true
leaves_server (Reloaded version) = false
leaves_server (Marked line health) = false

-- and how many fewer
abbrev pub served_less : Plain → Said → ServerIdentity → ℕ
served_less p said server =
    let row = option_and_then (row_at p.frontends) (id_of said) in
    if leaves_server said && option_map_or (λ row. is_served_by server row.phase) row false then 1 else 0

abbrev pub is_reload : OwnedEvent → Bool
is_reload (Reload text) = true
is_reload event = false

-- a step may end in that fault: it is the answer, or there was no memory for a reply, or to read a new configuration
abbrev pub IsFault : OwnedEvent → Result Reply StepFault → StepFault → Type 0
IsFault event answer fault = (answer ≡ Err fault) ⊎ ((fault ≡ NoMemory) × ((is_reload event ≡ true) ⊎ ((reply : Reply) × (answer ≡ Ok reply))))

-- the bytes of an event, if it is a piece of that connection
abbrev pub piece_for : ConnId → OwnedEvent → List ℕ
piece_for id (Piece other bytes) = if is_conn id.frontend id.serial other then bytes else []
piece_for id event = []

-- all the bytes that came of a connection, joined
abbrev pub joined : ConnId → List Entry → List ℕ
joined id [] = []
joined id (e ∷ h) = joined id h ++ piece_for id e.event

-- each reply is the answer after what was before it
abbrev pub IsLegal : Plain → List Entry → Type 0
IsLegal p [] = Unit {0}
IsLegal p (e ∷ h) = IsLegal p h × (answer p h e.moment e.event ≡ Ok e.reply)

-- the serials of the rows rise and were given out, each row's version is kept, and its tracks are by counter
pub record IsFrontendWell (versions : List Version) (own : FrontendRows) : Type 0 where
  pub rise : Rise (λ row. row.serial) own.rows
  pub given : AllByRecursion (λ row. row.serial ≤ own.serial) own.rows
  pub kept : AllByRecursion (λ row. IsSome (version_at versions row.version)) own.rows
  pub sorted : AllByRecursion (λ row. by_counter row.tracks ≡ row.tracks) own.rows

-- there is an incarnation of each table, and a cursor for each backend
pub record IsVersionWell (version : Version) : Type 0 where
  pub tables : length version.tables ≡ length version.plan.tables
  pub cursors : length version.cursors ≡ length version.plan.backends

-- the incarnations that the version of that number lists
abbrev pub tables_of : List Version → ℕ → List TableId
tables_of versions number = option_map_or (λ version. version.tables) (version_at versions number) []

-- no two tables are of one incarnation, each incarnation that a kept version lists has its table, each table is listed
-- by a kept version, and none began after the newest version; the entries of each have different keys, and are no more than its size
pub record AreTablesWell (p : Plain) : Type 0 where
  pub differ : IncarnationsDiffer p.tables
  pub there : AllByRecursion (λ version. AllByRecursion (λ id. IsSome (table_at p.tables id)) version.tables) p.versions
  pub listed : AllByRecursion (λ table. is_listed_by p.versions table ≡ true) p.tables
  pub began : AllByRecursion (λ table. table.id.version ≤ newest_number p) p.tables
  pub each : AllByRecursion IsTableWell p.tables

-- what an open connection tracks is in tables of its version, and each key is listed in its table
abbrev pub AreTracksListed : Plain → Type 0
AreTracksListed p = AllByRecursion (λ own. AllByRecursion (λ row. AllByRecursion (IsTrackListed (tables_of p.versions row.version) p.tables) row.tracks) own.rows) p.frontends

-- a state that an opening or a legal history can leave: besides, the numbers of the versions rise, there is a newest,
-- and each is needed
pub record IsWell (p : Plain) : Type 0 where
  pub frontends : AllByRecursion (IsFrontendWell p.versions) p.frontends
  pub rise : Rise (λ version. version.number) p.versions
  pub last : IsSome (newest p.versions)
  pub needed : AllByRecursion (λ version. is_needed p.frontends (newest_number p) version.number ≡ true) p.versions
  pub versions : AllByRecursion IsVersionWell p.versions
  pub tables : AreTablesWell p
  pub tracks : AreTracksListed p

-- nothing happened yet

abbrev pub listeners_of : ℕ × Frontend → List Listener
listeners_of (n, frontend) = map (λ bind. record { frontend = n; at = bind.at; accept_proxy = bind.accept_proxy }) frontend.binds

-- the state in which a configuration is opened; the first serial of each frontend is one more than `last`
abbrev pub opening : Plan → ℕ → Plain
opening plan last = record {
  clock = 0;
  listeners = flat_map listeners_of (enumerate_from 0 plan.frontends);
  frontends = map (λ frontend. record { name = frontend.name; serial = last; rows = [] }) plan.frontends;
  versions = new_version 1 plan ∷ [];
  tables = map (new_table 1) (enumerate_from 0 plan.tables);
  down = [];
}

-- an event as a history keeps it
abbrev pub owned_event : Event → OwnedEvent
owned_event (events.Accept listener real) = Accept listener real
owned_event (events.Piece id bytes) = Piece id bytes.now
owned_event (events.Connected id) = Connected id
owned_event (events.ConnectFailed id) = ConnectFailed id
owned_event (events.Close id why) = Close id why
owned_event (events.Expire id) = Expire id
owned_event (events.Reload text) = Reload text.now
owned_event (events.Mark number n health) = Mark number n health

-- the event is of a connection that is open, and asks for no memory
abbrev pub NeedsNoMemory : Event → Type 0
NeedsNoMemory (events.Accept listener real) = ⊥
NeedsNoMemory (events.Piece id bytes) = ⊥
NeedsNoMemory (events.Connected id) = Unit {0}
NeedsNoMemory (events.ConnectFailed id) = Unit {0}
NeedsNoMemory (events.Close id why) = Unit {0}
NeedsNoMemory (events.Expire id) = Unit {0}
NeedsNoMemory (events.Reload text) = ⊥
NeedsNoMemory (events.Mark number n health) = ⊥
