-- A server that is offered is usable and has room.
use Rattle.std.specs.Prelude.{ℕ, zero, suc, Bool, true, false, List, [], length, max, filter, find, slice_get, Option, Some, None, option_map, Result, Ok, Err, refl, ◌+◌, ◌<◌, ◌≡◌, ◌⊎◌, ◌==◌, ◌&&◌, ◌∷◌, nat_lt, nat_le}
use Rattle.std.specs.Option.{option_map_or}
use Rattle.std.proofs.Common.{sym, ap, ◌∙◌, subst, arith, inl, inr, append-nil, not, position, option_and_then, if◌then◌else◌, ◌||◌}
use Rattle.std.proofs.Math.Path.{fun_ext}
use Rattle.std.proofs.lemmas.Bool.{false≢true, eq-eqb, eqb-true}
use Rattle.std.proofs.lemmas.Bool.Decides.{nat_tests}
use Rattle.std.proofs.lemmas.List.Elements.{filter-append}
use Rattle.std.proofs.lemmas.Option.{slice_get-map}
use Rattle.addr_core.specs.declared.addr.Endpoint.{Endpoint}
use Rattle.addr_core.specs.PairValue.{PairValue}
use Rattle.arrayvec.specs.ArrayVec.{ArrayVec}
use Rattle.proxy_types.specs.declared.balance.Place.{Place}
use Rattle.proxy_types.specs.declared.server.ServerIdentity.{ServerIdentity}
use Rattle.balance_core.specs.Loads.{weight_at, has_room_at, is_ready_at}
use Rattle.balance_core.proofs.ReadyLemmas.{picked_ready}
use Rattle.plan_types.specs.declared.plan.Backend.{Backend}
use Rattle.plan_types.specs.declared.plan.Frontend.{Frontend}
use Rattle.plan_types.specs.declared.plan.Plan.{Plan}
use Rattle.plan_types.specs.declared.plan.Server.{Server}
use Rattle.plan_types.specs.Lines.{has_line, LinesDiffer}
use Rattle.pp_any.specs.Status as statuses
use Rattle.pp_any.specs.Status.{Status}
use Rattle.pp_any.specs.NextPiece.{status_on}
use Rattle.rule_engine.specs.Meaning.{present}
use Rattle.rule_engine.specs.Judging.{judged_after, no_tracks, TrackSlots}
use Rattle.conn_model.specs.declared.event.ConnId.{ConnId}
use Rattle.conn_model.specs.declared.event.OwnedEvent.{OwnedEvent}
use Rattle.conn_model.specs.declared.event.OwnedEvent.TheVariants.{Accept, Piece, Connected, ConnectFailed, Close, Expire, Reload, Mark}
use Rattle.conn_model.specs.declared.event.Why.{Why}
use Rattle.conn_model.specs.declared.reply.Cause.{Cause}
use Rattle.conn_model.specs.declared.reply.Cause.TheVariants.{Line, NoBackend, NoServer}
use Rattle.conn_model.specs.declared.reply.Reply.{Reply}
use Rattle.conn_model.specs.declared.reply.Said.{Said}
use Rattle.conn_model.specs.declared.reply.Said.TheVariants as saids
use Rattle.conn_model.specs.declared.reply.Said.TheVariants.{Offer, Closed}
use Rattle.conn_model.specs.declared.reply.StepFault.TheVariants.{NoSuch}
use Rattle.conn_model.specs.declared.plain.Assignment.{Assignment}
use Rattle.conn_model.specs.declared.plain.Phase.{Phase}
use Rattle.conn_model.specs.declared.plain.Phase.TheVariants.{Waiting, Offered, Up}
use Rattle.conn_model.specs.declared.plain.Row.{Row}
use Rattle.conn_model.specs.declared.plain.FrontendRows.{FrontendRows}
use Rattle.conn_model.specs.declared.plain.Plain.{Plain}
use Rattle.conn_model.specs.declared.plain.Version.{Version}
use Rattle.conn_model.specs.Words.{or_fault, row_at}
use Rattle.conn_model.specs.Servers.{cursor_at, has_room, identity_in, load_of, loads_of, pick_in, weight_of, MayOffer, is_down, weight_by}
use Rattle.conn_model.specs.Counts.{is_served_by, served_by, served_in}
use Rattle.conn_model.specs.Rules.{backend_for, rejection, scene_of, view_of, worth, Candidate, RuleView}
use Rattle.conn_model.specs.Answer.{admission, answer_in, at_moment, awaits_server, candidate_at, candidate_of, decision, demands_header, entry_reply, entry_rules, header_reply, judged_pair, new_row, numbered_server, reply_of, said_of, server_answer, server_for, server_unless, version_at, NumberedServer, other_server, offer_in, failure_answer, backend_at, failure_said, other_in, barred_for}
use Rattle.conn_model.specs.History.{after, answer, identity_at, identity_of, id_of, judging_version, newest_number, nobody, opening, version_for, Entry, IsLegal, IsWell}
use Rattle.conn_model.proofs.Totals.{total-kept}
use Rattle.conn_model.proofs.Lists.{or_true}
use Rattle.conn_model.proofs.Versions.{is_offer, newest-at}
use Rattle.conn_model.proofs.VersionSteps.{judging-new, judging-old}
use Rattle.conn_model.proofs.Moments.{at-well}
use Rattle.conn_model.proofs.Replies.{accepted, answered, bind-ok, expired, followed, or_fault-ok, received, server_answered, answered-now, Accepted, IsNew, IsOld, Received, ServerAnswered, HasFailed, has_failed, reported}
use Rattle.conn_model.proofs.Goes.{well_at}
use Rattle.conn_model.proofs.Sources.{any-at}
use Rattle.conn_model.proofs.Well.{history_well}
use Rattle.proxy_types.specs.declared.balance.Method.{Method}
use Rattle.addr_core.specs.declared.addr.Addr.{Addr}
use Rattle.proxy_types.specs.declared.balance.Method.TheVariants.{RoundRobin, LeastConn, Source}
use Rattle.plan_types.specs.Moves.{moves_of}

-- The load of a server.

above : (n : ℕ) → nat_lt 0 n ≡ true → 0 < n
above n e = grind (arith, nat_tests)

both_true : (a b : Bool) → (a && b) ≡ true → (a ≡ true) × (b ≡ true)
both_true true b e = (refl, e)
both_true false b e = absurd (false≢true e)

-- a server of some weight is not disabled
weighs-enabled : (server : Server) → nat_lt 0 (weight_of server) ≡ true → (server.disabled ≡ false) × (0 < server.weight)
weighs-enabled server weighs = by server.disabled refl
  where
    by : (b : Bool) → server.disabled ≡ b → (server.disabled ≡ false) × (0 < server.weight)
    by true e = absurd (let wrong : nat_lt 0 0 ≡ true = rw e at weighs in false≢true wrong)
    by false e = (e, above server.weight (rw e at weighs))

room-is : (limit connections : ℕ) → has_room limit connections ≡ true → (limit ≡ 0) ⊎ (connections < limit)
room-is limit connections has = elim (or_true (limit == 0) (nat_lt connections limit) has) [
  | inl none ↦ inl (eqb-true limit 0 none)
  | inr less ↦ inr (grind (arith, nat_tests, less))
]

pub weight-unbarred : (method : Method) (server : Server) → weight_by method false server ≡ weight_of server
weight-unbarred RoundRobin server = refl
weight-unbarred LeastConn server = refl
weight-unbarred Source server = refl

not-true : (b : Bool) → not b ≡ true → b ≡ false
not-true true is = absurd (false≢true is)
not-true false is = refl

-- a server that is ready, and where it is
record IsReady (served : ServerIdentity → ℕ) (barred : Backend → Server → Bool) (backend : Backend) (n : ℕ) (server : Server) : Type 0 where
  pub enabled : server.disabled ≡ false
  pub weighs : 0 < server.weight
  pub stands : barred backend server ≡ false
  pub room : (server.limit ≡ 0) ⊎ (served (identity_in backend server) < server.limit)

ready-server : (served : ServerIdentity → ℕ) (barred : Backend → Server → Bool) (backend : Backend) (n : ℕ) (server : Server) → slice_get backend.servers n ≡ Some server →
    is_ready_at (loads_of served barred backend) n ≡ true → IsReady served barred backend n server
ready-server served barred backend n server there ready =
    let load : slice_get (loads_of served barred backend) n ≡ Some (load_of served barred backend server) =
    slice_get-map (load_of served barred backend) backend.servers n ∙ ap (λ o. option_map (load_of served barred backend) o) there in
    let both = both_true (nat_lt 0 (weight_at (loads_of served barred backend) n)) (has_room_at (loads_of served barred backend) n) ready in
    let rooms : (not (barred backend server) && has_room server.limit (served (identity_in backend server))) ≡ true = sym (ap (λ o. option_map_or (λ l. l.has_room) o false) load) ∙ both.1 in
    let parts = both_true (not (barred backend server)) (has_room server.limit (served (identity_in backend server))) rooms in
    let stands : barred backend server ≡ false = not-true (barred backend server) parts.0 in
    let weight : weight_by backend.method (barred backend server) server ≡ weight_of server = ap (λ b. weight_by backend.method b server) stands ∙ weight-unbarred backend.method server in
    let weighs : nat_lt 0 (weight_of server) ≡ true = ap (nat_lt 0) (sym weight) ∙ sym (ap (λ o. nat_lt 0 (option_map_or (λ l. l.weight) o 0)) load) ∙ both.0 in
    let enabled = weighs-enabled server weighs in
    record { enabled = enabled.0; weighs = enabled.1; stands = stands; room = room-is server.limit (served (identity_in backend server)) parts.1 }

-- What is picked for a view.

-- the server is one of the plan, and may be offered
abbrev IsPicked : RuleView → NumberedServer → Type 0
IsPicked v given = MayOffer v.served v.barred v.version.plan given.server.line given.number given.server.to

-- a server with its number
abbrev numbered : ℕ → Server → NumberedServer
numbered n server = record { number = n; server = server }

numbered-at : (backend : Backend) (n : ℕ) (given : NumberedServer) → numbered_server backend n ≡ Some given → (slice_get backend.servers n ≡ Some given.server) × (n ≡ given.number)
numbered-at backend n given is = by (slice_get backend.servers n) refl
  where
    by : (o : Option Server) → slice_get backend.servers n ≡ o → (slice_get backend.servers n ≡ Some given.server) × (n ≡ given.number)
    by None e = absurd (let wrong : None ≡ Some given = sym (ap (λ o. option_map (λ s. numbered n s) o) e) ∙ is in cc)
    by (Some server) e =
        let it : Some (numbered n server) ≡ Some given = sym (ap (λ o. option_map (λ s. numbered n s) o) e) ∙ is in
        let same : numbered n server ≡ given = cc in
        (e ∙ ap (λ g. Some g.server) same, ap (λ g. g.number) same)

-- a server that is picked of a backend of a plan
pub pick-offers : (served : ServerIdentity → ℕ) (barred : Backend → Server → Bool) (plan : Plan) (place : ℕ) (backend : Backend) (last : Option Place) (source : Addr) (turn : Place) (given : NumberedServer) →
    slice_get plan.backends place ≡ Some backend → pick_in served barred backend last source ≡ Some turn → numbered_server backend turn.server ≡ Some given →
    MayOffer served barred plan given.server.line given.number given.server.to
pick-offers served barred plan place backend last source turn given among picked is =
    let at = numbered-at backend turn.server given is in
    let ready = ready-server served barred backend turn.server given.server at.0 (picked_ready (loads_of served barred backend) backend.method last source turn picked) in
    record {
      place = place;
      backend = backend;
      server = given.server;
      among = among;
      found = ap (slice_get backend.servers) (sym at.1) ∙ at.0;
      line_is = refl;
      to_is = refl;
      enabled = ready.enabled;
      weighs = ready.weighs;
      stands = ready.stands;
      room = ready.room;
    }

server_picked : (v : RuleView) (given : NumberedServer) → server_for v ≡ Ok given → IsPicked v given
server_picked v given is =
    let one = bind-ok (or_fault (NoBackend v.frontend.line) (backend_for (worth v) v.frontend)) _ given is in
    let place : ℕ = one.0 in
    let two = bind-ok (or_fault (NoBackend v.frontend.line) (slice_get v.version.plan.backends place)) _ given one.2 in
    let backend : Backend = two.0 in
    let last : Option Place = cursor_at v.version.cursors place in
    let three = bind-ok (or_fault (NoServer backend.line) (pick_in v.served v.barred backend last v.source)) _ given two.2 in
    let turn : Place = three.0 in
    pick-offers v.served v.barred v.version.plan place backend last v.source turn given
    (or_fault-ok (NoBackend v.frontend.line) (slice_get v.version.plan.backends place) backend two.1)
    (or_fault-ok (NoServer backend.line) (pick_in v.served v.barred backend last v.source) turn three.1)
    (or_fault-ok (NoServer backend.line) (numbered_server backend turn.server) given three.2)

-- What a reply offers.

-- where it offers a server, that one may be offered
abbrev pub OffersWell : (ServerIdentity → ℕ) → (Backend → Server → Bool) → Plan → Said → Type 0
OffersWell served barred plan (Offer id used line server to judged send) = MayOffer served barred plan line server to
OffersWell served barred plan said = Unit {0}

said-offers : (v : RuleView) (id : ConnId) (used : ℕ) (judged : PairValue) (line : Option ℕ) (result : Result NumberedServer Cause) → server_unless v line ≡ result →
    OffersWell v.served v.barred v.version.plan (said_of id used judged result)
said-offers v id used judged line (Err cause) is = tt
said-offers v id used judged None (Ok given) is = server_picked v given is
said-offers v id used judged (Some line) (Ok given) is = absurd (let wrong : Err (Line line) ≡ Ok given = is in cc)

abbrev served_there : Candidate → ServerIdentity → ℕ
served_there candidate = served_by candidate.state.frontends

abbrev barred_there : Candidate → Backend → Server → Bool
barred_there candidate = is_down candidate.state.down

pub decision-offers : (candidate : Candidate) (used : ℕ) (judged : PairValue) (made : TrackSlots) → OffersWell (served_there candidate) (barred_there candidate) candidate.version.plan (decision candidate used judged made).said
decision-offers candidate used judged made =
    let views = view_of candidate judged.source.addr in
    let says = judged_after (scene_of views) made candidate.frontend.session_rules in
    said-offers (views (present says.tracks)) candidate.id used judged (rejection says) (server_unless (views (present says.tracks)) (rejection says)) refl

entry-offers : (candidate : Candidate) (accept_proxy : Bool) (real : PairValue) (made : TrackSlots) (line : Option ℕ) →
    OffersWell (served_there candidate) (barred_there candidate) candidate.version.plan (entry_reply candidate accept_proxy real made line).said
entry-offers candidate accept_proxy real made (Some line) = tt
entry-offers candidate true real made None = tt
entry-offers candidate false real made None = decision-offers candidate 0 real made

pub admission-offers : (candidate : Candidate) (accept_proxy : Bool) (real : PairValue) (others : ℕ) →
    OffersWell (served_there candidate) (barred_there candidate) candidate.version.plan (admission candidate accept_proxy real others).said
admission-offers candidate accept_proxy real others = by (nat_le candidate.frontend.limit others) refl
  where
    by : (b : Bool) → nat_le candidate.frontend.limit others ≡ b → OffersWell (served_there candidate) (barred_there candidate) candidate.version.plan (admission candidate accept_proxy real others).said
    by true e = rw e tt
    by false e = rw e (entry-offers candidate (demands_header candidate accept_proxy real) real (entry_rules candidate real).tracks (rejection (entry_rules candidate real)))

header-offers : (candidate : Candidate) (real : PairValue) (count : ℕ) (status : Status) → OffersWell (served_there candidate) (barred_there candidate) candidate.version.plan (header_reply candidate real count status).said
header-offers candidate real count statuses.Wait = tt
header-offers candidate real count (statuses.Fault fault used) = tt
header-offers candidate real count (statuses.Whole used meaning) = decision-offers candidate used (judged_pair real meaning) no_tracks

-- A connection that comes in was offered nothing yet.

pub served_with : (q : Plain) (clock number : ℕ) (real : PairValue) (own : FrontendRows) (version : Version) (frontend : Frontend) → slice_get q.frontends number ≡ Some own →
    served_by (candidate_at q clock number real own version frontend).state.frontends ≡ served_by q.frontends
served_with q clock number real own version frontend there = fun_ext (λ identity.
    let test : Row → Bool = λ row. is_served_by identity row.phase in
    total-kept (served_in identity) q.frontends number own _ there
    (ap length (filter-append test own.rows (new_row (own.serial + 1) version.number real clock ∷ []) ∙ append-nil (filter test own.rows))))

-- Answers.

-- what an answer offers is of the version that judges
abbrev pub HasRoom : Plain → Said → Type 0
HasRoom q said = (version : Version) × (version_for q said ≡ Some version) × OffersWell (served_by q.frontends) (is_down q.down) version.plan said

accepted-room : (q : Plain) → IsWell q → (clock listener : ℕ) (real : PairValue) (reply : Reply) → Accepted q clock listener real reply → IsNew q reply.said → HasRoom q reply.said
accepted-room q well clock listener real reply got new =
    let candidate : Candidate = candidate_at q clock got.at.frontend real got.own got.version got.frontend in
    let number : newest_number q ≡ got.version.number = ap (λ o. option_map_or (λ version. version.number) o 0) got.newest_is in
    let judges : judging_version q.frontends (newest_number q) reply.said ≡ newest_number q =
    judging-new q.frontends (newest_number q) reply.said new.id new.own new.speaks new.there (well_at q well new.id.frontend new.own new.there).given new.next in
    let served : served_there candidate ≡ served_by q.frontends = served_with q clock got.at.frontend real got.own got.version got.frontend got.there in
    let offers : OffersWell (served_there candidate) (barred_there candidate) got.version.plan reply.said = subst (λ r. OffersWell (served_there candidate) (barred_there candidate) got.version.plan r.said) got.reply_is
    (admission-offers candidate got.at.accept_proxy real (length got.own.rows)) in (
      got.version,
      ap (version_at q.versions) (judges ∙ number) ∙ newest-at q.versions got.version well.rise got.newest_is,
      subst (λ s. OffersWell s (is_down q.down) got.version.plan reply.said) served offers,
    )

received-room : (q : Plain) (id : ConnId) (piece : List ℕ) (reply : Reply) → Received q id piece reply → id_of reply.said ≡ Some id → HasRoom q reply.said
received-room q id piece reply got speaks =
    let candidate : Candidate = candidate_of q id got.version got.frontend in
    let judges : judging_version q.frontends (newest_number q) reply.said ≡ got.row.version = judging-old q.frontends (newest_number q) reply.said id got.row speaks got.row_is in (
      got.version,
      ap (version_at q.versions) judges ∙ got.kept,
      subst (λ r. OffersWell (served_by q.frontends) (is_down q.down) got.version.plan r.said) got.reply_is (header-offers candidate got.row.real (length piece) (status_on got.rest piece)),
    )

-- A connection that is moved.

-- what another server of a connection is
pub record IsOther (q : Plain) (row : Row) (given : Assignment) (other : NumberedServer) : Type 0 where
  pub version : Version
  pub number : ℕ
  pub backend : Backend
  pub turn : Place
  pub of_accept : version_at q.versions row.version ≡ Some version
  pub has_line : position (has_line given.line) version.plan.backends ≡ Some number
  pub among : slice_get version.plan.backends number ≡ Some backend
  pub moves : nat_lt (length given.failed) (moves_of backend.retries backend.redispatch) ≡ true
  pub picked : pick_in (served_by q.frontends) (barred_for q.down given) backend (cursor_at version.cursors number) given.judged.source.addr ≡ Some turn
  pub server_is : numbered_server backend turn.server ≡ Some other

then-some : {X Y : Type 0} (o : Option X) (f : X → Option Y) (y : Y) → option_and_then f o ≡ Some y → (x : X) × (o ≡ Some x) × (f x ≡ Some y)
then-some None f y is = absurd (let wrong : None ≡ Some y = is in cc)
then-some (Some x) f y is = (x, refl, is)

map-some : {X Y : Type 0} (o : Option X) (f : X → Y) (y : Y) → option_map f o ≡ Some y → (x : X) × (o ≡ Some x) × (f x ≡ y)
map-some None f y is = absurd (let wrong : None ≡ Some y = is in cc)
map-some (Some x) f y is = (x, refl, let it : Some (f x) ≡ Some y = is in cc)

if-some : {Y : Type 0} (b : Bool) (o : Option Y) (y : Y) → (if b then o else None) ≡ Some y → (b ≡ true) × (o ≡ Some y)
if-some true o y is = (refl, is)
if-some false o y is = absurd (let wrong : None ≡ Some y = is in cc)

abbrev placed : ℕ → Backend → ℕ × Backend
placed number backend = (number, backend)

pub other_is : (q : Plain) (row : Row) (given : Assignment) (other : NumberedServer) → other_server q row given ≡ Some other → IsOther q row given other
other_is q row given other is =
    let one = then-some (version_at q.versions row.version) _ other is in
    let version : Version = one.0 in
    let two = then-some (backend_at version.plan given.line) _ other one.2 in
    let three = then-some (position (has_line given.line) version.plan.backends) _ two.0 two.1 in
    let number : ℕ = three.0 in
    let four = map-some (slice_get version.plan.backends number) (placed number) two.0 three.2 in
    let backend : Backend = four.0 in
    let in_it : other_in q given version number backend ≡ Some other = ap (λ (at : ℕ × Backend). other_in q given version at.0 at.1) four.2 ∙ two.2 in
    let five = if-some (nat_lt (length given.failed) (moves_of backend.retries backend.redispatch)) _ other in_it in
    let six = then-some (pick_in (served_by q.frontends) (barred_for q.down given) backend (cursor_at version.cursors number) given.judged.source.addr) _ other five.1 in
    record {
      version = version;
      number = number;
      backend = backend;
      turn = six.0;
      of_accept = one.1;
      has_line = three.1;
      among = four.1;
      moves = five.0;
      picked = six.1;
      server_is = six.2;
    }

-- a server that may be offered for one reason may be offered for fewer
fewer-barred : (served : ServerIdentity → ℕ) (barred less : Backend → Server → Bool) (plan : Plan) (line number : ℕ) (to : Endpoint) →
    ((backend : Backend) (server : Server) → barred backend server ≡ false → less backend server ≡ false) → MayOffer served barred plan line number to → MayOffer served less plan line number to
fewer-barred served barred less plan line number to fewer offer = record {
  place = offer.place;
  backend = offer.backend;
  server = offer.server;
  among = offer.among;
  found = offer.found;
  line_is = offer.line_is;
  to_is = offer.to_is;
  enabled = offer.enabled;
  weighs = offer.weighs;
  stands = fewer offer.backend offer.server offer.stands;
  room = offer.room;
}

neither-first : (a b : Bool) → (a || b) ≡ false → a ≡ false
neither-first true b is = absurd (false≢true (sym is))
neither-first false b is = refl

moved-room : (q : Plain) (id : ConnId) (reply : Reply) → HasFailed q id reply → id_of reply.said ≡ Some id → is_offer reply.said ≡ true → HasRoom q reply.said
moved-room q id reply got speaks is = by (other_server q got.row got.given) refl
  where
    by : (o : Option NumberedServer) → other_server q got.row got.given ≡ o → HasRoom q reply.said
    by None none =
        absurd (false≢true (ap is_offer (ap (failure_said id got.given) (sym none) ∙ ap (λ r. r.said) got.reply_is) ∙ is))
    by (Some other) some =
        let at : IsOther q got.row got.given other = other_is q got.row got.given other some in
        let said_is : failure_said id got.given (Some other) ≡ reply.said = ap (failure_said id got.given) (sym some) ∙ ap (λ r. r.said) got.reply_is in
        let judges : judging_version q.frontends (newest_number q) reply.said ≡ got.row.version = judging-old q.frontends (newest_number q) reply.said id got.row speaks got.row_is in
        let offer = pick-offers (served_by q.frontends) (barred_for q.down got.given) at.version.plan at.number at.backend (cursor_at at.version.cursors at.number) got.given.judged.source.addr at.turn other
        at.among at.picked at.server_is in (
          at.version,
          ap (version_at q.versions) judges ∙ at.of_accept,
          subst (OffersWell (served_by q.frontends) (is_down q.down) at.version.plan) said_is
              (fewer-barred (served_by q.frontends) (barred_for q.down got.given) (is_down q.down) at.version.plan other.server.line other.number other.server.to
              (λ backend server unbarred. neither-first (is_down q.down backend server) _ unbarred) offer),
        )

-- a reply that is no offer
not_offered : (q : Plain) (said : Said) (reply : Reply) → reply_of said ≡ reply → is_offer said ≡ false → is_offer reply.said ≡ true → HasRoom q reply.said
not_offered q said reply same other is = absurd (false≢true (sym other ∙ ap (λ r. is_offer r.said) same ∙ is))

offer_room : (q : Plain) → IsWell q → (moment : ℕ) (event : OwnedEvent) (reply : Reply) → answer_in q moment event ≡ Ok reply → is_offer reply.said ≡ true → HasRoom q reply.said
offer_room q well moment (Accept listener real) reply answer is =
    let now : Plain = at_moment moment q in
    accepted-room now (at-well q well moment) now.clock listener real reply (accepted now now.clock listener real reply answer) (answered-now now (Accept listener real) reply answer)
offer_room q well moment (Piece id bytes) reply answer is =
    let old : IsOld q id reply.said = answered q moment (Piece id bytes) reply answer in
    received-room (at_moment moment q) id bytes reply (received (at_moment moment q) id bytes reply answer) old.speaks
offer_room q well moment (Connected id) reply answer is = not_offered q (saids.Up id) reply (server_answered (at_moment moment q) id (saids.Up id) reply answer).reply_is refl is
offer_room q well moment (ConnectFailed id) reply answer is =
    let old : IsOld q id reply.said = answered q moment (ConnectFailed id) reply answer in
    moved-room (at_moment moment q) id reply (has_failed (at_moment moment q) id reply answer) old.speaks is
offer_room q well moment (Close id why) reply answer is =
    let one = bind-ok (or_fault NoSuch (row_at q.frontends id)) _ reply answer in
    let same : reply_of (Closed id why) ≡ reply = let it : Ok (reply_of (Closed id why)) ≡ Ok reply = one.2 in cc in
    not_offered q (Closed id why) reply same refl is
offer_room q well moment (Expire id) reply answer is = not_offered q _ reply (expired (at_moment moment q) (max q.clock moment) id reply answer).reply_is refl is
offer_room q well moment (Reload text) reply answer is = not_offered q _ reply (followed (at_moment moment q) text reply answer).reply_is refl is
offer_room q well moment (Mark backend n health) reply answer is = not_offered q _ reply (reported (at_moment moment q) backend n health reply answer).reply_is refl is

-- after a legal history
pub offered_with_room : (plan : Plan) (last : ℕ) (h : List Entry) → IsLegal (opening plan last) h → (moment : ℕ) (event : OwnedEvent) (reply : Reply) →
    (id : ConnId) (used line number : ℕ) (to : Endpoint) (judged : PairValue) (send : ArrayVec ℕ) → answer (opening plan last) h moment event ≡ Ok reply →
    reply.said ≡ Offer id used line number to judged send →
    (version : Version) × (version_for (after (opening plan last) h) reply.said ≡ Some version) × MayOffer (served_by (after (opening plan last) h).frontends) (is_down (after (opening plan last) h).down) version.plan line number to
offered_with_room plan last h legal moment event reply id used line number to judged send answer said =
    let q : Plain = after (opening plan last) h in
    let got : HasRoom q reply.said = offer_room q (history_well plan last h legal) moment event reply answer (ap is_offer said) in
    (got.0, got.1, subst (OffersWell (served_by q.frontends) (is_down q.down) got.0.plan) said got.2)

-- The identity by which a connection is counted from its offer on.

-- what is found first is in the list
found_at : {X : Type 0} (test : X → Bool) (xs : List X) (n : ℕ) (x : X) → slice_get xs n ≡ Some x → test x ≡ true →
    (y : X) × (i : ℕ) × (find test xs ≡ Some y) × (slice_get xs i ≡ Some y) × (test y ≡ true)
found_at test [] n x there is = absurd (let wrong : None ≡ Some x = there in cc)
found_at {X} test (z ∷ xs) zero x there is = let same : z ≡ x = cc in let passes : test z ≡ true = ap test same ∙ is in (z, 0, rw passes refl, refl, passes)
found_at {X} test (z ∷ xs) (suc n) x there is = by (test z) refl (found_at test xs n x there is)
  where
    by : (b : Bool) → test z ≡ b → (y : X) × (i : ℕ) × (find test xs ≡ Some y) × (slice_get xs i ≡ Some y) × (test y ≡ true) →
        (y : X) × (i : ℕ) × (find test (z ∷ xs) ≡ Some y) × (slice_get (z ∷ xs) i ≡ Some y) × (test y ≡ true)
    by true e later = (z, 0, rw e refl, refl, e)
    by false e later = (later.0, suc later.1, rw e later.2, later.3, later.4)

-- the backend whose server is offered is the one that has its line
pub offered_backend : (served : ServerIdentity → ℕ) (barred : Backend → Server → Bool) (plan : Plan) (line number : ℕ) (to : Endpoint) → (offer : MayOffer served barred plan line number to) → LinesDiffer plan →
    find (has_line line) plan.backends ≡ Some offer.backend
offered_backend served barred plan line number to offer differ =
    let own : (offer.server.line == line) ≡ true = eq-eqb offer.server.line line offer.line_is in
    let has : has_line line offer.backend ≡ true = any-at (λ server. server.line == line) offer.backend.servers number offer.server offer.found own in
    let first = found_at (has_line line) plan.backends offer.place offer.backend offer.among has in
    let same : first.0 ≡ offer.backend = differ line first.1 offer.place first.0 offer.backend first.3 offer.among first.4 has in
    first.2 ∙ ap (λ b. Some b) same

pub offer_identity : (served : ServerIdentity → ℕ) (barred : Backend → Server → Bool) (plan : Plan) (line number : ℕ) (to : Endpoint) → (offer : MayOffer served barred plan line number to) → LinesDiffer plan →
    identity_of (Some plan) line number to ≡ identity_in offer.backend offer.server
offer_identity served barred plan line number to offer differ =
    ap (λ o. option_map_or (identity_at number to) o (nobody to)) (offered_backend served barred plan line number to offer differ)
    ∙ ap (λ o. named (option_map_or (λ server. server.name) o []) to) offer.found ∙ ap (named offer.server.name) (sym offer.to_is)
  where
    named : List ℕ → Endpoint → ServerIdentity
    named name at = record { backend = offer.backend.name; name = name; to = at }

-- Which connections a server takes, or fails.

awaits-offered : (phase : Phase) → awaits_server phase ≡ true → (assignment : Assignment) × (phase ≡ Offered assignment)
awaits-offered (Waiting rest) awaits = absurd (false≢true awaits)
awaits-offered (Offered assignment) awaits = (assignment, refl)
awaits-offered (Up assignment) awaits = absurd (false≢true awaits)

pub server_answers : (q : Plain) (id : ConnId) (said : Said) (row : Row) (assignment : Assignment) → row_at q.frontends id ≡ Some row → row.phase ≡ Offered assignment →
    server_answer q id said ≡ Ok (reply_of said)
server_answers q id said row assignment there phase = rw (there, phase) refl

pub server_answers_only : (q : Plain) (id : ConnId) (said : Said) (reply : Reply) → server_answer q id said ≡ Ok reply →
    (row : Row) × (assignment : Assignment) × (row_at q.frontends id ≡ Some row) × (row.phase ≡ Offered assignment) × (reply ≡ reply_of said)
server_answers_only q id said reply answer =
    let got : ServerAnswered q id said reply = server_answered q id said reply answer in
    let offered = awaits-offered got.row.phase got.awaits in
    (got.row, offered.0, got.row_is, offered.1, sym got.reply_is)

-- Closes.

pub closes : (q : Plain) (moment : ℕ) (id : ConnId) (why : Why) (row : Row) → row_at q.frontends id ≡ Some row → answer_in q moment (Close id why) ≡ Ok (reply_of (Closed id why))
closes q moment id why row there = rw there refl

pub only_closes : (q : Plain) (moment : ℕ) (id : ConnId) (why : Why) (reply : Reply) → answer_in q moment (Close id why) ≡ Ok reply →
    (row : Row) × (row_at q.frontends id ≡ Some row) × (reply ≡ reply_of (Closed id why))
only_closes q moment id why reply answer =
    let one = bind-ok (or_fault NoSuch (row_at q.frontends id)) _ reply answer in
    let same : reply_of (Closed id why) ≡ reply = let it : Ok (reply_of (Closed id why)) ≡ Ok reply = one.2 in cc in
    (one.0, or_fault-ok NoSuch (row_at q.frontends id) one.0 one.1, sym same)

pub offer-phase : (phase : Phase) (given : Assignment) → offer_in phase ≡ Some given → phase ≡ Offered given
offer-phase (Waiting rest) given is = absurd (let wrong : None ≡ Some given = is in cc)
offer-phase (Offered assignment) given is = let same : assignment ≡ given = let it : Some assignment ≡ Some given = is in cc in ap (λ a. Offered a) same
offer-phase (Up assignment) given is = absurd (let wrong : None ≡ Some given = is in cc)

pub failure_answers : (q : Plain) (id : ConnId) (row : Row) (assignment : Assignment) → row_at q.frontends id ≡ Some row → row.phase ≡ Offered assignment →
    failure_answer q id ≡ Ok (reply_of (failure_said id assignment (other_server q row assignment)))
failure_answers q id row assignment there phase = rw (there, phase) refl

pub failure_answers_only : (q : Plain) (id : ConnId) (reply : Reply) → failure_answer q id ≡ Ok reply →
    (row : Row) × (assignment : Assignment) × (row_at q.frontends id ≡ Some row) × (row.phase ≡ Offered assignment) × (reply ≡ reply_of (failure_said id assignment (other_server q row assignment)))
failure_answers_only q id reply answer =
    let got : HasFailed q id reply = has_failed q id reply answer in
    (got.row, got.given, got.row_is, offer-phase got.row.phase got.given got.offered, sym got.reply_is)
