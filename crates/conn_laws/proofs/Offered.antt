-- When a connection is offered a server.
use Rattle.std.specs.Prelude.{ℕ, Bool, true, false, List, [], length, max, slice_get, Option, Some, None, Result, Ok, Err, refl, nat_le, nat_lt, ◌+◌, ◌-◌, ◌^◌, ◌<◌, ◌++◌, ◌≡◌, ◌↔◌, if◌then◌else◌}
use Rattle.std.proofs.Common.{sym, ap, ◌∙◌, arith}
use Rattle.std.proofs.lemmas.Bool.{false≢true}
use Rattle.std.proofs.lemmas.Bool.Decides.{nat_tests}
use Rattle.addr_core.specs.PairValue.{PairValue}
use Rattle.pp_v1.specs.declared.meaning.Meaning.{Meaning}
use Rattle.pp_any.specs.declared.rest.Rest.{Rest}
use Rattle.pp_any.specs.Header.{shifted}
use Rattle.pp_any.specs.NextPiece.{status_on}
use Rattle.pp_any.specs.Status as statuses
use Rattle.pp_any.specs.Status.{Status, status}
use Rattle.proxy_types.specs.declared.balance.Place.{Place}
use Rattle.rule_engine.specs.Judging.{no_tracks, TrackSlots}
use Rattle.rule_engine.specs.declared.judging.Judged.{Judged}
use Rattle.plan_types.specs.declared.plan.Backend.{Backend}
use Rattle.plan_types.specs.declared.plan.Plan.{Plan}
use Rattle.plan_types.specs.declared.track.Track.{Track}
use Rattle.conn_model.specs.declared.event.ConnId.{ConnId}
use Rattle.conn_model.specs.declared.event.OwnedEvent.{OwnedEvent}
use Rattle.conn_model.specs.declared.event.OwnedEvent.TheVariants.{Accept, Piece, Connected, ConnectFailed, Close, Expire, Reload, Mark}
use Rattle.conn_model.specs.declared.reply.Cause.{Cause}
use Rattle.conn_model.specs.declared.reply.Cause.TheVariants.{Line, NoBackend, NoServer}
use Rattle.conn_model.specs.declared.reply.Reply.{Reply}
use Rattle.conn_model.specs.declared.reply.Said.{Said}
use Rattle.conn_model.specs.declared.reply.Said.TheVariants as saids
use Rattle.conn_model.specs.declared.reply.StepFault.TheVariants.{NoSuch}
use Rattle.conn_model.specs.declared.plain.Phase.{Phase}
use Rattle.conn_model.specs.declared.plain.Phase.TheVariants.{Waiting, Offered, Up}
use Rattle.conn_model.specs.declared.plain.Plain.{Plain}
use Rattle.conn_model.specs.Words.{or_fault, row_at}
use Rattle.conn_model.specs.Servers.{cursor_at, pick_in}
use Rattle.conn_model.specs.Rules.{backend_for, rejection, scene_of, view_of, worth, Candidate, RuleView}
use Rattle.conn_model.specs.Answer.{admission, answer_in, decision, demands_header, entry_reply, entry_rules, header_reply, judged_pair, numbered_server, reply_of, rest_in, said_of, server_for, server_unless, NumberedServer, at_moment, failure_said, other_server}
use Rattle.conn_model.specs.History.{after, answer, joined, opening, Entry, IsLegal}
use Rattle.conn_model.proofs.Joined.{decides_joined}
use Rattle.conn_model.proofs.Replies.{accepted, bind-ok, expired, followed, or_fault-ok, received, server_answered, Accepted, Received, has_failed, HasFailed, reported}
use Rattle.conn_laws.specs.Deciding.{choice_view, entry_tracks, is_offer, is_wait, may_offer, tries_rules, newcomer, reply_saying, session_rules, session_tracks, waiting, Arrival, HasServer, IsAdmitted, IsGiven, IsLeftWaiting, IsLetWait, IsOfferedAtAccept, IsOfferedAtPiece, Says, Waiter, IsMoved}
use Rattle.conn_laws.proofs.Rules.{no_rejection, not_rejected}
use Rattle.conn_model.proofs.Offers.{failure_answers, offer-phase, other_is, IsOther}
use Rattle.plan_types.specs.Moves.{moves_of}

-- A server that is picked.

pub server_given : (view : RuleView) (given : NumberedServer) → server_for view ≡ Ok given → HasServer view given
server_given view given is =
    let one = bind-ok (or_fault (NoBackend view.frontend.line) (backend_for (worth view) view.frontend)) _ given is in
    let number : ℕ = one.0 in
    let two = bind-ok (or_fault (NoBackend view.frontend.line) (slice_get view.version.plan.backends number)) _ given one.2 in
    let backend : Backend = two.0 in
    let three = bind-ok (or_fault (NoServer backend.line) (pick_in view.served view.barred backend (cursor_at view.version.cursors number) view.source)) _ given two.2 in
    let place : Place = three.0 in
    record {
      number = number;
      backend = backend;
      place = place;
      chosen = or_fault-ok (NoBackend view.frontend.line) (backend_for (worth view) view.frontend) number one.1;
      backend_is = or_fault-ok (NoBackend view.frontend.line) (slice_get view.version.plan.backends number) backend two.1;
      picked = or_fault-ok (NoServer backend.line) (pick_in view.served view.barred backend (cursor_at view.version.cursors number) view.source) place three.1;
      server_is = or_fault-ok (NoServer backend.line) (numbered_server backend place.server) given three.2;
    }

server_found : (view : RuleView) (given : NumberedServer) → HasServer view given → server_for view ≡ Ok given
server_found view given has = rw (has.chosen, has.backend_is, has.picked, has.server_is) refl

-- A decision.

refuses_none : (said : Said) (id : ConnId) (used : ℕ) (cause : Cause) → is_offer said ≡ true → saids.Refuse id used cause ≡ said → ⊥
refuses_none said id used cause offers is = false≢true (ap is_offer is ∙ offers)

waits_none : (said : Said) (id : ConnId) (used : ℕ) → is_offer said ≡ true → saids.Wait id used ≡ said → ⊥
waits_none said id used offers is = false≢true (ap is_offer is ∙ offers)

pub record IsDecided (candidate : Candidate) (used : ℕ) (judged : PairValue) (made : TrackSlots) (said : Said) : Type 0 where
  pub given : NumberedServer
  pub is_given : IsGiven candidate judged made given
  pub said_is : said ≡ said_of candidate.id used judged (Ok given)

pub decided : (candidate : Candidate) (used : ℕ) (judged : PairValue) (made : TrackSlots) (said : Said) → is_offer said ≡ true → (decision candidate used judged made).said ≡ said → IsDecided candidate used judged made said
decided candidate used judged made said offers is = by (rejection says) refl
  where
    says : Judged
    says = session_rules candidate judged made

    view : RuleView
    view = choice_view candidate judged made

    chosen : rejection says ≡ None → (r : Result NumberedServer Cause) → server_for view ≡ r → IsDecided candidate used judged made said
    chosen none (Ok given) found = record {
      given = given;
      is_given = record { rules = not_rejected (scene_of (view_of candidate judged.source.addr)) made candidate.frontend.session_rules none; server = server_given view given found };
      said_is = sym is ∙ ap (λ o. said_of candidate.id used judged (server_unless view o)) none ∙ ap (said_of candidate.id used judged) found;
    }
    chosen none (Err cause) found =
        absurd (refuses_none said candidate.id used cause offers (sym (ap (λ o. said_of candidate.id used judged (server_unless view o)) none ∙ ap (said_of candidate.id used judged) found) ∙ is))

    by : (o : Option ℕ) → rejection says ≡ o → IsDecided candidate used judged made said
    by None none = chosen none (server_for view) refl
    by (Some line) some = absurd (refuses_none said candidate.id used (Line line) offers (sym (ap (λ o. said_of candidate.id used judged (server_unless view o)) some) ∙ is))

-- what a decision tracks
decision_is : (candidate : Candidate) (used : ℕ) (judged : PairValue) (made : TrackSlots) (given : NumberedServer) → IsGiven candidate judged made given →
    decision candidate used judged made ≡ reply_saying (said_of candidate.id used judged (Ok given)) (session_tracks candidate judged made)
decision_is candidate used judged made given is =
    let found : server_unless (choice_view candidate judged made) (rejection (session_rules candidate judged made)) ≡ Ok given =
    ap (server_unless (choice_view candidate judged made)) (no_rejection (scene_of (view_of candidate judged.source.addr)) made candidate.frontend.session_rules is.rules) ∙ server_found (choice_view candidate judged made) given is.server in
    ap (λ r. reply_saying (said_of candidate.id used judged r) (session_tracks candidate judged made)) found

-- The client or the connection that an answer is for.

-- the client that came, by what the answer to an accept looked up
abbrev pub arrival_of : (q : Plain) (moment listener : ℕ) (real : PairValue) (reply : Reply) → Accepted (at_moment moment q) (max q.clock moment) listener real reply → Arrival q listener
arrival_of q moment listener real reply got = record {
  at = got.at;
  own = got.own;
  version = got.version;
  frontend = got.frontend;
  listens = got.listens;
  there = got.there;
  in_force = got.newest_is;
  found = got.found;
}

-- the connection that waits, by what the answer to a piece looked up
abbrev pub waiter_of : (q : Plain) (moment : ℕ) (id : ConnId) (piece : List ℕ) (reply : Reply) → Received (at_moment moment q) id piece reply → Waiter q id
waiter_of q moment id piece reply got = record {
  row = got.row;
  rest = got.rest;
  own = got.own;
  version = got.version;
  frontend = got.frontend;
  row_is = got.row_is;
  waits = got.waits;
  there = got.there;
  of_accept = got.kept;
  found = got.found;
}

-- At an accept.

has_serial : (serial : ℕ) → nat_lt serial 0xFFFF_FFFF_FFFF_FFFF ≡ true → serial < 2 ^ 64 - 1
has_serial serial fits = grind (arith, nat_tests, fits)

pub accept_is : (q : Plain) (moment listener : ℕ) (real : PairValue) (arrival : Arrival q listener) → arrival.own.serial < 2 ^ 64 - 1 →
    answer_in q moment (Accept listener real) ≡ Ok (admission (newcomer q moment real listener arrival) arrival.at.accept_proxy real (length arrival.own.rows))
accept_is q moment listener real arrival less =
    let fits : nat_lt arrival.own.serial 0xFFFF_FFFF_FFFF_FFFF ≡ true = grind (arith, nat_tests, less) in
    rw (arrival.listens, arrival.there, arrival.in_force, arrival.found, fits) refl

within_limit : (limit others : ℕ) → nat_le limit others ≡ false → others < limit
within_limit limit others e = grind (arith, nat_tests)

below_limit : (limit others : ℕ) → others < limit → nat_le limit others ≡ false
below_limit limit others less = grind (arith, nat_tests)

pub record IsLetIn (candidate : Candidate) (accept_proxy : Bool) (real : PairValue) (others : ℕ) (said : Said) : Type 0 where
  pub no_header : demands_header candidate accept_proxy real ≡ false
  pub admitted : IsAdmitted candidate real others
  pub is_decided : IsDecided candidate 0 real (entry_rules candidate real).tracks said

let_in : (candidate : Candidate) (accept_proxy : Bool) (real : PairValue) (others : ℕ) (said : Said) → is_offer said ≡ true → (admission candidate accept_proxy real others).said ≡ said → IsLetIn candidate accept_proxy real others said
let_in candidate accept_proxy real others said offers is = by (nat_le candidate.frontend.limit others) refl
  where
    says : Judged
    says = entry_rules candidate real

    demanded : Bool
    demanded = demands_header candidate accept_proxy real

    expects : nat_le candidate.frontend.limit others ≡ false → rejection says ≡ None → (b : Bool) → demanded ≡ b → (entry_reply candidate demanded real says.tracks None).said ≡ said → IsLetIn candidate accept_proxy real others said
    expects within none true proxied now = absurd (waits_none said candidate.id 0 offers (sym (ap (λ b. (entry_reply candidate b real says.tracks None).said) proxied) ∙ now))
    expects within none false proxied now = record {
      no_header = proxied;
      admitted = record { limit = within_limit candidate.frontend.limit others within; rules = not_rejected (scene_of (view_of candidate real.source.addr)) no_tracks candidate.frontend.connection_rules none };
      is_decided = decided candidate 0 real says.tracks said offers (sym (ap (λ b. (entry_reply candidate b real says.tracks None).said) proxied) ∙ now);
    }

    ruled : nat_le candidate.frontend.limit others ≡ false → (o : Option ℕ) → rejection says ≡ o → (entry_reply candidate demanded real says.tracks (rejection says)).said ≡ said → IsLetIn candidate accept_proxy real others said
    ruled within None none now = expects within none demanded refl (sym (ap (λ o. (entry_reply candidate demanded real says.tracks o).said) none) ∙ now)
    ruled within (Some line) some now = absurd (refuses_none said candidate.id 0 (Line line) offers (sym (ap (λ o. (entry_reply candidate demanded real says.tracks o).said) some) ∙ now))

    limited : Bool → Reply
    limited b = if b then reply_of (saids.Refuse candidate.id 0 (Line candidate.frontend.limit_line)) else entry_reply candidate demanded real says.tracks (rejection says)

    by : (b : Bool) → nat_le candidate.frontend.limit others ≡ b → IsLetIn candidate accept_proxy real others said
    by true over = absurd (refuses_none said candidate.id 0 (Line candidate.frontend.limit_line) offers (sym (ap (λ b. (limited b).said) over) ∙ is))
    by false within = ruled within (rejection says) refl (sym (ap (λ b. (limited b).said) within) ∙ is)

-- where it is let in, it is decided of by what the connection rules track
let_in_is : (candidate : Candidate) (accept_proxy : Bool) (real : PairValue) (others : ℕ) → demands_header candidate accept_proxy real ≡ false → IsAdmitted candidate real others →
    admission candidate accept_proxy real others ≡ decision candidate 0 real (entry_rules candidate real).tracks
let_in_is candidate accept_proxy real others no_header admitted =
    let within : nat_le candidate.frontend.limit others ≡ false = below_limit candidate.frontend.limit others admitted.limit in
    rw (within, no_rejection (scene_of (view_of candidate real.source.addr)) no_tracks candidate.frontend.connection_rules admitted.rules, no_header) refl

said_by_accept : (q : Plain) (moment listener : ℕ) (real : PairValue) (said : Said) (tracks : List Track) → is_offer said ≡ true → Says (answer_in q moment (Accept listener real)) said tracks →
    (arrival : Arrival q listener) × IsOfferedAtAccept q moment real listener arrival said tracks
said_by_accept q moment listener real said tracks offers says =
    let got = accepted (at_moment moment q) (max q.clock moment) listener real (reply_saying said tracks) says in
    let arrival : Arrival q listener = arrival_of q moment listener real (reply_saying said tracks) got in
    let candidate : Candidate = newcomer q moment real listener arrival in
    let lets = let_in candidate arrival.at.accept_proxy real (length arrival.own.rows) said offers (ap (λ (r : Reply). r.said) got.reply_is) in (
      arrival,
      record {
        given = lets.is_decided.given;
        serial_left = has_serial arrival.own.serial got.fits;
        no_header = lets.no_header;
        admitted = lets.admitted;
        is_given = lets.is_decided.is_given;
        said_is = lets.is_decided.said_is;
        tracks_are = ap (λ (r : Reply). r.tracks.items) (sym got.reply_is ∙ let_in_is candidate arrival.at.accept_proxy real (length arrival.own.rows) lets.no_header lets.admitted);
      },
    )

accept_says : (q : Plain) (moment listener : ℕ) (real : PairValue) (said : Said) (tracks : List Track) (arrival : Arrival q listener) → IsOfferedAtAccept q moment real listener arrival said tracks →
    Says (answer_in q moment (Accept listener real)) said tracks
accept_says q moment listener real said tracks arrival offered =
    let candidate : Candidate = newcomer q moment real listener arrival in
    accept_is q moment listener real arrival offered.serial_left
    ∙ ap Ok (let_in_is candidate arrival.at.accept_proxy real (length arrival.own.rows) offered.no_header offered.admitted ∙ decision_is candidate 0 real (entry_rules candidate real).tracks offered.given offered.is_given)
    ∙ ap (λ s. Ok (reply_saying s (session_tracks candidate real (entry_rules candidate real).tracks))) (sym offered.said_is)
    ∙ ap (λ t. Ok (reply_saying said t)) (sym offered.tracks_are)

pub at_accept : (p : Plain) (h : List Entry) (moment listener : ℕ) (real : PairValue) (said : Said) (tracks : List Track) → is_offer said ≡ true →
    Says (answer p h moment (Accept listener real)) said tracks ↔ ((arrival : Arrival (after p h) listener) × IsOfferedAtAccept (after p h) moment real listener arrival said tracks)
at_accept p h moment listener real said tracks offers = (said_by_accept (after p h) moment listener real said tracks offers, λ is. accept_says (after p h) moment listener real said tracks is.0 is.1)

-- It waits.

decides_no_wait : (id : ConnId) (used : ℕ) (judged : PairValue) (given : Result NumberedServer Cause) → is_wait (said_of id used judged given) ≡ false
decides_no_wait id used judged (Ok given) = refl
decides_no_wait id used judged (Err cause) = refl

let_wait : (candidate : Candidate) (accept_proxy : Bool) (real : PairValue) (others : ℕ) → is_wait (admission candidate accept_proxy real others).said ≡ true → (demands_header candidate accept_proxy real ≡ true) × IsAdmitted candidate real others
let_wait candidate accept_proxy real others waits = by (nat_le candidate.frontend.limit others) refl
  where
    says : Judged
    says = entry_rules candidate real

    demanded : Bool
    demanded = demands_header candidate accept_proxy real

    expects : nat_le candidate.frontend.limit others ≡ false → rejection says ≡ None → (b : Bool) → demanded ≡ b → is_wait (entry_reply candidate demanded real says.tracks None).said ≡ true → (demands_header candidate accept_proxy real ≡ true) × IsAdmitted candidate real others
    expects within none true proxied now = (proxied, record { limit = within_limit candidate.frontend.limit others within; rules = not_rejected (scene_of (view_of candidate real.source.addr)) no_tracks candidate.frontend.connection_rules none })
    expects within none false proxied now =
        let judged_now : is_wait (decision candidate 0 real says.tracks).said ≡ true = sym (ap (λ b. is_wait (entry_reply candidate b real says.tracks None).said) proxied) ∙ now in
        absurd (false≢true (sym (decides_no_wait candidate.id 0 real (server_unless (choice_view candidate real says.tracks) (rejection (session_rules candidate real says.tracks)))) ∙ judged_now))

    ruled : nat_le candidate.frontend.limit others ≡ false → (o : Option ℕ) → rejection says ≡ o → is_wait (entry_reply candidate demanded real says.tracks (rejection says)).said ≡ true → (demands_header candidate accept_proxy real ≡ true) × IsAdmitted candidate real others
    ruled within None none now = expects within none demanded refl (sym (ap (λ o. is_wait (entry_reply candidate demanded real says.tracks o).said) none) ∙ now)
    ruled within (Some line) some now = absurd (false≢true (sym (ap (λ o. is_wait (entry_reply candidate demanded real says.tracks o).said) some) ∙ now))

    limited : Bool → Reply
    limited b = if b then reply_of (saids.Refuse candidate.id 0 (Line candidate.frontend.limit_line)) else entry_reply candidate demanded real says.tracks (rejection says)

    by : (b : Bool) → nat_le candidate.frontend.limit others ≡ b → (demands_header candidate accept_proxy real ≡ true) × IsAdmitted candidate real others
    by true over = absurd (false≢true (sym (ap (λ b. is_wait (limited b).said) over) ∙ waits))
    by false within = ruled within (rejection says) refl (sym (ap (λ b. is_wait (limited b).said) within) ∙ waits)

-- it says so of the connection that came
wait_said : (candidate : Candidate) (accept_proxy : Bool) (real : PairValue) (others : ℕ) → demands_header candidate accept_proxy real ≡ true → IsAdmitted candidate real others →
    admission candidate accept_proxy real others ≡ reply_saying (saids.Wait candidate.id 0) (entry_tracks candidate real)
wait_said candidate accept_proxy real others demanded admitted =
    let within : nat_le candidate.frontend.limit others ≡ false = below_limit candidate.frontend.limit others admitted.limit in
    rw (within, no_rejection (scene_of (view_of candidate real.source.addr)) no_tracks candidate.frontend.connection_rules admitted.rules, demanded) refl

waits_by_accept : (q : Plain) (moment listener : ℕ) (real : PairValue) (said : Said) (tracks : List Track) → is_wait said ≡ true → Says (answer_in q moment (Accept listener real)) said tracks →
    (arrival : Arrival q listener) × IsLetWait q moment real listener arrival said tracks
waits_by_accept q moment listener real said tracks waits says =
    let got = accepted (at_moment moment q) (max q.clock moment) listener real (reply_saying said tracks) says in
    let arrival : Arrival q listener = arrival_of q moment listener real (reply_saying said tracks) got in
    let candidate : Candidate = newcomer q moment real listener arrival in
    let lets = let_wait candidate arrival.at.accept_proxy real (length arrival.own.rows) (ap (λ (r : Reply). is_wait r.said) got.reply_is ∙ waits) in
    let is : reply_saying said tracks ≡ reply_saying (saids.Wait candidate.id 0) (entry_tracks candidate real) = sym got.reply_is ∙ wait_said candidate arrival.at.accept_proxy real (length arrival.own.rows) lets.0 lets.1 in (
      arrival,
      record {
        serial_left = has_serial arrival.own.serial got.fits;
        demanded = lets.0;
        admitted = lets.1;
        said_is = ap (λ (r : Reply). r.said) is;
        tracks_are = ap (λ (r : Reply). r.tracks.items) is;
      },
    )

accept_waits : (q : Plain) (moment listener : ℕ) (real : PairValue) (said : Said) (tracks : List Track) (arrival : Arrival q listener) → IsLetWait q moment real listener arrival said tracks →
    Says (answer_in q moment (Accept listener real)) said tracks
accept_waits q moment listener real said tracks arrival lets =
    let candidate : Candidate = newcomer q moment real listener arrival in
    accept_is q moment listener real arrival lets.serial_left
    ∙ ap Ok (wait_said candidate arrival.at.accept_proxy real (length arrival.own.rows) lets.demanded lets.admitted)
    ∙ ap (λ s. Ok (reply_saying s (entry_tracks candidate real))) (sym lets.said_is)
    ∙ ap (λ t. Ok (reply_saying said t)) (sym lets.tracks_are)

pub waits : (p : Plain) (h : List Entry) (moment listener : ℕ) (real : PairValue) (said : Said) (tracks : List Track) → is_wait said ≡ true →
    Says (answer p h moment (Accept listener real)) said tracks ↔ ((arrival : Arrival (after p h) listener) × IsLetWait (after p h) moment real listener arrival said tracks)
waits p h moment listener real said tracks is_one = (waits_by_accept (after p h) moment listener real said tracks is_one, λ is. accept_waits (after p h) moment listener real said tracks is.0 is.1)

-- At a piece.

pub piece_is : (q : Plain) (moment : ℕ) (id : ConnId) (piece : List ℕ) (waiter : Waiter q id) →
    answer_in q moment (Piece id piece) ≡ Ok (header_reply (waiting q moment id waiter) waiter.row.real (length piece) (status_on waiter.rest piece))
piece_is q moment id piece waiter = rw (waiter.row_is, waiter.waits, waiter.there, waiter.of_accept, waiter.found) refl

pub phase_waits : (phase : Phase) (rest : Rest) → rest_in phase ≡ Some rest → phase ≡ Waiting rest
phase_waits (Waiting held) rest is = let same : held ≡ rest = cc in ap Waiting same
phase_waits (Offered assignment) rest is = absurd (let wrong : None ≡ Some rest = is in cc)
phase_waits (Up assignment) rest is = absurd (let wrong : None ≡ Some rest = is in cc)

said_by_piece : (q : Plain) (moment : ℕ) (id : ConnId) (waiter : Waiter q id) (bytes piece : List ℕ) (before : ℕ) (said : Said) (tracks : List Track) → is_offer said ≡ true → (state : Status) → status bytes ≡ shifted before state →
    header_reply (waiting q moment id waiter) waiter.row.real (length piece) state ≡ reply_saying said tracks → IsOfferedAtPiece q moment id waiter bytes before said tracks
said_by_piece q moment id waiter bytes piece before said tracks offers statuses.Wait state_is is = absurd (waits_none said id (length piece) offers (ap (λ (r : Reply). r.said) is))
said_by_piece q moment id waiter bytes piece before said tracks offers (statuses.Fault fault count) state_is is = absurd (false≢true (ap (λ (r : Reply). is_offer r.said) is ∙ offers))
said_by_piece q moment id waiter bytes piece before said tracks offers (statuses.Whole count meaning) state_is is =
    let got = decided (waiting q moment id waiter) count (judged_pair waiter.row.real meaning) no_tracks said offers (ap (λ (r : Reply). r.said) is) in
    record { meaning = meaning; used = count; given = got.given; header = state_is; is_given = got.is_given; said_is = got.said_is; tracks_are = ap (λ (r : Reply). r.tracks.items) (sym is) }

-- the status of the piece by that of all bytes
whole_on : (before used : ℕ) (meaning : Meaning) (state : Status) → shifted before state ≡ statuses.Whole (used + before) meaning → state ≡ statuses.Whole used meaning
whole_on before used meaning (statuses.Whole count found) is =
    let counts : count + before ≡ used + before = cc in
    let same : count ≡ used = omega (arith, counts) in
    let meant : found ≡ meaning = cc in
    ap (λ n. statuses.Whole n found) same ∙ ap (statuses.Whole used) meant
whole_on before used meaning (statuses.Fault fault count) is = absurd (let wrong : statuses.Fault fault (count + before) ≡ statuses.Whole (used + before) meaning = is in cc)
whole_on before used meaning statuses.Wait is = absurd (let wrong : statuses.Wait ≡ statuses.Whole (used + before) meaning = is in cc)

piece_says : (q : Plain) (moment : ℕ) (id : ConnId) (piece bytes : List ℕ) (before : ℕ) (waiter : Waiter q id) (said : Said) (tracks : List Track) → status bytes ≡ shifted before (status_on waiter.rest piece) →
    IsOfferedAtPiece q moment id waiter bytes before said tracks → Says (answer_in q moment (Piece id piece)) said tracks
piece_says q moment id piece bytes before waiter said tracks state_is offered =
    let candidate : Candidate = waiting q moment id waiter in
    let judged : PairValue = judged_pair waiter.row.real offered.meaning in
    let whole : status_on waiter.rest piece ≡ statuses.Whole offered.used offered.meaning = whole_on before offered.used offered.meaning (status_on waiter.rest piece) (sym state_is ∙ offered.header) in
    piece_is q moment id piece waiter
    ∙ ap (λ s. Ok (header_reply candidate waiter.row.real (length piece) s)) whole
    ∙ ap Ok (decision_is candidate offered.used judged no_tracks offered.given offered.is_given)
    ∙ ap (λ s. Ok (reply_saying s (session_tracks candidate judged no_tracks))) (sym offered.said_is)
    ∙ ap (λ t. Ok (reply_saying said t)) (sym offered.tracks_are)

-- what came before, and the piece, decide what the piece decides on what is held
pub piece_status : (plan : Plan) (last : ℕ) (h : List Entry) → IsLegal (opening plan last) h → (id : ConnId) (piece : List ℕ) (waiter : Waiter (after (opening plan last) h) id) →
    status (joined id h ++ piece) ≡ shifted (length (joined id h)) (status_on waiter.rest piece)
piece_status plan last h legal id piece waiter = decides_joined plan last h legal id waiter.row waiter.rest waiter.row_is (phase_waits waiter.row.phase waiter.rest waiter.waits) piece

said_at_piece : (plan : Plan) (last : ℕ) (h : List Entry) → IsLegal (opening plan last) h → (moment : ℕ) (id : ConnId) (piece : List ℕ) (said : Said) (tracks : List Track) → is_offer said ≡ true →
    Says (answer (opening plan last) h moment (Piece id piece)) said tracks →
    (waiter : Waiter (after (opening plan last) h) id) × IsOfferedAtPiece (after (opening plan last) h) moment id waiter (joined id h ++ piece) (length (joined id h)) said tracks
said_at_piece plan last h legal moment id piece said tracks offers says =
    let q : Plain = after (opening plan last) h in
    let got = received (at_moment moment q) id piece (reply_saying said tracks) says in
    let waiter : Waiter q id = waiter_of q moment id piece (reply_saying said tracks) got in (
      waiter,
      said_by_piece q moment id waiter (joined id h ++ piece) piece (length (joined id h)) said tracks offers (status_on waiter.rest piece) (piece_status plan last h legal id piece waiter) got.reply_is,
    )

pub at_piece : (plan : Plan) (last : ℕ) (h : List Entry) → IsLegal (opening plan last) h → (moment : ℕ) (id : ConnId) (piece : List ℕ) (said : Said) (tracks : List Track) → is_offer said ≡ true →
    Says (answer (opening plan last) h moment (Piece id piece)) said tracks
    ↔ ((waiter : Waiter (after (opening plan last) h) id) × IsOfferedAtPiece (after (opening plan last) h) moment id waiter (joined id h ++ piece) (length (joined id h)) said tracks)
at_piece plan last h legal moment id piece said tracks offers = (
  said_at_piece plan last h legal moment id piece said tracks offers,
  λ is. piece_says (after (opening plan last) h) moment id piece (joined id h ++ piece) (length (joined id h)) is.0 said tracks (piece_status plan last h legal id piece is.0) is.1,
)

-- It waits on.

left_waiting : (q : Plain) (moment : ℕ) (id : ConnId) (waiter : Waiter q id) (bytes piece : List ℕ) (before : ℕ) (said : Said) (tracks : List Track) → is_wait said ≡ true → (state : Status) → status bytes ≡ shifted before state →
    header_reply (waiting q moment id waiter) waiter.row.real (length piece) state ≡ reply_saying said tracks → IsLeftWaiting id bytes (length piece) said tracks
left_waiting q moment id waiter bytes piece before said tracks waits statuses.Wait state_is is = record { header = state_is; said_is = ap (λ (r : Reply). r.said) (sym is); tracks_are = ap (λ (r : Reply). r.tracks.items) (sym is) }
left_waiting q moment id waiter bytes piece before said tracks waits (statuses.Fault fault count) state_is is = absurd (false≢true (ap (λ (r : Reply). is_wait r.said) is ∙ waits))
left_waiting q moment id waiter bytes piece before said tracks waits (statuses.Whole count meaning) state_is is =
    let candidate : Candidate = waiting q moment id waiter in
    let judged : PairValue = judged_pair waiter.row.real meaning in
    absurd (false≢true (sym (decides_no_wait id count judged (server_unless (choice_view candidate judged no_tracks) (rejection (session_rules candidate judged no_tracks)))) ∙ ap (λ (r : Reply). is_wait r.said) is ∙ waits))

wait_on : (before : ℕ) (state : Status) → shifted before state ≡ statuses.Wait → state ≡ statuses.Wait
wait_on before statuses.Wait is = refl
wait_on before (statuses.Fault fault count) is = absurd (let wrong : statuses.Fault fault (count + before) ≡ statuses.Wait = is in cc)
wait_on before (statuses.Whole count meaning) is = absurd (let wrong : statuses.Whole (count + before) meaning ≡ statuses.Wait = is in cc)

waits_says : (q : Plain) (moment : ℕ) (id : ConnId) (piece bytes : List ℕ) (before : ℕ) (waiter : Waiter q id) (said : Said) (tracks : List Track) → status bytes ≡ shifted before (status_on waiter.rest piece) →
    IsLeftWaiting id bytes (length piece) said tracks → Says (answer_in q moment (Piece id piece)) said tracks
waits_says q moment id piece bytes before waiter said tracks state_is left =
    piece_is q moment id piece waiter
    ∙ ap (λ s. Ok (header_reply (waiting q moment id waiter) waiter.row.real (length piece) s)) (wait_on before (status_on waiter.rest piece) (sym state_is ∙ left.header))
    ∙ ap (λ s. Ok (reply_saying s [])) (sym left.said_is)
    ∙ ap (λ t. Ok (reply_saying said t)) (sym left.tracks_are)

waits_at_piece : (plan : Plan) (last : ℕ) (h : List Entry) → IsLegal (opening plan last) h → (moment : ℕ) (id : ConnId) (piece : List ℕ) (said : Said) (tracks : List Track) → is_wait said ≡ true →
    Says (answer (opening plan last) h moment (Piece id piece)) said tracks → Waiter (after (opening plan last) h) id × IsLeftWaiting id (joined id h ++ piece) (length piece) said tracks
waits_at_piece plan last h legal moment id piece said tracks waits says =
    let q : Plain = after (opening plan last) h in
    let got = received (at_moment moment q) id piece (reply_saying said tracks) says in
    let waiter : Waiter q id = waiter_of q moment id piece (reply_saying said tracks) got in (
      waiter,
      left_waiting q moment id waiter (joined id h ++ piece) piece (length (joined id h)) said tracks waits (status_on waiter.rest piece) (piece_status plan last h legal id piece waiter) got.reply_is,
    )

pub waits_on : (plan : Plan) (last : ℕ) (h : List Entry) → IsLegal (opening plan last) h → (moment : ℕ) (id : ConnId) (piece : List ℕ) (said : Said) (tracks : List Track) → is_wait said ≡ true →
    Says (answer (opening plan last) h moment (Piece id piece)) said tracks ↔ (Waiter (after (opening plan last) h) id × IsLeftWaiting id (joined id h ++ piece) (length piece) said tracks)
waits_on plan last h legal moment id piece said tracks waits = (
  waits_at_piece plan last h legal moment id piece said tracks waits,
  λ is. waits_says (after (opening plan last) h) moment id piece (joined id h ++ piece) (length (joined id h)) is.0 said tracks (piece_status plan last h legal id piece is.0) is.1,
)

-- Where a server is out of reach.

said_at_failure : (q : Plain) (moment : ℕ) (id : ConnId) (said : Said) (tracks : List Track) → is_offer said ≡ true → Says (answer_in q moment (ConnectFailed id)) said tracks → IsMoved q id said tracks
said_at_failure q moment id said tracks offers says = by (other_server q got.row got.given) refl
  where
    got : HasFailed (at_moment moment q) id (reply_saying said tracks)
    got = has_failed (at_moment moment q) id (reply_saying said tracks) says

    said_is : failure_said id got.given (other_server q got.row got.given) ≡ said
    said_is = ap (λ (r : Reply). r.said) got.reply_is

    by : (o : Option NumberedServer) → other_server q got.row got.given ≡ o → IsMoved q id said tracks
    by None none = absurd (false≢true (ap is_offer (sym (ap (failure_said id got.given) none) ∙ said_is) ∙ offers))
    by (Some other) some =
        let at : IsOther q got.row got.given other = other_is q got.row got.given other some in
        let fewer : nat_lt (length got.given.failed) (moves_of at.backend.retries at.backend.redispatch) ≡ true = at.moves in
        record {
          row = got.row;
          given = got.given;
          version = at.version;
          number = at.number;
          backend = at.backend;
          place = at.turn;
          other = other;
          row_is = got.row_is;
          offered = offer-phase got.row.phase got.given got.offered;
          of_accept = at.of_accept;
          backend_is = rw (at.has_line, at.among) refl;
          moves = grind (arith, nat_tests, fewer);
          picked = at.picked;
          server_is = at.server_is;
          said_is = sym said_is ∙ ap (failure_said id got.given) some;
          tracks_are = ap (λ (r : Reply). r.tracks.items) (sym got.reply_is);
        }

failure_says : (q : Plain) (moment : ℕ) (id : ConnId) (said : Said) (tracks : List Track) → IsMoved q id said tracks → Says (answer_in q moment (ConnectFailed id)) said tracks
failure_says q moment id said tracks is =
    let less : length is.given.failed < moves_of is.backend.retries is.backend.redispatch = is.moves in
    let fewer : nat_lt (length is.given.failed) (moves_of is.backend.retries is.backend.redispatch) ≡ true = grind (arith, nat_tests, less) in
    let some : other_server q is.row is.given ≡ Some is.other = rw (is.of_accept, is.backend_is, fewer, is.picked, is.server_is) refl in
    failure_answers (at_moment moment q) id is.row is.given is.row_is is.offered
    ∙ ap (λ o. Ok (reply_of (failure_said id is.given o))) some
    ∙ ap (λ s. Ok (reply_saying s [])) (sym is.said_is)
    ∙ ap (λ t. Ok (reply_saying said t)) (sym is.tracks_are)

pub at_failure : (p : Plain) (h : List Entry) (moment : ℕ) (id : ConnId) (said : Said) (tracks : List Track) → is_offer said ≡ true →
    Says (answer p h moment (ConnectFailed id)) said tracks ↔ IsMoved (after p h) id said tracks
at_failure p h moment id said tracks offers = (said_at_failure (after p h) moment id said tracks offers, failure_says (after p h) moment id said tracks)

-- Nothing else offers, or tracks.

offers_not : (reply : Reply) (said : Said) → reply_of said ≡ reply → is_offer said ≡ false → is_offer reply.said ≡ true → false ≡ true
offers_not reply said is none offers = sym none ∙ ap (λ (r : Reply). is_offer r.said) is ∙ offers

pub nothing_else : (q : Plain) (moment : ℕ) (event : OwnedEvent) (reply : Reply) → answer_in q moment event ≡ Ok reply → is_offer reply.said ≡ true → may_offer event ≡ true
nothing_else q moment (Connected id) reply is offers = offers_not reply (saids.Up id) (server_answered (at_moment moment q) id (saids.Up id) reply is).reply_is refl offers
nothing_else q moment (Close id why) reply is offers =
    let one = bind-ok (or_fault NoSuch (row_at q.frontends id)) _ reply is in
    offers_not reply (saids.Closed id why) (let it : Ok (reply_of (saids.Closed id why)) ≡ Ok reply = one.2 in cc) refl offers
nothing_else q moment (Expire id) reply is offers = let got = expired (at_moment moment q) (max q.clock moment) id reply is in offers_not reply _ got.reply_is refl offers
nothing_else q moment (Reload text) reply is offers = let got = followed (at_moment moment q) text reply is in offers_not reply _ got.reply_is refl offers
nothing_else q moment (Mark number n health) reply is offers = let got = reported (at_moment moment q) number n health reply is in offers_not reply _ got.reply_is refl offers
nothing_else q moment event reply is offers = refl

no_track : (reply : Reply) (said : Said) → reply_of said ≡ reply → reply.tracks.items ≡ []
no_track reply said is = ap (λ (r : Reply). r.tracks.items) (sym is)

pub tracks_nothing : (q : Plain) (moment : ℕ) (event : OwnedEvent) (reply : Reply) → answer_in q moment event ≡ Ok reply → tries_rules event ≡ false → reply.tracks.items ≡ []
tracks_nothing q moment (Accept listener real) reply is other = absurd (false≢true (sym other))
tracks_nothing q moment (Piece id bytes) reply is other = absurd (false≢true (sym other))
tracks_nothing q moment (Connected id) reply is other = no_track reply (saids.Up id) (server_answered (at_moment moment q) id (saids.Up id) reply is).reply_is
tracks_nothing q moment (ConnectFailed id) reply is other = no_track reply _ (has_failed (at_moment moment q) id reply is).reply_is
tracks_nothing q moment (Close id why) reply is other =
    let one = bind-ok (or_fault NoSuch (row_at q.frontends id)) _ reply is in
    no_track reply (saids.Closed id why) (let it : Ok (reply_of (saids.Closed id why)) ≡ Ok reply = one.2 in cc)
tracks_nothing q moment (Expire id) reply is other = let got = expired (at_moment moment q) (max q.clock moment) id reply is in no_track reply _ got.reply_is
tracks_nothing q moment (Reload text) reply is other = let got = followed (at_moment moment q) text reply is in no_track reply _ got.reply_is
tracks_nothing q moment (Mark number n health) reply is other = let got = reported (at_moment moment q) number n health reply is in no_track reply _ got.reply_is
