-- The state of a core after a connection was offered another server.
use Rattle.std.proofs.Common.{◌≡◌, ℕ, [], ◌∷◌, List, Bool, true, false, Option, Some, None, Ok, refl, max, sym, ap, subst, append-nil, ◌∙◌, ◌<◌, ◌++◌, length, arith}
use Rattle.std.specs.Prelude.{slice_get, slice_set, find, map, position, option_and_then, option_map, nat_lt, ◌==◌, ◌||◌, if◌then◌else◌}
use Rattle.std.proofs.lemmas.Bool.Decides.{nat_tests}
use Rattle.plan_types.specs.declared.plan.Backend.{Backend}
use Rattle.plan_types.specs.declared.plan.Plan.{Plan}
use Rattle.conn_model.specs.declared.event.ConnId.{ConnId}
use Rattle.conn_model.specs.declared.event.OwnedEvent.TheVariants.{ConnectFailed}
use Rattle.conn_model.specs.declared.reply.Reply.{Reply}
use Rattle.conn_model.specs.declared.reply.Said.{Said}
use Rattle.conn_model.specs.declared.plain.Assignment.{Assignment}
use Rattle.conn_model.specs.declared.plain.Phase.{Phase}
use Rattle.conn_model.specs.declared.plain.Phase.TheVariants.{Offered, Up, Waiting}
use Rattle.conn_model.specs.declared.plain.Row.{Row}
use Rattle.conn_model.specs.declared.plain.FrontendRows.{FrontendRows}
use Rattle.conn_model.specs.declared.plain.TableState.{TableState}
use Rattle.conn_model.specs.declared.plain.Version.{Version}
use Rattle.conn_model.specs.declared.plain.Plain.{Plain}
use Rattle.conn_model.specs.Counts.{change_row, served_by}
use Rattle.conn_model.specs.Words.{Rise}
use Rattle.conn_model.specs.Answer.{answer_in, at_moment, backend_at, barred_for, failure_said, numbered_server, offer_in, other_server, reply_of, row_at, row_in, said_of, version_at, NumberedServer}
use Rattle.conn_model.specs.Servers.{cursor_at, pick_in}
use Rattle.list_core.proofs.Items.{found}
use Rattle.plan_types.specs.Lines.{has_line}
use Rattle.plan_types.specs.Moves.{moves_of}
use Rattle.proxy_types.specs.declared.balance.Place.{Place}
use Rattle.conn_model.specs.History.{by_counter, entry, phase_by, tables_passed, with_offer, with_said}
use Rattle.conn_model.proofs.Goes.{well_at}
use Rattle.conn_model.proofs.Lists.{all-found}
use Rattle.conn_model.proofs.Trackings.{tables_kept}
use Rattle.conn_model.specs.Changes.{with_conn}
use Rattle.conn_rows.specs.declared.row.PendingOffer.{PendingOffer}
use Rattle.conn_rows.specs.declared.row.ServerChoice.{ServerChoice}
use Rattle.conn_rows.specs.Value.{RowsValue}
use Rattle.std.specs.List.{list_any, AllByRecursion}
use Rattle.conn_model.specs.Servers.{is_down}
use Rattle.plan_types.specs.declared.plan.Server.{Server}
use Rattle.addr_core.specs.PairValue.{PairValue}
use Rattle.addr_core.specs.declared.addr.Addr.{Addr}
use Rattle.addr_core.specs.declared.addr.Endpoint.{Endpoint}
use Rattle.proxy_types.specs.declared.server.ServerIdentity.{ServerIdentity}
use Rattle.conn_rows.specs.Changes.{phase_moved, row_moved}
use Rattle.conn_rows.specs.Stored.{plan_at}
use Rattle.conn_core.specs.Changes.{row_by, spoken}
use Rattle.conn_core.specs.Machine.{AreSound, IsCoreState}
use Rattle.conn_rows.specs.Summaries.{pending_in, pending_of}
use Rattle.plan_types.specs.Sound.{IsSoundPlan}
use Rattle.conn_core.specs.Counts.{IsStateOf}
use Rattle.conn_core.specs.Moving.{other_offer, HasOther, IsPendingIn}
use Rattle.conn_core.specs.Outcome.{said_by}
use Rattle.conn_core.specs.declared.machine.MovedOffer.{MovedOffer}
use Rattle.conn_core.specs.declared.outcome.Offer.{Offer}
use Rattle.conn_core.specs.declared.outcome.Outcome.TheVariants as outcomes
use Rattle.conn_core.proofs.JudgingLemmas.{can_offer, said_of_outcome}
use Rattle.conn_model.proofs.Offers.{failure_answers, other_is, pick-offers, IsOther, OffersWell}
use Rattle.conn_model.specs.declared.event.Why.TheVariants.{Failed}
use Rattle.conn_model.specs.declared.reply.Said.TheVariants.{Closed}
use Rattle.conn_rows.specs.Versions.{HasServer}
use Rattle.conn_core.specs.Outcome.{offer_of}
use Rattle.conn_core.proofs.StateLemmas.{after_spoken, frontend_of, IsAfter}

-- Two changes of the row of a serial that make the same of it.

alike_past : (serial : ℕ) (f g : Row → Row) (rows : List Row) → AllByRecursion (λ row. serial < row.serial) rows → change_row serial f rows ≡ change_row serial g rows
alike_past serial f g [] past = refl
alike_past serial f g (row ∷ rows) past =
    let other : (row.serial == serial) ≡ false = let less : serial < row.serial = past.0 in grind (arith, nat_tests, less) in
    rw other (ap (λ rest. row ∷ rest) (alike_past serial f g rows past.1))

pub alike_found : (serial : ℕ) (f g : Row → Row) (rows : List Row) (row : Row) → Rise (λ r. r.serial) rows → find (λ r. r.serial == serial) rows ≡ Some row → f row ≡ g row →
    change_row serial f rows ≡ change_row serial g rows
alike_found serial f g [] row rise found same = refl
alike_found serial f g (first ∷ rows) row rise found same = by (first.serial == serial) refl (λ later. alike_found serial f g rows row rise.1 later same)
  where
    by : (b : Bool) → (first.serial == serial) ≡ b → (find (λ r. r.serial == serial) rows ≡ Some row → change_row serial f rows ≡ change_row serial g rows) →
        change_row serial f (first ∷ rows) ≡ change_row serial g (first ∷ rows)
    by true here on =
        let it : Some first ≡ Some row = rw here at found in
        let is : first ≡ row = cc in
        let own : first.serial ≡ serial = grind (arith, nat_tests, here) in
        let past : AllByRecursion (λ r. serial < r.serial) rows = subst (λ n. AllByRecursion (λ r. n < r.serial) rows) own rise.0 in
        rw here (ap (λ r. r ∷ change_row serial f rows) (ap f is ∙ same ∙ ap g (sym is)) ∙ ap (λ rest. g first ∷ rest) (alike_past serial f g rows past))
    by false other on =
        let later : find (λ r. r.serial == serial) rows ≡ Some row = rw other at found in
        rw other (ap (λ rest. first ∷ rest) (on later))

-- What is known of a connection that was offered a server.

pub sound_at : (versions : List Version) (number : ℕ) (version : Version) → AreSound versions → version_at versions number ≡ Some version → IsSoundPlan version.plan
sound_at versions number version sound is = (all-found (λ (v : Version). IsSoundPlan v.plan) (λ v. v.number == number) versions version sound is).0

pub pending_known : (frontends : List FrontendRows) (id : ConnId) (pending : PendingOffer) → option_and_then pending_of (row_at frontends id) ≡ Some (pending_in pending) →
    (row : Row) × (given : Assignment) × (row_at frontends id ≡ Some row) × (row.phase ≡ Offered given) × IsPendingIn pending row given
pending_known frontends id pending is = by (row_at frontends id) refl
  where
    by : (o : Option Row) → row_at frontends id ≡ o → (row : Row) × (given : Assignment) × (row_at frontends id ≡ Some row) × (row.phase ≡ Offered given) × IsPendingIn pending row given
    by None none = absurd (let wrong : None ≡ Some (pending_in pending) = ap (option_and_then pending_of) (sym none) ∙ is in cc)
    by (Some row) there = offered row.phase refl
      where
        seen : pending_of row ≡ Some (pending_in pending)
        seen = ap (option_and_then pending_of) (sym there) ∙ is

        shown : Assignment → ℕ × ℕ × PairValue × List ℕ
        shown given = (row.version, given.line, given.judged, given.failed)

        offered : (phase : Phase) → row.phase ≡ phase → (row : Row) × (given : Assignment) × (row_at frontends id ≡ Some row) × (row.phase ≡ Offered given) × IsPendingIn pending row given
        offered (Waiting rest) phase = absurd (let wrong : None ≡ Some (pending_in pending) = ap (λ p. option_map shown (offer_in p)) (sym phase) ∙ seen in cc)
        offered (Up given) phase = absurd (let wrong : None ≡ Some (pending_in pending) = ap (λ p. option_map shown (offer_in p)) (sym phase) ∙ seen in cc)
        offered (Offered given) phase =
            let it : Some (shown given) ≡ Some (pending_in pending) = ap (λ p. option_map shown (offer_in p)) (sym phase) ∙ seen in
            let same : shown given ≡ pending_in pending = cc in (
              row,
              given,
              there,
              phase,
              record { version = sym (ap (λ x. x.0) same); line = sym (ap (λ x. x.1) same); judged = sym (ap (λ x. x.2) same); failed = sym (ap (λ x. x.3) same) },
            )

-- The offer of another server.

-- the backend of that number has the server of that line
pub at_number : (plan : Plan) (line number : ℕ) (backend : Backend) → option_map (λ (at : ℕ × Backend). at.0) (backend_at plan line) ≡ Some number → slice_get plan.backends number ≡ Some backend →
    backend_at plan line ≡ Some (number, backend)
at_number plan line number backend is there = by (position (has_line line) plan.backends) refl
  where
    placed : ℕ → Option (ℕ × Backend)
    placed n = option_map (λ b. (n, b)) (slice_get plan.backends n)

    by : (o : Option ℕ) → position (has_line line) plan.backends ≡ o → backend_at plan line ≡ Some (number, backend)
    by None none = absurd (let wrong : None ≡ Some number = ap (λ o. option_map (λ (at : ℕ × Backend). at.0) (option_and_then placed o)) (sym none) ∙ is in cc)
    by (Some n) some =
        let item = found (has_line line) plan.backends n some in
        let it : Some n ≡ Some number =
        sym (ap (λ o. option_map (λ (at : ℕ × Backend). at.0) (option_and_then placed o)) some ∙ ap (λ o. option_map (λ (at : ℕ × Backend). at.0) (option_map (λ b. (n, b)) o)) item.1) ∙ is in
        let same : n ≡ number = cc in
        ap (option_and_then placed) some ∙ ap placed same ∙ ap (option_map (λ b. (number, b))) there

then_map : (backend : Backend) (o : Option Place) → option_and_then (λ turn. numbered_server backend turn.server) o ≡ option_and_then (numbered_server backend) (option_map (λ turn. turn.server) o)
then_map backend None = refl
then_map backend (Some turn) = refl

-- another server by what was picked of the backend
pub other_by : (p : Plain) (row : Row) (given : Assignment) (version : Version) (number : ℕ) (backend : Backend) (place : Option ℕ) → version_at p.versions row.version ≡ Some version →
    backend_at version.plan given.line ≡ Some (number, backend) → nat_lt (length given.failed) (moves_of backend.retries backend.redispatch) ≡ true →
    option_map (λ turn. turn.server) (pick_in (served_by p.frontends) (barred_for p.down given) backend (cursor_at version.cursors number) given.judged.source.addr) ≡ place →
    other_server p row given ≡ option_and_then (numbered_server backend) place
other_by p row given version number backend place of_accept backend_is fewer picked =
    rw (of_accept, backend_is, fewer) (then_map backend (pick_in (served_by p.frontends) (barred_for p.down given) backend (cursor_at version.cursors number) given.judged.source.addr) ∙ ap (option_and_then (numbered_server backend)) picked)

-- barred from the servers that are down, and from those of some lines
abbrev barred_by : List ServerIdentity → List ℕ → Backend → Server → Bool
barred_by down lines backend server = is_down down backend server || list_any (λ line. line == server.line) lines

-- the offer of another server, where that was picked by what is known of a connection that was offered one
pub other_offer_by : (p : Plain) (row : Row) (given : Assignment) (rows : RowsValue) (pending : PendingOffer) (version : Version) (number : ℕ) (backend : Backend) (lines : List ℕ) (source : Endpoint) (place : Option ℕ) →
    IsStateOf p rows → IsPendingIn pending row given → version_at rows.versions pending.version ≡ Some version →
    option_map (λ (at : ℕ × Backend). at.0) (backend_at version.plan pending.line) ≡ Some number → slice_get version.plan.backends number ≡ Some backend →
    nat_lt (length pending.failed.now) (moves_of backend.retries backend.redispatch) ≡ true → lines ≡ pending.line ∷ pending.failed.now → source ≡ pending.judged.source →
    place ≡ option_map (λ turn. turn.server) (pick_in (served_by rows.frontends) (barred_by rows.down lines) backend (cursor_at version.cursors number) source.addr) →
    other_offer p row given ≡ option_map (λ other. offer_of other.number other.server pending.judged) (option_and_then (numbered_server backend) place)
other_offer_by p row given rows pending version number backend lines source place at known there number_is among fewer lines_is source_is place_is =
    ap (option_map (λ other. offer_of other.number other.server given.judged)) (other_by p row given version number backend place of_accept backend_is fewer_given picked)
    ∙ ap (λ judged. option_map (λ other. offer_of other.number other.server judged) (option_and_then (numbered_server backend) place)) (sym known.judged)
  where
    of_accept : version_at p.versions row.version ≡ Some version
    of_accept = ap (λ vs. version_at vs row.version) at.versions ∙ ap (version_at rows.versions) (sym known.version) ∙ there

    backend_is : backend_at version.plan given.line ≡ Some (number, backend)
    backend_is = ap (backend_at version.plan) (sym known.line) ∙ at_number version.plan pending.line number backend number_is among

    fewer_given : nat_lt (length given.failed) (moves_of backend.retries backend.redispatch) ≡ true
    fewer_given = ap (λ lines. nat_lt (length lines) (moves_of backend.retries backend.redispatch)) (sym known.failed) ∙ fewer

    lines_given : given.line ∷ given.failed ≡ lines
    lines_given = sym (lines_is ∙ ap (λ line. line ∷ pending.failed.now) known.line ∙ ap (λ failed. given.line ∷ failed) known.failed)

    source_given : given.judged.source.addr ≡ source.addr
    source_given = sym (ap (λ (e : Endpoint). e.addr) source_is ∙ ap (λ (judged : PairValue). judged.source.addr) known.judged)

    pick : List FrontendRows → List ServerIdentity → List ℕ → Addr → Option ℕ
    pick frontends down failed addr = option_map (λ turn. turn.server) (pick_in (served_by frontends) (barred_by down failed) backend (cursor_at version.cursors number) addr)

    picked : pick p.frontends p.down (given.line ∷ given.failed) given.judged.source.addr ≡ place
    picked =
        ap (λ frontends. pick frontends p.down (given.line ∷ given.failed) given.judged.source.addr) at.frontends
        ∙ ap (λ down. pick rows.frontends down (given.line ∷ given.failed) given.judged.source.addr) at.down
        ∙ ap (λ failed. pick rows.frontends rows.down failed given.judged.source.addr) lines_given
        ∙ ap (pick rows.frontends rows.down lines) source_given
        ∙ sym place_is

-- the seat of another server
abbrev pub other_seat : Assignment → NumberedServer → ServerChoice
other_seat given other = (offer_of other.number other.server given.judged).seat

abbrev pub other_said : ConnId → Assignment → NumberedServer → Said
other_said id given other = said_of id 0 given.judged (Ok other)

-- the state once a connection whose server was out of reach was offered another one
pub after_moved : (p : Plain) → IsCoreState p → (moment : ℕ) (id : ConnId) (row : Row) (given : Assignment) (other : NumberedServer) → row_at p.frontends id ≡ Some row → row.phase ≡ Offered given →
    answer_in p moment (ConnectFailed id) ≡ Ok (reply_of (other_said id given other)) →
    IsAfter p (entry moment (ConnectFailed id) (reply_of (other_said id given other))) (record {
      clock = max p.clock moment;
      listeners = p.listeners;
      frontends = with_conn id (row_moved p.versions (other_seat given other)) p.frontends;
      versions = map (with_offer row.version other.server.line other.number) p.versions;
      tables = (at_moment moment p).tables;
      down = p.down;
    })
after_moved p known moment id row given other open_now offered is =
    subst (IsAfter p (entry moment (ConnectFailed id) (reply_of said))) same (after_spoken p known moment (ConnectFailed id) id (reply_of said) row open_now tt refl is)
  where
    said : Said
    said = other_said id given other

    own : FrontendRows
    own = (frontend_of p.frontends id row open_now).0

    there : slice_get p.frontends id.frontend ≡ Some own
    there = (frontend_of p.frontends id row open_now).1

    found : find (λ r. r.serial == id.serial) own.rows ≡ Some row
    found = ap (row_in id.serial) (sym there) ∙ open_now

    by_said : Row → Row
    by_said = row_by p.versions (ConnectFailed id) (reply_of said)

    moved : Row → Row
    moved = row_moved p.versions (other_seat given other)

    sorted : by_counter row.tracks ≡ row.tracks
    sorted = (all-found (λ (r : Row). by_counter r.tracks ≡ r.tracks) (λ r. r.serial == id.serial) own.rows row (well_at p known.well id.frontend own there).sorted found).0

    each : by_said row ≡ moved row
    each =
        ap (λ ts. record row { phase = phase_by (plan_at p.versions row.version) (ConnectFailed id) said row.phase; tracks = ts }) (ap by_counter (append-nil row.tracks) ∙ sorted)
        ∙ ap (λ phase. record row { phase = phase }) (phases row.phase offered)
      where
        phases : (phase : Phase) → phase ≡ Offered given →
            phase_by (plan_at p.versions row.version) (ConnectFailed id) said phase ≡ phase_moved (plan_at p.versions row.version) (other_seat given other) phase
        phases phase it = rw it refl

    frontends : with_conn id by_said p.frontends ≡ with_conn id moved p.frontends
    frontends = rw there (ap (λ rows. slice_set p.frontends id.frontend (record own { rows = rows })) (alike_found id.serial by_said moved own.rows row (well_at p known.well id.frontend own there).rise found each))

    state : List FrontendRows → List TableState → Plain
    state fs tables = record {
      clock = max p.clock moment;
      listeners = p.listeners;
      frontends = fs;
      versions = map (with_offer row.version other.server.line other.number) p.versions;
      tables = tables;
      down = p.down;
    }

    same : state (with_conn id by_said p.frontends) (tables_passed (max p.clock moment) p.frontends p.tables (reply_of said)) ≡ state (with_conn id moved p.frontends) (at_moment moment p).tables
    same =
        ap (λ fs. state fs (tables_passed (max p.clock moment) p.frontends p.tables (reply_of said))) frontends
        ∙ ap (state (with_conn id moved p.frontends)) (tables_kept (max p.clock moment) (at_moment moment p).tables p said refl)

-- What becomes of the connection.

-- it is moved there
pub record IsMovedTo (p : Plain) (id : ConnId) (moved : MovedOffer) : Type 0 where
  pub row : Row
  pub given : Assignment
  pub other : NumberedServer
  pub row_is : row_at p.frontends id ≡ Some row
  pub offered : row.phase ≡ Offered given
  pub other_is : other_server p row given ≡ Some other
  pub offer_is : moved.offer ≡ offer_of other.number other.server given.judged
  pub version : moved.version ≡ row.version

pub moved_to : (p : Plain) (id : ConnId) (moved : MovedOffer) → HasOther p id (Some moved) → IsMovedTo p id moved
moved_to p id moved has = by (other_server p has.row has.given) refl
  where
    offer : NumberedServer → Offer
    offer other = offer_of other.number other.server has.given.judged

    by : (o : Option NumberedServer) → other_server p has.row has.given ≡ o → IsMovedTo p id moved
    by None none = absurd (let wrong : Some moved.offer ≡ None = has.other ∙ ap (option_map offer) none in cc)
    by (Some other) some =
        let it : Some moved.offer ≡ Some (offer other) = has.other ∙ ap (option_map offer) some in
        let same : moved.offer ≡ offer other = cc in
        record { row = has.row; given = has.given; other = other; row_is = has.row_is; offered = has.offered; other_is = some; offer_is = same; version = has.version }

pub moved_nowhere : (p : Plain) (id : ConnId) (has : HasOther p id None) → other_server p has.row has.given ≡ None
moved_nowhere p id has = by (other_server p has.row has.given) refl
  where
    by : (o : Option NumberedServer) → other_server p has.row has.given ≡ o → other_server p has.row has.given ≡ None
    by None none = none
    by (Some other) some =
        absurd (let wrong : None ≡ Some (offer_of other.number other.server has.given.judged) = has.other ∙ ap (option_map (λ (o : NumberedServer). offer_of o.number o.server has.given.judged)) some in cc)

-- the answers
pub answers_moved : (p : Plain) (moment : ℕ) (id : ConnId) (moved : MovedOffer) (is : IsMovedTo p id moved) → answer_in p moment (ConnectFailed id) ≡ Ok (reply_of (other_said id is.given is.other))
answers_moved p moment id moved is =
    failure_answers (at_moment moment p) id is.row is.given is.row_is is.offered ∙ ap (λ o. Ok (reply_of (failure_said id is.given o))) is.other_is

pub answers_closed : (p : Plain) (moment : ℕ) (id : ConnId) (has : HasOther p id None) → answer_in p moment (ConnectFailed id) ≡ Ok (reply_of (Closed id Failed))
answers_closed p moment id has =
    failure_answers (at_moment moment p) id has.row has.given has.row_is has.offered ∙ ap (λ o. Ok (reply_of (failure_said id has.given o))) (moved_nowhere p id has)

-- what is said, by the header of the other server
pub moved_said : (p : Plain) (id : ConnId) (moved : MovedOffer) (is : IsMovedTo p id moved) → said_by id 0 (outcomes.Offer moved.offer) ≡ other_said id is.given is.other
moved_said p id moved is = ap (λ offer. said_by id 0 (outcomes.Offer offer)) is.offer_is ∙ said_of_outcome id 0 is.given.judged (Ok is.other)

-- the version that judges the connection has the server
pub moved_has : (p : Plain) → IsCoreState p → (id : ConnId) (moved : MovedOffer) → IsMovedTo p id moved →
    (there : HasServer p.versions moved.version moved.offer.seat.line moved.offer.seat.server) × (there.server.to ≡ moved.offer.seat.to)
moved_has p known id moved is =
    let at : IsOther p is.row is.given is.other = other_is p is.row is.given is.other is.other_is in
    let offers : OffersWell (served_by p.frontends) (barred_for p.down is.given) at.version.plan (other_said id is.given is.other) =
    pick-offers (served_by p.frontends) (barred_for p.down is.given) at.version.plan at.number at.backend (cursor_at at.version.cursors at.number) is.given.judged.source.addr at.turn is.other
    at.among at.picked at.server_is in
    can_offer (served_by p.frontends) (barred_for p.down is.given) p.versions moved.version at.version id 0 (outcomes.Offer moved.offer) known.plans (ap (version_at p.versions) is.version ∙ at.of_accept)
    (subst (OffersWell (served_by p.frontends) (barred_for p.down is.given) at.version.plan) (sym (moved_said p id moved is)) offers)
