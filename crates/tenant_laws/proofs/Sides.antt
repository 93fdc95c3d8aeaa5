-- On which side an event is, and the backends of what it offers.
use Rattle.std.specs.Prelude.{ℕ, zero, suc, Bool, true, false, not, List, find, position, slice_get, Option, Some, None, option_map, refl, ◌≡◌, ◌==◌, ◌∷◌, []}
use Rattle.std.specs.Option.{option_map_or}
use Rattle.std.proofs.Common.{sym, ap, ◌∙◌}
use Rattle.std.proofs.lemmas.Bool.{eq-eqb}
use Rattle.proxy_types.specs.declared.server.ServerIdentity.{ServerIdentity}
use Rattle.plan_types.specs.Lines.{has_line, LinesDiffer}
use Rattle.plan_types.specs.declared.plan.Backend.{Backend}
use Rattle.plan_types.specs.declared.plan.Plan.{Plan}
use Rattle.plan_types.specs.declared.plan.Server.{Server}
use Rattle.conn_model.specs.declared.event.Health.{Health}
use Rattle.conn_model.specs.declared.event.OwnedEvent.{OwnedEvent}
use Rattle.conn_model.specs.declared.event.OwnedEvent.TheVariants.{Accept, Piece, Connected, ConnectFailed, Close, Expire, Reload, Mark}
use Rattle.conn_model.specs.declared.plain.Phase.{Phase}
use Rattle.conn_model.specs.declared.plain.Phase.TheVariants.{Waiting, Offered, Up}
use Rattle.conn_model.specs.declared.plain.Plain.{Plain}
use Rattle.conn_model.specs.declared.reply.Said.{Said}
use Rattle.conn_model.specs.declared.reply.Said.TheVariants as saids
use Rattle.conn_model.specs.declared.reply.Said.TheVariants.{Wait, Offer}
use Rattle.conn_model.specs.Answer.{backend_at, numbered_server, NumberedServer}
use Rattle.conn_model.specs.Counts.{newest_backend, server_of}
use Rattle.conn_model.specs.History.{identity_at, identity_of, nobody, phase_by, phase_on, phase_up, piece_of}
use Rattle.conn_model.proofs.Lists.{any-at}
use Rattle.tenant_laws.specs.Parts.{is_side, owns_backend_at, Part}
use Rattle.tenant_laws.specs.Runs.{frontend_of, side_of}
use Rattle.tenant_laws.proofs.Lists.{nothing, of_not, some_same}
use Rattle.tenant_laws.proofs.Judging.{IsOfferOn}

-- What is on a side.

pub of_side : (side owned : Bool) → is_side side owned ≡ true → owned ≡ side
of_side true owned is = is
of_side false owned is = of_not owned is

pub is_on_side : (side owned : Bool) → owned ≡ side → is_side side owned ≡ true
is_on_side true owned is = is
is_on_side false owned is = ap not is

-- an event on a side is on a frontend of it, or reports a server of a backend of it
pub data OnSide (part : Part) (side : Bool) (p : Plain) (event : OwnedEvent) : Type 0 where
  by_frontend : (n : ℕ) → frontend_of p.listeners event ≡ Some n → part.frontends n ≡ side → OnSide part side p event
  by_mark : (number n : ℕ) (health : Health) (backend : Backend) → event ≡ Mark number n health → newest_backend p.versions number ≡ Some backend → part.backend_names backend.name ≡ side →
      OnSide part side p event

frontend-on : (part : Part) (side : Bool) (p : Plain) (event : OwnedEvent) (o : Option ℕ) → frontend_of p.listeners event ≡ o → option_map part.frontends o ≡ Some side → OnSide part side p event
frontend-on part side p event None on is = nothing is
frontend-on part side p event (Some n) on is = by_frontend n on (some_same is)

pub on_side : (part : Part) (side : Bool) (p : Plain) (event : OwnedEvent) → side_of part p event ≡ Some side → OnSide part side p event
on_side part side p (Accept listener real) is = frontend-on part side p (Accept listener real) (frontend_of p.listeners (Accept listener real)) refl is
on_side part side p (Piece id bytes) is = frontend-on part side p (Piece id bytes) (Some id.frontend) refl is
on_side part side p (Connected id) is = frontend-on part side p (Connected id) (Some id.frontend) refl is
on_side part side p (ConnectFailed id) is = frontend-on part side p (ConnectFailed id) (Some id.frontend) refl is
on_side part side p (Close id why) is = frontend-on part side p (Close id why) (Some id.frontend) refl is
on_side part side p (Expire id) is = frontend-on part side p (Expire id) (Some id.frontend) refl is
on_side part side p (Reload text) is = nothing is
on_side part side p (Mark number n health) is = by (newest_backend p.versions number) refl is
  where
    by : (o : Option Backend) → newest_backend p.versions number ≡ o → option_map (λ (backend : Backend). part.backend_names backend.name) o ≡ Some side → OnSide part side p (Mark number n health)
    by None there owned = nothing owned
    by (Some backend) there owned = by_mark number n health backend refl there (some_same owned)

-- The backend of an offer.

first-there : {X : Type 0} (test : X → Bool) (xs : List X) (k : ℕ) (x : X) → slice_get xs k ≡ Some x → test x ≡ true → (y : X) × (i : ℕ) × (find test xs ≡ Some y) × (slice_get xs i ≡ Some y) × (test y ≡ true)
first-there test [] k x there is = nothing there
first-there {X} test (z ∷ xs) zero x there is = let same : z ≡ x = some_same there in let passes : test z ≡ true = ap test same ∙ is in (z, 0, rw passes refl, refl, passes)
first-there {X} test (z ∷ xs) (suc k) x there is = by (test z) refl (first-there test xs k x there is)
  where
    by : (b : Bool) → test z ≡ b → (y : X) × (i : ℕ) × (find test xs ≡ Some y) × (slice_get xs i ≡ Some y) × (test y ≡ true) →
        (y : X) × (i : ℕ) × (find test (z ∷ xs) ≡ Some y) × (slice_get (z ∷ xs) i ≡ Some y) × (test y ≡ true)
    by true e later = (z, 0, rw e refl, refl, e)
    by false e later = (later.0, suc later.1, rw e later.2, later.3, later.4)

-- it is the one that has the server's line
pub backend-of : (plan : Plan) → LinesDiffer plan → (k n line : ℕ) (backend : Backend) (server : Server) → slice_get plan.backends k ≡ Some backend → slice_get backend.servers n ≡ Some server → server.line ≡ line →
    find (has_line line) plan.backends ≡ Some backend
backend-of plan differ k n line backend server there found is =
    let has : has_line line backend ≡ true = any-at (λ (s : Server). s.line == line) backend.servers n server found (eq-eqb server.line line is) in
    let first = first-there (has_line line) plan.backends k backend there has in
    let same : first.0 ≡ backend = differ line first.1 k first.0 backend first.3 there first.4 has in
    first.2 ∙ ap Some same

-- the backend of a line has its number
pub line-found : (plan : Plan) (line number : ℕ) (backend : Backend) → backend_at plan line ≡ Some (number, backend) → (position (has_line line) plan.backends ≡ Some number) × (slice_get plan.backends number ≡ Some backend)
line-found plan line number backend is = by (position (has_line line) plan.backends) refl
  where
    at : (k : ℕ) → position (has_line line) plan.backends ≡ Some k → (o : Option Backend) → slice_get plan.backends k ≡ o → option_map {U = ℕ × Backend} (λ backend. (k, backend)) o ≡ Some (number, backend) →
        (position (has_line line) plan.backends ≡ Some number) × (slice_get plan.backends number ≡ Some backend)
    at k first None there e = nothing e
    at k first (Some other) there e =
        let same : (k, other) ≡ (number, backend) = some_same e in
        let place : k ≡ number = ap (λ (pair : ℕ × Backend). pair.0) same in
        let own : other ≡ backend = ap (λ (pair : ℕ × Backend). pair.1) same in
        (first ∙ ap Some place, ap (slice_get plan.backends) (sym place) ∙ there ∙ ap Some own)

    by : (o : Option ℕ) → position (has_line line) plan.backends ≡ o → (position (has_line line) plan.backends ≡ Some number) × (slice_get plan.backends number ≡ Some backend)
    by None e = nothing (rw e at is)
    by (Some k) e = at k e (slice_get plan.backends k) refl (rw e at is)

-- and a server with its number is one of its backend
pub server-found : (backend : Backend) (n : ℕ) (given : NumberedServer) → numbered_server backend n ≡ Some given → slice_get backend.servers given.number ≡ Some given.server
server-found backend n given is = by (slice_get backend.servers n) refl
  where
    by : (o : Option Server) → slice_get backend.servers n ≡ o → slice_get backend.servers given.number ≡ Some given.server
    by None e = nothing (rw e at is)
    by (Some server) e =
        let same : record { number = n; server = server } ≡ given = some_same (rw e at is) in
        ap (slice_get backend.servers) (sym (ap (λ (g : NumberedServer). g.number) same)) ∙ e ∙ ap (λ (g : NumberedServer). Some g.server) same

-- The phase of a connection on a side.

-- where it was offered a server, that is one of a backend on the side
abbrev pub IsPhaseOn : Part → Bool → Phase → Type 0
IsPhaseOn part side phase = option_map_or (λ (server : ServerIdentity). part.backend_names server.backend) (server_of phase) side ≡ side

-- and so it is once that is said to it
pub phase-side : (part : Part) (side : Bool) (plan : Option Plan) (own : Plan) → plan ≡ Some own → LinesDiffer own → (event : OwnedEvent) (phase : Phase) (said : Said) → IsPhaseOn part side phase →
    IsOfferOn part side own said → IsPhaseOn part side (phase_by plan event said phase)
phase-side part side plan own same differ event phase (Wait id used) is offered = by phase is
  where
    by : (phase : Phase) → IsPhaseOn part side phase → IsPhaseOn part side (phase_on (piece_of event) phase)
    by (Waiting rest) is = refl
    by (Offered assignment) is = is
    by (Up assignment) is = is
phase-side part side plan own same differ event phase (saids.Up id) is offered = by phase is
  where
    by : (phase : Phase) → IsPhaseOn part side phase → IsPhaseOn part side (phase_up phase)
    by (Waiting rest) is = refl
    by (Offered assignment) is = is
    by (Up assignment) is = is
phase-side part side plan own same differ event phase (Offer id used line server to pair send) is offered =
    let backend : Backend = offered.1 in
    let found : find (has_line line) own.backends ≡ Some backend = backend-of own differ offered.0 server line backend offered.2 offered.3 offered.4 offered.5 in
    let owned : owns_backend_at part own offered.0 ≡ side = of_side side (owns_backend_at part own offered.0) offered.6 in
    let there : slice_get own.backends offered.0 ≡ Some backend = offered.3 in
    let named : part.backend_names backend.name ≡ side = sym (ap (λ (o : Option Backend). option_map_or (λ backend. part.backend_names backend.name) o false) there) ∙ owned in
    ap (λ o. part.backend_names (identity_of o line server to).backend) same
    ∙ ap (λ o. part.backend_names (option_map_or (identity_at server to) o (nobody to)).backend) found ∙ named
phase-side part side plan own same differ event phase said is offered = is
