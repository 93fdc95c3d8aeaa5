-- Each client that comes to a listener, and each connection that waits, has its frontend in the version that judges it.
use Rattle.std.specs.Prelude.{ℕ, zero, suc, Bool, true, false, not, List, [], ◌∷◌, ◌++◌, map, filter, find, flat_map, is_some, length, max, slice_get, Option, Some, None, Ok, refl, ◌+◌, ◌≡◌, ◌⊎◌, ◌==◌, ◌&&◌, if◌then◌else◌}
use Rattle.std.specs.List.{list_any, list_all, enumerate_from}
use Rattle.std.specs.Str.{bytes_eq}
use Rattle.std.proofs.Common.{sym, ap, ◌∙◌, arith, inl, inr}
use Rattle.std.proofs.lemmas.Bool.{eqb-true}
use Rattle.pp_any.specs.declared.rest.Rest.{Rest}
use Rattle.plan_types.specs.declared.plan.Bind.{Bind}
use Rattle.plan_types.specs.declared.plan.Frontend.{Frontend}
use Rattle.plan_types.specs.declared.plan.Plan.{Plan}
use Rattle.plan_core.specs.Binds.{has_all_binds, has_bind, has_binds_of, has_named_bind, SameBinds}
use Rattle.plan_core.proofs.BindLemmas.{decides_bound}
use Rattle.conn_model.specs.declared.event.ConnId.{ConnId}
use Rattle.conn_model.specs.declared.event.OwnedEvent.{OwnedEvent}
use Rattle.conn_model.specs.declared.event.OwnedEvent.TheVariants.{Accept, Piece}
use Rattle.conn_model.specs.declared.reply.Reply.{Reply}
use Rattle.conn_model.specs.declared.plain.FrontendRows.{FrontendRows}
use Rattle.conn_model.specs.declared.plain.Listener.{Listener}
use Rattle.conn_model.specs.declared.plain.Plain.{Plain}
use Rattle.conn_model.specs.declared.plain.Row.{Row}
use Rattle.conn_model.specs.declared.plain.Version.{Version}
use Rattle.conn_model.specs.Words.{map_from, newest, row_at, row_in}
use Rattle.conn_model.specs.Rules.{Candidate}
use Rattle.conn_model.specs.Answer.{answer_in, at_moment, candidate_at, frontend_in, new_row, rest_in, version_at}
use Rattle.conn_model.specs.History.{after, arrival, arrival_of, arrivals as opened, frontend_after, has_ended, id_of, in_force, leaves_open, listeners_of, newest_number, now_of, opening, row_after, Entry, IsLegal}
use Rattle.conn_model.proofs.Lists.{all-found, get-from_zero}
use Rattle.conn_model.proofs.Replies.{accepted, admission-id, Accepted}
use Rattle.conn_model.proofs.Reloads.{binds_stay, row_version}
use Rattle.conn_model.proofs.TableSteps.{newest-all}
use Rattle.conn_model.proofs.Well.{history_well}
use Rattle.conn_laws.specs.Deciding.{Arrival, Waiter}

-- Places in lists.

nowhere : {X : Type 0} (n : ℕ) (x : X) → slice_get [] n ≡ Some x → ⊥
nowhere n x is = let wrong : None ≡ Some x = is in cc

at_either : {X : Type 0} (xs ys : List X) (n : ℕ) (x : X) → slice_get (xs ++ ys) n ≡ Some x → ((m : ℕ) × (slice_get xs m ≡ Some x)) ⊎ ((m : ℕ) × (slice_get ys m ≡ Some x))
at_either [] ys n x is = inr (n, is)
at_either (y ∷ xs) ys zero x is = inl (0, is)
at_either (y ∷ xs) ys (suc n) x is = by (at_either xs ys n x is)
  where
    by : ((m : ℕ) × (slice_get xs m ≡ Some x)) ⊎ ((m : ℕ) × (slice_get ys m ≡ Some x)) → ((m : ℕ) × (slice_get (y ∷ xs) m ≡ Some x)) ⊎ ((m : ℕ) × (slice_get ys m ≡ Some x))
    by (inl here) = inl (suc here.0, here.1)
    by (inr later) = inr later

at_mapped : {X Y : Type 0} (f : X → Y) (xs : List X) (n : ℕ) (y : Y) → slice_get (map f xs) n ≡ Some y → (x : X) × (slice_get xs n ≡ Some x) × (f x ≡ y)
at_mapped f [] n y is = absurd (nowhere n y is)
at_mapped f (x ∷ xs) zero y is = (x, refl, cc)
at_mapped f (x ∷ xs) (suc n) y is = at_mapped f xs n y is

pub at_numbered : {X : Type 0} (f : ℕ → X → X) (k : ℕ) (xs : List X) (n : ℕ) (y : X) → slice_get (map_from f k xs) n ≡ Some y → (x : X) × (slice_get xs n ≡ Some x) × (f (k + n) x ≡ y)
at_numbered f k [] n y is = absurd (nowhere n y is)
at_numbered f k (x ∷ xs) zero y is =
    let same : f k x ≡ y = cc in
    let number : k + 0 ≡ k = omega arith in
    (x, refl, ap (λ n. f n x) number ∙ same)
at_numbered f k (x ∷ xs) (suc n) y is =
    let rest = at_numbered f (k + 1) xs n y is in
    let number : k + suc n ≡ k + 1 + n = omega arith in
    (rest.0, rest.1, ap (λ n. f n rest.0) number ∙ rest.2)

at_number : {X : Type 0} (f : ℕ → X → X) (xs : List X) (n : ℕ) (y : X) → slice_get (map_from f 0 xs) n ≡ Some y → (x : X) × (slice_get xs n ≡ Some x) × (f n x ≡ y)
at_number f xs n y is =
    let found = at_numbered f 0 xs n y is in
    let number : n ≡ 0 + n = omega arith in
    (found.0, found.1, ap (λ m. f m found.0) number ∙ found.2)

each_passes : {X : Type 0} (test : X → Bool) (xs : List X) (n : ℕ) (x : X) → list_all test xs ≡ true → slice_get xs n ≡ Some x → test x ≡ true
each_passes test [] n x all is = absurd (nowhere n x is)
each_passes {X} test (y ∷ xs) n x all is = by (test y) refl all n is (λ m rest there. each_passes test xs m x rest there)
  where
    by : (b : Bool) → test y ≡ b → list_all test (y ∷ xs) ≡ true → (n : ℕ) → slice_get (y ∷ xs) n ≡ Some x → ((m : ℕ) → list_all test xs ≡ true → slice_get xs m ≡ Some x → test x ≡ true) → test x ≡ true
    by true e all zero is more = let same : y ≡ x = cc in ap test (sym same) ∙ e
    by true e all (suc n) is more = more n (rw e at all) is
    by false e all n is more = absurd (let wrong : false ≡ true = rw e at all in cc)

-- The frontends of an opening.

-- a frontend that has a bind
record HasBind (frontends : List Frontend) (number : ℕ) : Type 0 where
  frontend : Frontend
  place : ℕ
  bind : Bind
  there : slice_get frontends number ≡ Some frontend
  bound : slice_get frontend.binds place ≡ Some bind

-- the frontend of a listener is there, and has its bind
record IsOfBind (frontends : List Frontend) (first : ℕ) (at : Listener) : Type 0 where
  number : ℕ
  number_is : at.frontend ≡ first + number
  has : HasBind frontends number

listener_bound : (first : ℕ) (frontends : List Frontend) (n : ℕ) (at : Listener) → slice_get (flat_map listeners_of (enumerate_from first frontends)) n ≡ Some at → IsOfBind frontends first at
listener_bound first [] n at is = absurd (nowhere n at is)
listener_bound first (f ∷ frontends) n at is = by (at_either (listeners_of (first, f)) (flat_map listeners_of (enumerate_from (first + 1) frontends)) n at is) (λ m there. listener_bound (first + 1) frontends m at there)
  where
    here : (m : ℕ) → slice_get (listeners_of (first, f)) m ≡ Some at → IsOfBind (f ∷ frontends) first at
    here m there =
        let found = at_mapped (λ (bind : Bind). record { frontend = first; at = bind.at; accept_proxy = bind.accept_proxy }) f.binds m at there in
        let own : first ≡ at.frontend = ap (λ (l : Listener). l.frontend) found.2 in
        record { number = 0; number_is = omega (arith, own); has = record { frontend = f; place = m; bind = found.0; there = refl; bound = found.1 } }

    later : IsOfBind frontends (first + 1) at → IsOfBind (f ∷ frontends) first at
    later of_bind =
        let own : at.frontend ≡ first + 1 + of_bind.number = of_bind.number_is in
        record {
          number = suc of_bind.number;
          number_is = omega (arith, own);
          has = record { frontend = of_bind.has.frontend; place = of_bind.has.place; bind = of_bind.has.bind; there = of_bind.has.there; bound = of_bind.has.bound };
        }

    by : ((m : ℕ) × (slice_get (listeners_of (first, f)) m ≡ Some at)) ⊎ ((m : ℕ) × (slice_get (flat_map listeners_of (enumerate_from (first + 1) frontends)) m ≡ Some at)) →
        ((m : ℕ) → slice_get (flat_map listeners_of (enumerate_from (first + 1) frontends)) m ≡ Some at → IsOfBind frontends (first + 1) at) → IsOfBind (f ∷ frontends) first at
    by (inl found) more = here found.0 found.1
    by (inr found) more = later (more found.0 found.1)

-- the frontend of each listener of an opening
opening_bound : (plan : Plan) (last listener : ℕ) (at : Listener) → slice_get (opening plan last).listeners listener ≡ Some at → HasBind plan.frontends at.frontend
opening_bound plan last listener at is =
    let of_bind = listener_bound 0 plan.frontends listener at is in
    let own : at.frontend ≡ 0 + of_bind.number = of_bind.number_is in
    let same : of_bind.number ≡ at.frontend = omega (arith, own) in
    record { frontend = of_bind.has.frontend; place = of_bind.has.place; bind = of_bind.has.bind; there = ap (slice_get plan.frontends) (sym same) ∙ of_bind.has.there; bound = of_bind.has.bound }

-- Versions that bind the same.

named_frontend : (name : List ℕ) (bind : Bind) (frontends : List Frontend) → list_any (has_bind name bind) frontends ≡ true →
    (frontend : Frontend) × (find (λ (f : Frontend). bytes_eq f.name name) frontends ≡ Some frontend)
named_frontend name bind [] is = absurd (let wrong : false ≡ true = is in cc)
named_frontend name bind (f ∷ frontends) is = by (bytes_eq f.name name) refl is (λ rest. named_frontend name bind frontends rest)
  where
    by : (b : Bool) → bytes_eq f.name name ≡ b → list_any (has_bind name bind) (f ∷ frontends) ≡ true →
        (list_any (has_bind name bind) frontends ≡ true → (frontend : Frontend) × (find (λ (f : Frontend). bytes_eq f.name name) frontends ≡ Some frontend)) →
        (frontend : Frontend) × (find (λ (f : Frontend). bytes_eq f.name name) (f ∷ frontends) ≡ Some frontend)
    by true e is more = (f, rw e refl)
    by false e is more = let rest = more (rw e at is) in (rest.0, rw e rest.1)

frontend_stays : (first next : Plan) → SameBinds first next → (number : ℕ) → (has : HasBind first.frontends number) → (frontend : Frontend) × (frontend_in next has.frontend.name ≡ Some frontend)
frontend_stays first next same number has =
    let all : has_all_binds next first ≡ true = (decides_bound next first).1 (λ bound is. (same bound).0 is) in
    let own : has_binds_of next has.frontend ≡ true = each_passes (has_binds_of next) first.frontends number has.frontend all has.there in
    let one : has_named_bind next has.frontend.name has.bind ≡ true = each_passes (has_named_bind next has.frontend.name) has.frontend.binds has.place has.bind own has.bound in
    named_frontend has.frontend.name has.bind next.frontends one

-- After a legal history.

-- the rows of a frontend as it opens
abbrev opening_rows : ℕ → Frontend → FrontendRows
opening_rows last frontend = record { name = frontend.name; serial = last; rows = [] }

at_opening : (last : ℕ) (frontends : List Frontend) (n : ℕ) (frontend : Frontend) → slice_get frontends n ≡ Some frontend → slice_get (map (opening_rows last) frontends) n ≡ Some (opening_rows last frontend)
at_opening last [] n frontend is = absurd (nowhere n frontend is)
at_opening last (f ∷ frontends) zero frontend is = let same : f ≡ frontend = cc in ap (λ f. Some (opening_rows last f)) same
at_opening last (f ∷ frontends) (suc n) frontend is = at_opening last frontends n frontend is

-- a frontend after the history
frontend_there : (plan : Plan) (last : ℕ) (h : List Entry) (number : ℕ) (frontend : Frontend) → slice_get plan.frontends number ≡ Some frontend →
    slice_get (after (opening plan last) h).frontends number ≡ Some (frontend_after (opening plan last) h number (opening_rows last frontend))
frontend_there plan last h number frontend is =
    get-from_zero (frontend_after (opening plan last) h) (opening plan last).frontends number (opening_rows last frontend) (at_opening last plan.frontends number frontend is)

pub arrivals : (plan : Plan) (last : ℕ) (h : List Entry) → IsLegal (opening plan last) h → (listener : ℕ) (at : Listener) →
    slice_get (after (opening plan last) h).listeners listener ≡ Some at → Arrival (after (opening plan last) h) listener
arrivals plan last h legal listener at is = by (newest q.versions) refl
  where
    q : Plain
    q = after (opening plan last) h

    has : HasBind plan.frontends at.frontend
    has = opening_bound plan last listener at is

    by : (o : Option Version) → newest q.versions ≡ o → Arrival q listener
    by None none = absurd (let last_is = (history_well plan last h legal).last in let wrong : false ≡ true = rw none at last_is in cc)
    by (Some version) in_force =
        let same : SameBinds plan version.plan = newest-all (λ version. SameBinds plan version.plan) q.versions version (binds_stay plan last h legal) in_force in
        let kept = frontend_stays plan version.plan same at.frontend has in
        record {
          at = at;
          own = frontend_after (opening plan last) h at.frontend (opening_rows last has.frontend);
          version = version;
          frontend = kept.0;
          listens = is;
          there = frontend_there plan last h at.frontend has.frontend has.there;
          in_force = in_force;
          found = kept.1;
        }

-- Rows came to a listener.

record CameBy (listeners : List Listener) (number : ℕ) : Type 0 where
  listener : ℕ
  at : Listener
  listens : slice_get listeners listener ≡ Some at
  number_is : at.frontend ≡ number

opened_at : (q : Plain) (moment number clock version : ℕ) (event : OwnedEvent) (reply : Reply) → answer_in q moment event ≡ Ok reply → (n : ℕ) (row : Row) →
    slice_get (arrival number clock version event reply.said) n ≡ Some row → CameBy q.listeners number
opened_at q moment number clock version (Accept listener real) reply is n row there = by (leaves_open reply.said) (got.at.frontend == number) refl (ap (λ o. slice_get (arrival_of number clock version real reply.said o) n) (sym speaks) ∙ there)
  where
    got : Accepted (at_moment moment q) (max q.clock moment) listener real reply
    got = accepted (at_moment moment q) (max q.clock moment) listener real reply is

    candidate : Candidate
    candidate = candidate_at (at_moment moment q) (max q.clock moment) got.at.frontend real got.own got.version got.frontend

    speaks : id_of reply.said ≡ Some candidate.id
    speaks = ap (λ (r : Reply). id_of r.said) (sym got.reply_is) ∙ admission-id candidate got.at.accept_proxy real (length got.own.rows)

    by : (a b : Bool) → (got.at.frontend == number) ≡ b → slice_get (if a && b then new_row candidate.id.serial version real clock ∷ [] else []) n ≡ Some row → CameBy q.listeners number
    by true true e now = record { listener = listener; at = got.at; listens = got.listens; number_is = eqb-true got.at.frontend number e }
    by true false e now = absurd (nowhere n row now)
    by false b e now = absurd (nowhere n row now)
opened_at q moment number clock version (Piece id bytes) reply is n row there = absurd (nowhere n row there)
opened_at q moment number clock version event reply is n row there = absurd (nowhere n row there)

came_by : (p : Plain) (h : List Entry) → IsLegal p h → (number n : ℕ) (row : Row) → slice_get (opened p number h) n ≡ Some row → CameBy p.listeners number
came_by p [] legal number n row is = absurd (nowhere n row is)
came_by p (e ∷ h) legal number n row is =
    by (at_either (opened p number h) (arrival number (now_of p.clock (e ∷ h)) (in_force (newest_number p) h) e.event e.reply.said) n row is) (λ m there. came_by p h legal.0 number m row there)
  where
    by : ((m : ℕ) × (slice_get (opened p number h) m ≡ Some row)) ⊎ ((m : ℕ) × (slice_get (arrival number (now_of p.clock (e ∷ h)) (in_force (newest_number p) h) e.event e.reply.said) m ≡ Some row)) →
        ((m : ℕ) → slice_get (opened p number h) m ≡ Some row → CameBy p.listeners number) → CameBy p.listeners number
    by (inl before) more = more before.0 before.1
    by (inr now) more = opened_at (after p h) e.moment number (now_of p.clock (e ∷ h)) (in_force (newest_number p) h) e.event e.reply legal.1 now.0 row now.1

-- a row that is found was opened
row_came : (p : Plain) (h : List Entry) → IsLegal p h → (number serial : ℕ) (row : Row) →
    find (λ (r : Row). r.serial == serial) (map (row_after p number h) (filter (λ (r : Row). not (has_ended number h r.serial)) (opened p number h))) ≡ Some row → CameBy p.listeners number
row_came p h legal number serial row is = by (opened p number h) refl is
  where
    by : (rows : List Row) → opened p number h ≡ rows → find (λ (r : Row). r.serial == serial) (map (row_after p number h) (filter (λ (r : Row). not (has_ended number h r.serial)) rows)) ≡ Some row →
        CameBy p.listeners number
    by [] all found = absurd (let wrong : None ≡ Some row = found in cc)
    by (r ∷ rows) all found = came_by p h legal number 0 r (ap (λ rows. slice_get rows 0) all)

-- the frontend of an open connection has a bind
row_bound : (plan : Plan) (last : ℕ) (h : List Entry) → IsLegal (opening plan last) h → (id : ConnId) (row : Row) (own : FrontendRows) →
    slice_get (after (opening plan last) h).frontends id.frontend ≡ Some own → row_in id.serial (Some own) ≡ Some row → HasBind plan.frontends id.frontend
row_bound plan last h legal id row own there is =
    let p : Plain = opening plan last in
    let one = at_number (frontend_after p h) p.frontends id.frontend own there in
    let two = at_mapped (opening_rows last) plan.frontends id.frontend one.0 one.1 in
    let own_is : frontend_after p h id.frontend (opening_rows last two.0) ≡ own = ap (frontend_after p h id.frontend) two.2 ∙ one.2 in
    let came : CameBy p.listeners id.frontend = row_came p h legal id.frontend id.serial row (ap (λ (own : FrontendRows). find (λ (r : Row). r.serial == id.serial) own.rows) own_is ∙ is) in
    let has : HasBind plan.frontends came.at.frontend = opening_bound plan last came.listener came.at came.listens in
    record { frontend = has.frontend; place = has.place; bind = has.bind; there = ap (slice_get plan.frontends) (sym came.number_is) ∙ has.there; bound = has.bound }

pub waiters : (plan : Plan) (last : ℕ) (h : List Entry) → IsLegal (opening plan last) h → (id : ConnId) (row : Row) (rest : Rest) →
    row_at (after (opening plan last) h).frontends id ≡ Some row → rest_in row.phase ≡ Some rest → Waiter (after (opening plan last) h) id
waiters plan last h legal id row rest row_is waits = by (slice_get q.frontends id.frontend) refl (version_at q.versions row.version) refl row_is
  where
    q : Plain
    q = after (opening plan last) h

    by : (o : Option FrontendRows) → slice_get q.frontends id.frontend ≡ o → (v : Option Version) → version_at q.versions row.version ≡ v → row_in id.serial o ≡ Some row → Waiter q id
    by None none v of_accept found = absurd (let wrong : None ≡ Some row = found in cc)
    by (Some own) there None none found = absurd (let kept = row_version plan last h legal id row row_is in let wrong : false ≡ true = rw none at kept in cc)
    by (Some own) there (Some version) of_accept found =
        let has : HasBind plan.frontends id.frontend = row_bound plan last h legal id row own there found in
        let same : SameBinds plan version.plan = (all-found (λ version. SameBinds plan version.plan) (λ version. version.number == row.version) q.versions version (binds_stay plan last h legal) of_accept).0 in
        let kept = frontend_stays plan version.plan same id.frontend has in
        record {
          row = row;
          rest = rest;
          own = frontend_after (opening plan last) h id.frontend (opening_rows last has.frontend);
          version = version;
          frontend = kept.0;
          row_is = row_is;
          waits = waits;
          there = frontend_there plan last h id.frontend has.frontend has.there;
          of_accept = of_accept;
          found = kept.1;
        }

-- the same of one whose phase is known to be that
pub waits_there : (plan : Plan) (last : ℕ) (h : List Entry) → IsLegal (opening plan last) h → (id : ConnId) (row : Row) →
    row_at (after (opening plan last) h).frontends id ≡ Some row → is_some (rest_in row.phase) ≡ true → Waiter (after (opening plan last) h) id
waits_there plan last h legal id row row_is waits = by (rest_in row.phase) refl waits
  where
    by : (o : Option Rest) → rest_in row.phase ≡ o → is_some o ≡ true → Waiter (after (opening plan last) h) id
    by None is now = absurd (let wrong : false ≡ true = now in cc)
    by (Some rest) is now = waiters plan last h legal id row rest row_is is
