-- A balancer that has just opened a configuration, and its first connection.
use Rattle.std.proofs.Common.{◌≡◌, ◌≢◌, ℕ, zero, suc, ◌+◌, ◌*◌, ◌<◌, ◌≤◌, Bool, true, false, List, [], ◌∷◌, ◌++◌, length, Option, Some, None, Result, Ok, Err, IsOk, refl, ◌∙◌, sym, ap, subst, arith, get_or, inl, inr}
use Rattle.std.specs.Prelude.{slice_get, slice_set, map, find, flat_map, nat_lt, IsErr}
use Rattle.std.specs.List.{enumerate_from, position, position_or_len, AllByRecursion}
use Rattle.std.specs.Str.{bytes_eq}
use Rattle.std.proofs.lemmas.Bool.{eq-eqb}
use Rattle.std.proofs.lemmas.Bool.Decides.{nat_tests}
use Rattle.std.proofs.lemmas.List.{length-append, length-map}
use Rattle.std.proofs.lemmas.List.Folds.{find_at}
use Rattle.std.proofs.lemmas.List.Quantifiers.{position-Some}
use Rattle.std.proofs.lemmas.Option.{slice_get-get_or, slice_get_past}
use Rattle.addr_core.specs.PairValue.{PairValue}
use Rattle.pp_any.specs.declared.rest.Rest.TheVariants.{Read}
use Rattle.proxy_types.specs.declared.limits.TheConstants.{MOST_BINDS}
use Rattle.plan_types.specs.Sound.{IsSoundFrontend, IsSoundPlan, IsWithin}
use Rattle.plan_types.specs.declared.plan.Bind.{Bind}
use Rattle.plan_types.specs.declared.plan.Frontend.{Frontend}
use Rattle.plan_types.specs.declared.plan.Plan.{Plan}
use Rattle.conn_model.specs.declared.event.ConnId.{ConnId}
use Rattle.conn_model.specs.declared.event.OwnedEvent.{OwnedEvent}
use Rattle.conn_model.specs.declared.event.OwnedEvent.TheVariants.{Accept, Piece}
use Rattle.conn_model.specs.declared.plain.FrontendRows.{FrontendRows}
use Rattle.conn_model.specs.declared.plain.Listener.{Listener}
use Rattle.conn_model.specs.declared.plain.Plain.{Plain}
use Rattle.conn_model.specs.declared.plain.Row.{Row}
use Rattle.conn_model.specs.declared.reply.Reply.{Reply}
use Rattle.conn_model.specs.declared.reply.Said.{Said}
use Rattle.conn_model.specs.declared.reply.Said.TheVariants as saids
use Rattle.conn_model.specs.declared.reply.StepFault.{StepFault}
use Rattle.conn_model.specs.declared.reply.StepFault.TheVariants.{NoMemory}
use Rattle.conn_model.specs.Answer.{admission, answer_in, at_moment, candidate_at, frontend_in, new_row, row_at, row_in}
use Rattle.conn_model.specs.History.{after, by_counter, entry, id_of, listeners_of, newest_number, opening, tables_passed, with_said, IsFault, IsLegal}
use Rattle.conn_model.proofs.Lists.{all-more}
use Rattle.conn_model.proofs.Replies.{accepted, admission-id, Accepted}
use Rattle.conn_model.proofs.Steps.{after-accept, rows_left}
use Rattle.conn_model.proofs.Well.{after-nil, opening_well}
use Rattle.list_core.proofs.PlaceLemmas.{get-set}
use Rattle.conn_laws.specs.Deciding.{Arrival, IsJudged, Waiter}
use Rattle.conn_laws.proofs.Judged.{accept_judged, piece_judged}
use Rattle.conn_laws.proofs.Present.{arrivals, waiters}
use Rattle.explain_core.specs.Explained.{waiting_in}
use Rattle.explain_core.specs.Listeners.{HasNone, IsBest, Takes}

-- Listeners.

abbrev all_listeners : ℕ → List Frontend → List Listener
all_listeners s frontends = flat_map listeners_of (enumerate_from s frontends)

abbrev HasBinds : List Frontend → Type 0
HasBinds frontends = AllByRecursion (λ (f : Frontend). IsWithin MOST_BINDS (length f.binds)) frontends

get-beyond : {X : Type 0} (xs ys : List X) (n : ℕ) (y : X) → slice_get ys n ≡ Some y → (m : ℕ) × (slice_get (xs ++ ys) m ≡ Some y)
get-beyond [] ys n y is = (n, is)
get-beyond (x ∷ xs) ys n y is = let rest = get-beyond xs ys n y is in (suc rest.0, rest.1)

record IsListener (listeners : List Listener) (number : ℕ) : Type 0 where
  place : ℕ
  at : Listener
  there : slice_get listeners place ≡ Some at
  of : at.frontend ≡ number

listener_there : (s n : ℕ) (frontends : List Frontend) → HasBinds frontends → n < length frontends → IsListener (all_listeners s frontends) (s + n)
listener_there s n [] bound less = absurd (omega (arith, less))
listener_there s zero (f ∷ frontends) bound less = by f.binds bound.0
  where
    by : (binds : List Bind) → IsWithin MOST_BINDS (length binds) →
        IsListener (map (λ (bind : Bind). record { frontend = s; at = bind.at; accept_proxy = bind.accept_proxy }) binds ++ all_listeners (s + 1) frontends) (s + 0)
    by [] within = absurd (omega (arith, within.0))
    by (bind ∷ binds) within = record { place = 0; at = record { frontend = s; at = bind.at; accept_proxy = bind.accept_proxy }; there = refl; of = omega arith }
listener_there s (suc n) (f ∷ frontends) bound less =
    let rest = listener_there (s + 1) n frontends bound.1 (omega (arith, less)) in
    let beyond = get-beyond (listeners_of (s, f)) (all_listeners (s + 1) frontends) rest.place rest.at rest.there in
    let next = rest.of in
    record { place = beyond.0; at = rest.at; there = beyond.1; of = omega (arith, next) }

bound_of : (plan : Plan) → IsSoundPlan plan → HasBinds plan.frontends
bound_of plan sound = all-more (IsSoundFrontend (length plan.tables) (length plan.backends)) (λ f. IsWithin MOST_BINDS (length f.binds)) plan.frontends (λ f known. known.binds) sound.each_frontend

-- each frontend has a listener
pub some_listener : (plan : Plan) → IsSoundPlan plan → (number : ℕ) → number < length plan.frontends →
    ((other : ℕ) (listener : Listener) → slice_get (opening plan 0).listeners other ≡ Some listener → listener.frontend ≢ number) → ⊥
some_listener plan sound number less none =
    let found = listener_there 0 number plan.frontends (bound_of plan sound) less in
    let is = found.of in
    none found.place found.at found.there (omega (arith, is))

listeners_few : (s : ℕ) (frontends : List Frontend) → HasBinds frontends → length (all_listeners s frontends) ≤ 64 * length frontends
listeners_few s [] bound = omega arith
listeners_few s (f ∷ frontends) bound =
    let rest = listeners_few (s + 1) frontends bound.1 in
    let own : length (listeners_of (s, f)) ≡ length f.binds = length-map f.binds (λ (bind : Bind). record { frontend = s; at = bind.at; accept_proxy = bind.accept_proxy }) in
    let both = length-append (listeners_of (s, f)) (all_listeners (s + 1) frontends) in
    let most = bound.0.1 in
    omega (arith, rest, own, both, most)

-- their numbers have 16 bits
pub few_listeners : (plan : Plan) → IsSoundPlan plan → length (opening plan 0).listeners ≤ 4096
few_listeners plan sound = let few = listeners_few 0 plan.frontends (bound_of plan sound) in let most = sound.frontends in omega (arith, few, most)

-- Frontends by name.

abbrev rows_of : Frontend → FrontendRows
rows_of frontend = record { name = frontend.name; serial = 0; rows = [] }

named-rows : (name : List ℕ) (frontends : List Frontend) → find (λ (own : FrontendRows). bytes_eq own.name name) (map rows_of frontends) ≡ None → find (λ (f : Frontend). bytes_eq f.name name) frontends ≡ None
named-rows name [] none = refl
named-rows name (f ∷ frontends) none = by (bytes_eq f.name name) refl none (named-rows name frontends)
  where
    by : (b : Bool) → bytes_eq f.name name ≡ b → find (λ (own : FrontendRows). bytes_eq own.name name) (map rows_of (f ∷ frontends)) ≡ None →
        (find (λ (own : FrontendRows). bytes_eq own.name name) (map rows_of frontends) ≡ None → find (λ (f : Frontend). bytes_eq f.name name) frontends ≡ None) →
        find (λ (f : Frontend). bytes_eq f.name name) (f ∷ frontends) ≡ None
    by true is now rest = absurd (let wrong : Some (rows_of f) ≡ None = rw is at now in cc)
    by false is now rest = rw is (rest (rw is at now))

-- An accept.

-- an answer that is there is none that is a fault
pub no_fault : {X : Type 0} (r : Result X StepFault) → IsOk r → IsErr r → ⊥
no_fault (Ok x) ok err = let wrong : false ≡ true = err in cc
no_fault (Err fault) ok err = let wrong : false ≡ true = ok in cc

pub is_ok : {X : Type 0} (r : Result X StepFault) (x : X) → r ≡ Ok x → IsOk r
is_ok r x is = rw is refl

-- where there is a reply, want of memory is the only fault
pub lacks_memory : (event : OwnedEvent) (answer : Result Reply StepFault) (fault : StepFault) → IsOk answer → IsFault event answer fault → fault ≡ NoMemory
lacks_memory event answer fault ok (inr known) = known.0
lacks_memory event answer fault ok (inl wrong) = absurd (let no : false ≡ true = rw wrong at ok in cc)

unused : (frontends : List Frontend) (n : ℕ) (own : FrontendRows) → slice_get (map rows_of frontends) n ≡ Some own → (own.serial ≡ 0) × (own.rows ≡ [])
unused [] n own there = absurd (let wrong : None ≡ Some own = there in cc)
unused (frontend ∷ frontends) zero own there =
    let same : rows_of frontend ≡ own = let e : Some (rows_of frontend) ≡ Some own = there in cc in
    (ap (λ (o : FrontendRows). o.serial) (sym same), ap (λ (o : FrontendRows). o.rows) (sym same))
unused (frontend ∷ frontends) (suc n) own there = unused frontends n own there

-- the first connection of a listener gets a reply
pub accept_answered : (p : Plain) (plan : Plan) → p ≡ opening plan 0 → (listener : ℕ) (at : Listener) (real : PairValue) → slice_get p.listeners listener ≡ Some at → IsOk (answer_in p 0 (Accept listener real))
accept_answered p plan opens listener at real listens = subst (λ q. IsOk (answer_in q 0 (Accept listener real))) (sym opens) (is_ok (answer_in first 0 (Accept listener real)) judged.0 judged.1)
  where
    first : Plain
    first = opening plan 0

    same : after first [] ≡ first
    same = after-nil first (opening_well plan 0)

    here : slice_get first.listeners listener ≡ Some at
    here = subst (λ q. slice_get q.listeners listener ≡ Some at) opens listens

    arrival : Arrival first listener
    arrival = subst (λ q. Arrival q listener) same (arrivals plan 0 [] tt listener at here)

    none : arrival.own.serial ≡ 0
    none = (unused plan.frontends arrival.at.frontend arrival.own arrival.there).0

    judged : IsJudged (answer_in first 0 (Accept listener real))
    judged = accept_judged first 0 listener real arrival (omega (arith, none))

-- A piece of its header.

says_wait : (said : Said) (id : ConnId) → waiting_in said ≡ Some id → (count : ℕ) × (said ≡ saids.Wait id count)
says_wait (saids.Wait other count) id is = (count, let same : other ≡ id = let e : Some other ≡ Some id = is in cc in ap (λ i. saids.Wait i count) same)
says_wait said id is = absurd (let wrong : None ≡ Some id = is in cc)

-- the first connection of a listener, which is let wait
row_waits : (plan : Plan) (listener : ℕ) (real : PairValue) (reply : Reply) (id : ConnId) (count : ℕ) → answer_in (opening plan 0) 0 (Accept listener real) ≡ Ok reply → reply.said ≡ saids.Wait id count →
    row_at (after (opening plan 0) (entry 0 (Accept listener real) reply ∷ [])).frontends id ≡ Some (record (new_row id.serial 1 real 0) { tracks = by_counter reply.tracks.items })
row_waits plan listener real reply id count is said =
    ap (λ (s : Plain). row_at s.frontends id) state ∙ ap (row_in id.serial) now_there ∙ (rw (none, eq-eqb id.serial id.serial refl) refl)
  where
    p : Plain
    p = opening plan 0

    got : Accepted (at_moment 0 p) 0 listener real reply
    got = accepted (at_moment 0 p) 0 listener real reply is

    said_is : (admission (candidate_at (at_moment 0 p) 0 got.at.frontend real got.own got.version got.frontend) got.at.accept_proxy real (length got.own.rows)).said ≡ saids.Wait id count
    said_is = ap (λ (r : Reply). r.said) got.reply_is ∙ said

    id_is : id ≡ record { frontend = got.at.frontend; serial = got.own.serial + 1 }
    id_is =
        let e : Some id ≡ Some (record { frontend = got.at.frontend; serial = got.own.serial + 1 }) =
        ap id_of (sym said_is) ∙ admission-id (candidate_at (at_moment 0 p) 0 got.at.frontend real got.own got.version got.frontend) got.at.accept_proxy real (length got.own.rows) in cc

    there : slice_get p.frontends id.frontend ≡ Some got.own
    there = ap (λ (i : ConnId). slice_get p.frontends i.frontend) id_is ∙ got.there

    none : got.own.rows ≡ []
    none = (unused plan.frontends id.frontend got.own there).1

    row : Row
    row = record (new_row id.serial 1 real 0) { tracks = by_counter reply.tracks.items }

    next : FrontendRows
    next = record got.own { serial = got.own.serial + 1; rows = got.own.rows ++ row ∷ [] }

    now_there : slice_get (slice_set p.frontends id.frontend next) id.frontend ≡ Some next
    now_there = get-set p.frontends id.frontend got.own next there

    -- where that is said at the accept
    state_with : Said → Plain
    state_with said = record {
      clock = 0;
      listeners = p.listeners;
      frontends = slice_set p.frontends id.frontend (record got.own { serial = got.own.serial + 1; rows = got.own.rows ++ rows_left p 0 real reply.tracks.items said });
      versions = with_said (newest_number p) said p.versions;
      tables = tables_passed 0 p.frontends p.tables reply;
      down = p.down;
    }

    state : after (opening plan 0) (entry 0 (Accept listener real) reply ∷ []) ≡ record {
      clock = 0;
      listeners = p.listeners;
      frontends = slice_set p.frontends id.frontend next;
      versions = p.versions;
      tables = tables_passed 0 p.frontends p.tables reply;
      down = p.down;
    }
    state =
        after-accept p (opening_well plan 0) 0 listener real reply id got.own there (ap id_of said) (ap (λ (i : ConnId). i.serial) id_is)
        ∙ ap state_with said

-- and each piece of its header gets a reply
pub piece_answered : (p : Plain) (plan : Plan) → p ≡ opening plan 0 → (listener : ℕ) (real : PairValue) (reply : Reply) (id : ConnId) → answer_in p 0 (Accept listener real) ≡ Ok reply → waiting_in reply.said ≡ Some id →
    (piece : List ℕ) → IsOk (answer_in (after p (entry 0 (Accept listener real) reply ∷ [])) 0 (Piece id piece))
piece_answered p plan opens listener real reply id is waits piece =
    subst (λ q. IsOk (answer_in (after q (entry 0 (Accept listener real) reply ∷ [])) 0 (Piece id piece))) (sym opens) (is_ok (answer_in now 0 (Piece id piece)) judged.0 judged.1)
  where
    first : Plain
    first = opening plan 0

    now : Plain
    now = after first (entry 0 (Accept listener real) reply ∷ [])

    here : answer_in first 0 (Accept listener real) ≡ Ok reply
    here = subst (λ q. answer_in q 0 (Accept listener real) ≡ Ok reply) opens is

    legal : IsLegal first (entry 0 (Accept listener real) reply ∷ [])
    legal = (tt, ap (λ q. answer_in q 0 (Accept listener real)) (after-nil first (opening_well plan 0)) ∙ here)

    says : (count : ℕ) × (reply.said ≡ saids.Wait id count)
    says = says_wait reply.said id waits

    waiter : Waiter now id
    waiter = waiters plan 0 (entry 0 (Accept listener real) reply ∷ []) legal id (record (new_row id.serial 1 real 0) { tracks = by_counter reply.tracks.items }) (Read (record { items = [] }))
        (row_waits plan listener real reply id says.0 here says.1) refl

    judged : IsJudged (answer_in now 0 (Piece id piece))
    judged = piece_judged now 0 id piece waiter

-- Which listener takes a connection.

nobody : FrontendRows
nobody = record { name = []; serial = 0; rows = [] }

abbrev pub has_name : List ℕ → FrontendRows → Bool
has_name name own = bytes_eq own.name name

pub takes : (p : Plain) (name : List ℕ) (real : PairValue) (frontend number : ℕ) (at : Listener) → position (has_name name) p.frontends ≡ Some frontend → IsBest p.listeners frontend real.destination number at →
    Takes p name real number
takes p name real frontend number at is best =
    let found = position-Some (has_name name) p.frontends frontend nobody is in
    record { frontend = frontend; own = get_or p.frontends frontend nobody; at = at; there = slice_get-get_or p.frontends frontend nobody found.0; named = found.1; is_best = best }

pub number_within : (plan : Plan) (name : List ℕ) (frontend : ℕ) → position (has_name name) (opening plan 0).frontends ≡ Some frontend → frontend < length plan.frontends
number_within plan name frontend is =
    let found = (position-Some (has_name name) (opening plan 0).frontends frontend nobody is).0 in
    let count : length (map rows_of plan.frontends) ≡ length plan.frontends = length-map plan.frontends rows_of in
    omega (arith, found, count)

position-find : {X : Type 0} (test : X → Bool) (xs : List X) → position test xs ≡ None → find test xs ≡ None
position-find test xs none = by (nat_lt (position_or_len test xs) (length xs)) refl
  where
    by : (b : Bool) → nat_lt (position_or_len test xs) (length xs) ≡ b → find test xs ≡ None
    by true less = absurd (let wrong : Some (position_or_len test xs) ≡ None = rw less at none in cc)
    by false past = find_at test xs ∙ slice_get_past xs (position_or_len test xs) (grind (arith, nat_tests, past))

-- where no frontend is found there is none of that name
pub none_named : (plan : Plan) (name : List ℕ) → HasNone (opening plan 0) name → frontend_in plan name ≡ None
none_named plan name none = named-rows name plan.frontends (position-find (has_name name) (map rows_of plan.frontends) none)

-- what a copy of the state says is what the state says
pub copied : (p copy : Plain) (name : List ℕ) (o : Option ℕ) {frontends : List FrontendRows} → frontends ≡ copy.frontends → copy ≡ p → o ≡ position (has_name name) frontends → position (has_name name) p.frontends ≡ o
copied p copy name o {frontends} all same is = sym (is ∙ ap (position (has_name name)) (all ∙ ap (λ (q : Plain). q.frontends) same))
