-- The listeners of a configuration that is opened, and the connection that comes to one.
use Rattle.std.proofs.Common.{◌≡◌, ◌≢◌, ℕ, zero, suc, ◌+◌, ◌*◌, ◌<◌, ◌≤◌, Bool, true, false, List, [], ◌∷◌, ◌++◌, length, Option, Some, None, Result, Ok, Err, refl, ◌∙◌, sym, ap, arith, get_or, inl, inr}
use Rattle.std.specs.Prelude.{slice_get, map, find, flat_map, nat_lt, ◌==◌}
use Rattle.std.specs.List.{enumerate_from, position, position_or_len, AllByRecursion}
use Rattle.std.specs.Option.{option_and_then}
use Rattle.std.specs.Str.{bytes_eq}
use Rattle.std.proofs.lemmas.Bool.{eqb-true}
use Rattle.std.proofs.lemmas.Bool.Decides.{nat_tests}
use Rattle.std.proofs.lemmas.List.{length-append, length-map}
use Rattle.std.proofs.lemmas.List.Quantifiers.{position-Some}
use Rattle.std.proofs.lemmas.Option.{slice_get-get_or}
use Rattle.std.proofs.lemmas.Slice.Eq.{bytes_eq-Decides}
use Rattle.addr_core.specs.declared.addr.Addr.TheVariants.{V4}
use Rattle.addr_core.specs.PairValue.{PairValue}
use Rattle.proxy_types.specs.declared.limits.TheConstants.{MOST_BINDS}
use Rattle.plan_types.specs.Sound.{IsSoundFrontend, IsSoundPlan, IsWithin}
use Rattle.plan_types.specs.declared.plan.Bind.{Bind}
use Rattle.plan_types.specs.declared.plan.Frontend.{Frontend}
use Rattle.plan_types.specs.declared.plan.Plan.{Plan}
use Rattle.conn_model.specs.declared.event.OwnedEvent.{OwnedEvent}
use Rattle.conn_model.specs.declared.event.OwnedEvent.TheVariants.{Accept}
use Rattle.conn_model.specs.declared.plain.FrontendRows.{FrontendRows}
use Rattle.conn_model.specs.declared.plain.Listener.{Listener}
use Rattle.conn_model.specs.declared.plain.Plain.{Plain}
use Rattle.conn_model.specs.declared.reply.Reply.{Reply}
use Rattle.conn_model.specs.declared.reply.StepFault.{StepFault}
use Rattle.conn_model.specs.declared.reply.StepFault.TheVariants.{NoMemory}
use Rattle.conn_model.specs.declared.plain.Version.{Version}
use Rattle.conn_model.specs.Words.{newest}
use Rattle.conn_model.specs.Answer.{accept_answer, admission, answer_in, at_moment, candidate_at, frontend_in}
use Rattle.conn_model.specs.History.{listeners_of, new_version, opening, IsFault}
use Rattle.conn_model.proofs.Lists.{all-more}
use Rattle.conn_core.specs.Machine.{AreSound}
use Rattle.pipe_core.specs.Pipe.{as_listener, frontend_of, listener_of}

-- The first listener of a frontend.

abbrev is_of : ℕ → Listener → Bool
is_of number listener = listener.frontend == number

skipped : (p : Listener → Bool) (xs ys : List Listener) → AllByRecursion (λ x. p x ≡ false) xs → position_or_len p (xs ++ ys) ≡ length xs + position_or_len p ys
skipped p [] ys none = omega arith
skipped p (x ∷ xs) ys none = let rest = skipped p xs ys none.1 in rw none.0 (omega (arith, rest))

others : (s number : ℕ) (binds : List Bind) → s < number → AllByRecursion (λ x. is_of number x ≡ false) (map (λ (bind : Bind). record { frontend = s; at = bind.at; accept_proxy = bind.accept_proxy }) binds)
others s number [] less = tt
others s number (bind ∷ binds) less = (grind (arith, nat_tests, less), others s number binds less)

abbrev HasBinds : List Frontend → Type 0
HasBinds frontends = AllByRecursion (λ (f : Frontend). IsWithin MOST_BINDS (length f.binds)) frontends

abbrev all_listeners : ℕ → List Frontend → List Listener
all_listeners s frontends = flat_map listeners_of (enumerate_from s frontends)

first_of : (s n : ℕ) (frontends : List Frontend) → HasBinds frontends → n < length frontends →
    (position_or_len (is_of (s + n)) (all_listeners s frontends) < length (all_listeners s frontends)) × (position_or_len (is_of (s + n)) (all_listeners s frontends) ≤ 64 * n)
first_of s n [] bound less = absurd (omega (arith, less))
first_of s zero (f ∷ frontends) bound less = by f.binds bound.0
  where
    rest : List Listener
    rest = all_listeners (s + 1) frontends

    by : (binds : List Bind) → IsWithin MOST_BINDS (length binds) →
        (position_or_len (is_of (s + 0)) (map (λ (bind : Bind). record { frontend = s; at = bind.at; accept_proxy = bind.accept_proxy }) binds ++ rest) < length (map (λ (bind : Bind). record { frontend = s; at = bind.at; accept_proxy = bind.accept_proxy }) binds ++ rest))
        × (position_or_len (is_of (s + 0)) (map (λ (bind : Bind). record { frontend = s; at = bind.at; accept_proxy = bind.accept_proxy }) binds ++ rest) ≤ 64 * 0)
    by [] within = absurd (omega (arith, within.0))
    by (bind ∷ binds) within =
        let here : (s == s + 0) ≡ true = grind (arith, nat_tests) in
        rw here (omega arith, omega arith)
first_of s (suc n) (f ∷ frontends) bound less =
    let own : List Listener = map (λ (bind : Bind). record { frontend = s; at = bind.at; accept_proxy = bind.accept_proxy }) f.binds in
    let rest : List Listener = all_listeners (s + 1) frontends in
    let next : s + suc n ≡ (s + 1) + n = omega arith in
    let later = first_of (s + 1) n frontends bound.1 (omega (arith, less)) in
    let past : position_or_len (is_of (s + suc n)) (own ++ rest) ≡ length own + position_or_len (is_of ((s + 1) + n)) rest =
    skipped (is_of (s + suc n)) own rest (others s (s + suc n) f.binds (omega arith)) ∙ ap (λ k. length own + position_or_len (is_of k) rest) next in
    let count : length own ≡ length f.binds = length-map f.binds (λ (bind : Bind). record { frontend = s; at = bind.at; accept_proxy = bind.accept_proxy }) in
    (omega (arith, past, later.0, length-append own rest), omega (arith, past, later.1, count, bound.0.1))

abbrev rows_of : ℕ → Frontend → FrontendRows
rows_of last frontend = record { name = frontend.name; serial = last; rows = [] }

-- each frontend has a listener
pub has_listener : (plan : Plan) (last : ℕ) → IsSoundPlan plan → (name : List ℕ) (number : ℕ) → frontend_of (opening plan last) name ≡ Some number →
    (listener : ℕ) × (option_and_then as_listener (position (is_of number) (opening plan last).listeners) ≡ Some listener)
has_listener plan last sound name number is = (place, ap (λ o. option_and_then as_listener o) placed ∙ few_is)
  where
    rows : List FrontendRows
    rows = (opening plan last).frontends

    all : List Listener
    all = (opening plan last).listeners

    nobody : FrontendRows
    nobody = record { name = []; serial = 0; rows = [] }

    within : number < length plan.frontends
    within = omega (arith, (position-Some (λ own. bytes_eq own.name name) rows number nobody is).0, length-map plan.frontends (rows_of last))

    bound : HasBinds plan.frontends
    bound = all-more (IsSoundFrontend (length plan.tables) (length plan.backends)) (λ f. IsWithin MOST_BINDS (length f.binds)) plan.frontends (λ f known. known.binds) sound.each_frontend

    place : ℕ
    place = position_or_len (is_of number) all

    first : (position_or_len (is_of (0 + number)) all < length all) × (position_or_len (is_of (0 + number)) all ≤ 64 * number)
    first = first_of 0 number plan.frontends bound within

    same : 0 + number ≡ number
    same = omega arith

    less : place < length all
    less = rw same at first.0

    little : place ≤ 64 * number
    little = rw same at first.1

    placed : position (is_of number) all ≡ Some place
    placed = let there : nat_lt place (length all) ≡ true = grind (arith, nat_tests, less) in rw there refl

    few_is : as_listener place ≡ Some place
    few_is = let few : nat_lt place 65536 ≡ true = grind (arith, nat_tests, little, within, sound.frontends) in rw few refl

-- An accept.

-- a frontend and that of its name
record IsNamed (last : ℕ) (frontends : List Frontend) (n : ℕ) : Type 0 where
  one : Frontend
  other : Frontend
  there : slice_get (map (rows_of last) frontends) n ≡ Some (rows_of last one)
  found : find (λ (x : Frontend). bytes_eq x.name one.name) frontends ≡ Some other

named_there : (last : ℕ) (frontends : List Frontend) (n : ℕ) → n < length frontends → IsNamed last frontends n
named_there last [] n less = absurd (omega (arith, less))
named_there last (f ∷ frontends) zero less = record { one = f; other = f; there = refl; found = rw ((bytes_eq-Decides f.name f.name).1 refl) refl }
named_there last (f ∷ frontends) (suc n) less = by (named_there last frontends n (omega (arith, less)))
  where
    by : IsNamed last frontends n → IsNamed last (f ∷ frontends) (suc n)
    by rest = one (bytes_eq f.name rest.one.name) refl
      where
        one : (b : Bool) → bytes_eq f.name rest.one.name ≡ b → IsNamed last (f ∷ frontends) (suc n)
        one true is = record { one = rest.one; other = f; there = rest.there; found = rw is refl }
        one false is = record { one = rest.one; other = rest.other; there = rest.there; found = rw is rest.found }

-- an accept where all that it needs is there
accept_ok : (p : Plain) (clock listener : ℕ) (real : PairValue) (at : Listener) (own : FrontendRows) (version : Version) (frontend : Frontend) → slice_get p.listeners listener ≡ Some at → slice_get p.frontends at.frontend ≡ Some own →
    newest p.versions ≡ Some version → frontend_in version.plan own.name ≡ Some frontend → nat_lt own.serial 0xFFFF_FFFF_FFFF_FFFF ≡ true →
    accept_answer p clock listener real ≡ Ok (admission (candidate_at p clock at.frontend real own version frontend) at.accept_proxy real (length own.rows))
accept_ok p clock listener real at own version frontend listens there kept found fits = rw (listens, there, kept, found, fits) refl

-- the first connection of a frontend's first listener gets a reply
pub has_reply : (plan : Plan) (name : List ℕ) (listener : ℕ) (real : PairValue) → listener_of (opening plan 0) name ≡ Some listener → (reply : Reply) × (answer_in (opening plan 0) 0 (Accept listener real) ≡ Ok reply)
has_reply plan name listener real is = by_frontend (frontend_of (opening plan 0) name) refl
  where
    all : List Listener
    all = (opening plan 0).listeners

    nobody : FrontendRows
    nobody = record { name = []; serial = 0; rows = [] }

    nowhere : Listener
    nowhere = record { frontend = 0; at = record { addr = V4 0; port = 0 }; accept_proxy = false }

    by_place : (number place : ℕ) → number < length plan.frontends → position (is_of number) all ≡ Some place → as_listener place ≡ Some listener → (reply : Reply) × (answer_in (opening plan 0) 0 (Accept listener real) ≡ Ok reply)
    by_place number place within placed fits = by_bound (nat_lt place 65536) refl
      where
        by_bound : (b : Bool) → nat_lt place 65536 ≡ b → (reply : Reply) × (answer_in (opening plan 0) 0 (Accept listener real) ≡ Ok reply)
        by_bound false over = absurd (let wrong : None ≡ Some listener = rw over at fits in cc)
        by_bound true below =
            let same : place ≡ listener = let e : Some place ≡ Some listener = rw below at fits in cc in
            let found = position-Some (is_of number) all place nowhere placed in
            let own : Listener = get_or all place nowhere in
            let listens : slice_get all listener ≡ Some own = ap (slice_get all) (sym same) ∙ slice_get-get_or all place nowhere found.0 in
            let its : own.frontend ≡ number = eqb-true own.frontend number found.1 in
            let named = named_there 0 plan.frontends number within in
            let there : slice_get (opening plan 0).frontends own.frontend ≡ Some (rows_of 0 named.one) = ap (slice_get (opening plan 0).frontends) its ∙ named.there in (
              admission (candidate_at (at_moment 0 (opening plan 0)) 0 own.frontend real (rows_of 0 named.one) (new_version 1 plan) named.other) own.accept_proxy real 0,
              accept_ok (at_moment 0 (opening plan 0)) 0 listener real own (rows_of 0 named.one) (new_version 1 plan) named.other listens there refl named.found refl,
            )

    by_frontend : (o : Option ℕ) → frontend_of (opening plan 0) name ≡ o → (reply : Reply) × (answer_in (opening plan 0) 0 (Accept listener real) ≡ Ok reply)
    by_frontend None none = absurd (let wrong : None ≡ Some listener = rw none at is in cc)
    by_frontend (Some number) there = by_listener (position (is_of number) all) refl
      where
        within : number < length plan.frontends
        within = omega (arith, (position-Some (λ own. bytes_eq own.name name) (opening plan 0).frontends number nobody there).0, length-map plan.frontends (rows_of 0))

        by_listener : (o : Option ℕ) → position (is_of number) all ≡ o → (reply : Reply) × (answer_in (opening plan 0) 0 (Accept listener real) ≡ Ok reply)
        by_listener None none = absurd (let wrong : None ≡ Some listener = rw (there, none) at is in cc)
        by_listener (Some place) placed = by_place number place within placed (rw (there, placed) at is)

-- where there is a reply, want of memory is the only fault
pub lacks_memory : (event : OwnedEvent) (answer : Result Reply StepFault) (reply : Reply) (fault : StepFault) → answer ≡ Ok reply → IsFault event answer fault → fault ≡ NoMemory
lacks_memory event answer reply fault is (inr known) = known.0
lacks_memory event answer reply fault is (inl wrong) = absurd (let e : Ok reply ≡ Err fault = sym is ∙ wrong in cc)

pub accept_lacks_memory : (p : Plain) (plan : Plan) → p ≡ opening plan 0 → (name : List ℕ) (listener : ℕ) (real : PairValue) (fault : StepFault) → listener_of p name ≡ Some listener →
    IsFault (Accept listener real) (answer_in p 0 (Accept listener real)) fault → fault ≡ NoMemory
accept_lacks_memory p plan opens name listener real fault is known =
    let got = has_reply plan name listener real (rw opens at is) in
    lacks_memory (Accept listener real) (answer_in p 0 (Accept listener real)) got.0 fault (rw opens got.1) known

-- the first listener of a frontend of a core that was opened
pub some_listener : (p : Plain) (plan : Plan) → p ≡ opening plan 0 → AreSound p.versions → (name : List ℕ) (number : ℕ) → frontend_of p name ≡ Some number →
    option_and_then as_listener (position (is_of number) p.listeners) ≢ None
some_listener p plan opens sound name number is none =
    let known : AreSound (opening plan 0).versions = rw opens at sound in
    let found = has_listener plan 0 known.0 name number (rw opens at is) in
    let there : option_and_then as_listener (position (is_of number) (opening plan 0).listeners) ≡ None = rw opens at none in
    let wrong : Some found.0 ≡ None = sym found.1 ∙ there in
    cc

-- What a copy of the state says is what the state says.

pub frontend_is : (p : Plain) (name : List ℕ) (copy : Plain) (o : Option ℕ) {frontends : List FrontendRows} → frontends ≡ copy.frontends → copy ≡ p → o ≡ position (λ own. bytes_eq own.name name) frontends → o ≡ frontend_of p name
frontend_is p name copy o {frontends} all same is = is ∙ ap (position (λ (own : FrontendRows). bytes_eq own.name name)) (all ∙ ap (λ (q : Plain). q.frontends) same)

pub listener_is : (p copy : Plain) (number : ℕ) (o : Option ℕ) {listeners : List Listener} → listeners ≡ copy.listeners → copy ≡ p →
    o ≡ option_and_then as_listener (position (is_of number) listeners) → o ≡ option_and_then as_listener (position (is_of number) p.listeners)
listener_is p copy number o {listeners} all same is = is ∙ ap (λ (ls : List Listener). option_and_then as_listener (position (is_of number) ls)) (all ∙ ap (λ (q : Plain). q.listeners) same)

pub nothing : (o : Option ℕ) → ((x : ℕ) → o ≢ Some x) → o ≡ None
nothing None none = refl
nothing (Some x) none = absurd (none x refl)
