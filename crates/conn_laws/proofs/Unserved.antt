-- Why a connection gets no server of its backend, or no backend.
use Rattle.std.specs.Prelude.{ℕ, zero, suc, Bool, true, false, List, [], ◌∷◌, length, map, find, slice_get, Option, Some, None, option_map, Ok, Err, IfSome, refl, nat_lt, ◌<◌, ◌≡◌, ◌⊎◌, ◌==◌, ◌&&◌, not}
use Rattle.std.specs.List.{AllByRecursion}
use Rattle.std.specs.Option.{option_map_or, option_or}
use Rattle.std.proofs.Common.{sym, ap, ◌∙◌, subst, arith, inl, inr}
use Rattle.std.proofs.lemmas.Bool.{false≢true}
use Rattle.std.proofs.lemmas.Bool.Decides.{nat_tests}
use Rattle.std.proofs.lemmas.List.{length-map}
use Rattle.std.proofs.lemmas.Option.{slice_get-map}
use Rattle.addr_core.specs.declared.addr.Addr.{Addr}
use Rattle.proxy_types.specs.declared.balance.Method.{Method}
use Rattle.proxy_types.specs.declared.balance.Method.TheVariants.{RoundRobin, LeastConn, Source}
use Rattle.proxy_types.specs.declared.balance.Place.{Place}
use Rattle.proxy_types.specs.declared.server.ServerIdentity.{ServerIdentity}
use Rattle.acl_core.specs.Truth.{applies}
use Rattle.balance_core.specs.declared.load.ServerLoad.{ServerLoad}
use Rattle.balance_core.specs.Least.{lightest}
use Rattle.balance_core.specs.Loads.{has_room_at, is_ready_at, total_weight, weight_at}
use Rattle.balance_core.specs.Picks.{picked}
use Rattle.balance_core.specs.Rounds.{turn_of}
use Rattle.balance_core.specs.Source.{of_source}
use Rattle.balance_core.proofs.LeastLemmas.{none_lightest}
use Rattle.balance_core.proofs.ReadyLemmas.{picked_ready}
use Rattle.plan_types.specs.declared.plan.Backend.{Backend}
use Rattle.plan_types.specs.declared.plan.Choice.{Choice}
use Rattle.plan_types.specs.declared.plan.Server.{Server}
use Rattle.conn_model.specs.declared.reply.Cause.{Cause}
use Rattle.conn_model.specs.declared.reply.Cause.TheVariants.{NoBackend, NoServer}
use Rattle.conn_model.specs.Servers.{cursor_at, has_room, identity_in, load_of, loads_of, pick_in, weight_of, weight_by}
use Rattle.conn_model.specs.Rules.{backend_for, worth, RuleView}
use Rattle.conn_model.specs.Answer.{numbered_server, server_for, NumberedServer}
use Rattle.conn_model.proofs.Lists.{all-found}
use Rattle.conn_laws.specs.Deciding.{HasNoServer, IsFull, IsUsable, LacksBackend, LacksServer, NoneHasRoom, IsLeft}
use Rattle.conn_laws.proofs.Named.{NamesBackends}
use Rattle.conn_laws.proofs.Unpicked.{round_none, source_none, IsShareFull}
use Rattle.conn_model.proofs.Offers.{weight-unbarred}

-- A server that may be used.

usable_weighs : (server : Server) → IsUsable server → nat_lt 0 (weight_of server) ≡ true
usable_weighs server usable = let weighs : 0 < server.weight = usable.weighs in rw usable.enabled (grind (arith, nat_tests, weighs))

-- it is full where it has no room
full-is : (served : ServerIdentity → ℕ) (backend : Backend) (server : Server) → has_room server.limit (served (identity_in backend server)) ≡ false → IsFull served backend server
full-is served backend server is = by (server.limit == 0) refl is
  where
    connections : ℕ
    connections = served (identity_in backend server)

    by : (b : Bool) → (server.limit == 0) ≡ b → has_room server.limit connections ≡ false → IsFull served backend server
    by true e has = absurd (let wrong : true ≡ false = rw e at has in cc)
    by false e has =
        let over : nat_lt connections server.limit ≡ false = rw e at has in
        record { limited = grind (arith, nat_tests, e); reached = grind (arith, nat_tests, over) }

load_at : (served : ServerIdentity → ℕ) (barred : Backend → Server → Bool) (backend : Backend) (n : ℕ) (server : Server) → slice_get backend.servers n ≡ Some server →
    slice_get (loads_of served barred backend) n ≡ Some (load_of served barred backend server)
load_at served barred backend n server there = slice_get-map (load_of served barred backend) backend.servers n ∙ ap (λ o. option_map (load_of served barred backend) o) there

-- a server that is not barred has its own weight
weight-left : (served : ServerIdentity → ℕ) (barred : Backend → Server → Bool) (backend : Backend) (server : Server) → barred backend server ≡ false → (load_of served barred backend server).weight ≡ weight_of server
weight-left served barred backend server stands = ap (λ b. weight_by backend.method b server) stands ∙ weight-unbarred backend.method server

roomless : (served : ServerIdentity → ℕ) (barred : Backend → Server → Bool) (backend : Backend) (n : ℕ) (server : Server) → slice_get backend.servers n ≡ Some server → barred backend server ≡ false →
    has_room_at (loads_of served barred backend) n ≡ false → IsFull served backend server
roomless served barred backend n server there stands none =
    let room : (not (barred backend server) && has_room server.limit (served (identity_in backend server))) ≡ false =
    sym (ap (λ o. option_map_or (λ (l : ServerLoad). l.has_room) o false) (load_at served barred backend n server there)) ∙ none in
    full-is served backend server (sym (ap (λ b. not b && has_room server.limit (served (identity_in backend server))) stands) ∙ room)

unready : (served : ServerIdentity → ℕ) (barred : Backend → Server → Bool) (backend : Backend) (n : ℕ) (server : Server) → slice_get backend.servers n ≡ Some server →
    is_ready_at (loads_of served barred backend) n ≡ false → IsLeft barred backend server → IsFull served backend server
unready served barred backend n server there ready left =
    let weighs : nat_lt 0 (weight_at (loads_of served barred backend) n) ≡ true =
    ap (λ o. nat_lt 0 (option_map_or (λ (l : ServerLoad). l.weight) o 0)) (load_at served barred backend n server there)
    ∙ ap (nat_lt 0) (weight-left served barred backend server left.stands) ∙ usable_weighs server left.usable in
    roomless served barred backend n server there left.stands (sym (ap (λ b. b && has_room_at (loads_of served barred backend) n) weighs) ∙ ready)

each_place : {X : Type 0} (P : X → Type 0) (xs : List X) → ((n : ℕ) (x : X) → slice_get xs n ≡ Some x → P x) → AllByRecursion P xs
each_place P [] each = tt
each_place P (x ∷ xs) each = (each 0 x refl, each_place P xs (λ n y is. each (suc n) y is))

none_ready : (served : ServerIdentity → ℕ) (barred : Backend → Server → Bool) (backend : Backend) → ((n : ℕ) → is_ready_at (loads_of served barred backend) n ≡ false) → NoneHasRoom served barred backend
none_ready served barred backend none =
    each_place (λ server. IsLeft barred backend server → IsFull served backend server) backend.servers (λ n server there. unready served barred backend n server there (none n))

-- By source.

weightless : (served : ServerIdentity → ℕ) (barred : Backend → Server → Bool) (backend : Backend) (servers : List Server) → total_weight (map (load_of served barred backend) servers) ≡ 0 →
    AllByRecursion (λ server. IsLeft barred backend server → ⊥) servers
weightless served barred backend [] none = tt
weightless served barred backend (server ∷ servers) none =
    let own : (load_of served barred backend server).weight ≡ 0 = omega (arith, none) in
    let rest : total_weight (map (load_of served barred backend) servers) ≡ 0 = omega (arith, none) in (
      (λ left. false≢true (ap (nat_lt 0) (sym own ∙ weight-left served barred backend server left.stands) ∙ usable_weighs server left.usable)),
      weightless served barred backend servers rest,
    )

-- by source a server that is barred has no part
stands-by : (method : Method) (b : Bool) (server : Server) → method ≡ Source → 0 < weight_by method b server → b ≡ false
stands-by method true server is weighs = absurd (let none : weight_by method true server ≡ 0 = ap (λ m. weight_by m true server) is in omega (arith, none, weighs))
stands-by method false server is weighs = refl

there_below : {X : Type 0} (xs : List X) (n : ℕ) → n < length xs → (x : X) × (slice_get xs n ≡ Some x)
there_below [] n less = absurd (omega (arith, less))
there_below (x ∷ xs) zero less = (x, refl)
there_below (x ∷ xs) (suc n) less = there_below xs n (omega (arith, less))

source_full : (served : ServerIdentity → ℕ) (barred : Backend → Server → Bool) (backend : Backend) (source : Addr) → backend.method ≡ Source →
    (total_weight (loads_of served barred backend) ≡ 0) ⊎ IsShareFull (loads_of served barred backend) source → HasNoServer served barred backend source Source
source_full served barred backend source by_source (inl none) = inl (weightless served barred backend backend.servers none)
source_full served barred backend source by_source (inr has) =
    let count : length (loads_of served barred backend) ≡ length backend.servers = length-map backend.servers (load_of served barred backend) in
    let below : has.number < length (loads_of served barred backend) = has.there in
    let found = there_below backend.servers has.number (omega (arith, count, below)) in
    let weight : weight_at (loads_of served barred backend) has.number ≡ weight_by backend.method (barred backend found.0) found.0 =
    ap (λ o. option_map_or (λ (l : ServerLoad). l.weight) o 0) (load_at served barred backend has.number found.0 found.1) in
    let weighs : 0 < weight_at (loads_of served barred backend) has.number = has.weighs in
    let stands : barred backend found.0 ≡ false = stands-by backend.method (barred backend found.0) found.0 by_source (omega (arith, weight, weighs)) in
    inr (record { number = has.number; server = found.0; of_source = has.of_source; server_is = found.1; full = roomless served barred backend has.number found.0 found.1 stands has.full })

-- By each method.

unmapped : {X Y : Type 0} (f : X → Y) (o : Option X) → option_map f o ≡ None → o ≡ None
unmapped f None is = refl
unmapped f (Some x) is = absurd (let wrong : Some (f x) ≡ None = is in cc)

none_picked : (served : ServerIdentity → ℕ) (barred : Backend → Server → Bool) (backend : Backend) (last : Option Place) (source : Addr) → pick_in served barred backend last source ≡ None →
    HasNoServer served barred backend source backend.method
none_picked served barred backend last source is = by backend.method refl is
  where
    loads : List ServerLoad
    loads = loads_of served barred backend

    before : Option ℕ
    before = option_map (λ (turn : Place). turn.server) last

    by : (method : Method) → backend.method ≡ method → picked loads method last source ≡ None → HasNoServer served barred backend source method
    by RoundRobin method none = none_ready served barred backend (round_none loads last none)
    by LeastConn method none = none_ready served barred backend (none_lightest loads before (unmapped (λ n. turn_of n 0) (lightest loads before) none))
    by Source method none = source_full served barred backend source method (source_none loads source (unmapped (λ n. turn_of n 0) (of_source loads source) none))

abbrev numbered : ℕ → Server → NumberedServer
numbered number server = record { number = number; server = server }

-- a server that is picked is there
picked_there : (served : ServerIdentity → ℕ) (barred : Backend → Server → Bool) (backend : Backend) (last : Option Place) (source : Addr) (turn : Place) → pick_in served barred backend last source ≡ Some turn → numbered_server backend turn.server ≡ None → ⊥
picked_there served barred backend last source turn is none = by (slice_get backend.servers turn.server) refl
  where
    ready : is_ready_at (loads_of served barred backend) turn.server ≡ true
    ready = picked_ready (loads_of served barred backend) backend.method last source turn is

    by : (o : Option Server) → slice_get backend.servers turn.server ≡ o → ⊥
    by None e =
        let load : slice_get (loads_of served barred backend) turn.server ≡ None = slice_get-map (load_of served barred backend) backend.servers turn.server ∙ ap (λ o. option_map (load_of served barred backend) o) e in
        let weighs : nat_lt 0 (weight_at (loads_of served barred backend) turn.server) ≡ false = ap (λ o. nat_lt 0 (option_map_or (λ (l : ServerLoad). l.weight) o 0)) load in
        false≢true (sym (ap (λ b. b && has_room_at (loads_of served barred backend) turn.server) weighs) ∙ ready)
    by (Some server) e = let wrong : Some (numbered turn.server server) ≡ None = sym (ap (λ o. option_map (numbered turn.server) o) e) ∙ none in cc

-- The lines that choose a backend.

none_found : {X : Type 0} (test : X → Bool) (xs : List X) → find test xs ≡ None → AllByRecursion (λ x. test x ≡ false) xs
none_found test [] is = tt
none_found {X} test (x ∷ xs) is = by (test x) refl is (λ rest. none_found test xs rest)
  where
    by : (b : Bool) → test x ≡ b → find test (x ∷ xs) ≡ None → (find test xs ≡ None → AllByRecursion (λ y. test y ≡ false) xs) → AllByRecursion (λ y. test y ≡ false) (x ∷ xs)
    by true e none more = absurd (let wrong : Some x ≡ None = rw e at none in cc)
    by false e none more = (e, more (rw e at none))

abbrev is_chosen : RuleView → Choice → Bool
is_chosen view choice = applies view.frontend.acls (worth view) choice.when

chosen_within : (view : RuleView) (number : ℕ) → NamesBackends (length view.version.plan.backends) view.frontend → backend_for (worth view) view.frontend ≡ Some number → number < length view.version.plan.backends
chosen_within view number names is = by (find (is_chosen view) view.frontend.choices) refl is
  where
    by : (o : Option Choice) → find (is_chosen view) view.frontend.choices ≡ o → option_or (option_map (λ (choice : Choice). choice.backend) o) view.frontend.default ≡ Some number → number < length view.version.plan.backends
    by None none now = subst (λ o. IfSome o (λ n. n < length view.version.plan.backends)) now names.default
    by (Some choice) some now =
        let same : choice.backend ≡ number = let it : Some choice.backend ≡ Some number = now in cc in
        subst (λ n. n < length view.version.plan.backends) same
        (all-found (λ (choice : Choice). choice.backend < length view.version.plan.backends) (is_chosen view) view.frontend.choices choice names.choices some).0

none_chosen : (view : RuleView) → backend_for (worth view) view.frontend ≡ None → LacksBackend view view.frontend.line
none_chosen view is = by (find (is_chosen view) view.frontend.choices) refl is
  where
    by : (o : Option Choice) → find (is_chosen view) view.frontend.choices ≡ o → option_or (option_map (λ (choice : Choice). choice.backend) o) view.frontend.default ≡ None → LacksBackend view view.frontend.line
    by None none now = record { none_applies = none_found (is_chosen view) view.frontend.choices none; no_default = now; line_is = refl }
    by (Some choice) some now = absurd (let wrong : Some choice.backend ≡ None = now in cc)

-- Both.

abbrev pub Lacks : RuleView → Cause → Type 0
Lacks view (NoBackend line) = LacksBackend view line
Lacks view (NoServer line) = LacksServer view line
Lacks view cause = ⊥

pub lacks : (view : RuleView) (cause : Cause) → NamesBackends (length view.version.plan.backends) view.frontend → server_for view ≡ Err cause → Lacks view cause
lacks view cause names is = by (backend_for (worth view) view.frontend) refl
  where
    same : (other : Cause) → server_for view ≡ Err other → Lacks view other → Lacks view cause
    same other now has = let one : Err other ≡ Err cause = sym now ∙ is in let causes : other ≡ cause = cc in subst (Lacks view) causes has

    placed : (number : ℕ) → backend_for (worth view) view.frontend ≡ Some number → (backend : Backend) → slice_get view.version.plan.backends number ≡ Some backend →
        (place : Place) → pick_in view.served view.barred backend (cursor_at view.version.cursors number) view.source ≡ Some place → (o : Option NumberedServer) → numbered_server backend place.server ≡ o → Lacks view cause
    placed number chosen backend backend_is place picked None none = absurd (picked_there view.served view.barred backend (cursor_at view.version.cursors number) view.source place picked none)
    placed number chosen backend backend_is place picked (Some given) some = absurd (let now : server_for view ≡ Ok given = rw (chosen, backend_is, picked, some) refl in let wrong : Ok given ≡ Err cause = sym now ∙ is in cc)

    served : (number : ℕ) → backend_for (worth view) view.frontend ≡ Some number → (backend : Backend) → slice_get view.version.plan.backends number ≡ Some backend →
        (o : Option Place) → pick_in view.served view.barred backend (cursor_at view.version.cursors number) view.source ≡ o → Lacks view cause
    served number chosen backend backend_is None none =
        same (NoServer backend.line) (rw (chosen, backend_is, none) refl)
        (record {
          number = number;
          backend = backend;
          chosen = chosen;
          backend_is = backend_is;
          none = none_picked view.served view.barred backend (cursor_at view.version.cursors number) view.source none;
          line_is = refl;
        })
    served number chosen backend backend_is (Some place) picked = placed number chosen backend backend_is place picked (numbered_server backend place.server) refl

    by : (o : Option ℕ) → backend_for (worth view) view.frontend ≡ o → Lacks view cause
    by None none = same (NoBackend view.frontend.line) (rw none refl) (none_chosen view none)
    by (Some number) chosen =
        let found = there_below view.version.plan.backends number (chosen_within view number names chosen) in
        served number chosen found.0 found.1 (pick_in view.served view.barred found.0 (cursor_at view.version.cursors number) view.source) refl
