-- An offer moves the cursor of its backend, and no other.
use Rattle.std.specs.Prelude.{ℕ, zero, suc, Bool, true, false, List, [], length, map, position, slice_get, slice_set, Option, Some, None, option_map, refl, ◌+◌, ◌<◌, ◌≡◌, ◌≢◌, ◌==◌, ◌∷◌, nat_lt, if◌then◌else◌}
use Rattle.std.specs.List.{position_or_len}
use Rattle.std.specs.Option.{option_and_then}
use Rattle.std.proofs.Common.{sym, ap, ◌∙◌, subst, arith}
use Rattle.std.proofs.lemmas.Bool.{eq-eqb}
use Rattle.std.proofs.lemmas.Bool.Decides.{nat_tests}
use Rattle.std.proofs.lemmas.Option.{slice_get-map, slice_get_within}
use Rattle.list_core.proofs.Items.{get-other}
use Rattle.addr_core.specs.declared.addr.Addr.{Addr}
use Rattle.proxy_types.specs.declared.balance.Place.{Place}
use Rattle.proxy_types.specs.declared.server.ServerIdentity.{ServerIdentity}
use Rattle.balance_core.specs.Cycles.{turn_at, IsRound}
use Rattle.balance_core.specs.Picks.{used_after, used_now}
use Rattle.balance_core.specs.Rounds.{weights_of}
use Rattle.balance_core.proofs.RoundLemmas.{offer_moves}
use Rattle.plan_types.specs.declared.plan.Backend.{Backend}
use Rattle.plan_types.specs.declared.plan.Plan.{Plan}
use Rattle.plan_types.specs.declared.plan.Server.{Server}
use Rattle.plan_types.specs.Lines.{has_line}
use Rattle.plan_types.specs.Sound.{IsSoundPlan, NamesDiffer}
use Rattle.conn_model.specs.Servers.{cursor_after, cursor_at, cursors_after, load_of, loads_of, weight_by, pick_in, weight_of}
use Rattle.conn_model.proofs.Lists.{all-at}
use Rattle.conn_model.proofs.Sources.{any-at}
use Rattle.proxy_types.specs.declared.balance.Method.{Method}
use Rattle.proxy_types.specs.declared.balance.Method.TheVariants.{RoundRobin, LeastConn, Source}

-- The backend of a line.

-- what passes first
first_place : {X : Type 0} (test : X → Bool) (xs : List X) (n : ℕ) (x : X) → slice_get xs n ≡ Some x → test x ≡ true →
    (i : ℕ) × (y : X) × (position_or_len test xs ≡ i) × (slice_get xs i ≡ Some y) × (test y ≡ true)
first_place test [] n x there is = absurd (let wrong : None ≡ Some x = there in cc)
first_place {X} test (z ∷ xs) zero x there is =
    let same : z ≡ x = cc in
    let passes : test z ≡ true = ap test same ∙ is in
    (0, z, rw passes refl, refl, passes)
first_place {X} test (z ∷ xs) (suc n) x there is = by (test z) refl (first_place test xs n x there is)
  where
    by : (b : Bool) → test z ≡ b → (i : ℕ) × (y : X) × (position_or_len test xs ≡ i) × (slice_get xs i ≡ Some y) × (test y ≡ true) →
        (i : ℕ) × (y : X) × (position_or_len test (z ∷ xs) ≡ i) × (slice_get (z ∷ xs) i ≡ Some y) × (test y ≡ true)
    by true e later = (0, z, rw e refl, refl, e)
    by false e later = let more : 1 + later.0 ≡ suc later.0 = omega arith in (suc later.0, later.1, rw e (ap (λ m. 1 + m) later.2 ∙ more), later.3, later.4)

-- backends of one name are at one place
one_place : (backends : List Backend) → NamesDiffer (map (λ backend. backend.name) backends) → (i j : ℕ) (a b : Backend) → slice_get backends i ≡ Some a → slice_get backends j ≡ Some b →
    a.name ≡ b.name → i ≡ j
one_place [] differ i j a b left right same = absurd (let wrong : None ≡ Some a = left in cc)
one_place (x ∷ backends) differ zero zero a b left right same = refl
one_place (x ∷ backends) differ zero (suc j) a b left right same =
    let first : x ≡ a = cc in
    let other : b.name ≢ x.name = all-at (λ name. name ≢ x.name) (map (λ backend. backend.name) backends) j b.name differ.0 (slice_get-map (λ backend. backend.name) backends j ∙ ap (λ o. option_map (λ backend. backend.name) o) right) in
    absurd (other (sym same ∙ sym (ap (λ backend. backend.name) first)))
one_place (x ∷ backends) differ (suc i) zero a b left right same =
    let first : x ≡ b = cc in
    let other : a.name ≢ x.name = all-at (λ name. name ≢ x.name) (map (λ backend. backend.name) backends) i a.name differ.0 (slice_get-map (λ backend. backend.name) backends i ∙ ap (λ o. option_map (λ backend. backend.name) o) left) in
    absurd (other (same ∙ sym (ap (λ backend. backend.name) first)))
one_place (x ∷ backends) differ (suc i) (suc j) a b left right same = ap suc (one_place backends differ.1 i j a b left right same)

-- the place of the backend whose server has the line
line_place : (plan : Plan) → IsSoundPlan plan → (place line number : ℕ) (backend : Backend) (server : Server) → slice_get plan.backends place ≡ Some backend →
    slice_get backend.servers number ≡ Some server → server.line ≡ line → position (has_line line) plan.backends ≡ Some place
line_place plan sound place line number backend server there found is =
    let has : has_line line backend ≡ true = any-at (λ s. s.line == line) backend.servers number server found (eq-eqb server.line line is) in
    let got = first_place (has_line line) plan.backends place backend there has in
    let same : got.1 ≡ backend = sound.lines line got.0 place got.1 backend got.3 there got.4 has in
    let one : got.0 ≡ place = one_place plan.backends sound.backend_names got.0 place got.1 backend got.3 there (ap (λ b. b.name) same) in
    let below : place < length plan.backends = slice_get_within plan.backends place backend there in
    let less : nat_lt place (length plan.backends) ≡ true = grind (arith, nat_tests, below) in
    ap (λ m. if nat_lt m (length plan.backends) then Some m else None) (got.2 ∙ one) ∙ rw less refl

-- Cursors.

get-set : {X Y : Type 0} (xs : List X) (ys : List Y) (n : ℕ) (x : X) (y : Y) → length xs ≡ length ys → slice_get ys n ≡ Some y → slice_get (slice_set xs n x) n ≡ Some x
get-set xs [] n x y same there = absurd (let wrong : None ≡ Some y = there in cc)
get-set [] (z ∷ ys) n x y same there = absurd (omega (arith, same))
get-set (w ∷ xs) (z ∷ ys) zero x y same there = refl
get-set (w ∷ xs) (z ∷ ys) (suc n) x y same there = get-set xs ys n x y (omega (arith, same)) there

-- what an offer leaves
moved : (plan : Plan) → IsSoundPlan plan → (place line number : ℕ) (backend : Backend) (server : Server) (cursors : List (Option Place)) → slice_get plan.backends place ≡ Some backend →
    slice_get backend.servers number ≡ Some server → server.line ≡ line → cursors_after plan line number cursors ≡ slice_set cursors place (cursor_after backend number (cursor_at cursors place))
moved plan sound place line number backend server cursors there found is = rw (line_place plan sound place line number backend server there found is, there) refl

pub own_cursor : (plan : Plan) → IsSoundPlan plan → (place line number : ℕ) (backend : Backend) (server : Server) (cursors : List (Option Place)) → length cursors ≡ length plan.backends →
    slice_get plan.backends place ≡ Some backend → slice_get backend.servers number ≡ Some server → server.line ≡ line →
    cursor_at (cursors_after plan line number cursors) place ≡ cursor_after backend number (cursor_at cursors place)
own_cursor plan sound place line number backend server cursors many there found is =
    ap (λ all. cursor_at all place) (moved plan sound place line number backend server cursors there found is)
    ∙ ap (λ o. option_and_then (λ cursor. cursor) o) (get-set cursors plan.backends place (cursor_after backend number (cursor_at cursors place)) backend many there)

pub other_cursors : (plan : Plan) → IsSoundPlan plan → (place line number : ℕ) (backend : Backend) (server : Server) (cursors : List (Option Place)) → slice_get plan.backends place ≡ Some backend →
    slice_get backend.servers number ≡ Some server → server.line ≡ line → (other : ℕ) → other ≢ place →
    cursor_at (cursors_after plan line number cursors) other ≡ cursor_at cursors other
other_cursors plan sound place line number backend server cursors there found is other differs =
    ap (λ all. cursor_at all other) (moved plan sound place line number backend server cursors there found is)
    ∙ ap (λ o. option_and_then (λ cursor. cursor) o) (get-other cursors place other (cursor_after backend number (cursor_at cursors place)) differs)

-- The turn that was picked.

weights_of-map : (served : ServerIdentity → ℕ) (barred : Backend → Server → Bool) (backend : Backend) → ((server : Server) → weight_by backend.method (barred backend server) server ≡ weight_of server) →
    (servers : List Server) → weights_of (map (load_of served barred backend) servers) ≡ map weight_of servers
weights_of-map served barred backend keeps [] = refl
weights_of-map served barred backend keeps (server ∷ servers) =
    let this : weight_by backend.method (barred backend server) server ≡ weight_of server = keeps server in
    cc (this, weights_of-map served barred backend keeps servers)

-- by another method than source the loads have the weights of the servers
pub weights_of-loads : (served : ServerIdentity → ℕ) (barred : Backend → Server → Bool) (backend : Backend) → ((server : Server) → weight_by backend.method (barred backend server) server ≡ weight_of server) →
    weights_of (loads_of served barred backend) ≡ map weight_of backend.servers
weights_of-loads served barred backend keeps = weights_of-map served barred backend keeps backend.servers

pub turn_used : (served : ServerIdentity → ℕ) (barred : Backend → Server → Bool) (backend : Backend) (cycle : List Place) (last : Option ℕ) (source : Addr) (turn : Place) →
    IsRound (map weight_of backend.servers) cycle → pick_in served barred backend (turn_at cycle last) source ≡ Some turn →
    cursor_after backend turn.server (turn_at cycle last) ≡ used_now backend.method (turn_at cycle last) turn
turn_used served barred backend cycle last source turn round picked = by backend.method refl
  where
    keeping : ((server : Server) → weight_by backend.method (barred backend server) server ≡ weight_of server) →
        cursor_after backend turn.server (turn_at cycle last) ≡ used_now backend.method (turn_at cycle last) turn
    keeping keeps =
        let weights : weights_of (loads_of served barred backend) ≡ map weight_of backend.servers = weights_of-loads served barred backend keeps in
        ap (λ ws. used_after ws backend.method (turn_at cycle last) turn.server) (sym weights)
        ∙ offer_moves (loads_of served barred backend) cycle backend.method last source turn (subst (λ ws. IsRound ws cycle) (sym weights) round) picked

    by : (method : Method) → backend.method ≡ method → cursor_after backend turn.server (turn_at cycle last) ≡ used_now backend.method (turn_at cycle last) turn
    by RoundRobin is = keeping (λ server. rw is refl)
    by LeastConn is = keeping (λ server. rw is refl)
    by Source is = rw is refl
