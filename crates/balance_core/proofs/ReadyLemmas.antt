-- A server that is picked is usable and has room.
use Rattle.std.proofs.Common.{◌≡◌, ℕ, zero, suc, ◌<◌, ◌≤◌, ◌+◌, Bool, true, false, List, [], ◌∷◌, ◌++◌, length, take, Option, Some, None, refl, ap, ◌∙◌, arith, filter, map, subst, if◌then◌else◌}
use Rattle.std.specs.Prelude.{nat_lt, find, option_map, option_and_then, ◌==◌, ◌%◌, IfSome}
use Rattle.std.specs.List.{range_with_len, AllByRecursion}
use Rattle.std.proofs.lemmas.Bool.Decides.{nat_tests}
use Rattle.addr_core.specs.declared.addr.Addr.{Addr}
use Rattle.proxy_types.specs.declared.balance.Method.{Method}
use Rattle.proxy_types.specs.declared.balance.Method.TheVariants.{RoundRobin, LeastConn, Source}
use Rattle.proxy_types.specs.declared.balance.Place.{Place}
use Rattle.balance_core.specs.declared.load.ServerLoad.{ServerLoad}
use Rattle.balance_core.specs.Loads.{weight_at, has_room_at, is_ready_at, total_weight}
use Rattle.balance_core.specs.Orders.{least}
use Rattle.balance_core.specs.Rounds.{turn_of, turns_from, weights_of, turns, comes_before, is_after, next_of, can_take, next_turn}
use Rattle.balance_core.specs.Least.{lightest, IsLightest}
use Rattle.balance_core.specs.Source.{mixed, share_of, of_source}
use Rattle.balance_core.specs.Picks.{picked}
use Rattle.balance_core.proofs.RangeLemmas.{total_weight-more}
use Rattle.balance_core.proofs.LeastLemmas.{lightest_is}

-- Lists.

all_each : {X : Type 0} (P : X → Type 0) (xs : List X) → ((x : X) → P x) → AllByRecursion P xs
all_each P [] each = tt
all_each P (x ∷ xs) each = (each x, all_each P xs each)

all_map : {X Y : Type 0} (P : Y → Type 0) (f : X → Y) (xs : List X) → AllByRecursion (λ x. P (f x)) xs → AllByRecursion P (map f xs)
all_map P f [] all = tt
all_map P f (x ∷ xs) all = (all.0, all_map P f xs all.1)

all_append : {X : Type 0} (P : X → Type 0) (xs ys : List X) → AllByRecursion P xs → AllByRecursion P ys → AllByRecursion P (xs ++ ys)
all_append P [] ys one two = two
all_append P (x ∷ xs) ys one two = (one.0, all_append P xs ys one.1 two)

-- of those that pass
all_passing : {X : Type 0} (P : X → Type 0) (test : X → Bool) (xs : List X) → AllByRecursion (λ x. test x ≡ true → P x) xs → AllByRecursion P (filter test xs)
all_passing P test [] all = tt
all_passing {X} P test (x ∷ xs) all = by (test x) refl (all_passing P test xs all.1)
  where
    by : (b : Bool) → test x ≡ b → AllByRecursion P (filter test xs) → AllByRecursion P (filter test (x ∷ xs))
    by true e rest = rw e (all.0 e, rest)
    by false e rest = rw e rest

all_more : {X : Type 0} (P Q : X → Type 0) (xs : List X) → ((x : X) → P x → Q x) → AllByRecursion P xs → AllByRecursion Q xs
all_more P Q [] more all = tt
all_more P Q (x ∷ xs) more all = (more x all.0, all_more P Q xs more all.1)

-- the least item is one of the list
least_one : {X : Type 0} (before : X → X → Bool) (P : X → Type 0) (xs : List X) (x : X) → AllByRecursion P xs → least before xs ≡ Some x → P x
least_one before P [] x all is = absurd (let wrong : None ≡ Some x = is in cc)
least_one {X} before P (y ∷ ys) x all is = by (least before ys) refl (λ z found. least_one before P ys z all.1 found)
  where
    other : (z : X) (b : Bool) → P z → P (if b then z else y)
    other z true known = known
    other z false known = all.0

    by : (o : Option X) → least before ys ≡ o → ((z : X) → least before ys ≡ Some z → P z) → P x
    by None e later =
        let it : Some y ≡ Some x = rw e at is in
        let same : y ≡ x = cc in
        subst P same all.0
    by (Some z) e later =
        let it : Some (if before z y then z else y) ≡ Some x = rw e at is in
        let same : (if before z y then z else y) ≡ x = cc in
        subst P same (other z (before z y) (later z e))

-- Round robin.

-- so is the first after the one last used
next_one : (P : Place → Type 0) (weights : List ℕ) (last : Option Place) (some : List Place) (turn : Place) → AllByRecursion P some → next_of weights last some ≡ Some turn → P turn
next_one P weights last some turn all is = by (least (comes_before weights) (filter (is_after weights last) some)) refl
  where
    by : (o : Option Place) → least (comes_before weights) (filter (is_after weights last) some) ≡ o → P turn
    by None e = least_one (comes_before weights) P some turn all (rw e at is)
    by (Some t) e =
        let it : Some t ≡ Some turn = rw e at is in
        least_one (comes_before weights) P (filter (is_after weights last) some) turn
        (all_passing P (is_after weights last) some (all_more P (λ x. is_after weights last x ≡ true → P x) some (λ x known passes. known) all)) (e ∙ it)

-- only servers of some weight have turns
turns_weigh : (all : List ServerLoad) (n : ℕ) (servers : List ServerLoad) → ((k : ℕ) → weight_at servers k ≡ weight_at all (n + k)) →
    AllByRecursion (λ turn. nat_lt 0 (weight_at all turn.server) ≡ true) (turns_from n (weights_of servers))
turns_weigh all n [] same = tt
turns_weigh all n (server ∷ servers) same =
    all_append (λ turn. nat_lt 0 (weight_at all turn.server) ≡ true) (map (turn_of n) (range_with_len 0 server.weight)) (turns_from (n + 1) (weights_of servers))
    (all_map (λ turn. nat_lt 0 (weight_at all turn.server) ≡ true) (turn_of n) (range_with_len 0 server.weight) (here server.weight refl))
    (turns_weigh all (n + 1) servers (λ k. same (suc k) ∙ ap (weight_at all) (omega arith)))
  where
    here : (w : ℕ) → server.weight ≡ w → AllByRecursion (λ turn. nat_lt 0 (weight_at all n) ≡ true) (range_with_len 0 w)
    here zero e = tt
    here (suc w) e =
        let own : server.weight ≡ weight_at all n = same 0 ∙ ap (weight_at all) (omega arith) in
        let some : nat_lt 0 (weight_at all n) ≡ true = grind (arith, nat_tests, own, e) in
        all_each (λ turn. nat_lt 0 (weight_at all n) ≡ true) (range_with_len 0 (suc w)) (λ turn. some)

round_ready : (servers : List ServerLoad) (last : Option Place) (turn : Place) → next_turn servers last ≡ Some turn → is_ready_at servers turn.server ≡ true
round_ready servers last turn is =
    next_one (λ t. is_ready_at servers t.server ≡ true) (weights_of servers) last (filter (can_take servers) (turns servers)) turn
    (all_passing (λ t. is_ready_at servers t.server ≡ true) (can_take servers) (turns servers)
    (all_more (λ t. nat_lt 0 (weight_at servers t.server) ≡ true) (λ t. can_take servers t ≡ true → is_ready_at servers t.server ≡ true) (turns servers)
    (λ t weighs has. rw (weighs, has) refl) (turns_weigh servers 0 servers (λ k. ap (weight_at servers) (omega arith))))) is

-- By source.

pub share_weighs : (servers : List ServerLoad) (m first count k : ℕ) → total_weight (take first servers) ≤ m →
    find (λ n. nat_lt m (total_weight (take (n + 1) servers))) (range_with_len first count) ≡ Some k → 0 < weight_at servers k
share_weighs servers m first zero k low is = absurd (let wrong : None ≡ Some k = is in cc)
share_weighs servers m first (suc count) k low is = by (nat_lt m (total_weight (take (first + 1) servers))) refl (λ above found. share_weighs servers m (first + 1) count k above found)
  where
    more : total_weight (take (first + 1) servers) ≡ total_weight (take first servers) + weight_at servers first
    more = total_weight-more servers first

    by : (b : Bool) → nat_lt m (total_weight (take (first + 1) servers)) ≡ b →
        (total_weight (take (first + 1) servers) ≤ m → find (λ n. nat_lt m (total_weight (take (n + 1) servers))) (range_with_len (first + 1) count) ≡ Some k → 0 < weight_at servers k) →
        0 < weight_at servers k
    by true e later =
        let it : Some first ≡ Some k = rw e at is in
        let same : first ≡ k = cc in
        let below : m < total_weight (take (first + 1) servers) = grind (arith, nat_tests, e) in
        subst (λ n. 0 < weight_at servers n) same (omega (arith, below, low, more))
    by false e later =
        let above : total_weight (take (first + 1) servers) ≤ m = grind (arith, nat_tests, e) in
        later above (rw e at is)

source_ready : (servers : List ServerLoad) (source : Addr) (n : ℕ) → of_source servers source ≡ Some n → is_ready_at servers n ≡ true
source_ready servers source n is = by (total_weight servers == 0) refl
  where
    place : ℕ
    place = mixed source % total_weight servers

    room : (k : ℕ) (b : Bool) → has_room_at servers k ≡ b → share_of servers place ≡ Some k → (if b then Some k else None) ≡ Some n → is_ready_at servers n ≡ true
    room k true has found given =
        let same : k ≡ n = let it : Some k ≡ Some n = given in cc in
        let weighs : 0 < weight_at servers k = share_weighs servers place 0 (length servers) k (omega arith) found in
        let some : nat_lt 0 (weight_at servers k) ≡ true = grind (arith, nat_tests, weighs) in
        subst (λ m. is_ready_at servers m ≡ true) same (rw (some, has) refl)
    room k false has found given = absurd (let wrong : None ≡ Some n = given in cc)

    share : (o : Option ℕ) → share_of servers place ≡ o → option_and_then (λ k. if has_room_at servers k then Some k else None) o ≡ Some n → is_ready_at servers n ≡ true
    share None e given = absurd (let wrong : None ≡ Some n = given in cc)
    share (Some k) e given = room k (has_room_at servers k) refl e given

    by : (b : Bool) → (total_weight servers == 0) ≡ b → is_ready_at servers n ≡ true
    by true e = absurd (let wrong : None ≡ Some n = rw e at is in cc)
    by false e = share (share_of servers place) refl (rw e at is)

-- By each method.

-- the first turn of a server
first_turn : (o : Option ℕ) (turn : Place) → option_map (λ n. turn_of n 0) o ≡ Some turn → o ≡ Some turn.server
first_turn None turn is = absurd (let wrong : None ≡ Some turn = is in cc)
first_turn (Some n) turn is = let same : turn_of n 0 ≡ turn = let it : Some (turn_of n 0) ≡ Some turn = is in cc in ap (λ t. Some t.server) same

least_ready : (servers : List ServerLoad) (last : Option ℕ) (n : ℕ) → lightest servers last ≡ Some n → is_ready_at servers n ≡ true
least_ready servers last n is =
    let known : IsLightest servers n = subst (λ o. IfSome o (IsLightest servers)) is (lightest_is servers last) in
    known.ready

pub picked_ready : (servers : List ServerLoad) (method : Method) (last : Option Place) (source : Addr) (turn : Place) → picked servers method last source ≡ Some turn →
    is_ready_at servers turn.server ≡ true
picked_ready servers RoundRobin last source turn is = round_ready servers last turn is
picked_ready servers LeastConn last source turn is =
    let before : Option ℕ = option_map (λ turn. turn.server) last in
    least_ready servers before turn.server (first_turn (lightest servers before) turn is)
picked_ready servers Source last source turn is = source_ready servers source turn.server (first_turn (of_source servers source) turn is)
