-- Where no server is picked.
use Rattle.std.specs.Prelude.{ℕ, zero, suc, Bool, true, false, List, [], ◌∷◌, ◌++◌, length, take, filter, find, map, Option, Some, None, refl, ◌+◌, ◌%◌, ◌≤◌, ◌<◌, ◌≡◌, ◌⊎◌, ◌==◌, nat_lt, option_and_then, if◌then◌else◌}
use Rattle.std.specs.List.{range_with_len, AllByRecursion}
use Rattle.std.specs.Option.{option_or}
use Rattle.std.proofs.Common.{sym, ap, subst, arith, inl, inr}
use Rattle.std.proofs.lemmas.Bool.Decides.{nat_tests}
use Rattle.addr_core.specs.declared.addr.Addr.{Addr}
use Rattle.proxy_types.specs.declared.balance.Place.{Place}
use Rattle.balance_core.specs.declared.load.ServerLoad.{ServerLoad}
use Rattle.balance_core.specs.Loads.{has_room_at, is_ready_at, total_weight, weight_at}
use Rattle.balance_core.specs.Orders.{lesser, least}
use Rattle.balance_core.specs.Rounds.{can_take, comes_before, is_after, next_of, next_turn, turn_of, turns, turns_from, weights_of}
use Rattle.balance_core.specs.Source.{mixed, of_source, share_of}
use Rattle.balance_core.proofs.ReadyLemmas.{share_weighs}

-- Round robin.

-- some item is the least, where there is one
none_least : {X : Type 0} (before : X → X → Bool) (xs : List X) → least before xs ≡ None → xs ≡ []
none_least before [] is = refl
none_least {X} before (x ∷ xs) is = absurd (some (least before xs) is)
  where
    some : (o : Option X) → lesser before x o ≡ None → ⊥
    some None e = let wrong : Some x ≡ None = e in cc
    some (Some y) e = let wrong : Some (if before y x then y else x) ≡ None = e in cc

none_next : (weights : List ℕ) (last : Option Place) (some : List Place) → next_of weights last some ≡ None → some ≡ []
none_next weights last some is = none_least (comes_before weights) some (by (least (comes_before weights) (filter (is_after weights last) some)) is)
  where
    by : (o : Option Place) → option_or o (least (comes_before weights) some) ≡ None → least (comes_before weights) some ≡ None
    by None e = e
    by (Some turn) e = absurd (let wrong : Some turn ≡ None = e in cc)

none_passes : {X : Type 0} (test : X → Bool) (xs : List X) → filter test xs ≡ [] → AllByRecursion (λ x. test x ≡ false) xs
none_passes test [] is = tt
none_passes {X} test (x ∷ xs) is = by (test x) refl is (λ rest. none_passes test xs rest)
  where
    by : (b : Bool) → test x ≡ b → filter test (x ∷ xs) ≡ [] → (filter test xs ≡ [] → AllByRecursion (λ y. test y ≡ false) xs) → AllByRecursion (λ y. test y ≡ false) (x ∷ xs)
    by true e none more = absurd (let wrong : x ∷ filter test xs ≡ [] = rw e at none in cc)
    by false e none more = (e, more (rw e at none))

all_first : {X : Type 0} (P : X → Type 0) (xs ys : List X) → AllByRecursion P (xs ++ ys) → AllByRecursion P xs
all_first P [] ys all = tt
all_first P (x ∷ xs) ys all = (all.0, all_first P xs ys all.1)

all_second : {X : Type 0} (P : X → Type 0) (xs ys : List X) → AllByRecursion P (xs ++ ys) → AllByRecursion P ys
all_second P [] ys all = all
all_second P (x ∷ xs) ys all = all_second P xs ys all.1

-- a server of some weight has a first turn
has_turn : (P : Place → Type 0) (first : ℕ) (servers : List ServerLoad) (n : ℕ) → nat_lt 0 (weight_at servers n) ≡ true → AllByRecursion P (turns_from first (weights_of servers)) → P (turn_of (first + n) 0)
has_turn P first [] n weighs all = absurd (let wrong : false ≡ true = weighs in cc)
has_turn P first (server ∷ servers) zero weighs all = by server.weight weighs (all_first P (map (turn_of first) (range_with_len 0 server.weight)) (turns_from (first + 1) (weights_of servers)) all)
  where
    by : (weight : ℕ) → nat_lt 0 weight ≡ true → AllByRecursion P (map (turn_of first) (range_with_len 0 weight)) → P (turn_of (first + 0) 0)
    by zero some own = absurd (let wrong : false ≡ true = some in cc)
    by (suc weight) some own = let number : first + 0 ≡ first = omega arith in subst (λ n. P (turn_of n 0)) (sym number) own.0
has_turn P first (server ∷ servers) (suc n) weighs all =
    let number : first + 1 + n ≡ first + suc n = omega arith in
    subst (λ m. P (turn_of m 0)) number (has_turn P (first + 1) servers n weighs (all_second P (map (turn_of first) (range_with_len 0 server.weight)) (turns_from (first + 1) (weights_of servers)) all))

pub round_none : (servers : List ServerLoad) (last : Option Place) → next_turn servers last ≡ None → (n : ℕ) → is_ready_at servers n ≡ false
round_none servers last is n = by (nat_lt 0 (weight_at servers n)) refl
  where
    all : AllByRecursion (λ turn. can_take servers turn ≡ false) (turns servers)
    all = none_passes (can_take servers) (turns servers) (none_next (weights_of servers) last (filter (can_take servers) (turns servers)) is)

    by : (b : Bool) → nat_lt 0 (weight_at servers n) ≡ b → is_ready_at servers n ≡ false
    by true weighs =
        let number : 0 + n ≡ n = omega arith in
        let full : has_room_at servers n ≡ false = subst (λ m. has_room_at servers m ≡ false) number (has_turn (λ turn. can_take servers turn ≡ false) 0 servers n weighs all) in
        rw (weighs, full) refl
    by false weighs = rw weighs refl

-- By source.

all_taken : (servers : List ServerLoad) (n : ℕ) → n ≡ length servers → take n servers ≡ servers
all_taken [] zero is = refl
all_taken [] (suc n) is = refl
all_taken (server ∷ servers) zero is = absurd (omega (arith, is))
all_taken (server ∷ servers) (suc n) is = ap (λ rest. server ∷ rest) (all_taken servers n (omega (arith, is)))

none_shared : (servers : List ServerLoad) (m first count : ℕ) → first + count ≡ length servers → total_weight (take first servers) ≤ m →
    find (λ n. nat_lt m (total_weight (take (n + 1) servers))) (range_with_len first count) ≡ None → total_weight servers ≤ m
none_shared servers m first zero end low is =
    let here : first ≡ length servers = omega (arith, end) in
    subst (λ xs. total_weight xs ≤ m) (all_taken servers first here) low
none_shared servers m first (suc count) end low is = by (nat_lt m (total_weight (take (first + 1) servers))) refl (λ next. none_shared servers m (first + 1) count (omega (arith, end)) next)
  where
    by : (b : Bool) → nat_lt m (total_weight (take (first + 1) servers)) ≡ b →
        (total_weight (take (first + 1) servers) ≤ m → find (λ n. nat_lt m (total_weight (take (n + 1) servers))) (range_with_len (first + 1) count) ≡ None → total_weight servers ≤ m) → total_weight servers ≤ m
    by true e later = absurd (let wrong : Some first ≡ None = rw e at is in cc)
    by false e later = later (grind (arith, nat_tests, e)) (rw e at is)

-- what is found in a range is in it
found_within : (test : ℕ → Bool) (first count n : ℕ) → find test (range_with_len first count) ≡ Some n → n < first + count
found_within test first zero n is = absurd (let wrong : None ≡ Some n = is in cc)
found_within test first (suc count) n is = by (test first) refl (λ found. found_within test (first + 1) count n found)
  where
    by : (b : Bool) → test first ≡ b → (find test (range_with_len (first + 1) count) ≡ Some n → n < first + 1 + count) → n < first + suc count
    by true e later =
        let it : Some first ≡ Some n = rw e at is in
        let same : first ≡ n = cc in
        omega (arith, same)
    by false e later = let more : n < first + 1 + count = later (rw e at is) in omega (arith, more)

-- the server of a source is there, and has no room
pub record IsShareFull (servers : List ServerLoad) (source : Addr) : Type 0 where
  pub number : ℕ
  pub of_source : share_of servers (mixed source % total_weight servers) ≡ Some number
  pub there : number < length servers
  pub weighs : 0 < weight_at servers number
  pub full : has_room_at servers number ≡ false

pub source_none : (servers : List ServerLoad) (source : Addr) → of_source servers source ≡ None →
    (total_weight servers ≡ 0) ⊎ IsShareFull servers source
source_none servers source is = by (total_weight servers == 0) refl
  where
    place : ℕ
    place = mixed source % total_weight servers

    room : (n : ℕ) (b : Bool) → has_room_at servers n ≡ b → (if b then Some n else None) ≡ None → has_room_at servers n ≡ false
    room n true has given = absurd (let wrong : Some n ≡ None = given in cc)
    room n false has given = has

    share : (o : Option ℕ) → share_of servers place ≡ o → 0 < total_weight servers → option_and_then (λ n. if has_room_at servers n then Some n else None) o ≡ None →
        (total_weight servers ≡ 0) ⊎ IsShareFull servers source
    share None e some given =
        let high : total_weight servers ≤ place = none_shared servers place 0 (length servers) (omega arith) (omega arith) e in
        let low : place < total_weight servers = omega (arith, some) in
        absurd (omega (arith, high, low))
    share (Some n) e some given =
        let below : n < 0 + length servers = found_within (λ k. nat_lt place (total_weight (take (k + 1) servers))) 0 (length servers) n e in
        inr (record { number = n; of_source = e; there = omega (arith, below); weighs = share_weighs servers place 0 (length servers) n (omega arith) e; full = room n (has_room_at servers n) refl given })

    by : (b : Bool) → (total_weight servers == 0) ≡ b → (total_weight servers ≡ 0) ⊎ IsShareFull servers source
    by true e = inl (grind (arith, nat_tests, e))
    by false e = share (share_of servers place) refl (grind (arith, nat_tests, e)) (rw e at is)
