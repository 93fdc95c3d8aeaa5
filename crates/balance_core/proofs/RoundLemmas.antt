-- The next place of a cycle has the next turn.
use Rattle.std.proofs.Common.{◌≡◌, ℕ, zero, suc, ◌<◌, ◌≤◌, ◌+◌, ◌-◌, ◌*◌, Bool, true, false, List, [], ◌∷◌, ◌++◌, length, take, drop, Option, Some, None, refl, sym, ap, ◌∙◌, arith, filter, min}
use Rattle.std.specs.Prelude.{find, slice_get, nat_lt, option_map, ◌==◌, ◌&&◌, ◌||◌, IfSome}
use Rattle.std.specs.Option.{option_map_or, option_or}
use Rattle.std.specs.List.{range_with_len, list_any}
use Rattle.std.specs.List.Sorted.{IsPermutation}
use Rattle.std.proofs.lemmas.Bool.Decides.{nat_tests}
use Rattle.std.proofs.lemmas.List.{take-append-drop}
use Rattle.std.proofs.lemmas.List.Elements.{All-from_recursion, recursion_from_All}
use Rattle.std.proofs.lemmas.List.Folds.{find-append}
use Rattle.std.proofs.lemmas.List.Sorted.{All-permutation, Contains-permutation, IsPermutation-sym}
use Rattle.balance_core.specs.declared.load.ServerLoad.{ServerLoad}
use Rattle.proxy_types.specs.declared.balance.Place.{Place}
use Rattle.balance_core.specs.Loads.{has_room_at, room_in, first_after, going_round}
use Rattle.balance_core.specs.Orders.{least, IsInOrder}
use Rattle.balance_core.specs.Least.{lightest}
use Rattle.balance_core.specs.Picks.{picked, used_after, used_now}
use Rattle.addr_core.specs.declared.addr.Addr.{Addr}
use Rattle.proxy_types.specs.declared.balance.Method.{Method}
use Rattle.proxy_types.specs.declared.balance.Method.TheVariants.{RoundRobin, LeastConn, Source}
use Rattle.balance_core.specs.Rounds.{turn_of, turns_from, weights_of, weight_in, comes_before, is_after, next_of, can_take, next_turn}
use Rattle.balance_core.specs.Cycles.{IsRound, turn_at, server_at, placed_at, passes_at, next_place}
use Rattle.list_core.proofs.PlaceLemmas.{find-passes}
use Rattle.balance_core.proofs.OrderLemmas.{IsOneWay, least_sorted, after_is_drop, filter_both, find_both}

-- a turn that comes before another does not come after it
pub one_way : (weights : List ℕ) → IsOneWay (comes_before weights)
one_way weights a b e =
    either ((2 * a.turn + 1) * weight_in weights b.server) ((2 * b.turn + 1) * weight_in weights a.server) a.server b.server e
  where
    either : (m n s t : ℕ) → (nat_lt m n || ((m == n) && nat_lt s t)) ≡ true → (nat_lt n m || ((n == m) && nat_lt t s)) ≡ false
    either m n s t e = by (nat_lt m n) refl (m == n) refl (nat_lt s t) refl e
      where
        by : (l : Bool) → nat_lt m n ≡ l → (q : Bool) → (m == n) ≡ q → (r : Bool) → nat_lt s t ≡ r → (nat_lt m n || ((m == n) && nat_lt s t)) ≡ true
            → (nat_lt n m || ((n == m) && nat_lt t s)) ≡ false
        by true is q level r first e =
            let a : nat_lt n m ≡ false = grind (arith, nat_tests) in
            let b : (n == m) ≡ false = grind (arith, nat_tests) in
            rw (a, b) refl
        by false is true level true first e =
            let a : nat_lt n m ≡ false = grind (arith, nat_tests) in
            let b : nat_lt t s ≡ false = grind (arith, nat_tests) in
            rw (a, b) (both (n == m))
          where
            both : (b : Bool) → (b && false) ≡ false
            both true = refl
            both false = refl
        by false is true level false first e = absurd (let wrong : false ≡ true = rw (is, level, first) at e in cc)
        by false is false level r first e = absurd (let wrong : false ≡ true = rw (is, level) at e in cc)

-- Turns of a cycle are those of its round.

pub least_in_cycle : (weights : List ℕ) (cycle : List Place) → IsRound weights cycle → (p : Place → Bool) → least (comes_before weights) (filter p (turns_from 0 weights)) ≡ find p cycle
least_in_cycle weights cycle round p =
    least_sorted (comes_before weights) (one_way weights) p (turns_from 0 weights) cycle round.sorted
    (λ P all. recursion_from_All P (turns_from 0 weights) (All-permutation P cycle (turns_from 0 weights) back (All-from_recursion P cycle all)))
    (λ x there. Contains-permutation cycle (turns_from 0 weights) x back there)
  where
    back : IsPermutation cycle (turns_from 0 weights)
    back = IsPermutation-sym (turns_from 0 weights) cycle round.turns

-- the first turns of those that pass, after the last one, going round
after_last : (weights : List ℕ) (cycle : List Place) → IsRound weights cycle → (p : Place → Bool) (last : Option Place)
    → next_of weights last (filter p (turns_from 0 weights)) ≡ option_or (find p (filter (is_after weights last) cycle)) (find p cycle)
after_last weights cycle round p last =
    ap (λ some. option_or (least (comes_before weights) some) (least (comes_before weights) (filter p (turns_from 0 weights)))) (filter_both p (is_after weights last) (turns_from 0 weights))
    ∙ ap (λ o. option_or o (least (comes_before weights) (filter p (turns_from 0 weights)))) (least_in_cycle weights cycle round (λ x. is_after weights last x && p x))
    ∙ ap (λ o. option_or o (least (comes_before weights) (filter p (turns_from 0 weights)))) (find_both p (is_after weights last) cycle)
    ∙ ap (λ o. option_or (find p (filter (is_after weights last) cycle)) o) (least_in_cycle weights cycle round p)

-- where to go on in the list
rest_after : (weights : List ℕ) (cycle : List Place) → IsInOrder (comes_before weights) cycle → (last : Option ℕ) → (p : Place → Bool)
    → option_or (find p (filter (is_after weights (turn_at cycle last)) cycle)) (find p cycle)
    ≡ option_or (find p (drop (first_after last (length cycle)) cycle)) (find p (take (first_after last (length cycle)) cycle))
rest_after weights cycle order None p = no_last weights cycle p ∙ whole (find p cycle)
  where
    whole : (o : Option Place) → o ≡ option_or o None
    whole None = refl
    whole (Some x) = refl

    no_last : (weights : List ℕ) (cycle : List Place) (p : Place → Bool) → option_or (find p (filter (is_after weights None) cycle)) (find p cycle) ≡ find p cycle
    no_last weights cycle p = ap (λ xs. option_or (find p xs) (find p cycle)) (all cycle) ∙ twice (find p cycle)
      where
        all : (xs : List Place) → filter (is_after weights None) xs ≡ xs
        all [] = refl
        all (x ∷ xs) = ap (λ ys. x ∷ ys) (all xs)

        twice : (o : Option Place) → option_or o o ≡ o
        twice None = refl
        twice (Some x) = refl
rest_after weights cycle order (Some n) p = by (slice_get cycle n) refl
  where
    all : (xs : List Place) → filter (is_after weights None) xs ≡ xs
    all [] = refl
    all (x ∷ xs) = ap (λ ys. x ∷ ys) (all xs)

    twice : (o : Option Place) → option_or o o ≡ o
    twice None = refl
    twice (Some x) = refl

    past : {X : Type 0} (xs : List X) (n : ℕ) → slice_get xs n ≡ None → length xs ≤ n
    past [] n e = omega arith
    past (x ∷ xs) zero e = absurd (cc)
    past (x ∷ xs) (suc n) e = let more : length xs ≤ n = past xs n e in omega (arith, more)

    there : {X : Type 0} (xs : List X) (n : ℕ) (x : X) → slice_get xs n ≡ Some x → n < length xs
    there [] n x e = absurd (cc)
    there (y ∷ xs) zero x e = omega arith
    there (y ∷ xs) (suc n) x e = let more : n < length xs = there xs n x e in omega (arith, more)

    drop_all : {X : Type 0} (xs : List X) → drop (length xs) xs ≡ []
    drop_all [] = refl
    drop_all (x ∷ xs) = drop_all xs

    take_all : {X : Type 0} (xs : List X) → take (length xs) xs ≡ xs
    take_all [] = refl
    take_all (x ∷ xs) = ap (λ ys. x ∷ ys) (take_all xs)

    again : (o q : Option Place) → option_or o (option_or q o) ≡ option_or o q
    again None None = refl
    again None (Some y) = refl
    again (Some x) q = refl

    by : (o : Option Place) → slice_get cycle n ≡ o
        → option_or (find p (filter (is_after weights o) cycle)) (find p cycle)
        ≡ option_or (find p (drop (min (n + 1) (length cycle)) cycle)) (find p (take (min (n + 1) (length cycle)) cycle))
    by None is =
        let long : length cycle ≤ n = past cycle n is in
        let end : min (n + 1) (length cycle) ≡ length cycle = omega (arith, long) in
        ap (λ xs. option_or (find p xs) (find p cycle)) (all cycle) ∙ twice (find p cycle)
        ∙ sym (ap (λ k. option_or (find p (drop k cycle)) (find p (take k cycle))) end
        ∙ ap (λ xs. option_or (find p xs) (find p (take (length cycle) cycle))) (drop_all cycle)
        ∙ ap (find p) (take_all cycle))
    by (Some x) is =
        let low : n < length cycle = there cycle n x is in
        let end : min (n + 1) (length cycle) ≡ suc n = omega (arith, low) in
        let parts : find p cycle ≡ option_or (find p (take (suc n) cycle)) (find p (drop (suc n) cycle)) =
        ap (find p) (sym (take-append-drop (suc n) cycle)) ∙ find-append p (take (suc n) cycle) (drop (suc n) cycle) in
        ap (λ xs. option_or (find p xs) (find p cycle)) (after_is_drop (comes_before weights) (one_way weights) cycle n x order is)
        ∙ ap (λ o. option_or (find p (drop (suc n) cycle)) o) parts
        ∙ again (find p (drop (suc n) cycle)) (find p (take (suc n) cycle))
        ∙ sym (ap (λ k. option_or (find p (drop k cycle)) (find p (take k cycle))) end)

-- the next of some turns is the first of them that passes, from the place after the last one on
next_in_cycle : (weights : List ℕ) (cycle : List Place) → IsRound weights cycle → (p : Place → Bool) (last : Option ℕ)
    → next_of weights (turn_at cycle last) (filter p (turns_from 0 weights)) ≡ find p (drop (first_after last (length cycle)) cycle ++ take (first_after last (length cycle)) cycle)
next_in_cycle weights cycle round p last =
    after_last weights cycle round p (turn_at cycle last) ∙ rest_after weights cycle round.sorted last p
    ∙ sym (find-append p (drop (first_after last (length cycle)) cycle) (take (first_after last (length cycle)) cycle))

-- the first that passes is the first of its server, where all of a server pass or none
first_of_server : (servers : List ServerLoad) (xs : List Place) (turn : Place) → find (can_take servers) xs ≡ Some turn → find (λ other. other.server == turn.server) xs ≡ Some turn
first_of_server servers [] turn e = absurd (cc)
first_of_server servers (x ∷ xs) turn e = by (can_take servers x) refl e (first_of_server servers xs turn) (find-passes (can_take servers) (x ∷ xs) turn e)
  where
    itself : (n : ℕ) → (n == n) ≡ true
    itself n = grind (arith, nat_tests)

    one : (m n : ℕ) → (m == n) ≡ true → m ≡ n
    one m n e = grind (arith, nat_tests)

    by : (b : Bool) → can_take servers x ≡ b → find (can_take servers) (x ∷ xs) ≡ Some turn → (find (can_take servers) xs ≡ Some turn → find (λ other. other.server == turn.server) xs ≡ Some turn)
        → can_take servers turn ≡ true → find (λ other. other.server == turn.server) (x ∷ xs) ≡ Some turn
    by true is e more passes =
        let it : Some x ≡ Some turn = rw is at e in
        let same : x ≡ turn = cc in
        let own : (x.server == turn.server) ≡ true = ap (λ a. a.server == turn.server) same ∙ itself turn.server in
        rw own it
    by false is e more passes = other (x.server == turn.server) refl
      where
        other : (t : Bool) → (x.server == turn.server) ≡ t → find (λ other. other.server == turn.server) (x ∷ xs) ≡ Some turn
        other false differ = rw differ (more (rw is at e))
        other true same =
            let room : can_take servers x ≡ true = ap (has_room_at servers) (one x.server turn.server same) ∙ passes in
            absurd (let wrong : true ≡ false = sym room ∙ is in cc)

pub offer_moves : (servers : List ServerLoad) (cycle : List Place) (method : Method) (last : Option ℕ) (source : Addr) (turn : Place) → IsRound (weights_of servers) cycle
    → picked servers method (turn_at cycle last) source ≡ Some turn
    → used_after (weights_of servers) method (turn_at cycle last) turn.server ≡ used_now method (turn_at cycle last) turn
offer_moves servers cycle RoundRobin last source turn round e =
    next_in_cycle (weights_of servers) cycle round (λ other. other.server == turn.server) last
    ∙ first_of_server servers (drop (first_after last (length cycle)) cycle ++ take (first_after last (length cycle)) cycle) turn
    (sym (next_in_cycle (weights_of servers) cycle round (can_take servers) last) ∙ e)
offer_moves servers cycle LeastConn last source turn round e = first (lightest servers (option_map (λ turn. turn.server) (turn_at cycle last))) e
  where
    first : (o : Option ℕ) → option_map (λ n. turn_of n 0) o ≡ Some turn → Some (turn_of turn.server 0) ≡ Some turn
    first None e = absurd (cc)
    first (Some n) e = let same : turn_of n 0 ≡ turn = cc in ap (λ t. Some (turn_of t.server 0)) (sym same) ∙ e
offer_moves servers cycle Source last source turn round e = refl

-- Places of a cycle.

abbrev has : (ℕ → Bool) → Place → Bool
has room turn = room turn.server

drop_here : {X : Type 0} (xs : List X) (n : ℕ) (x : X) → slice_get xs n ≡ Some x → drop n xs ≡ x ∷ drop (n + 1) xs
drop_here [] n x e = absurd (cc)
drop_here (y ∷ xs) zero x e = let same : y ≡ x = cc in ap (λ a. a ∷ xs) same
drop_here (y ∷ xs) (suc n) x e =
    let f : suc n + 1 ≡ suc (n + 1) = omega arith in
    rw f (drop_here xs n x e)

within : {X : Type 0} (xs : List X) (n : ℕ) → n < length xs → slice_get xs n ≡ None → ⊥
within [] n lt e = absurd (omega (arith, lt))
within (x ∷ xs) zero lt e = absurd (cc)
within (x ∷ xs) (suc n) lt e = within xs n (omega (arith, lt)) e

found_turn : (room : ℕ → Bool) (cycle : List Place) (b k : ℕ) → b + k ≤ length cycle → turn_at cycle (find (passes_at room cycle) (range_with_len b k)) ≡ find (has room) (take k (drop b cycle))
found_turn room cycle b zero fits = refl
found_turn room cycle b (suc k) fits = by (slice_get cycle b) refl (found_turn room cycle (b + 1) k (omega (arith, fits)))
  where
    by : (o : Option Place) → slice_get cycle b ≡ o → turn_at cycle (find (passes_at room cycle) (range_with_len (b + 1) k)) ≡ find (has room) (take k (drop (b + 1) cycle))
        → turn_at cycle (find (passes_at room cycle) (range_with_len b (suc k))) ≡ find (has room) (take (suc k) (drop b cycle))
    by None is more = absurd (within cycle b (omega (arith, fits)) is)
    by (Some x) is more = test (has room x) refl
      where
        test : (t : Bool) → has room x ≡ t → turn_at cycle (find (passes_at room cycle) (range_with_len b (suc k))) ≡ find (has room) (take (suc k) (drop b cycle))
        test true passes =
            let own : passes_at room cycle b ≡ true = ap (λ o. option_map_or (has room) o false) is ∙ passes in
            rw (own, drop_here cycle b x is) (is ∙ rw passes refl)
        test false fails =
            let own : passes_at room cycle b ≡ false = ap (λ o. option_map_or (has room) o false) is ∙ fails in
            rw (own, drop_here cycle b x is) (more ∙ rw fails refl)

-- what is found first in two parts is there
either_part : (room : ℕ → Bool) (cycle : List Place) (xs ys : List ℕ)
    → turn_at cycle (find (passes_at room cycle) (xs ++ ys)) ≡ option_or (turn_at cycle (find (passes_at room cycle) xs)) (turn_at cycle (find (passes_at room cycle) ys))
either_part room cycle xs ys = ap (turn_at cycle) (find-append (passes_at room cycle) xs ys) ∙ by (find (passes_at room cycle) xs) refl
  where
    by : (o : Option ℕ) → find (passes_at room cycle) xs ≡ o → turn_at cycle (option_or o (find (passes_at room cycle) ys)) ≡ option_or (turn_at cycle o) (turn_at cycle (find (passes_at room cycle) ys))
    by None is = refl
    by (Some n) is = at (slice_get cycle n) refl
      where
        at : (t : Option Place) → slice_get cycle n ≡ t → turn_at cycle (Some n) ≡ option_or (turn_at cycle (Some n)) (turn_at cycle (find (passes_at room cycle) ys))
        at None none =
            let passes : passes_at room cycle n ≡ true = find-passes (passes_at room cycle) xs n is in
            let fails : passes_at room cycle n ≡ false = ap (λ o. option_map_or (has room) o false) none in
            absurd (let wrong : true ≡ false = sym passes ∙ fails in cc)
        at (Some x) some = rw some refl

place_of : (cycle : List Place) (o : Option ℕ) → option_map (λ placed. placed.place) (option_map (placed_at cycle) o) ≡ o
place_of cycle None = refl
place_of cycle (Some n) = refl

first_fits : (last : Option ℕ) (count : ℕ) → first_after last count ≤ count
first_fits None count = omega arith
first_fits (Some n) count = omega arith

-- the next place has the first turn with room after the last one, going round
round_of : (room : ℕ → Bool) (cycle : List Place) (last : Option ℕ)
    → turn_at cycle (option_map (λ placed. placed.place) (next_place room cycle last))
    ≡ option_or (find (has room) (drop (first_after last (length cycle)) cycle)) (find (has room) (take (first_after last (length cycle)) cycle))
round_of room cycle last =
    let begin : ℕ = first_after last (length cycle) in
    let fits : begin ≤ length cycle = first_fits last (length cycle) in
    ap (turn_at cycle) (place_of cycle (find (passes_at room cycle) (going_round last (length cycle))))
    ∙ either_part room cycle (range_with_len begin (length cycle - begin)) (range_with_len 0 begin)
    ∙ ap (λ o. option_or o (turn_at cycle (find (passes_at room cycle) (range_with_len 0 begin)))) (found_turn room cycle begin (length cycle - begin) (omega (arith, fits)))
    ∙ ap (λ o. option_or (find (has room) (take (length cycle - begin) (drop begin cycle))) o) (found_turn room cycle 0 begin (omega (arith, fits)))
    ∙ ap (λ xs. option_or (find (has room) xs) (find (has room) (take begin cycle))) (take_rest begin cycle fits)
  where
    take_rest : {X : Type 0} (n : ℕ) (xs : List X) → n ≤ length xs → take (length xs - n) (drop n xs) ≡ drop n xs
    take_rest zero xs le = take_all xs (length xs - 0) (omega arith)
      where
        take_all : {X : Type 0} (xs : List X) (k : ℕ) → k ≡ length xs → take k xs ≡ xs
        take_all [] zero e = refl
        take_all [] (suc k) e = refl
        take_all (x ∷ xs) zero e = absurd (omega (arith, e))
        take_all (x ∷ xs) (suc k) e = ap (λ ys. x ∷ ys) (take_all xs k (omega (arith, e)))
    take_rest (suc n) [] le = absurd (omega (arith, le))
    take_rest (suc n) (x ∷ xs) le =
        let e : suc (length xs) - suc n ≡ length xs - n = omega arith in
        rw e (take_rest n xs (omega (arith, le)))

pub next_is : (servers : List ServerLoad) (cycle : List Place) (last : Option ℕ) → IsRound (weights_of servers) cycle
    → turn_at cycle (option_map (λ placed. placed.place) (next_place (has_room_at servers) cycle last)) ≡ next_turn servers (turn_at cycle last)
next_is servers cycle last round =
    round_of (has_room_at servers) cycle last
    ∙ sym (after_last (weights_of servers) cycle round (can_take servers) (turn_at cycle last)
    ∙ rest_after (weights_of servers) cycle round.sorted last (can_take servers))

pub place_has_server : (room : ℕ → Bool) (cycle : List Place) (last : Option ℕ)
    → IfSome (next_place room cycle last) (λ placed. option_map (λ turn. turn.server) (slice_get cycle placed.place) ≡ Some placed.server)
place_has_server room cycle last = by (find (passes_at room cycle) (going_round last (length cycle))) refl
  where
    by : (o : Option ℕ) → find (passes_at room cycle) (going_round last (length cycle)) ≡ o
        → IfSome (option_map (placed_at cycle) o) (λ placed. option_map (λ turn. turn.server) (slice_get cycle placed.place) ≡ Some placed.server)
    by None is = tt
    by (Some n) is = at (slice_get cycle n) refl
      where
        at : (t : Option Place) → slice_get cycle n ≡ t → option_map (λ turn. turn.server) (slice_get cycle n) ≡ Some (server_at cycle n)
        at None none =
            let passes : passes_at room cycle n ≡ true = find-passes (passes_at room cycle) (going_round last (length cycle)) n is in
            let fails : passes_at room cycle n ≡ false = ap (λ o. option_map_or (has room) o false) none in
            absurd (let wrong : true ≡ false = sym passes ∙ fails in cc)
        at (Some x) some = rw some refl

-- tests that answer alike find alike
pub same_place : (room other : ℕ → Bool) → ((n : ℕ) → room n ≡ other n) → (cycle : List Place) (last : Option ℕ) → next_place room cycle last ≡ next_place other cycle last
same_place room other same cycle last = ap (option_map (placed_at cycle)) (each (going_round last (length cycle)))
  where
    one : (n : ℕ) → passes_at room cycle n ≡ passes_at other cycle n
    one n = by (slice_get cycle n) refl
      where
        by : (o : Option Place) → slice_get cycle n ≡ o → passes_at room cycle n ≡ passes_at other cycle n
        by None is = rw is refl
        by (Some x) is = rw is (same x.server)

    each : (ns : List ℕ) → find (passes_at room cycle) ns ≡ find (passes_at other cycle) ns
    each [] = refl
    each (n ∷ ns) = by (passes_at other cycle n) refl (each ns)
      where
        by : (b : Bool) → passes_at other cycle n ≡ b → find (passes_at room cycle) ns ≡ find (passes_at other cycle) ns → find (passes_at room cycle) (n ∷ ns) ≡ find (passes_at other cycle) (n ∷ ns)
        by true is more = rw (one n ∙ is, is) refl
        by false is more = rw (one n ∙ is, is) more

-- where no server has room there is no place
pub no_place : (rooms : List Bool) (cycle : List Place) (last : Option ℕ) → list_any (λ room. room) rooms ≡ false → next_place (room_in rooms) cycle last ≡ None
no_place rooms cycle last none = ap (option_map (placed_at cycle)) (nowhere (going_round last (length cycle)))
  where
    no_room : (rooms : List Bool) (n : ℕ) → list_any (λ room. room) rooms ≡ false → room_in rooms n ≡ false
    no_room [] n e = refl
    no_room (true ∷ rooms) n e = absurd (cc)
    no_room (false ∷ rooms) zero e = refl
    no_room (false ∷ rooms) (suc n) e = no_room rooms n e

    fails : (n : ℕ) → passes_at (room_in rooms) cycle n ≡ false
    fails n = by (slice_get cycle n) refl
      where
        by : (o : Option Place) → slice_get cycle n ≡ o → passes_at (room_in rooms) cycle n ≡ false
        by None is = rw is refl
        by (Some x) is = rw is (no_room rooms x.server none)

    nowhere : (ns : List ℕ) → find (passes_at (room_in rooms) cycle) ns ≡ None
    nowhere [] = refl
    nowhere (n ∷ ns) = rw (fails n) (nowhere ns)
