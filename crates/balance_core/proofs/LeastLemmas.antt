-- No server that is ready is lighter than the lightest.
use Rattle.std.proofs.Common.{◌≡◌, ℕ, zero, suc, ◌<◌, ◌≤◌, ◌+◌, ◌*◌, ◌-◌, Bool, true, false, List, [], ◌∷◌, ◌++◌, length, Option, Some, None, refl, sym, ap, ◌∙◌, arith, filter, subst, if◌then◌else◌}
use Rattle.std.specs.Prelude.{nat_lt, IfSome, ◌==◌, ◌&&◌}
use Rattle.std.specs.List.{range_with_len, AllByRecursion}
use Rattle.std.proofs.Math.Nat.{mul-le-mul_right, le_of_mul-le-mul_right}
use Rattle.std.proofs.lemmas.Bool.Decides.{nat_tests}
use Rattle.std.proofs.Math.Nat.{sub-zero}
use Rattle.std.proofs.lemmas.List.{append-nil}
use Rattle.std.proofs.lemmas.List.Elements.{filter-append}
use Rattle.balance_core.specs.declared.load.ServerLoad.{ServerLoad}
use Rattle.balance_core.specs.Loads.{weight_at, connections_at, is_ready_at, first_after, going_round}
use Rattle.balance_core.specs.Orders.{lesser, least}
use Rattle.balance_core.proofs.OrderLemmas.{all_map, not_itself}
use Rattle.balance_core.specs.Least.{is_lighter, lightest, IsLightest}

-- among the items that pass, where no item that passes comes before one that another does not come before
abbrev Goes : {X : Type 0} → (X → X → Bool) → (X → Bool) → Type 0
Goes {X} before ready = (a b c : X) → ready b ≡ true → before b a ≡ false → before c b ≡ false → before c a ≡ false

itself_not : (a b : ℕ) → nat_lt (a * b) (a * b) ≡ false
itself_not a b = grind (arith, nat_tests)

not_less : (m n : ℕ) → nat_lt m n ≡ false → n ≤ m
not_less m n e = grind (arith, nat_tests)

less_not : (m n : ℕ) → n ≤ m → nat_lt m n ≡ false
less_not m n le = grind (arith, nat_tests)

above : (n : ℕ) → nat_lt 0 n ≡ true → 0 < n
above n e = grind (arith, nat_tests)

both_true : (a b : Bool) → (a && b) ≡ true → a ≡ true
both_true true b e = refl
both_true false b e = absurd (cc)

pub lighter_goes : (servers : List ServerLoad) → Goes (is_lighter servers) (is_ready_at servers)
lighter_goes servers a b c ready ba cb =
    let wa : ℕ = weight_at servers a in
    let wb : ℕ = weight_at servers b in
    let wc : ℕ = weight_at servers c in
    let some : 0 < wb = above wb (both_true (nat_lt 0 wb) _ ready) in
    let h : connections_at servers a * wb ≤ connections_at servers b * wa = not_less _ _ ba in
    let k : connections_at servers b * wc ≤ connections_at servers c * wb = not_less _ _ cb in
    let h' : connections_at servers a * wb * wc ≤ connections_at servers b * wa * wc = mul-le-mul_right wc h in
    let k' : connections_at servers b * wc * wa ≤ connections_at servers c * wb * wa = mul-le-mul_right wa k in
    let m : connections_at servers a * wc * wb ≤ connections_at servers c * wa * wb = omega (arith, h', k') in
    less_not (connections_at servers c * wa) (connections_at servers a * wc) (le_of_mul-le-mul_right m some)

-- the least of what passes passes, and nothing that passes comes before it
pub record IsLeast {X : Type 0} (before : X → X → Bool) (ready : X → Bool) (xs : List X) (n : X) : Type 0 where
  pub passes : ready n ≡ true
  pub lowest : AllByRecursion (λ m. ready m ≡ true → before m n ≡ false) xs

lighter_not : (servers : List ServerLoad) (a b : ℕ) → is_lighter servers a b ≡ true → is_lighter servers b a ≡ false
lighter_not servers a b e = less_back (connections_at servers a * weight_at servers b) (connections_at servers b * weight_at servers a) e
  where
    less_back : (m n : ℕ) → nat_lt m n ≡ true → nat_lt n m ≡ false
    less_back m n e = grind (arith, nat_tests)

none_is : {X : Type 0} (before : X → X → Bool) (ready : X → Bool) (xs : List X) → least before (filter ready xs) ≡ None → AllByRecursion (λ m. ready m ≡ false) xs
none_is before ready [] e = tt
none_is {X} before ready (x ∷ xs) e = by (ready x) refl e (none_is before ready xs)
  where
    never : (o : Option X) → lesser before x o ≡ None → ⊥
    never None e = absurd (cc)
    never (Some y) e = absurd (cc)

    by : (b : Bool) → ready x ≡ b → least before (filter ready (x ∷ xs)) ≡ None → (least before (filter ready xs) ≡ None → AllByRecursion (λ m. ready m ≡ false) xs)
        → AllByRecursion (λ m. ready m ≡ false) (x ∷ xs)
    by true is e more = absurd (never (least before (filter ready xs)) (rw is at e))
    by false is e more = (is, more (rw is at e))

chosen : {X : Type 0} (before : X → X → Bool) (ready : X → Bool) → Goes before ready → ((a b : X) → before a b ≡ true → before b a ≡ false) → (x : X) (xs : List X) (y : X) (t : Bool)
    → before y x ≡ t → ready x ≡ true → IsLeast before ready xs y → IsLeast before ready (x ∷ xs) (if t then y else x)
chosen before ready goes back x xs y true is here that = record { passes = that.passes; lowest = (λ r. back y x is, that.lowest) }
chosen before ready goes back x xs y false is here that = record {
  passes = here;
  lowest = (λ r. not_itself before back x, all_map (λ m low r. goes x y m that.passes is (low r)) xs that.lowest);
}

least_is : {X : Type 0} (before : X → X → Bool) (ready : X → Bool) → Goes before ready → ((a b : X) → before a b ≡ true → before b a ≡ false) → (xs : List X) (n : X)
    → least before (filter ready xs) ≡ Some n → IsLeast before ready xs n
least_is before ready goes back [] n e = absurd (cc)
least_is {X} before ready goes back (x ∷ xs) n e = by (ready x) refl (least before (filter ready xs)) refl e (λ m. least_is before ready goes back xs m)
  where
    by : (b : Bool) → ready x ≡ b → (o : Option X) → least before (filter ready xs) ≡ o → least before (filter ready (x ∷ xs)) ≡ Some n
        → ((m : X) → least before (filter ready xs) ≡ Some m → IsLeast before ready xs m) → IsLeast before ready (x ∷ xs) n
    by true is None none e more =
        let it : Some x ≡ Some n = rw (is, none) at e in
        let same : x ≡ n = cc in
        let alone : IsLeast before ready (x ∷ xs) x = record {
          passes = is;
          lowest = (λ r. not_itself before back x, all_map (λ m no r. absurd (let wrong : true ≡ false = sym r ∙ no in cc)) xs (none_is before ready xs none));
        } in
        let P : X → Type 0 = λ k. IsLeast before ready (x ∷ xs) k in
        subst P same alone
    by true is (Some y) some e more =
        let it : Some (if before y x then y else x) ≡ Some n = rw (is, some) at e in
        let same : (if before y x then y else x) ≡ n = cc in
        let P : X → Type 0 = λ k. IsLeast before ready (x ∷ xs) k in
        subst P same (chosen before ready goes back x xs y (before y x) refl is (more y some))
    by false is o at e more =
        let that : IsLeast before ready xs n = more n (rw is at e) in
        record { passes = that.passes; lowest = (λ r. absurd (let wrong : true ≡ false = sym r ∙ is in cc), that.lowest) }

-- All numbers of a round.

all_first : (P : ℕ → Type 0) (xs ys : List ℕ) → AllByRecursion P (xs ++ ys) → AllByRecursion P xs
all_first P [] ys all = tt
all_first P (x ∷ xs) ys all = (all.0, all_first P xs ys all.1)

all_second : (P : ℕ → Type 0) (xs ys : List ℕ) → AllByRecursion P (xs ++ ys) → AllByRecursion P ys
all_second P [] ys all = all
all_second P (x ∷ xs) ys all = all_second P xs ys all.1

all_in_range : (P : ℕ → Type 0) (a k m : ℕ) → AllByRecursion P (range_with_len a k) → a ≤ m → m < a + k → P m
all_in_range P a zero m all low high = absurd (omega (arith, low, high))
all_in_range P a (suc k) m all low high = by (a == m) refl (λ next. all_in_range P (a + 1) k m all.1 next (omega (arith, high)))
  where
    by : (b : Bool) → (a == m) ≡ b → (a + 1 ≤ m → P m) → P m
    by true is later = let same : a ≡ m = grind (arith, nat_tests) in subst P same all.0
    by false is later = later (grind (arith, nat_tests))

pub all_in_round : (P : ℕ → Type 0) (last : Option ℕ) (count m : ℕ) → AllByRecursion P (going_round last count) → m < count → P m
all_in_round P last count m all lt = by (nat_lt m (first_after last count)) refl
  where
    by : (b : Bool) → nat_lt m (first_after last count) ≡ b → P m
    by true is =
        all_in_range P 0 (first_after last count) m
        (all_second P (range_with_len (first_after last count) (count - first_after last count)) (range_with_len 0 (first_after last count)) all) (omega arith) (grind (arith, nat_tests))
    by false is =
        all_in_range P (first_after last count) (count - first_after last count) m
        (all_first P (range_with_len (first_after last count) (count - first_after last count)) (range_with_len 0 (first_after last count)) all)
        (not_less m (first_after last count) is) (let low : first_after last count ≤ m = not_less m (first_after last count) is in omega (arith, low, lt))

-- a server that is ready is there
ready_there : (servers : List ServerLoad) (m : ℕ) → is_ready_at servers m ≡ true → m < length servers
ready_there [] m e = absurd (cc)
ready_there (server ∷ servers) zero e = omega arith
ready_there (server ∷ servers) (suc m) e = let more : m < length servers = ready_there servers m e in omega (arith, more)

-- what goes through the second part of a round and then through the first gives the lightest
pub picked_is : (servers : List ServerLoad) (last later r : Option ℕ) (begin count : ℕ) → begin ≡ first_after last count → count ≡ length servers
    → later ≡ least (is_lighter servers) (filter (is_ready_at servers) (range_with_len 0 (begin - 0)) ++ [])
    → ((rest : List ℕ) → later ≡ least (is_lighter servers) rest → r ≡ least (is_lighter servers) (filter (is_ready_at servers) (range_with_len begin (count - begin)) ++ rest))
    → r ≡ lightest servers last
picked_is servers last later r begin count begin_is count_is second first =
    let ready : ℕ → Bool = is_ready_at servers in
    let front : List ℕ = range_with_len begin (count - begin) in
    let back : List ℕ = range_with_len 0 begin in
    let rest : filter ready (range_with_len 0 (begin - 0)) ++ [] ≡ filter ready back =
    append-nil (filter ready (range_with_len 0 (begin - 0))) ∙ ap (λ n. filter ready (range_with_len 0 n)) (sub-zero begin) in
    let all : r ≡ least (is_lighter servers) (filter ready (front ++ back)) =
    first (filter ready (range_with_len 0 (begin - 0)) ++ []) second ∙ ap (λ xs. least (is_lighter servers) (filter ready front ++ xs)) rest
    ∙ ap (least (is_lighter servers)) (sym (filter-append ready front back)) in
    rw (begin_is, count_is) at all

-- What is picked is ready, and no server that is ready is lighter; where nothing is picked none is ready.
pub lightest_is : (servers : List ServerLoad) (last : Option ℕ) → IfSome (lightest servers last) (IsLightest servers)
lightest_is servers last = by (lightest servers last) refl
  where
    by : (o : Option ℕ) → lightest servers last ≡ o → IfSome o (IsLightest servers)
    by None e = tt
    by (Some n) e =
        let is = least_is (is_lighter servers) (is_ready_at servers) (lighter_goes servers) (lighter_not servers) (going_round last (length servers)) n e in
        record {
          ready = is.passes;
          least = λ m r. all_in_round (λ m. is_ready_at servers m ≡ true → is_lighter servers m n ≡ false) last (length servers) m is.lowest (ready_there servers m r) r;
        }

pub none_lightest : (servers : List ServerLoad) (last : Option ℕ) → lightest servers last ≡ None → (m : ℕ) → is_ready_at servers m ≡ false
none_lightest servers last e m = by (is_ready_at servers m) refl
  where
    by : (b : Bool) → is_ready_at servers m ≡ b → is_ready_at servers m ≡ false
    by false is = is
    by true is =
        all_in_round (λ m. is_ready_at servers m ≡ false) last (length servers) m
        (none_is (is_lighter servers) (is_ready_at servers) (going_round last (length servers)) e) (ready_there servers m is)
