-- A list of which servers have room.
use Rattle.std.proofs.Common.{◌≡◌, ℕ, zero, suc, ◌<◌, ◌≤◌, ◌+◌, Bool, true, false, List, [], ◌∷◌, length, replicate, refl, ap, ◌∙◌, arith}
use Rattle.std.specs.Prelude.{nat_lt, slice_set, ◌==◌, if◌then◌else◌}
use Rattle.std.proofs.lemmas.Bool.Decides.{nat_tests}
use Rattle.balance_core.specs.declared.load.ServerLoad.{ServerLoad}
use Rattle.balance_core.specs.Loads.{has_room_at, room_in}

no_room : (n k : ℕ) → room_in (replicate n false) k ≡ false
no_room zero k = refl
no_room (suc n) zero = refl
no_room (suc n) (suc k) = no_room n k

pub none_asked : (n k : ℕ) (has : Bool) → room_in (replicate n false) k ≡ (if nat_lt k 0 then has else false)
none_asked n k has = let no : nat_lt k 0 ≡ false = grind (arith, nat_tests) in rw no (no_room n k)

here : (rooms : List Bool) (n : ℕ) (b : Bool) → n < length rooms → room_in (slice_set rooms n b) n ≡ b
here [] n b lt = absurd (omega (arith, lt))
here (r ∷ rooms) zero b lt = refl
here (r ∷ rooms) (suc n) b lt = here rooms n b (omega (arith, lt))

elsewhere : (rooms : List Bool) (n k : ℕ) (b : Bool) → (k == n) ≡ false → room_in (slice_set rooms n b) k ≡ room_in rooms k
elsewhere [] n k b e = refl
elsewhere (r ∷ rooms) zero zero b e = absurd (cc)
elsewhere (r ∷ rooms) zero (suc k) b e = refl
elsewhere (r ∷ rooms) (suc n) zero b e = refl
elsewhere (r ∷ rooms) (suc n) (suc k) b e = elsewhere rooms n k b (grind (arith, nat_tests))

-- one server more was asked
pub one_asked : (has : ℕ → Bool) (rooms : List Bool) (n k : ℕ) (b : Bool) → b ≡ has n → n < length rooms → room_in rooms k ≡ (if nat_lt k n then has k else false)
    → room_in (slice_set rooms n b) k ≡ (if nat_lt k (n + 1) then has k else false)
one_asked has rooms n k b is lt was = by (k == n) refl
  where
    by : (t : Bool) → (k == n) ≡ t → room_in (slice_set rooms n b) k ≡ (if nat_lt k (n + 1) then has k else false)
    by true e =
        let same : k ≡ n = grind (arith, nat_tests) in
        let yes : nat_lt n (n + 1) ≡ true = grind (arith, nat_tests) in
        rw (same, yes) (here rooms n b lt ∙ is)
    by false e = elsewhere rooms n k b e ∙ was ∙ ap (λ t. if t then has k else false) (alike k n e)
      where
        alike : (k n : ℕ) → (k == n) ≡ false → nat_lt k n ≡ nat_lt k (n + 1)
        alike k n e = grind (arith, nat_tests)

nobody : (servers : List ServerLoad) (k : ℕ) → length servers ≤ k → has_room_at servers k ≡ false
nobody [] k le = refl
nobody (server ∷ servers) zero le = absurd (omega (arith, le))
nobody (server ∷ servers) (suc k) le = nobody servers k (omega (arith, le))

-- all were asked
pub all_asked : (servers : List ServerLoad) (rooms : List Bool) (n k : ℕ) → length servers ≤ n → room_in rooms k ≡ (if nat_lt k n then has_room_at servers k else false)
    → room_in rooms k ≡ has_room_at servers k
all_asked servers rooms n k le was = by (nat_lt k n) refl
  where
    low : nat_lt k n ≡ false → n ≤ k
    low e = grind (arith, nat_tests)

    by : (t : Bool) → nat_lt k n ≡ t → room_in rooms k ≡ has_room_at servers k
    by true e = was ∙ rw e refl
    by false e =
        let no : has_room_at servers k ≡ false = nobody servers k (let l : n ≤ k = low e in omega (arith, l, le)) in
        was ∙ rw (e, no) refl
