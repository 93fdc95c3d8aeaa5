-- IPv6 addresses: the written text is a text of the address.
use Rattle.std.proofs.Common.{◌≡◌, ℕ, suc, ◌+◌, ◌-◌, ◌*◌, ◌/◌, ◌%◌, ◌^◌, ◌<◌, ◌≤◌, Bool, true, false, List, [], ◌∷◌, ◌++◌, length, take, drop, map, replicate, refl, ◌∙◌, ap, subst, arith, inl, inr, length-append}
use Rattle.std.specs.Prelude.{◌==◌, nat_lt, nat_le}
use Rattle.std.specs.List.{All}
use Rattle.std.proofs.lemmas.Bool.Decides.{nat_tests}
use Rattle.std.proofs.lemmas.List.{length-replicate}
use Rattle.std.proofs.lemmas.List.Elements.{All-from_recursion, All-head, All-tail, All-take, All-drop}
use Rattle.addr_core.specs.Dotted.{is_empty}
use Rattle.addr_core.specs.Groups.{colon_text, groups_of, groups_text, hexadecimal, longest, without_run, zeros, Run}
use Rattle.addr_core.specs.Six.{is_group, number_of, AreGroups, IsShort, IsSixText, IsWhole}
use Rattle.addr_core.proofs.HexLemmas.{are_digits_hexadecimal, length-hexadecimal}

-- ---- groups

written_group : (group : ℕ) → group < 2 ^ 16 → is_group (hexadecimal group) ≡ true
written_group group small =
    let digits = are_digits_hexadecimal group small in
    let some : is_empty (hexadecimal group) ≡ false = let above : 0 < length (hexadecimal group) = digits.some in grind (arith, nat_tests) in
    let short : nat_lt (length (hexadecimal group)) 5 ≡ true = let low : length (hexadecimal group) ≤ 4 = length-hexadecimal group in grind (arith, nat_tests) in
    rw (some, short, digits.digits) refl

written_groups : (dotted : Bool) (groups : List ℕ) → All (λ group. group < 2 ^ 16) groups → AreGroups dotted (map hexadecimal groups) groups
written_groups dotted [] small = refl
written_groups dotted (group ∷ groups) small =
    let one : group < 2 ^ 16 = All-head (λ g. g < 2 ^ 16) group groups small in
    inr (group, groups, refl, (written_group group one, (are_digits_hexadecimal group one).value), written_groups dotted groups (All-tail (λ g. g < 2 ^ 16) group groups small))

-- ---- runs of zeros

zeros_split : (groups : List ℕ) → (groups ≡ replicate (zeros groups) 0 ++ drop (zeros groups) groups) × (zeros groups ≤ length groups)
zeros_split [] = (refl, omega arith)
zeros_split (group ∷ groups) = by (group == 0) refl (zeros_split groups)
  where
    by : (t : Bool) → (group == 0) ≡ t → (groups ≡ replicate (zeros groups) 0 ++ drop (zeros groups) groups) × (zeros groups ≤ length groups)
        → (group ∷ groups ≡ replicate (zeros (group ∷ groups)) 0 ++ drop (zeros (group ∷ groups)) (group ∷ groups)) × (zeros (group ∷ groups) ≤ length (group ∷ groups))
    by false is rest = (rw is refl, rw is (omega arith))
    by true is rest =
        let zero_group : group ≡ 0 = grind (arith, nat_tests) in
        let count : 1 + zeros groups ≡ suc (zeros groups) = omega arith in
        (rw (is, count, zero_group) (ap (λ gs. 0 ∷ gs) rest.0), rw is (omega (arith, rest.1)))

record IsRunOf (run : Run) (groups : List ℕ) : Type 0 where
  split : groups ≡ (take run.place groups ++ replicate run.count 0) ++ drop (run.place + run.count) groups
  fits : run.place + run.count ≤ length groups

run_of : (groups : List ℕ) → IsRunOf (longest groups) groups
run_of [] = record { split = refl; fits = omega arith }
run_of (group ∷ groups) = by (nat_le (longest groups).count (zeros (group ∷ groups))) refl (run_of groups)
  where
    by : (t : Bool) → nat_le (longest groups).count (zeros (group ∷ groups)) ≡ t → IsRunOf (longest groups) groups → IsRunOf (longest (group ∷ groups)) (group ∷ groups)
    by true is later =
        let here = zeros_split (group ∷ groups) in
        let none : 0 + zeros (group ∷ groups) ≡ zeros (group ∷ groups) = omega arith in
        rw is (record { split = rw none here.0; fits = rw none here.1 })
    by false is later =
        let next : (longest groups).place + 1 ≡ suc (longest groups).place = omega arith in
        let past : suc (longest groups).place + (longest groups).count ≡ suc ((longest groups).place + (longest groups).count) = omega arith in
        rw is (record { split = rw (next, past) (ap (λ gs. group ∷ gs) later.split); fits = omega (arith, later.fits) })

-- ---- the number of the groups

small_groups : (n : ℕ) → n < 2 ^ 128 → All (λ group. group < 2 ^ 16) (groups_of n)
small_groups n small =
    All-from_recursion (λ group. group < 2 ^ 16) (groups_of n)
    ((omega arith, (omega arith, (omega arith, (omega arith, (omega arith, (omega arith, (omega arith, (omega arith, tt)))))))))

number_of-groups_of : (n : ℕ) → n < 2 ^ 128 → number_of (groups_of n) ≡ n
number_of-groups_of n small =
    let a : 0 * 2 ^ 16 + n / 2 ^ 112 ≡ n / 2 ^ 112 = omega arith in
    let b : n / 2 ^ 112 * 2 ^ 16 + n / 2 ^ 96 % 2 ^ 16 ≡ n / 2 ^ 96 = omega arith in
    let c : n / 2 ^ 96 * 2 ^ 16 + n / 2 ^ 80 % 2 ^ 16 ≡ n / 2 ^ 80 = omega arith in
    let d : n / 2 ^ 80 * 2 ^ 16 + n / 2 ^ 64 % 2 ^ 16 ≡ n / 2 ^ 64 = omega arith in
    let e : n / 2 ^ 64 * 2 ^ 16 + n / 2 ^ 48 % 2 ^ 16 ≡ n / 2 ^ 48 = omega arith in
    let f : n / 2 ^ 48 * 2 ^ 16 + n / 2 ^ 32 % 2 ^ 16 ≡ n / 2 ^ 32 = omega arith in
    let g : n / 2 ^ 32 * 2 ^ 16 + n / 2 ^ 16 % 2 ^ 16 ≡ n / 2 ^ 16 = omega arith in
    let h : n / 2 ^ 16 * 2 ^ 16 + n % 2 ^ 16 ≡ n = omega arith in
    rw (a, b, c, d, e, f, g) h

-- ---- the text

whole_written : (groups : List ℕ) → length groups ≡ 8 → All (λ group. group < 2 ^ 16) groups → IsWhole (colon_text groups) (number_of groups)
whole_written groups eight small = (map hexadecimal groups, groups, refl, written_groups true groups small, eight, refl)

short_written : (groups : List ℕ) (run : Run) → length groups ≡ 8 → All (λ group. group < 2 ^ 16) groups → IsRunOf run groups → 2 ≤ run.count
    → IsShort (colon_text (take run.place groups) ++ 58 ∷ 58 ∷ colon_text (drop (run.place + run.count) groups)) (number_of groups)
short_written groups run eight small is long =
    let front = take run.place groups in
    let back = drop (run.place + run.count) groups in
    let lengths = ap length is.split in
    let first = length-append (front ++ replicate run.count 0) back in
    let second = length-append front (replicate run.count 0) in
    let third = length-replicate {A = ℕ} run.count 0 in
    let gap : run.count ≡ 8 - (length front + length back) = omega (arith, lengths, first, second, third, eight) in (
      map hexadecimal front,
      map hexadecimal back,
      front,
      back,
      refl,
      written_groups false front (All-take (λ g. g < 2 ^ 16) run.place groups small),
      written_groups true back (All-drop (λ g. g < 2 ^ 16) (run.place + run.count) groups small),
      omega (arith, lengths, first, second, third, eight, long),
      ap number_of is.split ∙ ap (λ count. number_of (front ++ replicate count 0 ++ back)) gap,
    )

groups_written : (groups : List ℕ) → length groups ≡ 8 → All (λ group. group < 2 ^ 16) groups → IsSixText (groups_text groups) (number_of groups)
unfolding groups_text
groups_written groups eight small = by (nat_lt (longest groups).count 2) refl
  where
    by : (t : Bool) → nat_lt (longest groups).count 2 ≡ t → IsSixText (without_run groups (longest groups)) (number_of groups)
    by true is = rw is (inl (whole_written groups eight small))
    by false is = let long : 2 ≤ (longest groups).count = grind (arith, nat_tests) in rw is (inr (short_written groups (longest groups) eight small (run_of groups) long))

pub six_text_written : (n : ℕ) → n < 2 ^ 128 → IsSixText (groups_text (groups_of n)) n
six_text_written n small = subst (λ (m : ℕ). IsSixText (groups_text (groups_of n)) m) (number_of-groups_of n small) (groups_written (groups_of n) refl (small_groups n small))
