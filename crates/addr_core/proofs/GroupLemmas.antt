-- Groups with colons.
use Rattle.std.proofs.Common.{Bool, true, false, zero, suc, ◌/◌, ◌%◌, ◌≡◌, ℕ, ◌+◌, ◌-◌, ◌<◌, ◌≤◌, true, false, List, [], ◌∷◌, ◌++◌, length, get_or, take, drop, refl, ◌∙◌, ap, sym, arith, append_assoc, append-nil}
use Rattle.std.specs.Prelude.{nat_le, nat_lt}
use Rattle.std.specs.List.{flat_map}
use Rattle.std.proofs.lemmas.Bool.Decides.{nat_tests}
use Rattle.std.specs.Char.{digit_char}
use Rattle.std.specs.List.{All}
use Rattle.std.proofs.lemmas.List.Elements.{All-nil, All-cons, All-append}
use Rattle.addr_core.specs.Groups.{colon_text, groups_text, hex_in, hexadecimal, longest, without_run, zeros, IsLongest}
use Rattle.std.proofs.lemmas.List.{take_rest}

-- the first group, and each other after a colon
colon_text_more : (first : ℕ) (groups : List ℕ) → colon_text (first ∷ groups) ≡ hexadecimal first ++ flat_map (λ group. 58 ∷ hexadecimal group) groups
colon_text_more first [] = sym (append-nil (hexadecimal first))
colon_text_more first (next ∷ groups) = ap (λ rest. hexadecimal first ++ 58 ∷ rest) (colon_text_more next groups)

pub groups_pushed : (groups front middle whole : List ℕ) → 1 ≤ length groups → middle ≡ front ++ hexadecimal (get_or groups 0 0)
    → whole ≡ middle ++ flat_map (λ group. 58 ∷ hexadecimal group) (take (length groups - 1) (drop 1 groups)) → whole ≡ front ++ colon_text groups
groups_pushed [] front middle whole some one more = absurd (omega arith)
groups_pushed (group ∷ groups) front middle whole some one more =
    let rest : take (length (group ∷ groups) - 1) groups ≡ groups = take_rest (group ∷ groups) 1 in
    more ∙ rw (one, rest) (append_assoc front (hexadecimal group) (flat_map (λ g. 58 ∷ hexadecimal g) groups) ∙ ap (λ text. front ++ text) (sym (colon_text_more group groups)))

-- groups without a run of two zeros or more
pub plain_written : (groups empty whole : List ℕ) (count : ℕ) → empty ≡ [] → whole ≡ empty ++ colon_text groups → count ≡ (longest groups).count → count < 2 → whole ≡ groups_text groups
unfolding groups_text
plain_written groups empty whole count none is same short =
    let test : nat_lt (longest groups).count 2 ≡ true = grind (arith, nat_tests) in
    is ∙ rw (none, test) refl

-- groups with one
pub run_written : (groups empty front one two whole : List ℕ) (place count : ℕ) → empty ≡ [] → front ≡ empty ++ colon_text (take place groups) → one ≡ front ++ 58 ∷ [] → two ≡ one ++ 58 ∷ []
    → whole ≡ two ++ colon_text (take (length groups - (place + count)) (drop (place + count) groups)) → place ≡ (longest groups).place → count ≡ (longest groups).count → 2 ≤ count → whole ≡ groups_text groups
unfolding groups_text
run_written groups empty front one two whole place count none before first second after same_place same_count long =
    let test : nat_lt (longest groups).count 2 ≡ false = grind (arith, nat_tests) in
    after ∙ rw (take_rest groups (place + count), second, first, before, none, test, same_place, same_count)
    (append_assoc (colon_text (take (longest groups).place groups) ++ 58 ∷ []) (58 ∷ []) (colon_text (drop ((longest groups).place + (longest groups).count) groups))
    ∙ append_assoc (colon_text (take (longest groups).place groups)) (58 ∷ []) (58 ∷ colon_text (drop ((longest groups).place + (longest groups).count) groups)))

-- ---- what holds of each byte

hex_in_all : (P : ℕ → Type 0) → ((d : ℕ) → P (digit_char d)) → (k n : ℕ) → All P (hex_in k n)
hex_in_all P each zero n = All-cons P (digit_char n) [] (each n) (All-nil P)
hex_in_all P each (suc k) n = by (nat_lt n 16) refl (hex_in_all P each k (n / 16))
  where
    by : (t : Bool) → nat_lt n 16 ≡ t → All P (hex_in k (n / 16)) → All P (hex_in (suc k) n)
    by true is rest = rw is (All-cons P (digit_char n) [] (each n) (All-nil P))
    by false is rest = rw is (All-append P (hex_in k (n / 16)) (digit_char (n % 16) ∷ []) rest (All-cons P (digit_char (n % 16)) [] (each (n % 16)) (All-nil P)))

hexadecimal_all : (P : ℕ → Type 0) → ((d : ℕ) → P (digit_char d)) → (n : ℕ) → All P (hexadecimal n)
unfolding hexadecimal
hexadecimal_all P each n = hex_in_all P each 3 n

colon_text_all : (P : ℕ → Type 0) → ((d : ℕ) → P (digit_char d)) → P 58 → (groups : List ℕ) → All P (colon_text groups)
colon_text_all P each colon [] = All-nil P
colon_text_all P each colon (group ∷ []) = hexadecimal_all P each group
colon_text_all P each colon (group ∷ next ∷ groups) =
    All-append P (hexadecimal group) (58 ∷ colon_text (next ∷ groups)) (hexadecimal_all P each group) (All-cons P 58 (colon_text (next ∷ groups)) colon (colon_text_all P each colon (next ∷ groups)))

-- each byte of a text of groups is a digit or a colon
pub groups_text_all : (P : ℕ → Type 0) → ((d : ℕ) → P (digit_char d)) → P 58 → (groups : List ℕ) → All P (groups_text groups)
unfolding groups_text
groups_text_all P each colon groups = by (nat_lt (longest groups).count 2) refl
  where
    by : (t : Bool) → nat_lt (longest groups).count 2 ≡ t → All P (without_run groups (longest groups))
    by true is = rw is (colon_text_all P each colon groups)
    by false is =
        rw is (All-append P (colon_text (take (longest groups).place groups)) (58 ∷ 58 ∷ colon_text (drop ((longest groups).place + (longest groups).count) groups))
        (colon_text_all P each colon (take (longest groups).place groups))
        (All-cons P 58 (58 ∷ colon_text (drop ((longest groups).place + (longest groups).count) groups)) colon
        (All-cons P 58 (colon_text (drop ((longest groups).place + (longest groups).count) groups)) colon
        (colon_text_all P each colon (drop ((longest groups).place + (longest groups).count) groups)))))

-- ---- the longest run

none_later : (at : ℕ) → zeros (drop at []) ≤ 0
none_later zero = omega arith
none_later (suc at) = omega arith

longest_is : (groups : List ℕ) → IsLongest (longest groups).place (longest groups).count groups
longest_is [] = record { there = refl; longest = none_later; first = λ at low. absurd (omega arith) }
longest_is (group ∷ groups) = by (nat_le (longest groups).count (zeros (group ∷ groups))) refl (longest_is groups)
  where
    by : (t : Bool) → nat_le (longest groups).count (zeros (group ∷ groups)) ≡ t → IsLongest (longest groups).place (longest groups).count groups → IsLongest (longest (group ∷ groups)).place (longest (group ∷ groups)).count (group ∷ groups)
    by true is later =
        let above : (longest groups).count ≤ zeros (group ∷ groups) = grind (arith, nat_tests) in
        rw is (record { there = refl; longest = here above; first = λ at low. absurd (omega arith) })
      where
        here : (longest groups).count ≤ zeros (group ∷ groups) → (at : ℕ) → zeros (drop at (group ∷ groups)) ≤ zeros (group ∷ groups)
        here above zero = omega arith
        here above (suc at) = let less : zeros (drop at groups) ≤ (longest groups).count = later.longest at in omega arith
    by false is later =
        let below : zeros (group ∷ groups) < (longest groups).count = grind (arith, nat_tests) in
        let next : (longest groups).place + 1 ≡ suc (longest groups).place = omega arith in
        rw is (record { there = rw next later.there; longest = anywhere below; first = before below })
      where
        anywhere : zeros (group ∷ groups) < (longest groups).count → (at : ℕ) → zeros (drop at (group ∷ groups)) ≤ (longest groups).count
        anywhere below zero = omega arith
        anywhere below (suc at) = later.longest at

        before : zeros (group ∷ groups) < (longest groups).count → (at : ℕ) → at < (longest groups).place + 1 → zeros (drop at (group ∷ groups)) < (longest groups).count
        before below zero low = below
        before below (suc at) low = later.first at (omega arith)

pub is_longest : (groups : List ℕ) (place count : ℕ) → place ≡ (longest groups).place → count ≡ (longest groups).count → IsLongest place count groups
is_longest groups place count same_place same_count = rw (same_place, same_count) (longest_is groups)
