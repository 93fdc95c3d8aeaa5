-- How many connections were offered a server of a backend, by the counts of servers and by the rows.
use Rattle.std.proofs.Common.{◌≡◌, ℕ, zero, suc, ◌+◌, ◌*◌, ◌<◌, ◌≤◌, Bool, true, false, List, [], ◌∷◌, length, map, Option, Some, None, refl, sym, ap, ◌∙◌, arith}
use Rattle.std.specs.Prelude.{slice_get, option_map, ◌==◌, if◌then◌else◌}
use Rattle.std.specs.List.{AllByRecursion}
use Rattle.std.specs.Option.{option_map_or}
use Rattle.std.specs.Str.{bytes_eq}
use Rattle.std.proofs.lemmas.Bool.Decides.{nat_tests}
use Rattle.keyed_list.specs.Entries.{IsFew}
use Rattle.proxy_types.specs.declared.server.ServerIdentity.{ServerIdentity}
use Rattle.slot_core.specs.declared.slots.Count.{Count}
use Rattle.slot_core.specs.declared.slots.SlotIx.{SlotIx}
use Rattle.slot_core.specs.Counts.{identity_at, open_at, open_in, open_in_all, slots_at}
use Rattle.conn_model.specs.Counts.{offered_to, total}
use Rattle.conn_versions.specs.Versions.{VersionsValue}
use Rattle.conn_rows.specs.declared.row.StoredRow.{StoredRow}
use Rattle.conn_rows.specs.Stored.{StoredFrontend, plain_frontend, slot_of}
use Rattle.conn_rows.specs.Value.{AreServed, row_slots, rows_total}
use Rattle.conn_rows.proofs.OpenTo.{all_served, row_served, served}

-- Sums over the places of the counts that pass a test.

abbrev weighed : (Count → Bool) → (ℕ → ℕ) → List Count → ℕ
weighed test worth [] = 0
weighed test worth (count ∷ counts) = (if test count then worth 0 else 0) + weighed test (λ n. worth (suc n)) counts

weighed-alike : (test : Count → Bool) (f g : ℕ → ℕ) (counts : List Count) → ((n : ℕ) → f n ≡ g n) → weighed test f counts ≡ weighed test g counts
weighed-alike test f g [] same = refl
weighed-alike test f g (count ∷ counts) same =
    ap (λ n. (if test count then n else 0) + weighed test (λ n. f (suc n)) counts) (same 0)
    ∙ ap (λ n. (if test count then g 0 else 0) + n) (weighed-alike test (λ n. f (suc n)) (λ n. g (suc n)) counts (λ n. same (suc n)))

weighed-none : (test : Count → Bool) (counts : List Count) → weighed test (λ n. 0) counts ≡ 0
weighed-none test [] = refl
weighed-none test (count ∷ counts) = by (test count) (weighed-none test counts)
  where
    by : (b : Bool) → weighed test (λ n. 0) counts ≡ 0 → (if b then 0 else 0) + weighed test (λ n. 0) counts ≡ 0
    by true more = omega (arith, more)
    by false more = omega (arith, more)

weighed-both : (test : Count → Bool) (f g : ℕ → ℕ) (counts : List Count) → weighed test (λ n. f n + g n) counts ≡ weighed test f counts + weighed test g counts
weighed-both test f g [] = refl
weighed-both test f g (count ∷ counts) = by (test count) (weighed-both test (λ n. f (suc n)) (λ n. g (suc n)) counts)
  where
    both : ℕ
    both = weighed test (λ n. f (suc n) + g (suc n)) counts

    one : ℕ
    one = weighed test (λ n. f (suc n)) counts

    other : ℕ
    other = weighed test (λ n. g (suc n)) counts

    by : (b : Bool) → both ≡ one + other → (if b then f 0 + g 0 else 0) + both ≡ ((if b then f 0 else 0) + one) + ((if b then g 0 else 0) + other)
    by true more = omega (arith, more)
    by false more = omega (arith, more)

-- of a sum, the sum of what each item is worth
weighed-total : {X : Type 0} (test : Count → Bool) (worth : ℕ → X → ℕ) (counts : List Count) (xs : List X) →
    weighed test (λ n. total (worth n) xs) counts ≡ total (λ x. weighed test (λ n. worth n x) counts) xs
weighed-total test worth counts [] = weighed-none test counts
weighed-total test worth counts (x ∷ xs) =
    weighed-both test (λ n. worth n x) (λ n. total (worth n) xs) counts ∙ ap (λ m. weighed test (λ n. worth n x) counts + m) (weighed-total test worth counts xs)

total-alike : {X : Type 0} (f g : X → ℕ) (xs : List X) → ((x : X) → f x ≡ g x) → total f xs ≡ total g xs
total-alike f g [] same = refl
total-alike f g (x ∷ xs) same = let here = same x in let more = total-alike f g xs same in omega (arith, here, more)

weighed-rows : (test : Count → Bool) (counts : List Count) (frontends : List StoredFrontend) →
    weighed test (λ n. rows_total (row_slots n) frontends) counts ≡ rows_total (λ row. weighed test (λ n. row_slots n row) counts) frontends
weighed-rows test counts frontends =
    weighed-total test (λ n own. total (row_slots n) own.rows) counts frontends
    ∙ total-alike (λ (own : StoredFrontend). weighed test (λ n. total (row_slots n) own.rows) counts) (λ own. total (λ row. weighed test (λ n. row_slots n row) counts) own.rows) frontends
    (λ own. weighed-total test (λ n row. row_slots n row) counts own.rows)

-- The share of one slot: one where the count at its place passes.

abbrev one_at : ℕ → ℕ → ℕ
one_at place n = if place == n then 1 else 0

past : (n : ℕ) → one_at 0 (suc n) ≡ 0
past n = grind (arith, nat_tests)

before : (place : ℕ) → one_at (suc place) 0 ≡ 0
before place = grind (arith, nat_tests)

next : (place n : ℕ) → one_at (suc place) (suc n) ≡ one_at place n
next place n = by (place == n) refl
  where
    by : (b : Bool) → (place == n) ≡ b → ◌≡◌ {A = ℕ} (if suc place == suc n then 1 else 0) (if b then 1 else 0)
    by true same = let it : (suc place == suc n) ≡ true = grind (arith, nat_tests, same) in rw it refl
    by false apart = let it : (suc place == suc n) ≡ false = grind (arith, nat_tests, apart) in rw it refl

abbrev passes : (Count → Bool) → Option Count → ℕ
passes test count = option_map_or (λ count. if test count then 1 else 0) count 0

weighed-one : (test : Count → Bool) (counts : List Count) (place : ℕ) → weighed test (one_at place) counts ≡ passes test (slice_get counts place)
weighed-one test [] place = refl
weighed-one test (count ∷ counts) zero =
    let none : weighed test (λ n. one_at 0 (suc n)) counts ≡ 0 = weighed-alike test (λ n. one_at 0 (suc n)) (λ n. 0) counts past ∙ weighed-none test counts in
    omega (arith, none)
weighed-one test (count ∷ counts) (suc place) =
    let more : weighed test (λ n. one_at (suc place) (suc n)) counts ≡ passes test (slice_get counts place) =
    weighed-alike test (λ n. one_at (suc place) (suc n)) (one_at place) counts (next place) ∙ weighed-one test counts place in
    ap (λ n. (if test count then n else 0) + weighed test (λ n. one_at (suc place) (suc n)) counts) (before place) ∙ by (test count) more
  where
    by : (b : Bool) → weighed test (λ n. one_at (suc place) (suc n)) counts ≡ passes test (slice_get counts place) →
        (if b then 0 else 0) + weighed test (λ n. one_at (suc place) (suc n)) counts ≡ passes test (slice_get counts place)
    by true more = omega (arith, more)
    by false more = omega (arith, more)

abbrev share : (Count → Bool) → List Count → Option SlotIx → ℕ
share test counts slot = weighed test (λ n. option_map_or (slots_at n) slot 0) counts

-- Connections that were offered a server of a backend.

abbrev in_backend : List ℕ → ServerIdentity → Bool
in_backend name server = bytes_eq server.backend name

abbrev is_named : List ℕ → Count → Bool
is_named name count = in_backend name count.identity

weighed-open : (name : List ℕ) (counts : List Count) → weighed (is_named name) (λ n. open_at n counts) counts ≡ open_in name counts
weighed-open name [] = refl
weighed-open name (count ∷ counts) = ap (λ n. (if is_named name count then count.connections else 0) + n) (weighed-open name counts)

share_named : (name : List ℕ) (counts : List Count) (slot : SlotIx) (server : ServerIdentity) → identity_at slot.place counts ≡ Some server → share (is_named name) counts (Some slot) ≡ served (in_backend name) (Some server)
share_named name counts slot server is = weighed-one (is_named name) counts slot.place ∙ by (slice_get counts slot.place) is
  where
    by : (o : Option Count) → option_map (λ count. count.identity) o ≡ Some server → passes (is_named name) o ≡ served (in_backend name) (Some server)
    by None is = absurd (let wrong : None ≡ Some server = is in cc)
    by (Some count) is = let same : count.identity ≡ server = cc in ap (λ server. served (in_backend name) (Some server)) same

-- as many as the counts of the servers of that backend say
pub open_in_is : (frontends : List StoredFrontend) (kept : VersionsValue) → AreServed frontends kept → (name : List ℕ) → open_in name kept.counts ≡ offered_to (map (plain_frontend kept.versions) frontends) name
open_in_is frontends kept known name =
    sym (weighed-open name kept.counts)
    ∙ weighed-alike (is_named name) (λ n. open_at n kept.counts) (λ n. rows_total (row_slots n) frontends) kept.counts known.counted
    ∙ weighed-rows (is_named name) kept.counts frontends
    ∙ all_served kept (in_backend name) (λ row. share (is_named name) kept.counts (slot_of row.stage))
    (row_served kept (in_backend name) (share (is_named name) kept.counts) (weighed-none (is_named name) kept.counts) (share_named name kept.counts)) frontends known.slots

-- Connections that were offered any server.

weighed-all : (counts : List Count) → weighed (λ count. true) (λ n. open_at n counts) counts ≡ open_in_all counts
weighed-all [] = refl
weighed-all (count ∷ counts) = ap (λ n. count.connections + n) (weighed-all counts)

share_few : (test : Count → Bool) (counts : List Count) (o : Option SlotIx) → share test counts o ≤ 1
share_few test counts None = let none = weighed-none test counts in omega (arith, none)
share_few test counts (Some slot) = let is = weighed-one test counts slot.place in let one = by (slice_get counts slot.place) in omega (arith, is, one)
  where
    tested : (b : Bool) → (if b then 1 else 0) ≤ 1
    tested true = omega arith
    tested false = omega arith

    by : (o : Option Count) → passes test o ≤ 1
    by None = omega arith
    by (Some count) = tested (test count)

rows_few : (worth : StoredRow → ℕ) → ((row : StoredRow) → worth row ≤ 1) → (rows : List StoredRow) → total worth rows ≤ length rows
rows_few worth one [] = omega arith
rows_few worth one (row ∷ rows) = let here = one row in let more = rows_few worth one rows in omega (arith, here, more)

all_few : (worth : StoredRow → ℕ) → ((row : StoredRow) → worth row ≤ 1) → (frontends : List StoredFrontend) → AllByRecursion (λ own. IsFew (length own.rows)) frontends →
    rows_total worth frontends ≤ 0x100_0000_0000_0000 * length frontends
all_few worth one [] small = omega arith
all_few worth one (own ∷ frontends) small =
    let here = rows_few worth one own.rows in
    let less : length own.rows < 0x100_0000_0000_0000 = small.0 in
    let more = all_few worth one frontends small.1 in
    omega (arith, here, less, more)

-- not too many
pub open_few : (frontends : List StoredFrontend) (kept : VersionsValue) → AreServed frontends kept → length frontends ≤ 64 → AllByRecursion (λ own. IsFew (length own.rows)) frontends →
    open_in_all kept.counts < 0xFFFF_FFFF_FFFF_FFFF
open_few frontends kept known few small =
    let all : open_in_all kept.counts ≡ rows_total (λ row. share (λ count. true) kept.counts (slot_of row.stage)) frontends =
    sym (weighed-all kept.counts)
    ∙ weighed-alike (λ count. true) (λ n. open_at n kept.counts) (λ n. rows_total (row_slots n) frontends) kept.counts known.counted
    ∙ weighed-rows (λ count. true) kept.counts frontends in
    let most = all_few (λ row. share (λ count. true) kept.counts (slot_of row.stage)) (λ row. share_few (λ count. true) kept.counts (slot_of row.stage)) frontends small in
    omega (arith, all, most, few)
