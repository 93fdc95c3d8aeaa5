-- Tables that are written the same as one of those before.
use Rattle.std.proofs.Common.{◌≡◌, ℕ, suc, ◌+◌, ◌<◌, Bool, true, false, List, [], ◌∷◌, length, map, Some, None, refl, sym, ap, ◌∙◌, arith}
use Rattle.std.specs.Prelude.{find, position, slice_get, zip}
use Rattle.std.specs.Option.{option_map}
use Rattle.std.specs.List.{enumerate_from, position_or_len}
use Rattle.plan_types.specs.declared.plan.Plan.{Plan}
use Rattle.plan_types.specs.declared.plan.Table.{Table}
use Rattle.conn_model.specs.Tables.{new_id, next_id}
use Rattle.conn_model.specs.History.{new_version, next_version}
use Rattle.conn_model.proofs.Lists.{nowhere, place_is, position_within}

-- Two lists of equal places, as pairs.

pair_at : {X Y : Type 0} (p : X → Bool) (xs : List X) (ys : List Y) → position_or_len p xs < length xs →
    option_map (λ pair. pair.1) (find (λ pair. p pair.0) (zip xs ys)) ≡ slice_get ys (position_or_len p xs)
pair_at p [] ys less = absurd (omega (arith, less))
pair_at p (x ∷ xs) [] less = refl
pair_at {X} {Y} p (x ∷ xs) (y ∷ ys) less = by (p x) refl (λ later. pair_at p xs ys later)
  where
    by : (b : Bool) → p x ≡ b → (position_or_len p xs < length xs → option_map (λ (pair : X × Y). pair.1) (find (λ pair. p pair.0) (zip xs ys)) ≡ slice_get ys (position_or_len p xs)) →
        option_map (λ (pair : X × Y). pair.1) (find (λ pair. p pair.0) (zip (x ∷ xs) (y ∷ ys))) ≡ slice_get (y ∷ ys) (position_or_len p (x ∷ xs))
    by true e more = rw e refl
    by false e more =
        let within : 1 + position_or_len p xs < suc (length xs) = rw e at less in
        let next : suc (position_or_len p xs) ≡ 1 + position_or_len p xs = omega arith in
        rw e (more (omega (arith, within)) ∙ ap (slice_get (y ∷ ys)) next)

no_pair : {X Y : Type 0} (p : X → Bool) (xs : List X) (ys : List Y) → find p xs ≡ None → find (λ pair. p pair.0) (zip xs ys) ≡ None
no_pair p [] ys none = refl
no_pair p (x ∷ xs) [] none = refl
no_pair {X} {Y} p (x ∷ xs) (y ∷ ys) none = by (p x) refl (λ later. no_pair p xs ys later)
  where
    by : (b : Bool) → p x ≡ b → (find p xs ≡ None → find (λ (pair : X × Y). p pair.0) (zip xs ys) ≡ None) → find (λ (pair : X × Y). p pair.0) (zip (x ∷ xs) (y ∷ ys)) ≡ None
    by true e more = absurd (let wrong : Some x ≡ None = rw e at none in cc)
    by false e more = rw e (more (rw e at none))

pub pair_found : {X Y : Type 0} (p : X → Bool) (xs : List X) (ys : List Y) (n : ℕ) → position p xs ≡ Some n → option_map (λ pair. pair.1) (find (λ pair. p pair.0) (zip xs ys)) ≡ slice_get ys n
pair_found p xs ys n is =
    let same : n ≡ position_or_len p xs = place_is p xs n is in
    let less : n < length xs = position_within p xs n is in
    pair_at p xs ys (omega (arith, same, less)) ∙ ap (slice_get ys) (sym same)

pub pair_missing : {X Y : Type 0} (p : X → Bool) (xs : List X) (ys : List Y) → position p xs ≡ None → option_map (λ pair. pair.1) (find (λ pair. p pair.0) (zip xs ys)) ≡ None
pair_missing {X} {Y} p xs ys is = ap (option_map (λ (pair : X × Y). pair.1)) (no_pair p xs ys (nowhere p xs is))

-- With no tables before, each begins.

first_ids : (version k : ℕ) (tables : List Table) → map (next_id version []) (enumerate_from k tables) ≡ map (new_id version) (enumerate_from k tables)
first_ids version k [] = refl
first_ids version k (table ∷ tables) = ap (λ ids. new_id version (k, table) ∷ ids) (first_ids version (k + 1) tables)

pub first_version : (number : ℕ) (plan : Plan) → next_version number [] plan ≡ new_version number plan
first_version number plan = ap (λ ids. record (new_version number plan) { tables = ids }) (first_ids number 0 plan.tables)
