-- Changes of one connection.
use Rattle.std.proofs.Common.{◌≡◌, ℕ, Bool, true, false, not, List, [], ◌∷◌, Option, Some, None, refl, sym, ap, ◌∙◌}
use Rattle.std.specs.Prelude.{slice_get, slice_set, filter, find, option_map, ◌==◌}
use Rattle.std.specs.Option.{option_map_or}
use Rattle.std.proofs.lemmas.List.{set-set}
use Rattle.conn_model.specs.declared.event.ConnId.{ConnId}
use Rattle.conn_model.specs.declared.plain.Row.{Row}
use Rattle.conn_model.specs.declared.plain.FrontendRows.{FrontendRows}
use Rattle.conn_model.specs.Counts.{change_row}
use Rattle.conn_model.specs.Words.{row_at, row_in}
use Rattle.conn_model.specs.Changes.{with_conn, with_item, with_row, without_conn, without_row}
use Rattle.list_core.proofs.PlaceLemmas.{get-set}

-- an item changed twice
pub item_twice : {X : Type 0} (n : ℕ) (f g : X → X) (xs : List X) → with_item n g (with_item n f xs) ≡ with_item n (λ x. g (f x)) xs
item_twice {X} n f g xs = by (slice_get xs n) refl
  where
    by : (o : Option X) → slice_get xs n ≡ o → with_item n g (with_item n f xs) ≡ with_item n (λ x. g (f x)) xs
    by None none = rw (none, none) refl
    by (Some x) there =
        let first : with_item n f xs ≡ slice_set xs n (f x) = rw there refl in
        let both : with_item n (λ x. g (f x)) xs ≡ slice_set xs n (g (f x)) = rw there refl in
        ap (with_item n g) first
        ∙ ap (λ o. option_map_or (λ y. slice_set (slice_set xs n (f x)) n (g y)) o (slice_set xs n (f x))) (get-set xs n x (f x) there)
        ∙ set-set xs n (f x) (g (f x)) ∙ sym both

-- an item changed alike in two ways
pub item_alike : {X : Type 0} (n : ℕ) (f g : X → X) (xs : List X) → ((x : X) → f x ≡ g x) → with_item n f xs ≡ with_item n g xs
item_alike {X} n f g xs same = by (slice_get xs n)
  where
    by : (o : Option X) → option_map_or (λ x. slice_set xs n (f x)) o xs ≡ option_map_or (λ x. slice_set xs n (g x)) o xs
    by None = refl
    by (Some x) = ap (λ y. slice_set xs n y) (same x)

row_twice : (serial : ℕ) (first second : Row → Row) (rows : List Row) → ((row : Row) → (first row).serial ≡ row.serial) →
    change_row serial second (change_row serial first rows) ≡ change_row serial (λ row. second (first row)) rows
row_twice serial first second [] keeps = refl
row_twice serial first second (row ∷ rows) keeps = by (row.serial == serial) refl (row_twice serial first second rows keeps)
  where
    by : (b : Bool) → (row.serial == serial) ≡ b → change_row serial second (change_row serial first rows) ≡ change_row serial (λ row. second (first row)) rows →
        change_row serial second (change_row serial first (row ∷ rows)) ≡ change_row serial (λ row. second (first row)) (row ∷ rows)
    by true is more =
        let still : ((first row).serial == serial) ≡ true = ap (λ n. n == serial) (keeps row) ∙ is in
        rw (is, still) (ap (λ rs. second (first row) ∷ rs) more)
    by false is more = rw (is, is) (ap (λ rs. row ∷ rs) more)

row_gone : (serial : ℕ) (change : Row → Row) (rows : List Row) → ((row : Row) → (change row).serial ≡ row.serial) →
    filter (λ row. not (row.serial == serial)) (change_row serial change rows) ≡ filter (λ row. not (row.serial == serial)) rows
row_gone serial change [] keeps = refl
row_gone serial change (row ∷ rows) keeps = by (row.serial == serial) refl (row_gone serial change rows keeps)
  where
    by : (b : Bool) → (row.serial == serial) ≡ b → filter (λ row. not (row.serial == serial)) (change_row serial change rows) ≡ filter (λ row. not (row.serial == serial)) rows →
        filter (λ row. not (row.serial == serial)) (change_row serial change (row ∷ rows)) ≡ filter (λ row. not (row.serial == serial)) (row ∷ rows)
    by true is more =
        let still : ((change row).serial == serial) ≡ true = ap (λ n. n == serial) (keeps row) ∙ is in
        rw (is, still) more
    by false is more = rw (is, is) (ap (λ rs. row ∷ rs) more)

-- the frontend of a connection that is changed
pub own_changed : (id : ConnId) (change : Row → Row) (frontends : List FrontendRows) → slice_get (with_conn id change frontends) id.frontend ≡ option_map (with_row id.serial change) (slice_get frontends id.frontend)
own_changed id change frontends = by (slice_get frontends id.frontend) refl
  where
    by : (o : Option FrontendRows) → slice_get frontends id.frontend ≡ o → slice_get (with_conn id change frontends) id.frontend ≡ option_map (with_row id.serial change) (slice_get frontends id.frontend)
    by None none = rw (none, none) refl
    by (Some own) there =
        let set : with_conn id change frontends ≡ slice_set frontends id.frontend (with_row id.serial change own) = rw there refl in
        ap (λ fs. slice_get fs id.frontend) set ∙ get-set frontends id.frontend own (with_row id.serial change own) there ∙ ap (option_map (with_row id.serial change)) (sym there)

find-changed : (serial : ℕ) (change : Row → Row) (rows : List Row) → ((row : Row) → (change row).serial ≡ row.serial) →
    find (λ row. row.serial == serial) (change_row serial change rows) ≡ option_map change (find (λ row. row.serial == serial) rows)
find-changed serial change [] keeps = refl
find-changed serial change (row ∷ rows) keeps = by (row.serial == serial) refl (find-changed serial change rows keeps)
  where
    by : (b : Bool) → (row.serial == serial) ≡ b → find (λ row. row.serial == serial) (change_row serial change rows) ≡ option_map change (find (λ row. row.serial == serial) rows) →
        find (λ row. row.serial == serial) (change_row serial change (row ∷ rows)) ≡ option_map change (find (λ row. row.serial == serial) (row ∷ rows))
    by true is more = let still : ((change row).serial == serial) ≡ true = ap (λ n. n == serial) (keeps row) ∙ is in rw (is, still) refl
    by false is more = rw (is, is) more

-- a connection that is changed is there as it is changed
pub row_changed : (id : ConnId) (change : Row → Row) (frontends : List FrontendRows) → ((row : Row) → (change row).serial ≡ row.serial) →
    row_at (with_conn id change frontends) id ≡ option_map change (row_at frontends id)
row_changed id change frontends keeps = ap (row_in id.serial) (own_changed id change frontends) ∙ by (slice_get frontends id.frontend)
  where
    by : (o : Option FrontendRows) → row_in id.serial (option_map (with_row id.serial change) o) ≡ option_map change (row_in id.serial o)
    by None = refl
    by (Some own) = find-changed id.serial change own.rows keeps

-- a connection changed twice
pub changed_twice : (id : ConnId) (first second : Row → Row) (frontends : List FrontendRows) → ((row : Row) → (first row).serial ≡ row.serial) →
    with_conn id second (with_conn id first frontends) ≡ with_conn id (λ row. second (first row)) frontends
changed_twice id first second frontends keeps =
    item_twice id.frontend (with_row id.serial first) (with_row id.serial second) frontends
    ∙ item_alike id.frontend (λ own. with_row id.serial second (with_row id.serial first own)) (with_row id.serial (λ row. second (first row))) frontends
    (λ own. ap (λ rows. record own { rows = rows }) (row_twice id.serial first second own.rows keeps))

-- a connection changed, and then ended
pub changed_gone : (id : ConnId) (change : Row → Row) (frontends : List FrontendRows) → ((row : Row) → (change row).serial ≡ row.serial) →
    without_conn id (with_conn id change frontends) ≡ without_conn id frontends
changed_gone id change frontends keeps =
    item_twice id.frontend (with_row id.serial change) (without_row id.serial) frontends
    ∙ item_alike id.frontend (λ own. without_row id.serial (with_row id.serial change own)) (without_row id.serial) frontends
    (λ own. ap (λ rows. record own { rows = rows }) (row_gone id.serial change own.rows keeps))
