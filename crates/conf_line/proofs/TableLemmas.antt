-- A look-up in a table.
use Rattle.std.proofs.Common.{◌≡◌, ℕ, ◌+◌, ◌<◌, Bool, false, List, [], ◌∷◌, length, drop, get_or, refl, sym, ap, ◌∙◌, if◌then◌else◌}
use Rattle.std.proofs.lemmas.List.{drop_more}

-- what the first row says that is meant, or else that
abbrev pub looked_up : {X Y : Type 0} → (X → Bool) → Y → List (X × Y) → Y
looked_up is other [] = other
looked_up is other (row ∷ rest) = if is row.0 then row.1 else looked_up is other rest

-- a row that is not meant is passed over
pub passed : {X Y : Type 0} (is : X → Bool) (other : Y) (rows : List (X × Y)) (i : ℕ) (d : X × Y) (found : Y) → i < length rows → is (get_or rows i d).0 ≡ false →
    looked_up is other (drop i rows) ≡ found → looked_up is other (drop (i + 1) rows) ≡ found
passed is other rows i d found less misses so_far =
    let step : looked_up is other (get_or rows i d ∷ drop (i + 1) rows) ≡ looked_up is other (drop (i + 1) rows) = rw misses refl in
    sym step ∙ ap (looked_up is other) (sym (drop_more rows i d less)) ∙ so_far
