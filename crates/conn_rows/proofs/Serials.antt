-- Rows in the order of their serials.
use Rattle.std.proofs.Common.{◌≡◌, ℕ, zero, suc, ◌+◌, ◌<◌, ◌≤◌, Bool, true, false, not, List, [], ◌∷◌, ◌++◌, length, set, Option, Some, None, refl, sym, ap, ◌∙◌, subst, arith}
use Rattle.std.specs.Prelude.{slice_get, filter, find, ◌==◌, if◌then◌else◌, IsSome}
use Rattle.std.specs.List.{position, AllByRecursion}
use Rattle.std.proofs.lemmas.Bool.Decides.{nat_tests}
use Rattle.std.proofs.lemmas.List.{length-map}
use Rattle.keyed_list.specs.Entries.{IsFew}
use Rattle.conn_rows.specs.declared.row.StoredRow.{StoredRow}
use Rattle.conn_rows.specs.declared.row.Stage.{Stage}
use Rattle.conn_rows.specs.Stored.{AreOpen, IsHeld, at_stage, has_serial, with_stored}
use Rattle.conn_model.specs.Words.{Rise}
use Rattle.conn_model.proofs.Lists.{all-append, all-at, all-each, all-filter, all-found, all-map, all-more, found_there, nowhere, rise-append, rise-filter, rise-map}

abbrev pub others : ℕ → List StoredRow → List StoredRow
others serial rows = filter (λ row. not (has_serial serial row)) rows

-- The row of a serial changed.

above_same : (serial : ℕ) (change : StoredRow → StoredRow) (rows : List StoredRow) → AllByRecursion (λ row. serial < row.serial) rows → with_stored serial change rows ≡ rows
above_same serial change [] above = refl
above_same serial change (row ∷ rows) above =
    let less : serial < row.serial = above.0 in
    let differs : (row.serial == serial) ≡ false = grind (arith, nat_tests, less) in
    rw differs (ap (λ rs. row ∷ rs) (above_same serial change rows above.1))

pub set_is : (serial : ℕ) (change : StoredRow → StoredRow) (rows : List StoredRow) (n : ℕ) (row : StoredRow) → Rise (λ row. row.serial) rows → slice_get rows n ≡ Some row → row.serial ≡ serial →
    set rows n (change row) ≡ with_stored serial change rows
set_is serial change [] n row rise there is = absurd (cc)
set_is serial change (r ∷ rows) zero row rise there is =
    let same : r ≡ row = cc in
    let it : r.serial ≡ serial = ap (λ r. r.serial) same ∙ is in
    let its : (r.serial == serial) ≡ true = grind (arith, nat_tests, it) in
    let left : with_stored serial change rows ≡ rows =
    above_same serial change rows (all-more (λ x. r.serial < x.serial) (λ x. serial < x.serial) rows (λ x lt. omega (arith, lt, it)) rise.0) in
    rw its (ap (λ x. change x ∷ rows) (sym same) ∙ ap (λ rs. change r ∷ rs) (sym left))
set_is serial change (r ∷ rows) (suc n) row rise there is =
    let less : r.serial < row.serial = all-at (λ x. r.serial < x.serial) rows n row rise.0 there in
    let differs : (r.serial == serial) ≡ false = grind (arith, nat_tests, less, is) in
    rw differs (ap (λ rs. r ∷ rs) (set_is serial change rows n row rise.1 there is))

-- What is always true of a frontend's rows stays so.

pub open-push : (last : ℕ) (rows : List StoredRow) (row : StoredRow) → AreOpen last rows → row.serial ≡ last + 1 → IsHeld row.stage → AreOpen (last + 1) (rows ++ row ∷ [])
open-push last rows row known next held = record {
  rise = rise-append (λ r. r.serial) last rows (row ∷ []) known.rise (tt, tt) known.given (omega (arith, next), tt);
  given = all-append (λ r. r.serial ≤ last + 1) rows (row ∷ []) (all-more (λ r. r.serial ≤ last) (λ r. r.serial ≤ last + 1) rows (λ r le. omega (arith, le)) known.given) (omega (arith, next), tt);
  held = all-append (λ r. IsHeld r.stage) rows (row ∷ []) known.held (held, tt);
}

pub open-more : (last : ℕ) (rows : List StoredRow) → AreOpen last rows → AreOpen (last + 1) rows
open-more last rows known = record {
  rise = known.rise;
  given = all-more (λ r. r.serial ≤ last) (λ r. r.serial ≤ last + 1) rows (λ r le. omega (arith, le)) known.given;
  held = known.held;
}

pub open-others : (serial last : ℕ) (rows : List StoredRow) → AreOpen last rows → AreOpen last (others serial rows)
open-others serial last rows known = record {
  rise = rise-filter (λ r. r.serial) (λ r. not (has_serial serial r)) rows known.rise;
  given = all-filter (λ r. r.serial ≤ last) (λ r. not (has_serial serial r)) rows known.given;
  held = all-filter (λ r. IsHeld r.stage) (λ r. not (has_serial serial r)) rows known.held;
}

pub open-with : (serial last : ℕ) (change : StoredRow → StoredRow) (rows : List StoredRow) → ((row : StoredRow) → (change row).serial ≡ row.serial) → ((row : StoredRow) → IsHeld row.stage → IsHeld (change row).stage) →
    AreOpen last rows → AreOpen last (with_stored serial change rows)
open-with serial last change rows keeps holds known = record {
  rise = rise-map (λ r. r.serial) (λ row. if row.serial == serial then change row else row) same rows known.rise;
  given =
      all-map (λ r. r.serial ≤ last) (λ row. if row.serial == serial then change row else row) rows
      (all-more (λ r. r.serial ≤ last) (λ r. (if r.serial == serial then change r else r).serial ≤ last) rows (λ r le. let is = same r in omega (arith, le, is)) known.given);
  held =
      all-map (λ r. IsHeld r.stage) (λ row. if row.serial == serial then change row else row) rows
      (all-more (λ r. IsHeld r.stage) (λ r. IsHeld (if r.serial == serial then change r else r).stage) rows kept known.held);
}
  where
    same : (row : StoredRow) → (if row.serial == serial then change row else row).serial ≡ row.serial
    same row = by (row.serial == serial)
      where
        by : (b : Bool) → (if b then change row else row).serial ≡ row.serial
        by true = keeps row
        by false = refl

    kept : (row : StoredRow) → IsHeld row.stage → IsHeld (if row.serial == serial then change row else row).stage
    kept row held = by (row.serial == serial)
      where
        by : (b : Bool) → IsHeld (if b then change row else row).stage
        by true = holds row held
        by false = held

-- Rows found by their serials.

pub record Placed (serial : ℕ) (rows : List StoredRow) (row : StoredRow) : Type 0 where
  pub place : ℕ
  pub there : slice_get rows place ≡ Some row
  pub is : row.serial ≡ serial

-- the row that is found has a place, and the serial
pub placed : (serial : ℕ) (rows : List StoredRow) (row : StoredRow) → find (has_serial serial) rows ≡ Some row → Placed serial rows row
placed serial rows row found = by (position (has_serial serial) rows) refl
  where
    by : (o : Option ℕ) → position (has_serial serial) rows ≡ o → Placed serial rows row
    by None none = absurd (let no : Some row ≡ None = sym found ∙ nowhere (has_serial serial) rows none in cc)
    by (Some n) is =
        let test : (row.serial == serial) ≡ true = (all-found (λ r. Unit {0}) (has_serial serial) rows row (all-each (λ r. Unit {0}) rows (λ r. tt)) found).1 in
        record { place = n; there = sym (found_there (has_serial serial) rows n is) ∙ found; is = grind (arith, nat_tests, test) }

-- that row changed is the row at its place changed
pub with_placed : (serial : ℕ) (change : StoredRow → StoredRow) (rows : List StoredRow) (row : StoredRow) → Rise (λ row. row.serial) rows → (at : Placed serial rows row) →
    with_stored serial change rows ≡ set rows at.place (change row)
with_placed serial change rows row rise at = sym (set_is serial change rows at.place row rise at.there at.is)

pub places : (serial : ℕ) (change : StoredRow → StoredRow) (rows next : List StoredRow) → Rise (λ row. row.serial) rows → next ≡ with_stored serial change rows → (row : StoredRow) → find (has_serial serial) rows ≡ Some row →
    (place : ℕ) × (slice_get rows place ≡ Some row) × (next ≡ set rows place (change row))
places serial change rows next rise is row found =
    let at = placed serial rows row found in
    (at.place, at.there, is ∙ with_placed serial change rows row rise at)

-- two changes that are the same of that row are the same
pub with_same : (serial : ℕ) (one other : StoredRow → StoredRow) (rows : List StoredRow) (row : StoredRow) → Rise (λ row. row.serial) rows → find (has_serial serial) rows ≡ Some row → one row ≡ other row →
    with_stored serial one rows ≡ with_stored serial other rows
with_same serial one other rows row rise found same =
    let at = placed serial rows row found in
    with_placed serial one rows row rise at ∙ ap (set rows at.place) same ∙ sym (with_placed serial other rows row rise at)

-- what was made of the stage of that row was made of each stage with the serial
pub with_stage : (serial : ℕ) (change : Stage → Stage) (stage : Stage) (rows : List StoredRow) → Rise (λ row. row.serial) rows → IsSome (find (has_serial serial) rows) →
    ((row : StoredRow) → find (has_serial serial) rows ≡ Some row → stage ≡ row.stage) → with_stored serial (at_stage (change stage)) rows ≡ with_stored serial (λ row. at_stage (change row.stage) row) rows
with_stage serial change stage rows rise some value = by (find (has_serial serial) rows) refl some
  where
    by : (o : Option StoredRow) → find (has_serial serial) rows ≡ o → IsSome o → with_stored serial (at_stage (change stage)) rows ≡ with_stored serial (λ row. at_stage (change row.stage) row) rows
    by None none some = absurd (cc)
    by (Some row) found some =
        with_same serial (at_stage (change stage)) (λ row. at_stage (change row.stage) row) rows row rise found (ap (λ stage. at_stage (change stage) row) (value row found))

pub few-with : (serial : ℕ) (change : StoredRow → StoredRow) (rows : List StoredRow) → IsFew (length rows) → IsFew (length (with_stored serial change rows))
few-with serial change rows few = subst IsFew (sym (length-map rows (λ row. if row.serial == serial then change row else row))) few

pub no_rows : (rows : List StoredRow) → length rows ≡ 0 → rows ≡ []
no_rows [] none = refl
no_rows (row ∷ rows) none = absurd (omega (arith, none))
