-- Rows that are fed.
use Rattle.std.proofs.Common.{◌≡◌, ℕ, List, [], ◌++◌, Option, Some, None, refl, sym, ap, ◌∙◌, subst}
use Rattle.std.specs.Prelude.{find, IsSome, option_and_then}
use Rattle.std.specs.List.{AllByRecursion}
use Rattle.pp_any.specs.declared.rest.Rest.{Rest}
use Rattle.pp_any.specs.declared.rest.Rest.TheVariants.{Read}
use Rattle.pp_any.specs.Status.{Status, Wait, Whole, Fault}
use Rattle.pp_any.specs.Rest.{IsRest}
use Rattle.pp_any.specs.NextPiece.{rest_on, status_on}
use Rattle.pp_any.proofs.NextPiece.{goes_on}
use Rattle.slot_core.specs.declared.slots.SlotIx.{SlotIx}
use Rattle.conn_rows.specs.declared.row.ServerChoice.{ServerChoice}
use Rattle.conn_rows.specs.declared.row.Stage.{Stage}
use Rattle.conn_rows.specs.declared.row.Stage.TheVariants.{Waiting, Offered}
use Rattle.conn_rows.specs.declared.row.StoredRow.{StoredRow}
use Rattle.conn_rows.specs.Stored.{IsHeld, has_serial, rest_kept, rest_within}
use Rattle.conn_model.specs.Changes.{held_under}
use Rattle.conn_model.proofs.Lists.{all-found}
use Rattle.conn_rows.specs.Changes.{stage_fed, stage_moved, stage_up}

-- nothing is held of nothing
pub none_held : (rest : Rest) → IsRest [] rest → rest ≡ Read (record { items = [] })
none_held rest is = sym is.1

-- what is held after a piece is of some bytes again
pub fed_held : (stage : Stage) (piece : List ℕ) → IsHeld stage → IsHeld (stage_fed piece stage)
fed_held (Offered seat) piece held = tt
fed_held (Waiting rest) piece (b, is) = by (status_on rest piece) refl
  where
    by : (s : Status) → status_on rest piece ≡ s → (bytes : List ℕ) × IsRest bytes (held_under s (rest_on rest piece))
    by Wait waits = (b ++ piece, (goes_on b piece rest is).holds waits)
    by (Whole count meaning) decided = ([], (refl, refl))
    by (Fault fault count) decided = ([], (refl, refl))

-- and after its server took it
pub up_held : (stage : Stage) → IsHeld stage → IsHeld (stage_up stage)
up_held (Waiting rest) held = held
up_held (Offered seat) held = tt

pub moved_held : (seat : ServerChoice) (slot : SlotIx) (stage : Stage) → IsHeld stage → IsHeld (stage_moved seat slot stage)
moved_held seat slot (Waiting rest) held = held
moved_held seat slot (Offered before) held = tt

-- a connection that waits is open
pub found_waiting : (serial : ℕ) (rows : List StoredRow) → IsSome (rest_kept serial rows) → IsSome (find (has_serial serial) rows)
found_waiting serial rows some = by (find (has_serial serial) rows) some
  where
    by : (o : Option StoredRow) → IsSome (option_and_then (λ row. rest_within row.stage) o) → IsSome o
    by None some = absurd (cc)
    by (Some row) some = refl

-- The stage of the row of a serial.
module _ (serial : ℕ) (rows : List StoredRow) (stage : Stage) (value : (row : StoredRow) → find (has_serial serial) rows ≡ Some row → stage ≡ row.stage) where
  pub held_found : AllByRecursion (λ row. IsHeld row.stage) rows → IsSome (find (has_serial serial) rows) → IsHeld stage
  held_found held some = by (find (has_serial serial) rows) refl some
    where
      by : (o : Option StoredRow) → find (has_serial serial) rows ≡ o → IsSome o → IsHeld stage
      by None none some = absurd (cc)
      by (Some row) found some = subst IsHeld (sym (value row found)) (all-found (λ row. IsHeld row.stage) (has_serial serial) rows row held found).0

  pub rest_found : IsSome (find (has_serial serial) rows) → rest_kept serial rows ≡ rest_within stage
  rest_found some = by (find (has_serial serial) rows) refl some
    where
      by : (o : Option StoredRow) → find (has_serial serial) rows ≡ o → IsSome o → rest_kept serial rows ≡ rest_within stage
      by None none some = absurd (cc)
      by (Some row) found some = ap (option_and_then (λ row. rest_within row.stage)) found ∙ ap rest_within (sym (value row found))
