-- One record more.
use Rattle.std.specs.Prelude.{◌≡◌, ℕ, ◌+◌, List, [], ◌∷◌, ◌++◌, length, refl}
use Rattle.std.proofs.Common.{arith}
use Rattle.conn_model.specs.History.{Entry}
use Rattle.record_core.specs.declared.record.Record.{Record}
use Rattle.record_core.specs.Records.{entry_of, history_on, AreNumbered}

-- it is the newest entry
pub history_on_appended : (h : List Entry) (records : List Record) (r : Record) → history_on h (records ++ r ∷ []) ≡ entry_of r ∷ history_on h records
history_on_appended h [] r = refl
history_on_appended h (x ∷ records) r = history_on_appended (entry_of x ∷ h) records r

-- it has the next number
pub numbered_appended : (first : ℕ) (records : List Record) (r : Record) → AreNumbered first records → r.number ≡ first + length records → AreNumbered first (records ++ r ∷ [])
numbered_appended first [] r numbers next = (omega (arith, next), tt)
numbered_appended first (x ∷ records) r numbers next = (numbers.0, numbered_appended (first + 1) records r numbers.1 (omega (arith, next)))
