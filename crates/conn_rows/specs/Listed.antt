-- Rows as entries of a list by keys.
use Rattle.std.specs.Prelude.{ℕ, List}
use Rattle.keyed_list.specs.Entries.{AreKept, AreNumbered}
use Rattle.conn_rows.specs.declared.row.StoredRow.{StoredRow}

-- each row is under its serial, the serials rise, and there are fewer than memory can hold
pub record AreListed (entries : List (ℕ × StoredRow)) : Type 0 where
  pub numbered : AreNumbered (λ row. row.serial) entries
  pub kept : AreKept entries
