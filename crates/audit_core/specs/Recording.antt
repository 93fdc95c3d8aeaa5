-- What is written of the records of a book.
use Rattle.std.specs.Prelude.{◌≡◌, ℕ, List, ◌++◌, take, Option}
use Rattle.std.specs.List.{flat_map}
use Rattle.std.specs.Io.KnownBytes.{Appends}
use Rattle.conn_model.specs.declared.plain.Plain.{Plain}
use Rattle.conn_model.specs.HandedIn.{AreHandedIn}
use Rattle.conn_model.specs.History.{Entry, IsLegal}
use Rattle.record_core.specs.declared.record.Record.{Record}
use Rattle.record_core.specs.Records.{entry_of}
use Rattle.audit_core.specs.Record.{entry_text, history_text}

-- the texts of the records in their order
abbrev pub records_text : List Record → List ℕ
records_text records = flat_map (λ r. entry_text r.number (entry_of r)) records

-- a front of the bytes was written
abbrev pub AppendsFront : Option (List ℕ) → Option (List ℕ) → List ℕ → Type 0
AppendsFront old new bytes = (count : ℕ) × Appends old new (take count bytes)

-- so much was written, and the rest of the text is in the block
pub record Written (old new : Option (List ℕ)) (block text : List ℕ) : Type 0 where
  pub done : List ℕ
  pub appended : Appends old new done
  pub same : done ++ block ≡ text

-- what was written is the record of a legal history from that base on, of events that a caller can hand in
pub record IsRecorded (base : Plain) (old new : Option (List ℕ)) : Type 0 where
  pub history : List Entry
  pub legal : IsLegal base history
  pub handed_in : AreHandedIn history
  pub appended : Appends old new (history_text history)

-- a front of such a record was written
pub record IsCutOff (base : Plain) (old new : Option (List ℕ)) : Type 0 where
  pub history : List Entry
  pub legal : IsLegal base history
  pub handed_in : AreHandedIn history
  pub appended : AppendsFront old new (history_text history)
