-- Records as a history.
use Rattle.std.specs.Prelude.{◌≡◌, ℕ, ◌+◌, List, [], ◌∷◌, ◌++◌, length}
use Rattle.conn_model.specs.History.{Entry, entry}
use Rattle.record_core.specs.declared.record.Record.{Record}
use Rattle.record_core.specs.declared.segment.Segment.{Segment}

-- the record of an answered event
abbrev pub record_of : ℕ → Entry → Record
record_of number e = record { number = number; moment = e.moment; event = e.event; reply = e.reply }

abbrev pub entry_of : Record → Entry
entry_of r = entry r.moment r.event r.reply

-- a history that goes on with the records, the oldest of which is the first
abbrev pub history_on : List Entry → List Record → List Entry
history_on h [] = h
history_on h (r ∷ records) = history_on (entry_of r ∷ h) records

-- the history of the records alone
abbrev pub history_of : List Record → List Entry
history_of records = history_on [] records

-- the numbers of the records rise by 1 from that one on
abbrev pub AreNumbered : ℕ → List Record → Type 0
AreNumbered first [] = Unit {0}
AreNumbered first (r ∷ records) = (r.number ≡ first) × AreNumbered (first + 1) records

-- the records of segments in a row, the oldest first
abbrev pub joined : List Segment → List Record
joined [] = []
joined (s ∷ segments) = s.records ++ joined segments

-- the first segment begins with that number, and each next one follows the one before
abbrev pub AreChained : ℕ → List Segment → Type 0
AreChained first [] = Unit {0}
AreChained first (s ∷ segments) = (s.first ≡ first) × AreChained (first + length s.records) segments
