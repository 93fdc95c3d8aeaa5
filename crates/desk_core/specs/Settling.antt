-- Why passes and leases do not account for a book.
use Rattle.std.specs.Prelude.{◌≡◌, ℕ, ◌+◌, ◌-◌, List, length, Option}
use Rattle.book_core.specs.Book.{BookState}
use Rattle.desk_core.specs.declared.receipts.SettleFault.{SettleFault}
use Rattle.desk_core.specs.declared.receipts.SettleFault.TheVariants.{Missing, WrongReceipt, Twice, NotAll}
use Rattle.desk_core.specs.Receipts.{record_in, IsFirstFault}
use Rattle.record_core.specs.declared.record.Record.{Record}
use Rattle.record_core.specs.declared.segment.Segment.{Segment}
use Rattle.record_core.specs.Records.{joined, AreChained}

-- the number of the first record that is in the journal of a book
abbrev pub journal_first : BookState → ℕ
journal_first b = b.made + 1 - length b.journal

-- the record of that number of a book, of which these segments were handed on
abbrev pub book_record : List Segment → BookState → ℕ → Option Record
book_record segments b = record_in segments (journal_first b) b.journal

-- the segments, and after them the journal, are all records of the book in a row, from number 1 on
abbrev pub HaveAllRecords : List Segment → BookState → Type 0
HaveAllRecords segments b = AreChained 1 segments × (journal_first b ≡ 1 + length (joined segments))

-- the passes are as many as were given out, and the leases as many as connections are open
abbrev pub AreAll : ℕ → ℕ → ℕ → ℕ → Type 0
AreAll passes given leases live = (passes ≡ given) × (leases ≡ live)

-- not all are there, or all are, and the fault is that of the first wrong receipt
abbrev pub IsSettleFault : Type 0 → (ℕ → Option Record) → List (List Record) → SettleFault → Type 0
IsSettleFault all book passes NotAll = all → ⊥
IsSettleFault all book passes (WrongReceipt n) = all × IsFirstFault book passes (WrongReceipt n)
IsSettleFault all book passes (Missing n) = all × IsFirstFault book passes (Missing n)
IsSettleFault all book passes (Twice n) = all × IsFirstFault book passes (Twice n)
