use Rattle.std.specs.Prelude.{◌≡◌, ◌≢◌, ℕ, ◌-◌, ◌<◌, ◌≤◌, ◌⊎◌, List, [], ◌∷◌, ◌++◌, length, Option, Some, None, if◌then◌else◌, nat_lt, slice_get, sum_by}
use Rattle.std.specs.List.{All, AllPairs}
use Rattle.std.specs.Option.{option_or}
use Rattle.record_core.specs.declared.record.Record.{Record}
use Rattle.record_core.specs.declared.segment.Segment.{Segment}
use Rattle.record_core.specs.Records.{AreChained}
use Rattle.desk_core.specs.declared.receipts.SettleFault.{SettleFault}
use Rattle.desk_core.specs.declared.receipts.SettleFault.TheVariants.{Missing, WrongReceipt, Twice, NotAll}

-- the record of that number in records of which the first has the number `first`
abbrev pub record_at : ℕ → List Record → ℕ → Option Record
record_at first records n = if nat_lt n first then None else slice_get records (n - first)

-- the record of that number in the first listed segment that has it
abbrev pub record_listed : List Segment → ℕ → Option Record
record_listed [] n = None
record_listed (s ∷ segments) n = option_or (record_at s.first s.records n) (record_listed segments n)

-- each segment follows the one before it
abbrev pub IsChain : List Segment → Type 0
IsChain segments = (first : ℕ) × AreChained first segments

-- the record of that number in the first listed segment that has it, or else in the journal, whose first record has the
-- number `first`
abbrev pub record_in : List Segment → ℕ → List Record → ℕ → Option Record
record_in segments first journal n = option_or (record_listed segments n) (record_at first journal n)

-- where records are found
pub record RecordSources : Type 0 where
  pub segments : List Segment
  pub first : ℕ
  pub journal : List Record

abbrev pub record_from : RecordSources → ℕ → Option Record
record_from sources = record_in sources.segments sources.first sources.journal

-- each record is the book's record of its number
abbrev pub AreRecordsOf : (ℕ → Option Record) → List Record → Type 0
AreRecordsOf book = All (λ r. book r.number ≡ Some r)

-- the numbers rise
abbrev pub NumbersRise : List Record → Type 0
NumbersRise = AllPairs (λ r s. r.number < s.number)

-- some record has the number
abbrev pub HasNumber : List Record → ℕ → Type 0
HasNumber p n = (k : ℕ) × (r : Record) × (slice_get p k ≡ Some r) × (r.number ≡ n)

-- no number is in both
abbrev pub ShareNoNumber : List Record → List Record → Type 0
ShareNoNumber p q = (n : ℕ) → HasNumber p n → HasNumber q n → ⊥

-- The receipts that the passes keep are records of the book, their numbers rise in each pass, and no number is in two passes.
pub record AreReceipts (book : ℕ → Option Record) (passes : List (List Record)) : Type 0 where
  pub are_records : All (AreRecordsOf book) passes
  pub rise : All NumbersRise passes
  pub apart : AllPairs ShareNoNumber passes

-- the number is above all of these records'
abbrev pub AreBelow : List Record → ℕ → Type 0
AreBelow part n = All (λ r. r.number < n) part

-- one of these passes has the number
abbrev pub HasEarlier : List (List Record) → ℕ → Type 0
HasEarlier before n = (k : ℕ) × (p : List Record) × (slice_get before k ≡ Some p) × HasNumber p n

-- what is wrong with a receipt that comes after these passes and this part of its own pass
abbrev pub IsFaultOf : (ℕ → Option Record) → List (List Record) → List Record → Record → SettleFault → Type 0
IsFaultOf book before part r (Missing n) = (n ≡ r.number) × (book n ≡ None)
IsFaultOf book before part r (WrongReceipt n) = (n ≡ r.number) × (book n ≢ None) × ((book n ≢ Some r) ⊎ (AreBelow part n → ⊥))
IsFaultOf book before part r (Twice n) = (n ≡ r.number) × (book n ≡ Some r) × AreBelow part n × HasEarlier before n
IsFaultOf book before part r NotAll = ⊥

-- the fault is that of the first wrong receipt, in the order of the passes: all before it are right
pub record IsFirstFault (book : ℕ → Option Record) (passes : List (List Record)) (fault : SettleFault) : Type 0 where
  pub before : List (List Record)
  pub part : List Record
  pub receipt : Record
  pub rest : List Record
  pub after : List (List Record)
  pub is : passes ≡ before ++ (part ++ receipt ∷ rest) ∷ after
  pub kept : AreReceipts book (before ++ part ∷ [])
  pub bad : IsFaultOf book before part receipt fault

-- just one receipt has the number, and it is the record of the number
pub record IsReceiptOfOneCall (book : ℕ → Option Record) (passes : List (List Record)) (n : ℕ) : Type 0 where
  pub pass : ℕ
  pub place : ℕ
  pub receipts : List Record
  pub receipt : Record
  pub in_pass : slice_get passes pass ≡ Some receipts
  pub at_place : slice_get receipts place ≡ Some receipt
  pub number : receipt.number ≡ n
  pub is : book n ≡ Some receipt
  pub only : (i k : ℕ) (p : List Record) (r : Record) → slice_get passes i ≡ Some p → slice_get p k ≡ Some r → r.number ≡ n → (i ≡ pass) × (k ≡ place)

-- where the passes keep as many receipts as there are records, from number 1 on, each record is the receipt of exactly one
-- call
abbrev pub EachIsReceiptOfOneCall : Type 0
EachIsReceiptOfOneCall = (records : List Record) (passes : List (List Record))
    → AreReceipts (record_at 1 records) passes → sum_by (λ p. length p) passes ≡ length records
    → (n : ℕ) → 1 ≤ n → n ≤ length records → IsReceiptOfOneCall (record_at 1 records) passes n

-- where the receipts are right none of them has a fault, and else one fault alone is the first
abbrev pub FirstFaultIsOne : Type 0
FirstFaultIsOne = (book : ℕ → Option Record) (passes : List (List Record)) (f : SettleFault) → IsFirstFault book passes f
    → (AreReceipts book passes → ⊥) × ((g : SettleFault) → IsFirstFault book passes g → f ≡ g)
