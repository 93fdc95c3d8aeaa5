-- Segments in a row, and their records.
use Rattle.std.specs.Prelude.{◌≡◌, ℕ, ◌+◌, List, [], ◌∷◌, ◌++◌, length}
use Rattle.std.proofs.Common.{arith, ap, sym, subst, ◌∙◌, append_assoc, length-append, append-nil}
use Rattle.record_core.specs.declared.record.Record.{Record}
use Rattle.record_core.specs.declared.segment.Segment.{Segment}
use Rattle.record_core.specs.Records.{joined, AreChained, AreNumbered}

-- One segment more.

pub joined_appended : (segments : List Segment) (s : Segment) → joined (segments ++ s ∷ []) ≡ joined segments ++ s.records
joined_appended [] s = simp append-nil
joined_appended (x ∷ segments) s = ap (λ records. x.records ++ records) (joined_appended segments s) ∙ sym (append_assoc x.records (joined segments) s.records)

pub chained_appended : (first : ℕ) (segments : List Segment) (s : Segment) → AreChained first segments → s.first ≡ first + length (joined segments) → AreChained first (segments ++ s ∷ [])
chained_appended first [] s chain next = (omega (arith, next), tt)
chained_appended first (x ∷ segments) s chain next =
    (chain.0, chained_appended (first + length x.records) segments s chain.1 (omega (arith, next, length-append x.records (joined segments))))

-- Parts of records in a row.

pub numbered_later : (first : ℕ) (before records : List Record) → AreNumbered first (before ++ records) → AreNumbered (first + length before) records
numbered_later first [] records numbers = subst (λ n. AreNumbered n records) (omega arith) numbers
numbered_later first (x ∷ before) records numbers =
    subst (λ n. AreNumbered n records) (omega arith) (numbered_later (first + 1) before records numbers.1)
