use Rattle.std.proofs.Common.{◌≡◌, ◌∙◌, ◌+◌, ◌-◌, ◌≤◌, ℕ, length, length-append, List, Option, ap, arith, subst}
use Rattle.std.specs.Prelude.{OnOk, IfErr}
use Rattle.book_core.specs.Book.{BookState, IsBook}
use Rattle.rtrb.specs.Ring.{sent}
use Rattle.record_core.specs.declared.record.Record.{Record}
use Rattle.record_core.specs.declared.segment.Segment.{Segment}
use Rattle.record_core.specs.Records.{joined}
use Rattle.desk_core.specs.Calls.{kept_of}
use Rattle.desk_core.specs.Receipts.{record_from, record_in, AreReceipts, IsFirstFault, RecordSources}
use Rattle.desk_core.specs.Settling.{book_record, journal_first}
use Rattle.desk_core.proofs.settling.check_book.Goals as goal

within_made : (b : BookState) → IsBook b → length b.journal ≤ b.made
within_made b book = omega (arith, book.made, ap (λ (l : List Record). length l) book.parts, length-append (joined (sent b.segments)) b.journal)

-- where the records of a book are found
of_book : (segments : List Segment) (b : BookState) (sources : RecordSources) (made : ℕ) (journal : List Record) → sources ≡ record { segments = segments; first = made - length journal + 1; journal = journal } →
    made ≡ b.made → journal ≡ b.journal → length b.journal ≤ b.made → record_from sources ≡ book_record segments b
of_book segments b sources made journal is all records within =
    let long : length journal ≡ length b.journal = ap (λ (l : List Record). length l) records in
    let begins : made - length journal + 1 ≡ journal_first b = omega arith in
    ap record_from is ∙ (λ i n. record_in segments (begins i) (records i) n)

pub returns-clause-ok : goal.returns-clause-ok
returns-clause-ok g c =
    let same = of_book c.args.segments.now c.args.book.now c.new-records.result c.made.result c.journal-journal.result.now c.new-records.ensures c.made.ensures c.journal-journal.ensures.records (within_made c.args.book.now c.journal-journal.ensures.legal) in
    subst (λ (book : ℕ → Option Record). OnOk c.check_receipts.result (AreReceipts book (kept_of c.args.passes.now))) same c.check_receipts.ensures.ok

pub returns-clause-bad : goal.returns-clause-bad
returns-clause-bad g c =
    let same = of_book c.args.segments.now c.args.book.now c.new-records.result c.made.result c.journal-journal.result.now c.new-records.ensures c.made.ensures c.journal-journal.ensures.records (within_made c.args.book.now c.journal-journal.ensures.legal) in
    subst (λ (book : ℕ → Option Record). IfErr c.check_receipts.result (IsFirstFault book (kept_of c.args.passes.now))) same c.check_receipts.ensures.bad
