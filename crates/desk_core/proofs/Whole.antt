-- Passes that keep the records of all their calls.
use Rattle.std.proofs.Common.{◌≡◌, ◌≤◌, ◌∙◌, ℕ, suc, ◌+◌, List, [], ◌∷◌, ◌++◌, length, length-append, Option, Bool, true, refl, ap, sym, subst, arith}
use Rattle.std.specs.Prelude.{sum_by, if◌then◌else◌}
use Rattle.std.specs.List.{All}
use Rattle.std.proofs.lemmas.List.Elements.{All-push}
use Rattle.std.proofs.lemmas.List.Sums.{sum_by-cons}
use Rattle.book_core.specs.Book.{BookState}
use Rattle.record_core.specs.declared.record.Record.{Record}
use Rattle.record_core.specs.declared.segment.Segment.{Segment}
use Rattle.record_core.specs.Records.{joined}
use Rattle.desk_core.specs.Calls.{calls_of, kept_of, AllKeep, AreWhole, IsWhole, PassState}
use Rattle.desk_core.specs.Receipts.{record_at, AreReceipts, IsReceiptOfOneCall}
use Rattle.desk_core.specs.Settling.{book_record, journal_first, HaveAllRecords}
use Rattle.desk_core.proofs.Once.{each_is_receipt_of_one_call}
use Rattle.desk_core.proofs.Segments.{in_joined}

-- with one more pass at the end
pub whole_more : (all before : List PassState) (p : PassState) → all ≡ before ++ p ∷ [] → IsWhole p → AreWhole before → AreWhole all
whole_more all before p is whole rest = subst AreWhole (sym is) (All-push IsWhole before p rest whole)

pub whole_none : (ps : List PassState) → length ps ≡ 0 → AreWhole ps
whole_none ps none k d l = absurd (omega (arith, none, l))

all_later : (P : PassState → Type 0) (p : PassState) (ps : List PassState) → All P (p ∷ ps) → All P ps
all_later P p ps h k d l = h (suc k) d (omega arith)

-- passes that all keep their records keep as many as they have calls
kept_are_calls : (ps : List PassState) → AreWhole ps → AllKeep ps → sum_by (λ (q : List Record). length q) (kept_of ps) ≡ calls_of ps
kept_are_calls [] whole keep = refl
kept_are_calls (p ∷ ps) whole keep =
    let first : length p.kept ≡ (if p.keeps then p.calls else 0) = whole 0 p (omega arith) in
    let keeps : p.keeps ≡ true = keep 0 p (omega arith) in
    let here : length p.kept ≡ p.calls = first ∙ ap (λ (b : Bool). if b then p.calls else 0) keeps in
    let rest = kept_are_calls ps (all_later IsWhole p ps whole) (all_later (λ q. q.keeps ≡ true) p ps keep) in
    sum_by-cons (λ (q : List Record). length q) p.kept (kept_of ps) ∙ ap (λ n. n + sum_by (λ (q : List Record). length q) (kept_of ps)) here ∙ ap (λ n. p.calls + n) rest ∙ sym (sum_by-cons (λ (q : PassState). q.calls) p ps)

-- where all passes keep their records, and the segments and the journal have all records, each record is the receipt of
-- exactly one call
pub each_of_one_call : (segments : List Segment) (b : BookState) (ps : List PassState) → AreReceipts (book_record segments b) (kept_of ps) → AreWhole ps → calls_of ps ≡ b.made →
    AllKeep ps → HaveAllRecords segments b → (n : ℕ) → 1 ≤ n → n ≤ b.made → IsReceiptOfOneCall (book_record segments b) (kept_of ps) n
each_of_one_call segments b ps receipts whole calls keep all n low high =
    let records = joined segments ++ b.journal in
    let long : length records ≡ length (joined segments) + length b.journal = length-append (joined segments) b.journal in
    let made : b.made ≡ length records = let first = all.1 in omega (arith, long, first) in
    let same : book_record segments b ≡ record_at 1 records = λ i m. in_joined segments 1 (journal_first b) b.journal all.0 all.1 m i in
    let here : AreReceipts (record_at 1 records) (kept_of ps) = subst (λ (book : ℕ → Option Record). AreReceipts book (kept_of ps)) same receipts in
    let one = each_is_receipt_of_one_call records (kept_of ps) here (kept_are_calls ps whole keep ∙ calls ∙ made) n low (omega (arith, made, high)) in
    subst (λ (book : ℕ → Option Record). IsReceiptOfOneCall book (kept_of ps) n) (sym same) one
