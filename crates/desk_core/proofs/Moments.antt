-- Moments of a book's records.
use Rattle.std.specs.Prelude.{◌≡◌, ◌<◌, ◌≤◌, ℕ, zero, suc, ◌+◌, List, [], ◌∷◌, length}
use Rattle.std.proofs.Common.{arith, ap, get_or}
use Rattle.std.proofs.lemmas.List.Quantifiers.{all_pairs_push}
use Rattle.conn_model.specs.History.{now_of, Entry}
use Rattle.conn_model.specs.declared.plain.Plain.{Plain}
use Rattle.record_core.specs.declared.record.Record.{Record}
use Rattle.record_core.specs.Records.{entry_of, history_of, history_on, record_of}
use Rattle.book_core.specs.Book.{with_entry, BookState, IsBook}
use Rattle.desk_core.specs.Books.{MomentsRise}

-- a history that goes on has no smaller greatest moment
grows : (start : ℕ) (h : List Entry) (records : List Record) → now_of start h ≤ now_of start (history_on h records)
grows start h [] = omega arith
grows start h (r ∷ records) = let more = grows start (entry_of r ∷ h) records in omega arith

-- no record has a greater one
greatest : (start : ℕ) (h : List Entry) (records : List Record) (k : ℕ) (d : Record) → k < length records → (get_or records k d).moment ≤ now_of start (history_on h records)
greatest start h [] k d l = absurd (omega arith)
greatest start h (r ∷ records) zero d l = let more = grows start (entry_of r ∷ h) records in omega arith
greatest start h (r ∷ records) (suc k) d l = greatest start (entry_of r ∷ h) records k d (omega arith)

-- one record more, of a moment that is no smaller than the greatest
pub rise_on : (b : BookState) → IsBook b → MomentsRise b.records → (e : Entry) → b.state.clock ≤ e.moment → MomentsRise (with_entry b e).records
rise_on b book rise e late =
    let r : Record = record_of (b.made + 1) e in
    let clock : b.state.clock ≡ now_of b.base.clock (history_of b.records) = ap (λ (p : Plain). p.clock) book.state in
    all_pairs_push (λ (r s : Record). r.moment ≤ s.moment) b.records r rise (λ k d l. let at = greatest b.base.clock [] b.records k d l in omega (arith, at, clock, late))
