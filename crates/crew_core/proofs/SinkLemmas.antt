-- What a writer of the record has written after segments in a row.
use Rattle.std.proofs.Common.{◌≡◌, ◌⊎◌, ◌++◌, ◌∷◌, [], ℕ, List, Option, None, ap, subst, sym, ◌∙◌, inl, inr, arith}
use Rattle.std.specs.Prelude.{IsSome}
use Rattle.std.specs.Io.KnownBytes.{Appends}
use Rattle.record_core.specs.declared.record.Record.{Record}
use Rattle.record_core.specs.declared.segment.Segment.{Segment}
use Rattle.record_core.specs.Records.{joined}
use Rattle.device_core.specs.Device.{raised}
use Rattle.rtrb.specs.Ring.{received, sent}
use Rattle.book_core.specs.Book.{BookState, IsBook}
use Rattle.audit_core.specs.Recording.{records_text, AppendsFront}
use Rattle.crew_core.proofs.RecordLemmas.{journal_cut_off, longer_front, parts_recorded, segments_cut_off, wrote_both, wrote_front, wrote_nothing}
use Rattle.crew_core.specs.Outlets.{AreHandedOn, HasHandedOn}
use Rattle.crew_core.specs.Writers.{RecordsAll, RecordsFront, Refuses, Writes}
use Rattle.crew_core.specs.declared.outlet.Outlet.{Outlet}
use Rattle.crew_core.specs.declared.record_sink.RecordSink.{RecordSink}

-- All records are written; or a front of them, and it refuses from now on.
abbrev pub HasWritten : {W : Type 0} → (W → Option (List ℕ)) → RecordSink W → RecordSink W → List Record → Type 0
HasWritten held old new' records =
    ((new'.fault ≡ None) × Appends (held old.writer) (held new'.writer) (records_text records))
    ⊎ (IsSome new'.fault × AppendsFront (held old.writer) (held new'.writer) (records_text records))

-- once it refused a segment it refuses all
refused_on : {W : Type 0} (held : W → Option (List ℕ)) (n : ℕ) (old : RecordSink W) (segments : List Segment) (m : ℕ) (new' : RecordSink W) → IsSome old.fault
    → AreHandedOn (Writes held) (Refuses held) n old segments m new' → IsSome new'.fault × (new'.writer ≡ old.writer)
refused_on held n old [] m new' some (count, same) = (subst (λ s. IsSome s.fault) (sym same) some, ap (λ s. s.writer) same)
refused_on held n old (s ∷ segments) m new' some (between, inl (wrote, rest)) = absurd (grind (arith, some, wrote.0))
refused_on held n old (s ∷ segments) m new' some (between, inr (refused, rest)) =
    let then : IsSome new'.fault × (new'.writer ≡ between.writer) = refused_on held (raised n) between segments m new' refused.0 rest in
    (then.0, then.1 ∙ refused.2 some)

handed_to_writer : {W : Type 0} (held : W → Option (List ℕ)) (n : ℕ) (old : RecordSink W) (segments : List Segment) (m : ℕ) (new' : RecordSink W) → old.fault ≡ None
    → AreHandedOn (Writes held) (Refuses held) n old segments m new' → HasWritten held old new' (joined segments)
handed_to_writer held n old [] m new' none (count, same) =
    inl (ap (λ s. s.fault) same ∙ none, subst (λ s. Appends (held old.writer) (held s.writer) []) (sym same) (wrote_nothing (held old.writer)))
handed_to_writer held n old (s ∷ segments) m new' none (between, inl (wrote, rest)) =
    elim (handed_to_writer held n between segments m new' wrote.1 rest) [
      | inl all ↦ inl (all.0, wrote_both (held old.writer) (held between.writer) (held new'.writer) s.records (joined segments) wrote.2 all.1)
      | inr part ↦ inr (part.0, wrote_front (held old.writer) (held between.writer) (held new'.writer) s.records (joined segments) wrote.2 part.1)
    ]
handed_to_writer held n old (s ∷ segments) m new' none (between, inr (refused, rest)) =
    let then : IsSome new'.fault × (new'.writer ≡ between.writer) = refused_on held (raised n) between segments m new' refused.0 rest in
    inr (
      then.0,
      longer_front (held old.writer) (held new'.writer) s.records (joined segments)
          (subst (λ w. AppendsFront (held old.writer) (held w) (records_text s.records)) (sym then.1) (refused.1 none)),
    )

-- the segments that came out of the ring of an outlet
pub written_of : {W : Type 0} (held : W → Option (List ℕ)) (a : Outlet (RecordSink W)) (n : ℕ) (b : Outlet (RecordSink W)) (segments : List Segment)
    → HasHandedOn (Writes held) (Refuses held) 0 a n b → received a.segments ≡ [] → a.sink.fault ≡ None → received b.segments ≡ segments
    → HasWritten held a.sink b.sink (joined segments)
written_of held a n b segments handed begun none are =
    subst (λ xs. HasWritten held a.sink b.sink (joined xs)) (sym (handed.came ∙ ap (λ xs. xs ++ handed.segments) begun) ∙ are)
    (handed_to_writer held 0 a.sink handed.segments n b.sink none handed.handed)

-- The segments of a book were written, and then its journal.
pub book_recorded : {W : Type 0} (held : W → Option (List ℕ)) (b : BookState) (old mid : RecordSink W) (new' : W) → IsBook b → HasWritten held old mid (joined (sent b.segments)) → mid.fault ≡ None
    → Appends (held mid.writer) (held new') (records_text b.journal) → RecordsAll b.base b.made (held old.writer) (held new')
book_recorded held b old mid new' book (inl all) none then = parts_recorded b (held old.writer) (held mid.writer) (held new') book all.1 then
book_recorded held b old mid new' book (inr part) none then = absurd (grind (arith, part.0, none))

-- A front of them was written.
pub book_cut_off : {W : Type 0} (held : W → Option (List ℕ)) (b : BookState) (old mid : RecordSink W) (new' : W) → IsBook b → HasWritten held old mid (joined (sent b.segments))
    → (IsSome mid.fault → new' ≡ mid.writer) → (mid.fault ≡ None → AppendsFront (held mid.writer) (held new') (records_text b.journal)) → RecordsFront b.base b.made (held old.writer) (held new')
book_cut_off held b old mid new' book (inl all) refused front = journal_cut_off b (held old.writer) (held mid.writer) (held new') book all.1 (front all.0)
book_cut_off held b old mid new' book (inr part) refused front =
    segments_cut_off b (held old.writer) (held new') book
    (subst (λ w. AppendsFront (held old.writer) (held w) (records_text (joined (sent b.segments)))) (sym (refused part.0)) part.1)
