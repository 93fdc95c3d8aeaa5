-- What is written of a book.
use Rattle.std.proofs.Common.{◌≡◌, ◌++◌, [], ℕ, List, Option, None, Some, take, drop, ap, subst, sym, ◌∙◌, append-nil, append_assoc, ◌+◌, ◌∷◌, length, arith}
use Rattle.std.proofs.lemmas.List.{take-append-drop}
use Rattle.std.specs.Io.KnownBytes.{Appends}
use Rattle.record_core.specs.declared.record.Record.{Record}
use Rattle.conn_model.specs.History.{Entry}
use Rattle.record_core.specs.Records.{entry_of, history_of, history_on, joined}
use Rattle.rtrb.specs.Ring.{sent}
use Rattle.book_core.specs.Book.{BookState, IsBook}
use Rattle.audit_core.specs.Recording.{records_text, AppendsFront}
use Rattle.crew_core.specs.Writers.{RecordsAll, RecordsFront}
use Rattle.audit_core.proofs.RecordingLemmas.{appends_both, front_of, records_append, records_history}

pub wrote_nothing : (held : Option (List ℕ)) → Appends held held []
wrote_nothing None = tt
wrote_nothing (Some text) = sym (append-nil text)

-- records, and then others
pub wrote_both : (old mid new' : Option (List ℕ)) (before next : List Record) → Appends old mid (records_text before) → Appends mid new' (records_text next)
    → Appends old new' (records_text (before ++ next))
wrote_both old mid new' before next first then =
    subst (Appends old new') (sym (records_append before next)) (appends_both old mid new' (records_text before) (records_text next) first then)

-- records, and then a front of others
pub wrote_front : (old mid new' : Option (List ℕ)) (before next : List Record) → Appends old mid (records_text before) → AppendsFront mid new' (records_text next)
    → AppendsFront old new' (records_text (before ++ next))
wrote_front old mid new' before next first (count, part) =
    front_of old new' (records_text before ++ take count (records_text next)) (drop count (records_text next)) (records_text (before ++ next))
    (appends_both old mid new' (records_text before) (take count (records_text next)) first part)
    (append_assoc (records_text before) (take count (records_text next)) (drop count (records_text next))
    ∙ ap (λ text. records_text before ++ text) (take-append-drop count (records_text next)) ∙ sym (records_append before next))

-- a front of records is one of more records
pub longer_front : (old new' : Option (List ℕ)) (front rest : List Record) → AppendsFront old new' (records_text front) → AppendsFront old new' (records_text (front ++ rest))
longer_front old new' front rest (count, part) =
    front_of old new' (take count (records_text front)) (drop count (records_text front) ++ records_text rest) (records_text (front ++ rest)) part
    (sym (append_assoc (take count (records_text front)) (drop count (records_text front)) (records_text rest))
    ∙ ap (λ text. text ++ records_text rest) (take-append-drop count (records_text front)) ∙ sym (records_append front rest))

-- the history of the records has as many entries
history_length : (h : List Entry) (records : List Record) → length (history_on h records) ≡ length h + length records
history_length h [] = omega arith
history_length h (r ∷ records) = omega (arith, history_length (entry_of r ∷ h) records)

made_length : (b : BookState) → IsBook b → length (history_of b.records) ≡ b.made
made_length b book = omega (arith, history_length [] b.records, book.made)

-- The segments of a book were written, and then its journal.
pub parts_recorded : (b : BookState) (old mid new' : Option (List ℕ)) → IsBook b → Appends old mid (records_text (joined (sent b.segments)))
    → Appends mid new' (records_text b.journal) → RecordsAll b.base b.made old new'
parts_recorded b old mid new' book first then = (
  record {
    history = history_of b.records;
    legal = book.legal;
    handed_in = book.handed_in;
    appended =
        subst (Appends old new') (ap records_text (sym book.parts) ∙ records_history b.records book.numbers)
        (wrote_both old mid new' (joined (sent b.segments)) b.journal first then);
  },
  made_length b book,
)

front_recorded : (b : BookState) (old new' : Option (List ℕ)) → IsBook b → AppendsFront old new' (records_text (joined (sent b.segments) ++ b.journal)) → RecordsFront b.base b.made old new'
front_recorded b old new' book part = (
  record {
    history = history_of b.records;
    legal = book.legal;
    handed_in = book.handed_in;
    appended = subst (AppendsFront old new') (ap records_text (sym book.parts) ∙ records_history b.records book.numbers) part;
  },
  made_length b book,
)

-- a front of the segments was written
pub segments_cut_off : (b : BookState) (old new' : Option (List ℕ)) → IsBook b → AppendsFront old new' (records_text (joined (sent b.segments))) → RecordsFront b.base b.made old new'
segments_cut_off b old new' book part = front_recorded b old new' book (longer_front old new' (joined (sent b.segments)) b.journal part)

-- The segments were written, and then a front of the journal.
pub journal_cut_off : (b : BookState) (old mid new' : Option (List ℕ)) → IsBook b → Appends old mid (records_text (joined (sent b.segments)))
    → AppendsFront mid new' (records_text b.journal) → RecordsFront b.base b.made old new'
journal_cut_off b old mid new' book first part = front_recorded b old new' book (wrote_front old mid new' (joined (sent b.segments)) b.journal first part)
