-- Books: how they begin, and how they go on.
use Rattle.std.specs.Prelude.{◌≡◌, ◌<◌, ◌≤◌, ℕ, ◌+◌, ◌-◌, ◌^◌, Bool, true, false, List, [], ◌∷◌, ◌++◌, length, Ok, refl, nat_lt, if◌then◌else◌}
use Rattle.std.proofs.Common.{arith, ap, append-nil, append_assoc, inl, inr, subst, sym, ◌∙◌}
use Rattle.std.proofs.lemmas.Bool.Decides.{nat_tests}
use Rattle.std.proofs.lemmas.List.{length-append}
use Rattle.conn_model.specs.declared.event.OwnedEvent.{OwnedEvent}
use Rattle.conn_model.specs.declared.plain.Plain.{Plain}
use Rattle.conn_model.specs.declared.reply.Reply.{Reply}
use Rattle.conn_model.specs.declared.event.OwnedEvent.TheVariants.{Accept, Piece, Connected, ConnectFailed, Close, Expire, Reload, Mark}
use Rattle.conn_model.specs.declared.reply.Said.{Said}
use Rattle.conn_model.specs.declared.reply.StepFault.{StepFault}
use Rattle.conn_model.specs.Answer.{answer_in}
use Rattle.conn_model.specs.HandedIn.{IsHandedIn}
use Rattle.conn_model.specs.History.{after, answer, entry, leaves_open, Entry, IsFault, IsLegal, IsWell}
use Rattle.conn_model.proofs.Goes.{legal_both, whole_in_parts}
use Rattle.conn_model.proofs.Well.{after-nil, well_after}
use Rattle.record_core.specs.declared.record.Record.{Record}
use Rattle.record_core.specs.Records.{entry_of, history_of, history_on, joined, record_of, AreNumbered}
use Rattle.record_core.proofs.Appending.{history_on_appended, numbered_appended}
use Rattle.record_core.proofs.Chaining.{chained_appended, joined_appended, numbered_later}
use Rattle.rtrb.specs.Ring.{sent}
use Rattle.conn_model.specs.Counts.{open_connections}
use Rattle.book_core.specs.Open.{connections_opened}
use Rattle.book_core.specs.Book.{after_cut, book_answer, new_book, segment_of, state_of, with_entry, with_ring, BookState, IsBook, IsBookFault, SegmentProducer, MOST_RECORDS}
use Rattle.book_core.proofs.OpenLemmas.{open_after_answer}

pub book_begins : (p : Plain) (segments : SegmentProducer) → IsWell p → sent segments ≡ [] → IsBook (new_book p segments)
book_begins p segments well none = record {
  well = well;
  legal = tt;
  state = sym (after-nil p well);
  numbers = tt;
  made = refl;
  parts = rw none refl;
  chained = rw none tt;
  handed_in = tt;
}

-- as the code makes it
pub made_by_open : (p : Plain) (segments : SegmentProducer) → sent segments ≡ [] → state_of p [] segments p 0 ≡ new_book p segments
made_by_open p segments none = ap (λ records. record (new_book p segments) { records = joined records ++ [] }) none

-- one record more
pub records_appended : (b : BookState) (r : Record) → b.records ≡ joined (sent b.segments) ++ b.journal → joined (sent b.segments) ++ (b.journal ++ r ∷ []) ≡ b.records ++ r ∷ []
records_appended b r parts = sym (append_assoc (joined (sent b.segments)) b.journal (r ∷ [])) ∙ ap (λ records. records ++ r ∷ []) (sym parts)

pub book_goes_on : (b : BookState) (moment : ℕ) (event : OwnedEvent) (reply : Reply) (q : Plain) → IsBook b →
    answer b.base (history_of b.records) moment event ≡ Ok reply → q ≡ after b.base (entry moment event reply ∷ history_of b.records) →
    moment < 2 ^ 64 → IsHandedIn event →
    IsBook (state_of b.base (b.journal ++ record_of (b.made + 1) (entry moment event reply) ∷ []) b.segments q (b.made + 1))
book_goes_on b moment event reply q book answered next short given =
    let r : Record = record_of (b.made + 1) (entry moment event reply) in
    let records : joined (sent b.segments) ++ (b.journal ++ r ∷ []) ≡ b.records ++ r ∷ [] = records_appended b r book.parts in
    let more : history_of (b.records ++ r ∷ []) ≡ entry moment event reply ∷ history_of b.records = history_on_appended [] b.records r in
    record {
      well = book.well;
      legal = rw (records, more) (book.legal, answered);
      state = rw (records, more) next;
      numbers = rw records (numbered_appended 1 b.records r book.numbers (omega (arith, book.made)));
      made = rw records (omega (arith, book.made, length-append b.records (r ∷ [])));
      parts = refl;
      chained = book.chained;
      handed_in = rw (records, more) (short, given, book.handed_in);
    }

-- as the code makes it
pub made_by_step : (b : BookState) (e : Entry) (q : Plain) → IsBook b → q ≡ after b.state (e ∷ []) →
    state_of b.base (b.journal ++ record_of (b.made + 1) e ∷ []) b.segments q (b.made + 1) ≡ with_entry b e
made_by_step b e q book next =
    ap (λ state. state_of b.base (b.journal ++ record_of (b.made + 1) e ∷ []) b.segments state (b.made + 1)) next
    ∙ ap (λ records. record (with_entry b e) { records = records }) (records_appended b (record_of (b.made + 1) e) book.parts)

-- the journal in the ring

pub journal_length : (b : BookState) → IsBook b → b.made ≡ length (joined (sent b.segments)) + length b.journal
journal_length b book = book.made ∙ ap (λ records. length records) book.parts ∙ length-append (joined (sent b.segments)) b.journal

pub journal_first : (b : BookState) → IsBook b → b.made + 1 - length b.journal ≡ 1 + length (joined (sent b.segments))
journal_first b book = omega (arith, journal_length b book)

pub journal_numbers : (b : BookState) → IsBook b → AreNumbered (b.made + 1 - length b.journal) b.journal
journal_numbers b book =
    subst (λ n. AreNumbered n b.journal) (sym (journal_first b book)) (numbered_later 1 (joined (sent b.segments)) b.journal (subst (AreNumbered 1) book.parts book.numbers))

pub records_cut : (b : BookState) (segments : SegmentProducer) → IsBook b → sent segments ≡ sent b.segments ++ segment_of b ∷ [] → joined (sent segments) ++ [] ≡ b.records
records_cut b segments book more =
    append-nil (joined (sent segments)) ∙ ap joined more ∙ joined_appended (sent b.segments) (segment_of b) ∙ sym book.parts

pub book_cut : (b : BookState) (segments : SegmentProducer) → IsBook b → sent segments ≡ sent b.segments ++ segment_of b ∷ [] → IsBook (after_cut b segments)
book_cut b segments book more = record {
  well = book.well;
  legal = book.legal;
  state = book.state;
  numbers = book.numbers;
  made = book.made;
  parts = sym (records_cut b segments book more);
  chained = rw more (chained_appended 1 (sent b.segments) (segment_of b) book.chained (journal_first b book));
  handed_in = book.handed_in;
}

-- as the code makes it
pub made_by_cut : (b : BookState) (rest : List Record) (segments : SegmentProducer) → IsBook b → rest ≡ [] → sent segments ≡ sent b.segments ++ segment_of b ∷ [] →
    state_of b.base rest segments b.state b.made ≡ after_cut b segments
made_by_cut b rest segments book none more =
    ap (λ records. state_of b.base records segments b.state b.made) none ∙ ap (λ records. record (after_cut b segments) { records = records }) (records_cut b segments book more)

-- a look at the ring changes nothing of the book
pub book_looked : (b : BookState) (segments : SegmentProducer) → IsBook b → sent segments ≡ sent b.segments → IsBook (with_ring b segments)
book_looked b segments book same = record {
  well = book.well;
  legal = book.legal;
  state = book.state;
  numbers = book.numbers;
  made = book.made;
  parts = rw same book.parts;
  chained = rw same book.chained;
  handed_in = book.handed_in;
}

-- a history before the base
pub legal_on : (b : BookState) → IsBook b → (p : Plain) → IsWell p → (before : List Entry) → IsLegal p before → b.base ≡ after p before →
    IsLegal p (history_of b.records ++ before)
legal_on b book p well before legal is = legal_both p well (history_of b.records) before legal (subst (λ q. IsLegal q (history_of b.records)) is book.legal)

pub state_on : (b : BookState) → IsBook b → (p : Plain) → IsWell p → (before : List Entry) → IsLegal p before → b.base ≡ after p before →
    b.state ≡ after p (history_of b.records ++ before)
state_on b book p well before legal is =
    book.state ∙ ap (λ q. after q (history_of b.records)) is ∙ whole_in_parts p well (history_of b.records) before (legal_on b book p well before legal is)

-- the state of a book

pub state_well : (b : BookState) → IsBook b → IsWell b.state
state_well b book = subst IsWell (sym book.state) (well_after b.base book.well (history_of b.records) book.legal)

-- one entry opens one connection at most
open_few : (p : Plain) → IsWell p → (h : List Entry) → IsLegal p h → open_connections (after p h) ≤ open_connections p + length h
open_few p well [] legal = let same : open_connections (after p []) ≡ open_connections p = ap open_connections (after-nil p well) in omega (arith, same)
open_few p well (e ∷ h) legal =
    let parts : after (after p h) (e ∷ []) ≡ after p (e ∷ h) = whole_in_parts p well (e ∷ []) h legal in
    let one = open_after_answer (after p h) (well_after p well h legal.0) e.moment e.event e.reply legal.1 in
    let whole : open_connections (after p (e ∷ h)) ≡ open_connections (after (after p h) (e ∷ [])) = ap open_connections (sym parts) in
    omega (arith, whole, one, opens_one e.event e.reply.said, open_few p well h legal.0)
  where
    opens_one : (event : OwnedEvent) (said : Said) → connections_opened event said ≤ 1
    opens_one (Accept listener real) said = by (leaves_open said)
      where
        by : (b : Bool) → (if b then 1 else 0) ≤ 1
        by true = omega arith
        by false = omega arith
    opens_one (Piece id bytes) said = omega arith
    opens_one (Connected id) said = omega arith
    opens_one (ConnectFailed id) said = omega arith
    opens_one (Close id why) said = omega arith
    opens_one (Expire id) said = omega arith
    opens_one (Reload text) said = omega arith
    opens_one (Mark backend n health) said = omega arith

history_length : (h : List Entry) (records : List Record) → length (history_on h records) ≡ length h + length records
history_length h [] = omega arith
history_length h (r ∷ records) = omega (arith, history_length (entry_of r ∷ h) records)

pub state_few : (b : BookState) → IsBook b → open_connections b.state ≤ open_connections b.base + b.made
state_few b book =
    let same : open_connections b.state ≡ open_connections (after b.base (history_of b.records)) = ap open_connections book.state in
    omega (arith, same, book.made, history_length [] b.records, open_few b.base book.well (history_of b.records) book.legal)

-- a fault of the core is one of the book
pub fault_in_book : (b : BookState) (moment : ℕ) (event : OwnedEvent) (fault : StepFault) → b.made < MOST_RECORDS → IsFault event (answer_in b.state moment event) fault →
    IsBookFault b (book_answer b moment event) fault
fault_in_book b moment event fault few is = by is
  where
    stepped : book_answer b moment event ≡ answer_in b.state moment event
    stepped = let fits : nat_lt b.made MOST_RECORDS ≡ true = grind (arith, nat_tests, few) in rw fits refl

    by : IsFault event (answer_in b.state moment event) fault → IsBookFault b (book_answer b moment event) fault
    by (inl answer) = inl (stepped ∙ answer)
    by (inr none) = inr (none.0, few)
