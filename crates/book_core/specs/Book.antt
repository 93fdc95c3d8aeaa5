-- A core with its records.
use Rattle.std.specs.Prelude.{◌≡◌, ◌<◌, ◌⊎◌, ◌+◌, ◌-◌, ◌++◌, ◌∷◌, ℕ, nat_lt, List, [], length, Result, Err, if◌then◌else◌}
use Rattle.std.specs.declared.alloc.Global.{Global}
use Rattle.rtrb.specs.declared.AnyItems.{AnyItems}
use Rattle.rtrb.specs.declared.producer.Producer.{Producer}
use Rattle.rtrb.specs.Ring.{sent}
use Rattle.conn_model.specs.Answer.{answer_in}
use Rattle.conn_model.specs.HandedIn.{AreHandedIn}
use Rattle.conn_model.specs.History.{after, Entry, IsLegal, IsWell}
use Rattle.conn_model.specs.declared.event.OwnedEvent.{OwnedEvent}
use Rattle.conn_model.specs.declared.plain.Plain.{Plain}
use Rattle.conn_model.specs.declared.reply.Reply.{Reply}
use Rattle.conn_model.specs.declared.reply.StepFault.{StepFault}
use Rattle.conn_model.specs.declared.reply.StepFault.TheVariants.{Exhausted, NoMemory}
use Rattle.record_core.specs.declared.record.Record.{Record}
use Rattle.record_core.specs.declared.segment.Segment.{Segment}
use Rattle.record_core.specs.Records.{history_of, joined, record_of, AreChained, AreNumbered}

-- the end of a ring into which a book puts its segments
abbrev pub SegmentProducer : Type 0
SegmentProducer = Producer Segment Global AnyItems

-- what a contract sees of a book: the state in which it was opened, all records that were made, the oldest first,
-- those of them that are still in its memory, the ring into which the others went as segments, the state of its
-- core, and how many records were made
pub record BookState : Type 0 where
  pub base : Plain
  pub records : List Record
  pub journal : List Record
  pub segments : SegmentProducer
  pub state : Plain
  pub made : ℕ

abbrev pub state_of : Plain → List Record → SegmentProducer → Plain → ℕ → BookState
state_of base journal segments state made =
    record { base = base; records = joined (sent segments) ++ journal; journal = journal; segments = segments; state = state; made = made }

-- The records are a legal history from the base on, the core is the state after it, and their numbers rise by 1 from 1.
-- The first of them went out in segments, each of which follows the one before, and the others are in memory. Each of their
-- events is one that a caller can hand in.
pub record IsBook (b : BookState) : Type 0 where
  pub well : IsWell b.base
  pub legal : IsLegal b.base (history_of b.records)
  pub state : b.state ≡ after b.base (history_of b.records)
  pub numbers : AreNumbered 1 b.records
  pub made : b.made ≡ length b.records
  pub parts : b.records ≡ joined (sent b.segments) ++ b.journal
  pub chained : AreChained 1 (sent b.segments)
  pub handed_in : AreHandedIn (history_of b.records)

-- no record was made yet
abbrev pub new_book : Plain → SegmentProducer → BookState
new_book p segments = record { base = p; records = []; journal = []; segments = segments; state = p; made = 0 }

-- the book with one record more
abbrev pub with_entry : BookState → Entry → BookState
with_entry b e = record b {
  records = b.records ++ record_of (b.made + 1) e ∷ [];
  journal = b.journal ++ record_of (b.made + 1) e ∷ [];
  state = after b.state (e ∷ []);
  made = b.made + 1;
}

-- the records in memory as one segment
abbrev pub segment_of : BookState → Segment
segment_of b = record { first = b.made + 1 - length b.journal; records = b.journal }

-- the book with no record in memory, and that ring
abbrev pub after_cut : BookState → SegmentProducer → BookState
after_cut b segments = record b { journal = []; segments = segments }

-- the book with that ring
abbrev pub with_ring : BookState → SegmentProducer → BookState
with_ring b segments = record b { segments = segments }

-- the most records that are made
abbrev pub MOST_RECORDS : ℕ
MOST_RECORDS = 0xFFFF_FFFF_FFFF_FFFF

-- the answer of the core, if a record may be made
abbrev pub book_answer : BookState → ℕ → OwnedEvent → Result Reply StepFault
book_answer b moment event = if nat_lt b.made MOST_RECORDS then answer_in b.state moment event else Err Exhausted

-- a step may end in that fault: it is the answer, or a record may be made and there was no memory
abbrev pub IsBookFault : BookState → Result Reply StepFault → StepFault → Type 0
IsBookFault b answer fault = (answer ≡ Err fault) ⊎ ((fault ≡ NoMemory) × (b.made < MOST_RECORDS))
