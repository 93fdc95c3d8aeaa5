-- The book that is named, after a step, a cut and a look at its ring.
use Rattle.std.specs.Prelude.{◌≡◌, Option}
use Rattle.std.proofs.Common.{◌∙◌}
use Rattle.conn_model.specs.History.{Entry}
use Rattle.rtrb.specs.Ring.{SameProducer}
use Rattle.book_core.specs.Book.{with_entry, BookState, SegmentProducer}
use Rattle.desk_core.specs.Books.{IsOf}

-- the same ring at three moments
pub same_ring : (a b c : SegmentProducer) → SameProducer a b → SameProducer b c → SameProducer a c
same_ring a b c s t = ((t.0.0 ∙ s.0.0, t.0.1 ∙ s.0.1, t.0.2 ∙ s.0.2, t.0.3 ∙ s.0.3), t.1 ∙ s.1)

pub of_later : (named : Option BookState) (b c : BookState) → c.base ≡ b.base → SameProducer b.segments c.segments → IsOf named b → IsOf named c
of_later named b c base ring opened = λ opening is. let was = opened opening is in (base ∙ was.0, same_ring opening.segments b.segments c.segments was.1 ring)

pub of_stepped : (named : Option BookState) (b : BookState) (e : Entry) → IsOf named b → IsOf named (with_entry b e)
of_stepped named b e opened = λ opening is. opened opening is
