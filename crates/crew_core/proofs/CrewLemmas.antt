-- The book of a crew, and the two ends of its ring.
use Rattle.std.proofs.Common.{◌≡◌, Option, Some, sym, ◌∙◌}
use Rattle.rtrb.specs.Ring.{IsPair, SameConsumer, SameProducer}
use Rattle.book_core.specs.Book.{BookState}
use Rattle.desk_core.specs.Books.{IsOf}
use Rattle.crew_core.specs.declared.outlet.Outlet.{Outlet}

-- the book that is named is the one that went in
pub of_opening : (named : Option BookState) (opening b : BookState) → named ≡ Some opening → IsOf named b → (b.base ≡ opening.base) × SameProducer opening.segments b.segments
of_opening named opening b is of = of opening is

-- Both ends are still those of one ring.
pub still_pair : {S : Type 0} (p q : BookState) (a b : Outlet S) → IsPair p.segments a.segments → SameProducer p.segments q.segments → SameConsumer a.segments b.segments
    → IsPair q.segments b.segments
still_pair p q a b pair producer consumer =
    (consumer.0.0 ∙ pair.0 ∙ sym producer.0.0, consumer.0.1 ∙ pair.1 ∙ sym producer.0.1, consumer.0.2 ∙ pair.2 ∙ sym producer.0.2, consumer.0.3 ∙ pair.3 ∙ sym producer.0.3)
