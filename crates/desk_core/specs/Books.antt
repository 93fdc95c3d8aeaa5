-- The book of a desk.
use Rattle.std.specs.Prelude.{◌≡◌, ◌≤◌, ℕ, List, Option, max}
use Rattle.std.specs.List.{AllPairs}
use Rattle.std.specs.Option.{ForSome}
use Rattle.rtrb.specs.Ring.{SameProducer}
use Rattle.book_core.specs.Book.{BookState, IsBook}
use Rattle.record_core.specs.declared.record.Record.{Record}

-- where a book is named, this one has its base and its ring
abbrev pub IsOf : Option BookState → BookState → Type 0
IsOf named b = ForSome named (λ opening. (b.base ≡ opening.base) × SameProducer opening.segments b.segments)

-- no moment is smaller than one before it
abbrev pub MomentsRise : List Record → Type 0
MomentsRise = AllPairs (λ r s. r.moment ≤ s.moment)

-- The book is the one that is named, and the moments of its records never fall.
pub record IsDeskBook (named : Option BookState) (b : BookState) : Type 0 where
  pub book : IsBook b
  pub opened : IsOf named b
  pub rise : MomentsRise b.records

-- when an event is answered: at the moment that was handed in, or the greatest so far, if that is later
abbrev pub moment_in : BookState → ℕ → ℕ
moment_in b moment = max b.state.clock moment
