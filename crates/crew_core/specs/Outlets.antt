-- What becomes of the segments that come out of a book's ring.
use Rattle.std.specs.Prelude.{◌≡◌, ◌⊎◌, ℕ, List, [], ◌∷◌, ◌++◌}
use Rattle.device_core.specs.Device.{raised}
use Rattle.record_core.specs.declared.segment.Segment.{Segment}
use Rattle.rtrb.specs.Ring.{received, SameConsumer}
use Rattle.crew_core.specs.declared.outlet.Outlet.{Outlet}

-- The sink was given these segments in turn, and took or refused each. It had refused so many segments before, and so many after
-- that.
abbrev pub AreHandedOn : {S : Type 0} → (S → Segment → S → Type 0) → (S → Segment → S → Type 0) → ℕ → S → List Segment → ℕ → S → Type 0
AreHandedOn takes refuses refused old [] total new = (total ≡ refused) × (new ≡ old)
AreHandedOn {S} takes refuses refused old (s ∷ segments) total new =
    (between : S)
    × ((takes old s between × AreHandedOn takes refuses refused between segments total new)
    ⊎ (refuses old s between × AreHandedOn takes refuses (raised refused) between segments total new))

-- The sink was given what came out of the ring.
pub record HasHandedOn {S : Type 0} (takes refuses : S → Segment → S → Type 0) (refused : ℕ) (old : Outlet S) (total : ℕ) (new : Outlet S) : Type 0 where
  pub segments : List Segment
  pub came : received new.segments ≡ received old.segments ++ segments
  pub handed : AreHandedOn takes refuses refused old.sink segments total new.sink
  pub ring : SameConsumer old.segments new.segments
