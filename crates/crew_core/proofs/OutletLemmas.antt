-- Segments that go to a sink in parts.
use Rattle.std.specs.Prelude.{◌≡◌, ℕ, List, [], ◌∷◌, ◌++◌}
use Rattle.std.proofs.Common.{ap, append-nil, append_assoc, sym, subst, refl, ◌∙◌, inl, inr}
use Rattle.device_core.specs.Device.{raised}
use Rattle.record_core.specs.declared.segment.Segment.{Segment}
use Rattle.rtrb.specs.Ring.{received, SameConsumer}
use Rattle.crew_core.specs.Outlets.{AreHandedOn, HasHandedOn}
use Rattle.crew_core.specs.declared.outlet.Outlet.{Outlet}

abbrev pub Step : Type 0 → Type 1
Step S = S → Segment → S → Type 0

handed_then : {S : Type 0} (takes refuses : Step S) (n : ℕ) (old : S) (xs : List Segment) (m : ℕ) (between : S) (ys : List Segment) (k : ℕ) (new' : S)
    → AreHandedOn takes refuses n old xs m between → AreHandedOn takes refuses m between ys k new' → AreHandedOn takes refuses n old (xs ++ ys) k new'
handed_then takes refuses n old [] m between ys k new' (count, same) then =
    subst (λ s. AreHandedOn takes refuses n s ys k new') same (subst (λ c. AreHandedOn takes refuses c between ys k new') count then)
handed_then takes refuses n old (s ∷ xs) m between ys k new' (here, inl (took, rest)) then =
    (here, inl (took, handed_then takes refuses n here xs m between ys k new' rest then))
handed_then takes refuses n old (s ∷ xs) m between ys k new' (here, inr (refused, rest)) then =
    (here, inr (refused, handed_then takes refuses (raised n) here xs m between ys k new' rest then))

pub both : {S : Type 0} (takes refuses : Step S) (n : ℕ) (a : Outlet S) (m : ℕ) (b : Outlet S) (k : ℕ) (c : Outlet S)
    → HasHandedOn takes refuses n a m b → HasHandedOn takes refuses m b k c → HasHandedOn takes refuses n a k c
both takes refuses n a m b k c first then = record {
  segments = first.segments ++ then.segments;
  came = then.came ∙ ap (λ l. l ++ then.segments) first.came ∙ append_assoc (received a.segments) first.segments then.segments;
  handed = handed_then takes refuses n a.sink first.segments m b.sink then.segments k c.sink first.handed then.handed;
  ring = search (first.ring, then.ring);
}

-- nothing came out of the ring
pub nothing_handed : {S : Type 0} (takes refuses : Step S) (n : ℕ) (a b : Outlet S) → received b.segments ≡ received a.segments → SameConsumer a.segments b.segments → b.sink ≡ a.sink
    → HasHandedOn takes refuses n a n b
nothing_handed takes refuses n a b came ring sink = record { segments = []; came = came ∙ sym (append-nil (received a.segments)); handed = (refl, sink); ring = ring }

pub nothing_yet : {S : Type 0} (takes refuses : Step S) (n : ℕ) (a : Outlet S) → HasHandedOn takes refuses n a n a
nothing_yet takes refuses n a = record { segments = []; came = sym (append-nil (received a.segments)); handed = (refl, refl); ring = search }

pub one_taken : {S : Type 0} (takes refuses : Step S) (n : ℕ) (a b : Outlet S) (s : Segment) → received b.segments ≡ received a.segments ++ s ∷ [] → SameConsumer a.segments b.segments
    → takes a.sink s b.sink → HasHandedOn takes refuses n a n b
one_taken takes refuses n a b s came ring took = record { segments = s ∷ []; came = came; handed = (b.sink, inl (took, (refl, refl))); ring = ring }

pub one_refused : {S : Type 0} (takes refuses : Step S) (n : ℕ) (a b : Outlet S) (s : Segment) → received b.segments ≡ received a.segments ++ s ∷ [] → SameConsumer a.segments b.segments
    → refuses a.sink s b.sink → HasHandedOn takes refuses n a (raised n) b
one_refused takes refuses n a b s came ring refused = record { segments = s ∷ []; came = came; handed = (b.sink, inr (refused, (refl, refl))); ring = ring }
