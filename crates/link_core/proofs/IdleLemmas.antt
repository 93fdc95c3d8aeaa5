-- Of some side something is expected, unless both directions are over.
use Rattle.std.proofs.Common.{inl, inr, ℕ, ◌<◌, Bool, true, false, List, [], ◌∷◌, ◌||◌, refl, rules, arith}
use Rattle.std.specs.Prelude.{IsTrue, nat_lt, ◌-◌}
use Rattle.std.proofs.lemmas.Grind.{common_steps}
use Rattle.relay_core.specs.Relay.{Ways}
use Rattle.link_core.specs.Idle.{SomeoneIsWaitedFor, waited_for_by}

or_true : (b : Bool) → IsTrue (b || true)
or_true true = search rules
or_true false = search rules

or_room : (b c : Bool) → IsTrue b → IsTrue (b || c)
or_room true c room = search rules
or_room false c room = search rules

has_room : (n : ℕ) → 0 < n → IsTrue (nat_lt 0 (n - 0))
has_room n some = grind (arith, common_steps)

pub someone_is_waited_for : (relay : Ways) → SomeoneIsWaitedFor relay (waited_for_by relay)
someone_is_waited_for relay = by relay.forth.bytes relay.back.bytes relay.forth.ended relay.back.ended relay.forth.capacity relay.back.capacity
  where
    by : (forth back : List ℕ) (forth_ended back_ended : Bool) (forth_capacity back_capacity : ℕ)
        → SomeoneIsWaitedFor (record { forth = record { bytes = forth; ended = forth_ended; capacity = forth_capacity }; back = record { bytes = back; ended = back_ended; capacity = back_capacity } })
        (waited_for_by (record { forth = record { bytes = forth; ended = forth_ended; capacity = forth_capacity }; back = record { bytes = back; ended = back_ended; capacity = back_capacity } }))
    by (x ∷ forth) back forth_ended back_ended forth_capacity back_capacity some more = inr (inl (or_true _))
    by [] (y ∷ back) forth_ended back_ended forth_capacity back_capacity some more = inl (or_true _)
    by [] [] false back_ended forth_capacity back_capacity some more = inl (or_room _ _ (has_room forth_capacity some))
    by [] [] true false forth_capacity back_capacity some more = inr (inl (or_room _ _ (has_room back_capacity more)))
    by [] [] true true forth_capacity back_capacity some more = inr (inr ((search rules, refl), (search rules, refl)))
