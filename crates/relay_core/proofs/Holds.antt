-- A single fill is a burst of one read.
use Rattle.std.proofs.Common.{◌≡◌, ℕ, ◌≤◌, nat_lt, Bool, true, false, ◌||◌, List, ◌++◌, length, take, Option, Result, Ok, Err, if◌then◌else◌, refl, sym, arith, append-nil}
use Rattle.std.proofs.lemmas.List.{take-append-le}
use Rattle.relay_core.specs.declared.flow.FlowFault.{FlowFault}
use Rattle.relay_core.specs.declared.flow.Filled.{Filled}
use Rattle.relay_core.specs.declared.flow.Filled.TheVariants as filled
use Rattle.relay_core.specs.declared.burst.BurstStop.{BurstStop}
use Rattle.relay_core.specs.declared.burst.BurstStop.TheVariants as stop
use Rattle.relay_core.specs.Flow.{Held, IsFillAnswer, after_fill, read_in}
use Rattle.relay_core.specs.Burst.{after_reads, fill_count, fill_stop, is_end}

not_asked : (ended : Bool) (answer : Result Filled FlowFault) (limit : ℕ) → answer ≡ Ok (if ended then filled.End else filled.NoRoom) →
    (fill_count answer ≡ 0) × (fill_stop answer limit ≡ Ok (if ended then stop.End else stop.NoRoom))
not_asked true answer limit p = rw p (refl, refl)
not_asked false answer limit p = rw p (refl, refl)

or_end : (b : Bool) → (b || true) ≡ true
or_end true = refl
or_end false = refl

or_same : (b : Bool) → (b || false) ≡ b
or_same true = refl
or_same false = refl

is_end_of : (b : Bool) → is_end (Ok (if b then stop.Short else stop.Full)) ≡ false
is_end_of true = refl
is_end_of false = refl

pub held_after : (flow : Held) (limit : ℕ) (part rest : List ℕ) (answer : Result Filled FlowFault) → fill_count answer ≤ length part →
    after_reads flow (fill_count answer) (fill_stop answer limit) (part ++ rest) ≡ after_fill flow answer part
held_after flow limit part rest (Ok (filled.Bytes n)) fits =
    rw (take-append-le n part rest fits, is_end_of (nat_lt n limit), or_same flow.ended) refl
held_after flow limit part rest (Ok filled.End) fits = rw (append-nil flow.bytes, or_end flow.ended) refl
held_after flow limit part rest (Ok filled.Blocked) fits = rw (append-nil flow.bytes, or_same flow.ended) refl
held_after flow limit part rest (Ok filled.NoRoom) fits = rw (append-nil flow.bytes, or_same flow.ended) refl
held_after flow limit part rest (Err e) fits = rw (append-nil flow.bytes, or_same flow.ended) refl

pub held_on : (flow : Held) (limit count : ℕ) (stopped : Result BurstStop FlowFault) (part rest : List ℕ) (answer : Result Filled FlowFault) →
    count ≡ fill_count answer → stopped ≡ fill_stop answer limit → fill_count answer ≤ length part →
    after_fill flow answer part ≡ after_reads flow count stopped (part ++ rest)
held_on flow limit count stopped part rest answer p q fits = rw (p, q) (sym (held_after flow limit part rest answer fits))

pub held_fits : (asks : Bool) (flow : Held) (size : ℕ) (left : Option (List ℕ)) (answer : Result Filled FlowFault) →
    IsFillAnswer asks flow size left answer → fill_count answer ≤ size
held_fits false flow size left answer p = omega (arith, (not_asked flow.ended answer 0 p).0)
held_fits true flow size left (Ok (filled.Bytes n)) p = omega (arith, p.1)
held_fits true flow size left (Ok filled.End) p = omega arith
held_fits true flow size left (Ok filled.Blocked) p = omega arith
held_fits true flow size left (Ok filled.NoRoom) p = omega arith
held_fits true flow size left (Err e) p = omega arith

pub held_read : (limit : ℕ) (part rest : List ℕ) (answer : Result Filled FlowFault) → fill_count answer ≤ length part →
    take (fill_count answer) (part ++ rest) ≡ read_in answer part
held_read limit part rest (Ok (filled.Bytes n)) fits = take-append-le n part rest fits
held_read limit part rest (Ok filled.End) fits = refl
held_read limit part rest (Ok filled.Blocked) fits = refl
held_read limit part rest (Ok filled.NoRoom) fits = refl
held_read limit part rest (Err e) fits = refl
