use Rattle.std.proofs.Common.{◌≡◌, ◌⊎◌, ◌<◌, length, inl, inr, refl, arith}
use Rattle.device_core.proofs.WrittenLemmas.{more_written, rest_length}
use Rattle.device_core.proofs.StallLemmas.{unblocked}
use Rattle.device_core.proofs.patience.write_all.Goals as goal

pub loop-written-preserved-in-Bytes : goal.loop-written-preserved-in-Bytes
loop-written-preserved-in-Bytes g c =
    let before = c.loop-written.invariant in
    let moved = rw c.in-Bytes.is at c.in_ok-count.ensures.moved in
    let stalls = rw c.in-Bytes.is at c.in_ok-count.ensures.stalls in
    record {
      held = more_written _ _ _ c.args.bytes.now c.loop-written.written c.in-Bytes.count before.held moved.2;
      within = rest_length c.args.bytes.now c.loop-written.written c.in-Bytes.count before.within moved.1;
      failures = rw c.in_ok-count.ensures.failures before.failures;
      stalls = inr stalls;
      few = omega arith;
      waits = inl refl;
    }

pub returns-clause-ok_stalls : goal.returns-clause-ok_stalls
returns-clause-ok_stalls g c = unblocked _ _ c.loop-written.stalls c.loop-written.invariant.stalls (none c.loop-written.invariant.waits)
  where
    none : (c.loop-written.stalls ≡ 0) ⊎ (c.loop-written.written < length c.args.bytes.now) → c.loop-written.stalls ≡ 0
    none (inl is) = is
    none (inr less) = absurd (omega (arith, c.loop-written-test.false))
