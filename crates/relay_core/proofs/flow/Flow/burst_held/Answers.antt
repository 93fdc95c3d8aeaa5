use Rattle.std.proofs.Common.{◌≤◌, ℕ, List, ◌∙◌, ap, subst, arith, drop, length, take}
use Rattle.std.specs.Io.KnownBytes.{Appends}
use Rattle.relay_core.specs.Flow.{after_drain, drained_count}
use Rattle.relay_core.specs.Burst.{fill_count}
use Rattle.relay_core.proofs.Holds.{held_fits, held_on, held_read}
use Rattle.relay_core.proofs.flow.Flow.burst_held.Goals as goal

pub returns-clause-after : goal.returns-clause-after
returns-clause-after g c =
    let most : fill_count c.fill-filled.result ≤ length c.fill-filled.new.piece = omega (arith, held_fits _ _ _ _ _ c.fill-filled.ensures.answer, c.fill-filled.auto.piece) in
    c.drain.ensures.after ∙ ap (λ f. after_drain f c.drain.result) (c.fill-filled.ensures.after
    ∙ held_on c.args.self.now c.min-limit.result c.stop_at-count.result.0 c.stop_at-count.result.1 c.fill-filled.new.piece (drop c.args.most c.args.piece.now)
    c.fill-filled.result c.stop_at-count.ensures.count c.stop_at-count.ensures.stop most)

pub returns-clause-read : goal.returns-clause-read
returns-clause-read g c =
    let most : fill_count c.fill-filled.result ≤ length c.fill-filled.new.piece = omega (arith, held_fits _ _ _ _ _ c.fill-filled.ensures.answer, c.fill-filled.auto.piece) in
    rw (c.stop_at-count.ensures.count, held_read c.min-limit.result c.fill-filled.new.piece (drop c.args.most c.args.piece.now) c.fill-filled.result most)
    c.fill-filled.ensures.read

pub returns-clause-written : goal.returns-clause-written
returns-clause-written g c =
    let most : fill_count c.fill-filled.result ≤ length c.fill-filled.new.piece = omega (arith, held_fits _ _ _ _ _ c.fill-filled.ensures.answer, c.fill-filled.auto.piece) in
    subst (λ (bytes : List ℕ). Appends (g.O.Output.held c.args.writer.now) (g.O.Output.held c.drain.new.writer) (take (drained_count c.drain.result) bytes))
    (ap (λ f. f.bytes) (c.fill-filled.ensures.after
    ∙ held_on c.args.self.now c.min-limit.result c.stop_at-count.result.0 c.stop_at-count.result.1 c.fill-filled.new.piece (drop c.args.most c.args.piece.now)
    c.fill-filled.result c.stop_at-count.ensures.count c.stop_at-count.ensures.stop most))
    c.drain.ensures.written
