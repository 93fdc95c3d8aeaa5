use Rattle.std.proofs.Common.{◌≡◌, ℕ, ◌≤◌, ◌+◌, min, vec_len, ap, ◌∙◌, arith}
use Rattle.std.proofs.lemmas.List.Sums.{sum_by_push}
use Rattle.desk_core.specs.Calls.{calls_of, PassState}
use Rattle.crew_core.proofs.crew.take_apart.Goals as goal

-- one is taken from a list and one is pushed to another
moved : (from to next more all : ℕ) → next + 1 ≡ from → more ≡ to + 1 → to + from ≡ all → more + next ≡ all
moved from to next more all less pushed before = omega arith

-- a worker has no more replies that closed than calls
closed_more : (first closed calls replies own sum most : ℕ) → sum ≡ min (closed + replies) most → replies ≤ own → first + closed ≤ calls → first + sum ≤ calls + own
closed_more first closed calls replies own sum most is few before = omega arith

pub loop-worker-preserved : goal.loop-worker-preserved
loop-worker-preserved g c =
    let before = c.loop-worker.invariant in
    let less : vec_len c.pop.new.self + 1 ≡ vec_len c.loop-worker.workers = c.in-Some.ensures.cases in
    let grown : calls_of c.push_reserved.new.self.items ≡ calls_of c.loop-worker.passes.items + c.in-Some.worker.calls.pass.calls =
    ap calls_of c.push_reserved.ensures.items ∙ sum_by_push (λ (p : PassState). p.calls) c.loop-worker.passes.items c.into_parts-pass.result.0
    ∙ ap (λ (p : PassState). calls_of c.loop-worker.passes.items + p.calls) c.into_parts-pass.ensures.pass in (
      moved _ _ _ _ _ less c.push_reserved.ensures.len before.0,
      moved _ _ _ _ _ less c.push_reserved-in-Some.ensures.len before.1,
      moved _ _ _ _ _ less c.push_reserved-in-Some-2.ensures.len before.2,
      c.push_reserved.ensures.capacity ∙ before.3,
      c.push_reserved-in-Some.ensures.capacity ∙ before.4,
      c.push_reserved-in-Some-2.ensures.capacity ∙ before.5,
      rw grown (closed_more _ _ _ _ _ _ _ c.saturating_add-closed.ensures c.into_parts-pass.ensures.closed before.6),
    )
