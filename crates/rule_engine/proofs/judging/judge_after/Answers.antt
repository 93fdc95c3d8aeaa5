use Rattle.std.proofs.Common.{◌≡◌, ◌+◌, ◌∷◌, drop, ◌∙◌, ap, sym}
use Rattle.std.proofs.lemmas.List.{drop_more}
use Rattle.rule_engine.specs.Judging.{judged_after}
use Rattle.rule_engine.proofs.JudgingLemmas.{also_expecting, passed, tracked_past, expected_past}
use Rattle.rule_engine.proofs.judging.judge_after.Goals.{then-is_true+in-Track, then-is_true+in-ExpectProxy, else-is_true}
use Rattle.rule_engine.proofs.judging.judge_after.Goals as goal

pub loop-rule-preserved : goal.loop-rule-preserved
loop-rule-preserved g c =
    let scene = g.S.Scene.meaning c.args.scene.now in
    let tracks = c.loop-rule.tracks in
    let expects = c.loop-rule.expects_header in
    let rule = c.rule-item.result in
    let rest = drop (c.loop-rule.rule-index + 1) c.args.rules.now in
    let there : drop c.loop-rule.rule-index c.args.rules.now ≡ rule ∷ rest =
    drop_more c.args.rules.now c.loop-rule.rule-index rule c.loop-rule-test.true ∙ ap (λ r. r ∷ rest) (sym c.rule-item.is) in
    let so_far = ap (λ rules. also_expecting expects (judged_after scene tracks rules)) (sym there) ∙ c.loop-rule.invariant in
    elim c.if-is_true.branch [
      | then-is_true+in-Track w ↦
          rw (w.tracks-is, w.expects_header-is, w.track-tracks.ensures)
          (ap (also_expecting expects) (sym (tracked_past scene tracks rule rest w.in-Track.counter w.in-Track.number (sym c.is_true.ensures ∙ w.if-is_true.true) w.in-Track.is)) ∙ so_far)
      | then-is_true+in-ExpectProxy w ↦
          rw (w.tracks-is, w.expects_header-is) (sym (expected_past scene tracks rule rest expects (sym c.is_true.ensures ∙ w.if-is_true.true) w.in-ExpectProxy.is) ∙ so_far)
      | else-is_true w ↦
          rw (w.tracks-is, w.expects_header-is) (ap (also_expecting expects) (sym (passed scene tracks rule rest (sym c.is_true.ensures ∙ w.if-is_true.false))) ∙ so_far)
    ]
