use Rattle.std.proofs.Common.{◌≡◌, ◌++◌, drop, map}
use Rattle.explain_core.specs.Text.{criterion_line}
use Rattle.explain_core.proofs.quotes.Quoter.push_acl.Given as goal

abbrev pub invariant-loop-test : goal.invariant-loop-test
invariant-loop-test g l =
    l.lines.items ++ map (criterion_line (g.V.View.worth l.self.view.now)) (map (λ test. test.criterion) (drop l.test-index l.test-items))
    ≡ l.initial.lines.items ++ map (criterion_line (g.V.View.worth l.self.view.now)) (map (λ test. test.criterion) l.test-items)
