use Rattle.std.proofs.Common.{◌≡◌, ◌++◌, drop, map}
use Rattle.explain_core.specs.Text.{asked_in_group, criterion_line}
use Rattle.explain_core.proofs.quotes.Quoter.push_group.Given as goal

abbrev pub invariant-loop-term : goal.invariant-loop-term
invariant-loop-term g l =
    l.lines.items ++ map (criterion_line (g.V.View.worth l.self.view.now)) (asked_in_group (g.V.View.acls l.self.view.now) (drop l.term-index l.group))
    ≡ l.initial.lines.items ++ map (criterion_line (g.V.View.worth l.self.view.now)) (asked_in_group (g.V.View.acls l.self.view.now) l.group)
