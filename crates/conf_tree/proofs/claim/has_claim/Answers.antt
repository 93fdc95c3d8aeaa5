use Rattle.std.proofs.Common.{◌≡◌, ◌∙◌, ◌==◌, false, map, ap, sym}
use Rattle.std.specs.List.{list_any}
use Rattle.conf_tree.specs.Marks.{mark_of}
use Rattle.conf_tree.proofs.MarkLemmas.{no_mark}
use Rattle.conf_tree.proofs.claim.has_claim.Goals as goal

pub returns-then-not-contains : goal.returns-then-not-contains
returns-then-not-contains c =
    let none : list_any (λ mark. mark == mark_of c.args.claim.now) (map mark_of c.args.taken.now) ≡ false =
    ap (λ marks. list_any (λ mark. mark == mark_of c.args.claim.now) marks) (sym c.requires)
    ∙ ap (λ m. list_any (λ mark. mark == m) c.args.marks.now) (sym c.mark_of.ensures) ∙ sym c.contains.ensures.value ∙ c.if-not-contains.true in
    sym (no_mark c.args.claim.now c.args.taken.now none)
