use Rattle.std.proofs.Common.{sym, subst}
use Rattle.conf_tree.specs.Kept.{IsKept, IsNext}
use Rattle.conf_tree.proofs.KeptLemmas.{kept_more}
use Rattle.conf_tree.proofs.kept.Kept.with.Goals as goal

pub invariant_of-result : goal.invariant_of-result
invariant_of-result c =
    subst (λ items. IsKept items c.in_ok-claims.claims c.in_ok-known.known) (sym c.in_ok-push.ensures.ok)
    (kept_more c.self.inside.items c.args.item c.self.inside.claims c.in_ok-claims.claims c.self.inside.known c.in_ok-known.known c.self.invariant
    (subst (λ items. IsNext items c.args.item) (sym c.self.view_is) c.requires) c.in_ok-claims.ensures c.in_ok-known.ensures)
