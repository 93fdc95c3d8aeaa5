use Rattle.std.proofs.Common.{◌-◌, List, [], replicate, sym, ap, subst, ◌∙◌}
use Rattle.std.specs.Prelude.{min}
use Rattle.stick_core.specs.Links.{end}
use Rattle.stick_core.specs.declared.links.Link.{Link}
use Rattle.stick_core.specs.Chains.{AreLinked, Chaining, chained}
use Rattle.stick_core.proofs.ChainLemmas.{chained-none, linked-none, seen}
use Rattle.stick_core.proofs.chains.Chains.reset.Goals as goal

pub invariant_of-self : goal.invariant_of-self
invariant_of-self c =
    let P : List Link → Type 0 = λ ends. AreLinked ends c.self.inside.links.items in
    (subst P (sym (c.in_ok-self-inside.ensures.items_if_clones_equal (λ y is. is))) (linked-none c.args.chains c.self.inside.links.items), c.self.invariant.1)

pub returns-clause-ok : goal.returns-clause-ok
returns-clause-ok c =
    seen (chained c.in_ok-self-inside.field-0.items c.self.inside.links.items) (replicate c.args.chains []) c.self.inside.links.len (min end c.self.inside.links.cap - c.self.inside.links.len)
    (ap (λ l. chained l c.self.inside.links.items) (c.in_ok-self-inside.ensures.items_if_clones_equal (λ y is. is)) ∙ chained-none c.args.chains c.self.inside.links.items)
    ∙ (let f : Chaining → Chaining = λ t. record t { chains = replicate c.args.chains [] } in ap f c.self.view_is)
