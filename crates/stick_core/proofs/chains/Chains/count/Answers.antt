use Rattle.std.proofs.Common.{◌≡◌, ◌≤◌, ℕ, List, length, get_or, sym, ap, subst, ◌∙◌, arith}
use Rattle.stick_core.specs.Chains.{chain_at, no_ends}
use Rattle.stick_core.specs.Links.{ordered}
use Rattle.stick_core.specs.Ring.{Distinct}
use Rattle.stick_core.proofs.ChainLemmas.{chain-is}
use Rattle.stick_core.proofs.RingLemmas.{fits}
use Rattle.stick_core.proofs.chains.Chains.count.Goals as goal

pub returns-clause-once : goal.returns-clause-once
returns-clause-once c = λ i.
    let P : List ℕ → Type 0 = λ l. Distinct l in
    subst P (sym (chain-is c.self.inside.ends.items c.self.inside.links.items i) ∙ ap (λ t. chain_at t.chains i) c.self.view_is) (c.self.invariant.0.each i).once

pub returns-clause-fits : goal.returns-clause-fits
returns-clause-fits c = λ i.
    let links = c.self.inside.links.items in
    let e = get_or c.self.inside.ends.items i no_ends in
    let most : length (ordered e links) ≤ length links = fits (length links) (ordered e links) (c.self.invariant.0.each i).once (c.self.invariant.0.each i).below in
    let is : length (ordered e links) ≡ length (chain_at c.args.self.now.chains i) = ap length (sym (chain-is c.self.inside.ends.items links i) ∙ ap (λ t. chain_at t.chains i) c.self.view_is) in
    omega (arith, most, is, ap (λ t. t.places) c.self.view_is, c.self.inside.links.ok)
