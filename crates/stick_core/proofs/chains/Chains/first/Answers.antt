use Rattle.std.proofs.Common.{◌≡◌, get_or, sym, ap, subst, ◌∙◌, arith}
use Rattle.std.specs.Prelude.{slice_get}
use Rattle.stick_core.specs.declared.links.Link.{Link}
use Rattle.stick_core.specs.Chains.{chain_at, no_ends}
use Rattle.stick_core.specs.Links.{IsLinked, ordered}
use Rattle.stick_core.proofs.ChainLemmas.{chain-is, first-none, first-some}
use Rattle.stick_core.proofs.chains.Chains.first.Goals as goal

pub returns-then-ends : goal.returns-then-ends
returns-then-ends c =
    let links = c.self.inside.links.items in
    let ends = c.self.inside.ends.items in
    let is : c.in_ok-ends.ends.now ≡ get_or ends c.args.chain no_ends = c.in_ok-ends.ensures.lookup.3.1 no_ends ∙ ap (λ l. get_or l c.args.chain no_ends) c.deref.ensures.value in
    let P : Link → Type 0 = λ e. IsLinked e links in
    first-none c.in_ok-ends.ends.now links (subst P (sym is) (c.self.invariant.0.each c.args.chain)) (omega (arith, c.self.invariant.1, c.self.inside.links.ok)) c.if-ends.true
    ∙ ap (λ e. slice_get (ordered e links) 0) is ∙ ap (λ l. slice_get l 0) (sym (chain-is ends links c.args.chain)) ∙ ap (λ t. slice_get (chain_at t.chains c.args.chain) 0) c.self.view_is

pub returns-else-ends : goal.returns-else-ends
returns-else-ends c =
    let links = c.self.inside.links.items in
    let ends = c.self.inside.ends.items in
    let is : c.in_ok-ends.ends.now ≡ get_or ends c.args.chain no_ends = c.in_ok-ends.ensures.lookup.3.1 no_ends ∙ ap (λ l. get_or l c.args.chain no_ends) c.deref.ensures.value in
    let P : Link → Type 0 = λ e. IsLinked e links in
    first-some c.in_ok-ends.ends.now links (subst P (sym is) (c.self.invariant.0.each c.args.chain)) c.if-ends.false
    ∙ ap (λ e. slice_get (ordered e links) 0) is ∙ ap (λ l. slice_get l 0) (sym (chain-is ends links c.args.chain)) ∙ ap (λ t. slice_get (chain_at t.chains c.args.chain) 0) c.self.view_is
