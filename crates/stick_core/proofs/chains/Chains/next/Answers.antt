use Rattle.std.proofs.Common.{◌≡◌, ◌≢◌, List, ℕ, ◌≤◌, ◌<◌, length, get_or, None, Some, inl, sym, ap, subst, ◌∙◌, arith}
use Rattle.stick_core.specs.declared.links.Link.{Link}
use Rattle.stick_core.specs.Chains.{AreLinked, Chaining, chain_at, chained, no_ends}
use Rattle.stick_core.specs.Links.{end, link_at, after_of, before_of, ordered}
use Rattle.stick_core.specs.Ring.{Has, next_of}
use Rattle.stick_core.proofs.ChainLemmas.{after-any, chain-is}
use Rattle.stick_core.proofs.RingLemmas.{ring_has, next_none, next_some}
use Rattle.stick_core.proofs.chains.Chains.next.Goals as goal

less : (ends links : List Link) (view : Chaining) (i place : ℕ) → AreLinked ends links → chained ends links ≡ view.chains → Has place (chain_at view.chains i) → place < length links
less ends links view i place linked is has =
    let e = get_or ends i no_ends in
    let P : List ℕ → Type 0 = λ l. Has place l in
    ring_has (after_of e links) (before_of e links) (length links) end place (ordered e links) (linked.each i) (subst P (ap (λ l. chain_at l i) (sym is) ∙ chain-is ends links i) has)

-- what a link says of the place after it
record IsNext (view : Chaining) (i place : ℕ) (l : Link) : Type 0 where
  none : l.after ≡ end → None ≡ next_of place (chain_at view.chains i)
  some : l.after ≢ end → Some l.after ≡ next_of place (chain_at view.chains i)

next : (ends links slice : List Link) (view : Chaining) (i place : ℕ) (l : Link) → AreLinked ends links → length links ≤ end → chained ends links ≡ view.chains → Has place (chain_at view.chains i)
    → slice ≡ links → l ≡ link_at no_ends slice place → IsNext view i place l
next ends links slice view i place l linked fits is has same read =
    let e = get_or ends i no_ends in
    let P : List ℕ → Type 0 = λ xs. Has place xs in
    let here : chain_at view.chains i ≡ ordered e links = ap (λ x. chain_at x i) (sym is) ∙ chain-is ends links i in
    let there : Has place (ordered e links) = subst P here has in
    let within : place < length links = less ends links view i place linked is has in
    let to : l.after ≡ after_of e links place =
    ap (λ k. k.after) read ∙ ap (λ k. after_of no_ends k place) same ∙ after-any no_ends e links place (λ equal. omega (arith, equal, within, fits)) in
    record {
      none = λ last. next_none (after_of e links) (before_of e links) (length links) place end (ordered e links) (linked.each i) fits there (sym to ∙ last) ∙ ap (next_of place) (sym here);
      some = λ more. next_some (after_of e links) (before_of e links) (length links) place end l.after (ordered e links) (linked.each i) fits there (sym to) more ∙ ap (next_of place) (sym here);
    }

pub overflow_cast-place : goal.overflow_cast-place
overflow_cast-place c =
    let within : c.args.place < length c.self.inside.links.items = less c.self.inside.ends.items c.self.inside.links.items c.args.self.now c.args.chain c.args.place c.self.invariant.0 (ap (λ t. t.chains) c.self.view_is) c.requires in
    omega (arith, within, c.self.invariant.1, c.self.inside.links.ok)

pub link_at_place-link-requires : goal.link_at_place-link-requires
link_at_place-link-requires c =
    rw c.as_slice.ensures.value (inl (less c.self.inside.ends.items c.self.inside.links.items c.args.self.now c.args.chain c.args.place c.self.invariant.0 (ap (λ t. t.chains) c.self.view_is) c.requires))

pub returns-then-link : goal.returns-then-link
returns-then-link c =
    (next c.self.inside.ends.items c.self.inside.links.items c.as_slice.result.now c.args.self.now c.args.chain c.args.place c.link_at_place-link.result c.self.invariant.0 (omega (arith, c.self.invariant.1, c.self.inside.links.ok))
    (ap (λ t. t.chains) c.self.view_is) c.requires c.as_slice.ensures.value c.link_at_place-link.ensures).none c.if-link.true

pub returns-else-link : goal.returns-else-link
returns-else-link c =
    (next c.self.inside.ends.items c.self.inside.links.items c.as_slice.result.now c.args.self.now c.args.chain c.args.place c.link_at_place-link.result c.self.invariant.0 (omega (arith, c.self.invariant.1, c.self.inside.links.ok))
    (ap (λ t. t.chains) c.self.view_is) c.requires c.as_slice.ensures.value c.link_at_place-link.ensures).some c.if-link.false
