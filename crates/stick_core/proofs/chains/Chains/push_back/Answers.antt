use Rattle.std.specs.Prelude.{min}
use Rattle.std.proofs.Common.{◌≡◌, ◌<◌, ◌-◌, ◌∷◌, ◌++◌, [], ℕ, List, length, get_or, set, take, drop, sym, ap, subst, ◌∙◌, arith}
use Rattle.stick_core.specs.declared.links.Link.{Link}
use Rattle.stick_core.specs.Chains.{AreLinked, Chaining, chain_at, chained, no_ends}
use Rattle.stick_core.specs.Links.{end, ordered, IsLinked}
use Rattle.stick_core.specs.Ring.{Lacks}
use Rattle.stick_core.proofs.ChainLemmas.{IsMoved, chain-is, get-any, length-chained, pushed, seen, written}
use Rattle.stick_core.proofs.chains.Chains.push_back.Goals as goal

-- the ends of the chain
its-ends : (ends : List Link) (i : ℕ) (e : Link) → e ≡ get_or ends i e → i < length ends → e ≡ get_or ends i no_ends
its-ends ends i e is within = is ∙ get-any ends i e no_ends within

pub link_last-requires-clause-linked : goal.link_last-requires-clause-linked
link_last-requires-clause-linked c =
    let P : Link → Type 0 = λ e. IsLinked e c.as_mut_slice.result.now in
    let Q : List Link → Type 0 = λ l. IsLinked (get_or c.self.inside.ends.items c.args.chain no_ends) l in
    subst P (sym (its-ends c.self.inside.ends.items c.args.chain c.index_mut.result.now c.index_mut.ensures.value (omega (arith, c.requires.chain, ap (λ t. length t.chains) c.self.view_is, length-chained c.self.inside.ends.items c.self.inside.links.items))))
    (subst Q (sym c.as_mut_slice.ensures.value) (c.self.invariant.0.each c.args.chain))

pub link_last-requires-clause-lacks : goal.link_last-requires-clause-lacks
link_last-requires-clause-lacks c =
    let P : List ℕ → Type 0 = λ l. Lacks c.args.place l in
    subst P
    (ap (λ t. chain_at t.chains c.args.chain) (sym c.self.view_is) ∙ chain-is c.self.inside.ends.items c.self.inside.links.items c.args.chain
    ∙ ap (λ e. ordered e c.self.inside.links.items) (sym (its-ends c.self.inside.ends.items c.args.chain c.index_mut.result.now c.index_mut.ensures.value (omega (arith, c.requires.chain, ap (λ t. length t.chains) c.self.view_is, length-chained c.self.inside.ends.items c.self.inside.links.items))))
    ∙ ap (λ l. ordered c.index_mut.result.now l) (sym c.as_mut_slice.ensures.value))
    (c.requires.lacks c.args.chain)

all : (c : goal.After-self-2-1) → IsMoved c.self.inside.ends.items c.self.inside.links.items (set c.self.inside.ends.items c.args.chain c.link_last.new.ends) c.link_last.new.links c.args.chain
    (chain_at (chained c.self.inside.ends.items c.self.inside.links.items) c.args.chain ++ c.args.place ∷ [])
all c =
    pushed c.self.inside.ends.items c.self.inside.links.items c.as_mut_slice.result.now c.link_last.new.links c.index_mut.result.now c.link_last.new.ends c.args.chain c.args.place
    (omega (arith, c.self.invariant.1, c.self.inside.links.ok)) (omega (arith, c.requires.chain, ap (λ t. length t.chains) c.self.view_is, length-chained c.self.inside.ends.items c.self.inside.links.items)) c.self.invariant.0
    (its-ends c.self.inside.ends.items c.args.chain c.index_mut.result.now c.index_mut.ensures.value (omega (arith, c.requires.chain, ap (λ t. length t.chains) c.self.view_is, length-chained c.self.inside.ends.items c.self.inside.links.items)))
    c.as_mut_slice.ensures.value c.link_last.ensures.len (λ j. let P : List (List ℕ) → Type 0 = λ l. Lacks c.args.place (chain_at l j) in subst P (sym (ap (λ t. t.chains) c.self.view_is)) (c.requires.lacks j)) c.link_last.ensures.linked c.link_last.ensures.order c.link_last.ensures.others

-- the links then
links : (c : goal.After-self-2-1) → take c.self.inside.links.len (c.link_last.new.links ++ drop (length c.link_last.new.links) c.self.inside.links.items) ≡ c.link_last.new.links
links c = written c.self.inside.links.items c.link_last.new.links c.self.inside.links.len (omega (arith, c.self.inside.links.ok)) (c.link_last.ensures.len ∙ ap length c.as_mut_slice.ensures.value)

pub invariant_of-self : goal.invariant_of-self
invariant_of-self c =
    let P : List Link → Type 0 = λ l. AreLinked (set c.self.inside.ends.items c.args.chain c.link_last.new.ends) l in
    (subst P (sym (links c)) (all c).linked, c.self.invariant.1)

pub returns : goal.returns
returns c =
    seen (chained (set c.self.inside.ends.items c.args.chain c.link_last.new.ends) (take c.self.inside.links.len (c.link_last.new.links ++ drop (length c.link_last.new.links) c.self.inside.links.items)))
    (set (chained c.self.inside.ends.items c.self.inside.links.items) c.args.chain (chain_at (chained c.self.inside.ends.items c.self.inside.links.items) c.args.chain ++ c.args.place ∷ []))
    c.self.inside.links.len (min end c.self.inside.links.cap - c.self.inside.links.len)
    (ap (λ l. chained (set c.self.inside.ends.items c.args.chain c.link_last.new.ends) l) (links c) ∙ (all c).chains)
    ∙ (let f : Chaining → Chaining = λ t. record t { chains = set t.chains c.args.chain (chain_at t.chains c.args.chain ++ c.args.place ∷ []) } in ap f c.self.view_is)
