use Rattle.std.specs.Prelude.{min}
use Rattle.std.proofs.Common.{◌≡◌, ◌<◌, ◌-◌, ◌++◌, ℕ, List, length, get_or, set, take, drop, sym, ap, subst, ◌∙◌, arith}
use Rattle.stick_core.specs.declared.links.Link.{Link}
use Rattle.stick_core.specs.Chains.{AreLinked, Chaining, chain_at, chained, no_ends}
use Rattle.stick_core.specs.Links.{end, ordered, IsLinked}
use Rattle.stick_core.specs.Ring.{Has, without}
use Rattle.stick_core.proofs.ChainLemmas.{IsMoved, chain-is, get-any, has-within, length-chained, seen, taken, written}
use Rattle.stick_core.proofs.chains.Chains.remove.Goals as goal

-- the ends of the chain
its-ends : (ends : List Link) (i : ℕ) (e : Link) → e ≡ get_or ends i e → i < length ends → e ≡ get_or ends i no_ends
its-ends ends i e is within = is ∙ get-any ends i e no_ends within

pub unlink-requires-clause-linked : goal.unlink-requires-clause-linked
unlink-requires-clause-linked c =
    let P : Link → Type 0 = λ e. IsLinked e c.as_mut_slice.result.now in
    let Q : List Link → Type 0 = λ l. IsLinked (get_or c.self.inside.ends.items c.args.chain no_ends) l in
    subst P (sym (its-ends c.self.inside.ends.items c.args.chain c.index_mut.result.now c.index_mut.ensures.value (omega (arith, c.requires.chain, ap (λ t. length t.chains) c.self.view_is, length-chained c.self.inside.ends.items c.self.inside.links.items))))
    (subst Q (sym c.as_mut_slice.ensures.value) (c.self.invariant.0.each c.args.chain))

pub unlink-requires-clause-has : goal.unlink-requires-clause-has
unlink-requires-clause-has c =
    let P : List ℕ → Type 0 = λ l. Has c.args.place l in
    subst P
    (ap (λ t. chain_at t.chains c.args.chain) (sym c.self.view_is) ∙ chain-is c.self.inside.ends.items c.self.inside.links.items c.args.chain
    ∙ ap (λ e. ordered e c.self.inside.links.items) (sym (its-ends c.self.inside.ends.items c.args.chain c.index_mut.result.now c.index_mut.ensures.value (omega (arith, c.requires.chain, ap (λ t. length t.chains) c.self.view_is, length-chained c.self.inside.ends.items c.self.inside.links.items))))
    ∙ ap (λ l. ordered c.index_mut.result.now l) (sym c.as_mut_slice.ensures.value))
    c.requires.has

all : (c : goal.After-self-2-1) → IsMoved c.self.inside.ends.items c.self.inside.links.items (set c.self.inside.ends.items c.args.chain c.unlink.new.ends) c.unlink.new.links c.args.chain
    (without c.args.place (chain_at (chained c.self.inside.ends.items c.self.inside.links.items) c.args.chain))
all c =
    taken c.self.inside.ends.items c.self.inside.links.items c.as_mut_slice.result.now c.unlink.new.links c.index_mut.result.now c.unlink.new.ends c.args.chain c.args.place
    (omega (arith, c.self.invariant.1, c.self.inside.links.ok)) (omega (arith, c.requires.chain, ap (λ t. length t.chains) c.self.view_is, length-chained c.self.inside.ends.items c.self.inside.links.items)) c.self.invariant.0
    (its-ends c.self.inside.ends.items c.args.chain c.index_mut.result.now c.index_mut.ensures.value (omega (arith, c.requires.chain, ap (λ t. length t.chains) c.self.view_is, length-chained c.self.inside.ends.items c.self.inside.links.items)))
    c.as_mut_slice.ensures.value c.unlink.ensures.len c.unlink.ensures.linked c.unlink.ensures.order c.unlink.ensures.others

-- the links then
links : (c : goal.After-self-2-1) → take c.self.inside.links.len (c.unlink.new.links ++ drop (length c.unlink.new.links) c.self.inside.links.items) ≡ c.unlink.new.links
links c = written c.self.inside.links.items c.unlink.new.links c.self.inside.links.len (omega (arith, c.self.inside.links.ok)) (c.unlink.ensures.len ∙ ap length c.as_mut_slice.ensures.value)

pub invariant_of-self : goal.invariant_of-self
invariant_of-self c =
    let P : List Link → Type 0 = λ l. AreLinked (set c.self.inside.ends.items c.args.chain c.unlink.new.ends) l in
    (subst P (sym (links c)) (all c).linked, c.self.invariant.1)

pub returns : goal.returns
returns c =
    seen (chained (set c.self.inside.ends.items c.args.chain c.unlink.new.ends) (take c.self.inside.links.len (c.unlink.new.links ++ drop (length c.unlink.new.links) c.self.inside.links.items)))
    (set (chained c.self.inside.ends.items c.self.inside.links.items) c.args.chain (without c.args.place (chain_at (chained c.self.inside.ends.items c.self.inside.links.items) c.args.chain)))
    c.self.inside.links.len (min end c.self.inside.links.cap - c.self.inside.links.len)
    (ap (λ l. chained (set c.self.inside.ends.items c.args.chain c.unlink.new.ends) l) (links c) ∙ (all c).chains)
    ∙ (let f : Chaining → Chaining = λ t. record t { chains = set t.chains c.args.chain (without c.args.place (chain_at t.chains c.args.chain)) } in ap f c.self.view_is)

pub overflow_cast-place : goal.overflow_cast-place
overflow_cast-place c =
    let within : c.args.place < length c.self.inside.links.items = has-within c.self.inside.ends.items c.self.inside.links.items c.args.chain c.args.place c.self.invariant.0
    (let P : List (List ℕ) → Type 0 = λ l. Has c.args.place (chain_at l c.args.chain) in subst P (sym (ap (λ t. t.chains) c.self.view_is)) c.requires.has) in
    omega (arith, within, c.self.invariant.1, c.self.inside.links.ok)
