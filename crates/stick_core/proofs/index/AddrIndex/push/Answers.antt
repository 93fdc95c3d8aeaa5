use Rattle.std.specs.Prelude.{◌==◌, min, vec_capacity, vec_len}
use Rattle.std.proofs.Common.{◌≡◌, ◌-◌, ◌<◌, cond, List, ℕ, length, sym, ap, subst, ◌∙◌, arith}
use Rattle.addr_core.specs.declared.addr.Addr.{Addr}
use Rattle.stick_core.specs.declared.index.Counts.{Counts}
use Rattle.stick_core.specs.Chains.{chain_at}
use Rattle.stick_core.specs.Index.{chain_of, IsNoPlaceOf}
use Rattle.stick_core.specs.Ring.{Lacks}
use Rattle.stick_core.proofs.IndexLemmas.{indexed-push, its-within, nowhere-yet, some-room}
use Rattle.stick_core.proofs.index.AddrIndex.push.Goals as goal

some : (spare chains room : ℕ) → 0 < spare → cond (chains == 0) 0 room ≡ spare → 0 < chains
some spare chains room more is = let P : ℕ → Type 0 = λ n. 0 < n in some-room chains room (subst P (sym is) more)

pub push_back-requires-clause-chain : goal.push_back-requires-clause-chain
push_back-requires-clause-chain c =
    let within : c.chain_of-chain.result < length c.self.inside.chains.chains =
    its-within c.self.inside.hash (length c.self.inside.chains.chains) c.count.result c.chain_of-chain.result c.args.key.now
    (some c.args.self.now.spare (length c.self.inside.chains.chains) (min (vec_capacity c.self.inside.entries - vec_len c.self.inside.entries) c.self.inside.chains.spare) c.requires.spare (ap (λ i. i.spare) c.self.view_is))
    c.count.ensures.value c.chain_of-chain.ensures in
    omega (arith, within, ap length c.add_place-place.ensures.chains)

pub push_back-requires-clause-lacks : goal.push_back-requires-clause-lacks
push_back-requires-clause-lacks c = λ other.
    let n : c.add_place-place.result ≡ length c.self.inside.entries.items = c.add_place-place.ensures.place ∙ c.self.invariant.places in
    let P : ℕ → Type 0 = λ k. Lacks k (chain_at c.add_place-place.new.self.chains other) in
    let Q : List (List ℕ) → Type 0 = λ l. Lacks (length c.self.inside.entries.items) (chain_at l other) in
    subst P (sym n) (subst Q (sym c.add_place-place.ensures.chains)
    (nowhere-yet (chain_of c.self.inside.hash (length c.self.inside.chains.chains)) c.self.inside.entries.items c.self.inside.chains.chains (length c.self.inside.entries.items) c.self.invariant.chained other))

pub invariant_of-self : goal.invariant_of-self
invariant_of-self c =
    let N : List (Addr × Counts) → Type 0 = λ es. IsNoPlaceOf c.args.key.now es in
    let within : c.chain_of-chain.result < length c.self.inside.chains.chains =
    its-within c.self.inside.hash (length c.self.inside.chains.chains) c.count.result c.chain_of-chain.result c.args.key.now
    (some c.args.self.now.spare (length c.self.inside.chains.chains) (min (vec_capacity c.self.inside.entries - vec_len c.self.inside.entries) c.self.inside.chains.spare) c.requires.spare (ap (λ i. i.spare) c.self.view_is))
    c.count.ensures.value c.chain_of-chain.ensures in
    indexed-push c.self.inside.hash c.self.inside.entries.items c.push_reserved.new.self.items c.self.inside.chains c.add_place-place.new.self c.push_back.new.self c.args.key.now c.of.result c.args.counts c.chain_of-chain.result
    c.add_place-place.result c.count.result c.self.invariant (subst N (sym (ap (λ i. i.entries) c.self.view_is)) c.requires.none) c.of.ensures c.push_reserved.ensures.items c.count.ensures.value c.chain_of-chain.ensures within
    c.add_place-place.ensures.chains c.add_place-place.ensures.places c.add_place-place.ensures.place c.push_back.ensures
