use Rattle.std.proofs.Common.{◌≡◌, ◌<◌, BuildHasherDefault, FoldHasher, List, ℕ, length, get_or, set, refl, sym, ap, subst, ◌∙◌, arith}
use Rattle.addr_core.specs.declared.addr.Addr.{Addr}
use Rattle.stick_core.specs.declared.index.Counts.{Counts}
use Rattle.stick_core.specs.Chains.{chain_at}
use Rattle.stick_core.specs.Ring.{without}
use Rattle.stick_core.specs.Index.{chain_of, key_at, nothing, IsNoPlaceOf}
use Rattle.stick_core.proofs.ChainLemmas.{get-any}
use Rattle.stick_core.proofs.IndexLemmas.{indexed-replace, its-within, left-lacks, left-over, length-put, some-chains}
use Rattle.stick_core.proofs.index.AddrIndex.replace.Goals as goal

-- the chain of the key that was there
its-chain : (hash : BuildHasherDefault FoldHasher) (es : List (Addr × Counts)) (place count i : ℕ) (e : Addr × Counts) (read : Addr) → place < length es → e ≡ get_or es place e → read ≡ e.0 → i ≡ chain_of hash count read → i ≡ chain_of hash count (key_at es place)
its-chain hash es place count i e read within is got its = its ∙ ap (chain_of hash count) (got ∙ ap (λ x. x.0) (is ∙ get-any es place e nothing within))

pub remove-requires-clause-chain : goal.remove-requires-clause-chain
remove-requires-clause-chain c =
    let es = c.self.inside.entries.items in
    let within : c.args.place < length es = omega (arith, c.requires.place, ap (λ i. length i.entries) c.self.view_is) in
    its-within c.self.inside.hash (length c.self.inside.chains.chains) c.count-count.result c.chain_of-old.result c.addr.result
    (some-chains c.self.inside.hash es c.self.inside.chains c.args.place c.self.invariant within) c.count-count.ensures.value c.chain_of-old.ensures

pub push_back-requires-clause-chain : goal.push_back-requires-clause-chain
push_back-requires-clause-chain c =
    let es = c.self.inside.entries.items in
    let chains = c.self.inside.chains.chains in
    let within : c.args.place < length es = omega (arith, c.requires.place, ap (λ i. length i.entries) c.self.view_is) in
    let less : c.chain_of-chain.result < length chains =
    its-within c.self.inside.hash (length chains) c.count-count.result c.chain_of-chain.result c.args.key.now
    (some-chains c.self.inside.hash es c.self.inside.chains c.args.place c.self.invariant within) c.count-count.ensures.value c.chain_of-chain.ensures in
    let len : length c.remove.new.self.chains ≡ length chains =
    ap (λ t. length t.chains) c.remove.ensures ∙ length-put chains c.chain_of-old.result (without c.args.place (chain_at chains c.chain_of-old.result)) in
    omega (arith, less, len)

pub push_back-requires-clause-lacks : goal.push_back-requires-clause-lacks
push_back-requires-clause-lacks c =
    let es = c.self.inside.entries.items in
    let within : c.args.place < length es = omega (arith, c.requires.place, ap (λ i. length i.entries) c.self.view_is) in
    left-lacks (chain_of c.self.inside.hash (length c.self.inside.chains.chains)) es c.remove.new.self.chains (length es) c.args.place
    (left-over c.self.inside.hash es c.self.inside.chains c.remove.new.self c.args.place c.chain_of-old.result c.count-count.result c.self.invariant within c.count-count.ensures.value
    (its-chain c.self.inside.hash es c.args.place c.count-count.result c.chain_of-old.result c.index.result.now c.addr.result within c.index.ensures c.addr.ensures c.chain_of-old.ensures) c.remove.ensures)

pub invariant_of-self : goal.invariant_of-self
invariant_of-self c =
    let es = c.self.inside.entries.items in
    let within : c.args.place < length es = omega (arith, c.requires.place, ap (λ i. length i.entries) c.self.view_is) in
    let N : List (Addr × Counts) → Type 0 = λ l. IsNoPlaceOf c.args.key.now l in
    indexed-replace c.self.inside.hash es (set es c.args.place (c.of.result, c.args.counts)) c.self.inside.chains c.remove.new.self c.push_back.new.self c.args.key.now c.of.result c.args.counts c.args.place c.chain_of-old.result
    c.chain_of-chain.result c.count-count.result c.self.invariant within (subst N (sym (ap (λ i. i.entries) c.self.view_is)) c.requires.none) c.of.ensures refl c.count-count.ensures.value
    (its-chain c.self.inside.hash es c.args.place c.count-count.result c.chain_of-old.result c.index.result.now c.addr.result within c.index.ensures c.addr.ensures c.chain_of-old.ensures)
    c.chain_of-chain.ensures c.remove.ensures c.push_back.ensures
