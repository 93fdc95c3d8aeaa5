use Rattle.std.proofs.Common.{◌≡◌, ◌<◌, ◌+◌, ◌++◌, ◌∷◌, [], List, ℕ, length, refl, sym, ap, subst, ◌∙◌, arith}
use Rattle.stick_core.specs.Chains.{chain_at}
use Rattle.stick_core.specs.Index.{chain_of, key_at, nothing, IsChained}
use Rattle.stick_core.proofs.ChainLemmas.{get-any}
use Rattle.stick_core.proofs.IndexLemmas.{chain-within, length-put, none-chained, nowhere-yet, one-chained, whole}
use Rattle.stick_core.proofs.index.chain_all.Goals as goal

pub loop-place-init : goal.loop-place-init
loop-place-init c = (refl, refl, none-chained (chain_of c.args.hash.now c.count-count.result) c.args.entries.now c.args.chains.now.chains c.requires.empty)

pub push_back-requires-clause-lacks : goal.push_back-requires-clause-lacks
push_back-requires-clause-lacks c =
    nowhere-yet (chain_of c.args.hash.now c.count-count.result) c.args.entries.now c.loop-place.chains.chains c.loop-place.place c.loop-place.invariant.2

pub loop-place-preserved : goal.loop-place-preserved
loop-place-preserved c =
    let count = c.count-count.result in
    let hash = c.args.hash.now in
    let chains = c.loop-place.chains.chains in
    let es = c.args.entries.now in
    let place = c.loop-place.place in
    let its : chain_of hash count (key_at es place) ≡ c.chain_of-chain.result =
    ap (λ e. chain_of hash count e.0) (get-any es place nothing c.index-entries-place.result c.loop-place-test.true) ∙ ap (chain_of hash count) (sym c.addr.ensures) ∙ sym c.chain_of-chain.ensures in
    let within : chain_of hash count (key_at es place) < count = chain-within hash count (key_at es place) (omega (arith, c.requires.some, c.count-count.ensures.value)) in
    let P : List (List ℕ) → Type 0 = λ l. IsChained (chain_of hash count) es l (place + 1) in (
      whole c.push_back.new.self c.args.chains.now (ap (λ t. t.places) c.push_back.ensures ∙ ap (λ t. t.places) c.loop-place.invariant.0) (ap (λ t. t.spare) c.push_back.ensures ∙ ap (λ t. t.spare) c.loop-place.invariant.0),
      ap (λ t. length t.chains) c.push_back.ensures ∙ length-put chains c.chain_of-chain.result (chain_at chains c.chain_of-chain.result ++ place ∷ []) ∙ c.loop-place.invariant.1,
      subst P (sym (ap (λ t. t.chains) c.push_back.ensures))
          (one-chained (chain_of hash count) es chains place c.chain_of-chain.result c.loop-place.invariant.2 (omega (arith, its, within, c.count-count.ensures.value, c.loop-place.invariant.1)) its),
    )
