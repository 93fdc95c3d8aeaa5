use Rattle.std.proofs.Common.{◌≡◌, ◌<◌, ◌≤◌, ◌+◌, ℕ, suc, Option, Some, List, length, get_or, sym, ap, subst, ◌∙◌, arith}
use Rattle.std.specs.Prelude.{slice_get, IfNone}
use Rattle.addr_core.specs.declared.addr.Addr.{Addr}
use Rattle.addr_core.specs.Same.{same_addr}
use Rattle.stick_core.specs.declared.index.Counts.{Counts}
use Rattle.stick_core.specs.Chains.{chain_at}
use Rattle.stick_core.specs.Index.{chain_of, key_at, nothing, IsNoPlaceOf, IsPlaceOf}
use Rattle.stick_core.proofs.ChainLemmas.{get-any}
use Rattle.stick_core.proofs.IndexLemmas.{its-place, none-at-all, none-left, one-more}
use Rattle.stick_core.proofs.RingLemmas.{has-at, next-at}
use Rattle.stick_core.proofs.index.AddrIndex.place_of.Goals as goal

-- the key that is read at a place
key : (wanted read : Addr) (place : ℕ) (es : List (Addr × Counts)) (e : Addr × Counts) → place < length es → e ≡ get_or es place e → read ≡ e.0 → same_addr (key_at es place) wanted ≡ same_addr read wanted
key wanted read place es e within is got = ap (λ x. same_addr x.0 wanted) (get-any es place nothing e within ∙ sym is) ∙ ap (λ k. same_addr k wanted) (sym got)

pub index-requires : goal.index-requires
index-requires c =
    let at : slice_get (chain_at c.self.inside.chains.chains c.chain_of-chain.result) c.loop.counter ≡ Some c.in_ok-place.place = sym c.loop.invariant.0 ∙ c.in_ok-place.was in
    let within : c.in_ok-place.place < length c.self.inside.entries.items = (c.self.invariant.chained.own c.chain_of-chain.result c.in_ok-place.place (has-at (chain_at c.self.inside.chains.chains c.chain_of-chain.result) c.loop.counter c.in_ok-place.place at)).0 in
    omega (arith, within, c.self.inside.entries.ok)

pub next-next-requires : goal.next-next-requires
next-next-requires c = has-at (chain_at c.self.inside.chains.chains c.chain_of-chain.result) c.loop.counter c.in_ok-place.place (sym c.loop.invariant.0 ∙ c.in_ok-place.was)

pub loop-preserved : goal.loop-preserved
loop-preserved c =
    let chain = chain_at c.self.inside.chains.chains c.chain_of-chain.result in
    let place = c.in_ok-place.place in
    let at : slice_get chain c.loop.counter ≡ Some place = sym c.loop.invariant.0 ∙ c.in_ok-place.was in
    let within : place < length c.self.inside.entries.items = (c.self.invariant.chained.own c.chain_of-chain.result place (has-at chain c.loop.counter place at)).0 in
    let one : suc c.loop.counter ≡ c.loop.counter + 1 = omega arith in (
      c.next-next.ensures ∙ next-at chain c.loop.counter place (c.count.ensures.once c.chain_of-chain.result) at ∙ ap (slice_get chain) one,
      one-more c.args.key.now c.self.inside.entries.items chain c.loop.counter place c.loop.invariant.1 at (key c.args.key.now c.addr.result place c.self.inside.entries.items c.index.result.now within c.index.ensures c.addr.ensures ∙ sym c.is_same.ensures ∙ c.if-is_same.false),
    )

pub returns-then-is_same-clause-some : goal.returns-then-is_same-clause-some
returns-then-is_same-clause-some c =
    let chain = chain_at c.self.inside.chains.chains c.chain_of-chain.result in
    let place = c.in_ok-place.place in
    let at : slice_get chain c.loop.counter ≡ Some place = sym c.loop.invariant.0 ∙ c.in_ok-place.was in
    let within : place < length c.self.inside.entries.items = (c.self.invariant.chained.own c.chain_of-chain.result place (has-at chain c.loop.counter place at)).0 in
    let P : List (Addr × Counts) → Type 0 = λ es. IsPlaceOf c.args.key.now es place in
    subst P (ap (λ i. i.entries) c.self.view_is) (its-place c.args.key.now c.self.inside.entries.items place c.self.invariant.apart within (key c.args.key.now c.addr.result place c.self.inside.entries.items c.index.result.now within c.index.ensures c.addr.ensures ∙ sym c.is_same.ensures ∙ c.if-is_same.true))

pub returns-in_err-place-clause-none : goal.returns-in_err-place-clause-none
returns-in_err-place-clause-none c =
    let P : List (Addr × Counts) → Type 0 = λ es. IsNoPlaceOf c.args.key.now es in
    let Q : Option ℕ → Type 0 = λ o. IfNone o (IsNoPlaceOf c.args.key.now c.args.self.now.entries) in
    subst Q (sym c.from_residual.ensures)
    (subst P (ap (λ i. i.entries) c.self.view_is)
    (none-left (chain_of c.self.inside.hash (length c.self.inside.chains.chains)) c.args.key.now c.self.inside.entries.items c.self.inside.chains.chains c.chain_of-chain.result c.loop.counter c.self.invariant.chained
    (c.chain_of-chain.ensures ∙ ap (λ n. chain_of c.self.inside.hash n c.args.key.now) c.count.ensures.value) c.loop.invariant.1 (sym c.loop.invariant.0 ∙ c.in_err-place.was)))

pub returns-clause-none : goal.returns-clause-none
returns-clause-none c =
    let P : List (Addr × Counts) → Type 0 = λ es. IsNoPlaceOf c.args.key.now es in
    let most : length (chain_at c.self.inside.chains.chains c.chain_of-chain.result) ≤ c.self.inside.chains.places = c.count.ensures.fits c.chain_of-chain.result in
    subst P (ap (λ i. i.entries) c.self.view_is)
    (none-at-all (chain_of c.self.inside.hash (length c.self.inside.chains.chains)) c.args.key.now c.self.inside.entries.items c.self.inside.chains.chains c.chain_of-chain.result c.loop.counter c.self.invariant.chained
    (c.chain_of-chain.ensures ∙ ap (λ n. chain_of c.self.inside.hash n c.args.key.now) c.count.ensures.value) c.loop.invariant.1
    (omega (arith, most, c.self.invariant.places, c.loop-test.false, c.len-end.ensures, c.self.inside.entries.ok)))
