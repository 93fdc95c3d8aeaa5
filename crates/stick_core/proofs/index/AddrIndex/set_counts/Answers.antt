use Rattle.std.proofs.Common.{◌<◌, length, set, ap, ◌∙◌, arith}
use Rattle.stick_core.specs.Index.{nothing}
use Rattle.stick_core.proofs.ChainLemmas.{get-any}
use Rattle.stick_core.proofs.IndexLemmas.{indexed-counted}
use Rattle.stick_core.proofs.index.AddrIndex.set_counts.Goals as goal

pub invariant_of-self : goal.invariant_of-self
invariant_of-self c =
    let es = c.self.inside.entries.items in
    let within : c.args.place < length es = omega (arith, c.requires, ap (λ i. length i.entries) c.self.view_is) in
    indexed-counted c.self.inside.hash es (set es c.args.place (c.index_mut.result.now.0, c.args.counts)) c.self.inside.chains c.args.counts c.args.place c.self.invariant within
    (ap (λ e. set es c.args.place (e.0, c.args.counts)) (c.index_mut.ensures.value ∙ get-any es c.args.place c.index_mut.result.now nothing within))
