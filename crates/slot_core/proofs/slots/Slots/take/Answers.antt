use Rattle.std.proofs.Common.{◌+◌, ◌<◌, ◌^◌, ◌-◌, ◌∙◌, length, refl, ap, arith}
use Rattle.slot_core.specs.Counts.{open_at, open_in_all}
use Rattle.slot_core.proofs.CountLemmas.{changed_there, open_at-in_all, open_in-in_all, open-taken}
use Rattle.slot_core.proofs.TotalLemmas.{backend_at, count_at, taken, total_at}
use Rattle.slot_core.proofs.slots.Slots.take.Goals as goal

pub overflow_add-index_mut : goal.overflow_add-index_mut
overflow_add-index_mut c =
    let counts = c.self.inside.counts.items in
    let less : c.args.ix.place < length counts = rw c.self.view_is c.requires.there in
    let below : open_in_all counts < 2 ^ 64 - 1 = rw c.self.view_is c.requires.below in
    let here = count_at counts c.args.ix.place c.index_mut.result.now less c.index_mut.ensures.value in
    let all = open_at-in_all c.args.ix.place counts in
    omega (arith, below, here, all)

pub open_one-requires-clause-there : goal.open_one-requires-clause-there
open_one-requires-clause-there c =
    let counts = c.self.inside.counts.items in
    let backends = c.self.inside.backends.items in
    let totals = c.self.inside.totals.items in
    let less : c.args.ix.place < length counts = rw c.self.view_is c.requires.there in
    let tied = c.self.invariant.tied in
    (total_at counts backends totals c.args.ix.place c.index.result.now tied less (backend_at counts backends totals c.args.ix.place c.index.result.now tied less c.index.ensures)).0

pub open_one-requires-clause-below : goal.open_one-requires-clause-below
open_one-requires-clause-below c =
    let counts = c.self.inside.counts.items in
    let backends = c.self.inside.backends.items in
    let totals = c.self.inside.totals.items in
    let less : c.args.ix.place < length counts = rw c.self.view_is c.requires.there in
    let below : open_in_all counts < 2 ^ 64 - 1 = rw c.self.view_is c.requires.below in
    let tied = c.self.invariant.tied in
    let at = (total_at counts backends totals c.args.ix.place c.index.result.now tied less (backend_at counts backends totals c.args.ix.place c.index.result.now tied less c.index.ensures)).1 in
    let same = at.2 in
    let all = open_in-in_all at.0.identity.backend counts in
    omega (arith, below, same, all)

pub invariant_of-self : goal.invariant_of-self
invariant_of-self c =
    let counts = c.self.inside.counts.items in
    let backends = c.self.inside.backends.items in
    let totals = c.self.inside.totals.items in
    let place = c.args.ix.place in
    let less : place < length counts = rw c.self.view_is c.requires.there in
    rw (changed_there (λ n. n + 1) place place counts counts c.index_mut.result.now refl refl less c.index_mut.ensures.value, c.open_one.ensures)
    (taken counts backends totals place c.index.result.now c.self.invariant less (backend_at counts backends totals place c.index.result.now c.self.invariant.tied less c.index.ensures))

pub returns-clause-counts : goal.returns-clause-counts
returns-clause-counts c =
    changed_there (λ n. n + 1) c.args.ix.place c.args.ix.place c.self.inside.counts.items c.args.self.now c.index_mut.result.now refl c.self.view_is c.requires.there c.index_mut.ensures.value

pub returns-clause-open : goal.returns-clause-open
returns-clause-open c = λ place.
    ap (open_at place)
    (changed_there (λ n. n + 1) c.args.ix.place c.args.ix.place c.self.inside.counts.items c.args.self.now c.index_mut.result.now refl c.self.view_is c.requires.there c.index_mut.ensures.value)
    ∙ open-taken c.args.ix c.args.self.now c.requires.there place
