use Rattle.std.proofs.Common.{◌+◌, ◌-◌, ◌<◌, ◌∙◌, refl, ap, arith}
use Rattle.slot_core.specs.Counts.{open_at, slots_at}
use Rattle.slot_core.proofs.CountLemmas.{changed_there, open-given_back, open_there}
use Rattle.slot_core.proofs.TotalLemmas.{backend_at, given_back, total_at}
use Rattle.slot_core.proofs.slots.Slots.give_back.Goals as goal

pub close_one-requires-clause-there : goal.close_one-requires-clause-there
close_one-requires-clause-there c =
    let counts = c.self.inside.counts.items in
    let backends = c.self.inside.backends.items in
    let totals = c.self.inside.totals.items in
    let place = c.slot.inside.ix.place in
    let some : 0 < open_at place counts = rw (c.self.view_is, c.slot.view_is) c.requires in
    let less = open_there place counts some in
    let tied = c.self.invariant.tied in
    (total_at counts backends totals place c.index.result.now tied less (backend_at counts backends totals place c.index.result.now tied less c.index.ensures)).0

pub close_one-requires-clause-some : goal.close_one-requires-clause-some
close_one-requires-clause-some c =
    let counts = c.self.inside.counts.items in
    let backends = c.self.inside.backends.items in
    let totals = c.self.inside.totals.items in
    let place = c.slot.inside.ix.place in
    let some : 0 < open_at place counts = rw (c.self.view_is, c.slot.view_is) c.requires in
    let less = open_there place counts some in
    let tied = c.self.invariant.tied in
    let at = (total_at counts backends totals place c.index.result.now tied less (backend_at counts backends totals place c.index.result.now tied less c.index.ensures)).1 in
    let same = at.2 in
    let more = at.3 in
    omega (arith, some, same, more)

pub invariant_of-self : goal.invariant_of-self
invariant_of-self c =
    let counts = c.self.inside.counts.items in
    let backends = c.self.inside.backends.items in
    let totals = c.self.inside.totals.items in
    let place = c.slot.inside.ix.place in
    let some : 0 < open_at place counts = rw (c.self.view_is, c.slot.view_is) c.requires in
    let less = open_there place counts some in
    rw (changed_there (λ n. n - 1) place place counts counts c.index_mut.result.now refl refl less c.index_mut.ensures.value, c.close_one.ensures)
    (given_back counts backends totals place c.index.result.now c.self.invariant some (backend_at counts backends totals place c.index.result.now c.self.invariant.tied less c.index.ensures))

pub returns-clause-counts : goal.returns-clause-counts
returns-clause-counts c =
    changed_there (λ n. n - 1) c.slot.inside.ix.place c.args.slot.place c.self.inside.counts.items c.args.self.now c.index_mut.result.now (ap (λ i. i.place) c.slot.view_is) c.self.view_is (open_there c.args.slot.place c.args.self.now c.requires) c.index_mut.ensures.value

pub returns-clause-open : goal.returns-clause-open
returns-clause-open c = λ place.
    ap (λ l. open_at place l + slots_at place c.args.slot)
    (changed_there (λ n. n - 1) c.slot.inside.ix.place c.args.slot.place c.self.inside.counts.items c.args.self.now c.index_mut.result.now (ap (λ i. i.place) c.slot.view_is) c.self.view_is (open_there c.args.slot.place c.args.self.now c.requires) c.index_mut.ensures.value)
    ∙ open-given_back c.args.slot c.args.self.now c.requires place
