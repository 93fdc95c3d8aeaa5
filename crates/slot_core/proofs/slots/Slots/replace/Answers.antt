use Rattle.std.proofs.Common.{◌≡◌, ◌-◌, ◌<◌, None, Some, length, ap, ◌∙◌, arith}
use Rattle.std.specs.List.{position}
use Rattle.slot_core.specs.Counts.{is_of, open_at}
use Rattle.slot_core.specs.Totals.{name_at, with_servers, AreTotals}
use Rattle.slot_core.proofs.TotalLemmas.{backend_at, few_fit, left_fewer, length-with_total, name_within, now_replaced, total_at, total_few}
use Rattle.slot_core.proofs.slots.Slots.replace.Goals as goal

pub leave-requires-clause-there : goal.leave-requires-clause-there
leave-requires-clause-there c =
    let counts = c.self.inside.counts.items in
    let backends = c.self.inside.backends.items in
    let totals = c.place_of_total.new.totals.items in
    let less : c.args.place < length counts = rw c.self.view_is c.requires.there in
    let tied : AreTotals counts backends totals = c.place_of_total.ensures.kept counts backends c.self.invariant.tied in
    (total_at counts backends totals c.args.place c.index.result.now tied less (backend_at counts backends totals c.args.place c.index.result.now tied less c.index.ensures)).0

pub leave-requires-clause-some : goal.leave-requires-clause-some
leave-requires-clause-some c =
    let counts = c.self.inside.counts.items in
    let backends = c.self.inside.backends.items in
    let totals = c.place_of_total.new.totals.items in
    let less : c.args.place < length counts = rw c.self.view_is c.requires.there in
    let tied : AreTotals counts backends totals = c.place_of_total.ensures.kept counts backends c.self.invariant.tied in
    let at = (total_at counts backends totals c.args.place c.index.result.now tied less (backend_at counts backends totals c.args.place c.index.result.now tied less c.index.ensures)).1 in
    let same = at.4 in
    let some = at.5 in
    omega (arith, same, some)

pub join-requires-clause-there : goal.join-requires-clause-there
join-requires-clause-there c =
    let totals = c.place_of_total.new.totals.items in
    let there = name_within totals c.in_ok-total.total c.as_slice.result.now c.in_ok-total.ensures.there in
    let same = length-with_total (with_servers (λ n. n - 1)) c.index.result.now totals in
    rw c.leave.ensures (omega (arith, there, same))

pub join-requires-clause-below : goal.join-requires-clause-below
join-requires-clause-below c =
    let counts = c.self.inside.counts in
    let totals = c.place_of_total.new.totals.items in
    let few = total_few counts.items c.self.inside.backends.items totals c.in_ok-total.total (c.place_of_total.ensures.kept counts.items c.self.inside.backends.items c.self.invariant.tied) in
    let fewer = left_fewer c.index.result.now c.in_ok-total.total totals in
    let many = counts.ok.0 in
    rw c.leave.ensures (few_fit _ counts.len counts.cap (omega (arith, few, fewer, many)) counts.ok.1 counts.small)

pub invariant_of-self-2 : goal.invariant_of-self-2
invariant_of-self-2 c =
    let counts = c.self.inside.counts.items in
    let backends = c.self.inside.backends.items in
    let totals = c.place_of_total.new.totals.items in
    let identity = c.in_ok-identity.identity in
    let less : c.args.place < length counts = rw c.self.view_is c.requires.there in
    let tied : AreTotals counts backends totals = c.place_of_total.ensures.kept counts backends c.self.invariant.tied in
    let none : open_at c.args.place counts ≡ 0 = ap (open_at c.args.place) c.self.view_is ∙ c.requires.closed in
    let new : position (is_of identity) counts ≡ None = ap (λ i. position (is_of i) counts) c.in_ok-identity.ensures ∙ ap (position (is_of c.args.identity.now)) c.self.view_is ∙ c.requires.new in
    let free : name_at c.in_ok-total.total totals ≡ Some identity.backend = c.in_ok-total.ensures.there ∙ ap (λ x. Some x) c.as_slice.ensures in
    rw (c.join.ensures, c.leave.ensures)
    (now_replaced counts backends totals c.args.place c.index.result.now c.in_ok-total.total identity (record { apart = c.self.invariant.apart; tied = tied }) less none new
    (backend_at counts backends totals c.args.place c.index.result.now tied less c.index.ensures) free)
