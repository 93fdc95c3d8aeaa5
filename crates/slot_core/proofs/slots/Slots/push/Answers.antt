use Rattle.std.proofs.Common.{◌≡◌, None, Some, ap, ◌∙◌, arith}
use Rattle.std.specs.List.{position}
use Rattle.slot_core.specs.Counts.{is_of}
use Rattle.slot_core.specs.Totals.{name_at}
use Rattle.slot_core.proofs.TotalLemmas.{few_fit, now_pushed, total_few}
use Rattle.slot_core.proofs.slots.Slots.push.Goals as goal

pub join-requires-clause-below : goal.join-requires-clause-below
join-requires-clause-below c =
    let counts = c.self.inside.counts in
    let few = total_few counts.items c.self.inside.backends.items c.place_of_total.new.totals.items c.in_ok-total.total (c.place_of_total.ensures.kept counts.items c.self.inside.backends.items c.self.invariant.tied) in
    let many = counts.ok.0 in
    few_fit _ counts.len counts.cap (omega (arith, few, many)) counts.ok.1 counts.small

pub invariant_of-self-2 : goal.invariant_of-self-2
invariant_of-self-2 c =
    let counts = c.self.inside.counts.items in
    let backends = c.self.inside.backends.items in
    let identity = c.in_ok-identity.identity in
    let new : position (is_of identity) counts ≡ None = ap (λ i. position (is_of i) counts) c.in_ok-identity.ensures ∙ ap (position (is_of c.args.identity.now)) c.self.view_is ∙ c.requires in
    let free : name_at c.in_ok-total.total c.place_of_total.new.totals.items ≡ Some identity.backend = c.in_ok-total.ensures.there ∙ ap (λ x. Some x) c.as_slice.ensures in
    rw (c.in_ok-push.ensures.items, c.push_reserved.ensures.items, c.try_reserve.ensures.items, c.join.ensures)
    (now_pushed counts backends c.place_of_total.new.totals.items c.in_ok-total.total identity
    (record { apart = c.self.invariant.apart; tied = c.place_of_total.ensures.kept counts backends c.self.invariant.tied }) new free)
