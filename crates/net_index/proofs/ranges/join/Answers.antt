use Rattle.std.proofs.Common.{refl, arith}
use Rattle.net_index.proofs.RangeLemmas.{added_apart, begins_before_last, joined_apart, joined_covers, joined_rise}
use Rattle.net_index.proofs.ranges.join.Goals as goal

pub returns-then-range-last-clause-apart : goal.returns-then-range-last-clause-apart
returns-then-range-last-clause-apart c = joined_apart c.args.items.now.items c.args.last _ refl c.requires.apart

pub returns-then-range-last-clause-rises : goal.returns-then-range-last-clause-rises
returns-then-range-last-clause-rises c = joined_rise c.args.range.first c.args.items.now.items c.args.last _ refl c.requires.rises

pub returns-then-range-last-clause-covers : goal.returns-then-range-last-clause-covers
returns-then-range-last-clause-covers c n =
    let begins = begins_before_last c.args.range.first c.args.items.now.items c.args.last c.requires.rises in
    joined_covers c.args.items.now.items c.args.last c.args.range _ n refl c.max.ensures begins (omega (arith, c.if-range-last.true))

pub returns-clause-apart : goal.returns-clause-apart
returns-clause-apart c =
    rw c.in_ok-push.ensures.items
    (added_apart c.args.items.now.items c.args.last c.args.range (omega (arith, c.if-range-last.false)) c.requires.apart c.requires.rises)
