use Rattle.std.proofs.Common.{◌≡◌, ◌+◌, arith, sym}
use Rattle.audit_core.proofs.LiveLemmas.{none_from, open_from, rows_from}
use Rattle.audit_core.proofs.auditor.open_in_all.Goals as goal

pub overflow_add-open : goal.overflow_add-open
overflow_add-open c =
    let more = open_from c.args.core.now.frontends c.loop-number.number c.in-Some.counts (sym c.in-Some.ensures.plain) in
    let sum : c.loop-number.open + rows_from c.args.core.now.frontends c.loop-number.number ≡ _ = c.loop-number.invariant in
    record { fits = omega (arith, more, sum, c.requires) }

pub returns-in-None : goal.returns-in-None
returns-in-None c =
    let none = none_from c.args.core.now.frontends c.loop-number.number (sym c.in-None.ensures.plain) in
    let sum : c.loop-number.open + rows_from c.args.core.now.frontends c.loop-number.number ≡ _ = c.loop-number.invariant in
    omega (arith, none, sum)

pub loop-number-preserved : goal.loop-number-preserved
loop-number-preserved c =
    let more = open_from c.args.core.now.frontends c.loop-number.number c.in-Some.counts (sym c.in-Some.ensures.plain) in
    let sum : c.loop-number.open + rows_from c.args.core.now.frontends c.loop-number.number ≡ _ = c.loop-number.invariant in
    omega (arith, more, sum)
