use Rattle.std.proofs.Common.{sym}
use Rattle.addr_core.proofs.DottedLemmas.{dotted_of-more}
use Rattle.addr_core.proofs.reading.dotted.Goals as goal

pub returns-in-Some-cut_at-3 : goal.returns-in-Some-cut_at-3
returns-in-Some-cut_at-3 c =
    rw (c.in-Some.ensures.some, c.in-Some-cut_at.ensures.some, c.in-Some-cut_at-2.ensures.some)
    (sym (dotted_of-more c.in-Some.a.now c.in-Some-cut_at.b.now c.in-Some-cut_at-2.c.now c.in-Some-cut_at-2.d.now c.in-Some-cut_at-3.field-0.0.now c.in-Some-cut_at-3.field-0.1.now c.in-Some-cut_at-3.ensures.some))
