use Rattle.std.proofs.Common.{length, refl, arith}
use Rattle.std.proofs.lemmas.Option.{slice_get_read}
use Rattle.desk_core.specs.Calls.{kept_of}
use Rattle.desk_core.specs.Receipts.{record_from}
use Rattle.desk_core.proofs.Keeping.{kept_next, first_fault}
use Rattle.desk_core.proofs.receipts.check_pass.Goals as goal

pub loop-at-init : goal.loop-at-init
loop-at-init g c = kept_next (record_from c.args.records.now) (kept_of c.args.before.now) c.requires

pub returns-in-Err-clause-bad : goal.returns-in-Err-clause-bad
returns-in-Err-clause-bad g c =
    let pass = c.args.pass.now in
    let i = c.loop-at.at in
    first_fault (record_from c.args.records.now) (kept_of c.args.before.now) pass i c.index-pass-at.result c.in-Err.fault (slice_get_read pass (length pass) i c.index-pass-at.result refl (omega arith) c.index-pass-at.is) c.loop-at.invariant c.in-Err.ensures.bad
