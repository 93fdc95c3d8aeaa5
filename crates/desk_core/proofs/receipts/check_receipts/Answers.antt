use Rattle.std.proofs.Common.{◌++◌, ◌∷◌, [], subst, sym, arith}
use Rattle.desk_core.specs.Calls.{kept_of, PassState}
use Rattle.desk_core.specs.Receipts.{record_from, IsFirstFault}
use Rattle.std.proofs.lemmas.List.{take-map}
use Rattle.desk_core.proofs.KeptOf.{at_kept}
use Rattle.desk_core.proofs.Keeping.{first_fault-in}
use Rattle.desk_core.proofs.receipts.check_receipts.Goals as goal

pub returns-in-Err-clause-bad : goal.returns-in-Err-clause-bad
returns-in-Err-clause-bad g c =
    let passes = c.args.passes.now in
    let i = c.loop-at.at in
    let p = c.kept-pass.result.now in
    let at = at_kept passes i c.index-passes-at.result p (omega arith) c.index-passes-at.is c.kept-pass.ensures.records in
    let part = sym (take-map (λ (z : PassState). z.kept) i passes) in
    first_fault-in (record_from c.args.records.now) (kept_of passes) i p c.in-Err.fault at (subst (λ ps. IsFirstFault (record_from c.args.records.now) (ps ++ p ∷ []) c.in-Err.fault) part c.in-Err.ensures.bad)
