use Rattle.std.proofs.Common.{◌≡◌, sym, true}
use Rattle.desk_core.specs.Calls.{kept_of}
use Rattle.desk_core.specs.Receipts.{record_from}
use Rattle.desk_core.proofs.Keeping.{kept_receipt, rise_before, rise_last}
use Rattle.desk_core.proofs.receipts.check_receipt.Goals as goal

pub has_earlier-requires : goal.has_earlier-requires
has_earlier-requires g c = rise_before (record_from c.args.records.now) (kept_of c.args.before.now) c.args.part.now c.requires

pub is_above-requires : goal.is_above-requires
is_above-requires g c = rise_last (record_from c.args.records.now) (kept_of c.args.before.now) c.args.part.now c.requires

pub returns-clause-ok : goal.returns-clause-ok
returns-clause-ok g c =
    let book = record_from c.args.records.now in
    let no : c.has_earlier.result ≡ true → ⊥ = λ e. let f = c.if-has_earlier.false in absurd cc in
    kept_receipt book (kept_of c.args.before.now) c.args.part.now c.args.receipt.now c.in-Some.record.now c.requires (sym c.in-Some.ensures) (c.same_record.ensures.0 c.if-not-same_record.false) (c.is_above.ensures.0 c.if-not-is_above.false) (λ e. no (c.has_earlier.ensures.1 e))
