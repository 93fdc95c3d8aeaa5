use Rattle.std.proofs.Common.{arith, refl, ◌≡◌, true}
use Rattle.std.proofs.lemmas.Bool.{false≢true}
use Rattle.desk_core.specs.Calls.{kept_of}
use Rattle.desk_core.specs.Receipts.{NumbersRise, HasNumber}
use Rattle.desk_core.proofs.Once.{all_here}
use Rattle.desk_core.proofs.KeptOf.{at_kept, none_more, none_left}
use Rattle.desk_core.proofs.receipts.has_earlier.Goals as goal

pub has_number-requires : goal.has_number-requires
has_number-requires g c = all_here NumbersRise (kept_of c.args.before.now) c.loop-pass.pass-index c.kept.result.now c.requires (at_kept c.args.before.now c.loop-pass.pass-index c.pass-item.result c.kept.result.now (omega arith) c.pass-item.is c.kept.ensures.records)

pub returns-then-has_number : goal.returns-then-has_number
returns-then-has_number g c =
    (λ _. (c.loop-pass.pass-index, c.kept.result.now, at_kept c.args.before.now c.loop-pass.pass-index c.pass-item.result c.kept.result.now (omega arith) c.pass-item.is c.kept.ensures.records, c.has_number.ensures.0 c.if-has_number.true), λ _. refl)

pub loop-pass-preserved : goal.loop-pass-preserved
loop-pass-preserved g c =
    let no : HasNumber c.kept.result.now c.args.number → ⊥ = λ h. let yes : c.has_number.result ≡ true = c.has_number.ensures.1 h in let f = c.if-has_number.false in absurd cc in
    none_more (kept_of c.args.before.now) c.args.number c.loop-pass.pass-index c.kept.result.now c.loop-pass.invariant (at_kept c.args.before.now c.loop-pass.pass-index c.pass-item.result c.kept.result.now (omega arith) c.pass-item.is c.kept.ensures.records) no

pub returns : goal.returns
returns g c = (λ e. absurd (false≢true e), λ e. absurd (none_left c.args.before.now c.args.number c.loop-pass.pass-index (omega arith) c.loop-pass.invariant e))
