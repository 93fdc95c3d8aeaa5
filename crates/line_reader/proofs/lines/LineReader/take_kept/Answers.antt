use Rattle.std.proofs.Common.{◌≤◌, ◌+◌, ◌++◌, length, take, drop, ap, subst, sym, arith, length-append}
use Rattle.std.proofs.lemmas.Result.{err_from_is_err_and}
use Rattle.text_core.specs.Parts.{IsUnended}
use Rattle.line_reader.proofs.CarryLemmas.{all_taken, begins_found, length_carried, too_long_found, too_long_unended, unended_carried}
use Rattle.line_reader.proofs.lines.LineReader.take_kept.Goals as goal

pub returns-in_err-take-in-Some-clause-too_long : goal.returns-in_err-take-in-Some-clause-too_long
returns-in_err-take-in-Some-clause-too_long c =
    let p = err_from_is_err_and c.from_residual.result c.from_residual.ensures.1 in
    let found = c.in-Some.ensures in
    let line = c.args.self.now.line in
    let kept = c.args.self.now.kept in
    let within : c.in-Some.at ≤ length kept = omega (arith, found.0.high, ap length c.kept.ensures) in
    rw (p.1, p.2)
    (λ is.
    too_long_found (line ++ kept) (line ++ take c.in-Some.at kept) (drop (c.in-Some.at + 1) kept)
    (begins_found line kept c.kept.result.now c.in-Some.at c.requires c.kept.ensures found.0.high found.0.before found.1)
    (omega (arith, length_carried line kept c.in-Some.at within, c.in_err-take-in-Some.ensures.too_long is)))

pub returns-in_err-take-in-None-clause-too_long : goal.returns-in_err-take-in-None-clause-too_long
returns-in_err-take-in-None-clause-too_long c =
    let p = err_from_is_err_and c.from_residual-in_err-take-in-None.result c.from_residual-in_err-take-in-None.ensures.1 in
    let line = c.args.self.now.line in
    let kept = c.args.self.now.kept in
    rw (p.1, p.2)
    (λ is.
    too_long_unended (line ++ kept) (unended_carried line kept c.kept.result.now c.requires c.kept.ensures c.in-None.ensures)
    (omega (arith, length-append line kept, ap length c.kept-count.ensures, c.in_err-take-in-None.ensures.too_long is)))

pub returns-in_ok-take-in-Some-clause-ended : goal.returns-in_ok-take-in-Some-clause-ended
returns-in_ok-take-in-Some-clause-ended c = λ ended more.
    let found = c.in-Some.ensures in
    rw (c.in_ok-take-in-Some.ensures.line, c.in_ok-take-in-Some.ensures.kept)
    (begins_found c.args.self.now.line c.args.self.now.kept c.kept.result.now c.in-Some.at c.requires c.kept.ensures found.0.high found.0.before found.1 more)

pub returns-in_ok-take-in-None-clause-unended : goal.returns-in_ok-take-in-None-clause-unended
returns-in_ok-take-in-None-clause-unended c = λ unended.
    let line = c.args.self.now.line in
    let kept = c.args.self.now.kept in
    subst IsUnended (sym (all_taken line kept c.kept-count.result.now c.take-in-None.new.self.line c.kept-count.ensures c.in_ok-take-in-None.ensures.line))
    (unended_carried line kept c.kept.result.now c.requires c.kept.ensures c.in-None.ensures)
