use Rattle.std.proofs.Common.{◌<◌, ◌++◌, ◌≡◌, length, ap, subst, sym, ◌∙◌, arith, append-nil, inr, Ok}
use Rattle.std.proofs.lemmas.Bool.Decides.{nat_tests}
use Rattle.std.proofs.lemmas.Result.{err_from_is_err_and}
use Rattle.line_reader.specs.Lines.{LineState}
use Rattle.line_reader.specs.Unended.{BeginsTooLong}
use Rattle.text_core.specs.Parts.{IsUnended}
use Rattle.line_reader.proofs.GatherLemmas.{gathers_block, gathers_moved, gives_last}
use Rattle.line_reader.proofs.lines.LineReader.advance.Goals as goal

pub returns-in_err-take_kept-clause-too_long : goal.returns-in_err-take_kept-clause-too_long
returns-in_err-take_kept-clause-too_long g c =
    let p = err_from_is_err_and c.from_residual.result c.from_residual.ensures.1 in
    rw (p.1, p.2)
    (λ is. subst (λ (s : LineState). BeginsTooLong (s.line ++ s.kept)) (sym c.in_err-take_kept.ensures.err) (c.in_err-take_kept.ensures.too_long is))

pub returns-then-not-branch-clause-gives : goal.returns-then-not-branch-clause-gives
returns-then-not-branch-clause-gives g c =
    let line : c.self-in-loop-self.inside.line.items ≡ c.read_block.new.self.line = ap (λ (s : LineState). s.line) c.self-in-loop-self.view_is in
    let some : 0 < length c.read_block.new.self.line = grind (arith, nat_tests, c.is_empty.ensures, c.if-is_empty.false, ap length line) in
    let over = ap Ok c.if-not-branch.true in
    let more = ap Ok c.if-branch.false in
    gives_last c.args.self.now c.loop-self.self c.take_kept.new.self c.read_block.new.self _ _ _ c.loop-self.invariant.gathers (c.in_ok-take_kept.ensures.all more)
    c.in_ok-read_block.ensures.line (c.in_ok-take_kept.ensures.unended more) some (c.in_ok-read_block.ensures.end over) c.in_ok-take_kept.ensures.fits

pub loop-self-preserved : goal.loop-self-preserved
loop-self-preserved g c =
    let some = ap Ok c.if-not-branch.false in
    let more = ap Ok c.if-branch.false in
    let all = c.in_ok-take_kept.ensures.all more in
    let none = c.in_ok-take_kept.ensures.none more in
    record {
      unended = subst IsUnended (sym c.in_ok-read_block.ensures.line) (c.in_ok-take_kept.ensures.unended more);
      gathers = gathers_block c.args.self.now c.take_kept.new.self c.read_block.new.self _ _ _
          (gathers_moved c.args.self.now c.loop-self.self c.take_kept.new.self _ _ c.loop-self.invariant.gathers
          (sym (ap (λ xs. c.take_kept.new.self.line ++ xs) none ∙ append-nil c.take_kept.new.self.line ∙ all)))
          none c.in_ok-read_block.ensures.line (c.in_ok-read_block.ensures.some some);
      calls = omega (arith, c.in_ok-read_block.ensures.calls, c.in_ok-read_block.ensures.no_more, c.in_ok-take_kept.ensures.reads, c.loop-self.invariant.calls);
      reads = omega (arith, c.in_ok-read_block.ensures.no_more, c.in_ok-take_kept.ensures.reads);
      failures = c.in_ok-read_block.ensures.failures ∙ c.loop-self.invariant.failures;
      stalls = inr c.in_ok-read_block.ensures.stalls;
    }
