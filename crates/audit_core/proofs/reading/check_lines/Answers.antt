use Rattle.std.proofs.Common.{◌∙◌}
use Rattle.std.proofs.lemmas.Result.{IfErr-weaker, on_ok_weaker, err_from_is_err_and}
use Rattle.replay_core.proofs.Devices.{reads_on}
use Rattle.audit_core.proofs.ReachLemmas.{done_end, done_last, reaches_line, stops_end, stops_last, stops_line, stops_reading}
use Rattle.audit_core.proofs.reading.check_lines.Goals as goal

pub loop-auditor-preserved : goal.loop-auditor-preserved
loop-auditor-preserved g c =
    let line = c.in-Ok-Line.ensures in
    record {
      reader = reads_on _ _ _ _ _ _ _ _ c.loop-auditor.invariant.reader line.no_more line.calls (line.failures (λ e. cc)) (line.stalls (λ e. cc));
      reaches = λ text left.
          reaches_line c.args.auditor.now text _ c.loop-auditor.auditor c.check_line.new.self c.loop-auditor.lines c.advance.new.self _
          (c.loop-auditor.invariant.reaches text left) (rw c.in-Ok-Line.field-0-is at c.in-Ok-Line.ensures.gives) (rw c.line.ensures at c.in_ok-check_line-in-Ok-Line.ensures.ok);
    }

pub returns-in_err-check_line-in-Ok-Line-clause-stops : goal.returns-in_err-check_line-in-Ok-Line-clause-stops
returns-in_err-check_line-in-Ok-Line-clause-stops g c =
    let p = err_from_is_err_and c.from_residual.result c.from_residual.ensures.1 in
    let gives = rw c.in-Ok-Line.field-0-is at c.in-Ok-Line.ensures.gives in
    rw (p.1, p.2)
    (λ text left.
    stops_line c.args.auditor.now text _ c.loop-auditor.auditor c.loop-auditor.lines c.advance.new.self _ _
    (c.loop-auditor.invariant.reaches text left) gives (rw c.line.ensures at c.in_err-check_line-in-Ok-Line.ensures.err))

pub returns-in_err-check_line-in-Ok-LastLine-clause-stops : goal.returns-in_err-check_line-in-Ok-LastLine-clause-stops
returns-in_err-check_line-in-Ok-LastLine-clause-stops g c =
    let p = err_from_is_err_and c.from_residual-in_err-check_line-in-Ok-LastLine.result c.from_residual-in_err-check_line-in-Ok-LastLine.ensures.1 in
    let gives = rw c.in-Ok-LastLine.field-0-is at c.in-Ok-LastLine.ensures.gives in
    rw (p.1, p.2)
    (λ text left.
    stops_last c.args.auditor.now text _ c.loop-auditor.auditor c.loop-auditor.lines c.advance.new.self _ _
    (c.loop-auditor.invariant.reaches text left) gives (rw c.line-in-Ok-LastLine.ensures at c.in_err-check_line-in-Ok-LastLine.ensures.err))

pub returns-in-Ok-LastLine-clause-ok : goal.returns-in-Ok-LastLine-clause-ok
returns-in-Ok-LastLine-clause-ok g c =
    let gives = rw c.in-Ok-LastLine.field-0-is at c.in-Ok-LastLine.ensures.gives in
    let step = rw c.line-in-Ok-LastLine.ensures at c.in_ok-check_line-in-Ok-LastLine.ensures.ok in
    on_ok_weaker c.finish.result
    (λ end text left.
    done_last c.args.auditor.now text _ c.loop-auditor.auditor c.check_line-in-Ok-LastLine.new.self c.loop-auditor.lines c.advance.new.self _
    (c.loop-auditor.invariant.reaches text left) gives step ∙ end)
    c.finish.ensures.ok

pub returns-in-Ok-LastLine-clause-stops : goal.returns-in-Ok-LastLine-clause-stops
returns-in-Ok-LastLine-clause-stops g c =
    let gives = rw c.in-Ok-LastLine.field-0-is at c.in-Ok-LastLine.ensures.gives in
    let step = rw c.line-in-Ok-LastLine.ensures at c.in_ok-check_line-in-Ok-LastLine.ensures.ok in
    IfErr-weaker c.finish.result _ _
    (λ fault why text left.
    stops_end c.args.auditor.now text c.check_line-in-Ok-LastLine.new.self fault
    (done_last c.args.auditor.now text _ c.loop-auditor.auditor c.check_line-in-Ok-LastLine.new.self c.loop-auditor.lines c.advance.new.self _
    (c.loop-auditor.invariant.reaches text left) gives step) why.0 why.1)
    c.finish.ensures.err

pub returns-in-Ok-End-clause-ok : goal.returns-in-Ok-End-clause-ok
returns-in-Ok-End-clause-ok g c =
    let gives = rw c.in-Ok-End.field-0-is at c.in-Ok-End.ensures.gives in
    on_ok_weaker c.finish-in-Ok-End.result
    (λ end text left.
    done_end c.args.auditor.now text _ c.loop-auditor.auditor c.loop-auditor.lines c.advance.new.self _
    (c.loop-auditor.invariant.reaches text left) gives ∙ end)
    c.finish-in-Ok-End.ensures.ok

pub returns-in-Ok-End-clause-stops : goal.returns-in-Ok-End-clause-stops
returns-in-Ok-End-clause-stops g c =
    let gives = rw c.in-Ok-End.field-0-is at c.in-Ok-End.ensures.gives in
    IfErr-weaker c.finish-in-Ok-End.result _ _
    (λ fault why text left.
    stops_end c.args.auditor.now text c.loop-auditor.auditor fault
    (done_end c.args.auditor.now text _ c.loop-auditor.auditor c.loop-auditor.lines c.advance.new.self _
    (c.loop-auditor.invariant.reaches text left) gives) why.0 why.1)
    c.finish-in-Ok-End.ensures.err

pub returns-in-Err-clause-stops : goal.returns-in-Err-clause-stops
returns-in-Err-clause-stops g c = λ text left.
    rw c.reading_fault.ensures
    (stops_reading c.args.auditor.now text _ c.loop-auditor.auditor c.loop-auditor.lines c.advance.new.self _ c.in-Err.fault
    (c.loop-auditor.invariant.reaches text left) c.in-Err.ensures.err c.in-Err.ensures.too_long)
