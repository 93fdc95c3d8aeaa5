use Rattle.std.proofs.lemmas.Result.{IfErr-weaker, on_ok_weaker, err_from_is_err_and}
use Rattle.replay_core.proofs.Devices.{reads_on, writes_on}
use Rattle.replay_core.proofs.ReachLemmas.{done_end, done_last, reaches_line, reaches_sent, stops_end, stops_last, stops_line, stops_reading, stops_write}
use Rattle.replay_core.proofs.reading.answer_all.Goals as goal

pub returns-in_err-answer_line-in-Ok-Line-clause-stops : goal.returns-in_err-answer_line-in-Ok-Line-clause-stops
returns-in_err-answer_line-in-Ok-Line-clause-stops g c =
    let p = err_from_is_err_and c.from_residual.result c.from_residual.ensures.1 in
    let gives = rw c.in-Ok-Line.field-0-is at c.in-Ok-Line.ensures.gives in
    rw (p.1, p.2)
    (λ script sent left held.
    stops_line sent c.args.session.now script _ _ c.loop-session.session c.answer_line.new.self c.loop-session.lines c.advance.new.self _ _
    (c.loop-session.invariant.reaches script sent left held) gives (rw c.line.ensures at c.in_err-answer_line-in-Ok-Line.ensures.err))

pub returns-in_err-send_many-in-Ok-Line-clause-stops : goal.returns-in_err-send_many-in-Ok-Line-clause-stops
returns-in_err-send_many-in-Ok-Line-clause-stops g c =
    let p = err_from_is_err_and c.from_residual-in_err-send_many-in-Ok-Line.result c.from_residual-in_err-send_many-in-Ok-Line.ensures.1 in
    let gives = rw c.in-Ok-Line.field-0-is at c.in-Ok-Line.ensures.gives in
    rw (p.1, p.2)
    (λ script sent left held.
    stops_write sent c.args.session.now script _ _ c.answer_line.new.self c.send_many.new.self _ _ _ c.in_err-send_many-in-Ok-Line.ensures.err
    (reaches_line sent c.args.session.now script _ _ c.loop-session.session c.answer_line.new.self c.loop-session.lines c.advance.new.self _
    (c.loop-session.invariant.reaches script sent left held) gives (rw c.line.ensures at c.in_ok-answer_line-in-Ok-Line.ensures.ok))
    c.in_err-send_many-in-Ok-Line.ensures.front)

pub loop-session-preserved : goal.loop-session-preserved
loop-session-preserved g c =
    let line = c.in-Ok-Line.ensures in
    let gives = rw c.in-Ok-Line.field-0-is at c.in-Ok-Line.ensures.gives in
    record {
      reader = reads_on _ _ _ _ _ _ _ _ c.loop-session.invariant.reader line.no_more line.calls (line.failures (λ e. cc)) (line.stalls (λ e. cc));
      writer = writes_on _ _ _ _ _ c.loop-session.invariant.writer c.in_ok-send_many-in-Ok-Line.ensures.failures c.in_ok-send_many-in-Ok-Line.ensures.stalls;
      reaches = λ script sent left held.
          reaches_sent sent c.args.session.now script _ _ c.answer_line.new.self c.advance.new.self.kept _ c.send_many.new.self
          (reaches_line sent c.args.session.now script _ _ c.loop-session.session c.answer_line.new.self c.loop-session.lines c.advance.new.self _
          (c.loop-session.invariant.reaches script sent left held) gives (rw c.line.ensures at c.in_ok-answer_line-in-Ok-Line.ensures.ok))
          c.in_ok-send_many-in-Ok-Line.ensures.ok;
    }

pub returns-in-Ok-LastLine-clause-ok : goal.returns-in-Ok-LastLine-clause-ok
returns-in-Ok-LastLine-clause-ok g c =
    let gives = rw c.in-Ok-LastLine.field-0-is at c.in-Ok-LastLine.ensures.gives in
    on_ok_weaker c.answer_last.result
    (λ step script sent left held.
    done_last sent c.args.session.now script _ _ c.loop-session.session c.answer_last.new.self c.loop-session.lines c.advance.new.self _
    (c.loop-session.invariant.reaches script sent left held) gives (rw c.line-in-Ok-LastLine.ensures at step))
    c.answer_last.ensures.ok

pub returns-in-Ok-LastLine-clause-stops : goal.returns-in-Ok-LastLine-clause-stops
returns-in-Ok-LastLine-clause-stops g c =
    let gives = rw c.in-Ok-LastLine.field-0-is at c.in-Ok-LastLine.ensures.gives in
    IfErr-weaker c.answer_last.result _ _
    (λ fault why script sent left held.
    stops_last sent c.args.session.now script _ _ c.loop-session.session c.answer_last.new.self c.loop-session.lines c.advance.new.self _ fault
    (c.loop-session.invariant.reaches script sent left held) gives (rw c.line-in-Ok-LastLine.ensures at why))
    c.answer_last.ensures.err

pub returns-in-Ok-End-clause-ok : goal.returns-in-Ok-End-clause-ok
returns-in-Ok-End-clause-ok g c =
    let gives = rw c.in-Ok-End.field-0-is at c.in-Ok-End.ensures.gives in
    on_ok_weaker c.at_end.result
    (λ end script sent left held.
    done_end sent c.args.session.now script _ _ c.loop-session.session c.loop-session.lines c.advance.new.self _
    (c.loop-session.invariant.reaches script sent left held) gives end)
    c.at_end.ensures.ok

pub returns-in-Ok-End-clause-stops : goal.returns-in-Ok-End-clause-stops
returns-in-Ok-End-clause-stops g c =
    let gives = rw c.in-Ok-End.field-0-is at c.in-Ok-End.ensures.gives in
    IfErr-weaker c.at_end.result _ _
    (λ fault why script sent left held.
    stops_end sent c.args.session.now script _ _ c.loop-session.session c.loop-session.lines c.advance.new.self _ fault
    (c.loop-session.invariant.reaches script sent left held) gives why)
    c.at_end.ensures.err

pub returns-in-Err-clause-stops : goal.returns-in-Err-clause-stops
returns-in-Err-clause-stops g c = λ script sent left held.
    rw c.script_fault.ensures
    (stops_reading sent c.args.session.now script _ _ c.loop-session.session c.loop-session.lines c.advance.new.self _ c.in-Err.fault
    (c.loop-session.invariant.reaches script sent left held) c.in-Err.ensures.err c.in-Err.ensures.too_long)
