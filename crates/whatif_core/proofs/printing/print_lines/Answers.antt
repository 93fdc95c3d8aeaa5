use Rattle.std.proofs.Common.{◌≡◌, ◌∙◌, Err, refl, sym, ap}
use Rattle.line_reader.specs.declared.lines.ReadFault.{ReadFault}
use Rattle.std.proofs.lemmas.Result.{err_from_is_err_and, on_ok_weaker}
use Rattle.replay_core.specs.declared.fault.PrintFault.TheVariants.{Read}
use Rattle.replay_core.proofs.Devices.{given_up_spent, reads_on, writes_on}
use Rattle.whatif_core.specs.Noting.{noted_in}
use Rattle.audit_core.proofs.ReachLemmas.{done_end, done_last, reaches_line}
use Rattle.audit_core.proofs.SpentLemmas.{never_end, never_last, never_line, spent_reading}
use Rattle.audit_core.proofs.WriteLemmas.{on_err_always}
use Rattle.whatif_core.proofs.ReportLemmas.{again_checked, both_parts}
use Rattle.whatif_core.proofs.WriteLemmas.{front_of, front_sent, writes_sent, writes_taken, wrote_end, wrote_taken}
use Rattle.whatif_core.proofs.printing.print_lines.Goals as goal

pub loop-twin-preserved : goal.loop-twin-preserved
loop-twin-preserved g c =
    let line = c.in-Ok-Line.ensures in
    let gives = rw c.in-Ok-Line.field-0-is at c.in-Ok-Line.ensures.gives in
    let before = c.loop-twin.invariant in
    let step = rw c.line.ensures at c.in_ok-take_line-in-Ok-Line.ensures.ok in
    record {
      reader = reads_on _ _ _ _ _ _ _ _ before.reader line.no_more line.calls (line.failures (λ e. cc)) (line.stalls (λ e. cc));
      writer = writes_on _ _ _ _ _ before.writer c.in_ok-send_many-in-Ok-Line.ensures.failures c.in_ok-send_many-in-Ok-Line.ensures.stalls;
      reaches = λ text left.
          reaches_line c.args.twin.now.checked text _ c.loop-twin.twin.checked c.take_line.new.twin.checked c.loop-twin.lines c.advance.new.self _ (before.reaches text left) gives
          (both_parts c.loop-twin.twin c.take_line.new.twin _ step).0;
      wrote = λ text sent left held.
          writes_sent sent (noted_in c.args.journal.now) c.args.twin.now text _ _ _ (noted_in c.take_line.new.journal) (noted_in c.send_many.new.journal) c.take_line.new.twin c.advance.new.self.kept
          (writes_taken sent (noted_in c.args.journal.now) c.args.twin.now text _ _ (noted_in c.loop-twin.journal) (noted_in c.take_line.new.journal) c.loop-twin.twin c.take_line.new.twin
          c.loop-twin.lines c.advance.new.self _ (before.wrote text sent left held) gives step (rw c.line.ensures at c.in_ok-take_line-in-Ok-Line.ensures.noted))
          c.in_ok-send_many-in-Ok-Line.ensures.sends c.in_ok-send_many-in-Ok-Line.ensures.others;
    }

pub returns-in_err-take_line-in-Ok-Line-clause-front : goal.returns-in_err-take_line-in-Ok-Line-clause-front
returns-in_err-take_line-in-Ok-Line-clause-front g c =
    on_err_always c.from_residual.result (front_of _ _ _ _ _ _ _ _ _ c.loop-twin.invariant.wrote)

pub returns-in_err-take_line-in-Ok-Line-clause-spent : goal.returns-in_err-take_line-in-Ok-Line-clause-spent
returns-in_err-take_line-in-Ok-Line-clause-spent g c = λ is text end left right.
    let p = err_from_is_err_and c.from_residual.result c.from_residual.ensures.1 in
    let gives = rw c.in-Ok-Line.field-0-is at c.in-Ok-Line.ensures.gives in
    let same = sym p.1 ∙ is in
    let read : c.in_err-take_line-in-Ok-Line.field-0.0 ≡ Read = cc in
    absurd
    (never_line c.in_err-take_line-in-Ok-Line.field-0.0 c.args.twin.now.checked text _ c.loop-twin.twin.checked c.loop-twin.lines c.advance.new.self _ end
    (c.loop-twin.invariant.reaches text left) gives (again_checked _ c.loop-twin.twin _ (rw c.line.ensures at c.in_err-take_line-in-Ok-Line.ensures.fault)) read right)

pub returns-in_err-send_many-in-Ok-Line-clause-front : goal.returns-in_err-send_many-in-Ok-Line-clause-front
returns-in_err-send_many-in-Ok-Line-clause-front g c =
    let gives = rw c.in-Ok-Line.field-0-is at c.in-Ok-Line.ensures.gives in
    let step = rw c.line.ensures at c.in_ok-take_line-in-Ok-Line.ensures.ok in
    on_err_always c.from_residual-in_err-send_many-in-Ok-Line.result
    (λ text sent rest left held.
    front_sent sent (noted_in c.args.journal.now) c.args.twin.now text _ _ _ (noted_in c.take_line.new.journal) c.take_line.new.twin c.advance.new.self.kept rest
    (writes_taken sent (noted_in c.args.journal.now) c.args.twin.now text _ _ (noted_in c.loop-twin.journal) (noted_in c.take_line.new.journal) c.loop-twin.twin c.take_line.new.twin
    c.loop-twin.lines c.advance.new.self _ (c.loop-twin.invariant.wrote text sent left held) gives step (rw c.line.ensures at c.in_ok-take_line-in-Ok-Line.ensures.noted))
    c.in_err-send_many-in-Ok-Line.ensures.front)

pub returns-in_err-take_line-in-Ok-LastLine-clause-front : goal.returns-in_err-take_line-in-Ok-LastLine-clause-front
returns-in_err-take_line-in-Ok-LastLine-clause-front g c =
    on_err_always c.from_residual-in_err-take_line-in-Ok-LastLine.result (front_of _ _ _ _ _ _ _ _ _ c.loop-twin.invariant.wrote)

pub returns-in_err-take_line-in-Ok-LastLine-clause-spent : goal.returns-in_err-take_line-in-Ok-LastLine-clause-spent
returns-in_err-take_line-in-Ok-LastLine-clause-spent g c = λ is text end left right.
    let p = err_from_is_err_and c.from_residual-in_err-take_line-in-Ok-LastLine.result c.from_residual-in_err-take_line-in-Ok-LastLine.ensures.1 in
    let gives = rw c.in-Ok-LastLine.field-0-is at c.in-Ok-LastLine.ensures.gives in
    let same = sym p.1 ∙ is in
    let read : c.in_err-take_line-in-Ok-LastLine.field-0.0 ≡ Read = cc in
    absurd
    (never_last c.in_err-take_line-in-Ok-LastLine.field-0.0 c.args.twin.now.checked text _ c.loop-twin.twin.checked c.loop-twin.lines c.advance.new.self _ end
    (c.loop-twin.invariant.reaches text left) gives (again_checked _ c.loop-twin.twin _ (rw c.line-in-Ok-LastLine.ensures at c.in_err-take_line-in-Ok-LastLine.ensures.fault)) read right)

pub returns-in-Ok-LastLine-clause-wrote : goal.returns-in-Ok-LastLine-clause-wrote
returns-in-Ok-LastLine-clause-wrote g c =
    let gives = rw c.in-Ok-LastLine.field-0-is at c.in-Ok-LastLine.ensures.gives in
    let step = rw c.line-in-Ok-LastLine.ensures at c.in_ok-take_line-in-Ok-LastLine.ensures.ok in
    on_ok_weaker c.finish.result
    (λ end text sent left held.
    wrote_taken sent (noted_in c.args.journal.now) c.args.twin.now text _ _ (noted_in c.loop-twin.journal) (noted_in c.take_line-in-Ok-LastLine.new.journal) c.loop-twin.twin
    c.take_line-in-Ok-LastLine.new.twin c.loop-twin.lines c.advance.new.self _ (c.loop-twin.invariant.wrote text sent left held) gives step
    (rw c.line-in-Ok-LastLine.ensures at c.in_ok-take_line-in-Ok-LastLine.ensures.noted))
    c.finish.ensures.ok

pub returns-in-Ok-LastLine-clause-front : goal.returns-in-Ok-LastLine-clause-front
returns-in-Ok-LastLine-clause-front g c =
    on_err_always c.finish.result (front_of _ _ _ _ _ _ _ _ _ c.loop-twin.invariant.wrote)

pub returns-in-Ok-LastLine-clause-spent : goal.returns-in-Ok-LastLine-clause-spent
returns-in-Ok-LastLine-clause-spent g c = λ is text end left right.
    let gives = rw c.in-Ok-LastLine.field-0-is at c.in-Ok-LastLine.ensures.gives in
    let step = rw c.line-in-Ok-LastLine.ensures at c.in_ok-take_line-in-Ok-LastLine.ensures.ok in
    absurd
    (never_end Read c.args.twin.now.checked text c.take_line-in-Ok-LastLine.new.twin.checked end
    (done_last c.args.twin.now.checked text _ c.loop-twin.twin.checked c.take_line-in-Ok-LastLine.new.twin.checked c.loop-twin.lines c.advance.new.self _
    (c.loop-twin.invariant.reaches text left) gives (both_parts c.loop-twin.twin c.take_line-in-Ok-LastLine.new.twin _ step).0)
    (rw is at c.finish.ensures.fault) refl right)

pub returns-in-Ok-End-clause-wrote : goal.returns-in-Ok-End-clause-wrote
returns-in-Ok-End-clause-wrote g c =
    let gives = rw c.in-Ok-End.field-0-is at c.in-Ok-End.ensures.gives in
    on_ok_weaker c.finish-in-Ok-End.result
    (λ end text sent left held.
    wrote_end sent (noted_in c.args.journal.now) c.args.twin.now text _ _ (noted_in c.loop-twin.journal) c.loop-twin.twin c.loop-twin.lines c.advance.new.self _
    (c.loop-twin.invariant.wrote text sent left held) gives)
    c.finish-in-Ok-End.ensures.ok

pub returns-in-Ok-End-clause-front : goal.returns-in-Ok-End-clause-front
returns-in-Ok-End-clause-front g c =
    on_err_always c.finish-in-Ok-End.result (front_of _ _ _ _ _ _ _ _ _ c.loop-twin.invariant.wrote)

pub returns-in-Ok-End-clause-spent : goal.returns-in-Ok-End-clause-spent
returns-in-Ok-End-clause-spent g c = λ is text end left right.
    let gives = rw c.in-Ok-End.field-0-is at c.in-Ok-End.ensures.gives in
    absurd
    (never_end Read c.args.twin.now.checked text c.loop-twin.twin.checked end
    (done_end c.args.twin.now.checked text _ c.loop-twin.twin.checked c.loop-twin.lines c.advance.new.self _ (c.loop-twin.invariant.reaches text left) gives)
    (rw is at c.finish-in-Ok-End.ensures.fault) refl right)

pub returns-in-Err-clause-front : goal.returns-in-Err-clause-front
returns-in-Err-clause-front g c = front_of _ _ _ _ _ _ _ _ _ c.loop-twin.invariant.wrote

pub returns-in-Err-clause-spent : goal.returns-in-Err-clause-spent
returns-in-Err-clause-spent g c = λ is text end left right.
    let before = c.loop-twin.invariant in
    let line = c.in-Err.ensures in
    let result : c.reading_again.result ≡ Read = cc in
    spent_reading _ c.args.twin.now.checked text _ c.loop-twin.twin.checked c.loop-twin.lines c.advance.new.self _ c.in-Err.fault end (before.reaches text left) c.in-Err.ensures.err c.in-Err.ensures.too_long
    (λ gave_up.
    given_up_spent _ _ _ _ _ _ _ _ before.reader line.no_more line.calls (line.given_up (ap (λ (f : ReadFault). Err f) gave_up)))
    (sym c.reading_again.ensures ∙ result) right
