use Rattle.std.proofs.Common.{ap, subst, sym, ◌∙◌}
use Rattle.std.proofs.lemmas.Result.{on_err_weaker, on_ok_weaker}
use Rattle.rtrb.specs.Ring.{sent}
use Rattle.crew_core.specs.Writers.{RecordsAll, RecordsFront}
use Rattle.crew_core.proofs.SinkLemmas.{book_cut_off, book_recorded, written_of}
use Rattle.crew_core.proofs.engine.run.Goals as goal

pub returns-clause-record : goal.returns-clause-record
returns-clause-record g c =
    on_ok_weaker c.finish-written.result.0 (λ wrote.
    subst (λ w. RecordsAll c.args.book.base c.in-Ok.crew.summary.recorded (g.W.Output.held w) (g.W.Output.held c.finish-written.result.1)) c.new.ensures.writer
    (subst (λ base. RecordsAll base c.in-Ok.crew.summary.recorded (g.W.Output.held c.new.result.writer) (g.W.Output.held c.finish-written.result.1)) (ap (λ b. b.base) c.book.ensures.book ∙ c.in-Ok.ensures.base)
    (subst (λ count. RecordsAll c.book.result.now.base count (g.W.Output.held c.new.result.writer) (g.W.Output.held c.finish-written.result.1)) (ap (λ b. b.made) c.book.ensures.book ∙ sym c.in-Ok.ensures.recorded.1)
    (book_recorded g.W.Output.held c.book.result.now c.new.result c.in-Ok.crew.outlet.sink c.finish-written.result.1 c.finish-written.ensures.legal
    (written_of g.W.Output.held _ _ _ _ c.in-Ok.ensures.handed c.requires.ring.1 c.new.ensures.fault (c.in-Ok.ensures.sent ∙ sym (ap (λ b. sent b.segments) c.book.ensures.book)))
    wrote.0 wrote.1))))
    c.finish-written.ensures.ok

pub returns-clause-front : goal.returns-clause-front
returns-clause-front g c =
    on_err_weaker c.finish-written.result.0 (λ part.
    subst (λ w. RecordsFront c.args.book.base c.in-Ok.crew.summary.recorded (g.W.Output.held w) (g.W.Output.held c.finish-written.result.1)) c.new.ensures.writer
    (subst (λ base. RecordsFront base c.in-Ok.crew.summary.recorded (g.W.Output.held c.new.result.writer) (g.W.Output.held c.finish-written.result.1)) (ap (λ b. b.base) c.book.ensures.book ∙ c.in-Ok.ensures.base)
    (subst (λ count. RecordsFront c.book.result.now.base count (g.W.Output.held c.new.result.writer) (g.W.Output.held c.finish-written.result.1)) (ap (λ b. b.made) c.book.ensures.book ∙ sym c.in-Ok.ensures.recorded.1)
    (book_cut_off g.W.Output.held c.book.result.now c.new.result c.in-Ok.crew.outlet.sink c.finish-written.result.1 c.finish-written.ensures.legal
    (written_of g.W.Output.held _ _ _ _ c.in-Ok.ensures.handed c.requires.ring.1 c.new.ensures.fault (c.in-Ok.ensures.sent ∙ sym (ap (λ b. sent b.segments) c.book.ensures.book)))
    c.finish-written.ensures.refused part))))
    c.finish-written.ensures.front
