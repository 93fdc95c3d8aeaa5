use Rattle.std.proofs.lemmas.Result.{on_err_weaker, on_ok_weaker, IfOk-weaker}
use Rattle.whatif_core.proofs.run.run_whatif.Goals as goal

pub returns-in-Ok-clause-finds : goal.returns-in-Ok-clause-finds
returns-in-Ok-clause-finds g c = IfOk-weaker c.compare.result _ _ (λ found is text left. is c.args.other.now text left c.in-Ok.ensures.ok) c.compare.ensures.finds

pub returns-in-Ok-clause-refused : goal.returns-in-Ok-clause-refused
returns-in-Ok-clause-refused g c = IfOk-weaker c.compare.result _ _ (λ found is fault same. absurd (is fault same)) c.compare.ensures.played

pub returns-in-Ok-clause-compared : goal.returns-in-Ok-clause-compared
returns-in-Ok-clause-compared g c =
    IfOk-weaker c.compare.result _ _
    (λ found is differing text sent same left second held. is differing c.args.other.now text sent same left second held c.in-Ok.ensures.ok)
    c.compare.ensures.compared

pub returns-in-Ok-clause-wrote : goal.returns-in-Ok-clause-wrote
returns-in-Ok-clause-wrote g c =
    on_ok_weaker c.compare.result (λ is text sent left second held. is c.args.other.now text sent left second held c.in-Ok.ensures.ok) c.compare.ensures.wrote

pub returns-in-Ok-clause-front : goal.returns-in-Ok-clause-front
returns-in-Ok-clause-front g c =
    on_err_weaker c.compare.result (λ is text sent left second held. is c.args.other.now text sent left second held c.in-Ok.ensures.ok) c.compare.ensures.front

pub returns-in-Ok-clause-spent : goal.returns-in-Ok-clause-spent
returns-in-Ok-clause-spent g c = λ read text left second. c.compare.ensures.spent read c.args.other.now text left second c.in-Ok.ensures.ok
