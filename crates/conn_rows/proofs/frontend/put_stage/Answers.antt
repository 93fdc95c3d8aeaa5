use Rattle.conn_rows.specs.Stored.{at_stage}
use Rattle.conn_rows.proofs.Serials.{few-with}
use Rattle.conn_rows.proofs.frontend.put_stage.Goals as goal

pub returns-clause-few : goal.returns-clause-few
returns-clause-few c = rw c.replace.ensures.after (few-with c.args.serial (at_stage c.args.stage) c.args.rows.now c.stage_mut.ensures.few)
