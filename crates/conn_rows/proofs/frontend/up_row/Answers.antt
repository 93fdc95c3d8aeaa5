use Rattle.conn_rows.specs.Changes.{stage_up}
use Rattle.conn_rows.specs.Stored.{at_stage}
use Rattle.conn_rows.proofs.Serials.{few-with, with_stage}
use Rattle.conn_rows.proofs.frontend.up_row.Goals as goal

pub returns-clause-rows : goal.returns-clause-rows
returns-clause-rows c = rw c.up_stage.ensures (with_stage c.args.serial stage_up c.stage_mut.result.now c.args.rows.now c.requires.rise c.requires.there c.stage_mut.ensures.value)

pub returns-clause-few : goal.returns-clause-few
returns-clause-few c = rw c.up_stage.ensures (few-with c.args.serial (at_stage (stage_up c.stage_mut.result.now)) c.args.rows.now c.stage_mut.ensures.few)
