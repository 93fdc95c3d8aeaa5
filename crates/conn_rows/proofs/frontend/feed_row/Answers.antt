use Rattle.std.proofs.Common.{subst, sym, ◌∙◌}
use Rattle.std.specs.Prelude.{IsSome}
use Rattle.conn_rows.specs.Changes.{stage_fed}
use Rattle.conn_rows.specs.Stored.{at_stage}
use Rattle.conn_rows.proofs.Fed.{found_waiting, held_found, rest_found}
use Rattle.conn_rows.proofs.Serials.{few-with, with_stage}
use Rattle.conn_rows.proofs.frontend.feed_row.Goals as goal

pub stage_mut-requires : goal.stage_mut-requires
stage_mut-requires c = found_waiting c.args.serial c.args.rows.now c.requires.waits

pub feed_stage-requires-clause-held : goal.feed_stage-requires-clause-held
feed_stage-requires-clause-held c =
    held_found c.args.serial c.args.rows.now c.stage_mut.result.now c.stage_mut.ensures.value c.requires.held (found_waiting c.args.serial c.args.rows.now c.requires.waits)

pub feed_stage-requires-clause-waits : goal.feed_stage-requires-clause-waits
feed_stage-requires-clause-waits c =
    subst IsSome (rest_found c.args.serial c.args.rows.now c.stage_mut.result.now c.stage_mut.ensures.value (found_waiting c.args.serial c.args.rows.now c.requires.waits)) c.requires.waits

pub returns-clause-status : goal.returns-clause-status
returns-clause-status c = λ rest is.
    c.feed_stage.ensures.status rest (sym (rest_found c.args.serial c.args.rows.now c.stage_mut.result.now c.stage_mut.ensures.value (found_waiting c.args.serial c.args.rows.now c.requires.waits)) ∙ is)

pub returns-clause-rows : goal.returns-clause-rows
returns-clause-rows c =
    rw c.feed_stage.ensures.new
    (with_stage c.args.serial (stage_fed c.args.piece.now) c.stage_mut.result.now c.args.rows.now c.requires.rise (found_waiting c.args.serial c.args.rows.now c.requires.waits) c.stage_mut.ensures.value)

pub returns-clause-few : goal.returns-clause-few
returns-clause-few c = rw c.feed_stage.ensures.new (few-with c.args.serial (at_stage (stage_fed c.args.piece.now c.stage_mut.result.now)) c.args.rows.now c.stage_mut.ensures.few)
