use Rattle.std.proofs.Common.{◌≡◌, Some, refl, sym, subst, ap, ◌∙◌}
use Rattle.std.specs.Prelude.{find, IsSome}
use Rattle.conn_rows.specs.Changes.{stage_moved, CanMove}
use Rattle.conn_rows.specs.Stored.{at_stage, has_serial, slot_of}
use Rattle.conn_rows.proofs.Serials.{few-with, with_stage}
use Rattle.conn_rows.proofs.frontend.move_row.Goals as goal

pub stage_mut-requires : goal.stage_mut-requires
stage_mut-requires c = subst IsSome (sym c.requires.there.1) refl

pub move_stage-requires : goal.move_stage-requires
move_stage-requires c = subst CanMove (sym (c.stage_mut.ensures.value c.requires.there.0 c.requires.there.1)) c.requires.there.2

pub returns-clause-rows : goal.returns-clause-rows
returns-clause-rows c = rw c.move_stage.ensures.stage (with_stage c.args.serial (stage_moved c.args.seat c.args.slot) c.stage_mut.result.now c.args.rows.now c.requires.rise (subst IsSome (sym c.requires.there.1) refl) c.stage_mut.ensures.value)

pub returns-clause-left : goal.returns-clause-left
returns-clause-left c = λ row found. c.move_stage.ensures.left ∙ ap slot_of (c.stage_mut.ensures.value row found)

pub returns-clause-few : goal.returns-clause-few
returns-clause-few c = rw c.move_stage.ensures.stage (few-with c.args.serial (at_stage (stage_moved c.args.seat c.args.slot c.stage_mut.result.now)) c.args.rows.now c.stage_mut.ensures.few)
