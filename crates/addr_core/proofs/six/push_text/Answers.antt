use Rattle.std.proofs.Common.{◌∙◌, arith}
use Rattle.std.specs.List.{slice_split}
use Rattle.addr_core.specs.Dotted.{is_colon}
use Rattle.addr_core.proofs.SixSteps.{read_length, read_step, room_step}
use Rattle.addr_core.proofs.six.push_text.Goals as goal

pub push_word-requires : goal.push_word-requires
push_word-requires c =
    let step = room_step _ (slice_split is_colon c.loop-word.rest.now) c.in-Some.word.now c.in-Some.more.now c.in-Some.ensures.some c.loop-word.invariant.0 in
    rw step.0 (omega (arith, step.1.3))

pub loop-word-preserved : goal.loop-word-preserved
loop-word-preserved c =
    let step = room_step _ (slice_split is_colon c.loop-word.rest.now) c.in-Some.word.now c.in-Some.more.now c.in-Some.ensures.some c.loop-word.invariant.0 in
    let long = read_length c.loop-word.groups.items c.in-Some.word.now c.push_word.new.groups.items step.0 c.in_ok-push_word.ensures.ok in (
      (step.1.0, step.1.1, step.1.2, omega (arith, step.1.3, long)),
      c.loop-word.invariant.1 ∙ read_step (slice_split is_colon c.loop-word.rest.now) c.in-Some.word.now c.in-Some.more.now c.loop-word.groups.items c.push_word.new.groups.items c.in-Some.ensures.some c.in_ok-push_word.ensures.ok,
    )
