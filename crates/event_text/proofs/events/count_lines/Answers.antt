use Rattle.std.proofs.Common.{◌∙◌, ◌+◌, ap, sym}
use Rattle.std.specs.List.{count_by}
use Rattle.std.proofs.lemmas.List.{take_all}
use Rattle.std.proofs.lemmas.List.Splits.{length-slice_split}
use Rattle.text_core.specs.Parts.{is_line_feed}
use Rattle.event_text.proofs.events.count_lines.Goals as goal

pub returns : goal.returns
returns c =
    c.loop-byte.invariant.0
    ∙ ap (λ xs. count_by is_line_feed xs + 1) (take_all c.loop-byte.byte-index c.args.text.now c.loop-byte-test.false)
    ∙ sym (length-slice_split is_line_feed c.args.text.now)
