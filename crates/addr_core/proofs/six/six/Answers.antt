use Rattle.std.proofs.Common.{◌∙◌, None, Some, sym}
use Rattle.addr_core.proofs.SixSteps.{six_parts}
use Rattle.addr_core.proofs.six.six.Goals as goal

pub returns-in-Some : goal.returns-in-Some
returns-in-Some c =
    c.short.ensures ∙ sym (six_parts c.args.text.now (Some (c.in-Some.front.now, c.in-Some.back.now)) (sym c.are_six_bytes.ensures ∙ c.if-not-are_six_bytes.false) c.in-Some.ensures.parts)

pub returns-in-None : goal.returns-in-None
returns-in-None c = c.whole.ensures ∙ sym (six_parts c.args.text.now None (sym c.are_six_bytes.ensures ∙ c.if-not-are_six_bytes.false) c.in-None.ensures.parts)
