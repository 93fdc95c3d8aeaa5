use Rattle.std.proofs.Common.{◌-◌, ◌^◌, sym, ◌∙◌}
use Rattle.std.proofs.lemmas.Nat.{pow_pos}
use Rattle.net_index.proofs.BlockLemmas.{block_has, holds_six}
use Rattle.net_index.proofs.range.range_of.Goals as goal

pub returns-in-V6 : goal.returns-in-V6
returns-in-V6 c n =
    block_has c.in-V6.number (2 ^ (128 - c.bits.result)) n c.block.result (pow_pos (128 - c.bits.result)) c.block.ensures.first c.block.ensures.last
    ∙ holds_six c.args.net.now c.in-V6.number n c.bits.result (sym c.addr.ensures ∙ c.in-V6.is) c.bits.ensures.value
