use Rattle.std.proofs.Common.{◌-◌, ◌^◌, sym, ◌∙◌}
use Rattle.std.proofs.lemmas.Nat.{pow_pos}
use Rattle.net_index.specs.Ranges.{wide}
use Rattle.net_index.proofs.BlockLemmas.{block_has, holds_four}
use Rattle.net_index.proofs.range.short_of.Goals as goal

pub returns-in-V4 : goal.returns-in-V4
returns-in-V4 c n =
    block_has c.in-V4.number (2 ^ (32 - c.bits.result)) n (wide c.short_block.result) (pow_pos (32 - c.bits.result)) c.short_block.ensures.first c.short_block.ensures.last
    ∙ holds_four c.args.net.now c.in-V4.number n c.bits.result (sym c.addr.ensures ∙ c.in-V4.is) c.bits.ensures.value
