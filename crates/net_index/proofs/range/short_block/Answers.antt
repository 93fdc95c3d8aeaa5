use Rattle.std.proofs.Common.{◌<◌, ◌^◌, arith}
use Rattle.net_index.proofs.BlockLemmas.{block_begins, block_fits, power_short}
use Rattle.net_index.proofs.range.short_block.Goals as goal

pub overflow_add-result : goal.overflow_add-result
overflow_add-result c =
    let less : c.args.rest < 32 = omega (arith, c.requires, c.if-rest-eq32.false) in
    let fits = block_fits 32 c.args.number c.args.rest (omega (arith, c.ranges.number.fits)) less in
    let begins = block_begins c.args.number (2 ^ c.args.rest) in
    rw (power_short c.args.rest less) (omega (arith, fits, begins))
