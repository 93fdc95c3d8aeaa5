use Rattle.pp_any.proofs.Wholes.{v2_is_whole}
use Rattle.pp_any.proofs.writing.write_v2.Goals as goal

pub returns-clause-whole : goal.returns-clause-whole
returns-clause-whole c = λ more. v2_is_whole c.write_v2.result.items c.args.pair.now c.write_v2.ensures.length c.write_v2.ensures.head c.write_v2.ensures.block more
