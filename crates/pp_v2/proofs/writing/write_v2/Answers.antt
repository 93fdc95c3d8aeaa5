use Rattle.pp_v2.proofs.Written.{pair_in-header_of}
use Rattle.pp_v2.proofs.writing.write_v2.Goals as goal

pub returns-clause-block : goal.returns-clause-block
returns-clause-block c =
    pair_in-header_of c.args.pair.now c.header_of.result.items c.header_of.ensures.header c.header_of.ensures.source c.header_of.ensures.destination c.header_of.ensures.family
