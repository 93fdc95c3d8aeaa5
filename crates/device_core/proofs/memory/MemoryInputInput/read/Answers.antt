use Rattle.device_core.proofs.MemoryLemmas.{reads_memory}
use Rattle.device_core.proofs.memory.MemoryInputInput.read.Goals as goal

pub returns-clause-moved : goal.returns-clause-moved
returns-clause-moved c =
    let moved = reads_memory c.give.result c.args.self.now.left c.args.buffer.now c.give.new.buffer c.give.ensures.within c.give.ensures.fits c.give.ensures.fair c.give.ensures.bytes in
    rw c.give.ensures.after moved
