use Rattle.pipe_core.proofs.StreamLemmas.{gives_front}
use Rattle.pipe_core.proofs.header.receive_piece.Goals as goal

pub returns-clause-moved : goal.returns-clause-moved
returns-clause-moved g c = gives_front _ _ _ c.receive.new.buffer _ c.receive.ensures.moved
