use Rattle.std.proofs.Common.{arith}
use Rattle.std.proofs.lemmas.List.{length-take-le}
use Rattle.crew_core.proofs.PieceLemmas.{read_is_piece}
use Rattle.crew_core.proofs.serving.read_piece.Goals as goal

pub returns : goal.returns
returns g c =
    let front = length-take-le 16384 c.args.buffer.now c.if-buffer-lt-PIECE_BYTES.false in
    read_is_piece _ _ _ c.read.new.buffer (omega (arith, c.read.auto.buffer, front)) c.read.ensures.moved
