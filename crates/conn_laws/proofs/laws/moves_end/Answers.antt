use Rattle.conn_laws.proofs.Moves.{lines_differ, moves_left, most_offers}
use Rattle.conn_laws.proofs.laws.moves_end.Goals as goal

pub returns : goal.returns
returns c = record {
  differ = lines_differ;
  fewer = moves_left;
  most = most_offers;
}
