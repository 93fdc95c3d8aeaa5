use Rattle.conn_model.specs.History.{after}
use Rattle.conn_laws.proofs.Offered.{at_accept, at_piece, nothing_else, tracks_nothing, waits, waits_on, at_failure}
use Rattle.conn_laws.proofs.laws.offered_exactly_when.Goals as goal

pub returns : goal.returns
returns c = record {
  at_accept = at_accept;
  waits = waits;
  at_piece = at_piece;
  waits_on = waits_on;
  at_failure = at_failure;
  nothing_else = λ p h. nothing_else (after p h);
  tracks_nothing = λ p h. tracks_nothing (after p h);
}
