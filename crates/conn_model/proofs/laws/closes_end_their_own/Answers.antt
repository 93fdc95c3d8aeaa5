use Rattle.conn_model.specs.History.{after}
use Rattle.conn_model.proofs.Offers.{closes, only_closes}
use Rattle.conn_model.proofs.laws.closes_end_their_own.Goals as goal

pub returns : goal.returns
returns c = record {
  closed = λ p h. closes (after p h);
  only_closed = λ p h. only_closes (after p h);
}
