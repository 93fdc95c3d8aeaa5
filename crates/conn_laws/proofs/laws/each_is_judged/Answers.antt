use Rattle.conn_model.specs.History.{after}
use Rattle.conn_laws.proofs.Judged.{accept_judged, piece_judged}
use Rattle.conn_laws.proofs.Present.{arrivals, waiters}
use Rattle.conn_laws.proofs.laws.each_is_judged.Goals as goal

pub returns : goal.returns
returns c = record {
  arrivals = arrivals;
  waiters = waiters;
  accepts = λ p h. accept_judged (after p h);
  pieces = λ p h. piece_judged (after p h);
}
