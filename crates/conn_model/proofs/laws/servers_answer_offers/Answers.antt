use Rattle.conn_model.specs.declared.event.Why.TheVariants.{Failed}
use Rattle.conn_model.specs.declared.reply.Said.TheVariants.{Up, Closed}
use Rattle.conn_model.specs.History.{after}
use Rattle.conn_model.proofs.Offers.{failure_answers, failure_answers_only, server_answers, server_answers_only}
use Rattle.conn_model.proofs.laws.servers_answer_offers.Goals as goal

pub returns : goal.returns
returns c = record {
  connected = λ p h moment id row assignment there phase. server_answers (after p h) id (Up id) row assignment there phase;
  failed = λ p h moment id row assignment there phase. failure_answers (after p h) id row assignment there phase;
  only_connected = λ p h moment id reply answer. server_answers_only (after p h) id (Up id) reply answer;
  only_failed = λ p h moment id reply answer. failure_answers_only (after p h) id reply answer;
}
