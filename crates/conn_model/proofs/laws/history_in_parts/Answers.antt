use Rattle.std.proofs.Common.{ap}
use Rattle.conn_model.specs.Answer.{answer_in}
use Rattle.conn_model.specs.Counts.{counts_in}
use Rattle.conn_model.proofs.Goes.{whole_in_parts}
use Rattle.conn_model.proofs.laws.history_in_parts.Goals as goal

pub returns : goal.returns
returns c = record {
  states = whole_in_parts;
  answers = λ p well g h moment event legal. ap (λ q. answer_in q moment event) (whole_in_parts p well g h legal);
  counted = λ p well g h ask legal. ap (λ q. counts_in q ask) (whole_in_parts p well g h legal);
}
