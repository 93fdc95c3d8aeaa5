use Rattle.conn_model.proofs.Goes.{legal_first, legal_rest, legal_both}
use Rattle.conn_model.proofs.laws.legal_in_parts.Goals as goal

pub returns : goal.returns
returns c = record { first = legal_first; rest = legal_rest; whole = legal_both }
