use Rattle.conn_model.proofs.Joined.{decides_joined, holds_joined}
use Rattle.conn_model.proofs.laws.pieces_are_judged_joined.Goals as goal

pub returns : goal.returns
returns c = record { holds = holds_joined; decides = decides_joined }
