use Rattle.conn_model.specs.History.{after}
use Rattle.conn_model.proofs.Reloads.{reload_follows}
use Rattle.conn_model.proofs.laws.reloads_follow.Goals as goal

pub returns : goal.returns
returns c = λ p h moment text reply is. reload_follows (after p h) moment text reply is
