use Rattle.conn_model.proofs.Marks.{loads_unchecked, load_unbarred}
use Rattle.conn_model.proofs.laws.unchecked_servers_are_up.Goals as goal

pub returns : goal.returns
returns c = record { loads = loads_unchecked; load = load_unbarred }
