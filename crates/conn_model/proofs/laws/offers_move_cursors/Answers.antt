use Rattle.conn_model.proofs.Cursors.{other_cursors, own_cursor, turn_used}
use Rattle.conn_model.proofs.laws.offers_move_cursors.Goals as goal

pub returns : goal.returns
returns c = record { own = own_cursor; others = other_cursors; turn = turn_used }
