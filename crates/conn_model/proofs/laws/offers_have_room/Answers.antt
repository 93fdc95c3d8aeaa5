use Rattle.conn_model.proofs.Offers.{offer_identity, offered_with_room}
use Rattle.conn_model.proofs.laws.offers_have_room.Goals as goal

pub returns : goal.returns
returns c = record { room = offered_with_room; counted = offer_identity }
