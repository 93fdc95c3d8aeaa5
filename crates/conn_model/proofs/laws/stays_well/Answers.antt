use Rattle.conn_model.proofs.Well.{after-nil, opening_well, well_after}
use Rattle.conn_model.proofs.laws.stays_well.Goals as goal

pub returns : goal.returns
returns c = record { opens = opening_well; keeps = well_after; nothing = after-nil }
