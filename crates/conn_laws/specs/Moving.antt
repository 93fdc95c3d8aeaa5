-- The servers that a connection is offered, one after another.
use Rattle.std.specs.Prelude.{ℕ, List, [], ◌∷◌, ◌++◌, if◌then◌else◌}
use Rattle.conn_model.specs.declared.event.ConnId.{ConnId}
use Rattle.conn_model.specs.declared.reply.Said.{Said}
use Rattle.conn_model.specs.declared.reply.Said.TheVariants as saids
use Rattle.conn_model.specs.History.{speaks_to, Entry}

-- the line of the server that a reply offers
abbrev pub line_offered : Said → List ℕ
line_offered (saids.Offer id used line server to judged send) = line ∷ []
line_offered said = []

-- the lines of the servers that a connection was offered, the first one first
abbrev pub lines_offered : ConnId → List Entry → List ℕ
lines_offered id [] = []
lines_offered id (e ∷ h) = lines_offered id h ++ (if speaks_to id.frontend id.serial e.reply.said then line_offered e.reply.said else [])
