-- How many of the connections that are stored are open.
use Rattle.std.specs.Prelude.{ℕ, List, length, if◌then◌else◌}
use Rattle.std.specs.Str.{bytes_eq}
use Rattle.conn_rows.specs.Stored.{StoredFrontend}

-- of a frontend, if it has the name
abbrev pub open_stored : List ℕ → StoredFrontend → ℕ
open_stored name own = if bytes_eq own.name name then length own.rows else 0
