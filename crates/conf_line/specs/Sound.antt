-- Numbers within their limits.
use Rattle.std.specs.Prelude.{◌≡◌, ℕ, ◌≤◌, ◌<◌, false, Option, IfSome}
use Rattle.proxy_types.specs.declared.limits.TheConstants.{MOST_ENTRIES, MOST_CONNECTIONS, GREATEST_WEIGHT, COUNTERS}
use Rattle.conf_line.specs.declared.statement.ActionWords.{ActionWords}
use Rattle.conf_line.specs.declared.statement.ActionWords.TheVariants as actions
use Rattle.conf_line.specs.declared.statement.LineReading.{LineReading}
use Rattle.conf_line.specs.declared.server.Options.{Options}
use Rattle.conf_line.specs.declared.statement.ServerOption.{ServerOption}
use Rattle.conf_line.specs.declared.statement.ServerOption.TheVariants as options
use Rattle.conf_line.specs.declared.statement.ServerWords.{ServerWords}
use Rattle.conf_line.specs.declared.statement.TheConstants.{MOST_CHECKS, MOST_INTERVAL, MOST_RETRIES}
use Rattle.conf_line.specs.declared.statement.Statement.{Statement}
use Rattle.conf_line.specs.declared.statement.Statement.TheVariants as statements

-- a counter is below 3
abbrev pub IsSoundAction : ActionWords → Type 0
IsSoundAction (actions.Track track) = track.counter < COUNTERS
IsSoundAction event = Unit {0}

abbrev pub IsWithin : ℕ → ℕ → Type 0
IsWithin most number = (1 ≤ number) × (number ≤ most)

abbrev pub IsSoundWeight : Option ℕ → Type 0
IsSoundWeight weight = IfSome weight (λ w. w ≤ GREATEST_WEIGHT)

abbrev pub IsSoundLimit : Option ℕ → Type 0
IsSoundLimit limit = IfSome limit (λ l. l ≤ MOST_CONNECTIONS)

abbrev pub IsSoundInterval : Option ℕ → Type 0
IsSoundInterval inter = IfSome inter (IsWithin MOST_INTERVAL)

abbrev pub AreSoundChecks : Option ℕ → Type 0
AreSoundChecks count = IfSome count (IsWithin MOST_CHECKS)

-- an option that was taken, whether its number exceeds a limit or not
abbrev pub IsSoundOption : ServerOption → Type 0
IsSoundOption (options.Weight weight) = weight ≤ GREATEST_WEIGHT
IsSoundOption (options.Inter ms) = 1 ≤ ms
IsSoundOption (options.Fall count) = 1 ≤ count
IsSoundOption (options.Rise count) = 1 ≤ count
IsSoundOption other = Unit {0}

-- what options say together
abbrev pub AreSoundOptions : Options → Type 0
AreSoundOptions says =
    IsSoundWeight says.weight × IsSoundLimit says.limit × IsSoundInterval says.inter × AreSoundChecks says.fall × AreSoundChecks says.rise

abbrev pub IsSoundServer : ServerWords → Type 0
IsSoundServer server =
    IsSoundWeight server.weight × IsSoundLimit server.limit × IsSoundInterval server.inter × AreSoundChecks server.fall × AreSoundChecks server.rise

abbrev pub IsSoundSize : Option ℕ → Type 0
IsSoundSize size = IfSome size (λ n. 1 ≤ n)

-- the numbers of a line are within their limits
abbrev pub IsSoundStatement : Statement → Type 0
IsSoundStatement statements.Nothing = Unit {0}
IsSoundStatement statements.Global = Unit {0}
IsSoundStatement statements.Defaults = Unit {0}
IsSoundStatement (statements.Frontend name) = Unit {0}
IsSoundStatement (statements.Backend name) = Unit {0}
IsSoundStatement (statements.MaxConn limit) = IsWithin MOST_CONNECTIONS limit
IsSoundStatement (statements.Timeout kind ms) = Unit {0}
IsSoundStatement (statements.Retries count) = count ≤ MOST_RETRIES
IsSoundStatement (statements.Redispatch every) = IfSome every (λ n. n ≤ MOST_RETRIES)
IsSoundStatement (statements.DefaultBackend name) = Unit {0}
IsSoundStatement (statements.Balance method) = Unit {0}
IsSoundStatement (statements.Bind at proxy) = Unit {0}
IsSoundStatement (statements.Acl name test) = Unit {0}
IsSoundStatement (statements.Rule list action when) = IsSoundAction action
IsSoundStatement (statements.UseBackend name when) = Unit {0}
IsSoundStatement (statements.StickTable table) = IsWithin MOST_ENTRIES table.size
IsSoundStatement (statements.Server server) = IsSoundServer server

-- so they are, unless the line exceeds one
abbrev pub IsSoundReading : LineReading → Type 0
IsSoundReading reading = reading.exceeds ≡ false → IsSoundStatement reading.statement
