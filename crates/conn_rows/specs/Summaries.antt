-- What is said of one open connection, and of one frontend.
use Rattle.std.specs.Prelude.{ℕ, Bool, List, Option, Some, None, option_map, true, false, length, ◌≡◌}
use Rattle.addr_core.specs.PairValue.{PairValue}
use Rattle.proxy_types.specs.declared.server.ServerIdentity.{ServerIdentity}
use Rattle.conn_model.specs.declared.plain.Phase.{Phase}
use Rattle.conn_model.specs.declared.plain.Phase.TheVariants.{Waiting, Offered, Up}
use Rattle.conn_model.specs.declared.plain.Row.{Row}
use Rattle.conn_model.specs.Answer.{awaits_server, offer_in}
use Rattle.conn_model.specs.declared.plain.FrontendRows.{FrontendRows}
use Rattle.conn_rows.specs.declared.row.PendingOffer.{PendingOffer}
use Rattle.conn_rows.specs.declared.row.RowSummary.{RowSummary}
use Rattle.conn_rows.specs.declared.row.Stage.{Stage}
use Rattle.conn_rows.specs.declared.row.Stage.TheVariants as stages
use Rattle.conn_rows.specs.declared.row.ServerChoice.{ServerChoice}
use Rattle.conn_rows.specs.declared.row.ServerNames.{ServerNames}
use Rattle.conn_rows.specs.declared.row.StoredRow.{StoredRow}
use Rattle.conn_rows.specs.Stored.{awaits, waits}
use Rattle.conn_rows.specs.declared.rows.FrontendSummary.{FrontendSummary}

abbrev pub is_waiting : Phase → Bool
is_waiting (Waiting rest) = true
is_waiting (Offered assignment) = false
is_waiting (Up assignment) = false

abbrev pub summary_of : Row → RowSummary
summary_of row = record { version = row.version; real = row.real; accepted = row.accepted; waits = is_waiting row.phase; awaits_server = awaits_server row.phase }

abbrev pub stored_summary : StoredRow → RowSummary
stored_summary row = record { version = row.version; real = row.real; accepted = row.accepted; waits = waits row.stage; awaits_server = awaits row.stage }

-- what a connection was offered whose server did not take it yet: the version that judges it, the line of the server, the
-- judged pair, and the lines of the servers that were out of reach before
abbrev pub pending_of : Row → Option (ℕ × ℕ × PairValue × List ℕ)
pending_of row = option_map (λ given. (row.version, given.line, given.judged, given.failed)) (offer_in row.phase)

abbrev pub pending_in : PendingOffer → ℕ × ℕ × PairValue × List ℕ
pending_in pending = (pending.version, pending.line, pending.judged, pending.failed.now)

abbrev pub pending_at : Bool → ℕ → ServerChoice → List ℕ → Option (ℕ × ℕ × PairValue × List ℕ)
pending_at true version seat failed = None
pending_at false version seat failed = Some (version, seat.line, seat.judged, failed)

abbrev pub offered_stage : ℕ → Stage → Option (ℕ × ℕ × PairValue × List ℕ)
offered_stage version (stages.Waiting rest) = None
offered_stage version (stages.Offered held) = pending_at held.is_up version held.seat held.failed.items

abbrev pub stored_pending : StoredRow → Option (ℕ × ℕ × PairValue × List ℕ)
stored_pending row = offered_stage row.version row.stage

-- the names of a server: its backend's and its own
abbrev pub names_of : ServerIdentity → List ℕ × List ℕ
names_of server = (server.backend, server.name)

abbrev pub names_in : ServerNames → List ℕ × List ℕ
names_in names = (names.backend.now, names.server.now)

pub record Sums (own : FrontendRows) (summary : FrontendSummary) : Type 0 where
  pub name : summary.name.now ≡ own.name
  pub serial : summary.serial ≡ own.serial
  pub connections : summary.connections ≡ length own.rows
