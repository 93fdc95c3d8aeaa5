-- What is due of a connection.
use Rattle.std.specs.Prelude.{ℕ, min, true, Option, Some, None, option_map, if◌then◌else◌}
use Rattle.conn_model.specs.declared.settings.Settings.{Settings}
use Rattle.link_core.specs.Idle.{first_end, is_overdue, overdue, retry_pause}
use Rattle.worker_conns.specs.declared.conn.DueAction.{DueAction}
use Rattle.worker_conns.specs.declared.conn.DueAction.TheVariants as dues
use Rattle.worker_conns.specs.declared.conn.ConnStage.{ConnStage}
use Rattle.worker_conns.specs.declared.conn.ConnStage.TheVariants as stages
use Rattle.link_core.specs.declared.idle.Side.{Side}
use Rattle.link_core.specs.declared.idle.Times.{Times}
use Rattle.link_core.specs.declared.idle.WaitedFor.{WaitedFor}

-- The time of a dial begins where it is under way.
abbrev pub dial_begun : ConnStage → Times → ℕ → Times
dial_begun (stages.Server to) times now = record times { server = now }
dial_begun stage times now = times

-- the server while it is dialled, and in the pause before it is dialled again
abbrev pub dialled_side : Times → ℕ → Side
dialled_side times limit = record { is_waited_for = true; since = times.server; limit = limit }

abbrev pub client_side : Settings → Times → WaitedFor → Side
client_side settings times waited_for = record { is_waited_for = waited_for.client; since = times.client; limit = settings.client }

abbrev pub server_side : Settings → Times → WaitedFor → Side
server_side settings times waited_for = record { is_waited_for = waited_for.server; since = times.server; limit = settings.server }

-- Nothing is due while a header is awaited. A dial is over after `timeout connect`, and a pause after its own time. Once there is a
-- link to the server, the side that was silent for too long while it was waited for ends the connection.
abbrev pub due_in : ConnStage → Settings → Times → WaitedFor → ℕ → Option DueAction
due_in stages.Header settings times waited_for now = None
due_in (stages.Server to) settings times waited_for now = if is_overdue now (dialled_side times settings.connect) then Some (dues.DialTimeout to) else None
due_in (stages.Retry to) settings times waited_for now = if is_overdue now (dialled_side times (retry_pause settings.connect)) then Some (dues.Retry to) else None
due_in stages.Bytes settings times waited_for now = option_map dues.End (overdue now (client_side settings times waited_for) (server_side settings times waited_for))

-- When a connection of which nothing is due is to be looked at again: once there is a link to the server, when the first of the
-- sides may be overdue, and before that at any time.
abbrev pub next_look_in : ConnStage → Settings → Times → WaitedFor → ℕ → ℕ
next_look_in stages.Bytes settings times waited_for now = min (first_end now (client_side settings times waited_for)) (first_end now (server_side settings times waited_for))
next_look_in stage settings times waited_for now = 0
