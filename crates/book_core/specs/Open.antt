-- How many connections are open more or fewer after an answer.
use Rattle.std.specs.Prelude.{◌≡◌, ℕ, Some, if◌then◌else◌}
use Rattle.conn_model.specs.Counts.{counts_in}
use Rattle.conn_model.specs.History.{is_last, leaves_open}
use Rattle.conn_model.specs.declared.ask.Ask.{Ask}
use Rattle.conn_model.specs.declared.ask.Counts.{Counts}
use Rattle.conn_model.specs.declared.event.OwnedEvent.{OwnedEvent}
use Rattle.conn_model.specs.declared.event.OwnedEvent.TheVariants.{Accept, Piece, Connected, ConnectFailed, Close, Expire, Reload, Mark}
use Rattle.conn_model.specs.declared.plain.Plain.{Plain}
use Rattle.conn_model.specs.declared.reply.Said.{Said}

-- whatever is asked for, no connection is counted there
abbrev pub IsNothingCounted : Plain → Type 0
IsNothingCounted p = (ask : Ask) (counts : Counts) → counts_in p ask ≡ Some counts → counts.cur ≡ 0

-- an accept opens a connection where it has to wait or is offered a server
abbrev pub connections_opened : OwnedEvent → Said → ℕ
connections_opened (Accept listener real) said = if leaves_open said then 1 else 0
connections_opened event said = 0

-- another event of a connection ends it where the reply is a last one
abbrev pub connections_ended : OwnedEvent → Said → ℕ
connections_ended (Accept listener real) said = 0
connections_ended (Piece id bytes) said = if is_last said then 1 else 0
connections_ended (Connected id) said = if is_last said then 1 else 0
connections_ended (ConnectFailed id) said = if is_last said then 1 else 0
connections_ended (Close id why) said = if is_last said then 1 else 0
connections_ended (Expire id) said = if is_last said then 1 else 0
connections_ended (Reload text) said = 0
connections_ended (Mark backend n health) said = 0
