-- What an event on an open connection leaves of the pass and of the lease.
use Rattle.std.specs.Prelude.{◌≡◌, ℕ, true, false, Option, if◌then◌else◌}
use Rattle.book_core.specs.Book.{BookState}
use Rattle.book_core.specs.Open.{connections_ended, connections_opened}
use Rattle.conn_model.specs.declared.event.ConnId.{ConnId}
use Rattle.conn_model.specs.declared.event.OwnedEvent.{OwnedEvent}
use Rattle.conn_model.specs.declared.reply.Said.{Said}
use Rattle.conn_model.specs.History.{is_last}
use Rattle.desk_core.specs.Calls.{IsAnswered, IsRefused, PassState}
use Rattle.desk_core.specs.declared.lease.Drive.{Drive}
use Rattle.desk_core.specs.declared.lease.Drive.TheVariants as drives
use Rattle.conn_model.specs.declared.event.OwnedEvent.TheVariants as owned
use Rattle.desk_core.specs.declared.lease.DriveResult.{DriveResult}
use Rattle.desk_core.specs.declared.lease.DriveResult.TheVariants.{Goes, Over, Failed}

-- what is driven on a connection, as an event
abbrev pub driven_event : ConnId → Drive → OwnedEvent
driven_event id (drives.Piece bytes) = owned.Piece id bytes.now
driven_event id drives.Connected = owned.Connected id
driven_event id drives.ConnectFailed = owned.ConnectFailed id
driven_event id drives.Expire = owned.Expire id

-- The lease comes back unless the reply is a last one, and after a fault, with the pass unchanged.
abbrev pub IsDriven : {O : Type 0} → Option BookState → PassState → PassState → ℕ → OwnedEvent → ConnId → DriveResult O → Type 0
IsDriven named old new moment event id (Goes receipt lease) = IsAnswered named old new moment event receipt × (is_last receipt.reply.said ≡ false) × (lease.id ≡ id)
IsDriven named old new moment event id (Over receipt) = IsAnswered named old new moment event receipt × (is_last receipt.reply.said ≡ true)
IsDriven named old new moment event id (Failed fault lease) = IsRefused named moment event fault × (new ≡ old) × (lease.id ≡ id)

-- the event opens no connection, and ends one where the reply is a last one
abbrev pub EndsOnly : OwnedEvent → Type 0
EndsOnly event = (said : Said) → (connections_opened event said ≡ 0) × (connections_ended event said ≡ (if is_last said then 1 else 0))
