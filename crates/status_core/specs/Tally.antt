-- What is counted of the records.
use Rattle.std.specs.Prelude.{ℕ, Bool, true, false, List, min, ◌+◌, ◌-◌, ◌^◌}
use Rattle.std.specs.List.{fold}
use Rattle.pp_any.specs.declared.fault.HeaderFault.{HeaderFault}
use Rattle.pp_any.specs.declared.fault.HeaderFault.TheVariants as faults
use Rattle.conn_model.specs.declared.event.Health.{Health}
use Rattle.conn_model.specs.declared.event.Health.TheVariants as healths
use Rattle.conn_model.specs.declared.event.OwnedEvent.{OwnedEvent}
use Rattle.conn_model.specs.declared.event.OwnedEvent.TheVariants as events
use Rattle.conn_model.specs.declared.event.Why.{Why}
use Rattle.conn_model.specs.declared.event.Why.TheVariants as whys
use Rattle.conn_model.specs.declared.reply.Cause.{Cause}
use Rattle.conn_model.specs.declared.reply.Cause.TheVariants as causes
use Rattle.conn_model.specs.declared.reply.Said.{Said}
use Rattle.conn_model.specs.declared.reply.Said.TheVariants as saids
use Rattle.record_core.specs.declared.record.Record.{Record}
use Rattle.status_core.specs.declared.counts.Closes.{Closes}
use Rattle.status_core.specs.declared.counts.HeaderFaults.{HeaderFaults}
use Rattle.status_core.specs.declared.counts.Reports.{Reports}
use Rattle.status_core.specs.declared.decisions.Decisions.{Decisions}

-- a count that stays at the greatest number once it is there
abbrev pub raised_by : ℕ → ℕ → ℕ
raised_by more count = min (count + more) (2 ^ 64 - 1)

abbrev pub raised : ℕ → ℕ
raised count = raised_by 1 count

-- one connection more was closed, for that reason
abbrev pub with_close : Why → Closes → Closes
with_close whys.Done c = record c { done = raised c.done }
with_close whys.Fault c = record c { fault = raised c.fault }
with_close whys.Stopped c = record c { stopped = raised c.stopped }
with_close whys.Failed c = record c { failed = raised c.failed }
with_close whys.ClientTimeout c = record c { client_timeout = raised c.client_timeout }
with_close whys.ServerTimeout c = record c { server_timeout = raised c.server_timeout }

-- one header more had that fault
abbrev pub with_fault : HeaderFault → HeaderFaults → HeaderFaults
with_fault faults.NotProxy f = record f { not_proxy = raised f.not_proxy }
with_fault faults.TooLong f = record f { too_long = raised f.too_long }
with_fault faults.BadLine f = record f { bad_line = raised f.bad_line }
with_fault faults.BadAddress f = record f { bad_address = raised f.bad_address }
with_fault faults.BadPort f = record f { bad_port = raised f.bad_port }
with_fault faults.BadVersion f = record f { bad_version = raised f.bad_version }
with_fault faults.BadCommand f = record f { bad_command = raised f.bad_command }
with_fault faults.BadFamily f = record f { bad_family = raised f.bad_family }
with_fault faults.ShortBlock f = record f { short_block = raised f.short_block }

-- one server more was reported so
abbrev pub with_report : Health → Reports → Reports
with_report healths.Down r = record r { down = raised r.down }
with_report healths.Up r = record r { up = raised r.up }

-- one connection more was refused; those that a line decided are counted by their lines
abbrev pub with_refusal : Cause → Decisions → Decisions
with_refusal (causes.Line line) d = d
with_refusal (causes.Header fault) d = record d { header_faults = with_fault fault d.header_faults }
with_refusal causes.Expired d = record d { expired = raised d.expired }
with_refusal (causes.NoBackend line) d = d
with_refusal (causes.NoServer line) d = d

-- one connection more was offered a server: its first one, or another after one that was out of reach
abbrev pub with_offer : Bool → Decisions → Decisions
with_offer false d = record d { offered = raised d.offered }
with_offer true d = record d { moved = raised d.moved }

-- the event says that a server is out of reach
abbrev pub is_failure : OwnedEvent → Bool
is_failure (events.ConnectFailed id) = true
is_failure event = false

-- that was said, to an event that says so or not
abbrev pub with_said : Bool → Said → Decisions → Decisions
with_said failed (saids.Wait id used) d = d
with_said failed (saids.Offer id used line server to judged send) d = with_offer failed d
with_said failed (saids.Refuse id used cause) d = with_refusal cause d
with_said failed (saids.Up id) d = record d { connected = raised d.connected }
with_said failed (saids.Closed id why) d = record d { closes = with_close why d.closes }
with_said failed (saids.Reloaded version) d = d
with_said failed (saids.Marked line health) d = record d { reports = with_report health d.reports }

-- one record more
abbrev pub counted : Decisions → Record → Decisions
counted d r = with_said (is_failure r.event) r.reply.said d

-- and several, one after the other
abbrev pub all_counted : Decisions → List Record → Decisions
all_counted d records = fold counted d records
