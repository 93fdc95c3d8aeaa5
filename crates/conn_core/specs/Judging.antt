-- What the code judges by, in the words of the definitions.
use Rattle.std.specs.Prelude.{ℕ, Bool, List, max, Option, Result, Ok, Err, ◌+◌, ◌&&◌, option_and_then, option_map, if◌then◌else◌}
use Rattle.std.specs.Option.{option_map_or}
use Rattle.std.specs.Str.{bytes_eq}
use Rattle.addr_core.specs.declared.addr.Addr.{Addr}
use Rattle.addr_core.specs.PairValue.{PairValue}
use Rattle.proxy_types.specs.declared.table.Stores.{Stores}
use Rattle.plan_types.specs.declared.plan.Backend.{Backend}
use Rattle.plan_types.specs.declared.plan.Frontend.{Frontend}
use Rattle.plan_types.specs.declared.track.Track.{Track}
use Rattle.rule_engine.specs.Meaning.{present}
use Rattle.rule_engine.specs.Judging.{TrackSlots}
use Rattle.conn_model.specs.declared.ask.Counts.{Counts}
use Rattle.conn_model.specs.declared.event.ConnId.{ConnId}
use Rattle.conn_model.specs.declared.reply.Cause.{Cause}
use Rattle.conn_model.specs.declared.reply.Cause.TheVariants.{NoServer}
use Rattle.conn_model.specs.declared.reply.Reply.{Reply}
use Rattle.conn_model.specs.declared.plain.TableState.{TableState}
use Rattle.conn_model.specs.Answer.{numbered_server, reply_with, said_of, verdict, NumberedServer}
use Rattle.conn_model.specs.Counts.{open_named, offered_to, served_by}
use Rattle.conn_model.specs.Rules.{RuleView, counted, current_of, total_of}
use Rattle.conn_model.specs.Tables.{open_tracks, table_at}
use Rattle.conn_model.specs.Words.{or_fault}
use Rattle.conn_rows.specs.Value.{rows_passed, RowsValue}
use Rattle.conn_core.specs.Tracking.{ArePossible}
use Rattle.conn_core.specs.declared.facts.RuleFacts.{RuleFacts}
use Rattle.conn_core.specs.declared.judging.ServerVerdict.{ServerVerdict}
use Rattle.conn_core.specs.declared.judging.ServerVerdict.TheVariants.{Assigned, Refused}
use Rattle.conn_model.specs.Servers.{is_down}

-- one more, where the connection comes to the frontend of that name and is not among the rows yet
abbrev pub arrival_in : Bool → List ℕ → List ℕ → ℕ
arrival_in arriving own name = if arriving && bytes_eq own name then 1 else 0

-- the rows as they are at a moment; time does not go back
abbrev pub rows_at : ℕ → RowsValue → RowsValue
rows_at moment rows = rows_passed (max rows.clock moment) rows

-- what rules see of a connection once the step tracked those
abbrev pub facts_view : RuleFacts → List Track → RuleView
facts_view facts made = record {
  source = facts.source;
  version = facts.version.now;
  frontend = facts.frontend.now;
  tables = (rows_at facts.moment facts.rows.now).tables;
  tracks = open_tracks facts.rows.now.frontends;
  own = present facts.own;
  made = made;
  connections = facts.connections;
  named = λ name. open_named facts.rows.now.frontends name + arrival_in facts.arriving facts.name.now name;
  offered = offered_to facts.rows.now.frontends;
  served = served_by facts.rows.now.frontends;
  barred = is_down facts.rows.now.down;
}

-- how many track an address in a table and how often it was tracked, this step included: both are 0 where it is no key
abbrev pub counts_of : RuleView → Addr → TableState → Counts
counts_of v addr table = record { cur = counted (current_of v) addr table; cnt = counted (total_of v) addr table }

-- what the table of a track stores, and the counts of its key
abbrev pub tracked_counts : RuleView → Option Track → Option (Stores × Counts)
tracked_counts v track = option_and_then (λ track. option_map (λ table. (table.table.stores, counts_of v track.key table)) (table_at v.tables track.table)) track

-- the counts of the source in a table, 0 where there is none
abbrev pub source_counts : RuleView → Option TableState → Counts
source_counts v table = option_map_or (counts_of v v.source) table (record { cur = 0; cnt = 0 })

abbrev pub result_of : ServerVerdict → Result NumberedServer Cause
result_of (Assigned number server) = Ok (record { number = number; server = server.now })
result_of (Refused cause) = Err cause

-- the server of a backend that has that number, if one was picked
abbrev pub server_at : Backend → Option ℕ → Result NumberedServer Cause
server_at backend turn = or_fault (NoServer backend.line) (option_and_then (numbered_server backend) turn)

-- the reply to a connection of that judged pair, of which so many bytes of the piece belong to the header, where the
-- step tracked those before
abbrev pub decided : (List Track → RuleView) → Frontend → ConnId → ℕ → PairValue → TrackSlots → Reply
decided views frontend id used judged made =
    let decision = verdict views frontend made in
    reply_with (said_of id used judged decision.result) decision.made

-- the step may track those
abbrev pub AreAllowed : RuleFacts → TrackSlots → Type 0
AreAllowed facts slots = ArePossible (open_tracks facts.rows.now.frontends) (rows_at facts.moment facts.rows.now).tables (present facts.own) facts.source slots
