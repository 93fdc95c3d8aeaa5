-- How a list of rules decides.
use Rattle.std.specs.Prelude.{ℕ, Bool, min, List, [], ◌++◌, ◌+◌, ◌==◌, find, slice_get, is_none, Option, Some, None, option_map, option_and_then, if◌then◌else◌}
use Rattle.std.specs.Option.{option_map_or, option_or}
use Rattle.addr_core.specs.declared.addr.Addr.{Addr}
use Rattle.proxy_types.specs.declared.server.ServerIdentity.{ServerIdentity}
use Rattle.proxy_types.specs.declared.table.Stores.{Stores}
use Rattle.stick_core.specs.Key.{key_in}
use Rattle.stick_core.specs.PlainEntries.{count_in, tracked_key}
use Rattle.acl_core.specs.declared.criterion.Criterion.{Criterion}
use Rattle.acl_core.specs.declared.criterion.Criterion.TheVariants as criteria
use Rattle.acl_core.specs.declared.criterion.Value.{Value}
use Rattle.acl_core.specs.declared.criterion.Value.TheVariants as values
use Rattle.acl_core.specs.Truth.{applies}
use Rattle.rule_engine.specs.Meaning.{SceneMeaning}
use Rattle.rule_engine.specs.declared.judging.Judged.{Judged}
use Rattle.rule_engine.specs.declared.judging.Verdict.{Verdict}
use Rattle.rule_engine.specs.declared.judging.Verdict.TheVariants as verdicts
use Rattle.plan_types.specs.Tables.{table_number}
use Rattle.plan_types.specs.declared.plan.Backend.{Backend}
use Rattle.plan_types.specs.declared.plan.Frontend.{Frontend}
use Rattle.plan_types.specs.declared.plan.Server.{Server}
use Rattle.plan_types.specs.declared.track.TableId.{TableId}
use Rattle.plan_types.specs.declared.track.Track.{Track}
use Rattle.conn_model.specs.declared.event.ConnId.{ConnId}
use Rattle.conn_model.specs.declared.plain.TableState.{TableState}
use Rattle.conn_model.specs.declared.plain.Version.{Version}
use Rattle.conn_model.specs.declared.plain.Plain.{Plain}
use Rattle.conn_model.specs.Servers.{is_down}
use Rattle.conn_model.specs.Counts.{open_in, open_named, offered_to, served_by}
use Rattle.conn_model.specs.Tables.{open_tracks, table_at, trackers, tracks_at}

-- Where a connection is judged: in a state in which it is one of the rows, by a frontend of a version
-- of the configuration.
pub record Candidate : Type 0 where
  pub state : Plain
  pub version : Version
  pub frontend : Frontend
  pub id : ConnId

-- What rules, and the choice of a server, see of a connection.
pub record RuleView : Type 0 where
  -- the source that is judged
  pub source : Addr
  pub version : Version
  pub frontend : Frontend
  pub tables : List TableState
  -- what open connections track, and what this one does, both before the step; and what the step tracks so far
  pub tracks : List Track
  pub own : List Track
  pub made : List Track
  -- how many connections are open: of its frontend, of those of a name, of those that were offered a server of the
  -- backend of a name, and of those that were offered a server
  pub connections : ℕ
  pub named : List ℕ → ℕ
  pub offered : List ℕ → ℕ
  pub served : ServerIdentity → ℕ
  -- which servers may not be chosen
  pub barred : Backend → Server → Bool

-- a candidate of that source, where the step tracked those so far
abbrev pub view_of : Candidate → Addr → List Track → RuleView
view_of candidate source made = record {
  source = source;
  version = candidate.version;
  frontend = candidate.frontend;
  tables = candidate.state.tables;
  tracks = open_tracks candidate.state.frontends;
  own = tracks_at candidate.state.frontends candidate.id;
  made = made;
  connections = open_in candidate.state.frontends candidate.id.frontend;
  named = open_named candidate.state.frontends;
  offered = offered_to candidate.state.frontends;
  served = served_by candidate.state.frontends;
  barred = is_down candidate.state.down;
}

-- Tables in a view.

-- what the connection tracks by a counter, this step included
abbrev pub own_track : RuleView → ℕ → Option Track
own_track v counter = find (λ track. track.counter == counter) (v.own ++ v.made)

-- the table of that number in the version
abbrev pub numbered_table : RuleView → ℕ → Option TableState
numbered_table v number = option_and_then (table_at v.tables) (slice_get v.version.tables number)

-- the table that a criterion means
abbrev pub named_table : RuleView → Option (List ℕ) → Option TableState
named_table v name = option_and_then (numbered_table v) (table_number v.version.plan.tables v.frontend.name name)

-- how many track a key of a table
abbrev pub current_of : RuleView → TableState → Addr → ℕ
current_of v table key = trackers (v.tracks ++ v.made) table.id key

-- and how often it was tracked
abbrev pub total_of : RuleView → TableState → Addr → ℕ
total_of v table key = min 0xFFFF_FFFF_FFFF_FFFF (count_in key table.entries + trackers v.made table.id key)

-- the count of an address in a table: 0 where it is no key of it
abbrev pub counted : (TableState → Addr → ℕ) → Addr → TableState → ℕ
counted count addr table = option_map_or (count table) (key_in table.table.kind addr) 0

-- the count of what the connection tracks by a counter, where the table stores it
abbrev pub tracked_value : RuleView → (Stores → Bool) → (TableState → Addr → ℕ) → Option Track → Value
tracked_value v is_stored count None = values.Absent
tracked_value v is_stored count (Some track) =
    option_map_or (λ table. if is_stored table.table.stores then values.Number (counted count track.key table) else values.Absent)
    (table_at v.tables track.table) values.Absent

-- the count of the source in a table
abbrev pub source_value : RuleView → (TableState → Addr → ℕ) → Option TableState → Value
source_value v count table = values.Number (option_map_or (counted count v.source) table 0)

-- the value of a criterion in the view
abbrev pub worth : RuleView → Criterion → Value
worth v criteria.Source = values.Source v.source
worth v (criteria.TrackedConnections counter) = tracked_value v (λ stores. stores.cur) (current_of v) (own_track v counter)
worth v (criteria.TrackedTotal counter) = tracked_value v (λ stores. stores.cnt) (total_of v) (own_track v counter)
worth v (criteria.SourceConnections name) = source_value v (current_of v) (named_table v name)
worth v (criteria.SourceTotal name) = source_value v (total_of v) (named_table v name)
worth v (criteria.FrontendConnections None) = values.Number v.connections
worth v (criteria.FrontendConnections (Some name)) = values.Number (v.named name)
worth v (criteria.BackendConnections name) = values.Number (v.offered name)

-- the key under which a table would track the source, if it can be listed
abbrev pub key_in_table : RuleView → TableState → Option (TableId × Addr)
key_in_table v table =
    option_map (λ key. (table.id, key)) (tracked_key (trackers v.tracks table.id) table.table.kind table.table.size table.entries v.source)

-- What a track in the table of that number would track. All tracks of a step are of one source, so of one key in each
-- table: what the step tracks already takes no place from it.
abbrev pub key_of : RuleView → ℕ → Option (TableId × Addr)
key_of v number = option_and_then (key_in_table v) (numbered_table v number)

-- a connection before rules, by its views once the step tracked a list
abbrev pub scene_of : (List Track → RuleView) → SceneMeaning
scene_of views = record {
  is_free = λ counter. is_none (own_track (views []) counter);
  acls = (views []).frontend.acls;
  worth = λ made. worth (views made);
  key = λ made. key_of (views made);
}

abbrev pub reject_line : Verdict → ℕ → Option ℕ
reject_line verdicts.Accept line = None
reject_line verdicts.Reject line = Some line
reject_line verdicts.On line = None

-- the line that rejects the connection, if the list does
abbrev pub rejection : Judged → Option ℕ
rejection says = reject_line says.verdict says.line

-- the number of the backend: that of the first `use_backend` line that applies, or else the default one
abbrev pub backend_for : (Criterion → Value) → Frontend → Option ℕ
backend_for worth frontend = option_or (option_map (λ choice. choice.backend) (find (λ choice. applies frontend.acls worth choice.when) frontend.choices)) frontend.default
