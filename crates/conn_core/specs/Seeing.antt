-- What rules see of a connection, before a step judges it.
use Rattle.std.specs.Prelude.{ℕ, Some, Ok, slice_get, ◌≡◌}
use Rattle.addr_core.specs.PairValue.{PairValue}
use Rattle.pp_any.specs.declared.rest.Rest.{Rest}
use Rattle.rule_engine.specs.Meaning.{present}
use Rattle.conn_model.specs.declared.event.ConnId.{ConnId}
use Rattle.conn_model.specs.declared.plain.FrontendRows.{FrontendRows}
use Rattle.conn_model.specs.declared.plain.Listener.{Listener}
use Rattle.conn_model.specs.declared.plain.Plain.{Plain}
use Rattle.conn_model.specs.declared.plain.Row.{Row}
use Rattle.conn_model.specs.Answer.{candidate_at, candidate_of, frontend_in, version_at, waiting_row}
use Rattle.conn_model.specs.Rules.{view_of}
use Rattle.conn_model.specs.Tables.{tracks_at}
use Rattle.conn_model.specs.Words.{newest}
use Rattle.conn_rows.specs.Value.{RowsValue}
use Rattle.conn_core.specs.declared.facts.RuleFacts.{RuleFacts}
use Rattle.conn_core.specs.Changes.{Judge}
use Rattle.conn_core.specs.Counts.{IsSeen}
use Rattle.conn_core.specs.Judging.{facts_view, rows_at}

-- the version that judges is one of those that are kept
abbrev pub IsKept : RuleFacts → Type 0
IsKept facts = version_at facts.rows.now.versions facts.version.now.number ≡ Some facts.version.now

-- The connection of that pair comes to that listener next, and rules see of it what its accept is judged by.
pub record SeesNext (p : Plain) (listener : ℕ) (real : PairValue) (facts : RuleFacts) : Type 0 where
  pub at : Listener
  pub own : FrontendRows
  pub listens : slice_get p.listeners listener ≡ Some at
  pub there : slice_get p.frontends at.frontend ≡ Some own
  pub newest_is : newest p.versions ≡ Some facts.version.now
  pub named : frontend_in facts.version.now.plan own.name ≡ Some facts.frontend.now
  pub view : (clock : ℕ) → facts_view facts ≡ view_of (candidate_at p clock at.frontend real own facts.version.now facts.frontend.now) real.source.addr

-- The connection is open, that version judges it by that pair, and rules see that of it at a moment.
pub record SeesOpen (rows : RowsValue) (id : ConnId) (number : ℕ) (judged : PairValue) (moment : ℕ) (facts : RuleFacts) : Type 0 where
  pub judge : Judge rows.frontends rows.versions id number
  pub rows_are : facts.rows.now ≡ rows
  pub moment_is : facts.moment ≡ moment
  pub version_is : facts.version.now ≡ judge.version
  pub frontend_is : facts.frontend.now ≡ judge.frontend
  pub tracks : present facts.own ≡ tracks_at rows.frontends id
  pub source : facts.source ≡ judged.source.addr
  pub view : (state : Plain) → IsSeen id state (rows_at moment rows) → facts_view facts ≡ view_of (candidate_of state id judge.version judge.frontend) judged.source.addr

-- The connection waits for its header, and rules see that of it once its header states that pair.
pub record SeesWaiting (p : Plain) (id : ConnId) (judged : PairValue) (facts : RuleFacts) : Type 0 where
  pub found : Row × Rest
  pub waits : waiting_row p.frontends id ≡ Ok found
  pub judge : Judge p.frontends p.versions id found.0.version
  pub version_is : facts.version.now ≡ judge.version
  pub frontend_is : facts.frontend.now ≡ judge.frontend
  pub view : facts_view facts ≡ view_of (candidate_of p id judge.version judge.frontend) judged.source.addr
