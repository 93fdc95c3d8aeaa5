-- Rows that rules see alike.
use Rattle.std.specs.Prelude.{ℕ, List, ◌≡◌}
use Rattle.std.specs.List.{AllByRecursion}
use Rattle.conn_model.specs.declared.event.ConnId.{ConnId}
use Rattle.conn_model.specs.declared.plain.FrontendRows.{FrontendRows}
use Rattle.conn_model.specs.declared.plain.Plain.{Plain}
use Rattle.proxy_types.specs.declared.server.ServerIdentity.{ServerIdentity}
use Rattle.conn_model.specs.Counts.{open_in, open_named, offered_to, served_by}
use Rattle.conn_model.specs.Tables.{by_counter, open_tracks, tracks_at}
use Rattle.conn_model.specs.Words.{Rise}
use Rattle.conn_rows.specs.Value.{RowsValue}

-- what rules see of a connection in the state is what they see of it in the rows
pub record IsSeen (id : ConnId) (state : Plain) (rows : RowsValue) : Type 0 where
  pub own : open_in state.frontends id.frontend ≡ open_in rows.frontends id.frontend
  pub named : (name : List ℕ) → open_named state.frontends name ≡ open_named rows.frontends name
  pub offered : (name : List ℕ) → offered_to state.frontends name ≡ offered_to rows.frontends name
  pub served : (server : ServerIdentity) → served_by state.frontends server ≡ served_by rows.frontends server
  pub tracks : open_tracks state.frontends ≡ open_tracks rows.frontends
  pub tracked : tracks_at state.frontends id ≡ tracks_at rows.frontends id
  pub tables : state.tables ≡ rows.tables
  pub down : state.down ≡ rows.down

-- the rows are those of the state
pub record IsStateOf (p : Plain) (rows : RowsValue) : Type 0 where
  pub frontends : p.frontends ≡ rows.frontends
  pub versions : p.versions ≡ rows.versions
  pub tables : p.tables ≡ rows.tables
  pub down : p.down ≡ rows.down

-- the serials of the rows rise, and the tracks of each are by counter
pub record IsSorted (own : FrontendRows) : Type 0 where
  pub rise : Rise (λ row. row.serial) own.rows
  pub sorted : AllByRecursion (λ row. by_counter row.tracks ≡ row.tracks) own.rows
