-- What is kept while it is needed.
use Rattle.std.specs.Prelude.{ℕ, true, List, IsSome, ◌≡◌, ◌<◌}
use Rattle.std.specs.List.{AllByRecursion}
use Rattle.std.specs.Option.{option_map_or}
use Rattle.conn_model.specs.declared.plain.FrontendRows.{FrontendRows}
use Rattle.conn_model.specs.declared.plain.TableState.{TableState}
use Rattle.conn_model.specs.declared.plain.Version.{Version}
use Rattle.conn_model.specs.Answer.{version_at}
use Rattle.conn_model.specs.History.{needed_versions}
use Rattle.conn_model.specs.Tables.{written_tables}
use Rattle.conn_model.specs.Words.{newest}
use Rattle.conn_tables.specs.Tables.{is_listed_in}

-- the newest version, and those of open connections
abbrev pub versions_needed : List FrontendRows → List Version → List Version
versions_needed frontends versions = needed_versions frontends (option_map_or (λ version. version.number) (newest versions) 0) versions

-- the version of each open connection is one of those
abbrev pub AreVersionsKept : List FrontendRows → List Version → Type 0
AreVersionsKept frontends versions = AllByRecursion (λ own. AllByRecursion (λ row. IsSome (version_at versions row.version)) own.rows) frontends

-- each key that an open connection tracks is of a table that one of those versions lists
abbrev pub AreTracksHeld : List FrontendRows → List Version → Type 0
AreTracksHeld frontends versions =
    AllByRecursion (λ own. AllByRecursion (λ row. AllByRecursion (λ track. is_listed_in versions track.table ≡ true) row.tracks) own.rows) frontends

-- the number is above that of each version, and each table began with a version before it
pub record IsNextNumber (number : ℕ) (versions : List Version) (tables : List TableState) : Type 0 where
  pub above : AllByRecursion (λ version. version.number < number) versions
  pub began : AllByRecursion (λ table. table.id.version < number) tables
  pub written : AllByRecursion (λ pair. pair.1.version < number) (written_tables (newest versions))
