-- The versions that are kept, and the open connections of their servers.
use Rattle.std.specs.Prelude.{ℕ, Bool, List, Option, find, option_and_then, option_map, slice_get, ◌≡◌, ◌==◌, Some}
use Rattle.std.specs.List.{AllByRecursion}
use Rattle.proxy_types.specs.declared.server.ServerIdentity.{ServerIdentity}
use Rattle.slot_core.specs.declared.slots.Count.{Count}
use Rattle.slot_core.specs.Counts.{open_of}
use Rattle.plan_types.specs.declared.plan.Backend.{Backend}
use Rattle.plan_types.specs.declared.plan.Server.{Server}
use Rattle.plan_types.specs.Lines.{has_line}
use Rattle.plan_types.specs.Sound.{IsSoundPlan}
use Rattle.conn_model.specs.declared.plain.Version.{Version}
use Rattle.conn_model.specs.Answer.{version_at}
use Rattle.conn_model.specs.Servers.{identity_in}

pub record VersionsValue : Type 0 where
  -- by number, the newest last
  pub versions : List Version
  -- the open connections of each server, through all versions
  pub counts : List Count
  -- how many open connections each of the versions judges
  pub judged : List ℕ

-- each version has a plan as plans are made
abbrev pub AreSound : List Version → Type 0
AreSound versions = AllByRecursion (λ version. IsSoundPlan version.plan) versions

-- how many connections to a server are open
abbrev pub open_to : List Count → ServerIdentity → ℕ
open_to counts identity = open_of identity counts

-- how many connections to the server of that number in a backend are open, by the server, if there is one
abbrev pub connections_in : (ServerIdentity → ℕ) → Option Backend → ℕ → Option ℕ
connections_in served backend number =
    option_and_then (λ found. option_map (λ server. served (identity_in found server)) (slice_get found.servers number)) backend

abbrev pub has_number : ℕ → Version → Bool
has_number number version = version.number == number

-- the version of that number has a server of that line, with that number in its backend
pub record HasServer (versions : List Version) (version line number : ℕ) : Type 0 where
  pub kept : Version
  pub backend : Backend
  pub server : Server
  pub version_is : version_at versions version ≡ Some kept
  pub backend_is : find (has_line line) kept.plan.backends ≡ Some backend
  pub server_is : slice_get backend.servers number ≡ Some server
