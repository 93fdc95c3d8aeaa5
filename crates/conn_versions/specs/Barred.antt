-- The servers from which a pick is barred.
use Rattle.std.specs.Prelude.{ℕ, Bool, List, ◌==◌, ◌||◌}
use Rattle.std.specs.List.{list_any}
use Rattle.proxy_types.specs.declared.server.ServerIdentity.{ServerIdentity}
use Rattle.plan_types.specs.declared.plan.Backend.{Backend}
use Rattle.plan_types.specs.declared.plan.Server.{Server}
use Rattle.conn_model.specs.Servers.{is_down}

-- those that are down, where they are checked, and those of some lines
abbrev pub is_barred : List ServerIdentity → List ℕ → Backend → Server → Bool
is_barred down lines backend server = is_down down backend server || list_any (λ line. line == server.line) lines
