-- Servers by their lines.
use Rattle.std.specs.Prelude.{◌≡◌, ℕ, Bool, true, ◌==◌, slice_get, Some}
use Rattle.std.specs.List.{list_any}
use Rattle.plan_types.specs.declared.plan.Backend.{Backend}
use Rattle.plan_types.specs.declared.plan.Plan.{Plan}

-- the backend has the server of that line
abbrev pub has_line : ℕ → Backend → Bool
has_line line backend = list_any (λ server. server.line == line) backend.servers

-- no two backends have servers of one line
abbrev pub LinesDiffer : Plan → Type 0
LinesDiffer plan =
    (line i j : ℕ) (a b : Backend) → slice_get plan.backends i ≡ Some a → slice_get plan.backends j ≡ Some b →
    has_line line a ≡ true → has_line line b ≡ true → a ≡ b
