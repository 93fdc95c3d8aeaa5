-- Which listener of a frontend takes a connection.
use Rattle.std.specs.Prelude.{◌≡◌, ℕ, Bool, true, false, ◌==◌, ◌&&◌, ◌≤◌, ◌<◌, List, Option, Some, None, slice_get, if◌then◌else◌}
use Rattle.std.specs.List.{position}
use Rattle.std.specs.Str.{bytes_eq}
use Rattle.addr_core.specs.declared.addr.Addr.{Addr}
use Rattle.addr_core.specs.declared.addr.Addr.TheVariants.{V4, V6}
use Rattle.addr_core.specs.declared.addr.Endpoint.{Endpoint}
use Rattle.addr_core.specs.PairValue.{PairValue}
use Rattle.addr_core.specs.Same.{same_endpoint}
use Rattle.conn_model.specs.declared.plain.FrontendRows.{FrontendRows}
use Rattle.conn_model.specs.declared.plain.Listener.{Listener}
use Rattle.conn_model.specs.declared.plain.Plain.{Plain}

-- all addresses of a family
abbrev pub is_any : Addr → Bool
is_any (V4 number) = number == 0
is_any (V6 number) = number == 0

abbrev pub is_same_family : Addr → Addr → Bool
is_same_family (V4 a) (V4 b) = true
is_same_family (V4 a) (V6 b) = false
is_same_family (V6 a) (V4 b) = false
is_same_family (V6 a) (V6 b) = true

-- bound to all addresses of the family with that port
abbrev pub takes_all : Endpoint → Endpoint → Bool
takes_all at local = (at.port == local.port) && (is_any at.addr && is_same_family at.addr local.addr)

-- how well a listener takes connections to an address: it is bound to that one, or to all of the family with that port, or
-- to neither
abbrev pub fit : Endpoint → Endpoint → ℕ
fit at local = if same_endpoint at local then 2 else if takes_all at local then 1 else 0

-- of the listeners of that frontend, that is the first of those that fit the address best
pub record IsBest (listeners : List Listener) (frontend : ℕ) (local : Endpoint) (number : ℕ) (at : Listener) : Type 0 where
  pub there : slice_get listeners number ≡ Some at
  pub of_frontend : at.frontend ≡ frontend
  pub best : (other : ℕ) (listener : Listener) → slice_get listeners other ≡ Some listener → listener.frontend ≡ frontend → fit listener.at local ≤ fit at.at local
  pub first : (other : ℕ) (listener : Listener) → other < number → slice_get listeners other ≡ Some listener → listener.frontend ≡ frontend → fit listener.at local < fit at.at local

-- the same of those before a place
pub record IsBestBefore (listeners : List Listener) (frontend : ℕ) (local : Endpoint) (place number : ℕ) : Type 0 where
  pub at : Listener
  pub before : number < place
  pub there : slice_get listeners number ≡ Some at
  pub of_frontend : at.frontend ≡ frontend
  pub best : (other : ℕ) (listener : Listener) → other < place → slice_get listeners other ≡ Some listener → listener.frontend ≡ frontend → fit listener.at local ≤ fit at.at local
  pub first : (other : ℕ) (listener : Listener) → other < number → slice_get listeners other ≡ Some listener → listener.frontend ≡ frontend → fit listener.at local < fit at.at local

-- or there is none before it
abbrev pub IsBestOf : List Listener → ℕ → Endpoint → ℕ → Option ℕ → Type 0
IsBestOf listeners frontend local place None = (other : ℕ) (listener : Listener) → other < place → slice_get listeners other ≡ Some listener → listener.frontend ≡ frontend → ⊥
IsBestOf listeners frontend local place (Some number) = IsBestBefore listeners frontend local place number

-- no frontend has the name
abbrev pub HasNone : Plain → List ℕ → Type 0
HasNone p name = position (λ own. bytes_eq own.name name) p.frontends ≡ None

-- that listener takes the connection of a pair for the frontend of a name
pub record Takes (p : Plain) (name : List ℕ) (real : PairValue) (number : ℕ) : Type 0 where
  pub frontend : ℕ
  pub own : FrontendRows
  pub at : Listener
  pub there : slice_get p.frontends frontend ≡ Some own
  pub named : bytes_eq own.name name ≡ true
  pub is_best : IsBest p.listeners frontend real.destination number at
