-- The binds of two plans compared.
use Rattle.std.specs.Prelude.{◌↔◌, ℕ, Bool, ◌&&◌, true, false, List, map, flat_map, Contains}
use Rattle.std.specs.List.{list_any, list_all}
use Rattle.std.specs.Str.{bytes_eq}
use Rattle.addr_core.specs.declared.addr.Addr.{Addr}
use Rattle.addr_core.specs.Same.{same_endpoint}
use Rattle.plan_types.specs.declared.plan.Bind.{Bind}
use Rattle.plan_types.specs.declared.plan.Frontend.{Frontend}
use Rattle.plan_types.specs.declared.plan.Plan.{Plan}

-- a bind: the name of its frontend, its address and port, and whether connections begin with a header
pub record BindKey : Type 0 where
  pub frontend : List ℕ
  pub addr : Addr
  pub port : ℕ
  pub accept_proxy : Bool

abbrev pub bind_key : List ℕ → Bind → BindKey
bind_key name bind = record { frontend = name; addr = bind.at.addr; port = bind.at.port; accept_proxy = bind.accept_proxy }

abbrev pub bind_keys_in : Frontend → List BindKey
bind_keys_in frontend = map (bind_key frontend.name) frontend.binds

-- all binds of a plan
abbrev pub bind_keys : Plan → List BindKey
bind_keys plan = flat_map bind_keys_in plan.frontends

-- each bind of either is a bind of the other
abbrev pub SameBinds : Plan → Plan → Type 0
SameBinds a b = (bind : BindKey) → Contains (bind_keys a) bind ↔ Contains (bind_keys b) bind

-- The same as tests, frontend by frontend.

abbrev pub same_flag : Bool → Bool → Bool
same_flag true b = b
same_flag false true = false
same_flag false false = true

abbrev pub same_bind : Bind → Bind → Bool
same_bind a b = same_endpoint a.at b.at && same_flag a.accept_proxy b.accept_proxy

-- the frontend has that name and that bind
abbrev pub has_bind : List ℕ → Bind → Frontend → Bool
has_bind name bind frontend = bytes_eq frontend.name name && list_any (same_bind bind) frontend.binds

abbrev pub has_named_bind : Plan → List ℕ → Bind → Bool
has_named_bind plan name bind = list_any (has_bind name bind) plan.frontends

abbrev pub has_binds_of : Plan → Frontend → Bool
has_binds_of plan frontend = list_all (has_named_bind plan frontend.name) frontend.binds

abbrev pub has_all_binds : Plan → Plan → Bool
has_all_binds plan other = list_all (has_binds_of plan) other.frontends

-- each plan has all binds of the other
abbrev pub same_binds : Plan → Plan → Bool
same_binds a b = has_all_binds a b && has_all_binds b a
