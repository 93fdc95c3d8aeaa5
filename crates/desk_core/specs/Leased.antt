-- What a contract sees of a list of leases.
use Rattle.std.specs.Prelude.{ℕ, List, length, map, sum_by}
use Rattle.conn_model.specs.declared.event.ConnId.{ConnId}
use Rattle.desk_core.specs.declared.lease.Lease.{Lease}

-- the connections of the leases, and how many leases there is room for
pub record Leased : Type 0 where
  pub ids : List ConnId
  pub room : ℕ

-- the connections that are leased
abbrev pub ids_of : {O : Type 0} → List (Lease O) → List ConnId
ids_of = map (λ lease. lease.id)

-- the leases of all these lists
abbrev pub leases_in : List Leased → ℕ
leases_in = sum_by (λ (l : Leased). length l.ids)
