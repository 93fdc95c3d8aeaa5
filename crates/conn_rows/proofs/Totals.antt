-- Totals over the frontends as they are stored.
use Rattle.std.proofs.Common.{◌≡◌, ℕ, ◌≤◌, List, [], ◌∷◌, length, map, refl, sym, ap, arith}
use Rattle.std.specs.Prelude.{if◌then◌else◌}
use Rattle.std.specs.Str.{bytes_eq}
use Rattle.std.proofs.lemmas.List.{length-map}
use Rattle.conn_model.specs.declared.plain.Version.{Version}
use Rattle.conn_model.proofs.Totals.{total-map}
use Rattle.conn_rows.specs.declared.row.StoredRow.{StoredRow}
use Rattle.conn_rows.specs.Stored.{StoredFrontend, plain_frontend, plain_row}
use Rattle.conn_model.specs.Counts.{open_if, open_named, total}
use Rattle.plan_types.specs.declared.plan.Frontend.{Frontend}
use Rattle.proxy_types.specs.declared.limits.TheConstants.{MOST_SECTIONS}
use Rattle.conn_rows.specs.Value.{rows_total}
use Rattle.conn_rows.specs.Counts.{open_stored}

pub open_is : (versions : List Version) (frontends : List StoredFrontend) (name : List ℕ) → total (open_stored name) frontends ≡ open_named (map (plain_frontend versions) frontends) name
open_is versions frontends name = total-map (plain_frontend versions) (open_if name) (open_stored name) frontends same
  where
    same : (own : StoredFrontend) → open_stored name own ≡ open_if name (plain_frontend versions own)
    same own = ap (λ n. if bytes_eq own.name name then n else 0) (sym (length-map own.rows (plain_row versions)))

-- frontends of which nothing is open
pub total-empty : (frontends : List Frontend) (last : ℕ) → total (λ (own : StoredFrontend). length own.rows) (map (λ frontend. record { name = frontend.name; serial = last; rows = [] }) frontends) ≡ 0
total-empty [] last = refl
total-empty (f ∷ frontends) last = let more = total-empty frontends last in omega (arith, more)

pub rows-empty : (worth : StoredRow → ℕ) (frontends : List Frontend) (last : ℕ) → rows_total worth (map (λ frontend. record { name = frontend.name; serial = last; rows = [] }) frontends) ≡ 0
rows-empty worth [] last = refl
rows-empty worth (f ∷ frontends) last = let more = rows-empty worth frontends last in omega (arith, more)

pub few-map : (frontends : List Frontend) (last : ℕ) → length frontends ≤ MOST_SECTIONS → length {A = StoredFrontend} (map (λ frontend. record { name = frontend.name; serial = last; rows = [] }) frontends) ≤ MOST_SECTIONS
few-map frontends last few =
    let as_stored : Frontend → StoredFrontend = λ frontend. record { name = frontend.name; serial = last; rows = [] } in
    let same : length (map as_stored frontends) ≡ length frontends = length-map frontends as_stored in
    omega (arith, same, few)
