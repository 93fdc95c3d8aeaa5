-- After nothing the state is the same.
use Rattle.std.specs.Prelude.{ℕ, true, List, [], map, filter, refl, ◌+◌, ◌≡◌, ◌∷◌, ◌++◌}
use Rattle.std.specs.List.{AllByRecursion}
use Rattle.std.proofs.Common.{ap, ◌∙◌, arith, append-nil}
use Rattle.conn_model.specs.declared.plain.Row.{Row}
use Rattle.conn_model.specs.declared.plain.FrontendRows.{FrontendRows}
use Rattle.conn_model.specs.declared.plain.Plain.{Plain}
use Rattle.conn_model.specs.History.{by_counter, row_after, frontend_after, after, IsFrontendWell, IsWell}
use Rattle.conn_model.proofs.Lists.{map_from-same}

rows_same : (p : Plain) (number : ℕ) (rows : List Row) → AllByRecursion (λ row. by_counter row.tracks ≡ row.tracks) rows →
    map (row_after p number []) (filter (λ row. true) (rows ++ [])) ≡ rows
rows_same p number [] sorted = refl
rows_same p number (row ∷ rows) sorted =
    let tracks : by_counter (row.tracks ++ []) ≡ row.tracks = ap by_counter (append-nil row.tracks) ∙ sorted.0 in
    let here : row_after p number [] row ≡ row = ap (λ ts. record row { tracks = ts }) tracks in
    cc (here, rows_same p number rows sorted.1)

frontend_same : (p : Plain) (number : ℕ) (own : FrontendRows) → IsFrontendWell p.versions own → frontend_after p [] number own ≡ own
frontend_same p number own well =
    let serial : own.serial + 0 ≡ own.serial = omega arith in
    ap (λ n. record own { serial = n; rows = map (row_after p number []) (filter (λ row. true) (own.rows ++ [])) }) serial
    ∙ ap (λ rows. record own { rows = rows }) (rows_same p number own.rows well.sorted)

pub after-nil : (p : Plain) → IsWell p → after p [] ≡ p
after-nil p well = ap (λ frontends. record p { frontends = frontends }) (map_from-same (IsFrontendWell p.versions) (frontend_after p []) (frontend_same p) 0 p.frontends well.frontends)
