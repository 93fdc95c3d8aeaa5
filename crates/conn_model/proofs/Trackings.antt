-- What one reply that tracks nothing leaves of the tables.
use Rattle.std.specs.Prelude.{ℕ, Bool, true, false, List, [], find, slice_get, Option, Some, None, refl, ◌+◌, ◌≤◌, ◌<◌, ◌≡◌, ◌==◌, ◌∷◌, ◌++◌}
use Rattle.std.specs.List.{AllByRecursion}
use Rattle.std.specs.Option.{option_map_or}
use Rattle.std.proofs.Common.{ap, ◌∙◌, arith, append-nil}
use Rattle.std.proofs.lemmas.Bool.Decides.{nat_tests}
use Rattle.plan_types.specs.declared.track.Track.{Track}
use Rattle.conn_model.specs.declared.event.ConnId.{ConnId}
use Rattle.conn_model.specs.declared.reply.Said.{Said}
use Rattle.conn_model.specs.declared.plain.Row.{Row}
use Rattle.conn_model.specs.declared.plain.FrontendRows.{FrontendRows}
use Rattle.conn_model.specs.declared.plain.Plain.{Plain}
use Rattle.conn_model.specs.declared.plain.TableState.{TableState}
use Rattle.conn_model.specs.Answer.{reply_of, row_at, row_in}
use Rattle.conn_model.specs.Tables.{without_tracks}
use Rattle.conn_model.specs.History.{by_counter, id_of, is_last, tables_by, tracks_at, IsFrontendWell, IsWell}
use Rattle.conn_model.proofs.Lists.{all-at, all-found}

-- no row has a serial that was not given out yet
unused : (n m : ℕ) (rows : List Row) → AllByRecursion (λ row. row.serial ≤ m) rows → m < n → find (λ row. row.serial == n) rows ≡ None
unused n m [] given less = refl
unused n m (row ∷ rows) given less =
    let le : row.serial ≤ m = given.0 in
    let differs : (row.serial == n) ≡ false = grind (arith, nat_tests, less, le) in
    rw differs (unused n m rows given.1 less)

pub row_unused : (frontends : List FrontendRows) (id : ConnId) (own : FrontendRows) → slice_get frontends id.frontend ≡ Some own → AllByRecursion (λ row. row.serial ≤ own.serial) own.rows →
    id.serial ≡ own.serial + 1 → row_at frontends id ≡ None
row_unused frontends id own there given next = ap (row_in id.serial) there ∙ unused id.serial own.serial own.rows given (omega (arith, next))

-- so nothing is tracked under its name
pub none_tracked : (frontends : List FrontendRows) (id : ConnId) (own : FrontendRows) → slice_get frontends id.frontend ≡ Some own → AllByRecursion (λ row. row.serial ≤ own.serial) own.rows →
    id.serial ≡ own.serial + 1 → tracks_at frontends id ≡ []
none_tracked frontends id own there given next =
    ap (λ o. option_map_or (λ row. row.tracks) o []) (row_unused frontends id own there given next)

-- what a connection tracks is in the order of counters
tracks_sorted : (p : Plain) → IsWell p → (id : ConnId) → by_counter (tracks_at p.frontends id) ≡ tracks_at p.frontends id
tracks_sorted p well id = in_frontend (slice_get p.frontends id.frontend) refl
  where
    of_row : (o : Option Row) → (rows : List Row) → AllByRecursion (λ row. by_counter row.tracks ≡ row.tracks) rows → find (λ row. row.serial == id.serial) rows ≡ o →
        by_counter (option_map_or (λ row. row.tracks) o []) ≡ option_map_or (λ row. row.tracks) o []
    of_row None rows sorted found = refl
    of_row (Some row) rows sorted found = (all-found (λ row. by_counter row.tracks ≡ row.tracks) (λ row. row.serial == id.serial) rows row sorted found).0

    in_frontend : (o : Option FrontendRows) → slice_get p.frontends id.frontend ≡ o → by_counter (tracks_at p.frontends id) ≡ tracks_at p.frontends id
    in_frontend None e = rw (e) refl
    in_frontend (Some own) e =
        rw e (of_row (find (λ row. row.serial == id.serial) own.rows) own.rows (all-at (IsFrontendWell p.versions) p.frontends id.frontend own well.frontends e).sorted refl)

-- the connection of a last reply tracks nothing any longer
pub tables_ended : (moment : ℕ) (tables : List TableState) (p : Plain) → IsWell p → (id : ConnId) (said : Said) → id_of said ≡ Some id → is_last said ≡ true →
    tables_by moment p.frontends tables (reply_of said) ≡ without_tracks moment (tracks_at p.frontends id) tables
tables_ended moment tables p well id said whom last =
    let tracks : List Track = tracks_at p.frontends id in
    let all : by_counter (tracks ++ []) ≡ tracks = ap by_counter (append-nil tracks) ∙ tracks_sorted p well id in
    rw (last, whom) (ap (λ ts. without_tracks moment ts tables) all)

-- after another reply nothing changes
pub tables_kept : (moment : ℕ) (tables : List TableState) (p : Plain) (said : Said) → is_last said ≡ false → tables_by moment p.frontends tables (reply_of said) ≡ tables
tables_kept moment tables p said last = rw last refl

-- nor where a connection comes in
pub tables_entered : (moment : ℕ) (tables : List TableState) (p : Plain) → IsWell p → (id : ConnId) (said : Said) (own : FrontendRows) → slice_get p.frontends id.frontend ≡ Some own → id_of said ≡ Some id → id.serial ≡ own.serial + 1 →
    tables_by moment p.frontends tables (reply_of said) ≡ tables
tables_entered moment tables p well id said own there whom next = by (is_last said) refl
  where
    by : (b : Bool) → is_last said ≡ b → tables_by moment p.frontends tables (reply_of said) ≡ tables
    by false e = tables_kept moment tables p said e
    by true e =
        tables_ended moment tables p well id said whom e
        ∙ ap (λ ts. without_tracks moment ts tables) (none_tracked p.frontends id own there (all-at (IsFrontendWell p.versions) p.frontends id.frontend own well.frontends there).given next)
