-- What is the part's is counted over the part's frontends alone.
use Rattle.std.specs.Prelude.{ℕ, suc, Bool, true, false, List, [], length, filter, flat_map, slice_get, Option, Some, None, IfSome, refl, ◌+◌, ◌≡◌, ◌&&◌, ◌∷◌}
use Rattle.std.specs.List.{AllByRecursion}
use Rattle.std.specs.Str.{bytes_eq}
use Rattle.std.specs.Option.{option_map_or}
use Rattle.std.proofs.Common.{sym, ap, subst, ◌∙◌, arith}
use Rattle.std.proofs.lemmas.Slice.Eq.{bytes_eq-Decides}
use Rattle.std.proofs.lemmas.List.Concat.{flat_map-cons}
use Rattle.addr_core.specs.declared.addr.Addr.{Addr}
use Rattle.addr_core.specs.Same.{same_endpoint}
use Rattle.proxy_types.specs.declared.server.ServerIdentity.{ServerIdentity}
use Rattle.proxy_types.specs.ServerIdentity.{same_server}
use Rattle.plan_types.specs.declared.plan.Table.{Table}
use Rattle.plan_types.specs.declared.track.TableId.{TableId}
use Rattle.plan_types.specs.declared.track.Track.{Track}
use Rattle.conn_model.specs.declared.plain.FrontendRows.{FrontendRows}
use Rattle.conn_model.specs.declared.plain.Row.{Row}
use Rattle.conn_model.specs.declared.plain.TableState.{TableState}
use Rattle.conn_model.specs.declared.plain.Version.{Version}
use Rattle.conn_model.specs.Counts.{is_offered_to, is_served_by, offered_to, open_if, open_named, served_by, server_of, total}
use Rattle.conn_model.proofs.Trackers.{trackers-append}
use Rattle.conn_model.specs.Tables.{is_of, open_tracks, same_id, table_at, trackers, tracks_in, written_tables}
use Rattle.conn_model.proofs.OneTable.{same_id-is}
use Rattle.tenant_laws.specs.Parts.{owns_table, Part}
use Rattle.tenant_laws.specs.Agreement.{is_offered_own, is_own_id, owns_id, IsOutside, IsWritten}
use Rattle.tenant_laws.proofs.Lists.{any-of, both, contrary, nothing, some_same}

-- names that are the same bytes
pub text_same : (a b : List ℕ) → bytes_eq a b ≡ true → a ≡ b
text_same a b e = (bytes_eq-Decides a b).0 e

-- Sums over two lists that are the same item by item.

pub total-same : {X : Type 0} (F : X → ℕ) (xs ys : List X) → ((n : ℕ) → option_map_or F (slice_get xs n) 0 ≡ option_map_or F (slice_get ys n) 0) → total F xs ≡ total F ys
total-same F [] [] same = refl
total-same F [] (y ∷ ys) same =
    let here : 0 ≡ F y = same 0 in
    let rest : 0 ≡ total F ys = total-same F [] ys (λ n. same (suc n)) in
    omega (arith, here, rest)
total-same F (x ∷ xs) [] same =
    let here : F x ≡ 0 = same 0 in
    let rest : total F xs ≡ 0 = total-same F xs [] (λ n. same (suc n)) in
    omega (arith, here, rest)
total-same F (x ∷ xs) (y ∷ ys) same =
    let here : F x ≡ F y = same 0 in
    let rest : total F xs ≡ total F ys = total-same F xs ys (λ n. same (suc n)) in
    cc (here, rest)

none_pass : {X : Type 0} (test : X → Bool) (xs : List X) → AllByRecursion (λ x. test x ≡ false) xs → length (filter test xs) ≡ 0
none_pass test [] all = refl
none_pass test (x ∷ xs) all = rw all.0 (none_pass test xs all.1)

trackers-total : (frontends : List FrontendRows) (id : TableId) (key : Addr) → trackers (open_tracks frontends) id key ≡ total (λ own. trackers (tracks_in own) id key) frontends
trackers-total [] id key = refl
trackers-total (own ∷ frontends) id key =
    ap (λ ts. trackers ts id key) (flat_map-cons tracks_in own frontends) ∙ trackers-append (tracks_in own) (open_tracks frontends) id key
    ∙ ap (λ n. trackers (tracks_in own) id key + n) (trackers-total frontends id key)

-- what a list of frontends shows of the part: none of the others' connections has what is its own
pub record AreApart (part : Part) (tables : List TableState) (frontends : List FrontendRows) : Type 0 where
  pub named : (n : ℕ) → IfSome (slice_get frontends n) (λ own. part.frontends n ≡ part.frontend_names own.name)
  pub outside : (n : ℕ) (own : FrontendRows) → part.frontends n ≡ false → slice_get frontends n ≡ Some own → AllByRecursion (IsOutside part tables) own.rows

module _ (part : Part) (ps qs : List TableState) (as' bs : List FrontendRows) (left : AreApart part ps as') (right : AreApart part qs bs)
    (same : (n : ℕ) → part.frontends n ≡ true → slice_get as' n ≡ slice_get bs n) where
  by_frontends : (F : FrontendRows → ℕ) → ((n : ℕ) (own : FrontendRows) → part.frontends n ≡ false → slice_get as' n ≡ Some own → F own ≡ 0) →
      ((n : ℕ) (own : FrontendRows) → part.frontends n ≡ false → slice_get bs n ≡ Some own → F own ≡ 0) → total F as' ≡ total F bs
  by_frontends F zero_left zero_right = total-same F as' bs (λ n. by n (part.frontends n) refl)
    where
      none : (n : ℕ) (frontends : List FrontendRows) (o : Option FrontendRows) → slice_get frontends n ≡ o → ((own : FrontendRows) → slice_get frontends n ≡ Some own → F own ≡ 0) →
          option_map_or F (slice_get frontends n) 0 ≡ 0
      none n frontends None there zero' = rw there refl
      none n frontends (Some own) there zero' = rw there (zero' own there)

      by : (n : ℕ) (b : Bool) → part.frontends n ≡ b → option_map_or F (slice_get as' n) 0 ≡ option_map_or F (slice_get bs n) 0
      by n true e = ap (λ o. option_map_or F o 0) (same n e)
      by n false e =
          none n as' (slice_get as' n) refl (λ own there. zero_left n own e there) ∙ sym (none n bs (slice_get bs n) refl (λ own there. zero_right n own e there))

  pub named-same : (name : List ℕ) → part.frontend_names name ≡ true → open_named as' name ≡ open_named bs name
  named-same name owned = by_frontends (open_if name) (none as' left.named) (none bs right.named)
    where
      none : (frontends : List FrontendRows) → ((n : ℕ) → IfSome (slice_get frontends n) (λ own. part.frontends n ≡ part.frontend_names own.name)) →
          (n : ℕ) (own : FrontendRows) → part.frontends n ≡ false → slice_get frontends n ≡ Some own → open_if name own ≡ 0
      none frontends named n own out there = by (bytes_eq own.name name) refl
        where
          is : part.frontends n ≡ part.frontend_names own.name
          is = rw there at (named n)

          by : (b : Bool) → bytes_eq own.name name ≡ b → open_if name own ≡ 0
          by true e = contrary (part.frontends n) (is ∙ ap part.frontend_names (text_same own.name name e) ∙ owned) out
          by false e = rw e refl

  -- connections that were offered a server of which the test holds
  offered-same : (test : Row → Bool) → ((row : Row) → test row ≡ true → is_offered_own part row ≡ true) → total (λ own. length (filter test own.rows)) as' ≡ total (λ own. length (filter test own.rows)) bs
  offered-same test implies = by_frontends (λ own. length (filter test own.rows)) (none as' ps left.outside) (none bs qs right.outside)
    where
      each : (tables : List TableState) (rows : List Row) → AllByRecursion (IsOutside part tables) rows → AllByRecursion (λ row. test row ≡ false) rows
      each tables [] all = tt
      each tables (row ∷ rows) all = (by (test row) refl, each tables rows all.1)
        where
          by : (b : Bool) → test row ≡ b → test row ≡ false
          by true e = contrary (is_offered_own part row) (implies row e) all.0.offered
          by false e = e

      none : (frontends : List FrontendRows) (tables : List TableState) →
          ((n : ℕ) (own : FrontendRows) → part.frontends n ≡ false → slice_get frontends n ≡ Some own → AllByRecursion (IsOutside part tables) own.rows) →
          (n : ℕ) (own : FrontendRows) → part.frontends n ≡ false → slice_get frontends n ≡ Some own → length (filter test own.rows) ≡ 0
      none frontends tables outside n own out there = none_pass test own.rows (each tables own.rows (outside n own out there))

  implied : (test : ServerIdentity → Bool) → ((server : ServerIdentity) → test server ≡ true → part.backend_names server.backend ≡ true) → (row : Row) →
      option_map_or test (server_of row.phase) false ≡ true → is_offered_own part row ≡ true
  implied test implies row is = by (server_of row.phase) is
    where
      by : (o : Option ServerIdentity) → option_map_or test o false ≡ true → option_map_or (λ server. part.backend_names server.backend) o false ≡ true
      by None e = contrary false e refl
      by (Some server) e = implies server e

  pub backends-same : (name : List ℕ) → part.backend_names name ≡ true → offered_to as' name ≡ offered_to bs name
  backends-same name owned =
      offered-same (λ row. is_offered_to name row.phase)
      (implied (λ server. bytes_eq server.backend name) (λ server e. ap part.backend_names (text_same server.backend name e) ∙ owned))

  pub servers-same : (identity : ServerIdentity) → part.backend_names identity.backend ≡ true → served_by as' identity ≡ served_by bs identity
  servers-same identity owned =
      offered-same (λ row. is_served_by identity row.phase)
      (implied (same_server identity) (λ server e.
      let parts = both (bytes_eq identity.backend server.backend && bytes_eq identity.name server.name) (same_endpoint identity.to server.to) e in
      let names = both (bytes_eq identity.backend server.backend) (bytes_eq identity.name server.name) parts.0 in
      ap part.backend_names (sym (text_same identity.backend server.backend names.0)) ∙ owned))

  pub tracks-same : (id : TableId) → owns_id part ps id ≡ true → owns_id part qs id ≡ true → (key : Addr) → trackers (open_tracks as') id key ≡ trackers (open_tracks bs) id key
  tracks-same id own own' key =
      trackers-total as' id key ∙ by_frontends (λ frontend. trackers (tracks_in frontend) id key) (none as' ps own left.outside) (none bs qs own' right.outside) ∙ sym (trackers-total bs id key)
    where
      off : (tables : List TableState) (ts : List Track) → owns_id part tables id ≡ true → AllByRecursion (λ t. owns_id part tables t.table ≡ false) ts → AllByRecursion (λ t. is_of id key t ≡ false) ts
      off tables [] owns all = tt
      off tables (t ∷ ts) owns all = (by (same_id t.table id) refl, off tables ts owns all.1)
        where
          by : (b : Bool) → same_id t.table id ≡ b → is_of id key t ≡ false
          by true e = contrary (owns_id part tables t.table) (ap (owns_id part tables) (same_id-is t.table id e) ∙ owns) all.0
          by false e = rw e refl

      rows-zero : (tables : List TableState) (rows : List Row) → owns_id part tables id ≡ true → AllByRecursion (IsOutside part tables) rows → trackers (flat_map (λ row. row.tracks) rows) id key ≡ 0
      rows-zero tables [] owns all = refl
      rows-zero tables (row ∷ rows) owns all =
          let here : trackers row.tracks id key ≡ 0 = none_pass (is_of id key) row.tracks (off tables row.tracks owns all.0.tracks) in
          let rest : trackers (flat_map (λ (row : Row). row.tracks) rows) id key ≡ 0 = rows-zero tables rows owns all.1 in
          ap (λ ts. trackers ts id key) (flat_map-cons (λ (row : Row). row.tracks) row rows) ∙ trackers-append row.tracks (flat_map (λ (row : Row). row.tracks) rows) id key
          ∙ omega (arith, here, rest)

      none : (frontends : List FrontendRows) (tables : List TableState) → owns_id part tables id ≡ true →
          ((n : ℕ) (own : FrontendRows) → part.frontends n ≡ false → slice_get frontends n ≡ Some own → AllByRecursion (IsOutside part tables) own.rows) →
          (n : ℕ) (own : FrontendRows) → part.frontends n ≡ false → slice_get frontends n ≡ Some own → trackers (tracks_in own) id key ≡ 0
      none frontends tables owns outside n own out there = rows-zero tables own.rows owns (outside n own out there)

-- The part's tables are kept, and kept as the part's.

pub own-owned : (part : Part) (tables : List TableState) (v : Version) (id : TableId) → AllByRecursion (IsWritten tables) (written_tables (Some v)) → is_own_id part v id ≡ true →
    (table : TableState) × (table_at tables id ≡ Some table) × (owns_table part table.table ≡ true)
own-owned part tables v id written own =
    let found = any-of (IsWritten tables) (λ (pair : Table × TableId). owns_table part pair.0 && same_id pair.1 id) (written_tables (Some v)) written own in
    let pair : Table × TableId = found.0 in
    let parts = both (owns_table part pair.0) (same_id pair.1 id) found.2 in
    let level : pair.1 ≡ id = same_id-is pair.1 id parts.1 in
    by (table_at tables id) refl pair.0 (subst (λ i. IsWritten tables (pair.0, i)) level found.1) parts.0
  where
    by : (o : Option TableState) → table_at tables id ≡ o → (t : Table) → IsWritten tables (t, id) → owns_table part t ≡ true → (table : TableState) × (table_at tables id ≡ Some table) × (owns_table part table.table ≡ true)
    by None e t is owned = nothing (rw e at is)
    by (Some table) e t is owned = (table, e, ap (owns_table part) (some_same (rw e at is)) ∙ owned)

pub own-is : (part : Part) (tables : List TableState) (v : Version) (id : TableId) → AllByRecursion (IsWritten tables) (written_tables (Some v)) → is_own_id part v id ≡ true → owns_id part tables id ≡ true
own-is part tables v id written own = let found = own-owned part tables v id written own in rw found.1 found.2
