-- A step on a part, made in two states that agree on it, leaves two that agree.
use Rattle.std.specs.Prelude.{ℕ, Bool, true, false, max, not, List, [], map, filter, position, zip, slice_get, slice_set, Option, Some, None, option_map, option_and_then, IsSome, Ok, refl, ◌+◌, ◌≤◌, ◌≡◌, ◌≢◌, ◌==◌, ◌&&◌, ◌∷◌, ◌++◌, if◌then◌else◌}
use Rattle.std.specs.List.{list_any, AllByRecursion}
use Rattle.std.specs.Option.{option_map_or}
use Rattle.std.proofs.Common.{sym, ap, subst, inl, inr, ◌∙◌, arith}
use Rattle.std.proofs.Math.Path.{fun_ext}
use Rattle.std.proofs.lemmas.Bool.{false≢true, eq-eqb, eqb-true}
use Rattle.addr_core.specs.declared.addr.Addr.{Addr}
use Rattle.proxy_types.specs.declared.balance.Place.{Place}
use Rattle.proxy_types.specs.declared.server.ServerIdentity.{ServerIdentity}
use Rattle.proxy_types.specs.ServerIdentity.{same_server}
use Rattle.stick_core.specs.PlainEntries.{with_tracking}
use Rattle.plan_types.specs.Lines.{has_line, LinesDiffer}
use Rattle.plan_types.specs.declared.plan.Backend.{Backend}
use Rattle.plan_types.specs.declared.plan.Plan.{Plan}
use Rattle.plan_types.specs.declared.plan.Table.{Table}
use Rattle.plan_types.specs.declared.track.TableId.{TableId}
use Rattle.plan_types.specs.declared.track.Track.{Track}
use Rattle.conn_model.specs.declared.event.ConnId.{ConnId}
use Rattle.conn_model.specs.declared.event.OwnedEvent.{OwnedEvent}
use Rattle.conn_model.specs.declared.event.OwnedEvent.TheVariants.{Mark}
use Rattle.conn_model.specs.declared.plain.FrontendRows.{FrontendRows}
use Rattle.conn_model.specs.declared.plain.Plain.{Plain}
use Rattle.conn_model.specs.declared.plain.Row.{Row}
use Rattle.conn_model.specs.declared.plain.TableState.{TableState}
use Rattle.conn_model.specs.declared.plain.Version.{Version}
use Rattle.conn_model.specs.declared.reply.Reply.{Reply}
use Rattle.conn_model.specs.declared.reply.Said.{Said}
use Rattle.conn_model.specs.declared.reply.Said.TheVariants as saids
use Rattle.conn_model.specs.declared.reply.Said.TheVariants.{Offer}
use Rattle.conn_model.specs.Words.{row_at}
use Rattle.conn_model.specs.Answer.{answer_in, at_moment, version_at}
use Rattle.conn_model.specs.Counts.{server_of}
use Rattle.conn_model.specs.Servers.{cursor_after, cursor_at, cursors_after, with_cursor}
use Rattle.conn_model.specs.History.{accepts, after, arrival, arrivals, ended_by, entry, frontend_after, has_ended, is_last, judging_version, newest_number, number_said, phase_by, plan_of, row_after, speaks_to, tracks_of, version_of, with_offer, Entry, IsWell}
use Rattle.conn_model.specs.Tables.{by_counter, open_tracks, same_id, table_at, table_with, trackers, tracks_at}
use Rattle.conn_model.proofs.Lists.{all-append, all-both, all-filter, all-more}
use Rattle.conn_model.proofs.Listed.{all-in, IsIn}
use Rattle.conn_model.proofs.Goes.{newest_of, well_at}
use Rattle.conn_model.proofs.OneTable.{table_by, table_found, table_with-entries, table_with_tracks, table_without_tracks}
use Rattle.conn_model.proofs.Versions.{version_said}
use Rattle.tenant_laws.specs.Parts.{owns_backend_at, owns_table, Part}
use Rattle.tenant_laws.specs.Agreement.{is_own_id, owns_id, Agree, IsAlike, IsApart, IsInside, IsMeant, IsOutside, IsSound, LookAlike}
use Rattle.tenant_laws.specs.Runs.{frontend_of, side_of}
use Rattle.tenant_laws.proofs.Lists.{any-of, contrary, nothing, slice_get-other, slice_get-set, some_same}
use Rattle.conn_model.proofs.Trackers.{trackers-append}
use Rattle.tenant_laws.proofs.Counts.{own-is, tracks-same}
use Rattle.tenant_laws.proofs.Later.{agree-at, answers-same, at-sound, from-apart, look-later}
use Rattle.tenant_laws.proofs.Sides.{by_frontend, by_mark, on_side, phase-side, OnSide}
use Rattle.tenant_laws.proofs.Reports.{mark-inside}
use Rattle.tenant_laws.proofs.Same.{apart-of, newest-there, row_at-same}
use Rattle.tenant_laws.proofs.PartReplies.{brings-none, part_reply, PartReply}
use Rattle.tenant_laws.proofs.Step.{all-by_counter, frontend-at, inside-apart, names-after, named-apart, number-after, outside-apart, own-there, plan-kept, plans-apart, rows-after, sound-step, step-own, step-plan, table-stays, version-before}

map-all : {X Y : Type 0} (f g : X → Y) (xs : List X) → AllByRecursion (λ x. f x ≡ g x) xs → map f xs ≡ map g xs
map-all f g [] same = refl
map-all f g (x ∷ xs) same = cc (same.0, map-all f g xs same.1)

-- Versions that judge the part's connections.

-- they are kept
pub meant-there : (part : Part) (p : Plain) → IsWell p → (k : ℕ) → IsMeant part p k → (v : Version) × (version_at p.versions k ≡ Some v)
meant-there part p well k (inl newest') =
    let v = newest_of p well in
    (v.0, ap (version_at p.versions) newest' ∙ (newest-there p well v.0 v.1).1)
meant-there part p well k (inr (n, own, in', there, has)) =
    let got = any-of (λ (row : Row). IsSome (version_at p.versions row.version)) (λ row. row.version == k) own.rows (well_at p well n own there).kept has in
    let row : Row = got.0 in
    let same : row.version ≡ k = eqb-true row.version k got.2 in
    some (version_at p.versions k) refl (subst (λ (m : ℕ). IsSome (version_at p.versions m)) same got.1)
  where
    some : (o : Option Version) → version_at p.versions k ≡ o → IsSome (version_at p.versions k) → (v : Version) × (version_at p.versions k ≡ Some v)
    some None e is = absurd (false≢true (rw e at is))
    some (Some v) e is = (v, e)

pub meant-other : (part : Part) (p q : Plain) → LookAlike part p q → (k : ℕ) → IsMeant part p k → IsMeant part q k
meant-other part p q agree k (inl newest') = inl (newest' ∙ agree.number)
meant-other part p q agree k (inr (n, own, in', there, has)) = inr (n, own, in', sym (agree.frontends n in') ∙ there, has)

-- those of the rows of a frontend of the part
pub rows-meant : (part : Part) (p : Plain) (n : ℕ) (own : FrontendRows) → part.frontends n ≡ true → slice_get p.frontends n ≡ Some own → AllByRecursion (λ row. IsMeant part p row.version) own.rows
rows-meant part p n own in' there =
    all-more (IsIn own.rows) (λ (row : Row). IsMeant part p row.version) own.rows
    (λ row among. inr (n, own, in', there, among (λ r. r.version == row.version) (eq-eqb row.version row.version refl))) (all-in own.rows)

-- A table changes alike where its keys are counted alike.

with-same : (moment : ℕ) (a b made : List Track) (table : TableState) → ((key : Addr) → trackers a table.id key ≡ trackers b table.id key) → table_with_tracks moment a made table ≡ table_with_tracks moment b made table
with-same moment a b [] table same = refl
with-same moment a b (t ∷ made) table same =
    let one : table_with moment a t table ≡ table_with moment b t table =
    ap (λ (f : Addr → ℕ). if same_id table.id t.table then record table { entries = with_tracking moment f table.table.size t.key table.entries } else table) (fun_ext same) in
    let id : (table_with moment b t table).id ≡ table.id = ap (λ (x : TableState). x.id) (table_with-entries moment b t table) in
    ap (table_with_tracks moment (a ++ t ∷ []) made) one
    ∙ with-same moment (a ++ t ∷ []) (b ++ t ∷ []) made (table_with moment b t table)
    (λ key. ap (λ i. trackers (a ++ t ∷ []) i key) id ∙ trackers-append a (t ∷ []) table.id key ∙ ap (λ n. n + trackers (t ∷ []) table.id key) (same key)
    ∙ sym (trackers-append b (t ∷ []) table.id key) ∙ sym (ap (λ i. trackers (b ++ t ∷ []) i key) id))

-- Cursors move alike.

module _ (part : Part) (plan : Plan) (as' bs : List (Option Place)) (same : (n : ℕ) → owns_backend_at part plan n ≡ true → slice_get as' n ≡ slice_get bs n) where
  with_cursor-same : (i server n : ℕ) → owns_backend_at part plan n ≡ true → slice_get (with_cursor plan.backends i server as') n ≡ slice_get (with_cursor plan.backends i server bs) n
  with_cursor-same i server n owns = by (slice_get plan.backends i) refl
    where
      set : (backend : Backend) (b : Bool) → (n == i) ≡ b →
          slice_get (slice_set as' i (cursor_after backend server (cursor_at as' i))) n ≡ slice_get (slice_set bs i (cursor_after backend server (cursor_at bs i))) n
      set backend true e =
          let place : n ≡ i = eqb-true n i e in
          let own : owns_backend_at part plan i ≡ true = ap (owns_backend_at part plan) (sym place) ∙ owns in
          ap (slice_get (slice_set as' i (cursor_after backend server (cursor_at as' i)))) place ∙ slice_get-set as' i (cursor_after backend server (cursor_at as' i))
          ∙ ap (λ (o : Option (Option Place)). option_map (λ y. cursor_after backend server (option_and_then (λ cursor. cursor) o)) o) (same i own)
          ∙ sym (slice_get-set bs i (cursor_after backend server (cursor_at bs i))) ∙ ap (slice_get (slice_set bs i (cursor_after backend server (cursor_at bs i)))) (sym place)
      set backend false e =
          let differs : n ≢ i = λ (place : n ≡ i). contrary (n == i) (eq-eqb n i place) e in
          slice_get-other as' i n (cursor_after backend server (cursor_at as' i)) differs ∙ same n owns ∙ sym (slice_get-other bs i n (cursor_after backend server (cursor_at bs i)) differs)

      by : (o : Option Backend) → slice_get plan.backends i ≡ o → slice_get (with_cursor plan.backends i server as') n ≡ slice_get (with_cursor plan.backends i server bs) n
      by None e = rw e (same n owns)
      by (Some backend) e = rw e (set backend (n == i) refl)

  cursors-same : (line server n : ℕ) → owns_backend_at part plan n ≡ true → slice_get (cursors_after plan line server as') n ≡ slice_get (cursors_after plan line server bs) n
  cursors-same line server n owns = by (position (has_line line) plan.backends) refl
    where
      by : (o : Option ℕ) → position (has_line line) plan.backends ≡ o → slice_get (cursors_after plan line server as') n ≡ slice_get (cursors_after plan line server bs) n
      by None e = rw e (same n owns)
      by (Some i) e = rw e (with_cursor-same i server n owns)

said-same : (part : Part) (ps qs : List TableState) (v w : Version) → IsAlike part ps qs v w → (number : ℕ) (said : Said) (n : ℕ) → owns_backend_at part v.plan n ≡ true →
    slice_get (version_said number said v).cursors n ≡ slice_get (version_said number said w).cursors n
said-same part ps qs v w alike number (Offer id used line server to pair send) n owns = by (v.number == number) refl
  where
    by : (b : Bool) → (v.number == number) ≡ b → slice_get (with_offer number line server v).cursors n ≡ slice_get (with_offer number line server w).cursors n
    by true e =
        let e' : (w.number == number) ≡ true = ap (λ m. m == number) (sym alike.number) ∙ e in
        rw (e, e') (cursors-same part v.plan v.cursors w.cursors alike.cursors line server n owns ∙ ap (λ (plan : Plan). slice_get (cursors_after plan line server w.cursors) n) alike.plan)
    by false e =
        let e' : (w.number == number) ≡ false = ap (λ m. m == number) (sym alike.number) ∙ e in
        rw (e, e') (alike.cursors n owns)
said-same part ps qs v w alike number said n owns = alike.cursors n owns

-- In one state.
module _ (part : Part) (p : Plain) (sound : IsSound p) (apart : IsApart part p) (e : Entry) (is : answer_in p e.moment e.event ≡ Ok e.reply) (facts : PartReply part true p e) where
  -- a frontend of the others is as it was
  others-stay : (n : ℕ) → part.frontends n ≡ false → slice_get p.frontends n ≡ slice_get (after p (e ∷ [])).frontends n
  others-stay n out = sym (ap (λ fs. slice_get fs n) facts.moved ∙ slice_get-other p.frontends facts.id.frontend n facts.own' (λ same. contrary (part.frontends n) (ap part.frontends same ∙ facts.on) out))

  outside-now : (n : ℕ) (own : FrontendRows) → part.frontends n ≡ false → slice_get (after p (e ∷ [])).frontends n ≡ Some own → AllByRecursion (IsOutside part (after p (e ∷ [])).tables) own.rows
  outside-now n own out there = outside-apart part p sound apart e facts.brings own.rows (apart.outside n own out (others-stay n out ∙ there))

  row-inside : (n : ℕ) (row : Row) → (speaks_to n row.serial e.reply.said ≡ true → row.version ≡ judging_version p.frontends (newest_number p) e.reply.said) → IsInside part p.versions row →
      IsInside part p.versions (row_after p n (e ∷ []) row)
  row-inside n row judges inside = by (speaks_to n row.serial e.reply.said) refl
    where
      by : (b : Bool) → speaks_to n row.serial e.reply.said ≡ b → IsInside part p.versions (row_after p n (e ∷ []) row)
      by false eb =
          rw eb (record {
            tracks = all-by_counter (λ (t : Track). option_map_or (λ version. is_own_id part version t.table) (version_at p.versions row.version) false ≡ true) (row.tracks ++ [])
                (all-append (λ (t : Track). option_map_or (λ version. is_own_id part version t.table) (version_at p.versions row.version) false ≡ true) row.tracks [] inside.tracks tt);
            offered = inside.offered;
          })
      by true eb =
          let found : version_at p.versions row.version ≡ Some facts.version = ap (version_at p.versions) (judges eb) ∙ facts.found in
          let made : AllByRecursion (λ (t : Track). option_map_or (λ version. is_own_id part version t.table) (version_at p.versions row.version) false ≡ true) e.reply.tracks.items = rw found facts.said.tracks in
          let plan : plan_of p [] row.version ≡ Some facts.version.plan = plan-kept p row.version ∙ ap (option_map (λ (v : Version). v.plan)) found in
          let lines : LinesDiffer facts.version.plan = sound.lines row.version facts.version found in
          rw eb (record {
            tracks = all-by_counter (λ (t : Track). option_map_or (λ version. is_own_id part version t.table) (version_at p.versions row.version) false ≡ true) (row.tracks ++ e.reply.tracks.items)
                (all-append (λ (t : Track). option_map_or (λ version. is_own_id part version t.table) (version_at p.versions row.version) false ≡ true) row.tracks e.reply.tracks.items inside.tracks made);
            offered = phase-side part true (plan_of p [] row.version) facts.version.plan plan lines e.event row.phase e.reply.said inside.offered facts.said.offered;
          })

  inside-now : (n : ℕ) (own : FrontendRows) → part.frontends n ≡ true → slice_get (after p (e ∷ [])).frontends n ≡ Some own → AllByRecursion (IsInside part (after p (e ∷ [])).versions) own.rows
  inside-now n own in' there = by (slice_get p.frontends n) refl (sym (frontend-at p (e ∷ []) n) ∙ there)
    where
      fresh : (row : Row) → (row.version ≡ newest_number p) × ((row.tracks ≡ []) × (server_of row.phase ≡ None)) → IsInside part p.versions row
      fresh row known = record {
        tracks = subst (AllByRecursion (λ (t : Track). option_map_or (λ version. is_own_id part version t.table) (version_at p.versions row.version) false ≡ true)) (sym known.1.0) tt;
        offered = ap (λ o. option_map_or (λ (server : ServerIdentity). part.backend_names server.backend) o true) known.1.1;
      }

      by : (o : Option FrontendRows) → slice_get p.frontends n ≡ o → option_map (frontend_after p (e ∷ []) n) o ≡ Some own → AllByRecursion (IsInside part (after p (e ∷ [])).versions) own.rows
      by None e' is' = nothing is'
      by (Some before) e' is' =
          let listed : List Row = before.rows ++ arrivals p n (e ∷ []) in
          let inside : AllByRecursion (IsInside part p.versions) listed =
          all-append (IsInside part p.versions) before.rows (arrivals p n (e ∷ [])) (apart.inside n before in' e')
          (all-more (λ (row : Row). (row.version ≡ newest_number p) × ((row.tracks ≡ []) × (server_of row.phase ≡ None))) (IsInside part p.versions) (arrivals p n (e ∷ [])) fresh (facts.comes n)) in
          let moved : AllByRecursion (λ row. IsInside part p.versions (row_after p n (e ∷ []) row)) listed =
          all-more (λ (row : Row). (speaks_to n row.serial e.reply.said ≡ true → row.version ≡ judging_version p.frontends (newest_number p) e.reply.said) × IsInside part p.versions row)
          (λ row. IsInside part p.versions (row_after p n (e ∷ []) row)) listed (λ row both'. row-inside n row both'.0 both'.1)
          (all-both (λ (row : Row). speaks_to n row.serial e.reply.said ≡ true → row.version ≡ judging_version p.frontends (newest_number p) e.reply.said) (IsInside part p.versions) listed (facts.judges n before e') inside) in
          let own_is : frontend_after p (e ∷ []) n before ≡ own = some_same is' in
          inside-apart part p sound apart e facts.brings own.rows (well_at (after p (e ∷ [])) (sound-step p sound e is facts.brings).well n own there).kept
          (subst (λ (f : FrontendRows). AllByRecursion (IsInside part p.versions) f.rows) own_is (rows-after p e n before (IsInside part p.versions) moved))

  pub apart-now : IsApart part (after p (e ∷ []))
  apart-now = record { plans = plans-apart part p sound apart e facts.brings; named = named-apart part p sound apart e facts.brings; outside = outside-now; inside = inside-now }

  -- the versions that judge were meant before
  pub meant-before : (k : ℕ) → IsMeant part (after p (e ∷ [])) k → IsMeant part p k
  meant-before k (inl newest') = inl (newest' ∙ number-after p sound.well e facts.brings)
  meant-before k (inr (n, own, in', there, has)) = by (slice_get p.frontends n) refl (sym (frontend-at p (e ∷ []) n) ∙ there)
    where
      by : (o : Option FrontendRows) → slice_get p.frontends n ≡ o → option_map (frontend_after p (e ∷ []) n) o ≡ Some own → IsMeant part p k
      by None e' is' = nothing is'
      by (Some before) e' is' =
          let all : AllByRecursion (λ (row : Row). IsMeant part p row.version) (before.rows ++ arrivals p n (e ∷ [])) =
          all-append (λ (row : Row). IsMeant part p row.version) before.rows (arrivals p n (e ∷ [])) (rows-meant part p n before in' e')
          (all-more (λ (row : Row). (row.version ≡ newest_number p) × ((row.tracks ≡ []) × (server_of row.phase ≡ None))) (λ (row : Row). IsMeant part p row.version) (arrivals p n (e ∷ [])) (λ row known. inl known.0) (facts.comes n)) in
          let now : AllByRecursion (λ (row : Row). IsMeant part p row.version) own.rows =
          subst (λ (f : FrontendRows). AllByRecursion (λ (row : Row). IsMeant part p row.version) f.rows) (some_same is') (rows-after p e n before (λ (row : Row). IsMeant part p row.version) all) in
          let got = any-of (λ (row : Row). IsMeant part p row.version) (λ row. row.version == k) own.rows now has in
          let row : Row = got.0 in
          subst (IsMeant part p) (eqb-true row.version k got.2) got.1

-- In two states that look alike at the moment of the entry.
module _ (part : Part) (p q : Plain) (sound : IsSound p) (sound' : IsSound q) (e : Entry) (agree : LookAlike part (at_moment e.moment p) (at_moment e.moment q)) (is : answer_in p e.moment e.event ≡ Ok e.reply) (is' : answer_in q e.moment e.event ≡ Ok e.reply)
    (facts : PartReply part true p e) (facts' : PartReply part true q e) (clocks : max p.clock e.moment ≡ max q.clock e.moment) where
  judging-same : judging_version p.frontends (newest_number p) e.reply.said ≡ judging_version q.frontends (newest_number q) e.reply.said
  judging-same =
      ap (λ (o : Option ConnId). option_map_or (λ (row : Row). row.version) (option_and_then (row_at p.frontends) o) (newest_number p)) facts.says
      ∙ ap (λ (o : Option Row). option_map_or (λ (row : Row). row.version) o (newest_number p)) (row_at-same part (at_moment e.moment p) (at_moment e.moment q) (at-sound p sound e.moment) (at-sound q sound' e.moment) agree facts.id facts.on)
      ∙ ap (λ n. option_map_or (λ (row : Row). row.version) (row_at q.frontends facts.id) n) agree.number
      ∙ ap (λ (o : Option ConnId). option_map_or (λ (row : Row). row.version) (option_and_then (row_at q.frontends) o) (newest_number q)) (sym facts.says)

  ended-same : ended_by p.frontends e.reply ≡ ended_by q.frontends e.reply
  ended-same =
      ap (λ (ts : List Track). if is_last e.reply.said then by_counter (ts ++ e.reply.tracks.items) else [])
      (ap (λ (o : Option ConnId). option_map_or (tracks_at p.frontends) o []) facts.says
      ∙ ap (λ (o : Option Row). option_map_or (λ (row : Row). row.tracks) o []) (row_at-same part (at_moment e.moment p) (at_moment e.moment q) (at-sound p sound e.moment) (at-sound q sound' e.moment) agree facts.id facts.on)
      ∙ ap (λ (o : Option ConnId). option_map_or (tracks_at q.frontends) o []) (sym facts.says))

  plan-same : (k : ℕ) → IsMeant part p k → plan_of p [] k ≡ plan_of q [] k
  plan-same k meant =
      let v = meant-there part p sound.well k meant in
      let w = meant-there part q sound'.well k (meant-other part (at_moment e.moment p) (at_moment e.moment q) agree k meant) in
      let alike : IsAlike part (at_moment e.moment p).tables (at_moment e.moment q).tables v.0 w.0 = agree.versions k meant v.0 w.0 v.1 w.1 in
      plan-kept p k ∙ ap (option_map (λ (x : Version). x.plan)) v.1 ∙ ap Some alike.plan ∙ sym (plan-kept q k ∙ ap (option_map (λ (x : Version). x.plan)) w.1)

  arrivals-same : (n : ℕ) → arrivals p n (e ∷ []) ≡ arrivals q n (e ∷ [])
  arrivals-same n =
      ap (λ clock. [] ++ arrival n clock (newest_number p) e.event e.reply.said) clocks ∙ ap (λ version. [] ++ arrival n (max q.clock e.moment) version e.event e.reply.said) agree.number

  frontend-same : (n : ℕ) (own : FrontendRows) → part.frontends n ≡ true → slice_get p.frontends n ≡ Some own → frontend_after p (e ∷ []) n own ≡ frontend_after q (e ∷ []) n own
  frontend-same n own in' there =
      let live : Row → Bool = λ row. not (has_ended n (e ∷ []) row.serial) in
      let listed : List Row = own.rows ++ arrivals p n (e ∷ []) in
      let meant : AllByRecursion (λ (row : Row). IsMeant part p row.version) listed =
      all-append (λ (row : Row). IsMeant part p row.version) own.rows (arrivals p n (e ∷ [])) (rows-meant part p n own in' there)
      (all-more (λ (row : Row). (row.version ≡ newest_number p) × ((row.tracks ≡ []) × (server_of row.phase ≡ None))) (λ (row : Row). IsMeant part p row.version) (arrivals p n (e ∷ [])) (λ row known. inl known.0) (facts.comes n)) in
      let rows : map (row_after p n (e ∷ [])) (filter live listed) ≡ map (row_after q n (e ∷ [])) (filter live listed) =
      map-all (row_after p n (e ∷ [])) (row_after q n (e ∷ [])) (filter live listed)
      (all-filter (λ row. row_after p n (e ∷ []) row ≡ row_after q n (e ∷ []) row) live listed
      (all-more (λ (row : Row). IsMeant part p row.version) (λ row. row_after p n (e ∷ []) row ≡ row_after q n (e ∷ []) row) listed (λ row is_meant. row-same row is_meant) meant)) in
      ap (λ rs. record own { serial = own.serial + accepts n (e ∷ []); rows = rs }) (rows ∙ ap (λ more. map (row_after q n (e ∷ [])) (filter live (own.rows ++ more))) (arrivals-same n))
    where
      row-same : (row : Row) → IsMeant part p row.version → row_after p n (e ∷ []) row ≡ row_after q n (e ∷ []) row
      row-same row meant =
          ap (λ plan. record row {
            phase = if speaks_to n row.serial e.reply.said then phase_by plan e.event e.reply.said row.phase else row.phase;
            tracks = by_counter (row.tracks ++ tracks_of n row.serial (e ∷ []));
          }) (plan-same row.version meant)

  frontends-same : (n : ℕ) → part.frontends n ≡ true → slice_get (after p (e ∷ [])).frontends n ≡ slice_get (after q (e ∷ [])).frontends n
  frontends-same n in' =
      frontend-at p (e ∷ []) n ∙ by (slice_get p.frontends n) refl ∙ ap (option_map (frontend_after q (e ∷ []) n)) (agree.frontends n in') ∙ sym (frontend-at q (e ∷ []) n)
    where
      by : (o : Option FrontendRows) → slice_get p.frontends n ≡ o → option_map (frontend_after p (e ∷ []) n) (slice_get p.frontends n) ≡ option_map (frontend_after q (e ∷ []) n) (slice_get p.frontends n)
      by None there = rw there refl
      by (Some own) there = rw there (ap Some (frontend-same n own in' there))

  entries-same : (k : ℕ) (v w v' w' : Version) (id : TableId) → version_at p.versions k ≡ Some v → version_at (after p (e ∷ [])).versions k ≡ Some v' → version_at (after q (e ∷ [])).versions k ≡ Some w' →
      IsAlike part (at_moment e.moment p).tables (at_moment e.moment q).tables v w → is_own_id part v id ≡ true → is_own_id part v' id ≡ true → is_own_id part w' id ≡ true → table_at (after p (e ∷ [])).tables id ≡ table_at (after q (e ∷ [])).tables id
  entries-same k v w v' w' id there there' other' alike own own' own'' =
      let stays : table_at (after p (e ∷ [])).tables id ≡ option_map (table_by (max p.clock e.moment) p.frontends e.reply) (table_at (at_moment e.moment p).tables id) =
      table-stays p sound.well e facts.brings id (own-there part (after p (e ∷ [])) (sound-step p sound e is facts.brings).well k v' id there' own') in
      let stays' : table_at (after q (e ∷ [])).tables id ≡ option_map (table_by (max q.clock e.moment) q.frontends e.reply) (table_at (at_moment e.moment q).tables id) =
      table-stays q sound'.well e facts'.brings id (own-there part (after q (e ∷ [])) (sound-step q sound' e is' facts'.brings).well k w' id other' own'') in
      stays ∙ by (table_at (at_moment e.moment p).tables id) refl ∙ ap (option_map (table_by (max q.clock e.moment) q.frontends e.reply)) (alike.entries id own) ∙ sym stays'
    where
      owned : owns_id part (at_moment e.moment p).tables id ≡ true
      owned = own-is part (at_moment e.moment p).tables v id ((at-sound p sound e.moment).written k v there) own

      owned' : owns_id part (at_moment e.moment q).tables id ≡ true
      owned' = ap (λ o. option_map_or (λ (x : TableState). owns_table part x.table) o false) (sym (alike.entries id own)) ∙ owned

      counted : (key : Addr) → trackers (open_tracks p.frontends) id key ≡ trackers (open_tracks q.frontends) id key
      counted = tracks-same part (at_moment e.moment p).tables (at_moment e.moment q).tables p.frontends q.frontends (apart-of part (at_moment e.moment p) agree.left) (apart-of part (at_moment e.moment q) agree.right) agree.frontends id owned owned'

      by : (o : Option TableState) → table_at (at_moment e.moment p).tables id ≡ o → option_map (table_by (max p.clock e.moment) p.frontends e.reply) (table_at (at_moment e.moment p).tables id) ≡ option_map (table_by (max q.clock e.moment) q.frontends e.reply) (table_at (at_moment e.moment p).tables id)
      by None found = rw found refl
      by (Some table) found =
          let first : table.id ≡ id = table_found (at_moment e.moment p).tables id table found in
          let made : table_with_tracks (max p.clock e.moment) (open_tracks p.frontends) e.reply.tracks.items table ≡ table_with_tracks (max p.clock e.moment) (open_tracks q.frontends) e.reply.tracks.items table =
          with-same (max p.clock e.moment) (open_tracks p.frontends) (open_tracks q.frontends) e.reply.tracks.items table
          (λ key. ap (λ i. trackers (open_tracks p.frontends) i key) first ∙ counted key ∙ ap (λ i. trackers (open_tracks q.frontends) i key) (sym first)) in
          rw found (ap Some
          (ap (table_without_tracks (max p.clock e.moment) (ended_by p.frontends e.reply)) made
          ∙ ap (λ ended. table_without_tracks (max p.clock e.moment) ended (table_with_tracks (max p.clock e.moment) (open_tracks q.frontends) e.reply.tracks.items table)) ended-same
          ∙ ap (λ n. table_by n q.frontends e.reply table) clocks))

  versions-alike : (k : ℕ) → IsMeant part (after p (e ∷ [])) k → (v' w' : Version) → version_at (after p (e ∷ [])).versions k ≡ Some v' → version_at (after q (e ∷ [])).versions k ≡ Some w' →
      IsAlike part (after p (e ∷ [])).tables (after q (e ∷ [])).tables v' w'
  versions-alike k meant v' w' there' other' =
      let v = version-before p sound.well e facts.brings k v' there' in
      let w = version-before q sound'.well e facts'.brings k w' other' in
      let alike : IsAlike part (at_moment e.moment p).tables (at_moment e.moment q).tables v.0 w.0 = agree.versions k (meant-before part p sound (from-apart part p e.moment agree.left) e is facts k meant) v.0 w.0 v.1 w.1 in
      let parts = step-plan p e v.0 in
      let parts' = step-plan q e w.0 in
      let own-is' : (id : TableId) → is_own_id part v' id ≡ true → is_own_id part v.0 id ≡ true = λ id own. sym (ap (λ (x : Version). is_own_id part x id) v.2 ∙ step-own part p e v.0 id) ∙ own in
      let tables : v'.tables ≡ w'.tables = ap (λ (x : Version). x.tables) v.2 ∙ parts.1.1 ∙ alike.tables ∙ sym (ap (λ (x : Version). x.tables) w.2 ∙ parts'.1.1) in
      let plan : v'.plan ≡ w'.plan = ap (λ (x : Version). x.plan) v.2 ∙ parts.1.0 ∙ alike.plan ∙ sym (ap (λ (x : Version). x.plan) w.2 ∙ parts'.1.0) in
      record {
        number = ap (λ (x : Version). x.number) v.2 ∙ parts.0 ∙ alike.number ∙ sym (ap (λ (x : Version). x.number) w.2 ∙ parts'.0);
        plan = plan;
        tables = tables;
        cursors = λ n owns.
            ap (λ (x : Version). slice_get x.cursors n) v.2
            ∙ said-same part (at_moment e.moment p).tables (at_moment e.moment q).tables v.0 w.0 alike (judging_version p.frontends (newest_number p) e.reply.said) e.reply.said n
            (sym (ap (λ (x : Version). owns_backend_at part x.plan n) v.2 ∙ ap (λ (x : Plan). owns_backend_at part x n) parts.1.0) ∙ owns)
            ∙ ap (λ number. slice_get (version_said number e.reply.said w.0).cursors n) judging-same ∙ ap (λ (x : Version). slice_get x.cursors n) (sym w.2);
        entries = λ id own. entries-same k v.0 w.0 v' w' id v.1 there' other' alike (own-is' id own) own (own-turned id v' w' plan tables own);
      }
    where
      own-turned : (id : TableId) (v' w' : Version) → v'.plan ≡ w'.plan → v'.tables ≡ w'.tables → is_own_id part v' id ≡ true → is_own_id part w' id ≡ true
      own-turned id v' w' plan tables own =
          ap (λ (x : Plan). list_any (λ (pair : Table × TableId). owns_table part pair.0 && same_id pair.1 id) (zip x.tables w'.tables)) (sym plan)
          ∙ ap (λ ids. list_any (λ (pair : Table × TableId). owns_table part pair.0 && same_id pair.1 id) (zip v'.plan.tables ids)) (sym tables) ∙ own

  pub inside-alike : LookAlike part (after p (e ∷ [])) (after q (e ∷ []))
  inside-alike = record {
    listeners = agree.listeners;
    names = names-after p (e ∷ []) ∙ agree.names ∙ sym (names-after q (e ∷ []));
    number = number-after p sound.well e facts.brings ∙ agree.number ∙ sym (number-after q sound'.well e facts'.brings);
    frontends = frontends-same;
    versions = versions-alike;
    down = λ server named. ap (list_any (same_server server)) facts.stays ∙ agree.down server named ∙ ap (list_any (same_server server)) (sym facts'.stays);
    left = apart-now part p sound (from-apart part p e.moment agree.left) e is facts;
    right = apart-now part q sound' (from-apart part q e.moment agree.right) e is' facts';
  }

-- a step on the part, made in two states that agree
pub inside-step : (part : Part) (p q : Plain) → IsSound p → IsSound q → Agree part p q → (moment : ℕ) (event : OwnedEvent) (reply : Reply) → p.clock ≤ moment → q.clock ≤ moment →
    side_of part p event ≡ Some true → answer_in p moment event ≡ Ok reply → Agree part (after p (entry moment event reply ∷ [])) (after q (entry moment event reply ∷ []))
inside-step part p q sound sound' agree moment event reply late late' on is =
    let e : Entry = entry moment event reply in
    let clocks : max p.clock moment ≡ max q.clock moment = omega (arith, late, late') in
    let now : ℕ = max (max p.clock moment) (max q.clock moment) in
    look-later part (after p (e ∷ [])) (after q (e ∷ [])) (sound-step p sound e is (brings (on_side part true p event on))) (by (on_side part true p event on)) now (ap (λ n. max n now) clocks)
  where
    is' : answer_in q moment event ≡ Ok reply
    is' = sym (answers-same part p q sound sound' agree moment event late late' on) ∙ is

    left : IsApart part p
    left = from-apart part p (max p.clock q.clock) agree.left

    right : IsApart part q
    right = from-apart part q (max p.clock q.clock) agree.right

    brings : OnSide part true p event → version_of (entry moment event reply) ≡ None
    brings (by_frontend n on in') = (part_reply part true p sound left moment n event reply on in' is).brings
    brings (by_mark number n health backend marks there named) = subst (λ ev. version_of (entry moment ev reply) ≡ None) (sym marks) (brings-none (Mark number n health) (number_said reply.said) tt)

    by : OnSide part true p event → LookAlike part (after p (entry moment event reply ∷ [])) (after q (entry moment event reply ∷ []))
    by (by_frontend n on in') =
        let on' : frontend_of q.listeners event ≡ Some n = ap (λ ls. frontend_of ls event) (sym agree.listeners) ∙ on in
        let clocks : max p.clock moment ≡ max q.clock moment = omega (arith, late, late') in
        inside-alike part p q sound sound' (entry moment event reply) (agree-at part p q sound agree moment late late') is is' (part_reply part true p sound left moment n event reply on in' is)
        (part_reply part true q sound' right moment n event reply on' in' is') clocks
    by (by_mark number n health backend marks there named) =
        subst (λ ev. LookAlike part (after p (entry moment ev reply ∷ [])) (after q (entry moment ev reply ∷ []))) (sym marks)
        (mark-inside part p q sound sound' moment number n health reply (agree-at part p q sound agree moment late late') (subst (λ ev. answer_in p moment ev ≡ Ok reply) marks is)
        (subst (λ ev. answer_in q moment ev ≡ Ok reply) marks is'))
