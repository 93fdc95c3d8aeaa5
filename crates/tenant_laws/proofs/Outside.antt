-- A step outside a part leaves the part's view as it was.
use Rattle.std.specs.Prelude.{ℕ, Bool, true, false, not, List, [], position, slice_get, Option, Some, None, option_map, Ok, refl, ◌≡◌, ◌≢◌, ◌==◌, ◌∷◌, ◌++◌}
use Rattle.std.specs.List.{list_any, AllByRecursion}
use Rattle.std.specs.Option.{option_map_or}
use Rattle.std.proofs.Common.{max, arith, ◌≤◌, sym, ap, subst, ◌∙◌}
use Rattle.std.proofs.lemmas.Bool.{eqb-true}
use Rattle.proxy_types.specs.declared.balance.Place.{Place}
use Rattle.proxy_types.specs.declared.server.ServerIdentity.{ServerIdentity}
use Rattle.proxy_types.specs.ServerIdentity.{same_server}
use Rattle.plan_types.specs.Lines.{has_line, LinesDiffer}
use Rattle.plan_types.specs.declared.plan.Backend.{Backend}
use Rattle.plan_types.specs.declared.plan.Server.{Server}
use Rattle.plan_types.specs.declared.track.TableId.{TableId}
use Rattle.plan_types.specs.declared.track.Track.{Track}
use Rattle.conn_model.specs.declared.event.ConnId.{ConnId}
use Rattle.conn_model.specs.declared.event.OwnedEvent.{OwnedEvent}
use Rattle.conn_model.specs.declared.plain.FrontendRows.{FrontendRows}
use Rattle.conn_model.specs.declared.plain.Plain.{Plain}
use Rattle.conn_model.specs.declared.plain.Row.{Row}
use Rattle.conn_model.specs.declared.plain.TableState.{TableState}
use Rattle.conn_model.specs.declared.plain.Version.{Version}
use Rattle.conn_model.specs.declared.reply.Reply.{Reply}
use Rattle.conn_model.specs.declared.reply.Said.{Said}
use Rattle.conn_model.specs.declared.reply.Said.TheVariants as saids
use Rattle.conn_model.specs.declared.reply.Said.TheVariants.{Offer}
use Rattle.conn_model.specs.Words.{row_at}
use Rattle.conn_model.specs.Answer.{answer_in, at_moment, version_at}
use Rattle.conn_model.specs.Counts.{server_of}
use Rattle.conn_model.specs.Servers.{cursor_after, cursor_at, cursors_after, with_cursor}
use Rattle.conn_model.specs.History.{after, arrivals, ended_by, entry, frontend_after, id_of, is_last, judging_version, newest_number, phase_by, plan_of, row_after, speaks_to, with_offer, Entry}
use Rattle.conn_model.specs.Tables.{open_tracks, same_id, table_alive, table_at, table_with, table_without, tracks_at}
use Rattle.conn_model.proofs.Lists.{all-append, all-both, all-found, all-more, found_there}
use Rattle.conn_model.proofs.Goes.{well_at}
use Rattle.conn_model.proofs.OneTable.{same_id-is, table_by, table_found, table_with_tracks, table_without_tracks}
use Rattle.conn_model.proofs.VersionSteps.{version_step}
use Rattle.conn_model.proofs.Versions.{version_said}
use Rattle.conn_model.proofs.Moments.{at-twice}
use Rattle.tenant_laws.specs.Parts.{keeps_backend, owns_backend_at, owns_table, Part}
use Rattle.tenant_laws.specs.Agreement.{is_offered_own, is_own_id, owns_id, Agree, IsAlike, IsApart, IsInside, IsOutside, IsSound, LookAlike}
use Rattle.tenant_laws.specs.Runs.{side_of}
use Rattle.tenant_laws.proofs.Lists.{contrary, nothing, of_not, slice_get-other, some_same}
use Rattle.tenant_laws.proofs.Alive.{table-then}
use Rattle.tenant_laws.proofs.Counts.{own-owned}
use Rattle.tenant_laws.proofs.Later.{at-apart, at-sound, look-later}
use Rattle.tenant_laws.proofs.Judging.{IsOfferOn}
use Rattle.tenant_laws.proofs.Sides.{backend-of, by_frontend, by_mark, on_side, phase-side, IsPhaseOn, OnSide}
use Rattle.tenant_laws.proofs.Reports.{mark-outside}
use Rattle.tenant_laws.proofs.Same.{row-own}
use Rattle.tenant_laws.proofs.PartReplies.{part_reply, PartReply}
use Rattle.tenant_laws.proofs.Step.{all-by_counter, frontend-at, inside-apart, names-after, named-apart, number-after, outside-apart, own-there, plan-kept, plans-apart, rows-after, sound-step, step-own, step-plan, table-stays, version-before}

-- Tracks in other tables leave a table as it is.

with-other : (moment : ℕ) (tracks made : List Track) (table : TableState) → AllByRecursion (λ t. same_id table.id t.table ≡ false) made → table_with_tracks moment tracks made table ≡ table
with-other moment tracks [] table other = refl
with-other moment tracks (t ∷ made) table other =
    let one : table_with moment tracks t table ≡ table = rw other.0 refl in
    ap (table_with_tracks moment (tracks ++ t ∷ []) made) one ∙ with-other moment (tracks ++ t ∷ []) made table other.1

without-other : (moment : ℕ) (ended : List Track) (table : TableState) → AllByRecursion (λ t. same_id table.id t.table ≡ false) ended → table_without_tracks moment ended table ≡ table
without-other moment [] table other = refl
without-other moment (t ∷ ended) table other =
    let one : table_without moment t table ≡ table = rw other.0 refl in
    ap (table_without_tracks moment ended) one ∙ without-other moment ended table other.1

-- what is not the part's is not in its table
not-in : (part : Part) (tables : List TableState) (id : TableId) (table : TableState) (ts : List Track) → table_at tables id ≡ Some table → owns_table part table.table ≡ true →
    AllByRecursion (λ t. owns_id part tables t.table ≡ false) ts → AllByRecursion (λ t. same_id table.id t.table ≡ false) ts
not-in part tables id table ts there owned foreign =
    all-more (λ (t : Track). owns_id part tables t.table ≡ false) (λ (t : Track). same_id table.id t.table ≡ false) ts (λ t out. by t out (same_id table.id t.table) refl) foreign
  where
    by : (t : Track) → owns_id part tables t.table ≡ false → (b : Bool) → same_id table.id t.table ≡ b → same_id table.id t.table ≡ false
    by t out true e =
        let level : t.table ≡ id = sym (same_id-is table.id t.table e) ∙ table_found tables id table there in
        let own : owns_id part tables t.table ≡ true = rw (level, there) owned in
        contrary (owns_id part tables t.table) own out
    by t out false e = e

module _ (part : Part) (p : Plain) (sound : IsSound p) (apart : IsApart part p) (e : Entry) (is : answer_in p e.moment e.event ≡ Ok e.reply) (facts : PartReply part false p e) where
  elsewhere : (n : ℕ) → part.frontends n ≡ true → slice_get p.frontends n ≡ slice_get (after p (e ∷ [])).frontends n
  elsewhere n in' = sym (ap (λ fs. slice_get fs n) facts.moved ∙ slice_get-other p.frontends facts.id.frontend n facts.own' (λ same. contrary (part.frontends n) in' (ap part.frontends same ∙ facts.on)))

  lines : LinesDiffer facts.version.plan
  lines = sound.lines (judging_version p.frontends (newest_number p) e.reply.said) facts.version facts.found

  -- Cursors.

  judged-cursors : (n : ℕ) → owns_backend_at part facts.version.plan n ≡ true → (line server : ℕ) (k : ℕ) (backend : Backend) (own : Server) → slice_get facts.version.plan.backends k ≡ Some backend →
      slice_get backend.servers server ≡ Some own → own.line ≡ line → keeps_backend part false facts.version.plan k ≡ true → (cursors : List (Option Place)) →
      slice_get cursors n ≡ slice_get (cursors_after facts.version.plan line server cursors) n
  judged-cursors n owns line server k backend own there found on_line out cursors = by (position (has_line line) facts.version.plan.backends) refl
    where
      foreign : part.backend_names backend.name ≡ false
      foreign = let kept : not (owns_backend_at part facts.version.plan k) ≡ true = out in of_not (part.backend_names backend.name) (rw there at kept)

      with-backend : (i : ℕ) → slice_get facts.version.plan.backends i ≡ Some backend → slice_get cursors n ≡ slice_get (with_cursor facts.version.plan.backends i server cursors) n
      with-backend i at =
          let differs : n ≢ i = λ (same : n ≡ i). contrary (owns_backend_at part facts.version.plan n) owns
          (ap (owns_backend_at part facts.version.plan) same ∙ ap (λ (o : Option Backend). option_map_or (λ backend. part.backend_names backend.name) o false) at ∙ foreign) in
          rw at (sym (slice_get-other cursors i n (cursor_after backend server (cursor_at cursors i)) differs))

      by : (o : Option ℕ) → position (has_line line) facts.version.plan.backends ≡ o → slice_get cursors n ≡ slice_get (cursors_after facts.version.plan line server cursors) n
      by None e' = rw e' refl
      by (Some i) e' =
          let at : slice_get facts.version.plan.backends i ≡ Some backend =
          sym (found_there (has_line line) facts.version.plan.backends i e') ∙ backend-of facts.version.plan lines k server line backend own there found on_line in
          rw e' (with-backend i at)

  cursors-said : (k : ℕ) (v : Version) → version_at p.versions k ≡ Some v → (n : ℕ) → owns_backend_at part v.plan n ≡ true → (said : Said) → IsOfferOn part false facts.version.plan said →
      slice_get v.cursors n ≡ slice_get (version_said (judging_version p.frontends (newest_number p) e.reply.said) said v).cursors n
  cursors-said k v there n owns (Offer id used line server to pair send) offered = by (v.number == judging_version p.frontends (newest_number p) e.reply.said) refl
    where
      by : (c : Bool) → (v.number == judging_version p.frontends (newest_number p) e.reply.said) ≡ c →
          slice_get v.cursors n ≡ slice_get (with_offer (judging_version p.frontends (newest_number p) e.reply.said) line server v).cursors n
      by false ec = rw ec refl
      by true ec =
          let level : v.number ≡ judging_version p.frontends (newest_number p) e.reply.said = eqb-true v.number (judging_version p.frontends (newest_number p) e.reply.said) ec in
          let own : (v.number == k) ≡ true = (all-found (λ (x : Version). Unit {0}) (λ (x : Version). x.number == k) p.versions v (all-unit p.versions) there).1 in
          let first : v.number ≡ k = eqb-true v.number k own in
          let same : v ≡ facts.version = some_same (sym there ∙ ap (version_at p.versions) (sym first ∙ level) ∙ facts.found) in
          let owns' : owns_backend_at part facts.version.plan n ≡ true = ap (λ (x : Version). owns_backend_at part x.plan n) (sym same) ∙ owns in
          rw ec
          (judged-cursors n owns' line server offered.0 offered.1 offered.2 offered.3 offered.4 offered.5 offered.6 v.cursors
          ∙ ap (λ (x : Version). slice_get (cursors_after x.plan line server v.cursors) n) (sym same))
        where
          all-unit : (vs : List Version) → AllByRecursion (λ (x : Version). Unit {0}) vs
          all-unit [] = tt
          all-unit (x ∷ vs) = (tt, all-unit vs)
  cursors-said k v there n owns said offered = refl

  -- Tables.

  made-outside : AllByRecursion (λ t. owns_id part p.tables t.table ≡ false) e.reply.tracks.items
  made-outside = facts.said.tracks

  ended-outside : AllByRecursion (λ t. owns_id part p.tables t.table ≡ false) (ended_by p.frontends e.reply)
  ended-outside = by (is_last e.reply.said) refl
    where
      row-tracks : (o : Option Row) → row_at p.frontends facts.id ≡ o → AllByRecursion (λ t. owns_id part p.tables t.table ≡ false) (option_map_or (λ (row : Row). row.tracks) o [])
      row-tracks None there = tt
      row-tracks (Some row) there =
          let got = row-own p.frontends facts.id row there in
          let own : FrontendRows = got.0 in
          (all-found (IsOutside part p.tables) (λ r. r.serial == facts.id.serial) own.rows row (apart.outside facts.id.frontend own facts.on got.1) got.2).0.tracks

      tracked : AllByRecursion (λ t. owns_id part p.tables t.table ≡ false) (option_map_or (tracks_at p.frontends) (id_of e.reply.said) [])
      tracked = subst (λ (o : Option ConnId). AllByRecursion (λ t. owns_id part p.tables t.table ≡ false) (option_map_or (tracks_at p.frontends) o [])) (sym facts.says) (row-tracks (row_at p.frontends facts.id) refl)

      by : (b : Bool) → is_last e.reply.said ≡ b → AllByRecursion (λ t. owns_id part p.tables t.table ≡ false) (ended_by p.frontends e.reply)
      by false eb = rw eb tt
      by true eb =
          rw eb (all-by_counter (λ t. owns_id part p.tables t.table ≡ false) (option_map_or (tracks_at p.frontends) (id_of e.reply.said) [] ++ e.reply.tracks.items)
          (all-append (λ t. owns_id part p.tables t.table ≡ false) (option_map_or (tracks_at p.frontends) (id_of e.reply.said) []) e.reply.tracks.items tracked made-outside))

  entries-same : (k : ℕ) (v v' : Version) (id : TableId) → version_at p.versions k ≡ Some v → version_at (after p (e ∷ [])).versions k ≡ Some v' → is_own_id part v id ≡ true → is_own_id part v' id ≡ true →
      table_at (at_moment e.moment p).tables id ≡ table_at (after p (e ∷ [])).tables id
  entries-same k v v' id there there' own own' =
      let got = own-owned part p.tables v id (sound.written k v there) own in
      let now : ℕ = max p.clock e.moment in
      let table : TableState = table_alive now (open_tracks p.frontends) got.0 in
      let found : table_at (at_moment e.moment p).tables id ≡ Some table = table-then now (open_tracks p.frontends) p.tables id ∙ ap (option_map (table_alive now (open_tracks p.frontends))) got.1 in
      let made : table_with_tracks now (open_tracks p.frontends) e.reply.tracks.items table ≡ table = with-other now (open_tracks p.frontends) e.reply.tracks.items table (not-in part p.tables id got.0 e.reply.tracks.items got.1 got.2 made-outside) in
      let ended : table_without_tracks now (ended_by p.frontends e.reply) table ≡ table = without-other now (ended_by p.frontends e.reply) table (not-in part p.tables id got.0 (ended_by p.frontends e.reply) got.1 got.2 ended-outside) in
      let same : table_by now p.frontends e.reply table ≡ table = ap (table_without_tracks now (ended_by p.frontends e.reply)) made ∙ ended in
      let stays : table_at (after p (e ∷ [])).tables id ≡ option_map (table_by now p.frontends e.reply) (table_at (at_moment e.moment p).tables id) =
      table-stays p sound.well e facts.brings id (own-there part (after p (e ∷ [])) (sound-step p sound e is facts.brings).well k v' id there' own') in
      found ∙ ap Some (sym same) ∙ ap (option_map (table_by now p.frontends e.reply)) (sym found) ∙ sym stays

  versions-alike : (k : ℕ) (v v' : Version) → version_at p.versions k ≡ Some v → version_at (after p (e ∷ [])).versions k ≡ Some v' → IsAlike part (at_moment e.moment p).tables (after p (e ∷ [])).tables v v'
  versions-alike k v v' there there' =
      let got = version-before p sound.well e facts.brings k v' there' in
      let first : v ≡ got.0 = some_same (sym there ∙ got.1) in
      let is_step : v' ≡ version_step p e v = got.2 ∙ ap (version_step p e) (sym first) in
      let parts = step-plan p e v in
      record {
        number = sym (ap (λ (x : Version). x.number) is_step ∙ parts.0);
        plan = sym (ap (λ (x : Version). x.plan) is_step ∙ parts.1.0);
        tables = sym (ap (λ (x : Version). x.tables) is_step ∙ parts.1.1);
        cursors = λ n owns. cursors-said k v there n owns e.reply.said facts.said.offered ∙ ap (λ (x : Version). slice_get x.cursors n) (sym is_step);
        entries = λ id own. entries-same k v v' id there there' own (ap (λ (x : Version). is_own_id part x id) is_step ∙ step-own part p e v id ∙ own);
      }

  -- The others' connections.

  phase-outside : (row : Row) → row.version ≡ judging_version p.frontends (newest_number p) e.reply.said → is_offered_own part row ≡ false →
      IsPhaseOn part false (phase_by (plan_of p [] row.version) e.event e.reply.said row.phase)
  phase-outside row speaks out =
      let plan : plan_of p [] row.version ≡ Some facts.version.plan =
      plan-kept p row.version ∙ ap (λ k. option_map (λ (v : Version). v.plan) (version_at p.versions k)) speaks ∙ ap (option_map (λ (v : Version). v.plan)) facts.found in
      phase-side part false (plan_of p [] row.version) facts.version.plan plan lines e.event row.phase e.reply.said out facts.said.offered

  row-outside : (n : ℕ) (row : Row) → (speaks_to n row.serial e.reply.said ≡ true → row.version ≡ judging_version p.frontends (newest_number p) e.reply.said) → IsOutside part p.tables row →
      IsOutside part p.tables (row_after p n (e ∷ []) row)
  row-outside n row judges out = by (speaks_to n row.serial e.reply.said) refl
    where
      by : (b : Bool) → speaks_to n row.serial e.reply.said ≡ b → IsOutside part p.tables (row_after p n (e ∷ []) row)
      by false eb =
          rw eb (record {
            tracks = all-by_counter (λ (t : Track). owns_id part p.tables t.table ≡ false) (row.tracks ++ []) (all-append (λ (t : Track). owns_id part p.tables t.table ≡ false) row.tracks [] out.tracks tt);
            offered = out.offered;
          })
      by true eb =
          rw eb (record {
            tracks = all-by_counter (λ (t : Track). owns_id part p.tables t.table ≡ false) (row.tracks ++ e.reply.tracks.items)
                (all-append (λ (t : Track). owns_id part p.tables t.table ≡ false) row.tracks e.reply.tracks.items out.tracks made-outside);
            offered = phase-outside row (judges eb) out.offered;
          })

  outside-now : (n : ℕ) (own : FrontendRows) → part.frontends n ≡ false → slice_get (after p (e ∷ [])).frontends n ≡ Some own → AllByRecursion (IsOutside part (after p (e ∷ [])).tables) own.rows
  outside-now n own out there = by (slice_get p.frontends n) refl (sym (frontend-at p (e ∷ []) n) ∙ there)
    where
      fresh : (row : Row) → (row.version ≡ newest_number p) × ((row.tracks ≡ []) × (server_of row.phase ≡ None)) → IsOutside part p.tables row
      fresh row known = record {
        tracks = subst (AllByRecursion (λ (t : Track). owns_id part p.tables t.table ≡ false)) (sym known.1.0) tt;
        offered = ap (λ o. option_map_or (λ (server : ServerIdentity). part.backend_names server.backend) o false) known.1.1;
      }

      by : (o : Option FrontendRows) → slice_get p.frontends n ≡ o → option_map (frontend_after p (e ∷ []) n) o ≡ Some own → AllByRecursion (IsOutside part (after p (e ∷ [])).tables) own.rows
      by None e' is' = nothing is'
      by (Some before) e' is' =
          let listed : List Row = before.rows ++ arrivals p n (e ∷ []) in
          let outside : AllByRecursion (IsOutside part p.tables) listed =
          all-append (IsOutside part p.tables) before.rows (arrivals p n (e ∷ [])) (apart.outside n before out e')
          (all-more (λ (row : Row). (row.version ≡ newest_number p) × ((row.tracks ≡ []) × (server_of row.phase ≡ None))) (IsOutside part p.tables) (arrivals p n (e ∷ [])) fresh (facts.comes n)) in
          let moved : AllByRecursion (λ row. IsOutside part p.tables (row_after p n (e ∷ []) row)) listed =
          all-more (λ (row : Row). (speaks_to n row.serial e.reply.said ≡ true → row.version ≡ judging_version p.frontends (newest_number p) e.reply.said) × IsOutside part p.tables row)
          (λ row. IsOutside part p.tables (row_after p n (e ∷ []) row)) listed (λ row both'. row-outside n row both'.0 both'.1)
          (all-both (λ (row : Row). speaks_to n row.serial e.reply.said ≡ true → row.version ≡ judging_version p.frontends (newest_number p) e.reply.said) (IsOutside part p.tables) listed (facts.judges n before e') outside) in
          subst (λ (f : FrontendRows). AllByRecursion (IsOutside part (after p (e ∷ [])).tables) f.rows) (some_same is')
          (outside-apart part p sound apart e facts.brings (frontend_after p (e ∷ []) n before).rows (rows-after p e n before (IsOutside part p.tables) moved))

  inside-now : (n : ℕ) (own : FrontendRows) → part.frontends n ≡ true → slice_get (after p (e ∷ [])).frontends n ≡ Some own → AllByRecursion (IsInside part (after p (e ∷ [])).versions) own.rows
  inside-now n own in' there =
      inside-apart part p sound apart e facts.brings own.rows (well_at (after p (e ∷ [])) (sound-step p sound e is facts.brings).well n own there).kept
      (apart.inside n own in' (elsewhere n in' ∙ there))

  pub outside-alike : LookAlike part (at_moment e.moment p) (after p (e ∷ []))
  outside-alike = record {
    listeners = refl;
    names = sym (names-after p (e ∷ []));
    number = sym (number-after p sound.well e facts.brings);
    frontends = elsewhere;
    versions = λ k meant v v' there there'. versions-alike k v v' there there';
    down = λ server named. ap (list_any (same_server server)) (sym facts.stays);
    left = at-apart part p e.moment apart;
    right = record { plans = plans-apart part p sound apart e facts.brings; named = named-apart part p sound apart e facts.brings; outside = outside-now; inside = inside-now };
  }

-- a step outside the part, answered in a state, leaves one that agrees with it
pub outside-step : (part : Part) (p : Plain) → IsSound p → IsApart part p → (moment : ℕ) (event : OwnedEvent) (reply : Reply) → side_of part p event ≡ Some false →
    answer_in p moment event ≡ Ok reply → Agree part p (after p (entry moment event reply ∷ []))
outside-step part p sound apart moment event reply off is =
    let e : Entry = entry moment event reply in
    let now : ℕ = max p.clock (max p.clock moment) in
    let less : moment ≤ max p.clock now = omega arith in
    subst (λ s. LookAlike part s (at_moment now (after p (e ∷ [])))) (at-twice p moment now less)
    (look-later part (at_moment moment p) (after p (e ∷ [])) (at-sound p sound moment) (by (on_side part false p event off)) now refl)
  where
    by : OnSide part false p event → LookAlike part (at_moment moment p) (after p (entry moment event reply ∷ []))
    by (by_frontend n on out) = outside-alike part p sound apart (entry moment event reply) is (part_reply part false p sound apart moment n event reply on out is)
    by (by_mark number n health backend marks there foreign) =
        subst (λ ev. LookAlike part (at_moment moment p) (after p (entry moment ev reply ∷ []))) (sym marks)
        (mark-outside part p sound apart moment number n health backend reply there foreign (subst (λ ev. answer_in p moment ev ≡ Ok reply) marks is))
