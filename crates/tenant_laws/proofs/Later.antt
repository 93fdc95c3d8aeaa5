-- What holds of states, and of two that look alike to a part, holds of them as they are at a later moment.
use Rattle.std.specs.Prelude.{ℕ, true, false, List, max, Option, Some, None, option_map, Ok, Err, Result, refl, ◌≤◌, ◌≡◌}
use Rattle.std.specs.List.{AllByRecursion}
use Rattle.std.specs.Option.{option_map_or}
use Rattle.std.proofs.Common.{sym, ap, subst, ◌∙◌, arith}
use Rattle.std.proofs.Math.Path.{fun_ext}
use Rattle.addr_core.specs.declared.addr.Addr.{Addr}
use Rattle.stick_core.specs.PlainEntries.{alive}
use Rattle.plan_types.specs.declared.plan.Backend.{Backend}
use Rattle.plan_types.specs.declared.plan.Plan.{Plan}
use Rattle.plan_types.specs.declared.track.TableId.{TableId}
use Rattle.plan_types.specs.declared.track.Track.{Track}
use Rattle.config_core.specs.Meaning.{meaning}
use Rattle.config_core.specs.declared.fault.OpenFault.{OpenFault}
use Rattle.conn_model.specs.declared.event.OwnedEvent.{OwnedEvent}
use Rattle.conn_model.specs.declared.event.OwnedEvent.TheVariants.{Accept, Piece, Connected, ConnectFailed, Close, Expire, Reload, Mark}
use Rattle.conn_model.specs.declared.plain.Plain.{Plain}
use Rattle.conn_model.specs.declared.plain.Row.{Row}
use Rattle.conn_model.specs.declared.plain.TableState.{TableState}
use Rattle.conn_model.specs.declared.plain.Version.{Version}
use Rattle.conn_model.specs.Answer.{answer_in, at_moment, reload_answer}
use Rattle.conn_model.specs.Tables.{open_tracks, table_alive, table_at, tables_alive, trackers, written_tables}
use Rattle.conn_model.proofs.Lists.{all-more}
use Rattle.conn_model.proofs.Moments.{at-twice, at-well}
use Rattle.conn_model.proofs.OneTable.{table_found}
use Rattle.tenant_laws.specs.Parts.{owns_table, Part}
use Rattle.tenant_laws.specs.Runs.{frontend_of, side_of}
use Rattle.tenant_laws.specs.Agreement.{owns_id, Agree, IsAlike, IsApart, IsOutside, IsSound, IsWritten, LookAlike}
use Rattle.tenant_laws.proofs.Alive.{owns-then, table-then, written-then}
use Rattle.tenant_laws.proofs.Counts.{own-is, tracks-same}
use Rattle.tenant_laws.proofs.Lists.{some_same}
use Rattle.tenant_laws.proofs.Sides.{by_frontend, by_mark, on_side, OnSide}
use Rattle.tenant_laws.proofs.Same.{answers-now, apart-of, marks-now, newest_backend-same, reloads-now}

-- One state.

pub at-sound : (p : Plain) → IsSound p → (moment : ℕ) → IsSound (at_moment moment p)
at-sound p sound moment = record {
  well = at-well p sound.well moment;
  written = λ k v found.
      all-more (IsWritten p.tables) (IsWritten (at_moment moment p).tables) (written_tables (Some v)) (λ pair is. written-then (max p.clock moment) (open_tracks p.frontends) p.tables pair.1 ∙ is) (sound.written k v found);
  lines = sound.lines;
  offers = sound.offers;
}

outside-as : (part : Part) (ts us : List TableState) → ((id : TableId) → owns_id part us id ≡ owns_id part ts id) → (rows : List Row) → AllByRecursion (IsOutside part ts) rows → AllByRecursion (IsOutside part us) rows
outside-as part ts us same rows all =
    all-more (IsOutside part ts) (IsOutside part us) rows
    (λ row is. record {
      tracks = all-more (λ (t : Track). owns_id part ts t.table ≡ false) (λ (t : Track). owns_id part us t.table ≡ false) row.tracks (λ t out. same t.table ∙ out) is.tracks;
      offered = is.offered;
    }) all

pub at-apart : (part : Part) (p : Plain) (moment : ℕ) → IsApart part p → IsApart part (at_moment moment p)
at-apart part p moment apart = record {
  plans = apart.plans;
  named = apart.named;
  outside = λ n own out there. outside-as part p.tables (at_moment moment p).tables (owns-then part (max p.clock moment) (open_tracks p.frontends) p.tables) own.rows (apart.outside n own out there);
  inside = apart.inside;
}

pub from-apart : (part : Part) (p : Plain) (moment : ℕ) → IsApart part (at_moment moment p) → IsApart part p
from-apart part p moment apart = record {
  plans = apart.plans;
  named = apart.named;
  outside = λ n own out there. outside-as part (at_moment moment p).tables p.tables (λ id. sym (owns-then part (max p.clock moment) (open_tracks p.frontends) p.tables id)) own.rows (apart.outside n own out there);
  inside = apart.inside;
}

-- Two states.

-- a state looks like itself
pub alike-same : (part : Part) (p : Plain) → IsApart part p → LookAlike part p p
alike-same part p apart = record {
  listeners = refl;
  names = refl;
  number = refl;
  frontends = λ n in'. refl;
  versions = λ k meant v w found found'.
      let same : v ≡ w = some_same (sym found ∙ found') in
      subst (λ (x : Version). IsAlike part p.tables p.tables v x) same (record { number = refl; plan = refl; tables = refl; cursors = λ n owns. refl; entries = λ id own. refl });
  down = λ server named. refl;
  left = apart;
  right = apart;
}

-- time makes the same of a table of the part
pub alive-same : (part : Part) (p q : Plain) → LookAlike part p q → (moment : ℕ) (id : TableId) → table_at p.tables id ≡ table_at q.tables id → owns_id part p.tables id ≡ true →
    table_at (tables_alive moment (open_tracks p.frontends) p.tables) id ≡ table_at (tables_alive moment (open_tracks q.frontends) q.tables) id
alive-same part p q look moment id same owned =
    table-then moment (open_tracks p.frontends) p.tables id ∙ by (table_at p.tables id) refl ∙ ap (option_map (table_alive moment (open_tracks q.frontends))) same
    ∙ sym (table-then moment (open_tracks q.frontends) q.tables id)
  where
    owned' : owns_id part q.tables id ≡ true
    owned' = ap (λ o. option_map_or (λ (x : TableState). owns_table part x.table) o false) (sym same) ∙ owned

    counted : (key : Addr) → trackers (open_tracks p.frontends) id key ≡ trackers (open_tracks q.frontends) id key
    counted = tracks-same part p.tables q.tables p.frontends q.frontends (apart-of part p look.left) (apart-of part q look.right) look.frontends id owned owned'

    by : (o : Option TableState) → table_at p.tables id ≡ o → option_map (table_alive moment (open_tracks p.frontends)) (table_at p.tables id) ≡ option_map (table_alive moment (open_tracks q.frontends)) (table_at p.tables id)
    by None found = rw found refl
    by (Some table) found =
        let first : table.id ≡ id = table_found p.tables id table found in
        let all : trackers (open_tracks p.frontends) table.id ≡ trackers (open_tracks q.frontends) table.id =
        fun_ext (λ key. ap (λ i. trackers (open_tracks p.frontends) i key) first ∙ counted key ∙ ap (λ i. trackers (open_tracks q.frontends) i key) (sym first)) in
        rw found (ap (λ (f : Addr → ℕ). Some (record table { entries = alive f table.table.expire moment table.entries })) all)

pub look-later : (part : Part) (p q : Plain) → IsSound p → LookAlike part p q → (moment : ℕ) → max p.clock moment ≡ max q.clock moment → LookAlike part (at_moment moment p) (at_moment moment q)
look-later part p q sound look moment clocks = record {
  listeners = look.listeners;
  names = look.names;
  number = look.number;
  frontends = look.frontends;
  versions = λ k meant v w found found'.
      let alike : IsAlike part p.tables q.tables v w = look.versions k meant v w found found' in
      record {
        number = alike.number;
        plan = alike.plan;
        tables = alike.tables;
        cursors = alike.cursors;
        entries = λ id own.
            alive-same part p q look (max p.clock moment) id (alike.entries id own) (own-is part p.tables v id (sound.written k v found) own)
            ∙ ap (λ n. table_at (tables_alive n (open_tracks q.frontends) q.tables) id) clocks;
      };
  down = look.down;
  left = at-apart part p moment look.left;
  right = at-apart part q moment look.right;
}

-- two that agree look alike from the later of their moments on
pub agree-at : (part : Part) (p q : Plain) → IsSound p → Agree part p q → (moment : ℕ) → p.clock ≤ moment → q.clock ≤ moment → LookAlike part (at_moment moment p) (at_moment moment q)
agree-at part p q sound agree moment late late' =
    let now : ℕ = max p.clock q.clock in
    let clocks : max (max p.clock now) moment ≡ max (max q.clock now) moment = omega (arith, late, late') in
    let less : now ≤ max p.clock moment = omega (arith, late, late') in
    let less' : now ≤ max q.clock moment = omega (arith, late, late') in
    subst (λ s. LookAlike part s (at_moment moment q)) (at-twice p now moment less)
    (subst (LookAlike part (at_moment moment (at_moment now p))) (at-twice q now moment less') (look-later part (at_moment now p) (at_moment now q) (at-sound p sound now) agree moment clocks))

-- an event is on one side in both
pub sides-same : (part : Part) (p q : Plain) → IsSound p → IsSound q → Agree part p q → (event : OwnedEvent) → side_of part p event ≡ side_of part q event
sides-same part p q sound sound' agree (Accept listener real) = ap (λ ls. option_map part.frontends (frontend_of ls (Accept listener real))) agree.listeners
sides-same part p q sound sound' agree (Piece id bytes) = refl
sides-same part p q sound sound' agree (Connected id) = refl
sides-same part p q sound sound' agree (ConnectFailed id) = refl
sides-same part p q sound sound' agree (Close id why) = refl
sides-same part p q sound sound' agree (Expire id) = refl
sides-same part p q sound sound' agree (Reload text) = refl
sides-same part p q sound sound' agree (Mark number n health) =
    let now : ℕ = max p.clock q.clock in
    ap (option_map (λ (backend : Backend). part.backend_names backend.name)) (newest_backend-same part (at_moment now p) (at_moment now q) (at-sound p sound now) (at-sound q sound' now) agree number)

-- an event on the part has one answer in both
pub answers-same : (part : Part) (p q : Plain) → IsSound p → IsSound q → Agree part p q → (moment : ℕ) (event : OwnedEvent) → p.clock ≤ moment → q.clock ≤ moment →
    side_of part p event ≡ Some true → answer_in p moment event ≡ answer_in q moment event
answers-same part p q sound sound' agree moment event late late' is = by (on_side part true p event is)
  where
    by : OnSide part true p event → answer_in p moment event ≡ answer_in q moment event
    by (by_frontend n on in') =
        let clocks : max p.clock moment ≡ max q.clock moment = omega (arith, late, late') in
        answers-now part (at_moment moment p) (at_moment moment q) (at-sound p sound moment) (at-sound q sound' moment) (agree-at part p q sound agree moment late late') n event clocks on in'
    by (by_mark number n health backend marks there named) =
        subst (λ ev. answer_in p moment ev ≡ answer_in q moment ev) (sym marks)
        (marks-now part (at_moment moment p) (at_moment moment q) (at-sound p sound moment) (at-sound q sound' moment) (agree-at part p q sound agree moment late late') number n health)

-- so has a reload
reload-then : (p : Plain) (moment : ℕ) (read : Result Plan OpenFault) → reload_answer (at_moment moment p) read ≡ reload_answer p read
reload-then p moment (Ok plan) = refl
reload-then p moment (Err fault) = refl

pub reloads-same : (part : Part) (p q : Plain) → IsSound p → IsSound q → Agree part p q → (moment : ℕ) (text : List ℕ) → answer_in p moment (Reload text) ≡ answer_in q moment (Reload text)
reloads-same part p q sound sound' agree moment text =
    let now : ℕ = max p.clock q.clock in
    reload-then p moment (meaning text) ∙ sym (reload-then p now (meaning text)) ∙ reloads-now part (at_moment now p) (at_moment now q) (at-sound p sound now) (at-sound q sound' now) agree text
    ∙ reload-then q now (meaning text) ∙ sym (reload-then q moment (meaning text))
