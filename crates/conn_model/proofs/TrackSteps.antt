-- One step keeps what open connections track listed.
use Rattle.std.specs.Prelude.{ℕ, Bool, true, false, not, List, [], map, max, filter, find, slice_get, Option, Some, None, IsSome, Ok, refl, ◌+◌, ◌≤◌, ◌<◌, ◌≡◌, ◌==◌, ◌∷◌, ◌++◌, if◌then◌else◌}
use Rattle.std.specs.List.{list_any, AllByRecursion}
use Rattle.std.specs.Option.{option_map_or}
use Rattle.std.proofs.Common.{sym, ap, ◌∙◌, subst, arith}
use Rattle.std.proofs.lemmas.Bool.{false≢true, eqb-true, eq-eqb}
use Rattle.stick_core.specs.PlainEntries.{is_in}
use Rattle.plan_types.specs.declared.track.TableId.{TableId}
use Rattle.plan_types.specs.declared.track.Track.{Track}
use Rattle.conn_model.specs.declared.event.OwnedEvent.{OwnedEvent}
use Rattle.conn_model.specs.declared.event.OwnedEvent.TheVariants.{Accept, Piece, Connected, ConnectFailed, Close, Expire, Reload, Mark}
use Rattle.conn_model.specs.declared.event.ConnId.{ConnId}
use Rattle.conn_model.specs.declared.reply.Said.{Said}
use Rattle.conn_model.specs.declared.plain.Row.{Row}
use Rattle.conn_model.specs.declared.plain.FrontendRows.{FrontendRows}
use Rattle.conn_model.specs.declared.plain.TableState.{TableState}
use Rattle.conn_model.specs.declared.plain.Plain.{Plain}
use Rattle.conn_model.specs.Answer.{answer_in, at_moment, row_at, row_in, version_at}
use Rattle.conn_model.specs.Words.{Rise}
use Rattle.conn_model.specs.Tables.{by_counter, is_listed, open_tracks, same_id, table_at, IsTrackListed}
use Rattle.conn_model.specs.History.{after, arrival, frontend_after, has_ended, newest_number, now_of, row_after, speaks_to, tables_after, tables_of, versions_after, AreTracksListed, Entry, IsFrontendWell, IsLegal, IsWell}
use Rattle.conn_model.proofs.Lists.{all-append, all-at, all-both, all-each, all-filter, all-found, all-from_zero, all-map, all-more}
use Rattle.conn_model.proofs.VersionSteps.{rows_known, rows_needed, tables_of_step}
use Rattle.conn_model.proofs.Kept.{needed_after}
use Rattle.conn_model.proofs.Replies.{answered, IsNew, IsOld, Says}
use Rattle.conn_model.proofs.Serials.{arrival-all, reload-silent, speaks_that, mark-silent}
use Rattle.conn_model.proofs.Goes.{well_at}
use Rattle.conn_model.proofs.Nothing.{after-nil}
use Rattle.conn_model.proofs.Moments.{at-well}
use Rattle.conn_model.proofs.OneTable.{same_id-refl, table_at-map, table_by-entries, table_found}
use Rattle.conn_model.proofs.Listed.{all-in, in-open, table_by-new, table_by-stays, IsIn}
use Rattle.conn_model.proofs.Sources.{has_source, judging, HasSource, IsOfSource}
use Rattle.conn_model.proofs.TableSteps.{listed_in, listed_there, passed, table_kept, table_step}

-- What is listed after a step.

-- what was tracked and listed
old_listed : (q : Plain) (e : Entry) (track : Track) → IsIn (open_tracks q.frontends) track → is_listed (passed q e) track ≡ true →
    is_listed (map (table_step q e) (passed q e)) track ≡ true
old_listed q e track found is = by (table_at (passed q e) track.table) refl
  where
    by : (o : Option TableState) → table_at (passed q e) track.table ≡ o → is_listed (map (table_step q e) (passed q e)) track ≡ true
    by None at' = absurd (false≢true (rw at' at is))
    by (Some table) at' =
        let on : same_id table.id track.table ≡ true = ap (λ i. same_id i track.table) (table_found (passed q e) track.table table at') ∙ same_id-refl track.table in
        rw (table_at-map (table_step q e) (table_by-entries (max q.clock e.moment) q.frontends e.reply) (passed q e) track.table, at') (table_by-stays (max q.clock e.moment) q.frontends e.reply track table found on (rw at' at is))

all-for : {X Y : Type 0} (P : X → Y → Type 0) (ys : List Y) → ((x : X) → AllByRecursion (P x) ys) → AllByRecursion (λ y. (x : X) → P x y) ys
all-for P [] each = tt
all-for P (y ∷ ys) each = ((λ x. (each x).0), all-for P ys (λ x. (each x).1))

-- what a step tracks
new_listed : (q : Plain) (e : Entry) (ids : List TableId) (source : _) → AllByRecursion (IsOfSource (open_tracks q.frontends) (passed q e) ids source) e.reply.tracks.items →
    AllByRecursion (IsTrackListed ids (map (table_step q e) (passed q e))) e.reply.tracks.items
new_listed q e ids source all =
    let New : TableState → Track → Type 0 = λ table track. same_id table.id track.table ≡ true → is_in track.key (table_step q e table).entries ≡ true in
    all-more (λ track. IsOfSource (open_tracks q.frontends) (passed q e) ids source track × ((table : TableState) → New table track)) (IsTrackListed ids (map (table_step q e) (passed q e))) e.reply.tracks.items
    (λ track both. one track both.0 both.1)
    (all-both (IsOfSource (open_tracks q.frontends) (passed q e) ids source) (λ track. (table : TableState) → New table track) e.reply.tracks.items all (all-for New e.reply.tracks.items (table_by-new (max q.clock e.moment) q.frontends e.reply)))
  where
    one : (track : Track) → IsOfSource (open_tracks q.frontends) (passed q e) ids source track →
        ((table : TableState) → same_id table.id track.table ≡ true → is_in track.key (table_step q e table).entries ≡ true) → IsTrackListed ids (map (table_step q e) (passed q e)) track
    one track known new' =
        let on : same_id known.table.id track.table ≡ true = ap (λ i. same_id i track.table) (table_found (passed q e) track.table known.table known.there) ∙ same_id-refl track.table in
        record {
          table = known.among;
          key = rw (table_at-map (table_step q e) (table_by-entries (max q.clock e.moment) q.frontends e.reply) (passed q e) track.table, known.there) (new' known.table on);
        }

-- A reply speaks to a row of the version that judges its event.

abbrev JudgesRow : Plain → ℕ → Entry → Row → Type 0
JudgesRow q number e row = speaks_to number row.serial e.reply.said ≡ true → row.version ≡ judging q e.event

-- rows of one serial are of one version
same_row : (rows : List Row) (found : Row) (s : ℕ) → Rise (λ row. row.serial) rows → find (λ row. row.serial == s) rows ≡ Some found →
    AllByRecursion (λ row. row.serial ≡ s → row.version ≡ found.version) rows
same_row [] found s rise there = tt
same_row (x ∷ rows) found s rise there = by (x.serial == s) refl (same_row rows found s rise.1)
  where
    by : (b : Bool) → (x.serial == s) ≡ b → (find (λ row. row.serial == s) rows ≡ Some found → AllByRecursion (λ row. row.serial ≡ s → row.version ≡ found.version) rows) →
        AllByRecursion (λ row. row.serial ≡ s → row.version ≡ found.version) (x ∷ rows)
    by true e rest =
        let it : Some x ≡ Some found = rw e at there in
        let same : x ≡ found = cc in
        let serial : x.serial ≡ s = eqb-true x.serial s e in (
          (λ is. ap (λ r. r.version) same),
          all-more (λ row. x.serial < row.serial) (λ row. row.serial ≡ s → row.version ≡ found.version) rows (λ row above is. absurd (omega (arith, above, is, serial))) rise.0,
        )
    by false e rest = ((λ is. absurd (false≢true (sym e ∙ eq-eqb x.serial s is))), rest (rw e at there))

-- an event of an open connection
old_judged : (q : Plain) (number : ℕ) (own : FrontendRows) (id : ConnId) (said : Said) (version : ℕ) → slice_get q.frontends number ≡ Some own → IsFrontendWell q.versions own → IsOld q id said →
    version ≡ option_map_or (λ row. row.version) (row_at q.frontends id) 0 → AllByRecursion (λ row. speaks_to number row.serial said ≡ true → row.version ≡ version) own.rows
old_judged q number own id said version there well is_old is = by (id.frontend == number) refl
  where
    judged : version ≡ is_old.row.version
    judged = is ∙ ap (λ o. option_map_or (λ row. row.version) o 0) is_old.there

    by : (b : Bool) → (id.frontend == number) ≡ b → AllByRecursion (λ row. speaks_to number row.serial said ≡ true → row.version ≡ version) own.rows
    by true e =
        let here : id.frontend ≡ number = eqb-true id.frontend number e in
        let found : row_in id.serial (slice_get q.frontends number) ≡ Some is_old.row = subst (λ n. row_in id.serial (slice_get q.frontends n) ≡ Some is_old.row) here is_old.there in
        let found' : find (λ row. row.serial == id.serial) own.rows ≡ Some is_old.row = ap (row_in id.serial) (sym there) ∙ found in
        all-more (λ row. row.serial ≡ id.serial → row.version ≡ is_old.row.version) (λ row. speaks_to number row.serial said ≡ true → row.version ≡ version) own.rows
        (λ row same spoken. same (sym (speaks_that number row.serial said id is_old.speaks spoken).1) ∙ sym judged)
        (same_row own.rows is_old.row id.serial well.rise found')
    by false e =
        all-each (λ row. speaks_to number row.serial said ≡ true → row.version ≡ version) own.rows
        (λ row spoken. absurd (false≢true (sym e ∙ eq-eqb id.frontend number (speaks_that number row.serial said id is_old.speaks spoken).0)))

-- a reply to an accept speaks to no row that was there
new_judged : (q : Plain) (number : ℕ) (own : FrontendRows) (said : Said) (version : ℕ) → slice_get q.frontends number ≡ Some own → IsFrontendWell q.versions own → IsNew q said →
    AllByRecursion (λ row. speaks_to number row.serial said ≡ true → row.version ≡ version) own.rows
new_judged q number own said version there well new =
    all-more (λ row. row.serial ≤ own.serial) (λ row. speaks_to number row.serial said ≡ true → row.version ≡ version) own.rows
    (λ row below spoken.
    let that : (new.id.frontend ≡ number) × (new.id.serial ≡ row.serial) = speaks_that number row.serial said new.id new.speaks spoken in
    let here : slice_get q.frontends number ≡ Some new.own = subst (λ k. slice_get q.frontends k ≡ Some new.own) that.0 new.there in
    let both : Some own ≡ Some new.own = sym there ∙ here in
    let same : own ≡ new.own = cc in
    let serial : own.serial ≡ new.own.serial = ap (λ l. l.serial) same in
    let next : new.id.serial ≡ new.own.serial + 1 = new.next in
    let mine : new.id.serial ≡ row.serial = that.1 in
    absurd (omega (arith, below, mine, serial, next))) well.given

rows_judged : (q : Plain) (number : ℕ) (own : FrontendRows) (event : OwnedEvent) (said : Said) → slice_get q.frontends number ≡ Some own → IsFrontendWell q.versions own → Says q event said →
    AllByRecursion (λ row. speaks_to number row.serial said ≡ true → row.version ≡ judging q event) own.rows
rows_judged q number own (Accept listener real) said there well says = new_judged q number own said (newest_number q) there well says
rows_judged q number own (Piece id bytes) said there well says = old_judged q number own id said _ there well says refl
rows_judged q number own (Connected id) said there well says = old_judged q number own id said _ there well says refl
rows_judged q number own (ConnectFailed id) said there well says = old_judged q number own id said _ there well says refl
rows_judged q number own (Close id why) said there well says = old_judged q number own id said _ there well says refl
rows_judged q number own (Expire id) said there well says = old_judged q number own id said _ there well says refl
rows_judged q number own (Reload text) said there well says =
    all-each (λ row. speaks_to number row.serial said ≡ true → row.version ≡ newest_number q) own.rows (λ row spoken. absurd (reload-silent q text said number row.serial says spoken))
rows_judged q number own (Mark backend n health) said there well says =
    all-each (λ row. speaks_to number row.serial said ≡ true → row.version ≡ newest_number q) own.rows (λ row spoken. absurd (mark-silent q backend n health said number row.serial says spoken))

-- what an accept opens is of the newest version, and tracked nothing before
abbrev IsArrival : Plain → OwnedEvent → Row → Type 0
IsArrival q event row = (row.version ≡ judging q event) × (row.tracks ≡ [])

arrivals_judged : (q : Plain) (number clock : ℕ) (event : OwnedEvent) (said : Said) → Says q event said → AllByRecursion (IsArrival q event) (arrival number clock (newest_number q) event said)
arrivals_judged q number clock (Accept listener real) said says =
    arrival-all (IsArrival q (Accept listener real)) q number clock (newest_number q) (Accept listener real) said says (λ new real' here accepting. (refl, refl))
arrivals_judged q number clock (Piece id bytes) said says = tt
arrivals_judged q number clock event said says = tt

-- One step.

all-by_counter : (P : Track → Type 0) (tracks : List Track) → AllByRecursion P tracks → AllByRecursion P (by_counter tracks)
all-by_counter P tracks all =
    let of : (n : ℕ) → AllByRecursion P (filter (λ track. track.counter == n) tracks) = λ n. all-filter P (λ track. track.counter == n) tracks all in
    all-append P (filter (λ track. track.counter == 0) tracks ++ filter (λ track. track.counter == 1) tracks) (filter (λ track. track.counter == 2) tracks)
    (all-append P (filter (λ track. track.counter == 0) tracks) (filter (λ track. track.counter == 1) tracks) (of 0) (of 1)) (of 2)

either : (P : Track → Type 0) (b : Bool) (made : List Track) → (b ≡ true → AllByRecursion P made) → AllByRecursion P (if b then made else [])
either P true made each = each refl
either P false made each = tt

-- what is known of the tracks of a row before
abbrev Known : Plain → Entry → Row → Type 0
Known q e row = AllByRecursion (λ track. IsIn (open_tracks q.frontends) track × IsTrackListed (tables_of q.versions row.version) (passed q e) track) row.tracks

row_listed : (q : Plain) (e : Entry) (number : ℕ) (row : Row) → HasSource (at_moment e.moment q) (judging q e.event) e.reply → Known q e row → JudgesRow q number e row →
    AllByRecursion (IsTrackListed (tables_of q.versions row.version) (map (table_step q e) (passed q e))) (row_after q number (e ∷ []) row).tracks
row_listed q e number row source known judged =
    let made : List Track = e.reply.tracks.items in
    let P : Track → Type 0 = IsTrackListed (tables_of q.versions row.version) (map (table_step q e) (passed q e)) in
    let old : AllByRecursion P row.tracks =
    all-more (λ track. IsIn (open_tracks q.frontends) track × IsTrackListed (tables_of q.versions row.version) (passed q e) track) P row.tracks
    (λ track is. record { table = is.1.table; key = old_listed q e track is.0 is.1.key }) known in
    let new' : speaks_to number row.serial e.reply.said ≡ true → AllByRecursion P made = λ spoken.
    subst (λ n. AllByRecursion (IsTrackListed (tables_of q.versions n) (map (table_step q e) (passed q e))) made) (sym (judged spoken))
    (new_listed q e (tables_of q.versions (judging q e.event)) source.0 source.1) in
    all-by_counter P (row.tracks ++ (if speaks_to number row.serial e.reply.said then made else []))
    (all-append P row.tracks (if speaks_to number row.serial e.reply.said then made else []) old (either P (speaks_to number row.serial e.reply.said) made new'))

-- each row of a frontend, with those that come in
rows_listed : (q : Plain) → IsWell q → (e : Entry) (number : ℕ) (own : FrontendRows) → slice_get q.frontends number ≡ Some own → Says q e.event e.reply.said → HasSource (at_moment e.moment q) (judging q e.event) e.reply →
    AllByRecursion (λ row. AllByRecursion (IsTrackListed (tables_of q.versions row.version) (map (table_step q e) (passed q e))) row.tracks) (frontend_after q (e ∷ []) number own).rows
rows_listed q well e number own there says source =
    let those : List Row = arrival number (now_of q.clock (e ∷ [])) (newest_number q) e.event e.reply.said in
    let live : Row → Bool = λ row. not (has_ended number (e ∷ []) row.serial) in
    let R : Row → Type 0 = λ row. AllByRecursion (IsTrackListed (tables_of q.versions row.version) (map (table_step q e) (passed q e))) row.tracks in
    let Q : Row → Type 0 = λ row. R (row_after q number (e ∷ []) row) in
    let listed : AllByRecursion (λ row. AllByRecursion (IsTrackListed (tables_of q.versions row.version) (passed q e)) row.tracks) own.rows =
    all-at (λ own. AllByRecursion (λ row. AllByRecursion (IsTrackListed (tables_of q.versions row.version) (passed q e)) row.tracks) own.rows) q.frontends number own (at-well q well e.moment).tracks there in
    let known : AllByRecursion (Known q e) own.rows =
    all-more (λ row. IsIn own.rows row × AllByRecursion (IsTrackListed (tables_of q.versions row.version) (passed q e)) row.tracks) (Known q e) own.rows (λ row both. known_in row both.0 both.1)
    (all-both (IsIn own.rows) (λ row. AllByRecursion (IsTrackListed (tables_of q.versions row.version) (passed q e)) row.tracks) own.rows (all-in own.rows) listed) in
    let old : AllByRecursion Q own.rows =
    all-more (λ row. Known q e row × JudgesRow q number e row) Q own.rows (λ row both. row_listed q e number row source both.0 both.1)
    (all-both (Known q e) (JudgesRow q number e) own.rows known (rows_judged q number own e.event e.reply.said there (well_at q well number own there) says)) in
    let new' : AllByRecursion Q those =
    all-more (IsArrival q e.event) Q those
    (λ row is. row_listed q e number row source (subst (AllByRecursion (λ track. IsIn (open_tracks q.frontends) track × IsTrackListed (tables_of q.versions row.version) (passed q e) track)) (sym is.1) tt) (λ spoken. is.0))
    (arrivals_judged q number (now_of q.clock (e ∷ [])) e.event e.reply.said says) in
    all-map R (row_after q number (e ∷ [])) (filter live (own.rows ++ those)) (all-filter Q live (own.rows ++ those) (all-append Q own.rows those old new'))
  where
    known_in : (row : Row) → IsIn own.rows row → AllByRecursion (IsTrackListed (tables_of q.versions row.version) (passed q e)) row.tracks → Known q e row
    known_in row found all =
        all-more (λ track. IsIn row.tracks track × IsTrackListed (tables_of q.versions row.version) (passed q e) track)
        (λ track. IsIn (open_tracks q.frontends) track × IsTrackListed (tables_of q.versions row.version) (passed q e) track) row.tracks
        (λ track both. (in-open q.frontends number own row track there found both.0, both.1))
        (all-both (IsIn row.tracks) (IsTrackListed (tables_of q.versions row.version) (passed q e)) row.tracks (all-in row.tracks) all)

-- what was listed stays so, in a version and in a table that are kept
track_kept : (q : Plain) → IsWell q → (e : Entry) (number : ℕ) → IsSome (version_at q.versions number) → needed_after q (e ∷ []) number ≡ true → (track : Track) →
    IsTrackListed (tables_of q.versions number) (map (table_step q e) (passed q e)) track → IsTrackListed (tables_of (versions_after q (e ∷ [])) number) (tables_after q (e ∷ [])) track
track_kept q well e number is needed track known =
    let among : list_any (same_id track.table) (tables_of (versions_after q (e ∷ [])) number) ≡ true = ap (list_any (same_id track.table)) (tables_of_step q well e number is needed) ∙ known.table in
    let found : table_at (tables_after q (e ∷ [])) track.table ≡ table_at (map (table_step q e) (passed q e)) track.table =
    table_kept q well e track.table (listed_in (versions_after q (e ∷ [])) number track.table among) (listed_there (map (table_step q e) (passed q e)) track known.key) in
    record { table = among; key = ap (λ o. option_map_or (λ table. is_in track.key table.entries) o false) found ∙ known.key }

pub tracks_step : (q : Plain) → IsWell q → (e : Entry) → IsLegal q (e ∷ []) → AreTracksListed (after q (e ∷ []))
tracks_step q well e legal =
    let is : answer_in q e.moment e.event ≡ Ok e.reply = subst (λ s. answer_in s e.moment e.event ≡ Ok e.reply) (after-nil q well) legal.1 in
    let R : Row → Type 0 = λ row. AllByRecursion (IsTrackListed (tables_of q.versions row.version) (map (table_step q e) (passed q e))) row.tracks in
    let S : Row → Type 0 = λ row. AllByRecursion (IsTrackListed (tables_of (versions_after q (e ∷ [])) row.version) (tables_after q (e ∷ []))) row.tracks in
    let K : Row → Type 0 = λ row. IsSome (version_at q.versions row.version) in
    let N : Row → Type 0 = λ row. needed_after q (e ∷ []) row.version ≡ true in
    all-from_zero (λ own. AllByRecursion S own.rows) (frontend_after q (e ∷ [])) q.frontends
    (λ number own there.
    let rows : List Row = (frontend_after q (e ∷ []) number own).rows in
    all-more (λ row. (R row × K row) × N row) S rows
    (λ row all.
    all-more (IsTrackListed (tables_of q.versions row.version) (map (table_step q e) (passed q e))) (IsTrackListed (tables_of (versions_after q (e ∷ [])) row.version) (tables_after q (e ∷ []))) row.tracks
    (track_kept q well e row.version all.0.1 all.1) all.0.0)
    (all-both (λ row. R row × K row) N rows
    (all-both R K rows (rows_listed q well e number own there (answered q e.moment e.event e.reply is) (has_source (at_moment e.moment q) (at-well q well e.moment) e.event e.reply is)) (rows_known q well e legal number own there))
    (rows_needed q e number own there)))

-- the tracks of an open connection
pub row_tracks : (p : Plain) → AreTracksListed p → (id : ConnId) (row : Row) → row_at p.frontends id ≡ Some row → AllByRecursion (IsTrackListed (tables_of p.versions row.version) p.tables) row.tracks
row_tracks p all id row there = by (slice_get p.frontends id.frontend) refl there
  where
    by : (o : Option FrontendRows) → slice_get p.frontends id.frontend ≡ o → row_in id.serial o ≡ Some row → AllByRecursion (IsTrackListed (tables_of p.versions row.version) p.tables) row.tracks
    by None e found = absurd (let wrong : None ≡ Some row = found in cc)
    by (Some own) e found =
        (all-found (λ row. AllByRecursion (IsTrackListed (tables_of p.versions row.version) p.tables) row.tracks) (λ row. row.serial == id.serial) own.rows row
        (all-at (λ own. AllByRecursion (λ row. AllByRecursion (IsTrackListed (tables_of p.versions row.version) p.tables) row.tracks) own.rows) p.frontends id.frontend own all e) found).0
