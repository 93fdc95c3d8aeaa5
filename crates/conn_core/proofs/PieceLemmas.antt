-- What a piece makes of the open connections.
use Rattle.std.proofs.Common.{◌≡◌, ℕ, ◌<◌, Bool, true, false, List, [], ◌∷◌, ◌++◌, length, Option, Some, None, Result, Ok, Err, refl, ◌∙◌, sym, ap, subst, arith, append-nil}
use Rattle.std.specs.Prelude.{slice_get, slice_set, find, option_and_then, option_map, IsSome, ◌==◌}
use Rattle.std.specs.List.{AllByRecursion}
use Rattle.std.specs.Option.{option_map_or}
use Rattle.std.proofs.lemmas.Bool.{false≢true}
use Rattle.std.proofs.lemmas.Bool.Decides.{nat_tests}
use Rattle.addr_core.specs.PairValue.{PairValue}
use Rattle.pp_any.specs.declared.rest.Rest.{Rest}
use Rattle.pp_any.specs.Status.{Wait}
use Rattle.pp_any.specs.NextPiece.{status_on}
use Rattle.plan_types.specs.declared.plan.Frontend.{Frontend}
use Rattle.plan_types.specs.declared.track.Track.{Track}
use Rattle.rule_engine.specs.Meaning.{present}
use Rattle.rule_engine.specs.Judging.{no_tracks, TrackSlots}
use Rattle.conn_model.specs.declared.event.ConnId.{ConnId}
use Rattle.conn_model.specs.declared.event.OwnedEvent.{OwnedEvent}
use Rattle.conn_model.specs.declared.event.OwnedEvent.TheVariants.{Piece}
use Rattle.conn_model.specs.declared.reply.Cause.{Cause}
use Rattle.conn_model.specs.declared.reply.Reply.{Reply}
use Rattle.conn_model.specs.declared.reply.Said.TheVariants as saids
use Rattle.conn_model.specs.declared.reply.StepFault.TheVariants.{NoSuch}
use Rattle.conn_model.specs.declared.plain.Phase.{Phase}
use Rattle.conn_model.specs.declared.plain.Phase.TheVariants.{Waiting, Offered, Up}
use Rattle.conn_model.specs.declared.plain.Row.{Row}
use Rattle.conn_model.specs.declared.plain.FrontendRows.{FrontendRows}
use Rattle.conn_model.specs.declared.plain.TableState.{TableState}
use Rattle.conn_model.specs.declared.plain.Version.{Version}
use Rattle.conn_model.specs.declared.plain.Plain.{Plain}
use Rattle.conn_model.specs.Counts.{change_row}
use Rattle.conn_model.specs.Words.{Rise}
use Rattle.conn_model.specs.Rules.{view_of}
use Rattle.conn_model.specs.Answer.{candidate_of, decision, frontend_in, header_reply, piece_answer, reply_of, reply_with, rest_in, row_at, row_in, said_of, verdict, version_at, waiting_row, Decision, NumberedServer}
use Rattle.conn_model.specs.History.{phase_on, tables_by, with_said}
use Rattle.conn_model.specs.Tables.{by_counter, open_tracks, tracks_at, with_tracks, without_tracks}
use Rattle.conn_model.proofs.Lists.{all-found}
use Rattle.conn_model.proofs.Replies.{waiting, IsWaiting}
use Rattle.conn_rows.specs.declared.row.RowSummary.{RowSummary}
use Rattle.conn_rows.specs.declared.rows.RowsState.{RowsState}
use Rattle.conn_model.specs.Changes.{phase_fed, rest_at, row_fed, with_conn, with_row, without_conn}
use Rattle.conn_rows.specs.Changes.{row_offered}
use Rattle.conn_rows.specs.Summaries.{summary_of}
use Rattle.conn_rows.specs.Value.{state_of, RowsValue}
use Rattle.conn_model.proofs.Changes.{changed_gone, changed_twice, own_changed, row_changed}
use Rattle.conn_core.specs.Changes.{row_by, settled, settled_tables, settled_versions, spoken, IsJudged, Judge}
use Rattle.conn_core.specs.Counts.{IsSorted, IsStateOf}
use Rattle.conn_core.specs.Outcome.{reply_by, said_by}
use Rattle.conn_core.specs.Tracking.{row_with}
use Rattle.conn_core.specs.declared.outcome.TrackedOutcome.{TrackedOutcome}
use Rattle.conn_core.specs.declared.outcome.Outcome.{Outcome}
use Rattle.conn_core.specs.declared.outcome.Outcome.TheVariants as outcomes
use Rattle.conn_core.proofs.AcceptLemmas.{versions_are}
use Rattle.conn_core.proofs.SeenLemmas.{fed_unseen, open_tracks-same, tracks_at-same}

-- the answer to a piece, from what the rows have
pub piece_by : (p : Plain) (rows : RowsValue) (id : ConnId) (piece : List ℕ) (found : Row × Rest) (row : RowSummary) → IsStateOf p rows → waiting_row rows.frontends id ≡ Ok found → row ≡ summary_of found.0 →
    (judge : Judge rows.frontends rows.versions id row.version) →
    piece_answer p id piece ≡ Ok (header_reply (candidate_of p id judge.version judge.frontend) found.0.real (length piece) (status_on found.1 piece))
piece_by p rows id piece found row same waits is judge =
    let open_now : waiting_row p.frontends id ≡ Ok found = ap (λ fs. waiting_row fs id) same.frontends ∙ waits in
    let there : slice_get p.frontends id.frontend ≡ Some judge.own = ap (λ fs. slice_get fs id.frontend) same.frontends ∙ judge.there in
    let kept : version_at p.versions found.0.version ≡ Some judge.version =
    ap (λ vs. version_at vs found.0.version) same.versions ∙ ap (λ (s : RowSummary). version_at rows.versions s.version) (sym is) ∙ judge.kept in
    rw (open_now, there, kept, judge.found) refl

pub no_judge : (p : Plain) (id : ConnId) (piece : List ℕ) (found : Row × Rest) → waiting_row p.frontends id ≡ Ok found → (Judge p.frontends p.versions id found.0.version → ⊥) → piece_answer p id piece ≡ Err NoSuch
no_judge p id piece found waits none = by (slice_get p.frontends id.frontend) refl
  where
    named : (own : FrontendRows) → slice_get p.frontends id.frontend ≡ Some own → (version : Version) → version_at p.versions found.0.version ≡ Some version →
        (o : Option Frontend) → frontend_in version.plan own.name ≡ o → piece_answer p id piece ≡ Err NoSuch
    named own there version kept None is = rw (waits, there, kept, is) refl
    named own there version kept (Some frontend) is = absurd (none (record { own = own; version = version; frontend = frontend; there = there; kept = kept; found = is }))

    versioned : (own : FrontendRows) → slice_get p.frontends id.frontend ≡ Some own → (o : Option Version) → version_at p.versions found.0.version ≡ o → piece_answer p id piece ≡ Err NoSuch
    versioned own there None kept = rw (waits, there, kept) refl
    versioned own there (Some version) kept = named own there version kept (frontend_in version.plan own.name) refl

    by : (o : Option FrontendRows) → slice_get p.frontends id.frontend ≡ o → piece_answer p id piece ≡ Err NoSuch
    by None there = rw (waits, there) refl
    by (Some own) there = versioned own there (version_at p.versions found.0.version) refl

-- who judges a connection judges it after a piece
unfoldable pub judge_fed : (frontends : List FrontendRows) (versions : List Version) (id : ConnId) (number : ℕ) (piece : List ℕ) → Judge frontends versions id number → Judge (with_conn id (row_fed piece) frontends) versions id number
judge_fed frontends versions id number piece judge = record {
  own = with_row id.serial (row_fed piece) judge.own;
  version = judge.version;
  frontend = judge.frontend;
  there = own_changed id (row_fed piece) frontends ∙ ap (option_map (with_row id.serial (row_fed piece))) judge.there;
  kept = judge.kept;
  found = judge.found;
}

-- a connection that waits has a rest
pub rest_is : (frontends : List FrontendRows) (id : ConnId) (found : Row × Rest) → waiting_row frontends id ≡ Ok found → rest_at frontends id ≡ Some found.1
rest_is frontends id found waits =
    let w = waiting frontends id found waits in
    ap (option_and_then (λ row. rest_in row.phase)) w.there ∙ w.holds

-- a connection that waits and is judged does so after a change that leaves it waiting
pub still_judged : (id : ConnId) (change : Row → Row) (frontends : List FrontendRows) (version : ℕ) → ((row : Row) → (change row).serial ≡ row.serial) → ((row : Row) → (change row).version ≡ row.version) →
    ((row : Row) → IsSome (rest_in row.phase) → IsSome (rest_in (change row).phase)) → IsJudged frontends id version → IsJudged (with_conn id change frontends) id version
still_judged id change frontends version serial same waits judged = record {
  row = change judged.row;
  there = row_changed id change frontends serial ∙ ap (option_map change) judged.there;
  waits = waits judged.row judged.waits;
  judged = same judged.row ∙ judged.judged;
}

-- also after a piece
pub fed_waits : (piece : List ℕ) (phase : Phase) → IsSome (rest_in phase) → IsSome (rest_in (phase_fed piece phase))
fed_waits piece (Waiting rest) waits = refl
fed_waits piece (Offered assignment) waits = waits
fed_waits piece (Up assignment) waits = waits

-- a connection that waits, and its version
pub judged_by : (frontends : List FrontendRows) (id : ConnId) (found : Row × Rest) → waiting_row frontends id ≡ Ok found → IsJudged frontends id found.0.version
judged_by frontends id found waits =
    let w = waiting frontends id found waits in
    record { row = found.0; there = w.there; waits = subst (λ o. IsSome o) (sym w.holds) refl; judged = refl }

-- it is open
pub judged_open : (frontends : List FrontendRows) (id : ConnId) (version : ℕ) → IsJudged frontends id version → IsSome (row_at frontends id)
judged_open frontends id version judged = subst (λ o. IsSome o) (sym judged.there) refl

-- its tracks are in the order of counters
row_sorted : (frontends : List FrontendRows) (id : ConnId) (row : Row) → ((own : FrontendRows) → slice_get frontends id.frontend ≡ Some own → IsSorted own) → row_at frontends id ≡ Some row →
    by_counter row.tracks ≡ row.tracks
row_sorted frontends id row sorted is = by (slice_get frontends id.frontend) refl
  where
    by : (o : Option FrontendRows) → slice_get frontends id.frontend ≡ o → by_counter row.tracks ≡ row.tracks
    by None none = absurd (let wrong : None ≡ Some row = ap (row_in id.serial) (sym none) ∙ is in cc)
    by (Some own) there =
        (all-found (λ (r : Row). by_counter r.tracks ≡ r.tracks) (λ (r : Row). r.serial == id.serial) own.rows row (sorted own there).sorted (ap (row_in id.serial) (sym there) ∙ is)).0

-- A connection that waits on.

-- rows of which one may have the serial: two changes that agree on it
change-same : (serial : ℕ) (f g : Row → Row) (rows : List Row) (row : Row) → Rise (λ row. row.serial) rows → find (λ row. row.serial == serial) rows ≡ Some row → f row ≡ g row → change_row serial f rows ≡ change_row serial g rows
change-same serial f g [] row rise found same = refl
change-same serial f g (x ∷ rows) row rise found same = by (x.serial == serial) refl (λ later. change-same serial f g rows row rise.1 later same)
  where
    above : (xs : List Row) → AllByRecursion (λ y. x.serial < y.serial) xs → (x.serial == serial) ≡ true → (h : Row → Row) → change_row serial h xs ≡ xs
    above [] all is h = refl
    above (y ∷ xs) all is h =
        let less : x.serial < y.serial = all.0 in
        let differs : (y.serial == serial) ≡ false = grind (arith, nat_tests, is, less) in
        rw differs (ap (λ rs. y ∷ rs) (above xs all.1 is h))

    by : (b : Bool) → (x.serial == serial) ≡ b → (find (λ row. row.serial == serial) rows ≡ Some row → change_row serial f rows ≡ change_row serial g rows) → change_row serial f (x ∷ rows) ≡ change_row serial g (x ∷ rows)
    by true is rest =
        let it : x ≡ row = let e : Some x ≡ Some row = rw is at found in cc in
        let alike : f x ≡ g x = ap f it ∙ same ∙ ap g (sym it) in
        rw (is, above rows rise.0 is f, above rows rise.0 is g) (ap (λ y. y ∷ rows) alike)
    by false is rest = rw is (ap (λ rs. x ∷ rs) (rest (rw is at found)))

waits_on : (frontends : List FrontendRows) (versions : List Version) (id : ConnId) (piece : List ℕ) (count : ℕ) (found : Row × Rest) →
    ((own : FrontendRows) → slice_get frontends id.frontend ≡ Some own → IsSorted own) → waiting_row frontends id ≡ Ok found → status_on found.1 piece ≡ Wait →
    with_conn id (row_fed piece) frontends ≡ spoken versions (Piece id piece) id (reply_of (saids.Wait id count)) frontends
waits_on frontends versions id piece count found sorted is status = by (slice_get frontends id.frontend) refl
  where
    w : IsWaiting frontends id found.0 found.1
    w = waiting frontends id found is

    holds : (phase : Phase) → rest_in phase ≡ Some found.1 → phase_fed piece phase ≡ phase_on piece phase
    holds (Waiting rest) same =
        let it : rest ≡ found.1 = let e : Some rest ≡ Some found.1 = same in cc in
        let waits : status_on rest piece ≡ Wait = ap (λ r. status_on r piece) it ∙ status in
        rw waits refl
    holds (Offered assignment) same = refl
    holds (Up assignment) same = refl

    spoken_to : Row → Row
    spoken_to = row_by versions (Piece id piece) (reply_of (saids.Wait id count))

    tracks : found.0.tracks ≡ by_counter (found.0.tracks ++ [])
    tracks = sym (ap by_counter (append-nil found.0.tracks) ∙ row_sorted frontends id found.0 sorted w.there)

    same : row_fed piece found.0 ≡ spoken_to found.0
    same =
        ap (λ phase. record found.0 { phase = phase }) (holds found.0.phase w.holds)
        ∙ ap (λ ts. record found.0 { phase = phase_on piece found.0.phase; tracks = ts }) tracks

    by : (o : Option FrontendRows) → slice_get frontends id.frontend ≡ o → with_conn id (row_fed piece) frontends ≡ with_conn id spoken_to frontends
    by None none = rw none refl
    by (Some own) there =
        let row : find (λ row. row.serial == id.serial) own.rows ≡ Some found.0 = ap (row_in id.serial) (sym there) ∙ w.there in
        rw there (ap (λ rows. slice_set frontends id.frontend (record own { rows = rows })) (change-same id.serial (row_fed piece) spoken_to own.rows found.0 (sorted own there).rise row same))

-- The rows, versions and tables once that is said to a connection, which the version of that number judges.
abbrev state_spoken : RowsValue → OwnedEvent → ConnId → ℕ → Reply → RowsState
state_spoken rows event id version reply = record (state_of rows) {
  frontends = spoken rows.versions event id reply rows.frontends;
  versions = with_said version reply.said rows.versions;
  tables = tables_by rows.clock rows.frontends rows.tables reply;
}

pub waited_once : (old fed : RowsValue) (id : ConnId) (version : ℕ) (piece : List ℕ) (count : ℕ) (found : Row × Rest) (reply : Reply) →
    ((own : FrontendRows) → slice_get old.frontends id.frontend ≡ Some own → IsSorted own) → waiting_row old.frontends id ≡ Ok found → status_on found.1 piece ≡ Wait →
    fed ≡ record old { frontends = with_conn id (row_fed piece) old.frontends } → reply ≡ reply_of (saids.Wait id count) → state_of fed ≡ state_spoken old (Piece id piece) id version reply
waited_once old fed id version piece count found reply sorted waits status fed_is reply_is =
    ap state_of fed_is
    ∙ ap (λ fs. record (state_of old) { frontends = fs }) (waits_on old.frontends old.versions id piece count found sorted waits status)
    ∙ ap (state_spoken old (Piece id piece) id version) (sym reply_is)

-- A connection whose header is wrong.

-- no track more
same_tracks : (frontends : List FrontendRows) (id : ConnId) (found : Row × Rest) → ((own : FrontendRows) → slice_get frontends id.frontend ≡ Some own → IsSorted own) → waiting_row frontends id ≡ Ok found →
    by_counter (tracks_at frontends id ++ []) ≡ tracks_at frontends id
same_tracks frontends id found sorted waits =
    let there : row_at frontends id ≡ Some found.0 = (waiting frontends id found waits).there in
    let tracks : tracks_at frontends id ≡ found.0.tracks = ap (λ (o : Option Row). option_map_or (λ (row : Row). row.tracks) o []) there in
    ap by_counter (append-nil (tracks_at frontends id)) ∙ ap by_counter tracks ∙ row_sorted frontends id found.0 sorted there ∙ sym tracks

pub refused_once : (old fed after : RowsValue) (event : OwnedEvent) (id : ConnId) (version : ℕ) (piece : List ℕ) (used : ℕ) (cause : Cause) (found : Row × Rest) (reply : Reply) →
    ((own : FrontendRows) → slice_get old.frontends id.frontend ≡ Some own → IsSorted own) → waiting_row old.frontends id ≡ Ok found →
    fed ≡ record old { frontends = with_conn id (row_fed piece) old.frontends } →
    after ≡ record fed { frontends = without_conn id fed.frontends; tables = without_tracks fed.clock (tracks_at fed.frontends id) fed.tables } → reply ≡ reply_of (saids.Refuse id used cause) →
    state_of after ≡ state_spoken old event id version reply
refused_once old fed after event id version piece used cause found reply sorted waits fed_is removed reply_is =
    ap state_of removed
    ∙ ap (λ (r : RowsValue). record (state_of r) { frontends = without_conn id r.frontends; tables = without_tracks r.clock (tracks_at r.frontends id) r.tables }) fed_is
    ∙ ap (λ fs. record (state_of old) { frontends = fs; tables = without_tracks old.clock (tracks_at (with_conn id (row_fed piece) old.frontends) id) old.tables }) (changed_gone id (row_fed piece) old.frontends (λ row. refl))
    ∙ ap (λ ts. record (state_of old) { frontends = without_conn id old.frontends; tables = without_tracks old.clock ts old.tables }) (tracks_at-same id (row_fed piece) old.frontends (fed_unseen piece) ∙ sym (same_tracks old.frontends id found sorted waits))
    ∙ ap (state_spoken old event id version) (sym reply_is)

-- Who judges is one.

pub judge_same : (frontends : List FrontendRows) (versions : List Version) (id : ConnId) (number : ℕ) (j k : Judge frontends versions id number) → (j.version ≡ k.version) × (j.frontend ≡ k.frontend)
judge_same frontends versions id number j k =
    let own : j.own ≡ k.own = let e : Some j.own ≡ Some k.own = sym j.there ∙ k.there in cc in
    let version : j.version ≡ k.version = let e : Some j.version ≡ Some k.version = sym j.kept ∙ k.kept in cc in
    let found : frontend_in j.version.plan j.own.name ≡ frontend_in k.version.plan k.own.name = ap (λ v. frontend_in v.plan j.own.name) version ∙ ap (λ o. frontend_in k.version.plan o.name) own in
    (version, let e : Some j.frontend ≡ Some k.frontend = sym j.found ∙ found ∙ k.found in cc)

-- A decision is an offer or a refusal.

no_wait : (id other : ConnId) (used count : ℕ) (judged : PairValue) (result : Result NumberedServer Cause) → saids.Wait other count ≡ said_of id used judged result → ⊥
no_wait id other used count judged (Ok given) is = let wrong : saids.Wait other count ≡ said_of id used judged (Ok given) = is in cc
no_wait id other used count judged (Err cause) is = let wrong : saids.Wait other count ≡ said_of id used judged (Err cause) = is in cc

-- the open connections once a decision is kept
frontends_settled : (versions : List Version) (bytes : List ℕ) (id : ConnId) (used : ℕ) (outcome : Outcome) (slots : TrackSlots) (frontends : List FrontendRows) → ((other : ConnId) (count : ℕ) → said_by id used outcome ≡ saids.Wait other count → ⊥) →
    settled versions id outcome (with_conn id (row_with (present slots)) frontends) ≡ spoken versions (Piece id bytes) id (reply_with (said_by id used outcome) slots) frontends
frontends_settled versions bytes id used outcomes.Wait slots frontends decides = absurd (decides id used refl)
frontends_settled versions bytes id used (outcomes.Offer offer) slots frontends decides = changed_twice id (row_with (present slots)) (row_offered versions offer.seat) frontends (λ row. refl)
frontends_settled versions bytes id used (outcomes.Refuse cause) slots frontends decides = changed_gone id (row_with (present slots)) frontends (λ row. refl)

-- what a connection tracks, once it tracks those too
tracks_with : (frontends : List FrontendRows) (id : ConnId) (tracks : List Track) → IsSome (row_at frontends id) → tracks_at (with_conn id (row_with tracks) frontends) id ≡ by_counter (tracks_at frontends id ++ tracks)
tracks_with frontends id tracks there = by (row_at frontends id) refl there
  where
    by : (o : Option Row) → row_at frontends id ≡ o → IsSome o → tracks_at (with_conn id (row_with tracks) frontends) id ≡ by_counter (tracks_at frontends id ++ tracks)
    by None none some = absurd (false≢true some)
    by (Some row) is some =
        let now : row_at (with_conn id (row_with tracks) frontends) id ≡ Some (row_with tracks row) = row_changed id (row_with tracks) frontends (λ row. refl) ∙ ap (option_map (row_with tracks)) is in
        rw (now, is) refl

-- and the tables
tables_settled : (moment : ℕ) (id : ConnId) (used : ℕ) (outcome : Outcome) (slots : TrackSlots) (frontends : List FrontendRows) (tables : List TableState) → ((other : ConnId) (count : ℕ) → said_by id used outcome ≡ saids.Wait other count → ⊥) →
    IsSome (row_at frontends id) → settled_tables moment id outcome (with_conn id (row_with (present slots)) frontends) (with_tracks moment (open_tracks frontends) (present slots) tables)
    ≡ tables_by moment frontends tables (reply_with (said_by id used outcome) slots)
tables_settled moment id used outcomes.Wait slots frontends tables decides there = absurd (decides id used refl)
tables_settled moment id used (outcomes.Offer offer) slots frontends tables decides there = refl
tables_settled moment id used (outcomes.Refuse cause) slots frontends tables decides there =
    ap (λ ts. without_tracks moment ts (with_tracks moment (open_tracks frontends) (present slots) tables)) (tracks_with frontends id (present slots) there)

pub settled_once : (old now after : RowsValue) (bytes : List ℕ) (id : ConnId) (version used : ℕ) (judged : PairValue) (result : Result NumberedServer Cause) (decided : TrackedOutcome) (reply : Reply) → IsSome (row_at old.frontends id) →
    said_by id used decided.outcome ≡ said_of id used judged result →
    now.frontends ≡ with_conn id (row_with (present decided.tracks)) old.frontends → now.versions ≡ old.versions → now.clock ≡ old.clock → now.tables ≡ with_tracks old.clock (open_tracks old.frontends) (present decided.tracks) old.tables → now.down ≡ old.down →
    after ≡ record now { frontends = settled now.versions id decided.outcome now.frontends; versions = settled_versions version decided.outcome now.versions; tables = settled_tables now.clock id decided.outcome now.frontends now.tables } →
    reply ≡ reply_by id used decided → state_of after ≡ state_spoken old (Piece id bytes) id version reply
settled_once old now after bytes id version used judged result decided reply there said fronts versions clock tables down kept reply_is =
    let f : after.frontends ≡ spoken old.versions (Piece id bytes) id (reply_by id used decided) old.frontends =
    ap (λ (r : RowsValue). r.frontends) kept ∙ ap (λ vs. settled vs id decided.outcome now.frontends) versions ∙ ap (settled old.versions id decided.outcome) fronts
    ∙ frontends_settled old.versions bytes id used decided.outcome decided.tracks old.frontends decides in
    let v : after.versions ≡ with_said version (said_by id used decided.outcome) old.versions =
    ap (λ (r : RowsValue). r.versions) kept ∙ ap (settled_versions version decided.outcome) versions ∙ versions_are id used version decided.outcome old.versions in
    let t : after.tables ≡ tables_by old.clock old.frontends old.tables (reply_by id used decided) =
    ap (λ (r : RowsValue). r.tables) kept ∙ ap (λ n. settled_tables n id decided.outcome now.frontends now.tables) clock ∙ ap (λ fs. settled_tables old.clock id decided.outcome fs now.tables) fronts
    ∙ ap (settled_tables old.clock id decided.outcome (with_conn id (row_with (present decided.tracks)) old.frontends)) tables
    ∙ tables_settled old.clock id used decided.outcome decided.tracks old.frontends old.tables decides there in
    let all : state_of after ≡ state_spoken old (Piece id bytes) id version (reply_by id used decided) = let d : after.down ≡ old.down = ap (λ (r : RowsValue). r.down) kept ∙ down in cc (f, v, t, d) in
    all ∙ ap (state_spoken old (Piece id bytes) id version) (sym reply_is)
  where
    decides : (other : ConnId) (count : ℕ) → said_by id used decided.outcome ≡ saids.Wait other count → ⊥
    decides other count waits = no_wait id other used count judged result (sym waits ∙ said)

-- A header that is whole.

-- what is said once the header is whole ends the connection or gives it a server, and either replaces what the piece left
spoken_fed : (frontends : List FrontendRows) (versions : List Version) (bytes : List ℕ) (id : ConnId) (piece : List ℕ) (used : ℕ) (judged : PairValue) (result : Result NumberedServer Cause) (made : TrackSlots) →
    spoken versions (Piece id bytes) id (reply_with (said_of id used judged result) made) (with_conn id (row_fed piece) frontends) ≡ spoken versions (Piece id bytes) id (reply_with (said_of id used judged result) made) frontends
spoken_fed frontends versions bytes id piece used judged (Ok given) made =
    changed_twice id (row_fed piece) (row_by versions (Piece id bytes) (reply_with (said_of id used judged (Ok given)) made)) frontends (λ row. refl)
spoken_fed frontends versions bytes id piece used judged (Err cause) made = changed_gone id (row_fed piece) frontends (λ row. refl)

tables_fed : (moment : ℕ) (frontends : List FrontendRows) (tables : List TableState) (id : ConnId) (piece : List ℕ) (used : ℕ) (judged : PairValue) (result : Result NumberedServer Cause) (made : TrackSlots) →
    tables_by moment (with_conn id (row_fed piece) frontends) tables (reply_with (said_of id used judged result) made) ≡ tables_by moment frontends tables (reply_with (said_of id used judged result) made)
tables_fed moment frontends tables id piece used judged (Ok given) made = ap (λ ts. with_tracks moment ts (present made) tables) (open_tracks-same id (row_fed piece) frontends (fed_unseen piece))
tables_fed moment frontends tables id piece used judged (Err cause) made =
    ap (λ ts. without_tracks moment (by_counter (tracks_at (with_conn id (row_fed piece) frontends) id ++ present made)) (with_tracks moment ts (present made) tables)) (open_tracks-same id (row_fed piece) frontends (fed_unseen piece))
    ∙ ap (λ ts. without_tracks moment (by_counter (ts ++ present made)) (with_tracks moment (open_tracks frontends) (present made) tables)) (tracks_at-same id (row_fed piece) frontends (fed_unseen piece))

pub decided_once : (old fed after : RowsValue) (bytes : List ℕ) (id : ConnId) (number : ℕ) (piece : List ℕ) (p : Plain) (version : Version) (frontend : Frontend) (used : ℕ) (judged : PairValue) (reply : Reply) →
    reply ≡ decision (candidate_of p id version frontend) used judged no_tracks → fed ≡ record old { frontends = with_conn id (row_fed piece) old.frontends } → state_of after ≡ state_spoken fed (Piece id bytes) id number reply →
    state_of after ≡ state_spoken old (Piece id bytes) id number reply
decided_once old fed after bytes id number piece p version frontend used judged reply reply_is fed_is after_is =
    after_is
    ∙ ap (λ (r : RowsValue). state_spoken r (Piece id bytes) id number reply) fed_is
    ∙ ap (λ (r : Reply). state_spoken fed_rows (Piece id bytes) id number r) reply_is
    ∙ ap (λ fs. record (state_of old) { frontends = fs; versions = with_said number said.said old.versions; tables = tables_by old.clock fed_rows.frontends old.tables said }) (spoken_fed old.frontends old.versions bytes id piece used judged decided.result decided.made)
    ∙ ap (λ ts. record (state_of old) { frontends = spoken old.versions (Piece id bytes) id said old.frontends; versions = with_said number said.said old.versions; tables = ts }) (tables_fed old.clock old.frontends old.tables id piece used judged decided.result decided.made)
    ∙ ap (state_spoken old (Piece id bytes) id number) (sym reply_is)
  where
    fed_rows : RowsValue
    fed_rows = record old { frontends = with_conn id (row_fed piece) old.frontends }

    decided : Decision
    decided = verdict (view_of (candidate_of p id version frontend) judged.source.addr) frontend no_tracks

    said : Reply
    said = reply_with (said_of id used judged decided.result) decided.made
