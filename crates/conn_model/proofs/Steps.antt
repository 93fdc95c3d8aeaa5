-- The state after one event.
use Rattle.std.specs.Prelude.{ℕ, zero, suc, Bool, true, false, not, max, List, [], map, filter, find, slice_get, slice_set, is_some, Option, Some, None, option_map, Ok, refl, ◌+◌, ◌≤◌, ◌≡◌, ◌≢◌, ◌==◌, ◌&&◌, ◌∷◌, ◌++◌, if◌then◌else◌}
use Rattle.std.specs.List.{list_any, AllByRecursion}
use Rattle.std.specs.Option.{option_and_then, option_map_or}
use Rattle.std.proofs.Common.{sym, ap, ◌∙◌, arith, inl, inr, append-nil, get_or}
use Rattle.std.proofs.lemmas.List.Folds.{list_any-append}
use Rattle.std.proofs.lemmas.Bool.{eq-eqb, eqb-true}
use Rattle.std.proofs.lemmas.Bool.Decides.{nat_tests}
use Rattle.std.proofs.lemmas.List.{map-append}
use Rattle.std.proofs.lemmas.List.Elements.{filter-append}
use Rattle.addr_core.specs.PairValue.{PairValue}
use Rattle.arrayvec.specs.ArrayVec.{ArrayVec}
use Rattle.plan_types.specs.declared.plan.Plan.{Plan}
use Rattle.plan_types.specs.declared.track.Track.{Track}
use Rattle.config_core.specs.Meaning.{meaning}
use Rattle.conn_model.specs.declared.event.ConnId.{ConnId}
use Rattle.conn_model.specs.declared.event.OwnedEvent.{OwnedEvent}
use Rattle.conn_model.specs.declared.event.OwnedEvent.TheVariants.{Accept, Reload, Mark}
use Rattle.conn_model.specs.declared.reply.Reply.{Reply}
use Rattle.conn_model.specs.declared.reply.Said.{Said}
use Rattle.conn_model.specs.declared.reply.Said.TheVariants as saids
use Rattle.conn_model.specs.declared.reply.Said.TheVariants.{Wait, Offer, Refuse, Reloaded, Marked}
use Rattle.conn_model.specs.declared.plain.Phase.TheVariants.{Offered}
use Rattle.conn_model.specs.declared.plain.Row.{Row}
use Rattle.conn_model.specs.declared.plain.FrontendRows.{FrontendRows}
use Rattle.conn_model.specs.declared.plain.TableState.{TableState}
use Rattle.conn_model.specs.declared.plain.Version.{Version}
use Rattle.conn_model.specs.declared.plain.Plain.{Plain}
use Rattle.conn_model.specs.Words.{map_from, newest}
use Rattle.conn_model.specs.Counts.{change_row}
use Rattle.conn_model.specs.Answer.{at_moment, reply_of, row_in, version_at, new_row}
use Rattle.conn_model.specs.Tables.{is_listed_by, new_tables, open_tracks, tables_alive, written_tables}
use Rattle.conn_model.specs.History.{id_of, speaks_to, has_version, in_force, is_needed, needed_versions, newest_number, next_version, number_said, plan_in, plan_of, plan_with, tables_after, tables_with, version_of, with_version, identity_of, by_counter, phase_by, is_last, is_accept_at, arrival, has_ended, row_after, frontend_after, frontends_after, judging_version, tables_by, versions_after, with_said, after, entry, Entry, IsFrontendWell, IsWell, mark_of, down_after, marked_by}
use Rattle.conn_model.proofs.Lists.{all-more, all-at, all-both, or_left, or_right, or_true}
use Rattle.conn_model.proofs.Nothing.{after-nil}
pub use Rattle.conn_model.proofs.Versions.{is_offer, last_no_offer, versions_kept}
use Rattle.conn_model.proofs.Versions.{newest-at}
pub use Rattle.conn_model.proofs.VersionSteps.{judging-old}
use Rattle.conn_model.proofs.VersionSteps.{judging-new, versions_quiet, versions_said, versions_step}
use Rattle.conn_model.proofs.TableSteps.{tables_quiet, tables_said, tables_step-by}
use Rattle.proxy_types.specs.declared.server.ServerIdentity.{ServerIdentity}
use Rattle.conn_model.specs.declared.event.Health.{Health}
use Rattle.conn_model.proofs.Trackings.{tables_kept}

-- Lists of which one item changes.

map_from-none : {X : Type 0} (P : X → Type 0) (change : ℕ → X → X) (start : ℕ) (xs : List X) → AllByRecursion P xs → ((g : ℕ) (y : X) → P y → start ≤ g → change g y ≡ y) → map_from change start xs ≡ xs
map_from-none P change start [] all same = refl
map_from-none P change start (x ∷ xs) all same =
    let here : change start x ≡ x = same start x all.0 (omega arith) in
    let rest : map_from change (start + 1) xs ≡ xs = map_from-none P change (start + 1) xs all.1 (λ g y is le. same g y is (omega arith)) in
    cc

map_from-one : {X : Type 0} (P : X → Type 0) (change : ℕ → X → X) (start at : ℕ) (xs : List X) (x new' : X) → AllByRecursion P xs →
    slice_get xs at ≡ Some x → change (start + at) x ≡ new' → ((g : ℕ) (y : X) → P y → g ≢ start + at → change g y ≡ y) → map_from change start xs ≡ slice_set xs at new'
map_from-one P change start at [] x new' all there is others = absurd (cc)
map_from-one P change start zero (y ∷ xs) x new' all there is others =
    let same : y ≡ x = cc in
    let place : start + 0 ≡ start = omega arith in
    let rest : map_from change (start + 1) xs ≡ xs = map_from-none P change (start + 1) xs all.1 (λ g z known le. others g z known (omega arith)) in
    cc
map_from-one P change start (suc at) (y ∷ xs) x new' all there is others =
    let here : change start y ≡ y = others start y all.0 (omega arith) in
    let place : start + suc at ≡ (start + 1) + at = omega arith in
    let rest : map_from change (start + 1) xs ≡ slice_set xs at new' =
    map_from-one P change (start + 1) at xs x new' all.1 there (ap (λ n. change n x) (sym place) ∙ is) (λ g z known ne. others g z known (omega arith)) in
    cc

-- rows of which some go, and the others stay as they are
rows-left : (f : Row → Row) (g g' : Row → Bool) (rows : List Row) → AllByRecursion (λ row. (g row ≡ g' row) × (g' row ≡ true → f row ≡ row)) rows → map f (filter g rows) ≡ filter g' rows
rows-left f g g' [] known = refl
rows-left f g g' (row ∷ rows) known = by (g' row) refl (rows-left f g g' rows known.1)
  where
    by : (b : Bool) → g' row ≡ b → map f (filter g rows) ≡ filter g' rows → map f (filter g (row ∷ rows)) ≡ filter g' (row ∷ rows)
    by true e rest = let here : f row ≡ row = known.0.1 e in rw (known.0.0, e) (cc (here, rest))
    by false e rest = rw (known.0.0, e) rest

filter-true : (rows : List Row) → filter (λ row. true) rows ≡ rows
filter-true [] = refl
filter-true (row ∷ rows) = ap (λ rs. row ∷ rs) (filter-true rows)

-- A reply that does not speak to a connection.

row-unspoken : (p : Plain) (number : ℕ) (e : Entry) (row : Row) → speaks_to number row.serial e.reply.said ≡ false → by_counter row.tracks ≡ row.tracks → row_after p number (e ∷ []) row ≡ row
row-unspoken p number e row free sorted = rw free (ap (λ ts. record row { tracks = ts }) (ap by_counter (append-nil row.tracks) ∙ sorted))

and_false : (a : Bool) → (a && false) ≡ false
and_false true = refl
and_false false = refl

stays : (number : ℕ) (e : Entry) (row : Row) → speaks_to number row.serial e.reply.said ≡ false → not (has_ended number (e ∷ []) row.serial) ≡ true
stays number e row free = rw (free, and_false _) refl

rows-unspoken : (p : Plain) (number : ℕ) (e : Entry) (rows : List Row) → AllByRecursion (λ row. speaks_to number row.serial e.reply.said ≡ false) rows → AllByRecursion (λ row. by_counter row.tracks ≡ row.tracks) rows →
    map (row_after p number (e ∷ [])) (filter (λ row. not (has_ended number (e ∷ []) row.serial)) rows) ≡ rows
rows-unspoken p number e rows free sorted =
    rows-left (row_after p number (e ∷ [])) (λ row. not (has_ended number (e ∷ []) row.serial)) (λ row. true) rows
    (all-more (λ row. (speaks_to number row.serial e.reply.said ≡ false) × (by_counter row.tracks ≡ row.tracks)) (λ row. (not (has_ended number (e ∷ []) row.serial) ≡ true) × (true ≡ true → row_after p number (e ∷ []) row ≡ row)) rows
    (λ row known. (stays number e row known.0, λ same. row-unspoken p number e row known.0 known.1))
    (all-both (λ row. speaks_to number row.serial e.reply.said ≡ false) (λ row. by_counter row.tracks ≡ row.tracks) rows free sorted))
    ∙ filter-true rows

all_unspoken : (number : ℕ) (said : Said) (rows : List Row) → ((serial : ℕ) → speaks_to number serial said ≡ false) → AllByRecursion (λ row. speaks_to number row.serial said ≡ false) rows
all_unspoken number said [] none = tt
all_unspoken number said (row ∷ rows) none = (none row.serial, all_unspoken number said rows none)

-- a frontend to which the reply does not speak is as it was
frontend-elsewhere : (p : Plain) (number : ℕ) (e : Entry) (own : FrontendRows) → IsFrontendWell p.versions own → ((serial : ℕ) → speaks_to number serial e.reply.said ≡ false) →
    is_accept_at number e.event e.reply.said ≡ false → arrival number (max p.clock e.moment) (newest_number p) e.event e.reply.said ≡ [] →
    frontend_after p (e ∷ []) number own ≡ own
frontend-elsewhere p number e own well none off nothing =
    let serial : own.serial + (0 + 0) ≡ own.serial = omega arith in
    let rows : map (row_after p number (e ∷ [])) (filter (λ row. not (has_ended number (e ∷ []) row.serial)) (own.rows ++ [])) ≡ own.rows =
    ap (λ rs. map (row_after p number (e ∷ [])) (filter (λ row. not (has_ended number (e ∷ []) row.serial)) rs)) (append-nil own.rows)
    ∙ rows-unspoken p number e own.rows (all_unspoken number e.reply.said own.rows none) well.sorted in
    rw (off, nothing) (ap (λ n. record own { serial = n; rows = map (row_after p number (e ∷ [])) (filter (λ row. not (has_ended number (e ∷ []) row.serial)) (own.rows ++ [])) }) serial
    ∙ ap (λ rs. record own { rows = rs }) rows)

other_conn : (number serial : ℕ) (said : Said) (id : ConnId) → id_of said ≡ Some id → number ≢ id.frontend → speaks_to number serial said ≡ false
other_conn number serial said id whom differs =
    let other : (id.frontend == number) ≡ false = grind (arith, nat_tests, differs) in
    rw (whom, other) refl

-- the frontends after nothing
frontends_same : (p : Plain) → IsWell p → frontends_after p [] ≡ p.frontends
frontends_same p well = ap (λ q. q.frontends) (after-nil p well)

abbrev state_with : Plain → ℕ → List FrontendRows → List Version → List TableState → List ServerIdentity → Plain
state_with p clock frontends versions tables down = record { clock = clock; listeners = p.listeners; frontends = frontends; versions = versions; tables = tables; down = down }

state_is : (p : Plain) (clock : ℕ) (frontends fs : List FrontendRows) (versions vs : List Version) (tables ts : List TableState) (down ds : List ServerIdentity) → tables ≡ ts → versions ≡ vs → frontends ≡ fs →
    down ≡ ds → state_with p clock frontends versions tables down ≡ state_with p clock fs vs ts ds
state_is p clock frontends fs versions vs tables ts down ds one two three four =
    ap (λ x. state_with p clock x versions tables down) three ∙ ap (λ x. state_with p clock fs x tables down) two ∙ ap (λ x. state_with p clock fs vs x down) one
    ∙ ap (λ x. state_with p clock fs vs ts x) four

-- Versions that are needed on.

any-set : {X : Type 0} (test : X → Bool) (xs : List X) (n : ℕ) (x new' : X) → slice_get xs n ≡ Some x → (test x ≡ true → test new' ≡ true) → list_any test xs ≡ true → list_any test (slice_set xs n new') ≡ true
any-set test [] n x new' there on is = is
any-set test (y ∷ xs) zero x new' there on is = elim (or_true (test y) (list_any test xs) is) [
  | inl here ↦ or_left (test new') (list_any test xs) (on (let same : x ≡ y = cc in ap test same ∙ here))
  | inr later ↦ or_right (test new') (list_any test xs) later
]
any-set test (y ∷ xs) (suc n) x new' there on is = elim (or_true (test y) (list_any test xs) is) [
  | inl here ↦ or_left (test y) (list_any test (slice_set xs n new')) here
  | inr later ↦ or_right (test y) (list_any test (slice_set xs n new')) (any-set test xs n x new' there on later)
]

-- where a frontend has connections of the same versions, and maybe of more
needed-set : (frontends : List FrontendRows) (force number n : ℕ) (own own' : FrontendRows) → slice_get frontends number ≡ Some own → (has_version n own ≡ true → has_version n own' ≡ true) →
    is_needed frontends force n ≡ true → is_needed (slice_set frontends number own') force n ≡ true
needed-set frontends force number n own own' there on is = elim (or_true (n == force) (list_any (has_version n) frontends) is) [
  | inl here ↦ or_left (n == force) (list_any (has_version n) (slice_set frontends number own')) here
  | inr some ↦ or_right (n == force) (list_any (has_version n) (slice_set frontends number own')) (any-set (has_version n) frontends number own own' there on some)
]

-- an event with no plan brings no version
pub no_version : (e : Entry) → plan_with e.event ≡ None → version_of e ≡ None
no_version e none = ap (λ o. brought (number_said e.reply.said) o) none ∙ by (number_said e.reply.said)
  where
    brought : Option ℕ → Option Plan → Option (ℕ × Plan)
    brought number plan = option_and_then {U = ℕ × Plan} (λ n. option_map (λ plan. (n, plan)) plan) number

    by : (number : Option ℕ) → brought number None ≡ None
    by None = refl
    by (Some number) = refl

-- An accept.

-- what an accept leaves of the new connection, where this is said to it and it tracks those
abbrev pub rows_left : Plain → ℕ → PairValue → List Track → Said → List Row
rows_left p clock real tracks (Offer id used line server to judged send) =
    record {
      serial = id.serial;
      version = newest_number p;
      real = real;
      accepted = clock;
      phase = Offered (record { server = identity_of (plan_of p [] (newest_number p)) line server to; line = line; judged = judged; failed = [] });
      tracks = by_counter tracks;
    } ∷ []
rows_left p clock real tracks (Wait id used) = record (new_row id.serial (newest_number p) real clock) { tracks = by_counter tracks } ∷ []
rows_left p clock real tracks said = []

same_number : (n : ℕ) → (n == n) ≡ true
same_number n = eq-eqb n n refl

-- the row that the entry itself opens
new_rows_left : (p : Plain) (moment listener : ℕ) (real : PairValue) (said : Said) (tracks : ArrayVec Track) (id : ConnId) → id_of said ≡ Some id →
    let e : Entry = entry moment (Accept listener real) (record { said = said; tracks = tracks }) in
    map (row_after p id.frontend (e ∷ [])) (filter (λ row. not (has_ended id.frontend (e ∷ []) row.serial)) (arrival id.frontend (max p.clock moment) (newest_number p) (Accept listener real) said))
    ≡ rows_left p (max p.clock moment) real tracks.items said
new_rows_left p moment listener real (Offer id' used line server to judged send) tracks id whom =
    let same : id' ≡ id = let it : Some id' ≡ Some id = whom in cc in
    let front : id'.frontend ≡ id.frontend = ap (λ i. i.frontend) same in
    rw (front, same_number id.frontend, same_number id'.serial, same_number id.frontend) refl
new_rows_left p moment listener real (Wait id' used) tracks id whom =
    let same : id' ≡ id = let it : Some id' ≡ Some id = whom in cc in
    let front : id'.frontend ≡ id.frontend = ap (λ i. i.frontend) same in
    rw (front, same_number id.frontend, same_number id'.serial, same_number id.frontend) refl
new_rows_left p moment listener real (Refuse id' used cause) tracks id whom = refl
new_rows_left p moment listener real said tracks id whom = refl

accept-here : (p : Plain) (moment listener : ℕ) (real : PairValue) (reply : Reply) (id : ConnId) (own : FrontendRows) → IsFrontendWell p.versions own → id_of reply.said ≡ Some id → id.serial ≡ own.serial + 1 →
    frontend_after p (entry moment (Accept listener real) reply ∷ []) id.frontend own
    ≡ record own { serial = own.serial + 1; rows = own.rows ++ rows_left p (max p.clock moment) real reply.tracks.items reply.said }
accept-here p moment listener real reply id own well whom next =
    let said : Said = reply.said in
    let e : Entry = entry moment (Accept listener real) reply in
    let f : Row → Row = row_after p id.frontend (e ∷ []) in
    let g : Row → Bool = λ row. not (has_ended id.frontend (e ∷ []) row.serial) in
    let more : List Row = arrival id.frontend (max p.clock moment) (newest_number p) (Accept listener real) said in
    let on : is_accept_at id.frontend (Accept listener real) said ≡ true = rw whom (same_number id.frontend) in
    let unspoken : AllByRecursion (λ row. speaks_to id.frontend row.serial said ≡ false) own.rows =
    all-more (λ row. row.serial ≤ own.serial) (λ row. speaks_to id.frontend row.serial said ≡ false) own.rows
    (λ row le. let other : (id.serial == row.serial) ≡ false = grind (arith, nat_tests, next, le) in rw (whom, other, and_false (id.frontend == id.frontend)) refl) well.given in
    let rows : map f (filter g (own.rows ++ more)) ≡ own.rows ++ rows_left p (max p.clock moment) real reply.tracks.items said =
    ap (map f) (filter-append g own.rows more) ∙ map-append f (filter g own.rows) (filter g more)
    ∙ ap (λ rs. rs ++ map f (filter g more)) (rows-unspoken p id.frontend e own.rows unspoken well.sorted)
    ∙ ap (λ rs. own.rows ++ rs) (new_rows_left p moment listener real said reply.tracks id whom) in
    ap (λ b. record own { serial = own.serial + (0 + (if b then 1 else 0)); rows = map f (filter g (own.rows ++ more)) }) on
    ∙ ap (λ rs. record own { serial = own.serial + 1; rows = rs }) rows

accept-elsewhere : (p : Plain) (moment listener : ℕ) (real : PairValue) (reply : Reply) (id : ConnId) (number : ℕ) (own : FrontendRows) → IsFrontendWell p.versions own → id_of reply.said ≡ Some id → number ≢ id.frontend →
    frontend_after p (entry moment (Accept listener real) reply ∷ []) number own ≡ own
accept-elsewhere p moment listener real reply id number own well whom differs =
    let other : (id.frontend == number) ≡ false = grind (arith, nat_tests, differs) in
    frontend-elsewhere p number (entry moment (Accept listener real) reply) own well (λ serial. other_conn number serial reply.said id whom differs)
    (rw (whom, other) refl) (rw (whom, other, and_false _) refl)

-- the state after an accept alone: where it offers a server, a cursor of the version in force moves
pub after-accept : (p : Plain) → IsWell p → (moment listener : ℕ) (real : PairValue) (reply : Reply) (id : ConnId) (own : FrontendRows) →
    slice_get p.frontends id.frontend ≡ Some own → id_of reply.said ≡ Some id → id.serial ≡ own.serial + 1 →
    after p (entry moment (Accept listener real) reply ∷ []) ≡ record {
      clock = max p.clock moment;
      listeners = p.listeners;
      frontends = slice_set p.frontends id.frontend (record own { serial = own.serial + 1; rows = own.rows ++ rows_left p (max p.clock moment) real reply.tracks.items reply.said });
      versions = with_said (newest_number p) reply.said p.versions;
      tables = tables_by (max p.clock moment) p.frontends (at_moment moment p).tables reply;
      down = p.down;
    }
after-accept p well moment listener real reply id own there whom next =
    let zero_plus : 0 + id.frontend ≡ id.frontend = omega arith in
    let fine : IsFrontendWell p.versions own = all-at (IsFrontendWell p.versions) p.frontends id.frontend own well.frontends there in
    let e : Entry = entry moment (Accept listener real) reply in
    let left : List Row = rows_left p (max p.clock moment) real reply.tracks.items reply.said in
    let own' : FrontendRows = record own { serial = own.serial + 1; rows = own.rows ++ left } in
    let frontends : frontends_after p (e ∷ []) ≡ slice_set p.frontends id.frontend own' =
    map_from-one (IsFrontendWell p.versions) (frontend_after p (e ∷ [])) 0 id.frontend p.frontends own own' well.frontends there
    (rw zero_plus (accept-here p moment listener real reply id own fine whom next))
    (λ g y known differs. accept-elsewhere p moment listener real reply id g y known whom (λ e. differs (omega arith))) in
    let on : (n : ℕ) → is_needed p.frontends (newest_number p) n ≡ true → is_needed (frontends_after p (e ∷ [])) (newest_number p) n ≡ true = λ n is.
    ap (λ fs. is_needed fs (newest_number p) n) frontends
    ∙ needed-set p.frontends (newest_number p) id.frontend n own own' there (λ has. list_any-append (λ row. row.version == n) own.rows left ∙ or_left (has_version n own) (list_any (λ row. row.version == n) left) has) is in
    let none : version_of e ≡ None = no_version e refl in
    let said : versions_after p (e ∷ []) ≡ with_said (judging_version p.frontends (newest_number p) reply.said) reply.said p.versions = versions_said p well e none on in
    let versions : versions_after p (e ∷ []) ≡ with_said (newest_number p) reply.said p.versions =
    said ∙ ap (λ n. with_said n reply.said p.versions) (judging-new p.frontends (newest_number p) reply.said id own whom there fine.given next) in
    state_is p (max p.clock moment) _ _ _ _ _ _ _ _ (tables_said p well e none said) versions frontends refl

-- An event of a connection that is open.

-- the event is no accept
abbrev pub IsOfOpen : OwnedEvent → Type 0
IsOfOpen (Accept listener real) = ⊥
IsOfOpen (Reload text) = ⊥
IsOfOpen (Mark backend n health) = ⊥
IsOfOpen event = Unit {0}

no_arrival : (number clock version : ℕ) (event : OwnedEvent) (said : Said) → IsOfOpen event → (arrival number clock version event said ≡ []) × (is_accept_at number event said ≡ false)
no_arrival number clock version (Accept listener real) said old = absurd old
no_arrival number clock version event said old = (refl, refl)

-- the frontend of which the rows become these
old-here : (p : Plain) (e : Entry) (number : ℕ) (own : FrontendRows) (rows : List Row) → IsOfOpen e.event →
    map (row_after p number (e ∷ [])) (filter (λ row. not (has_ended number (e ∷ []) row.serial)) own.rows) ≡ rows →
    frontend_after p (e ∷ []) number own ≡ record own { rows = rows }
old-here p e number own rows old is =
    let none = no_arrival number (max p.clock e.moment) (newest_number p) e.event e.reply.said old in
    let serial : own.serial + (0 + 0) ≡ own.serial = omega arith in
    let same : map (row_after p number (e ∷ [])) (filter (λ row. not (has_ended number (e ∷ []) row.serial)) (own.rows ++ [])) ≡ rows =
    ap (λ rs. map (row_after p number (e ∷ [])) (filter (λ row. not (has_ended number (e ∷ []) row.serial)) rs)) (append-nil own.rows) ∙ is in
    rw (none.1, none.0) (ap (λ n. record own { serial = n; rows = map (row_after p number (e ∷ [])) (filter (λ row. not (has_ended number (e ∷ []) row.serial)) (own.rows ++ [])) }) serial
    ∙ ap (λ rs. record own { rows = rs }) same)

old-elsewhere : (p : Plain) (e : Entry) (id : ConnId) (number : ℕ) (own : FrontendRows) → IsFrontendWell p.versions own → IsOfOpen e.event → id_of e.reply.said ≡ Some id → number ≢ id.frontend →
    frontend_after p (e ∷ []) number own ≡ own
old-elsewhere p e id number own well old whom differs =
    let none = no_arrival number (max p.clock e.moment) (newest_number p) e.event e.reply.said old in
    frontend-elsewhere p number e own well (λ serial. other_conn number serial e.reply.said id whom differs) none.1 none.0

-- the event comes with no plan
no_plan : (event : OwnedEvent) → IsOfOpen event → plan_with event ≡ None
no_plan (Reload text) old = absurd old
no_plan event old = refl

-- and reports of no server
no_mark : (versions : List Version) (event : OwnedEvent) → IsOfOpen event → mark_of versions event ≡ None
no_mark versions (Mark backend n health) old = absurd old
no_mark versions event old = refl

down-old : (p : Plain) (e : Entry) → IsOfOpen e.event → down_after p (e ∷ []) ≡ p.down
down-old p e old = ap (λ o. marked_by o p.down) (no_mark p.versions e.event old)

-- the frontends after an event that leaves these rows of the connection's frontend
frontends-old : (p : Plain) → IsWell p → (e : Entry) (id : ConnId) (own : FrontendRows) (rows : List Row) → slice_get p.frontends id.frontend ≡ Some own → IsOfOpen e.event → id_of e.reply.said ≡ Some id →
    map (row_after p id.frontend (e ∷ [])) (filter (λ row. not (has_ended id.frontend (e ∷ []) row.serial)) own.rows) ≡ rows →
    frontends_after p (e ∷ []) ≡ slice_set p.frontends id.frontend (record own { rows = rows })
frontends-old p well e id own rows there old whom is =
    let zero_plus : 0 + id.frontend ≡ id.frontend = omega arith in
    map_from-one (IsFrontendWell p.versions) (frontend_after p (e ∷ [])) 0 id.frontend p.frontends own _ well.frontends there
    (rw zero_plus (old-here p e id.frontend own rows old is))
    (λ g y known differs. old-elsewhere p e id g y known old whom (λ x. differs (omega arith)))

-- a reply that ends the connection
ended-rows : (p : Plain) (e : Entry) (id : ConnId) (own : FrontendRows) → IsFrontendWell p.versions own → id_of e.reply.said ≡ Some id → is_last e.reply.said ≡ true →
    map (row_after p id.frontend (e ∷ [])) (filter (λ row. not (has_ended id.frontend (e ∷ []) row.serial)) own.rows) ≡ filter (λ row. not (row.serial == id.serial)) own.rows
ended-rows p e id own well whom last =
    rows-left (row_after p id.frontend (e ∷ [])) (λ row. not (has_ended id.frontend (e ∷ []) row.serial)) (λ row. not (row.serial == id.serial)) own.rows
    (all-more (λ row. by_counter row.tracks ≡ row.tracks) _ own.rows (λ row sorted. (ends row, λ left. row-unspoken p id.frontend e row (speaks row left) sorted)) well.sorted)
  where
    ends : (row : Row) → not (has_ended id.frontend (e ∷ []) row.serial) ≡ not (row.serial == id.serial)
    ends row = rw (whom, last) (let on : (id.frontend == id.frontend) ≡ true = same_number id.frontend in grind (arith, nat_tests, on))

    speaks : (row : Row) → not (row.serial == id.serial) ≡ true → speaks_to id.frontend row.serial e.reply.said ≡ false
    speaks row left = rw whom (let on : (id.frontend == id.frontend) ≡ true = same_number id.frontend in grind (arith, nat_tests, on, left))

-- a version goes with the last connection that is of it, where it is not in force, and a table with the last version
-- that lists it
pub after-end : (p : Plain) → IsWell p → (e : Entry) (id : ConnId) (own : FrontendRows) → slice_get p.frontends id.frontend ≡ Some own → IsOfOpen e.event → id_of e.reply.said ≡ Some id → is_last e.reply.said ≡ true →
    after p (e ∷ []) ≡ record {
      clock = max p.clock e.moment;
      listeners = p.listeners;
      frontends = slice_set p.frontends id.frontend (record own { rows = filter (λ row. not (row.serial == id.serial)) own.rows });
      versions = needed_versions (slice_set p.frontends id.frontend (record own { rows = filter (λ row. not (row.serial == id.serial)) own.rows })) (newest_number p) p.versions;
      tables = filter
          (is_listed_by (needed_versions (slice_set p.frontends id.frontend (record own { rows = filter (λ row. not (row.serial == id.serial)) own.rows })) (newest_number p) p.versions))
          (tables_by (max p.clock e.moment) p.frontends (at_moment e.moment p).tables e.reply);
      down = p.down;
    }
after-end p well e id own there old whom last =
    let fine : IsFrontendWell p.versions own = all-at (IsFrontendWell p.versions) p.frontends id.frontend own well.frontends there in
    let left : List FrontendRows = slice_set p.frontends id.frontend (record own { rows = filter (λ row. not (row.serial == id.serial)) own.rows }) in
    let frontends : frontends_after p (e ∷ []) ≡ left = frontends-old p well e id own _ there old whom (ended-rows p e id own fine whom last) in
    let none : version_of e ≡ None = no_version e (no_plan e.event old) in
    let kept : with_said (judging_version p.frontends (newest_number p) e.reply.said) e.reply.said p.versions ≡ p.versions =
    versions_kept (judging_version p.frontends (newest_number p) e.reply.said) e.reply.said p.versions (last_no_offer e.reply.said last) in
    let versions : versions_after p (e ∷ []) ≡ needed_versions left (newest_number p) p.versions =
    versions_quiet p well e none ∙ ap (λ vs. needed_versions (frontends_after p (e ∷ [])) (newest_number p) vs) kept ∙ ap (λ fs. needed_versions fs (newest_number p) p.versions) frontends in
    let tables : tables_after p (e ∷ []) ≡ filter (is_listed_by (needed_versions left (newest_number p) p.versions)) (tables_by (max p.clock e.moment) p.frontends (at_moment e.moment p).tables e.reply) =
    tables_quiet p well e none ∙ ap (λ vs. filter (is_listed_by vs) (tables_by (max p.clock e.moment) p.frontends (at_moment e.moment p).tables e.reply)) versions in
    state_is p (max p.clock e.moment) _ _ _ _ _ _ _ _ tables versions frontends (down-old p e old)

-- a connection once that is said to it, and it tracks those too
abbrev pub row_said : Plain → OwnedEvent → Reply → Row → Row
row_said p event reply row = record row {
  phase = phase_by (plan_of p [] row.version) event reply.said row.phase;
  tracks = by_counter (row.tracks ++ reply.tracks.items);
}

-- a reply that leaves the connection open
changed-rows : (p : Plain) (e : Entry) (id : ConnId) (rows : List Row) → AllByRecursion (λ row. by_counter row.tracks ≡ row.tracks) rows → id_of e.reply.said ≡ Some id → is_last e.reply.said ≡ false →
    map (row_after p id.frontend (e ∷ [])) (filter (λ row. not (has_ended id.frontend (e ∷ []) row.serial)) rows) ≡ change_row id.serial (row_said p e.event e.reply) rows
changed-rows p e id [] sorted whom last = refl
changed-rows p e id (row ∷ rows) sorted whom last =
    let rest = changed-rows p e id rows sorted.1 whom last in
    let stays : not (has_ended id.frontend (e ∷ []) row.serial) ≡ true = rw last refl in
    rw stays (cc (here (row.serial == id.serial) refl, rest))
  where
    here : (b : Bool) → (row.serial == id.serial) ≡ b → row_after p id.frontend (e ∷ []) row ≡ (if row.serial == id.serial then row_said p e.event e.reply row else row)
    here true is =
        let serial : id.serial ≡ row.serial = sym (eqb-true row.serial id.serial is) in
        let speaks : speaks_to id.frontend row.serial e.reply.said ≡ true = rw (whom, serial, same_number id.frontend, same_number row.serial) refl in
        rw (is, speaks) refl
    here false is =
        let other : (id.serial == row.serial) ≡ false = grind (arith, nat_tests, is) in
        let speaks : speaks_to id.frontend row.serial e.reply.said ≡ false = rw (whom, other, and_false _) refl in
        rw is (row-unspoken p id.frontend e row speaks sorted.0)

changed-versions : (p : Plain) (event : OwnedEvent) (reply : Reply) (serial n : ℕ) (rows : List Row) →
    list_any (λ row. row.version == n) (change_row serial (row_said p event reply) rows) ≡ list_any (λ row. row.version == n) rows
changed-versions p event reply serial n [] = refl
changed-versions p event reply serial n (row ∷ rows) = cc (here (row.serial == serial) refl, changed-versions p event reply serial n rows)
  where
    here : (b : Bool) → (row.serial == serial) ≡ b → ((if row.serial == serial then row_said p event reply row else row).version == n) ≡ (row.version == n)
    here true is = rw is refl
    here false is = rw is refl

-- where a server is offered, a cursor of the version that judges the connection moves
pub after-change : (p : Plain) → IsWell p → (e : Entry) (id : ConnId) (own : FrontendRows) → slice_get p.frontends id.frontend ≡ Some own → IsOfOpen e.event → id_of e.reply.said ≡ Some id → is_last e.reply.said ≡ false →
    after p (e ∷ []) ≡ record {
      clock = max p.clock e.moment;
      listeners = p.listeners;
      frontends = slice_set p.frontends id.frontend (record own { rows = change_row id.serial (row_said p e.event e.reply) own.rows });
      versions = with_said (judging_version p.frontends (newest_number p) e.reply.said) e.reply.said p.versions;
      tables = tables_by (max p.clock e.moment) p.frontends (at_moment e.moment p).tables e.reply;
      down = p.down;
    }
after-change p well e id own there old whom last =
    let rows : List Row = change_row id.serial (row_said p e.event e.reply) own.rows in
    let own' : FrontendRows = record own { rows = rows } in
    let frontends : frontends_after p (e ∷ []) ≡ slice_set p.frontends id.frontend own' =
    frontends-old p well e id own rows there old whom (changed-rows p e id own.rows (all-at (IsFrontendWell p.versions) p.frontends id.frontend own well.frontends there).sorted whom last) in
    let on : (n : ℕ) → is_needed p.frontends (newest_number p) n ≡ true → is_needed (frontends_after p (e ∷ [])) (newest_number p) n ≡ true = λ n is.
    ap (λ fs. is_needed fs (newest_number p) n) frontends
    ∙ needed-set p.frontends (newest_number p) id.frontend n own own' there (λ has. changed-versions p e.event e.reply id.serial n own.rows ∙ has) is in
    let none : version_of e ≡ None = no_version e (no_plan e.event old) in
    let versions : versions_after p (e ∷ []) ≡ with_said (judging_version p.frontends (newest_number p) e.reply.said) e.reply.said p.versions = versions_said p well e none on in
    state_is p (max p.clock e.moment) _ _ _ _ _ _ _ _ (tables_said p well e none versions) versions frontends (down-old p e old)

-- A reload.

-- the state once a plan is in force under that number: the version before is forgotten where no connection is of it
abbrev pub with_reload : Plain → ℕ → ℕ → Plan → Plain
with_reload p clock number plan = record {
  clock = clock;
  listeners = p.listeners;
  frontends = p.frontends;
  versions = needed_versions p.frontends number (p.versions ++ next_version number (written_tables (newest p.versions)) plan ∷ []);
  tables = filter (is_listed_by (needed_versions p.frontends number (p.versions ++ next_version number (written_tables (newest p.versions)) plan ∷ [])))
      (tables_alive clock (open_tracks p.frontends) p.tables ++ new_tables number (written_tables (newest p.versions)) plan.tables);
  down = p.down;
}

pub after-reload : (p : Plain) → IsWell p → (moment number : ℕ) (text : List ℕ) (plan : Plan) → meaning text ≡ Ok plan →
    after p (entry moment (Reload text) (reply_of (Reloaded number)) ∷ []) ≡ with_reload p (max p.clock moment) number plan
after-reload p well moment number text plan meant =
    let e : Entry = entry moment (Reload text) (reply_of (Reloaded number)) in
    let brings : version_of e ≡ Some (number, plan) = ap (λ r. option_map (λ plan. (number, plan)) (plan_in r)) meant in
    let force : in_force (newest_number p) (e ∷ []) ≡ number = ap (λ o. option_map_or (λ brought. brought.0) o (newest_number p)) brings in
    let frontends : frontends_after p (e ∷ []) ≡ p.frontends =
    map_from-none (IsFrontendWell p.versions) (frontend_after p (e ∷ [])) 0 p.frontends well.frontends (λ g own fine le. frontend-elsewhere p g e own fine (λ serial. refl) refl refl) in
    let next : List Version = p.versions ++ next_version number (written_tables (newest p.versions)) plan ∷ [] in
    let versions : versions_after p (e ∷ []) ≡ needed_versions p.frontends number next =
    versions_step p well e ∙ ap (λ b. needed_versions (frontends_after p (e ∷ [])) (in_force (newest_number p) (e ∷ [])) (with_version p.versions b)) brings
    ∙ ap (λ n. needed_versions (frontends_after p (e ∷ [])) n next) force ∙ ap (λ fs. needed_versions fs number next) frontends in
    let tables : tables_after p (e ∷ []) ≡ filter (is_listed_by (needed_versions p.frontends number next)) ((at_moment moment p).tables ++ new_tables number (written_tables (newest p.versions)) plan.tables) =
    tables_step-by p well e ∙ ap (λ b. filter (is_listed_by (versions_after p (e ∷ []))) ((at_moment moment p).tables ++ tables_with (newest p.versions) b)) brings
    ∙ ap (λ vs. filter (is_listed_by vs) ((at_moment moment p).tables ++ new_tables number (written_tables (newest p.versions)) plan.tables)) versions in
    state_is p (max p.clock moment) _ _ _ _ _ _ _ _ tables versions frontends refl

-- A report of a server.

-- the state once a server is reported: whether it is down, and the clock, change alone
pub after-mark : (p : Plain) → IsWell p → (moment backend n line : ℕ) (health : Health) →
    after p (entry moment (Mark backend n health) (reply_of (Marked line health)) ∷ [])
    ≡ record p { clock = max p.clock moment; tables = (at_moment moment p).tables; down = marked_by (mark_of p.versions (Mark backend n health)) p.down }
after-mark p well moment backend n line health =
    let e : Entry = entry moment (Mark backend n health) (reply_of (Marked line health)) in
    let frontends : frontends_after p (e ∷ []) ≡ p.frontends =
    map_from-none (IsFrontendWell p.versions) (frontend_after p (e ∷ [])) 0 p.frontends well.frontends (λ g own fine le. frontend-elsewhere p g e own fine (λ serial. refl) refl refl) in
    let on : (n : ℕ) → is_needed p.frontends (newest_number p) n ≡ true → is_needed (frontends_after p (e ∷ [])) (newest_number p) n ≡ true = λ n is.
    ap (λ fs. is_needed fs (newest_number p) n) frontends ∙ is in
    let versions : versions_after p (e ∷ []) ≡ p.versions = versions_said p well e refl on in
    let tables : tables_after p (e ∷ []) ≡ (at_moment moment p).tables =
    tables_said p well e refl versions ∙ tables_kept (max p.clock moment) (at_moment moment p).tables p (Marked line health) refl in
    state_is p (max p.clock moment) _ _ _ _ _ _ _ _ tables versions frontends refl

-- where a connection is open, its frontend is there
pub frontend_there : (frontends : List FrontendRows) (number serial : ℕ) (own : FrontendRows) → is_some (row_in serial (slice_get frontends number)) ≡ true → own ≡ get_or frontends number own → slice_get frontends number ≡ Some own
frontend_there [] number serial own found read = cc
frontend_there (f ∷ frontends) zero serial own found read = ap (λ x. Some x) (sym read)
frontend_there (f ∷ frontends) (suc number) serial own found read = frontend_there frontends number serial own found read

-- The plan of the version in force.

plan-version : (versions : List Version) (n : ℕ) (v : Version) → version_at versions n ≡ Some v → find {X = ℕ × Plan} (λ pair. pair.0 == n) (map (λ version. (version.number, version.plan)) versions) ≡ Some (n, v.plan)
plan-version [] n v there = absurd (let wrong : None ≡ Some v = there in cc)
plan-version (w ∷ versions) n v there = by (w.number == n) refl (plan-version versions n v)
  where
    by : (b : Bool) → (w.number == n) ≡ b → (version_at versions n ≡ Some v → find {X = ℕ × Plan} (λ pair. pair.0 == n) (map (λ version. (version.number, version.plan)) versions) ≡ Some (n, v.plan)) →
        find {X = ℕ × Plan} (λ pair. pair.0 == n) (map (λ version. (version.number, version.plan)) (w ∷ versions)) ≡ Some (n, v.plan)
    by true e rest =
        let same : w ≡ v = let it : Some w ≡ Some v = rw e at there in cc in
        let number : w.number ≡ n = eqb-true w.number n e in
        rw (e, number) (ap (λ u. Some (n, u.plan)) same)
    by false e rest = rw e (rest (rw e at there))

-- the plan by which a new connection is read is that of the newest version
pub plan_in_force : (p : Plain) → IsWell p → (v : Version) → newest p.versions ≡ Some v → plan_of p [] (newest_number p) ≡ Some v.plan
plan_in_force p well v there =
    let number : newest_number p ≡ v.number = ap (λ o. option_map_or (λ version. version.number) o 0) there in
    rw (number, plan-version p.versions v.number v (newest-at p.versions v well.rise there)) refl
