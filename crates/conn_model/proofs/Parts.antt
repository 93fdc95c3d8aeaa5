-- A history in two parts.
use Rattle.std.specs.Prelude.{ℕ, suc, Bool, true, false, not, max, List, [], map, filter, slice_get, Some, refl, ◌+◌, ◌≡◌, ◌≢◌, ◌==◌, ◌&&◌, ◌||◌, ◌∷◌, ◌++◌, if◌then◌else◌}
use Rattle.std.specs.List.{list_any, AllByRecursion}
use Rattle.std.specs.Option.{option_map_or}
use Rattle.std.proofs.Common.{sym, ap, ◌∙◌, arith, append_assoc, append-nil}
use Rattle.std.proofs.lemmas.List.{map-append}
use Rattle.std.proofs.lemmas.List.Elements.{filter-append}
use Rattle.std.proofs.lemmas.Bool.{eq-eqb}
use Rattle.std.proofs.lemmas.Bool.Decides.{nat_tests}
use Rattle.conn_model.proofs.Lists.{or_left}
use Rattle.plan_types.specs.declared.track.Track.{Track}
use Rattle.conn_model.specs.declared.reply.Said.{Said}
use Rattle.conn_model.specs.declared.plain.Phase.{Phase}
use Rattle.conn_model.specs.declared.plain.Row.{Row}
use Rattle.conn_model.specs.declared.plain.FrontendRows.{FrontendRows}
use Rattle.conn_model.specs.declared.plain.Version.{Version}
use Rattle.conn_model.specs.declared.plain.Plain.{Plain}
use Rattle.conn_model.specs.Words.{map_from}
use Rattle.conn_model.specs.History.{now_of, speaks_to, version_of, in_force, newest_number, plan_of, has_version, is_needed, with_version, phase_after, tracks_of, by_counter, is_last, arrival, arrivals, has_ended, accepts, row_after, frontend_after, frontends_after, judging_version, with_said, versions_after, tables_after, after, Entry, down_after}
use Rattle.conn_model.proofs.Versions.{last_number, last_number-filter, last_number-map, last_number-with, version_said, version_said-cursors, with_said-each}

-- What goes on one entry after the other.

pub now_of-append : (s : ℕ) (g h : List Entry) → now_of (now_of s h) g ≡ now_of s (g ++ h)
now_of-append s [] h = refl
now_of-append s (e ∷ g) h = ap (λ m. max m e.moment) (now_of-append s g h)

-- the version in force
pub in_force-append : (s : ℕ) (g h : List Entry) → in_force (in_force s h) g ≡ in_force s (g ++ h)
in_force-append s [] h = refl
in_force-append s (e ∷ g) h = ap (λ n. option_map_or (λ brought. brought.0) (version_of e) n) (in_force-append s g h)

-- what an entry says moves cursors alone
said-numbers : (p : Plain) (h : List Entry) (said : Said) → last_number (with_said (judging_version (frontends_after p h) (in_force (newest_number p) h) said) said (versions_after p h)) ≡ last_number (versions_after p h)
said-numbers p h said =
    let number : ℕ = judging_version (frontends_after p h) (in_force (newest_number p) h) said in
    ap last_number (with_said-each number said (versions_after p h)) ∙ last_number-map (version_said number said) (version_said-cursors number said) (versions_after p h)

-- the newest version is the one in force
pub newest_after : (p : Plain) (h : List Entry) → newest_number (after p h) ≡ in_force (newest_number p) h
newest_after p [] = refl
newest_after p (e ∷ h) =
    let number : ℕ = judging_version (frontends_after p h) (in_force (newest_number p) h) e.reply.said in
    let versions : List Version = with_version (with_said number e.reply.said (versions_after p h)) (version_of e) in
    let force : ℕ = in_force (newest_number p) (e ∷ h) in
    let last : last_number versions ≡ force =
    last_number-with (with_said number e.reply.said (versions_after p h)) (version_of e)
    ∙ ap (λ n. option_map_or (λ brought. brought.0) (version_of e) n) (said-numbers p h e.reply.said ∙ newest_after p h) in
    last_number-filter (λ version. is_needed (frontends_after p (e ∷ h)) force version.number) versions
    (λ w there.
    let same : w.number ≡ force = sym (ap (λ o. option_map_or (λ version. version.number) o 0) there) ∙ last in
    or_left (w.number == force) (list_any (has_version w.number) (frontends_after p (e ∷ h))) (eq-eqb w.number force same)) ∙ last

pub force-append : (p : Plain) (g h : List Entry) → in_force (newest_number (after p h)) g ≡ in_force (newest_number p) (g ++ h)
force-append p g h = ap (λ n. in_force n g) (newest_after p h) ∙ in_force-append (newest_number p) g h

-- the replies to a row are read by the same plan from either state
abbrev pub ReadsAlike : Plain → List Entry → ℕ → Type 0
ReadsAlike p h number = (g : List Entry) → plan_of (after p h) g number ≡ plan_of p (g ++ h) number

-- One row.

phase_after-append : (p : Plain) (number serial version : ℕ) (start : Phase) (g h : List Entry) → ReadsAlike p h version →
    phase_after (after p h) number serial version (phase_after p number serial version start h) g ≡ phase_after p number serial version start (g ++ h)
phase_after-append p number serial version start [] h reads = refl
phase_after-append p number serial version start (e ∷ g) h reads = cc (phase_after-append p number serial version start g h reads, reads g)

tracks_of-append : (number serial : ℕ) (g h : List Entry) → tracks_of number serial (g ++ h) ≡ tracks_of number serial h ++ tracks_of number serial g
tracks_of-append number serial [] h = sym (append-nil (tracks_of number serial h))
tracks_of-append number serial (e ∷ g) h =
    let this : List Track = if speaks_to number serial e.reply.said then e.reply.tracks.items else [] in
    ap (λ ts. ts ++ this) (tracks_of-append number serial g h) ∙ append_assoc (tracks_of number serial h) (tracks_of number serial g) this

-- Tracks by counter.

abbrev of_counter : ℕ → List Track → List Track
of_counter n tracks = filter (λ track. track.counter == n) tracks

kept_one : (n : ℕ) (t : Track) (ts : List Track) (b : Bool) → (t.counter == n) ≡ b → of_counter n (of_counter n ts) ≡ of_counter n ts →
    of_counter n (of_counter n (t ∷ ts)) ≡ of_counter n (t ∷ ts)
kept_one n t ts true e rest = rw (e, e) (ap (λ us. t ∷ us) rest)
kept_one n t ts false e rest = rw e rest

of_counter-same : (n : ℕ) (ts : List Track) → of_counter n (of_counter n ts) ≡ of_counter n ts
of_counter-same n [] = refl
of_counter-same n (t ∷ ts) = kept_one n t ts (t.counter == n) refl (of_counter-same n ts)

left_one : (n m : ℕ) → n ≢ m → (t : Track) (ts : List Track) (b : Bool) → (t.counter == m) ≡ b → of_counter n (of_counter m ts) ≡ [] →
    of_counter n (of_counter m (t ∷ ts)) ≡ []
left_one n m apart t ts true e rest =
    let other : (t.counter == n) ≡ false = grind (arith, nat_tests) in
    rw (e, other) rest
left_one n m apart t ts false e rest = rw e rest

of_counter-other : (n m : ℕ) → n ≢ m → (ts : List Track) → of_counter n (of_counter m ts) ≡ []
of_counter-other n m apart [] = refl
of_counter-other n m apart (t ∷ ts) = left_one n m apart t ts (t.counter == m) refl (of_counter-other n m apart ts)

of_sorted : (n : ℕ) (a b : List Track) → of_counter n (by_counter a) ≡ of_counter n a → of_counter n (by_counter a ++ b) ≡ of_counter n (a ++ b)
of_sorted n a b same =
    filter-append (λ t. t.counter == n) (by_counter a) b ∙ ap (λ ts. ts ++ of_counter n b) same ∙ sym (filter-append (λ t. t.counter == n) a b)

split_three : (n : ℕ) (x y z : List Track) → of_counter n (x ++ y ++ z) ≡ of_counter n x ++ of_counter n y ++ of_counter n z
split_three n x y z = filter-append (λ t. t.counter == n) (x ++ y) z ∙ ap (λ ts. ts ++ of_counter n z) (filter-append (λ t. t.counter == n) x y)

pub by_counter-append : (a b : List Track) → by_counter (by_counter a ++ b) ≡ by_counter (a ++ b)
by_counter-append a b =
    let zero' : of_counter 0 (by_counter a) ≡ of_counter 0 a =
    split_three 0 (of_counter 0 a) (of_counter 1 a) (of_counter 2 a)
    ∙ rw (of_counter-same 0 a, of_counter-other 0 1 (omega arith) a, of_counter-other 0 2 (omega arith) a) (append-nil (of_counter 0 a ++ []) ∙ append-nil (of_counter 0 a)) in
    let one' : of_counter 1 (by_counter a) ≡ of_counter 1 a =
    split_three 1 (of_counter 0 a) (of_counter 1 a) (of_counter 2 a)
    ∙ rw (of_counter-same 1 a, of_counter-other 1 0 (omega arith) a, of_counter-other 1 2 (omega arith) a) (append-nil (of_counter 1 a)) in
    let two' : of_counter 2 (by_counter a) ≡ of_counter 2 a =
    split_three 2 (of_counter 0 a) (of_counter 1 a) (of_counter 2 a)
    ∙ rw (of_counter-same 2 a, of_counter-other 2 0 (omega arith) a, of_counter-other 2 1 (omega arith) a) refl in
    cc (of_sorted 0 a b zero', of_sorted 1 a b one', of_sorted 2 a b two')

pub by_counter-twice : (a : List Track) → by_counter (by_counter a) ≡ by_counter a
by_counter-twice a = ap by_counter (sym (append-nil (by_counter a))) ∙ by_counter-append a [] ∙ ap by_counter (append-nil a)

pub row_after-append : (p : Plain) (number : ℕ) (g h : List Entry) (row : Row) → ReadsAlike p h row.version → row_after (after p h) number g (row_after p number h row) ≡ row_after p number (g ++ h) row
row_after-append p number g h row reads =
    let phase : phase_after (after p h) number row.serial row.version (phase_after p number row.serial row.version row.phase h) g ≡ phase_after p number row.serial row.version row.phase (g ++ h) =
    phase_after-append p number row.serial row.version row.phase g h reads in
    let tracks : by_counter (by_counter (row.tracks ++ tracks_of number row.serial h) ++ tracks_of number row.serial g) ≡ by_counter (row.tracks ++ tracks_of number row.serial (g ++ h)) =
    by_counter-append (row.tracks ++ tracks_of number row.serial h) (tracks_of number row.serial g)
    ∙ ap by_counter (append_assoc row.tracks (tracks_of number row.serial h) (tracks_of number row.serial g)
    ∙ ap (λ ts. row.tracks ++ ts) (sym (tracks_of-append number row.serial g h))) in
    cc (phase, tracks)

-- Rows that were not spoken to.

-- the history speaks to the connection
abbrev pub is_spoken_to : ℕ → List Entry → ℕ → Bool
is_spoken_to number h serial = list_any (λ e. speaks_to number serial e.reply.said) h

pub either_false : (a b : Bool) → (a || b) ≡ false → (a ≡ false) × (b ≡ false)
either_false true b e = absurd (elim_true e)
  where
    elim_true : true ≡ false → ⊥
    elim_true e = cc
either_false false b e = (refl, e)

phase_after-unspoken : (p : Plain) (number serial version : ℕ) (start : Phase) (h : List Entry) → is_spoken_to number h serial ≡ false → phase_after p number serial version start h ≡ start
phase_after-unspoken p number serial version start [] e = refl
phase_after-unspoken p number serial version start (x ∷ h) e =
    let both : (speaks_to number serial x.reply.said ≡ false) × (is_spoken_to number h serial ≡ false) = either_false (speaks_to number serial x.reply.said) (is_spoken_to number h serial) e in
    rw both.0 (phase_after-unspoken p number serial version start h both.1)

tracks_of-unspoken : (number serial : ℕ) (h : List Entry) → is_spoken_to number h serial ≡ false → tracks_of number serial h ≡ []
tracks_of-unspoken number serial [] e = refl
tracks_of-unspoken number serial (x ∷ h) e =
    let both : (speaks_to number serial x.reply.said ≡ false) × (is_spoken_to number h serial ≡ false) = either_false (speaks_to number serial x.reply.said) (is_spoken_to number h serial) e in
    rw (both.0, tracks_of-unspoken number serial h both.1) refl

and_false : (a : Bool) → (a && false) ≡ false
and_false true = refl
and_false false = refl

has_ended-unspoken : (number serial : ℕ) (h : List Entry) → is_spoken_to number h serial ≡ false → has_ended number h serial ≡ false
has_ended-unspoken number serial [] e = refl
has_ended-unspoken number serial (x ∷ h) e =
    let both : (speaks_to number serial x.reply.said ≡ false) × (is_spoken_to number h serial ≡ false) = either_false (speaks_to number serial x.reply.said) (is_spoken_to number h serial) e in
    rw (both.0, and_false (is_last x.reply.said), has_ended-unspoken number serial h both.1) refl

or_assoc : (a b c : Bool) → ((a || b) || c) ≡ (a || (b || c))
or_assoc true b c = refl
or_assoc false b c = refl

has_ended-append : (number serial : ℕ) (g h : List Entry) → has_ended number (g ++ h) serial ≡ (has_ended number g serial || has_ended number h serial)
has_ended-append number serial [] h = refl
has_ended-append number serial (e ∷ g) h =
    let this : Bool = is_last e.reply.said && speaks_to number serial e.reply.said in
    ap (λ b. this || b) (has_ended-append number serial g h) ∙ sym (or_assoc this (has_ended number g serial) (has_ended number h serial))

accepts-append : (number : ℕ) (g h : List Entry) → accepts number (g ++ h) ≡ accepts number h + accepts number g
accepts-append number [] h = omega arith
accepts-append number (e ∷ g) h = let rest : accepts number (g ++ h) ≡ accepts number h + accepts number g = accepts-append number g h in omega (arith, rest)

arrivals-append : (p : Plain) (number : ℕ) (g h : List Entry) → arrivals p number (g ++ h) ≡ arrivals p number h ++ arrivals (after p h) number g
arrivals-append p number [] h = sym (append-nil (arrivals p number h))
arrivals-append p number (e ∷ g) h =
    let now : now_of (now_of p.clock h) (e ∷ g) ≡ now_of p.clock (e ∷ (g ++ h)) = now_of-append p.clock (e ∷ g) h in
    let force : in_force (newest_number (after p h)) g ≡ in_force (newest_number p) (g ++ h) = force-append p g h in
    let this : List Row = arrival number (now_of p.clock (e ∷ (g ++ h))) (in_force (newest_number p) (g ++ h)) e.event e.reply.said in
    let that : arrival number (now_of (now_of p.clock h) (e ∷ g)) (in_force (newest_number (after p h)) g) e.event e.reply.said ≡ this = cc (now, force) in
    ap (λ rows. rows ++ this) (arrivals-append p number g h) ∙ append_assoc (arrivals p number h) (arrivals (after p h) number g) this
    ∙ ap (λ rows. arrivals p number h ++ (arrivals (after p h) number g ++ rows)) (sym that)

-- Rows that were there: changed and filtered twice.

one_old : {X : Type 0} (f f' f'' : X → X) (live_h live_g live : X → Bool) (x : X) (xs : List X) (a b : Bool) → live_h x ≡ a → live_g x ≡ b →
    live_g (f x) ≡ live_g x → live x ≡ (live_g x && live_h x) → (live_h x ≡ true → f' (f x) ≡ f'' x) →
    map f' (filter live_g (map f (filter live_h xs))) ≡ map f'' (filter live xs) →
    map f' (filter live_g (map f (filter live_h (x ∷ xs)))) ≡ map f'' (filter live (x ∷ xs))
one_old f f' f'' live_h live_g live x xs true true ea eb keeps both same rest = rw (both, ea, eb, keeps, eb) (cc (same ea, rest))
one_old f f' f'' live_h live_g live x xs true false ea eb keeps both same rest = rw (both, ea, eb, keeps, eb) rest
one_old f f' f'' live_h live_g live x xs false true ea eb keeps both same rest = rw (both, ea, eb) rest
one_old f f' f'' live_h live_g live x xs false false ea eb keeps both same rest = rw (both, ea, eb) rest

old_rows : {X : Type 0} (f f' f'' : X → X) (live_h live_g live : X → Bool) (xs : List X) →
    ((x : X) → live_g (f x) ≡ live_g x) → ((x : X) → live x ≡ (live_g x && live_h x)) → AllByRecursion (λ x. live_h x ≡ true → f' (f x) ≡ f'' x) xs →
    map f' (filter live_g (map f (filter live_h xs))) ≡ map f'' (filter live xs)
old_rows f f' f'' live_h live_g live [] keeps both same = refl
old_rows f f' f'' live_h live_g live (x ∷ xs) keeps both same =
    one_old f f' f'' live_h live_g live x xs (live_h x) (live_g x) refl refl (keeps x) (both x) same.0 (old_rows f f' f'' live_h live_g live xs keeps both same.1)

-- Rows that are new: alike either way.

new_rows : {X : Type 0} (f' f'' : X → X) (live_g live : X → Bool) (xs : List X) → AllByRecursion (λ x. (live_g x ≡ live x) × (f' x ≡ f'' x)) xs →
    map f' (filter live_g xs) ≡ map f'' (filter live xs)
new_rows f' f'' live_g live [] same = refl
new_rows f' f'' live_g live (x ∷ xs) same = one (live x) refl (new_rows f' f'' live_g live xs same.1)
  where
    one : (b : Bool) → live x ≡ b → map f' (filter live_g xs) ≡ map f'' (filter live xs) → map f' (filter live_g (x ∷ xs)) ≡ map f'' (filter live (x ∷ xs))
    one true e rest = rw (same.0.0, e) (cc (same.0.1, rest))
    one false e rest = rw (same.0.0, e) rest

not_or : (a b : Bool) → not (a || b) ≡ (not a && not b)
not_or true b = refl
not_or false b = refl

fresh_row : (p : Plain) (number : ℕ) (g h : List Entry) (row : Row) → is_spoken_to number h row.serial ≡ false → ReadsAlike p h row.version →
    row_after (after p h) number g row ≡ row_after p number (g ++ h) row
fresh_row p number g h row free reads =
    let q : Plain = after p h in
    let phase : phase_after p number row.serial row.version row.phase h ≡ row.phase = phase_after-unspoken p number row.serial row.version row.phase h free in
    let none : tracks_of number row.serial h ≡ [] = tracks_of-unspoken number row.serial h free in
    let later : List Track = tracks_of number row.serial g in
    let tracks : by_counter (by_counter (row.tracks ++ tracks_of number row.serial h) ++ later) ≡ by_counter (row.tracks ++ later) =
    by_counter-append (row.tracks ++ tracks_of number row.serial h) later
    ∙ ap (λ ts. by_counter ((row.tracks ++ ts) ++ later)) none ∙ ap (λ ts. by_counter (ts ++ later)) (append-nil row.tracks) in
    let same : row_after q number g (row_after p number h row) ≡ row_after q number g row = cc (phase, tracks) in
    sym same ∙ row_after-append p number g h row reads

fresh_rows : (p : Plain) (number : ℕ) (g h : List Entry) (rows : List Row) → AllByRecursion (λ row. (is_spoken_to number h row.serial ≡ false) × ReadsAlike p h row.version) rows →
    AllByRecursion (λ row. (not (has_ended number g row.serial) ≡ not (has_ended number (g ++ h) row.serial)) × (row_after (after p h) number g row ≡ row_after p number (g ++ h) row)) rows
fresh_rows p number g h [] fresh = tt
fresh_rows p number g h (row ∷ rows) fresh = (
  (
    rw (has_ended-append number row.serial g h, has_ended-unspoken number row.serial h fresh.0.0) (ap not (or_false (has_ended number g row.serial))),
    fresh_row p number g h row fresh.0.0 fresh.0.1,
  ),
  fresh_rows p number g h rows fresh.1,
)
  where
    or_false : (b : Bool) → b ≡ (b || false)
    or_false true = refl
    or_false false = refl

kept_rows : (p : Plain) (number : ℕ) (g h : List Entry) (rows : List Row) → AllByRecursion (λ row. not (has_ended number h row.serial) ≡ true → ReadsAlike p h row.version) rows →
    AllByRecursion (λ row. not (has_ended number h row.serial) ≡ true → row_after (after p h) number g (row_after p number h row) ≡ row_after p number (g ++ h) row) rows
kept_rows p number g h [] kept = tt
kept_rows p number g h (row ∷ rows) kept = ((λ live. row_after-append p number g h row (kept.0 live)), kept_rows p number g h rows kept.1)

-- A frontend.

-- the plans of its open rows are kept, and no reply before speaks to what is opened after
pub record GoesOn (p : Plain) (number : ℕ) (own : FrontendRows) (g h : List Entry) : Type 0 where
  pub kept : AllByRecursion (λ row. not (has_ended number h row.serial) ≡ true → ReadsAlike p h row.version) (own.rows ++ arrivals p number h)
  pub fresh : AllByRecursion (λ row. (is_spoken_to number h row.serial ≡ false) × ReadsAlike p h row.version) (arrivals (after p h) number g)

frontend_in_parts : (p : Plain) (number : ℕ) (own : FrontendRows) (g h : List Entry) → GoesOn p number own g h →
    frontend_after (after p h) g number (frontend_after p h number own) ≡ frontend_after p (g ++ h) number own
frontend_in_parts p number own g h goes =
    let q : Plain = after p h in
    let serial : (own.serial + accepts number h) + accepts number g ≡ own.serial + accepts number (g ++ h) =
    rw (accepts-append number g h) (omega arith) in
    let f : Row → Row = row_after p number h in
    let f' : Row → Row = row_after q number g in
    let f'' : Row → Row = row_after p number (g ++ h) in
    let live_h : Row → Bool = λ row. not (has_ended number h row.serial) in
    let live_g : Row → Bool = λ row. not (has_ended number g row.serial) in
    let live : Row → Bool = λ row. not (has_ended number (g ++ h) row.serial) in
    let old : List Row = own.rows ++ arrivals p number h in
    let new' : List Row = arrivals q number g in
    let first : map f' (filter live_g (map f (filter live_h old))) ≡ map f'' (filter live old) =
    old_rows f f' f'' live_h live_g live old (λ row. refl) (λ row. ap not (has_ended-append number row.serial g h) ∙ not_or (has_ended number g row.serial) (has_ended number h row.serial))
    (kept_rows p number g h old goes.kept) in
    let second : map f' (filter live_g new') ≡ map f'' (filter live new') =
    new_rows f' f'' live_g live new' (fresh_rows p number g h new' goes.fresh) in
    let parted : map f' (filter live_g (map f (filter live_h old) ++ new')) ≡ map f' (filter live_g (map f (filter live_h old))) ++ map f' (filter live_g new') =
    ap (map f') (filter-append live_g (map f (filter live_h old)) new') ∙ map-append f' (filter live_g (map f (filter live_h old))) (filter live_g new') in
    let joined : map f'' (filter live (old ++ new')) ≡ map f'' (filter live old) ++ map f'' (filter live new') =
    ap (map f'') (filter-append live old new') ∙ map-append f'' (filter live old) (filter live new') in
    let all : own.rows ++ arrivals p number (g ++ h) ≡ old ++ new' =
    ap (λ rows. own.rows ++ rows) (arrivals-append p number g h) ∙ sym (append_assoc own.rows (arrivals p number h) new') in
    let rows : map f' (filter live_g (map f (filter live_h old) ++ new')) ≡ map f'' (filter live (own.rows ++ arrivals p number (g ++ h))) =
    parted ∙ cc (first, second) ∙ sym joined ∙ ap (λ xs. map f'' (filter live xs)) (sym all) in
    cc (serial, rows)

-- Lists changed by number.

map_from-twice : {X : Type 0} (f g k : ℕ → X → X) (n : ℕ) (xs : List X) → ((i : ℕ) (x : X) → slice_get xs i ≡ Some x → g (n + i) (f (n + i) x) ≡ k (n + i) x) →
    map_from g n (map_from f n xs) ≡ map_from k n xs
map_from-twice f g k n [] same = refl
map_from-twice f g k n (x ∷ xs) same =
    let place : n + 0 ≡ n = omega arith in
    let here : g n (f n x) ≡ k n x = rw place at (same 0 x refl) in
    let rest : map_from g (n + 1) (map_from f (n + 1) xs) ≡ map_from k (n + 1) xs =
    map_from-twice f g k (n + 1) xs (λ i y there. let shift : n + suc i ≡ (n + 1) + i = omega arith in rw shift at (same (suc i) y there)) in
    cc (here, rest)

-- each frontend goes on
abbrev pub AllGoOn : Plain → List Entry → List Entry → Type 0
AllGoOn p g h = (number : ℕ) (own : FrontendRows) → slice_get p.frontends number ≡ Some own → GoesOn p number own g h

pub frontends_in_parts : (p : Plain) (g h : List Entry) → AllGoOn p g h → frontends_after (after p h) g ≡ frontends_after p (g ++ h)
frontends_in_parts p g h goes =
    map_from-twice (frontend_after p h) (frontend_after (after p h) g) (frontend_after p (g ++ h)) 0 p.frontends
    (λ i own there. rw (zero_plus i) (frontend_in_parts p i own g h (goes i own there)))
  where
    zero_plus : (n : ℕ) → 0 + n ≡ n
    zero_plus n = omega arith

-- a history in two parts, where its versions, its tables and the servers that are down are those of the whole
pub history_parts : (p : Plain) (g h : List Entry) → AllGoOn p g h → versions_after (after p h) g ≡ versions_after p (g ++ h) → tables_after (after p h) g ≡ tables_after p (g ++ h) →
    down_after (after p h) g ≡ down_after p (g ++ h) → after (after p h) g ≡ after p (g ++ h)
history_parts p g h goes versions tables down = cc (now_of-append p.clock g h, frontends_in_parts p g h goes, versions, tables, down)
