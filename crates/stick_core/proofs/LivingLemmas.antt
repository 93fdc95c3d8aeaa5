-- Entries that are gone: nobody tracks them, and they were touched too long ago.
use Rattle.std.proofs.Common.{◌≡◌, ℕ, ◌<◌, ◌≤◌, Bool, true, false, not, List, [], ◌∷◌, ◌++◌, length, Option, Some, None, refl, sym, ap, subst, ◌∙◌, arith}
use Rattle.std.specs.Prelude.{find, filter, nat_lt, ◌==◌, ◌&&◌, ◌||◌, if◌then◌else◌}
use Rattle.std.specs.Option.{option_map_or}
use Rattle.std.specs.List.{list_any, AllByRecursion}
use Rattle.std.proofs.lemmas.Bool.Decides.{nat_tests}
use Rattle.std.proofs.lemmas.List.Elements.{filter-append}
use Rattle.std.proofs.lemmas.List.Folds.{list_any-append}
use Rattle.addr_core.specs.declared.addr.Addr.{Addr}
use Rattle.stick_core.specs.declared.entries.StickEntry.{StickEntry}
use Rattle.addr_core.proofs.SameLemmas.{same_addr-is}
use Rattle.stick_core.specs.Entries.{first_entry, once_less, once_more, released, is_of, is_free, is_gone, is_listed, is_over, living, others, without_first_free, cur_of, AreInTurn, HasKeysOnce, TouchesRise}
use Rattle.stick_core.specs.Listing.{Listing, IsSound, can_list, cur_at, entries_with, key_taken, passed}
use Rattle.stick_core.specs.Key.{key_in}
use Rattle.stick_core.specs.PlainEntries.{alive, is_absent, plain, plain_entry, AreTrackers}
use Rattle.stick_core.proofs.PlainLemmas.{have_trackers, HaveTrackers}
use Rattle.stick_core.proofs.TouchLemmas.{find-fewer, gone-here, gone-past, once-filter}

-- Lists of any items.

-- two filters, in either order
pub filter-swap : {X : Type 0} (p q : X → Bool) (xs : List X) → filter p (filter q xs) ≡ filter q (filter p xs)
filter-swap p q [] = refl
filter-swap {X} p q (x ∷ xs) = by (p x) refl (q x) refl (filter-swap p q xs)
  where
    by : (a : Bool) → p x ≡ a → (b : Bool) → q x ≡ b → filter p (filter q xs) ≡ filter q (filter p xs) → filter p (filter q (x ∷ xs)) ≡ filter q (filter p (x ∷ xs))
    by true is true that more = simp (is, that) (ap (λ l. x ∷ l) more)
    by true is false that more = simp (is, that) more
    by false is true that more = simp (is, that) more
    by false is false that more = simp (is, that) more

-- what passes the second of two filters passes the first
pub filter-twice : {X : Type 0} (p q : X → Bool) → ((x : X) → p x ≡ true → q x ≡ true) → (xs : List X) → filter p (filter q xs) ≡ filter p xs
filter-twice p q lets [] = refl
filter-twice {X} p q lets (x ∷ xs) = by (p x) refl (q x) refl (filter-twice p q lets xs)
  where
    by : (a : Bool) → p x ≡ a → (b : Bool) → q x ≡ b → filter p (filter q xs) ≡ filter p xs → filter p (filter q (x ∷ xs)) ≡ filter p (x ∷ xs)
    by true is true that more = rw (is, that, is) (ap (λ l. x ∷ l) more)
    by true is false that more = absurd (let wrong : q x ≡ true = lets x is in cc)
    by false is true that more = rw (is, that, is) more
    by false is false that more = rw (is, that) more

all-filter : {X : Type 0} (P : X → Type 0) (q : X → Bool) (xs : List X) → AllByRecursion P xs → AllByRecursion P (filter q xs)
all-filter P q [] all = tt
all-filter {X} P q (x ∷ xs) all = by (q x) refl (all-filter P q xs all.1)
  where
    by : (b : Bool) → q x ≡ b → AllByRecursion P (filter q xs) → AllByRecursion P (filter q (x ∷ xs))
    by true is more = rw is (all.0, more)
    by false is more = rw is more

all-push : {X : Type 0} (P : X → Type 0) (xs : List X) (x : X) → AllByRecursion P xs → P x → AllByRecursion P (xs ++ x ∷ [])
all-push P [] x all one = (one, tt)
all-push P (y ∷ xs) x all one = (all.0, all-push P xs x all.1 one)

all-to : {X : Type 0} (P Q : X → Type 0) → ((x : X) → P x → Q x) → (xs : List X) → AllByRecursion P xs → AllByRecursion Q xs
all-to P Q to [] all = tt
all-to P Q to (x ∷ xs) all = (to x all.0, all-to P Q to xs all.1)

-- Time.

-- what is over stays so
over-later : (expire moment later last : ℕ) → moment ≤ later → is_over expire moment last ≡ true → is_over expire later last ≡ true
over-later expire moment later last less over = grind (arith, nat_tests)

-- what was touched later is over later
over-older : (expire moment first last : ℕ) → first ≤ last → is_over expire moment first ≡ false → is_over expire moment last ≡ false
over-older expire moment first last less over = grind (arith, nat_tests)

-- what is touched now is not over
pub over-now : (expire moment : ℕ) → is_over expire moment moment ≡ false
over-now expire moment = grind (arith, nat_tests)

not-both : (a b : Bool) → a ≡ false → (a && b) ≡ false
not-both true b is = absurd (cc)
not-both false b is = refl

not-either : (a b : Bool) → b ≡ false → (a && b) ≡ false
not-either true b is = is
not-either false b is = refl

first-of-both : (a b : Bool) → (a && b) ≡ true → a ≡ true
first-of-both true b is = refl
first-of-both false b is = absurd (cc)

second-of-both : (a b : Bool) → (a && b) ≡ true → b ≡ true
second-of-both true b is = is
second-of-both false b is = absurd (cc)

-- an entry that is gone is free
pub gone-free : (expire moment : ℕ) (e : StickEntry) → is_gone expire moment e ≡ true → is_free e ≡ true
gone-free expire moment e gone = first-of-both (is_free e) (is_over expire moment e.last_touch) gone

gone-later : (expire moment later : ℕ) → moment ≤ later → (e : StickEntry) → is_gone expire moment e ≡ true → is_gone expire later e ≡ true
gone-later expire moment later less e gone =
    let free : is_free e ≡ true = gone-free expire moment e gone in
    let over : is_over expire later e.last_touch ≡ true = over-later expire moment later e.last_touch less (second-of-both (is_free e) (is_over expire moment e.last_touch) gone) in
    rw free over

-- an entry that is tracked is not gone
pub tracked-lives : (expire moment : ℕ) (e : StickEntry) → is_free e ≡ false → is_gone expire moment e ≡ false
tracked-lives expire moment e held = not-both (is_free e) (is_over expire moment e.last_touch) held

-- nor one that is touched now
pub touched-lives : (expire moment : ℕ) (e : StickEntry) → e.last_touch ≡ moment → is_gone expire moment e ≡ false
touched-lives expire moment e now = not-either (is_free e) (is_over expire moment e.last_touch) (ap (is_over expire moment) now ∙ over-now expire moment)

-- Entries that live.

not-gone : (expire moment later : ℕ) → moment ≤ later → (e : StickEntry) → not (is_gone expire later e) ≡ true → not (is_gone expire moment e) ≡ true
not-gone expire moment later less e lives = by (is_gone expire moment e) refl
  where
    by : (b : Bool) → is_gone expire moment e ≡ b → not (is_gone expire moment e) ≡ true
    by true is = absurd (let wrong : is_gone expire later e ≡ true = gone-later expire moment later less e is in let other : false ≡ true = rw wrong at lives in cc)
    by false is = rw is refl

-- those that live then live now
pub living-later : (expire moment later : ℕ) → moment ≤ later → (es : List StickEntry) → living expire later (living expire moment es) ≡ living expire later es
living-later expire moment later less es = filter-twice (λ e. not (is_gone expire later e)) (λ e. not (is_gone expire moment e)) (not-gone expire moment later less) es

-- where none is gone all live
pub living-all : (expire moment : ℕ) (es : List StickEntry) → list_any (is_gone expire moment) es ≡ false → living expire moment es ≡ es
living-all expire moment [] none = refl
living-all expire moment (e ∷ es) none = by (is_gone expire moment e) refl none (living-all expire moment es)
  where
    by : (b : Bool) → is_gone expire moment e ≡ b → list_any (is_gone expire moment) (e ∷ es) ≡ false → (list_any (is_gone expire moment) es ≡ false → living expire moment es ≡ es)
        → living expire moment (e ∷ es) ≡ e ∷ es
    by true is none more = absurd (let wrong : true ≡ false = rw is at none in cc)
    by false is none more = rw is (ap (λ l. e ∷ l) (more (rw is at none)))

-- so where none is ever gone
pub living-for_ever : (expire moment : ℕ) (es : List StickEntry) → expire ≡ 0 → living expire moment es ≡ es
living-for_ever expire moment es never = rw never (living-all 0 moment es (none es))
  where
    none : (es : List StickEntry) → list_any (is_gone 0 moment) es ≡ false
    none [] = refl
    none (e ∷ es) = rw (not-either (is_free e) (is_over 0 moment e.last_touch) refl) (none es)

pub length-living : (expire moment : ℕ) (es : List StickEntry) → length (living expire moment es) ≤ length es
length-living expire moment [] = omega arith
length-living expire moment (e ∷ es) = by (is_gone expire moment e) refl (length-living expire moment es)
  where
    by : (b : Bool) → is_gone expire moment e ≡ b → length (living expire moment es) ≤ length es → length (living expire moment (e ∷ es)) ≤ length (e ∷ es)
    by true is more = rw is (omega (arith, more))
    by false is more = rw is (omega (arith, more))

-- where some is gone fewer live
pub fewer-live : (expire moment : ℕ) (es : List StickEntry) → list_any (is_gone expire moment) es ≡ true → length (living expire moment es) < length es
fewer-live expire moment [] some = absurd (cc)
fewer-live expire moment (e ∷ es) some = by (is_gone expire moment e) refl some (fewer-live expire moment es)
  where
    by : (b : Bool) → is_gone expire moment e ≡ b → list_any (is_gone expire moment) (e ∷ es) ≡ true → (list_any (is_gone expire moment) es ≡ true → length (living expire moment es) < length es)
        → length (living expire moment (e ∷ es)) < length (e ∷ es)
    by true is some more = rw is (let least : length (living expire moment es) ≤ length es = length-living expire moment es in omega (arith, least))
    by false is some more = rw is (let least : length (living expire moment es) < length es = more (rw is at some) in omega (arith, least))

-- the entry of a key that lives is found
pub living-found : (expire moment : ℕ) (key : Addr) (es : List StickEntry) (e : StickEntry) → find (is_of key) es ≡ Some e → is_gone expire moment e ≡ false → find (is_of key) (living expire moment es) ≡ Some e
living-found expire moment key [] e found lives = absurd (cc)
living-found expire moment key (x ∷ es) e found lives = by (is_of key x) refl (is_gone expire moment x) refl found (living-found expire moment key es e)
  where
    by : (b : Bool) → is_of key x ≡ b → (g : Bool) → is_gone expire moment x ≡ g → find (is_of key) (x ∷ es) ≡ Some e
        → (find (is_of key) es ≡ Some e → is_gone expire moment e ≡ false → find (is_of key) (living expire moment es) ≡ Some e) → find (is_of key) (living expire moment (x ∷ es)) ≡ Some e
    by true own true gone found more =
        let it : Some x ≡ Some e = rw own at found in
        let same : x ≡ e = cc in
        absurd (let wrong : true ≡ false = sym gone ∙ ap (is_gone expire moment) same ∙ lives in cc)
    by true own false gone found more = rw (gone, own) (rw own at found)
    by false own true gone found more = rw gone (more (rw own at found) lives)
    by false own false gone found more = rw (gone, own) (more (rw own at found) lives)

-- one that is gone is not, nor another one of its key
pub living-lost : (expire moment : ℕ) (key : Addr) (es : List StickEntry) (e : StickEntry) → HasKeysOnce es → find (is_of key) es ≡ Some e → is_gone expire moment e ≡ true
    → find (is_of key) (living expire moment es) ≡ None
living-lost expire moment key [] e once found gone = absurd (cc)
living-lost expire moment key (x ∷ es) e once found gone = by (is_of key x) refl (is_gone expire moment x) refl found (living-lost expire moment key es e once.1)
  where
    by : (b : Bool) → is_of key x ≡ b → (g : Bool) → is_gone expire moment x ≡ g → find (is_of key) (x ∷ es) ≡ Some e
        → (find (is_of key) es ≡ Some e → is_gone expire moment e ≡ true → find (is_of key) (living expire moment es) ≡ None) → find (is_of key) (living expire moment (x ∷ es)) ≡ None
    by true own true lost found more =
        let none : find (is_of key) es ≡ None = ap (λ a. find (is_of a) es) (sym (same_addr-is x.key key own)) ∙ once.0 in
        rw lost (find-fewer (is_of key) (λ e. not (is_gone expire moment e)) es none)
    by true own false lost found more =
        let it : Some x ≡ Some e = rw own at found in
        let same : x ≡ e = cc in
        absurd (let wrong : true ≡ false = sym gone ∙ ap (is_gone expire moment) (sym same) ∙ lost in cc)
    by false own true lost found more = rw lost (more (rw own at found) gone)
    by false own false lost found more = rw (lost, own) (more (rw own at found) gone)

pub living-none : (expire moment : ℕ) (key : Addr) (es : List StickEntry) → find (is_of key) es ≡ None → find (is_of key) (living expire moment es) ≡ None
living-none expire moment key es none = find-fewer (is_of key) (λ e. not (is_gone expire moment e)) es none

free_is : (n : ℕ) → (n == 0) ≡ true → n ≡ 0
free_is n e = grind (arith, nat_tests)

-- so many track each key
pub cur_of-living : (expire moment : ℕ) (es : List StickEntry) → HasKeysOnce es → (key : Addr) → cur_of key (living expire moment es) ≡ cur_of key es
cur_of-living expire moment es once key = by (find (is_of key) es) refl
  where
    here : (e : StickEntry) → find (is_of key) es ≡ Some e → (g : Bool) → is_gone expire moment e ≡ g → cur_of key (living expire moment es) ≡ cur_of key es
    here e found true gone =
        let none : find (is_of key) (living expire moment es) ≡ None = living-lost expire moment key es e once found gone in
        let zero : e.cur ≡ 0 = free_is e.cur (gone-free expire moment e gone) in
        rw (none, found) (sym zero)
    here e found false gone = rw (living-found expire moment key es e found gone, found) refl

    by : (o : Option StickEntry) → find (is_of key) es ≡ o → cur_of key (living expire moment es) ≡ cur_of key es
    by None is = rw (living-none expire moment key es is, is) refl
    by (Some e) is = here e is (is_gone expire moment e) refl

pub trackers-living : (trackers : Addr → ℕ) (expire moment : ℕ) (es : List StickEntry) → HasKeysOnce es → AreTrackers trackers es → AreTrackers trackers (living expire moment es)
trackers-living trackers expire moment es once agree = λ key. cur_of-living expire moment es once key ∙ agree key

pub sound-living : (size expire moment : ℕ) (es : List StickEntry) → IsSound size es → IsSound size (living expire moment es)
sound-living size expire moment es sound =
    record { fits = let least : length (living expire moment es) ≤ length es = length-living expire moment es in omega (arith, least, sound.fits); once = once-filter (λ e. not (is_gone expire moment e)) es sound.once }

pub living-push : (expire moment : ℕ) (es : List StickEntry) (e : StickEntry) → is_gone expire moment e ≡ false → living expire moment (es ++ e ∷ []) ≡ living expire moment es ++ e ∷ []
living-push expire moment es e lives = filter-append (λ e. not (is_gone expire moment e)) es (e ∷ []) ∙ ap (λ l. living expire moment es ++ l) (rw lives refl)

pub living-others : (expire moment : ℕ) (key : Addr) (es : List StickEntry) → living expire moment (others key es) ≡ others key (living expire moment es)
living-others expire moment key es = filter-swap (λ e. not (is_gone expire moment e)) (λ e. not (is_of key e)) es

-- The first free entry.

pub some-free : (expire moment : ℕ) (es : List StickEntry) → list_any (is_gone expire moment) es ≡ true → list_any is_free es ≡ true
some-free expire moment [] some = absurd (cc)
some-free expire moment (e ∷ es) some = by (is_gone expire moment e) refl (is_free e) refl some (some-free expire moment es)
  where
    by : (g : Bool) → is_gone expire moment e ≡ g → (f : Bool) → is_free e ≡ f → list_any (is_gone expire moment) (e ∷ es) ≡ true → (list_any (is_gone expire moment) es ≡ true → list_any is_free es ≡ true)
        → list_any is_free (e ∷ es) ≡ true
    by g is true free some more = rw free refl
    by true is false free some more = absurd (let wrong : is_free e ≡ true = gone-free expire moment e is in cc)
    by false is false free some more = rw free (more (rw is at some))

-- of entries that were touched no earlier than one that is not over, none is gone
none-later : (expire moment first : ℕ) (es : List StickEntry) → is_over expire moment first ≡ false → AllByRecursion (λ e. first ≤ e.last_touch) es → list_any (is_gone expire moment) es ≡ false
none-later expire moment first [] lasts all = refl
none-later expire moment first (e ∷ es) lasts all =
    let lives : is_gone expire moment e ≡ false = not-either (is_free e) (is_over expire moment e.last_touch) (over-older expire moment first e.last_touch all.0 lasts) in
    rw lives (none-later expire moment first es lasts all.1)

-- some entry is gone exactly where the first free one is
pub first-gone : (expire moment : ℕ) (es : List StickEntry) → TouchesRise es → option_map_or (is_gone expire moment) (find is_free es) false ≡ list_any (is_gone expire moment) es
first-gone expire moment [] rise = refl
first-gone expire moment (e ∷ es) rise = by (is_free e) refl (is_over expire moment e.last_touch) refl (first-gone expire moment es rise.1)
  where
    by : (f : Bool) → is_free e ≡ f → (o : Bool) → is_over expire moment e.last_touch ≡ o → option_map_or (is_gone expire moment) (find is_free es) false ≡ list_any (is_gone expire moment) es
        → option_map_or (is_gone expire moment) (find is_free (e ∷ es)) false ≡ list_any (is_gone expire moment) (e ∷ es)
    by true free true over more = simp (free, over)
    by true free false over more = simp (free, over) (sym (none-later expire moment e.last_touch es over rise.0))
    by false free o over more = simp free more

-- where it is gone, the others live as before without it
pub living-without : (expire moment : ℕ) (es : List StickEntry) → option_map_or (is_gone expire moment) (find is_free es) false ≡ true → living expire moment (without_first_free es) ≡ living expire moment es
living-without expire moment [] gone = absurd (cc)
living-without expire moment (e ∷ es) gone = by (is_free e) refl gone (living-without expire moment es)
  where
    by : (f : Bool) → is_free e ≡ f → option_map_or (is_gone expire moment) (find is_free (e ∷ es)) false ≡ true
        → (option_map_or (is_gone expire moment) (find is_free es) false ≡ true → living expire moment (without_first_free es) ≡ living expire moment es)
        → living expire moment (without_first_free (e ∷ es)) ≡ living expire moment (e ∷ es)
    by true free gone more =
        let it : is_gone expire moment e ≡ true = rw free at gone in
        ap (living expire moment) (gone-here is_free e es free) ∙ rw it refl
    by false free gone more =
        let lives : is_gone expire moment e ≡ false = tracked-lives expire moment e free in
        ap (living expire moment) (gone-past is_free e es free) ∙ rw lives (ap (λ l. e ∷ l) (more (rw free at gone)))

-- without the first free one there is still none
pub none-left : (p : StickEntry → Bool) (es : List StickEntry) → list_any p es ≡ false → list_any p (without_first_free es) ≡ false
none-left p [] none = refl
none-left p (e ∷ es) none = by (p e) refl (is_free e) refl none (none-left p es)
  where
    by : (b : Bool) → p e ≡ b → (f : Bool) → is_free e ≡ f → list_any p (e ∷ es) ≡ false → (list_any p es ≡ false → list_any p (without_first_free es) ≡ false) → list_any p (without_first_free (e ∷ es)) ≡ false
    by true is f free none more = absurd (let wrong : true ≡ false = rw is at none in cc)
    by false is true free none more = ap (list_any p) (gone-here is_free e es free) ∙ (rw is at none)
    by false is false free none more = ap (list_any p) (gone-past is_free e es free) ∙ rw is (more (rw is at none))

-- Where none is gone.

pub none-living : (expire moment : ℕ) (es : List StickEntry) → list_any (is_gone expire moment) (living expire moment es) ≡ false
none-living expire moment [] = refl
none-living expire moment (e ∷ es) = by (is_gone expire moment e) refl (none-living expire moment es)
  where
    by : (b : Bool) → is_gone expire moment e ≡ b → list_any (is_gone expire moment) (living expire moment es) ≡ false → list_any (is_gone expire moment) (living expire moment (e ∷ es)) ≡ false
    by true is more = rw is more
    by false is more = rw (is, is) more

none-filter : (p q : StickEntry → Bool) (es : List StickEntry) → list_any p es ≡ false → list_any p (filter q es) ≡ false
none-filter p q [] none = refl
none-filter p q (e ∷ es) none = by (p e) refl (q e) refl none (none-filter p q es)
  where
    by : (a : Bool) → p e ≡ a → (b : Bool) → q e ≡ b → list_any p (e ∷ es) ≡ false → (list_any p es ≡ false → list_any p (filter q es) ≡ false) → list_any p (filter q (e ∷ es)) ≡ false
    by true is b that none more = absurd (let wrong : true ≡ false = rw is at none in cc)
    by false is true that none more = rw (that, is) (more (rw is at none))
    by false is false that none more = rw that (more (rw is at none))

none-push : (expire moment : ℕ) (es : List StickEntry) (e : StickEntry) → list_any (is_gone expire moment) es ≡ false → e.last_touch ≡ moment → list_any (is_gone expire moment) (es ++ e ∷ []) ≡ false
none-push expire moment es e none now =
    let lives : is_gone expire moment e ≡ false = touched-lives expire moment e now in
    list_any-append (is_gone expire moment) es (e ∷ []) ∙ rw (none, lives) refl

-- so it is once a key is tracked
pub none-with : (size expire moment : ℕ) (es : List StickEntry) (key : Addr) → list_any (is_gone expire moment) es ≡ false → list_any (is_gone expire moment) (entries_with size moment es key) ≡ false
none-with size expire moment es key none = by (find (is_of key) es) refl (nat_lt (length es) size) refl
  where
    by : (o : Option StickEntry) → find (is_of key) es ≡ o → (r : Bool) → nat_lt (length es) size ≡ r → list_any (is_gone expire moment) (entries_with size moment es key) ≡ false
    by (Some e) found r room = rw found (none-push expire moment (others key es) (once_more moment e) (none-filter (is_gone expire moment) (λ x. not (is_of key x)) es none) refl)
    by None lost true room = rw (lost, room) (none-push expire moment es (first_entry moment key) none refl)
    by None lost false room = rw (lost, room) (none-push expire moment (without_first_free es) (first_entry moment key) (none-left (is_gone expire moment) es none) refl)

-- and once it is not
pub none-released : (expire moment : ℕ) (es : List StickEntry) (key : Addr) → list_any (is_gone expire moment) es ≡ false → list_any (is_gone expire moment) (released moment key es) ≡ false
none-released expire moment es key none = by (find (is_of key) es) refl
  where
    by : (o : Option StickEntry) → find (is_of key) es ≡ o → list_any (is_gone expire moment) (released moment key es) ≡ false
    by (Some e) found = rw found (none-push expire moment (others key es) (once_less moment e) (none-filter (is_gone expire moment) (λ x. not (is_of key x)) es none) refl)
    by None lost = rw lost (list_any-append (is_gone expire moment) (others key es) [] ∙ rw (none-filter (is_gone expire moment) (λ x. not (is_of key x)) es none) refl)

-- Whether a key can be listed is the same with and without the entries that are gone.

has-less : (m n size : ℕ) → m < n → n ≤ size → nat_lt m size ≡ true
has-less m n size less fits = grind (arith, nat_tests)

with-second : (a b c : Bool) → b ≡ true → ((a || b) || c) ≡ true
with-second true b c is = refl
with-second false true c is = refl
with-second false false c is = absurd (cc)

with-third : (a b c : Bool) → c ≡ true → ((a || b) || c) ≡ true
with-third true b c is = refl
with-third false true c is = refl
with-third false false c is = is

pub can-living : (size expire moment : ℕ) (key : Addr) (es : List StickEntry) → IsSound size es → can_list size (living expire moment es) key ≡ can_list size es key
can-living size expire moment key es sound = by (list_any (is_gone expire moment) es) refl
  where
    by : (b : Bool) → list_any (is_gone expire moment) es ≡ b → can_list size (living expire moment es) key ≡ can_list size es key
    by true some =
        let room : nat_lt (length (living expire moment es)) size ≡ true = has-less (length (living expire moment es)) (length es) size (fewer-live expire moment es some) sound.fits in
        let free : list_any is_free es ≡ true = some-free expire moment es some in
        let left : can_list size (living expire moment es) key ≡ true = with-second (is_listed key (living expire moment es)) (nat_lt (length (living expire moment es)) size) (list_any is_free (living expire moment es)) room in
        let right : can_list size es key ≡ true = with-third (is_listed key es) (nat_lt (length es) size) (list_any is_free es) free in
        left ∙ sym right
    by false none = ap (λ l. can_list size l key) (living-all expire moment es none)

pub taken-passed : (moment : ℕ) (table : Listing) (addr : Addr) → IsSound table.size table.entries → key_taken (passed moment table) addr ≡ key_taken table addr
taken-passed moment table addr sound = by (key_in table.kind addr) refl
  where
    by : (o : Option Addr) → key_in table.kind addr ≡ o → key_taken (passed moment table) addr ≡ key_taken table addr
    by None is = rw is refl
    by (Some key) is = rw is (ap (λ b. if b then Some key else None) (can-living table.size table.expire moment key table.entries sound))

pub cur_at-passed : (moment : ℕ) (table : Listing) (addr : Addr) → IsSound table.size table.entries → cur_at (passed moment table) addr ≡ cur_at table addr
cur_at-passed moment table addr sound = by (key_in table.kind addr)
  where
    by : (o : Option Addr) → option_map_or (λ key. cur_of key (living table.expire moment table.entries)) o 0 ≡ option_map_or (λ key. cur_of key table.entries) o 0
    by None = refl
    by (Some key) = cur_of-living table.expire moment table.entries sound.once key

-- The order of touch.

rise-filter : (q : StickEntry → Bool) (es : List StickEntry) → TouchesRise es → TouchesRise (filter q es)
rise-filter q [] rise = tt
rise-filter q (e ∷ es) rise = by (q e) refl (rise-filter q es rise.1)
  where
    by : (b : Bool) → q e ≡ b → TouchesRise (filter q es) → TouchesRise (filter q (e ∷ es))
    by true is more = rw is (all-filter (λ other. e.last_touch ≤ other.last_touch) q es rise.0, more)
    by false is more = rw is more

rise-push : (moment : ℕ) (es : List StickEntry) (e : StickEntry) → e.last_touch ≡ moment → TouchesRise es → AllByRecursion (λ other. other.last_touch ≤ moment) es → TouchesRise (es ++ e ∷ [])
rise-push moment [] e now rise past = (tt, tt)
rise-push moment (x ∷ es) e now rise past =
    (all-push (λ other. x.last_touch ≤ other.last_touch) es e rise.0 (omega (arith, past.0, now)), rise-push moment es e now rise.1 past.1)

pub turn-filter : (moment : ℕ) (q : StickEntry → Bool) (es : List StickEntry) → AreInTurn moment es → AreInTurn moment (filter q es)
turn-filter moment q es turn = record { rise = rise-filter q es turn.rise; past = all-filter (λ e. e.last_touch ≤ moment) q es turn.past }

-- one more, touched now
pub turn-push : (moment : ℕ) (es : List StickEntry) (e : StickEntry) → e.last_touch ≡ moment → AreInTurn moment es → AreInTurn moment (es ++ e ∷ [])
turn-push moment es e now turn =
    record { rise = rise-push moment es e now turn.rise turn.past; past = all-push (λ e. e.last_touch ≤ moment) es e turn.past (omega (arith, now)) }

pub turn-later : (moment later : ℕ) (es : List StickEntry) → moment ≤ later → AreInTurn moment es → AreInTurn later es
turn-later moment later es less turn = record { rise = turn.rise; past = all-to (λ e. e.last_touch ≤ moment) (λ e. e.last_touch ≤ later) (λ e before. omega (arith, before, less)) es turn.past }

-- without the first free one
all-gone : (P : StickEntry → Type 0) (es : List StickEntry) → AllByRecursion P es → AllByRecursion P (without_first_free es)
all-gone P [] all = tt
all-gone P (e ∷ es) all = by (is_free e) refl (all-gone P es all.1)
  where
    by : (b : Bool) → is_free e ≡ b → AllByRecursion P (without_first_free es) → AllByRecursion P (without_first_free (e ∷ es))
    by true is more = subst (λ l. AllByRecursion P l) (sym (gone-here is_free e es is)) all.1
    by false is more = subst (λ l. AllByRecursion P l) (sym (gone-past is_free e es is)) (all.0, more)

rise-gone : (es : List StickEntry) → TouchesRise es → TouchesRise (without_first_free es)
rise-gone [] rise = tt
rise-gone (e ∷ es) rise = by (is_free e) refl (rise-gone es rise.1)
  where
    by : (b : Bool) → is_free e ≡ b → TouchesRise (without_first_free es) → TouchesRise (without_first_free (e ∷ es))
    by true is more = subst (λ l. TouchesRise l) (sym (gone-here is_free e es is)) rise.1
    by false is more = subst (λ l. TouchesRise l) (sym (gone-past is_free e es is)) (all-gone (λ other. e.last_touch ≤ other.last_touch) es rise.0, more)

pub turn-gone : (moment : ℕ) (es : List StickEntry) → AreInTurn moment es → AreInTurn moment (without_first_free es)
turn-gone moment es turn = record { rise = rise-gone es turn.rise; past = all-gone (λ e. e.last_touch ≤ moment) es turn.past }

-- As plain data.

alive-each : (trackers : Addr → ℕ) (expire moment : ℕ) (es : List StickEntry) → HaveTrackers trackers es → plain (living expire moment es) ≡ alive trackers expire moment (plain es)
alive-each trackers expire moment [] all = refl
alive-each trackers expire moment (e ∷ es) all = by (is_gone expire moment e) refl (alive-each trackers expire moment es all.1)
  where
    same : is_absent trackers expire moment (plain_entry e) ≡ is_gone expire moment e
    same = ap (λ n. (n == 0) && is_over expire moment e.last_touch) (sym all.0)

    by : (b : Bool) → is_gone expire moment e ≡ b → plain (living expire moment es) ≡ alive trackers expire moment (plain es)
        → plain (living expire moment (e ∷ es)) ≡ alive trackers expire moment (plain (e ∷ es))
    by true gone more = let absent : is_absent trackers expire moment (plain_entry e) ≡ true = same ∙ gone in rw (gone, absent) more
    by false gone more = let present : is_absent trackers expire moment (plain_entry e) ≡ false = same ∙ gone in rw (gone, present) (ap (λ l. plain_entry e ∷ l) more)

-- where so many track each key
pub alive_is : (trackers : Addr → ℕ) (size expire moment : ℕ) (es : List StickEntry) → IsSound size es → AreTrackers trackers es → plain (living expire moment es) ≡ alive trackers expire moment (plain es)
alive_is trackers size expire moment es sound agree = alive-each trackers expire moment es (have_trackers trackers es sound.once (λ k listed. agree k))

-- and later than another moment
pub alive-later : (trackers : Addr → ℕ) (size expire moment later : ℕ) (es : List StickEntry) → moment ≤ later → IsSound size es → AreTrackers trackers es
    → plain (living expire later es) ≡ alive trackers expire later (plain (living expire moment es))
alive-later trackers size expire moment later es less sound agree =
    ap plain (sym (living-later expire moment later less es))
    ∙ alive_is trackers size expire later (living expire moment es) (sound-living size expire moment es sound) (trackers-living trackers expire moment es sound.once agree)
