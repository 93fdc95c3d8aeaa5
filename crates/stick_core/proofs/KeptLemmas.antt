-- What a tracking does to the entries that are kept, those that are gone among them.
use Rattle.std.proofs.Common.{◌≡◌, ℕ, ◌<◌, ◌≤◌, ◌+◌, Bool, true, false, not, List, [], ◌∷◌, ◌++◌, length, length-append, Option, Some, None, refl, sym, ap, subst, ◌∙◌, arith}
use Rattle.std.specs.Prelude.{find, nat_lt, option_map, option_to_list, IsSome, ◌&&◌, ◌||◌, ◌==◌, if◌then◌else◌}
use Rattle.std.specs.Option.{option_map_or, is_some}
use Rattle.std.specs.List.{list_any}
use Rattle.std.proofs.lemmas.Bool.Decides.{nat_tests}
use Rattle.list_core.proofs.PlaceLemmas.{find-passes}
use Rattle.addr_core.specs.declared.addr.Addr.{Addr}
use Rattle.addr_core.proofs.SameLemmas.{same_addr-is}
use Rattle.stick_core.specs.declared.entries.StickEntry.{StickEntry}
use Rattle.stick_core.specs.Entries.{added, entry_with, first_entry, is_free, is_gone, is_listed, is_of, cur_of, living, once_less, once_more, others, released, touched, without_first_free, AreInTurn}
use Rattle.stick_core.specs.Key.{key_in}
use Rattle.stick_core.specs.Listing.{can_list, entries_after, entries_with, key_taken, passed, IsShown, IsSound, Listing}
use Rattle.stick_core.proofs.PlainLemmas.{all_others}
use Rattle.stick_core.proofs.TouchLemmas.{length-gone, length-others, once-added, once-replaced, once-touched}
use Rattle.stick_core.proofs.LivingLemmas.{none-living, none-released, none-with, sound-living, can-living, fewer-live, first-gone, living-all, living-found, living-lost, living-none, living-others, living-push, living-without, none-left, some-free, touched-lives, tracked-lives, turn-filter, turn-gone, turn-push}

-- what the table then keeps, and shows
pub record IsTracked (size expire moment : ℕ) (kept left : List StickEntry) (key : Addr) : Type 0 where
  pub sound : IsSound size left
  pub turn : AreInTurn moment left
  pub entries : living expire moment left ≡ entries_with size moment (living expire moment kept) key
  pub can : can_list size (living expire moment kept) key ≡ true

with-first : (a b c : Bool) → a ≡ true → ((a || b) || c) ≡ true
with-first true b c is = refl
with-first false b c is = absurd (cc)

with-second : (a b c : Bool) → b ≡ true → ((a || b) || c) ≡ true
with-second true b c is = refl
with-second false true c is = refl
with-second false false c is = absurd (cc)

with-third : (a b c : Bool) → c ≡ true → ((a || b) || c) ≡ true
with-third true b c is = refl
with-third false true c is = refl
with-third false false c is = is

has-less : (m n size : ℕ) → m < n → n ≤ size → nat_lt m size ≡ true
has-less m n size less fits = grind (arith, nat_tests)

less : (m n : ℕ) → nat_lt m n ≡ true → m < n
less m n is = grind (arith, nat_tests)

-- what is found, and passes
any-found : {X : Type 0} (p q : X → Bool) (xs : List X) (y : X) → find q xs ≡ Some y → p y ≡ true → list_any p xs ≡ true
any-found p q [] y found passes = absurd (cc)
any-found {X} p q (x ∷ xs) y found passes = by (q x) refl (p x) refl found (any-found p q xs y)
  where
    by : (t : Bool) → q x ≡ t → (g : Bool) → p x ≡ g → find q (x ∷ xs) ≡ Some y → (find q xs ≡ Some y → p y ≡ true → list_any p xs ≡ true) → list_any p (x ∷ xs) ≡ true
    by t is true here found more = rw here refl
    by true is false here found more =
        let it : Some x ≡ Some y = rw is at found in
        let same : x ≡ y = cc in
        absurd (let wrong : true ≡ false = sym passes ∙ ap p (sym same) ∙ here in cc)
    by false is false here found more = rw here (more (rw is at found) passes)

-- The key has an entry.

pub with-key : (expire moment : ℕ) (e : StickEntry) → (entry_with expire moment e).key ≡ e.key
with-key expire moment e = by (is_gone expire moment e)
  where
    by : (b : Bool) → (if b then first_entry moment e.key else once_more moment e).key ≡ e.key
    by true = refl
    by false = refl

with-moment : (expire moment : ℕ) (e : StickEntry) → (entry_with expire moment e).last_touch ≡ moment
with-moment expire moment e = by (is_gone expire moment e)
  where
    by : (b : Bool) → (if b then first_entry moment e.key else once_more moment e).last_touch ≡ moment
    by true = refl
    by false = refl

pub with-own : (expire moment : ℕ) (key : Addr) (es : List StickEntry) (e : StickEntry) → find (is_of key) es ≡ Some e → (entry_with expire moment e).key ≡ key
with-own expire moment key es e found = with-key expire moment e ∙ same_addr-is e.key key (find-passes (is_of key) es e found)

pub listed : (size expire moment : ℕ) (kept : List StickEntry) (key : Addr) (e : StickEntry) → IsSound size kept → AreInTurn moment kept → find (is_of key) kept ≡ Some e
    → IsTracked size expire moment kept (others key kept ++ entry_with expire moment e ∷ []) key
listed size expire moment kept key e sound turn found =
    let there : IsSome (find (is_of key) kept) = rw found refl in
    let count : length (others key kept) + 1 ≡ length kept = length-others key kept there sound.once in
    let listed_there : is_listed key kept ≡ true = ap is_some found in
    record {
      sound = record {
        fits = rw (length-append (others key kept)) (omega (arith, count, sound.fits));
        once = once-touched (entry_with expire moment) (with-key expire moment) key kept e found sound.once;
      };
      turn = turn-push moment (others key kept) (entry_with expire moment e) (with-moment expire moment e) (turn-filter moment (λ x. not (is_of key x)) kept turn);
      entries =
          living-push expire moment (others key kept) (entry_with expire moment e) (touched-lives expire moment (entry_with expire moment e) (with-moment expire moment e))
          ∙ ap (λ l. l ++ entry_with expire moment e ∷ []) (living-others expire moment key kept)
          ∙ by (is_gone expire moment e) refl;
      can =
          can-living size expire moment key kept sound
          ∙ with-first (is_listed key kept) (nat_lt (length kept) size) (list_any is_free kept) listed_there;
    }
  where
    by : (b : Bool) → is_gone expire moment e ≡ b → others key (living expire moment kept) ++ entry_with expire moment e ∷ [] ≡ entries_with size moment (living expire moment kept) key
    by true gone =
        let none : find (is_of key) (living expire moment kept) ≡ None = living-lost expire moment key kept e sound.once found gone in
        let own : e.key ≡ key = same_addr-is e.key key (find-passes (is_of key) kept e found) in
        let some : list_any (is_gone expire moment) kept ≡ true = any-found (is_gone expire moment) (is_of key) kept e found gone in
        let room : nat_lt (length (living expire moment kept)) size ≡ true = has-less (length (living expire moment kept)) (length kept) size (fewer-live expire moment kept some) sound.fits in
        rw (gone, none, room, own) (ap (λ l. l ++ first_entry moment key ∷ []) (all_others key (living expire moment kept) none))
    by false gone =
        let there : find (is_of key) (living expire moment kept) ≡ Some e = living-found expire moment key kept e found gone in
        rw (gone, there) refl

-- It has none, and there is room.

not-false : (a b : Bool) → a ≡ true → (a && not b) ≡ false → b ≡ true
not-false true true is both = refl
not-false true false is both = absurd (cc)
not-false false b is both = absurd (cc)

first-true : (a b : Bool) → (a && not b) ≡ true → a ≡ true
first-true true b both = refl
first-true false b both = absurd (cc)

second-false : (a b : Bool) → (a && not b) ≡ true → b ≡ false
second-false true true both = absurd (cc)
second-false true false both = refl
second-false false b both = absurd (cc)

pub fresh : (size expire moment : ℕ) (kept : List StickEntry) (key : Addr) → IsSound size kept → AreInTurn moment kept → find (is_of key) kept ≡ None
    → (nat_lt (length kept) size && not (list_any (is_gone expire moment) kept)) ≡ true → IsTracked size expire moment kept (added moment key kept) key
fresh size expire moment kept key sound turn none place =
    let room : nat_lt (length kept) size ≡ true = first-true (nat_lt (length kept) size) (list_any (is_gone expire moment) kept) place in
    let all : living expire moment kept ≡ kept = living-all expire moment kept (second-false (nat_lt (length kept) size) (list_any (is_gone expire moment) kept) place) in
    let within : length kept < size = less (length kept) size room in
    record {
      sound = record { fits = rw (length-append kept) (omega (arith, within)); once = once-added moment key kept none sound.once };
      turn = turn-push moment kept (first_entry moment key) refl turn;
      entries =
          living-push expire moment kept (first_entry moment key) (touched-lives expire moment (first_entry moment key) refl)
          ∙ ap (λ l. l ++ first_entry moment key ∷ []) all
          ∙ (let plain : added moment key kept ≡ entries_with size moment kept key = rw (none, room) refl in plain)
          ∙ ap (λ l. entries_with size moment l key) (sym all);
      can =
          can-living size expire moment key kept sound
          ∙ with-second (is_listed key kept) (nat_lt (length kept) size) (list_any is_free kept) room;
    }

-- It has none, and takes the place of the first free one.

pub replaced : (size expire moment : ℕ) (kept : List StickEntry) (key : Addr) → IsSound size kept → AreInTurn moment kept → find (is_of key) kept ≡ None
    → (nat_lt (length kept) size && not (list_any (is_gone expire moment) kept)) ≡ false → list_any is_free kept ≡ true
    → IsTracked size expire moment kept (added moment key (without_first_free kept)) key
replaced size expire moment kept key sound turn none place free =
    let fewer : length (without_first_free kept) + 1 ≡ length kept = length-gone is_free kept free in
    record {
      sound = record { fits = rw (length-append (without_first_free kept)) (omega (arith, fewer, sound.fits)); once = once-replaced moment key kept none sound.once };
      turn = turn-push moment (without_first_free kept) (first_entry moment key) refl (turn-gone moment kept turn);
      entries =
          living-push expire moment (without_first_free kept) (first_entry moment key) (touched-lives expire moment (first_entry moment key) refl)
          ∙ by (list_any (is_gone expire moment) kept) refl;
      can =
          can-living size expire moment key kept sound
          ∙ with-third (is_listed key kept) (nat_lt (length kept) size) (list_any is_free kept) free;
    }
  where
    full : list_any (is_gone expire moment) kept ≡ false → (r : Bool) → nat_lt (length kept) size ≡ r → r ≡ false
    full lives true room = absurd (let wrong : list_any (is_gone expire moment) kept ≡ true = not-false (nat_lt (length kept) size) (list_any (is_gone expire moment) kept) room place in let other : true ≡ false = sym wrong ∙ lives in cc)
    full lives false room = refl

    by : (b : Bool) → list_any (is_gone expire moment) kept ≡ b → living expire moment (without_first_free kept) ++ first_entry moment key ∷ [] ≡ entries_with size moment (living expire moment kept) key
    by true has =
        let first : option_map_or (is_gone expire moment) (find is_free kept) false ≡ true = first-gone expire moment kept turn.rise ∙ has in
        let absent : find (is_of key) (living expire moment kept) ≡ None = living-none expire moment key kept none in
        let room : nat_lt (length (living expire moment kept)) size ≡ true = has-less (length (living expire moment kept)) (length kept) size (fewer-live expire moment kept has) sound.fits in
        ap (λ l. l ++ first_entry moment key ∷ []) (living-without expire moment kept first) ∙ rw (absent, room) refl
    by false lives =
        let all : living expire moment kept ≡ kept = living-all expire moment kept lives in
        let rest : living expire moment (without_first_free kept) ≡ without_first_free kept = living-all expire moment (without_first_free kept) (none-left (is_gone expire moment) kept lives) in
        let is_full : nat_lt (length kept) size ≡ false = full lives (nat_lt (length kept) size) refl in
        let plain : added moment key (without_first_free kept) ≡ entries_with size moment kept key = rw (none, is_full) refl in
        ap (λ l. l ++ first_entry moment key ∷ []) rest ∙ plain ∙ ap (λ l. entries_with size moment l key) (sym all)

-- It has none, and no entry is free.

pub refused : (size expire moment : ℕ) (kept : List StickEntry) (key : Addr) → IsSound size kept → find (is_of key) kept ≡ None
    → (nat_lt (length kept) size && not (list_any (is_gone expire moment) kept)) ≡ false → list_any is_free kept ≡ false → can_list size (living expire moment kept) key ≡ false
refused size expire moment kept key sound none place free =
    can-living size expire moment key kept sound ∙ by (list_any (is_gone expire moment) kept) refl (nat_lt (length kept) size) refl
  where
    by : (g : Bool) → list_any (is_gone expire moment) kept ≡ g → (r : Bool) → nat_lt (length kept) size ≡ r → can_list size kept key ≡ false
    by true has r room = absurd (let wrong : true ≡ false = sym (some-free expire moment kept has) ∙ free in cc)
    by false lives true room =
        absurd (let wrong : list_any (is_gone expire moment) kept ≡ true = not-false (nat_lt (length kept) size) (list_any (is_gone expire moment) kept) room place in let other : true ≡ false = sym wrong ∙ lives in cc)
    by false lives false room = rw (none, room, free) refl

-- The same of what a call left.

pub is-listed : (size expire moment : ℕ) (kept left : List StickEntry) (key : Addr) (e new : StickEntry) → IsSound size kept → AreInTurn moment kept → find (is_of key) kept ≡ Some e
    → new ≡ entry_with expire moment e → left ≡ others key kept ++ new ∷ [] → IsTracked size expire moment kept left key
is-listed size expire moment kept left key e new sound turn found new_is left_is =
    subst (λ l. IsTracked size expire moment kept l key) (sym (left_is ∙ ap (λ x. others key kept ++ x ∷ []) new_is)) (listed size expire moment kept key e sound turn found)

pub is-fresh : (size expire moment : ℕ) (kept left : List StickEntry) (key : Addr) → IsSound size kept → AreInTurn moment kept → find (is_of key) kept ≡ None
    → (nat_lt (length kept) size && not (list_any (is_gone expire moment) kept)) ≡ true → left ≡ added moment key kept → IsTracked size expire moment kept left key
is-fresh size expire moment kept left key sound turn none place left_is =
    subst (λ l. IsTracked size expire moment kept l key) (sym left_is) (fresh size expire moment kept key sound turn none place)

pub is-replaced : (size expire moment : ℕ) (kept left : List StickEntry) (key : Addr) → IsSound size kept → AreInTurn moment kept → find (is_of key) kept ≡ None
    → (nat_lt (length kept) size && not (list_any (is_gone expire moment) kept)) ≡ false → list_any is_free kept ≡ true
    → left ≡ added moment key (without_first_free kept) → IsTracked size expire moment kept left key
is-replaced size expire moment kept left key sound turn none place free left_is =
    subst (λ l. IsTracked size expire moment kept l key) (sym left_is) (replaced size expire moment kept key sound turn none place free)

-- The same of one look-up, which left the entries as they were where the key has none.

missing : (o : Option StickEntry) → is_some o ≡ false → o ≡ None
missing None is = refl
missing (Some e) is = absurd (cc)

pub is-raised : (size expire moment : ℕ) (kept left : List StickEntry) (key : Addr) → IsSound size kept → AreInTurn moment kept → is_listed key kept ≡ true
    → left ≡ touched (entry_with expire moment) key kept → IsTracked size expire moment kept left key
is-raised size expire moment kept left key sound turn there left_is = by (find (is_of key) kept) refl
  where
    by : (o : Option StickEntry) → find (is_of key) kept ≡ o → IsTracked size expire moment kept left key
    by None none = absurd (let wrong : true ≡ false = sym there ∙ ap (λ o. is_some o) none in cc)
    by (Some e) found =
        is-listed size expire moment kept left key e (entry_with expire moment e) sound turn found refl
        (left_is ∙ ap (λ o. others key kept ++ option_to_list (option_map (entry_with expire moment) o)) found)

pub is-fresh-after : (size expire moment : ℕ) (kept same left : List StickEntry) (key : Addr) → same ≡ kept → IsSound size kept → AreInTurn moment kept → is_listed key kept ≡ false
    → (nat_lt (length same) size && not (list_any (is_gone expire moment) same)) ≡ true → left ≡ added moment key same → IsTracked size expire moment kept left key
is-fresh-after size expire moment kept same left key same_is sound turn none place left_is =
    is-fresh size expire moment kept left key sound turn (missing (find (is_of key) kept) none)
    (subst (λ l. (nat_lt (length l) size && not (list_any (is_gone expire moment) l)) ≡ true) same_is place) (left_is ∙ ap (added moment key) same_is)

pub is-replaced-after : (size expire moment : ℕ) (kept same left : List StickEntry) (key : Addr) → same ≡ kept → IsSound size kept → AreInTurn moment kept → is_listed key kept ≡ false
    → (nat_lt (length same) size && not (list_any (is_gone expire moment) same)) ≡ false → list_any is_free same ≡ true
    → left ≡ added moment key (without_first_free same) → IsTracked size expire moment kept left key
is-replaced-after size expire moment kept same left key same_is sound turn none place free left_is =
    is-replaced size expire moment kept left key sound turn (missing (find (is_of key) kept) none)
    (subst (λ l. (nat_lt (length l) size && not (list_any (is_gone expire moment) l)) ≡ false) same_is place)
    (subst (λ l. list_any is_free l ≡ true) same_is free) (left_is ∙ ap (λ l. added moment key (without_first_free l)) same_is)

pub refused-after : (size expire moment : ℕ) (kept same : List StickEntry) (key : Addr) → same ≡ kept → IsSound size kept → is_listed key kept ≡ false
    → (nat_lt (length same) size && not (list_any (is_gone expire moment) same)) ≡ false → list_any is_free same ≡ false → can_list size (living expire moment kept) key ≡ false
refused-after size expire moment kept same key same_is sound none place free =
    refused size expire moment kept key sound (missing (find (is_of key) kept) none)
    (subst (λ l. (nat_lt (length l) size && not (list_any (is_gone expire moment) l)) ≡ false) same_is place)
    (subst (λ l. list_any is_free l ≡ false) same_is free)

-- The key of an address.

pub taken-is : (table : Listing) (addr key : Addr) → key_in table.kind addr ≡ Some key → can_list table.size table.entries key ≡ true → key_taken table addr ≡ Some key
taken-is table addr key in_table can = rw (in_table, can) refl

pub refused-is : (table : Listing) (addr key : Addr) → key_in table.kind addr ≡ Some key → can_list table.size table.entries key ≡ false → key_taken table addr ≡ None
refused-is table addr key in_table cannot = rw (in_table, cannot) refl

pub after-taken : (table : Listing) (addr key : Addr) → key_taken table addr ≡ Some key → entries_after table addr ≡ entries_with table.size table.clock table.entries key
after-taken table addr key taken = ap (λ o. option_map_or (entries_with table.size table.clock table.entries) o table.entries) taken

pub after-refused : (table : Listing) (addr : Addr) → key_taken table addr ≡ None → entries_after table addr ≡ table.entries
after-refused table addr refused = ap (λ o. option_map_or (entries_with table.size table.clock table.entries) o table.entries) refused

-- What a table shows stays sound.

sound-with : (size moment : ℕ) (es : List StickEntry) (key : Addr) → IsSound size es → can_list size es key ≡ true → IsSound size (entries_with size moment es key)
sound-with size moment es key sound can = by (find (is_of key) es) refl (nat_lt (length es) size) refl
  where
    by : (o : Option StickEntry) → find (is_of key) es ≡ o → (r : Bool) → nat_lt (length es) size ≡ r → IsSound size (entries_with size moment es key)
    by (Some e) found r room =
        let there : IsSome (find (is_of key) es) = rw found refl in
        let count : length (others key es) + 1 ≡ length es = length-others key es there sound.once in
        rw found (record {
          fits = rw (length-append (others key es)) (omega (arith, count, sound.fits));
          once = once-touched (once_more moment) (λ x. refl) key es e found sound.once;
        })
    by None none true room =
        let within : length es < size = less (length es) size room in
        rw (none, room) (record { fits = rw (length-append es) (omega (arith, within)); once = once-added moment key es none sound.once })
    by None none false room =
        let free : list_any is_free es ≡ true = rw (none, room) at can in
        let fewer : length (without_first_free es) + 1 ≡ length es = length-gone is_free es free in
        rw (none, room) (record { fits = rw (length-append (without_first_free es)) (omega (arith, fewer, sound.fits)); once = once-replaced moment key es none sound.once })

chosen-key : (b : Bool) (k key : Addr) → (if b then Some k else None) ≡ Some key → (k ≡ key) × (b ≡ true)
chosen-key true k key is = (let it : Some k ≡ Some key = is in cc, refl)
chosen-key false k key is = absurd (let wrong : None ≡ Some key = is in cc)

taken-can : (table : Listing) (addr key : Addr) → key_taken table addr ≡ Some key → can_list table.size table.entries key ≡ true
taken-can table addr key taken = by (key_in table.kind addr) refl
  where
    by : (o : Option Addr) → key_in table.kind addr ≡ o → can_list table.size table.entries key ≡ true
    by None is = absurd (let wrong : None ≡ Some key = rw is at taken in cc)
    by (Some k) is =
        let both = chosen-key (can_list table.size table.entries k) k key (rw is at taken) in
        ap (can_list table.size table.entries) (sym both.0) ∙ both.1

sound-after : (table : Listing) (addr : Addr) → IsSound table.size table.entries → IsSound table.size (entries_after table addr)
sound-after table addr sound = by (key_taken table addr) refl
  where
    by : (o : Option Addr) → key_taken table addr ≡ o → IsSound table.size (entries_after table addr)
    by None refused = subst (IsSound table.size) (sym (after-refused table addr refused)) sound
    by (Some key) taken =
        subst (IsSound table.size) (sym (after-taken table addr key taken)) (sound-with table.size table.clock table.entries key sound (taken-can table addr key taken))

none-after : (table : Listing) (addr : Addr) → list_any (is_gone table.expire table.clock) table.entries ≡ false → list_any (is_gone table.expire table.clock) (entries_after table addr) ≡ false
none-after table addr none = by (key_taken table addr) refl
  where
    by : (o : Option Addr) → key_taken table addr ≡ o → list_any (is_gone table.expire table.clock) (entries_after table addr) ≡ false
    by None refused = ap (list_any (is_gone table.expire table.clock)) (after-refused table addr refused) ∙ none
    by (Some key) taken = ap (list_any (is_gone table.expire table.clock)) (after-taken table addr key taken) ∙ none-with table.size table.expire table.clock table.entries key none

pub shown-after : (table : Listing) (addr : Addr) → IsShown table → IsShown (record table { entries = entries_after table addr })
shown-after table addr shown = record { sound = sound-after table addr shown.sound; lives = none-after table addr shown.lives }

pub shown-passed : (moment : ℕ) (table : Listing) → IsSound table.size table.entries → IsShown (passed moment table)
shown-passed moment table sound = record { sound = sound-living table.size table.expire moment table.entries sound; lives = none-living table.expire moment table.entries }

sound-released : (size moment : ℕ) (es : List StickEntry) (key : Addr) → IsSound size es → 0 < cur_of key es → IsSound size (released moment key es)
sound-released size moment es key sound some = by (find (is_of key) es) refl
  where
    by : (o : Option StickEntry) → find (is_of key) es ≡ o → IsSound size (released moment key es)
    by None none = absurd (let zero : cur_of key es ≡ 0 = ap (λ o. option_map_or (λ e. e.cur) o 0) none in omega (arith, zero, some))
    by (Some e) found =
        let there : IsSome (find (is_of key) es) = rw found refl in
        let count : length (others key es) + 1 ≡ length es = length-others key es there sound.once in
        rw found (record {
          fits = rw (length-append (others key es)) (omega (arith, count, sound.fits));
          once = once-touched (once_less moment) (λ x. refl) key es e found sound.once;
        })

pub shown-released : (table : Listing) (key : Addr) → IsShown table → 0 < cur_of key table.entries → IsShown (record table { entries = released table.clock key table.entries })
shown-released table key shown some =
    record { sound = sound-released table.size table.clock table.entries key shown.sound some; lives = none-released table.expire table.clock table.entries key shown.lives }

-- A tracking ends.

pub held : (n : ℕ) → 0 < n → (n == 0) ≡ false
held n some = grind (arith, nat_tests)

pub record IsReleased (size expire moment : ℕ) (kept left : List StickEntry) (key : Addr) : Type 0 where
  pub sound : IsSound size left
  pub turn : AreInTurn moment left
  pub entries : living expire moment left ≡ released moment key (living expire moment kept)

pub ended : (size expire moment : ℕ) (kept : List StickEntry) (key : Addr) (e : StickEntry) → IsSound size kept → AreInTurn moment kept → find (is_of key) kept ≡ Some e → is_free e ≡ false
    → IsReleased size expire moment kept (others key kept ++ once_less moment e ∷ []) key
ended size expire moment kept key e sound turn found held =
    let there : IsSome (find (is_of key) kept) = rw found refl in
    let count : length (others key kept) + 1 ≡ length kept = length-others key kept there sound.once in
    let lives : find (is_of key) (living expire moment kept) ≡ Some e = living-found expire moment key kept e found (tracked-lives expire moment e held) in
    record {
      sound = record {
        fits = rw (length-append (others key kept)) (omega (arith, count, sound.fits));
        once = once-touched (once_less moment) (λ x. refl) key kept e found sound.once;
      };
      turn = turn-push moment (others key kept) (once_less moment e) refl (turn-filter moment (λ x. not (is_of key x)) kept turn);
      entries =
          living-push expire moment (others key kept) (once_less moment e) (touched-lives expire moment (once_less moment e) refl)
          ∙ ap (λ l. l ++ once_less moment e ∷ []) (living-others expire moment key kept)
          ∙ (let plain : others key (living expire moment kept) ++ once_less moment e ∷ [] ≡ released moment key (living expire moment kept) = rw lives refl in plain);
    }

pub is-ended : (size expire moment : ℕ) (kept left : List StickEntry) (key : Addr) (e new : StickEntry) → IsSound size kept → AreInTurn moment kept → find (is_of key) kept ≡ Some e
    → is_free e ≡ false → new ≡ once_less moment e → left ≡ others key kept ++ new ∷ [] → IsReleased size expire moment kept left key
is-ended size expire moment kept left key e new sound turn found busy new_is left_is =
    subst (λ l. IsReleased size expire moment kept l key) (sym (left_is ∙ ap (λ x. others key kept ++ x ∷ []) new_is)) (ended size expire moment kept key e sound turn found busy)

pub is-lowered : (size expire moment : ℕ) (kept left : List StickEntry) (key : Addr) → IsSound size kept → AreInTurn moment kept → 0 < cur_of key kept
    → left ≡ released moment key kept → IsReleased size expire moment kept left key
is-lowered size expire moment kept left key sound turn some left_is = by (find (is_of key) kept) refl
  where
    by : (o : Option StickEntry) → find (is_of key) kept ≡ o → IsReleased size expire moment kept left key
    by None none = absurd (let zero : cur_of key kept ≡ 0 = ap (λ o. option_map_or (λ e. e.cur) o 0) none in omega (arith, zero, some))
    by (Some e) found =
        let cur : cur_of key kept ≡ e.cur = ap (λ o. option_map_or (λ e. e.cur) o 0) found in
        is-ended size expire moment kept left key e (once_less moment e) sound turn found (held e.cur (omega (arith, cur, some))) refl
        (left_is ∙ ap (λ o. others key kept ++ option_to_list (option_map (once_less moment) o)) found)
