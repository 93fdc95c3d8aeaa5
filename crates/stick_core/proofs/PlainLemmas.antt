-- What a table keeps, as plain data.
use Rattle.std.proofs.Common.{◌≡◌, ℕ, ◌<◌, ◌+◌, Bool, true, false, not, min, List, [], ◌∷◌, ◌++◌, length, Option, Some, None, refl, sym, ap, ◌∙◌, arith}
use Rattle.std.specs.Prelude.{find, filter, map, nat_lt, option_map, option_to_list, if◌then◌else◌, ◌==◌, ◌||◌}
use Rattle.std.specs.Option.{option_map_or, is_some}
use Rattle.std.specs.List.{list_any, AllByRecursion}
use Rattle.addr_core.specs.declared.addr.Addr.{Addr}
use Rattle.stick_core.specs.declared.entries.StickEntry.{StickEntry}
use Rattle.addr_core.specs.Same.{same_addr}
use Rattle.stick_core.specs.Key.{key_in}
use Rattle.stick_core.specs.Entries.{is_of, is_free, is_listed, others, once_more, once_less, first_entry, tracked, released, added, without_first_free, cur_of, cnt_of, HasKeysOnce}
use Rattle.stick_core.specs.Listing.{Listing, IsSound, can_list, entries_with, key_taken, entries_after, cur_at, cnt_at}
use Rattle.stick_core.specs.PlainEntries as plains
use Rattle.stick_core.specs.PlainEntries.{has_key, is_in, count_in, count_at, trackers_at, is_idle, can_track, tracked_key, without_first, counted, with_tracking, with_trackings, touched_at, KeysDiffer, plain_entry, plain, AreTrackers, trackings_of}
use Rattle.addr_core.proofs.SameLemmas.{same_addr-is, same_addr-refl, same_addr-sym}
use Rattle.list_core.proofs.PlaceLemmas.{find-passes}
use Rattle.stick_core.proofs.TouchLemmas.{find-gone, gone-here, gone-past, cur_of-released, cur_of-released-other}
use Rattle.stick_core.proofs.TrackLemmas.{own_after, others_after}

-- Look-ups.

pub listed_is : (key : Addr) (es : List StickEntry) → is_listed key es ≡ is_in key (plain es)
listed_is key [] = refl
listed_is key (e ∷ es) = by (is_of key e) refl (listed_is key es)
  where
    by : (b : Bool) → is_of key e ≡ b → is_listed key es ≡ is_in key (plain es) → is_listed key (e ∷ es) ≡ is_in key (plain (e ∷ es))
    by true is more = rw is refl
    by false is more = rw is more

pub count_is : (key : Addr) (es : List StickEntry) → cnt_of key es ≡ count_in key (plain es)
count_is key [] = refl
count_is key (e ∷ es) = by (is_of key e) refl (count_is key es)
  where
    by : (b : Bool) → is_of key e ≡ b → cnt_of key es ≡ count_in key (plain es) → cnt_of key (e ∷ es) ≡ count_in key (plain (e ∷ es))
    by true is more = rw is refl
    by false is more = rw is more

-- both counts of an address
pub count_at_is : (table : Listing) (addr : Addr) → cnt_at table addr ≡ count_at table.kind (plain table.entries) addr
count_at_is table addr = by (key_in table.kind addr)
  where
    by : (o : Option Addr) → option_map_or (λ key. cnt_of key table.entries) o 0 ≡ option_map_or (λ key. count_in key (plain table.entries)) o 0
    by None = refl
    by (Some key) = count_is key table.entries

pub trackers_at_is : (trackers : Addr → ℕ) (table : Listing) (addr : Addr) → AreTrackers trackers table.entries → cur_at table addr ≡ trackers_at trackers table.kind addr
trackers_at_is trackers table addr agree = by (key_in table.kind addr)
  where
    by : (o : Option Addr) → option_map_or (λ key. cur_of key table.entries) o 0 ≡ option_map_or trackers o 0
    by None = refl
    by (Some key) = agree key

-- each entry has the trackers of its key
abbrev pub HaveTrackers : (Addr → ℕ) → List StickEntry → Type 0
HaveTrackers trackers es = AllByRecursion (λ e. e.cur ≡ trackers e.key) es

-- what is listed after an entry has another key
other_listed : (k : Addr) (e : StickEntry) (es : List StickEntry) → find (is_of e.key) es ≡ None → is_listed k es ≡ true → is_of k e ≡ false
other_listed k e es none listed = by (is_of k e) refl
  where
    by : (b : Bool) → is_of k e ≡ b → is_of k e ≡ false
    by false is = is
    by true is =
        let same : e.key ≡ k = same_addr-is e.key k is in
        let nowhere : is_listed k es ≡ false = ap (λ a. is_some (find (is_of a) es)) (sym same) ∙ ap is_some none in
        absurd (let wrong : true ≡ false = sym listed ∙ nowhere in cc)

pub have_trackers : (trackers : Addr → ℕ) (es : List StickEntry) → HasKeysOnce es → ((k : Addr) → is_listed k es ≡ true → cur_of k es ≡ trackers k) → HaveTrackers trackers es
have_trackers trackers [] once agree = tt
have_trackers trackers (e ∷ es) once agree =
    let own : is_of e.key e ≡ true = same_addr-refl e.key in
    let here : e.cur ≡ trackers e.key = rw own at (agree e.key (rw own refl)) in (
      here,
      have_trackers trackers es once.1 (λ k listed.
          let not_it : is_of k e ≡ false = other_listed k e es once.0 listed in
          rw not_it at (agree k (rw not_it listed))),
    )

pub idle_is : (trackers : Addr → ℕ) (es : List StickEntry) → HaveTrackers trackers es → list_any is_free es ≡ list_any (is_idle trackers) (plain es)
idle_is trackers [] all = refl
idle_is trackers (e ∷ es) all = rw (idle_is trackers es all.1, all.0) refl

-- Changes.

pub others_is : (key : Addr) (es : List StickEntry) → plain (others key es) ≡ filter (λ entry. not (has_key key entry)) (plain es)
others_is key [] = refl
others_is key (e ∷ es) = by (is_of key e) refl (others_is key es)
  where
    by : (b : Bool) → is_of key e ≡ b → plain (others key es) ≡ filter (λ entry. not (has_key key entry)) (plain es)
        → plain (others key (e ∷ es)) ≡ filter (λ entry. not (has_key key entry)) (plain (e ∷ es))
    by true is more = rw is more
    by false is more = rw is (ap (λ l. plain_entry e ∷ l) more)

pub plain-append : (xs ys : List StickEntry) → plain (xs ++ ys) ≡ plain xs ++ plain ys
plain-append [] ys = refl
plain-append (x ∷ xs) ys = ap (λ l. plain_entry x ∷ l) (plain-append xs ys)

length-plain : (es : List StickEntry) → length (plain es) ≡ length es
length-plain [] = refl
length-plain (e ∷ es) = omega (arith, length-plain es)

pub gone_is : (trackers : Addr → ℕ) (es : List StickEntry) → HaveTrackers trackers es → plain (without_first_free es) ≡ without_first (is_idle trackers) (plain es)
gone_is trackers [] all = refl
gone_is trackers (e ∷ es) all = by (is_free e) refl (gone_is trackers es all.1)
  where
    by : (b : Bool) → is_free e ≡ b → plain (without_first_free es) ≡ without_first (is_idle trackers) (plain es)
        → plain (without_first_free (e ∷ es)) ≡ without_first (is_idle trackers) (plain (e ∷ es))
    by true is more =
        let idle : is_idle trackers (plain_entry e) ≡ true = ap (λ n. n == 0) (sym all.0) ∙ is in
        ap plain (gone-here is_free e es is) ∙ rw idle refl
    by false is more =
        let idle : is_idle trackers (plain_entry e) ≡ false = ap (λ n. n == 0) (sym all.0) ∙ is in
        ap plain (gone-past is_free e es is) ∙ ap (λ l. plain_entry e ∷ l) more ∙ rw idle refl

-- the entries of a key are the one that is found
own_none : (key : Addr) (es : List StickEntry) → find (is_of key) es ≡ None → filter (has_key key) (plain es) ≡ []
own_none key [] none = refl
own_none key (e ∷ es) none = by (is_of key e) refl none (own_none key es)
  where
    by : (b : Bool) → is_of key e ≡ b → find (is_of key) (e ∷ es) ≡ None → (find (is_of key) es ≡ None → filter (has_key key) (plain es) ≡ []) → filter (has_key key) (plain (e ∷ es)) ≡ []
    by true is none more = absurd (let wrong : Some e ≡ None = rw is at none in cc)
    by false is none more = rw is (more (rw is at none))

own_is : (moment : ℕ) (key : Addr) (es : List StickEntry) → HasKeysOnce es →
    plain (option_to_list (option_map (once_less moment) (find (is_of key) es))) ≡ map (touched_at moment) (filter (has_key key) (plain es))
own_is moment key [] once = refl
own_is moment key (e ∷ es) once = by (is_of key e) refl (own_is moment key es once.1)
  where
    by : (b : Bool) → is_of key e ≡ b → plain (option_to_list (option_map (once_less moment) (find (is_of key) es))) ≡ map (touched_at moment) (filter (has_key key) (plain es))
        → plain (option_to_list (option_map (once_less moment) (find (is_of key) (e ∷ es)))) ≡ map (touched_at moment) (filter (has_key key) (plain (e ∷ es)))
    by true is more =
        let none : filter (has_key key) (plain es) ≡ [] = own_none key es (ap (λ a. find (is_of a) es) (sym (same_addr-is e.key key is)) ∙ once.0) in
        rw (is, none) refl
    by false is more = rw is more

-- a release, as plain data
pub released_plain : (moment : ℕ) (key : Addr) (es : List StickEntry) → HasKeysOnce es → plain (released moment key es) ≡ plains.touched moment key (plain es)
released_plain moment key es once =
    plain-append (others key es) (option_to_list (option_map (once_less moment) (find (is_of key) es)))
    ∙ ap (λ l. l ++ plain (option_to_list (option_map (once_less moment) (find (is_of key) es)))) (others_is key es)
    ∙ ap (λ l. filter (λ entry. not (has_key key entry)) (plain es) ++ l) (own_is moment key es once)

-- a key that is listed, tracked once more
tracked_plain : (moment : ℕ) (key : Addr) (es : List StickEntry) → is_listed key es ≡ true → plain (tracked moment key es) ≡ counted moment key (plain es)
tracked_plain moment key es listed = by (find (is_of key) es) refl listed
  where
    by : (o : Option StickEntry) → find (is_of key) es ≡ o → is_some o ≡ true → plain (tracked moment key es) ≡ counted moment key (plain es)
    by None is some = absurd (cc)
    by (Some e) is some =
        let own : e.key ≡ key = same_addr-is e.key key (find-passes (is_of key) es e is) in
        let count : e.cnt ≡ count_in key (plain es) = sym (ap (λ o. option_map_or (λ e. e.cnt) o 0) is) ∙ count_is key es in
        plain-append (others key es) (option_to_list (option_map (once_more moment) (find (is_of key) es)))
        ∙ ap (λ l. l ++ plain (option_to_list (option_map (once_more moment) (find (is_of key) es)))) (others_is key es)
        ∙ ap (λ o. filter (λ entry. not (has_key key entry)) (plain es) ++ plain (option_to_list (option_map (once_more moment) o))) is
        ∙ ap (λ a. filter (λ entry. not (has_key key entry)) (plain es) ++ record { key = a; cnt = min 0xFFFF_FFFF_FFFF_FFFF (e.cnt + 1); last_touch = moment } ∷ []) own
        ∙ ap (λ n. filter (λ entry. not (has_key key entry)) (plain es) ++ record { key = key; cnt = min 0xFFFF_FFFF_FFFF_FFFF (n + 1); last_touch = moment } ∷ []) count

-- no entry is of the key
pub all_others : (key : Addr) (es : List StickEntry) → find (is_of key) es ≡ None → others key es ≡ es
all_others key [] none = refl
all_others key (e ∷ es) none = by (is_of key e) refl none (all_others key es)
  where
    by : (b : Bool) → is_of key e ≡ b → find (is_of key) (e ∷ es) ≡ None → (find (is_of key) es ≡ None → others key es ≡ es) → others key (e ∷ es) ≡ e ∷ es
    by true is none more = absurd (let wrong : Some e ≡ None = rw is at none in cc)
    by false is none more = rw is (ap (λ l. e ∷ l) (more (rw is at none)))

-- a key that is not listed, tracked
added_plain : (moment : ℕ) (key : Addr) (es : List StickEntry) → find (is_of key) es ≡ None → plain (added moment key es) ≡ counted moment key (plain es)
added_plain moment key es none =
    let zero : 0 ≡ count_in key (plain es) = sym (ap (λ o. option_map_or (λ e. e.cnt) o 0) none) ∙ count_is key es in
    let rest : plain es ≡ filter (λ entry. not (has_key key entry)) (plain es) = ap plain (sym (all_others key es none)) ∙ others_is key es in
    plain-append es (first_entry moment key ∷ [])
    ∙ ap (λ l. l ++ record { key = key; cnt = min 0xFFFF_FFFF_FFFF_FFFF (0 + 1); last_touch = moment } ∷ []) rest
    ∙ ap (λ n. filter (λ entry. not (has_key key entry)) (plain es) ++ record { key = key; cnt = min 0xFFFF_FFFF_FFFF_FFFF (n + 1); last_touch = moment } ∷ []) zero

not_some : {X : Type 0} (o : Option X) → is_some o ≡ false → o ≡ None
not_some None e = refl
not_some (Some x) e = absurd (cc)

-- a tracking, as plain data
with_plain : (trackers : Addr → ℕ) (size moment : ℕ) (es : List StickEntry) (key : Addr) → HaveTrackers trackers es
    → plain (entries_with size moment es key) ≡ with_tracking moment trackers size key (plain es)
with_plain trackers size moment es key all = by (is_listed key es) refl (nat_lt (length es) size) refl
  where
    by : (b : Bool) → is_listed key es ≡ b → (r : Bool) → nat_lt (length es) size ≡ r → plain (entries_with size moment es key) ≡ with_tracking moment trackers size key (plain es)
    by true is r room =
        let there : is_in key (plain es) ≡ true = sym (listed_is key es) ∙ is in
        rw (is, there) (tracked_plain moment key es is)
    by false is true room =
        let there : is_in key (plain es) ≡ false = sym (listed_is key es) ∙ is in
        let room' : nat_lt (length (plain es)) size ≡ true = ap (λ n. nat_lt n size) (length-plain es) ∙ room in
        rw (is, there, room, room') (added_plain moment key es (not_some _ is))
    by false is false room =
        let there : is_in key (plain es) ≡ false = sym (listed_is key es) ∙ is in
        let room' : nat_lt (length (plain es)) size ≡ false = ap (λ n. nat_lt n size) (length-plain es) ∙ room in
        let none : find (is_of key) (without_first_free es) ≡ None = find-gone (is_of key) is_free es (not_some _ is) in
        rw (is, there, room, room') (added_plain moment key (without_first_free es) none ∙ ap (counted moment key) (gone_is trackers es all))

can_is : (trackers : Addr → ℕ) (size : ℕ) (es : List StickEntry) (key : Addr) → HaveTrackers trackers es → can_list size es key ≡ can_track trackers size (plain es) key
can_is trackers size es key all =
    let a : is_listed key es ≡ is_in key (plain es) = listed_is key es in
    let b : list_any is_free es ≡ list_any (is_idle trackers) (plain es) = idle_is trackers es all in
    let c : length es ≡ length (plain es) = sym (length-plain es) in
    ap (λ t. t || nat_lt (length es) size || list_any is_free es) a
    ∙ ap (λ n. is_in key (plain es) || nat_lt n size || list_any is_free es) c
    ∙ ap (λ t. is_in key (plain es) || nat_lt (length (plain es)) size || t) b

trackers_of : (trackers : Addr → ℕ) (table : Listing) → IsSound table.size table.entries → AreTrackers trackers table.entries → HaveTrackers trackers table.entries
trackers_of trackers table sound agree = have_trackers trackers table.entries sound.once (λ k listed. agree k)

pub taken_plain : (trackers : Addr → ℕ) (table : Listing) (addr : Addr) → IsSound table.size table.entries → AreTrackers trackers table.entries
    → key_taken table addr ≡ tracked_key trackers table.kind table.size (plain table.entries) addr
taken_plain trackers table addr sound agree = by (key_in table.kind addr) refl
  where
    by : (o : Option Addr) → key_in table.kind addr ≡ o → key_taken table addr ≡ tracked_key trackers table.kind table.size (plain table.entries) addr
    by None is = rw is refl
    by (Some key) is = rw is (ap (λ b. if b then Some key else None) (can_is trackers table.size table.entries key (trackers_of trackers table sound agree)))

pub after_plain : (trackers : Addr → ℕ) (table : Listing) (addr : Addr) → IsSound table.size table.entries → AreTrackers trackers table.entries
    → plain (entries_after table addr) ≡ with_trackings table.clock trackers table.size (key_taken table addr) (plain table.entries)
after_plain trackers table addr sound agree = by (key_taken table addr) refl
  where
    by : (o : Option Addr) → key_taken table addr ≡ o → plain (entries_after table addr) ≡ with_trackings table.clock trackers table.size o (plain table.entries)
    by None is = rw is refl
    by (Some key) is = rw is (with_plain trackers table.size table.clock table.entries key (trackers_of trackers table sound agree))

-- The trackers of each key.

pub counts_after : (table : Listing) (addr : Addr) → IsSound table.size table.entries → (key : Addr)
    → cur_of key (entries_after table addr) ≡ cur_of key table.entries + trackings_of key (key_taken table addr)
counts_after table addr sound key = by (key_taken table addr) refl
  where
    some : (k : Addr) → key_taken table addr ≡ Some k → (b : Bool) → same_addr k key ≡ b → cur_of key (entries_after table addr) ≡ cur_of key table.entries + trackings_of key (Some k)
    some k is true same =
        let it : key ≡ k = sym (same_addr-is k key same) in
        let own : cur_of k (entries_after table addr) ≡ cur_of k table.entries + 1 = own_after table addr k is in
        rw same (ap (λ a. cur_of a (entries_after table addr)) it ∙ own ∙ ap (λ a. cur_of a table.entries + 1) (sym it))
    some k is false same =
        let kept : cur_of key (entries_after table addr) ≡ cur_of key table.entries = others_after table addr k key sound is (same_addr-sym k key same) in
        rw same (omega (arith, kept))

    by : (o : Option Addr) → key_taken table addr ≡ o → cur_of key (entries_after table addr) ≡ cur_of key table.entries + trackings_of key o
    by None is =
        let kept : entries_after table addr ≡ table.entries = ap (λ o. option_map_or (entries_with table.size table.clock table.entries) o table.entries) is in
        let n : cur_of key (entries_after table addr) ≡ cur_of key table.entries = ap (cur_of key) kept in
        omega (arith, n)
    by (Some k) is = some k is (same_addr k key) refl

pub counts_released : (moment : ℕ) (tracked : Addr) (es : List StickEntry) → 0 < cur_of tracked es → (key : Addr) → cur_of key (released moment tracked es) + trackings_of key (Some tracked) ≡ cur_of key es
counts_released moment tracked es some key = by (same_addr tracked key) refl
  where
    by : (b : Bool) → same_addr tracked key ≡ b → cur_of key (released moment tracked es) + trackings_of key (Some tracked) ≡ cur_of key es
    by true same =
        let it : tracked ≡ key = same_addr-is tracked key same in
        rw same (ap (λ a. cur_of a (released moment tracked es) + 1) (sym it) ∙ cur_of-released moment tracked es some ∙ ap (λ a. cur_of a es) it)
    by false same =
        let kept : cur_of key (released moment tracked es) ≡ cur_of key es = cur_of-released-other moment key tracked es (same_addr-sym tracked key same) in
        rw same (omega (arith, kept))

-- Keys differ.

absent_all : (key : Addr) (es : List StickEntry) → find (is_of key) es ≡ None → AllByRecursion (λ other. same_addr other.key key ≡ false) (plain es)
absent_all key [] none = tt
absent_all key (e ∷ es) none = by (is_of key e) refl none (absent_all key es)
  where
    by : (b : Bool) → is_of key e ≡ b → find (is_of key) (e ∷ es) ≡ None → (find (is_of key) es ≡ None → AllByRecursion (λ other. same_addr other.key key ≡ false) (plain es))
        → AllByRecursion (λ other. same_addr other.key key ≡ false) (plain (e ∷ es))
    by true is none more = absurd (let wrong : Some e ≡ None = rw is at none in cc)
    by false is none more = (is, more (rw is at none))

pub keys_differ : (es : List StickEntry) → HasKeysOnce es → KeysDiffer (plain es)
keys_differ [] once = tt
keys_differ (e ∷ es) once = (absent_all e.key es once.0, keys_differ es once.1)
