-- The entries of a table: keys that differ, how many there are, and keys that stay.
use Rattle.std.specs.Prelude.{ℕ, Bool, true, false, not, List, [], length, filter, map, refl, ◌+◌, ◌≤◌, ◌<◌, ◌≡◌, ◌⊎◌, ◌||◌, ◌&&◌, ◌∷◌, ◌++◌, if◌then◌else◌, nat_lt}
use Rattle.std.specs.List.{AllByRecursion, list_any}
use Rattle.std.proofs.Common.{sym, ap, ◌∙◌, subst, arith, inl, inr}
use Rattle.std.proofs.lemmas.Bool.{false≢true}
use Rattle.std.proofs.lemmas.Bool.Decides.{nat_tests}
use Rattle.std.proofs.lemmas.List.{length-append, length-map}
use Rattle.std.proofs.lemmas.List.Filters.{length-filter_both}
use Rattle.std.proofs.lemmas.List.Folds.{list_any-append}
use Rattle.addr_core.specs.declared.addr.Addr.{Addr}
use Rattle.stick_core.specs.declared.entries.PlainEntry.{PlainEntry}
use Rattle.addr_core.specs.Same.{same_addr}
use Rattle.stick_core.specs.Entries.{is_over}
use Rattle.stick_core.specs.PlainEntries.{alive, can_track, counted, has_key, is_absent, is_idle, is_in, touched, touched_at, with_tracking, without_first, KeysDiffer}
use Rattle.addr_core.proofs.SameLemmas.{same_addr-is, same_addr-refl, same_addr-sym}
use Rattle.conn_model.proofs.Lists.{or_true, or_left, or_right, all-append, all-each, all-filter, all-filter_if, all-map, all-more}

-- Keys that differ.

differ-filter : (test : PlainEntry → Bool) (entries : List PlainEntry) → KeysDiffer entries → KeysDiffer (filter test entries)
differ-filter test [] differ = tt
differ-filter test (x ∷ entries) differ = by (test x) refl (differ-filter test entries differ.1)
  where
    by : (b : Bool) → test x ≡ b → KeysDiffer (filter test entries) → KeysDiffer (filter test (x ∷ entries))
    by true e rest = rw e (all-filter (λ other. same_addr other.key x.key ≡ false) test entries differ.0, rest)
    by false e rest = rw e rest

-- those of other keys, and then some of this one
differ-parted : (key : Addr) (entries ys : List PlainEntry) → KeysDiffer entries → KeysDiffer ys → AllByRecursion (λ y. y.key ≡ key) ys →
    KeysDiffer (filter (λ entry. not (has_key key entry)) entries ++ ys)
differ-parted key [] ys differ two keys = two
differ-parted key (x ∷ entries) ys differ two keys = by (has_key key x) refl (differ-parted key entries ys differ.1 two keys)
  where
    by : (b : Bool) → has_key key x ≡ b → KeysDiffer (filter (λ entry. not (has_key key entry)) entries ++ ys) → KeysDiffer (filter (λ entry. not (has_key key entry)) (x ∷ entries) ++ ys)
    by true e rest = rw e rest
    by false e rest = rw e (
      all-append (λ other. same_addr other.key x.key ≡ false) (filter (λ entry. not (has_key key entry)) entries) ys
          (all-filter (λ other. same_addr other.key x.key ≡ false) (λ entry. not (has_key key entry)) entries differ.0)
          (all-more (λ y. y.key ≡ key) (λ other. same_addr other.key x.key ≡ false) ys (λ y same. ap (λ k. same_addr k x.key) same ∙ same_addr-sym x.key key e) keys),
      rest,
    )

counted-differ : (moment : ℕ) (key : Addr) (entries : List PlainEntry) → KeysDiffer entries → KeysDiffer (counted moment key entries)
counted-differ moment key entries differ = differ-parted key entries _ differ (tt, tt) (refl, tt)

-- a touch leaves the keys
differ-at : (moment : ℕ) (entries : List PlainEntry) → KeysDiffer entries → KeysDiffer (map (touched_at moment) entries)
differ-at moment [] differ = tt
differ-at moment (x ∷ entries) differ = (all-map (λ other. same_addr other.key x.key ≡ false) (touched_at moment) entries differ.0, differ-at moment entries differ.1)

pub touched-differ : (moment : ℕ) (key : Addr) (entries : List PlainEntry) → KeysDiffer entries → KeysDiffer (touched moment key entries)
touched-differ moment key entries differ =
    differ-parted key entries (map (touched_at moment) (filter (has_key key) entries)) differ (differ-at moment (filter (has_key key) entries) (differ-filter (has_key key) entries differ))
    (all-map (λ y. y.key ≡ key) (touched_at moment) (filter (has_key key) entries)
    (all-filter_if (λ y. y.key ≡ key) (has_key key) entries (all-each (λ y. has_key key y ≡ true → y.key ≡ key) entries (λ y is. same_addr-is y.key key is))))

pub alive-differ : (trackers : Addr → ℕ) (expire moment : ℕ) (entries : List PlainEntry) → KeysDiffer entries → KeysDiffer (alive trackers expire moment entries)
alive-differ trackers expire moment entries differ = differ-filter (λ entry. not (is_absent trackers expire moment entry)) entries differ

all-without : {X : Type 0} (P : X → Type 0) (test : X → Bool) (xs : List X) → AllByRecursion P xs → AllByRecursion P (without_first test xs)
all-without P test [] all = tt
all-without {X} P test (x ∷ xs) all = by (test x) refl (all-without P test xs all.1)
  where
    by : (b : Bool) → test x ≡ b → AllByRecursion P (without_first test xs) → AllByRecursion P (without_first test (x ∷ xs))
    by true e rest = rw e all.1
    by false e rest = rw e (all.0, rest)

without-differ : (test : PlainEntry → Bool) (entries : List PlainEntry) → KeysDiffer entries → KeysDiffer (without_first test entries)
without-differ test [] differ = tt
without-differ test (x ∷ entries) differ = by (test x) refl (without-differ test entries differ.1)
  where
    by : (b : Bool) → test x ≡ b → KeysDiffer (without_first test entries) → KeysDiffer (without_first test (x ∷ entries))
    by true e rest = rw e differ.1
    by false e rest = rw e (all-without (λ other. same_addr other.key x.key ≡ false) test entries differ.0, rest)

pub tracking-differ : (moment : ℕ) (trackers : Addr → ℕ) (size : ℕ) (key : Addr) (entries : List PlainEntry) → KeysDiffer entries → KeysDiffer (with_tracking moment trackers size key entries)
tracking-differ moment trackers size key entries differ = by (is_in key entries || nat_lt (length entries) size)
  where
    by : (b : Bool) → KeysDiffer (if b then counted moment key entries else counted moment key (without_first (is_idle trackers) entries))
    by true = counted-differ moment key entries differ
    by false = counted-differ moment key (without_first (is_idle trackers) entries) (without-differ (is_idle trackers) entries differ)

-- How many there are.

filter-less : {X : Type 0} (test : X → Bool) (xs : List X) → length (filter test xs) ≤ length xs
filter-less test [] = omega arith
filter-less {X} test (x ∷ xs) = by (test x) refl (filter-less test xs)
  where
    by : (b : Bool) → test x ≡ b → length (filter test xs) ≤ length xs → length (filter test (x ∷ xs)) ≤ length (x ∷ xs)
    by true e rest = rw e (omega (arith, rest))
    by false e rest = rw e (omega (arith, rest))

-- where some item is filtered out
filter-below : {X : Type 0} (test : X → Bool) (xs : List X) → list_any test xs ≡ true → length (filter (λ x. not (test x)) xs) < length xs
filter-below test [] is = absurd (false≢true is)
filter-below {X} test (x ∷ xs) is = by (test x) refl (filter-below test xs)
  where
    by : (b : Bool) → test x ≡ b → (list_any test xs ≡ true → length (filter (λ y. not (test y)) xs) < length xs) → length (filter (λ y. not (test y)) (x ∷ xs)) < length (x ∷ xs)
    by true e rest = let less : length (filter (λ y. not (test y)) xs) ≤ length xs = filter-less (λ y. not (test y)) xs in rw e (omega (arith, less))
    by false e rest = let less : length (filter (λ y. not (test y)) xs) < length xs = rest (rw e at is) in rw e (omega (arith, less))

without-below : {X : Type 0} (test : X → Bool) (xs : List X) → list_any test xs ≡ true → length (without_first test xs) < length xs
without-below test [] is = absurd (false≢true is)
without-below {X} test (x ∷ xs) is = by (test x) refl (without-below test xs)
  where
    by : (b : Bool) → test x ≡ b → (list_any test xs ≡ true → length (without_first test xs) < length xs) → length (without_first test (x ∷ xs)) < length (x ∷ xs)
    by true e rest = rw e (omega arith)
    by false e rest = let less : length (without_first test xs) < length xs = rest (rw e at is) in rw e (omega (arith, less))

counted-length : (moment : ℕ) (key : Addr) (entries : List PlainEntry) → length (counted moment key entries) ≡ length (filter (λ entry. not (has_key key entry)) entries) + 1
counted-length moment key entries = length-append (filter (λ entry. not (has_key key entry)) entries) _

pub touched-length : (moment : ℕ) (key : Addr) (entries : List PlainEntry) → length (touched moment key entries) ≡ length entries
touched-length moment key entries =
    let parts : length (touched moment key entries) ≡ length (filter (λ entry. not (has_key key entry)) entries) + length (filter (has_key key) entries) =
    length-append (filter (λ entry. not (has_key key entry)) entries) (map (touched_at moment) (filter (has_key key) entries))
    ∙ ap (λ n. length (filter (λ entry. not (has_key key entry)) entries) + n) (length-map (filter (has_key key) entries) (touched_at moment)) in
    let both : length (filter (has_key key) entries) + length (filter (λ entry. not (has_key key entry)) entries) ≡ length entries =
    length-filter_both (has_key key) (λ entry. not (has_key key entry)) (λ _. refl) entries in
    omega (arith, parts, both)

pub alive-length : (trackers : Addr → ℕ) (expire moment : ℕ) (entries : List PlainEntry) → length (alive trackers expire moment entries) ≤ length entries
alive-length trackers expire moment entries = filter-less (λ entry. not (is_absent trackers expire moment entry)) entries

-- where the key can be listed
pub tracking-fits : (moment : ℕ) (trackers : Addr → ℕ) (size : ℕ) (key : Addr) (entries : List PlainEntry) → can_track trackers size entries key ≡ true → length entries ≤ size →
    length (with_tracking moment trackers size key entries) ≤ size
tracking-fits moment trackers size key entries can fits = by (is_in key entries) (nat_lt (length entries) size) refl refl
  where
    by : (a b : Bool) → is_in key entries ≡ a → nat_lt (length entries) size ≡ b → length (with_tracking moment trackers size key entries) ≤ size
    by true b ea eb =
        let less : length (filter (λ entry. not (has_key key entry)) entries) < length entries = filter-below (has_key key) entries ea in
        let sum' : length (counted moment key entries) ≡ length (filter (λ entry. not (has_key key entry)) entries) + 1 = counted-length moment key entries in
        rw ea (omega (arith, less, sum', fits))
    by false true ea eb =
        let less : length (filter (λ entry. not (has_key key entry)) entries) ≤ length entries = filter-less (λ entry. not (has_key key entry)) entries in
        let sum' : length (counted moment key entries) ≡ length (filter (λ entry. not (has_key key entry)) entries) + 1 = counted-length moment key entries in
        let room : length entries < size = grind (arith, nat_tests) in
        rw (ea, eb) (omega (arith, less, sum', room))
    by false false ea eb =
        let idle : list_any (is_idle trackers) entries ≡ true = rw (ea, eb) at can in
        let rest : List PlainEntry = without_first (is_idle trackers) entries in
        let fewer : length rest < length entries = without-below (is_idle trackers) entries idle in
        let less : length (filter (λ entry. not (has_key key entry)) rest) ≤ length rest = filter-less (λ entry. not (has_key key entry)) rest in
        let sum' : length (counted moment key rest) ≡ length (filter (λ entry. not (has_key key entry)) rest) + 1 = counted-length moment key rest in
        rw (ea, eb) (omega (arith, fewer, less, sum', fits))

-- Keys that stay.

in-parted : (k key : Addr) (entries ys : List PlainEntry) → (same_addr key k ≡ true → is_in k ys ≡ true) → is_in k entries ≡ true →
    is_in k (filter (λ entry. not (has_key key entry)) entries ++ ys) ≡ true
in-parted k key [] ys stays is = absurd (false≢true is)
in-parted k key (x ∷ entries) ys stays is = by (has_key key x) refl (in-parted k key entries ys stays) (or_true (has_key k x) (is_in k entries) is)
  where
    by : (b : Bool) → has_key key x ≡ b → (is_in k entries ≡ true → is_in k (filter (λ entry. not (has_key key entry)) entries ++ ys) ≡ true) →
        (has_key k x ≡ true) ⊎ (is_in k entries ≡ true) → is_in k (filter (λ entry. not (has_key key entry)) (x ∷ entries) ++ ys) ≡ true
    by true e later (inl here) =
        let same : same_addr key k ≡ true = ap (λ a. same_addr a k) (sym (same_addr-is x.key key e)) ∙ here in
        rw e (list_any-append (has_key k) (filter (λ entry. not (has_key key entry)) entries) ys
        ∙ or_right (list_any (has_key k) (filter (λ entry. not (has_key key entry)) entries)) (list_any (has_key k) ys) (stays same))
    by true e later (inr there) = rw e (later there)
    by false e later (inl here) = rw e (or_left (has_key k x) (list_any (has_key k) (filter (λ entry. not (has_key key entry)) entries ++ ys)) here)
    by false e later (inr there) = rw e (or_right (has_key k x) (list_any (has_key k) (filter (λ entry. not (has_key key entry)) entries ++ ys)) (later there))

in-counted : (moment : ℕ) (k key : Addr) (entries : List PlainEntry) → is_in k entries ≡ true → is_in k (counted moment key entries) ≡ true
in-counted moment k key entries is = in-parted k key entries _ (λ same. or_left (same_addr key k) false same) is

in-new : (moment : ℕ) (key : Addr) (entries : List PlainEntry) → is_in key (counted moment key entries) ≡ true
in-new moment key entries =
    list_any-append (has_key key) (filter (λ entry. not (has_key key entry)) entries) _
    ∙ or_right (list_any (has_key key) (filter (λ entry. not (has_key key entry)) entries)) (same_addr key key || false) (or_left (same_addr key key) false (same_addr-refl key))

in-own : (key : Addr) (entries : List PlainEntry) → is_in key entries ≡ true → is_in key (filter (has_key key) entries) ≡ true
in-own key [] is = is
in-own key (x ∷ entries) is = by (has_key key x) refl (in-own key entries)
  where
    by : (b : Bool) → has_key key x ≡ b → (is_in key entries ≡ true → is_in key (filter (has_key key) entries) ≡ true) → is_in key (filter (has_key key) (x ∷ entries)) ≡ true
    by true e rest = rw e (or_left (has_key key x) (list_any (has_key key) (filter (has_key key) entries)) e)
    by false e rest = rw e (rest (rw e at is))

in-at : (moment : ℕ) (k : Addr) (entries : List PlainEntry) → is_in k (map (touched_at moment) entries) ≡ is_in k entries
in-at moment k [] = refl
in-at moment k (x ∷ entries) = ap (λ b. has_key k x || b) (in-at moment k entries)

pub in-touched : (moment : ℕ) (k key : Addr) (entries : List PlainEntry) → is_in k entries ≡ true → is_in k (touched moment key entries) ≡ true
in-touched moment k key entries is =
    in-parted k key entries (map (touched_at moment) (filter (has_key key) entries))
    (λ same.
    let it : key ≡ k = same_addr-is key k same in
    in-at moment k (filter (has_key key) entries)
    ∙ subst (λ a. is_in a (filter (has_key key) entries) ≡ true) it (in-own key entries (subst (λ a. is_in a entries ≡ true) (sym it) is))) is

-- a key of which no entry is idle is in the entries that are alive
pub in-alive : (trackers : Addr → ℕ) (expire moment : ℕ) (k : Addr) (entries : List PlainEntry) → ((entry : PlainEntry) → has_key k entry ≡ true → is_idle trackers entry ≡ false) →
    is_in k entries ≡ true → is_in k (alive trackers expire moment entries) ≡ true
in-alive trackers expire moment k [] busy is = is
in-alive trackers expire moment k (x ∷ entries) busy is = by (is_absent trackers expire moment x) refl (in-alive trackers expire moment k entries busy) (or_true (has_key k x) (is_in k entries) is)
  where
    here : has_key k x ≡ true → is_absent trackers expire moment x ≡ false
    here own = ap (λ b. b && is_over expire moment x.last_touch) (busy x own)

    by : (b : Bool) → is_absent trackers expire moment x ≡ b → (is_in k entries ≡ true → is_in k (alive trackers expire moment entries) ≡ true) → (has_key k x ≡ true) ⊎ (is_in k entries ≡ true) →
        is_in k (alive trackers expire moment (x ∷ entries)) ≡ true
    by true e rest (inl own) = absurd (false≢true (sym (here own) ∙ e))
    by true e rest (inr there) = rw e (rest there)
    by false e rest (inl own) = rw e (or_left (has_key k x) (list_any (has_key k) (alive trackers expire moment entries)) own)
    by false e rest (inr there) = rw e (or_right (has_key k x) (list_any (has_key k) (alive trackers expire moment entries)) (rest there))

in-without : (k : Addr) (test : PlainEntry → Bool) (entries : List PlainEntry) → ((entry : PlainEntry) → has_key k entry ≡ true → test entry ≡ false) → is_in k entries ≡ true →
    is_in k (without_first test entries) ≡ true
in-without k test [] stays is = is
in-without k test (x ∷ entries) stays is = by (test x) refl (in-without k test entries stays) (or_true (has_key k x) (is_in k entries) is)
  where
    by : (b : Bool) → test x ≡ b → (is_in k entries ≡ true → is_in k (without_first test entries) ≡ true) → (has_key k x ≡ true) ⊎ (is_in k entries ≡ true) →
        is_in k (without_first test (x ∷ entries)) ≡ true
    by true e rest (inl here) = absurd (false≢true (sym (stays x here) ∙ e))
    by true e rest (inr there) = rw e there
    by false e rest (inl here) = rw e (or_left (has_key k x) (list_any (has_key k) (without_first test entries)) here)
    by false e rest (inr there) = rw e (or_right (has_key k x) (list_any (has_key k) (without_first test entries)) (rest there))

-- a key of which no entry is idle
pub in-tracking : (moment : ℕ) (trackers : Addr → ℕ) (size : ℕ) (k key : Addr) (entries : List PlainEntry) → ((entry : PlainEntry) → has_key k entry ≡ true → is_idle trackers entry ≡ false) →
    is_in k entries ≡ true → is_in k (with_tracking moment trackers size key entries) ≡ true
in-tracking moment trackers size k key entries busy is = by (is_in key entries || nat_lt (length entries) size)
  where
    by : (b : Bool) → is_in k (if b then counted moment key entries else counted moment key (without_first (is_idle trackers) entries)) ≡ true
    by true = in-counted moment k key entries is
    by false = in-counted moment k key (without_first (is_idle trackers) entries) (in-without k (is_idle trackers) entries busy is)

-- and the one that is tracked
pub in-tracked : (moment : ℕ) (trackers : Addr → ℕ) (size : ℕ) (key : Addr) (entries : List PlainEntry) → is_in key (with_tracking moment trackers size key entries) ≡ true
in-tracked moment trackers size key entries = by (is_in key entries || nat_lt (length entries) size)
  where
    by : (b : Bool) → is_in key (if b then counted moment key entries else counted moment key (without_first (is_idle trackers) entries)) ≡ true
    by true = in-new moment key entries
    by false = in-new moment key (without_first (is_idle trackers) entries)
