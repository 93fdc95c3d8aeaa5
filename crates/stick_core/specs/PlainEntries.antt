-- The entries of a table as plain data, the one that was touched longest ago first. How many track each key is
-- given beside them.
use Rattle.std.specs.Prelude.{◌≡◌, ℕ, Bool, false, not, min, List, [], ◌∷◌, ◌++◌, length, map, filter, find, Option, Some, None, option_and_then, ◌+◌, ◌==◌, ◌||◌, ◌&&◌, nat_lt, if◌then◌else◌}
use Rattle.std.specs.List.{list_any, AllByRecursion}
use Rattle.std.specs.Option.{option_map_or}
use Rattle.addr_core.specs.declared.addr.Addr.{Addr}
use Rattle.proxy_types.specs.declared.table.KeyType.{KeyType}
use Rattle.stick_core.specs.declared.entries.StickEntry.{StickEntry}
use Rattle.stick_core.specs.declared.entries.PlainEntry.{PlainEntry}
use Rattle.addr_core.specs.Same.{same_addr}
use Rattle.stick_core.specs.Key.{key_in}
use Rattle.stick_core.specs.Entries.{cur_of, is_over}

-- Keys.

abbrev pub has_key : Addr → PlainEntry → Bool
has_key key entry = same_addr entry.key key

abbrev pub is_in : Addr → List PlainEntry → Bool
is_in key entries = list_any (has_key key) entries

-- how often a key was tracked, 0 where it has no entry
abbrev pub count_in : Addr → List PlainEntry → ℕ
count_in key entries = option_map_or (λ entry. entry.cnt) (find (has_key key) entries) 0

-- and an address: what is no key never was
abbrev pub count_at : KeyType → List PlainEntry → Addr → ℕ
count_at kind entries addr = option_map_or (λ key. count_in key entries) (key_in kind addr) 0

-- how many track an address
abbrev pub trackers_at : (Addr → ℕ) → KeyType → Addr → ℕ
trackers_at trackers kind addr = option_map_or trackers (key_in kind addr) 0

-- nobody tracks the key
abbrev pub is_idle : (Addr → ℕ) → PlainEntry → Bool
is_idle trackers entry = trackers entry.key == 0

-- and its last touch is so long ago (0 is for ever): the entry counts as absent
abbrev pub is_absent : (Addr → ℕ) → ℕ → ℕ → PlainEntry → Bool
is_absent trackers expire moment entry = is_idle trackers entry && is_over expire moment entry.last_touch

-- the entries without those
abbrev pub alive : (Addr → ℕ) → ℕ → ℕ → List PlainEntry → List PlainEntry
alive trackers expire moment entries = filter (λ entry. not (is_absent trackers expire moment entry)) entries

-- the key could be listed: it is, or the list has room, or an entry that nobody tracks makes room for it
abbrev pub can_track : (Addr → ℕ) → ℕ → List PlainEntry → Addr → Bool
can_track trackers size entries key = is_in key entries || nat_lt (length entries) size || list_any (is_idle trackers) entries

-- the key under which a table tracks an address, if it does
abbrev pub tracked_key : (Addr → ℕ) → KeyType → ℕ → List PlainEntry → Addr → Option Addr
tracked_key trackers kind size entries addr = option_and_then (λ key. if can_track trackers size entries key then Some key else None) (key_in kind addr)

-- Changes.

-- all but the first that passes
abbrev pub without_first : {X : Type 0} → (X → Bool) → List X → List X
without_first test [] = []
without_first test (x ∷ xs) = if test x then xs else x ∷ without_first test xs

-- the key at the end, counted once more at a moment
abbrev pub counted : ℕ → Addr → List PlainEntry → List PlainEntry
counted moment key entries =
    filter (λ entry. not (has_key key entry)) entries
    ++ record { key = key; cnt = min 0xFFFF_FFFF_FFFF_FFFF (count_in key entries + 1); last_touch = moment } ∷ []

-- once a key is tracked at a moment: from a full list the first entry that nobody tracks is gone
abbrev pub with_tracking : ℕ → (Addr → ℕ) → ℕ → Addr → List PlainEntry → List PlainEntry
with_tracking moment trackers size key entries =
    if is_in key entries || nat_lt (length entries) size then counted moment key entries else counted moment key (without_first (is_idle trackers) entries)

-- or none was
abbrev pub with_trackings : ℕ → (Addr → ℕ) → ℕ → Option Addr → List PlainEntry → List PlainEntry
with_trackings moment trackers size None entries = entries
with_trackings moment trackers size (Some key) entries = with_tracking moment trackers size key entries

abbrev pub touched_at : ℕ → PlainEntry → PlainEntry
touched_at moment entry = record entry { last_touch = moment }

-- once a tracking of the key ended, at a moment: it is at the end
abbrev pub touched : ℕ → Addr → List PlainEntry → List PlainEntry
touched moment key entries = filter (λ entry. not (has_key key entry)) entries ++ map (touched_at moment) (filter (has_key key) entries)

-- no two entries have one key
abbrev pub KeysDiffer : List PlainEntry → Type 0
KeysDiffer [] = Unit {0}
KeysDiffer (entry ∷ entries) = AllByRecursion (λ other. same_addr other.key entry.key ≡ false) entries × KeysDiffer entries

-- The entries that a table keeps, as plain data.

abbrev pub plain_entry : StickEntry → PlainEntry
plain_entry entry = record { key = entry.key; cnt = entry.cnt; last_touch = entry.last_touch }

abbrev pub plain : List StickEntry → List PlainEntry
plain entries = map plain_entry entries

-- so many track each key
abbrev pub AreTrackers : (Addr → ℕ) → List StickEntry → Type 0
AreTrackers trackers entries = (key : Addr) → cur_of key entries ≡ trackers key

-- by how many the trackings of a key rise
abbrev pub trackings_of : Addr → Option Addr → ℕ
trackings_of key None = 0
trackings_of key (Some tracked) = if same_addr tracked key then 1 else 0
