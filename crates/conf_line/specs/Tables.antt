-- What a `stick-table` line says.
use Rattle.std.specs.Prelude.{◌≡◌, ℕ, Bool, true, false, ◌||◌, ◌==◌, ◌*◌, ◌-◌, ◌∷◌, min, nat_lt, take, length, filter, List, [], Option, Some, None, Result, Ok, Err, codes, unwrap_or, if◌then◌else◌}
use Rattle.std.specs.Str.{bytes_eq}
use Rattle.std.specs.List.{slice_split, list_any}
use Rattle.list_core.specs.Each.{◌>>=◌, run}
use Rattle.list_core.specs.Newest.{newest}
use Rattle.proxy_types.specs.declared.table.KeyType.{KeyType}
use Rattle.proxy_types.specs.declared.table.KeyType.TheVariants.{Ip, Ipv6}
use Rattle.proxy_types.specs.declared.table.Stores.{Stores}
use Rattle.conf_line.specs.declared.statement.LineReading.{LineReading}
use Rattle.conf_line.specs.declared.statement.Statement.TheVariants as statements
use Rattle.conf_line.specs.declared.statement.TableOption.{TableOption}
use Rattle.conf_line.specs.declared.statement.TableOption.TheVariants as options
use Rattle.proxy_types.specs.declared.limits.TheConstants.{MOST_ENTRIES}
use Rattle.conf_line.specs.declared.fault.ConfKind.{ConfKind}
use Rattle.conf_line.specs.declared.fault.ConfKind.TheVariants.{MissingWord, BadNumber, Unsupported}
use Rattle.conf_line.specs.Times.{time_at}
use Rattle.conf_line.specs.Words.{number_at, last_of, onto}

-- Sizes: k is 1,024, and m is 1,048,576.

abbrev pub unit_by : Option ℕ → ℕ
unit_by None = 1
unit_by (Some byte) = if byte == 107 then 1024 else if byte == 109 then 1048576 else 1

abbrev pub unit_of : List ℕ → ℕ
unit_of word = unit_by (newest word)

-- the word without its unit
abbrev pub digits_of : List ℕ → List ℕ
digits_of word = if unit_of word == 1 then word else take (length word - 1) word

-- a number of entries from 1 on; what 64 bits do not hold is the greatest that they hold
abbrev pub size_at : List ℕ → Result ℕ ConfKind
size_at word = do
  number ← number_at (digits_of word)
  if number == 0 then Err BadNumber else Ok (min (number * unit_of word) 0xFFFF_FFFF_FFFF_FFFF)

-- The other values.

abbrev pub keys_of : List ℕ → Result KeyType ConfKind
keys_of word =
    if bytes_eq word (codes "ip") then Ok Ip
    else if bytes_eq word (codes "ipv6") then Ok Ipv6
    else Err Unsupported

abbrev pub no_stores : Stores
no_stores = record { cur = false; cnt = false }

-- one more kind that is stored
abbrev pub stores_with : Stores → List ℕ → Result Stores ConfKind
stores_with stores kind =
    if bytes_eq kind (codes "conn_cur") then Ok (record stores { cur = true })
    else if bytes_eq kind (codes "conn_cnt") then Ok (record stores { cnt = true })
    else Err Unsupported

-- kinds between commas
abbrev pub stores_of : List ℕ → Result Stores ConfKind
stores_of word = run stores_with no_stores (slice_split (λ byte. byte == 44) word)

-- a time from 1 ms on
abbrev pub expire_at : List ℕ → Result ℕ ConfKind
expire_at word = time_at word >>= λ ms. if ms == 0 then Err BadNumber else Ok ms

-- Options: a name, and its value.

abbrev pub is_table_option : List ℕ → Bool
is_table_option name = bytes_eq name (codes "type") || bytes_eq name (codes "size") || bytes_eq name (codes "store") || bytes_eq name (codes "expire")

-- a name with no word after it
abbrev pub without_value : List ℕ → ConfKind
without_value name = if is_table_option name then MissingWord else Unsupported

abbrev pub table_option : List ℕ → List ℕ → Result TableOption ConfKind
table_option name value =
    if bytes_eq name (codes "type") then (keys_of value >>= λ keys. Ok (options.Keys keys))
    else if bytes_eq name (codes "size") then (size_at value >>= λ size. Ok (options.Size size))
    else if bytes_eq name (codes "store") then (stores_of value >>= λ stores. Ok (options.Store stores))
    else if bytes_eq name (codes "expire") then (expire_at value >>= λ ms. Ok (options.Expire ms))
    else Err Unsupported

-- the words are options in any order, each a name and its value
abbrev pub table_options : List (List ℕ) → Result (List TableOption) ConfKind
table_options [] = Ok []
table_options (name ∷ []) = Err (without_value name)
table_options (name ∷ value ∷ rest) = table_option name value >>= λ option. onto option (table_options rest)

-- What the options say together.

abbrev pub option_keys : TableOption → Option KeyType
option_keys (options.Keys keys) = Some keys
option_keys option = None

abbrev pub option_size : TableOption → Option ℕ
option_size (options.Size size) = Some size
option_size option = None

abbrev pub option_expire : TableOption → Option ℕ
option_expire (options.Expire ms) = Some ms
option_expire option = None

abbrev pub is_keys : TableOption → Bool
is_keys (options.Keys keys) = true
is_keys option = false

abbrev pub is_size : TableOption → Bool
is_size (options.Size size) = true
is_size option = false

abbrev pub is_expire : TableOption → Bool
is_expire (options.Expire ms) = true
is_expire option = false

abbrev pub stores_cur : TableOption → Bool
stores_cur (options.Store stores) = stores.cur
stores_cur option = false

abbrev pub stores_cnt : TableOption → Bool
stores_cnt (options.Store stores) = stores.cnt
stores_cnt option = false

-- `type`, `size` or `expire` is given twice
abbrev pub has_repeat : List TableOption → Bool
has_repeat all = (nat_lt 1 (length (filter is_keys all)) || nat_lt 1 (length (filter is_size all))) || nat_lt 1 (length (filter is_expire all))

abbrev pub table_reading : List TableOption → KeyType → ℕ → LineReading
table_reading all keys size = record {
  statement = statements.StickTable (record {
    keys = keys;
    size = size;
    stores = record { cur = list_any stores_cur all; cnt = list_any stores_cnt all };
    expire = unwrap_or (last_of option_expire all) 0;
  });
  repeats = has_repeat all;
  exceeds = nat_lt MOST_ENTRIES size;
}

-- `type` and `size` have to be given
abbrev pub table_by : List TableOption → Option KeyType → Option ℕ → Result LineReading ConfKind
table_by all None size = Err MissingWord
table_by all (Some keys) None = Err MissingWord
table_by all (Some keys) (Some size) = Ok (table_reading all keys size)

abbrev pub table_of : List (List ℕ) → Result LineReading ConfKind
table_of words = table_options words >>= λ all. table_by all (last_of option_keys all) (last_of option_size all)

-- the words are options that say this together
abbrev pub IsTable : List (List ℕ) → Option KeyType → Option ℕ → Stores → Option ℕ → Bool → Type 0
IsTable words keys size stores expire repeats =
    (all : List TableOption) × (table_options words ≡ Ok all) × (keys ≡ last_of option_keys all) × (size ≡ last_of option_size all) ×
    (stores ≡ record { cur = list_any stores_cur all; cnt = list_any stores_cnt all }) × (expire ≡ last_of option_expire all) × (repeats ≡ has_repeat all)
