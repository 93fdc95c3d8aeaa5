-- What a `server` line says.
use Rattle.std.specs.Prelude.{◌≡◌, ℕ, Bool, true, false, ◌||◌, ◌∷◌, ◌==◌, nat_lt, drop, List, [], Option, Some, None, Result, Ok, Err, codes, if◌then◌else◌}
use Rattle.std.specs.Str.{bytes_eq}
use Rattle.std.specs.List.{list_any}
use Rattle.std.specs.Option.{option_or}
use Rattle.list_core.specs.Each.{◌>>=◌}
use Rattle.addr_core.specs.declared.addr.Endpoint.{Endpoint}
use Rattle.addr_core.specs.Text.{endpoint_of}
use Rattle.conf_line.specs.declared.server.Options.{Options}
use Rattle.conf_line.specs.declared.statement.LineReading.{LineReading}
use Rattle.conf_line.specs.declared.statement.ServerOption.{ServerOption}
use Rattle.conf_line.specs.declared.statement.ServerOption.TheVariants as options
use Rattle.conf_line.specs.declared.statement.Statement.TheVariants as statements
use Rattle.conf_line.specs.declared.statement.TheConstants.{MOST_CHECKS, MOST_INTERVAL}
use Rattle.proxy_types.specs.declared.limits.TheConstants.{GREATEST_WEIGHT, MOST_CONNECTIONS}
use Rattle.conf_line.specs.declared.fault.ConfKind.{ConfKind}
use Rattle.conf_line.specs.declared.fault.ConfKind.TheVariants.{MissingWord, BadNumber, Unsupported}
use Rattle.conf_line.specs.Words.{word_at, name_at, number_at, address_at, last_of, onto}
use Rattle.conf_line.specs.Times.{time_at}

-- Options: a flag, or a name and its value.

abbrev pub is_weight : List ℕ → Bool
is_weight word = bytes_eq word (codes "weight")

abbrev pub is_max_conn : List ℕ → Bool
is_max_conn word = bytes_eq word (codes "maxconn")

abbrev pub is_inter : List ℕ → Bool
is_inter word = bytes_eq word (codes "inter")

abbrev pub is_fall : List ℕ → Bool
is_fall word = bytes_eq word (codes "fall")

abbrev pub is_rise : List ℕ → Bool
is_rise word = bytes_eq word (codes "rise")

-- a value comes after the word
abbrev pub has_value : List ℕ → Bool
has_value word = is_weight word || is_max_conn word || is_inter word || is_fall word || is_rise word

-- the words after the option that begins with that name
abbrev pub words_after : List ℕ → List (List ℕ) → List (List ℕ)
words_after name words = if has_value name then drop 1 words else words

abbrev pub server_flag : List ℕ → Result ServerOption ConfKind
server_flag word =
    if bytes_eq word (codes "disabled") then Ok options.Disabled
    else if bytes_eq word (codes "send-proxy") then Ok options.SendProxy
    else if bytes_eq word (codes "send-proxy-v2") then Ok options.SendProxyV2
    else if bytes_eq word (codes "check") then Ok options.Check
    else Err Unsupported

-- a time between two checks, and how many of them fail or succeed, are from 1 on
abbrev pub check_number : List ℕ → ℕ → Result ServerOption ConfKind
check_number name number =
    if number == 0 then Err BadNumber
    else if is_inter name then Ok (options.Inter number)
    else if is_fall name then Ok (options.Fall number)
    else Ok (options.Rise number)

-- a weight, a limit of connections, or a number of checks
abbrev pub server_number : List ℕ → ℕ → Result ServerOption ConfKind
server_number name number =
    if is_max_conn name then Ok (options.MaxConn number)
    else if is_weight name then (if nat_lt GREATEST_WEIGHT number then Err BadNumber else Ok (options.Weight number))
    else check_number name number

-- `inter` has a time, and each other option a number
abbrev pub value_at : List ℕ → List ℕ → Result ℕ ConfKind
value_at name value = if is_inter name then time_at value else number_at value

abbrev pub server_value : List ℕ → List ℕ → Result ServerOption ConfKind
server_value name value = value_at name value >>= server_number name

-- the words are options in any order
abbrev pub server_options : List (List ℕ) → Result (List ServerOption) ConfKind
server_options [] = Ok []
server_options (name ∷ []) = if has_value name then Err MissingWord else (server_flag name >>= λ option. onto option (Ok []))
server_options (name ∷ value ∷ rest) =
    if has_value name then (server_value name value >>= λ option. onto option (server_options rest))
    else (server_flag name >>= λ option. onto option (server_options (value ∷ rest)))

-- What the options say together: of an option that is given twice the later counts, and each limit is checked.

abbrev pub option_weight : ServerOption → Option ℕ
option_weight (options.Weight weight) = Some weight
option_weight other = None

abbrev pub option_limit : ServerOption → Option ℕ
option_limit (options.MaxConn limit) = Some limit
option_limit other = None

abbrev pub option_inter : ServerOption → Option ℕ
option_inter (options.Inter ms) = Some ms
option_inter other = None

abbrev pub option_fall : ServerOption → Option ℕ
option_fall (options.Fall count) = Some count
option_fall other = None

abbrev pub option_rise : ServerOption → Option ℕ
option_rise (options.Rise count) = Some count
option_rise other = None

-- a number is greater than any that is taken
abbrev pub is_excess : ServerOption → Bool
is_excess (options.MaxConn limit) = nat_lt MOST_CONNECTIONS limit
is_excess (options.Inter ms) = nat_lt MOST_INTERVAL ms
is_excess (options.Fall count) = nat_lt MOST_CHECKS count
is_excess (options.Rise count) = nat_lt MOST_CHECKS count
is_excess other = false

abbrev pub is_disabled : ServerOption → Bool
is_disabled options.Disabled = true
is_disabled other = false

abbrev pub is_send_proxy : ServerOption → Bool
is_send_proxy options.SendProxy = true
is_send_proxy other = false

abbrev pub is_send_proxy_v2 : ServerOption → Bool
is_send_proxy_v2 options.SendProxyV2 = true
is_send_proxy_v2 other = false

abbrev pub is_check : ServerOption → Bool
is_check options.Check = true
is_check other = false

abbrev pub options_of : List ServerOption → Options
options_of all = record {
  weight = last_of option_weight all;
  limit = last_of option_limit all;
  disabled = list_any is_disabled all;
  send_proxy = list_any is_send_proxy all;
  send_proxy_v2 = list_any is_send_proxy_v2 all;
  check = list_any is_check all;
  inter = last_of option_inter all;
  fall = last_of option_fall all;
  rise = last_of option_rise all;
  exceeds = list_any is_excess all;
}

-- the same with one option more, which counts before those
abbrev pub with_option : Options → ServerOption → Options
with_option says option = record {
  weight = option_or (option_weight option) says.weight;
  limit = option_or (option_limit option) says.limit;
  disabled = says.disabled || is_disabled option;
  send_proxy = says.send_proxy || is_send_proxy option;
  send_proxy_v2 = says.send_proxy_v2 || is_send_proxy_v2 option;
  check = says.check || is_check option;
  inter = option_or (option_inter option) says.inter;
  fall = option_or (option_fall option) says.fall;
  rise = option_or (option_rise option) says.rise;
  exceeds = says.exceeds || is_excess option;
}

abbrev pub server_with : List ℕ → Endpoint → Options → LineReading
server_with name to says = record {
  statement = statements.Server (record {
    name = name;
    to = to;
    weight = says.weight;
    limit = says.limit;
    disabled = says.disabled;
    send_proxy = says.send_proxy;
    send_proxy_v2 = says.send_proxy_v2;
    check = says.check;
    inter = says.inter;
    fall = says.fall;
    rise = says.rise;
  });
  repeats = false;
  exceeds = says.exceeds;
}

-- a name, an endpoint, and options
abbrev pub server_of : List (List ℕ) → Result LineReading ConfKind
server_of words = do
  name ← name_at words
  word ← word_at name.1
  to ← address_at (endpoint_of word.0)
  all ← server_options word.1
  Ok (server_with name.0 to (options_of all))

-- the words are options that say this together
abbrev pub IsServer : List (List ℕ) → Options → Type 0
IsServer words says = (all : List ServerOption) × (server_options words ≡ Ok all) × (says ≡ options_of all)
