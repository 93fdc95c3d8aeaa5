-- What a line says by its words alone, or the first word that is wrong.
use Rattle.std.specs.Prelude.{ℕ, Bool, true, false, ◌||◌, ◌==◌, ◌∷◌, nat_lt, List, [], Some, None, Result, Ok, Err, codes, if◌then◌else◌}
use Rattle.std.specs.Str.{bytes_eq}
use Rattle.list_core.specs.Each.{◌>>=◌}
use Rattle.conf_line.specs.declared.fault.ConfKind.{ConfKind}
use Rattle.conf_line.specs.declared.fault.ConfKind.TheVariants.{BadNumber, Unsupported}
use Rattle.proxy_types.specs.declared.balance.Method.TheVariants as methods
use Rattle.conf_line.specs.declared.statement.SectionKind.{SectionKind}
use Rattle.conf_line.specs.declared.statement.SectionKind.TheVariants as sections
use Rattle.conf_line.specs.declared.statement.Statement.{Statement}
use Rattle.conf_line.specs.declared.statement.Statement.TheVariants as statements
use Rattle.conf_line.specs.declared.statement.TheConstants.{MOST_RETRIES}
use Rattle.conf_line.specs.declared.statement.TimeoutKind.{TimeoutKind}
use Rattle.conf_line.specs.declared.statement.TimeoutKind.TheVariants as timeouts
use Rattle.conf_line.specs.declared.keyword.Keyword.{Keyword}
use Rattle.conf_line.specs.declared.keyword.Keyword.TheVariants as k
use Rattle.conf_line.specs.declared.statement.LineReading.{LineReading}
use Rattle.proxy_types.specs.declared.limits.TheConstants.{MOST_CONNECTIONS}
use Rattle.conf_line.specs.Keywords.{keyword_of, check_keyword}
use Rattle.conf_line.specs.Words.{word_at, end_at, name_at, number_at, bind_at}
use Rattle.conf_line.specs.Times.{time_at}
use Rattle.conf_line.specs.Acls.{acl_of}
use Rattle.conf_line.specs.Rules.{rule_of, choice_of}
use Rattle.conf_line.specs.Servers.{server_of}
use Rattle.conf_line.specs.Tables.{table_of}

-- a line in which nothing is given twice, and no number is greater than its limit
abbrev pub plain_reading : Result Statement ConfKind → Result LineReading ConfKind
plain_reading (Err kind) = Err kind
plain_reading (Ok reading) = Ok (record { statement = reading; repeats = false; exceeds = false })

-- a name, and no further word
abbrev pub only_name : List (List ℕ) → Result (List ℕ) ConfKind
only_name words = do
  name ← name_at words
  _ ← end_at name.1
  Ok name.0

-- Sections.

abbrev pub global_of : List (List ℕ) → Result Statement ConfKind
global_of words = end_at words >>= λ _. Ok statements.Global

-- the name of defaults says nothing
abbrev pub defaults_of : List (List ℕ) → Result Statement ConfKind
defaults_of [] = Ok statements.Defaults
defaults_of (word ∷ rest) = do
  name ← name_at (word ∷ rest)
  _ ← end_at name.1
  Ok statements.Defaults

abbrev pub frontend_of : List (List ℕ) → Result Statement ConfKind
frontend_of words = only_name words >>= λ name. Ok (statements.Frontend name)

abbrev pub backend_of : List (List ℕ) → Result Statement ConfKind
backend_of words = only_name words >>= λ name. Ok (statements.Backend name)

-- Lines of sections.

abbrev pub mode_of : List (List ℕ) → Result Statement ConfKind
mode_of words = do
  word ← word_at words
  if bytes_eq word.0 (codes "tcp") then (end_at word.1 >>= λ _. Ok statements.Nothing) else Err Unsupported

abbrev pub default_backend_of : List (List ℕ) → Result Statement ConfKind
default_backend_of words = only_name words >>= λ name. Ok (statements.DefaultBackend name)

abbrev pub method_of : List ℕ → Result Statement ConfKind
method_of word =
    if bytes_eq word (codes "roundrobin") then Ok (statements.Balance methods.RoundRobin)
    else if bytes_eq word (codes "leastconn") then Ok (statements.Balance methods.LeastConn)
    else if bytes_eq word (codes "source") then Ok (statements.Balance methods.Source)
    else Err Unsupported

abbrev pub balance_of : List (List ℕ) → Result Statement ConfKind
balance_of words = do
  word ← word_at words
  method ← method_of word.0
  _ ← end_at word.1
  Ok method

-- `accept-proxy` may come after the endpoint
abbrev pub accepts_proxy : List (List ℕ) → Result Bool ConfKind
accepts_proxy [] = Ok false
accepts_proxy (word ∷ rest) = if bytes_eq word (codes "accept-proxy") then (end_at rest >>= λ _. Ok true) else Err Unsupported

abbrev pub bind_of : List (List ℕ) → Result Statement ConfKind
bind_of words = do
  word ← word_at words
  at ← bind_at word.0
  proxy ← accepts_proxy word.1
  Ok (statements.Bind at proxy)

-- a number of connections from 1 on
abbrev pub max_conn_of : List (List ℕ) → Result LineReading ConfKind
max_conn_of words = do
  word ← word_at words
  limit ← number_at word.0
  if limit == 0 then Err BadNumber else do
    _ ← end_at word.1
    Ok (record { statement = statements.MaxConn limit; repeats = false; exceeds = nat_lt MOST_CONNECTIONS limit })

-- how often a server may be dialled again
abbrev pub retries_of : List (List ℕ) → Result LineReading ConfKind
retries_of words = do
  word ← word_at words
  count ← number_at word.0
  _ ← end_at word.1
  Ok (record { statement = statements.Retries count; repeats = false; exceeds = nat_lt MOST_RETRIES count })

-- a number from 0 on; a negative one is not taken
abbrev pub every_at : List ℕ → Result ℕ ConfKind
every_at [] = number_at []
every_at (first ∷ rest) = if first == 45 then (number_at rest >>= λ _. Err Unsupported) else number_at (first ∷ rest)

-- which of these times go to another server; a number need not be given
abbrev pub redispatch_of : List (List ℕ) → Result LineReading ConfKind
redispatch_of [] = Ok (record { statement = statements.Redispatch None; repeats = false; exceeds = false })
redispatch_of (word ∷ rest) = do
  every ← every_at word
  _ ← end_at rest
  Ok (record { statement = statements.Redispatch (Some every); repeats = false; exceeds = nat_lt MOST_RETRIES every })

-- Lines that are read and have no effect; the words after those offered are not read.

abbrev pub without_effect_if : (List ℕ → Bool) → List (List ℕ) → Result Statement ConfKind
without_effect_if is_offered words = do
  word ← word_at words
  if is_offered word.0 then Ok statements.Nothing else Err Unsupported

abbrev pub is_global : List ℕ → Bool
is_global word = bytes_eq word (codes "global")

abbrev pub is_option : List ℕ → Bool
is_option word = bytes_eq word (codes "tcplog") || bytes_eq word (codes "dontlognull")

abbrev pub option_of : List (List ℕ) → Result LineReading ConfKind
option_of words = do
  word ← word_at words
  if bytes_eq word.0 (codes "redispatch") then redispatch_of word.1 else plain_reading (without_effect_if is_option words)

-- in global all words after `log` are free
abbrev pub log_of : SectionKind → List (List ℕ) → Result Statement ConfKind
log_of sections.Global words = Ok statements.Nothing
log_of section words = without_effect_if is_global words

-- Timeouts.

abbrev pub timeout_kind : List ℕ → Result TimeoutKind ConfKind
timeout_kind word =
    if bytes_eq word (codes "connect") then Ok timeouts.Connect
    else if bytes_eq word (codes "client") then Ok timeouts.Client
    else if bytes_eq word (codes "server") then Ok timeouts.Server
    else Err Unsupported

-- whose time it is, and the time
abbrev pub timeout_of : List (List ℕ) → Result Statement ConfKind
timeout_of words = do
  word ← word_at words
  kind ← timeout_kind word.0
  time ← word_at word.1
  ms ← time_at time.0
  _ ← end_at time.1
  Ok (statements.Timeout kind ms)

-- All lines.

-- what a line says after its keyword, where those names are known; some of the language's lines are not taken
abbrev pub keyword_reading : SectionKind → List (List ℕ) → Keyword → List (List ℕ) → Result LineReading ConfKind
keyword_reading kind known k.Global words = plain_reading (global_of words)
keyword_reading kind known k.Defaults words = plain_reading (defaults_of words)
keyword_reading kind known k.Frontend words = plain_reading (frontend_of words)
keyword_reading kind known k.Backend words = plain_reading (backend_of words)
keyword_reading kind known k.Mode words = plain_reading (mode_of words)
keyword_reading kind known k.MaxConn words = max_conn_of words
keyword_reading kind known k.DefaultBackend words = plain_reading (default_backend_of words)
keyword_reading kind known k.Balance words = plain_reading (balance_of words)
keyword_reading kind known k.Bind words = plain_reading (bind_of words)
keyword_reading kind known k.Acl words = plain_reading (acl_of words)
keyword_reading kind known k.TcpRequest words = plain_reading (rule_of known words)
keyword_reading kind known k.UseBackend words = plain_reading (choice_of known words)
keyword_reading kind known k.StickTable words = table_of words
keyword_reading kind known k.Server words = server_of words
keyword_reading kind known k.Log words = plain_reading (log_of kind words)
keyword_reading kind known k.Option words = option_of words
keyword_reading kind known k.Timeout words = plain_reading (timeout_of words)
keyword_reading kind known k.Retries words = retries_of words
keyword_reading kind known k.Daemon words = plain_reading (Ok statements.Nothing)
keyword_reading kind known k.User words = plain_reading (Ok statements.Nothing)
keyword_reading kind known k.Group words = plain_reading (Ok statements.Nothing)
keyword_reading kind known k.Chroot words = plain_reading (Ok statements.Nothing)
keyword_reading kind known k.Pidfile words = plain_reading (Ok statements.Nothing)
keyword_reading kind known k.Nbthread words = plain_reading (Ok statements.Nothing)
keyword_reading kind known k.Listen words = Err Unsupported
keyword_reading kind known k.Unknown words = Err Unsupported

-- what a line says in a section of that kind, where the earlier lines of the section declare those names
abbrev pub line_reading : SectionKind → List (List ℕ) → List (List ℕ) → Result LineReading ConfKind
line_reading kind known [] = plain_reading (Ok statements.Nothing)
line_reading kind known (word ∷ rest) = check_keyword kind (keyword_of word) >>= λ _. keyword_reading kind known (keyword_of word) rest
