-- What a `tcp-request` or `use_backend` line says.
use Rattle.std.specs.Prelude.{ℕ, ◌∷◌, List, [], Some, None, Result, Ok, Err, codes, if◌then◌else◌}
use Rattle.std.specs.Str.{bytes_eq}
use Rattle.list_core.specs.Each.{◌>>=◌}
use Rattle.acl_core.specs.declared.condition.When.{When}
use Rattle.acl_core.specs.declared.condition.When.TheVariants as whens
use Rattle.acl_core.specs.Reading.{condition_of}
use Rattle.conf_line.specs.declared.statement.ActionWords.{ActionWords}
use Rattle.conf_line.specs.declared.statement.ActionWords.TheVariants.{Accept, Reject, Track, ExpectProxy}
use Rattle.conf_line.specs.declared.statement.Ruleset.{Ruleset}
use Rattle.conf_line.specs.declared.statement.Ruleset.TheVariants.{Connection, Session}
use Rattle.conf_line.specs.declared.statement.Statement.{Statement}
use Rattle.conf_line.specs.declared.statement.Statement.TheVariants as statements
use Rattle.conf_line.specs.declared.fault.ConfKind.{ConfKind}
use Rattle.conf_line.specs.declared.fault.ConfKind.TheVariants.{Unsupported}
use Rattle.conf_line.specs.Words.{word_at, name_at}
use Rattle.conf_line.specs.Acls.{acl_result}

-- When a line applies: always, or by a condition after `if` or `unless`, which may ask for the known names.

abbrev pub when_of : List (List ℕ) → List (List ℕ) → Result When ConfKind
when_of known [] = Ok whens.Always
when_of known (word ∷ rest) =
    if bytes_eq word (codes "if") then (acl_result (condition_of known rest) >>= λ condition. Ok (whens.If condition))
    else if bytes_eq word (codes "unless") then (acl_result (condition_of known rest) >>= λ condition. Ok (whens.Unless condition))
    else Err Unsupported

-- The action.

-- after `src`: the table of a section, or that of the rule's own
abbrev pub table_at : ℕ → List (List ℕ) → Result (ActionWords × List (List ℕ)) ConfKind
table_at counter [] = Ok (Track (record { counter = counter; table = None }), [])
table_at counter (word ∷ rest) =
    if bytes_eq word (codes "table") then (name_at rest >>= λ name. Ok (Track (record { counter = counter; table = Some name.0 }), name.1))
    else Ok (Track (record { counter = counter; table = None }), word ∷ rest)

-- after `track-sc0` and the like: the key is the source
abbrev pub track_at : ℕ → List (List ℕ) → Result (ActionWords × List (List ℕ)) ConfKind
track_at counter words = do
  key ← word_at words
  if bytes_eq key.0 (codes "src") then table_at counter key.1 else Err Unsupported

-- after `expect-proxy`, an action of connection rules alone: the layer whose header is expected
abbrev pub header_at : Ruleset → List (List ℕ) → Result (ActionWords × List (List ℕ)) ConfKind
header_at Session words = Err Unsupported
header_at Connection words = do
  layer ← word_at words
  if bytes_eq layer.0 (codes "layer4") then Ok (ExpectProxy, layer.1) else Err Unsupported

-- an action of a list, and the words after it
abbrev pub action_at : Ruleset → List (List ℕ) → Result (ActionWords × List (List ℕ)) ConfKind
action_at list words = do
  word ← word_at words
  if bytes_eq word.0 (codes "accept") then Ok (Accept, word.1)
      else if bytes_eq word.0 (codes "reject") then Ok (Reject, word.1)
      else if bytes_eq word.0 (codes "track-sc0") then track_at 0 word.1
      else if bytes_eq word.0 (codes "track-sc1") then track_at 1 word.1
      else if bytes_eq word.0 (codes "track-sc2") then track_at 2 word.1
      else if bytes_eq word.0 (codes "expect-proxy") then header_at list word.1
      else Err Unsupported

-- the list that the rule belongs to, and the words after it
abbrev pub ruleset_at : List (List ℕ) → Result (Ruleset × List (List ℕ)) ConfKind
ruleset_at words = do
  word ← word_at words
  if bytes_eq word.0 (codes "connection") then Ok (Connection, word.1)
      else if bytes_eq word.0 (codes "session") then Ok (Session, word.1)
      else Err Unsupported

-- the list and the action, and the words after them
abbrev pub head_at : List (List ℕ) → Result (Ruleset × (ActionWords × List (List ℕ))) ConfKind
head_at words = do
  list ← ruleset_at words
  action ← action_at list.0 list.1
  Ok (list.0, action)

abbrev pub rule_of : List (List ℕ) → List (List ℕ) → Result Statement ConfKind
rule_of known words = do
  head ← head_at words
  when ← when_of known head.1.1
  Ok (statements.Rule head.0 head.1.0 when)

-- The backend that is used.

abbrev pub choice_of : List (List ℕ) → List (List ℕ) → Result Statement ConfKind
choice_of known words = do
  name ← name_at words
  when ← when_of known name.1
  Ok (statements.UseBackend name.0 when)
