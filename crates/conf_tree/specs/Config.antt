-- A configuration as the list of what its lines say, each with its section.
use Rattle.std.specs.Prelude.{◌≡◌, ℕ, Bool, true, false, ◌⊎◌, ◌||◌, nat_le, List, [], length, filter, drop, Option, Some, None, Result, Ok, Err, if◌then◌else◌}
use Rattle.std.specs.List.{list_any, filter_map}
use Rattle.std.specs.Str.{bytes_eq}
use Rattle.list_core.specs.Each.{◌>>=◌, each, IsRead, IsFirstFault}
use Rattle.list_core.specs.Newest.{newest}
use Rattle.addr_core.specs.Same.{same_endpoint}
use Rattle.text_core.specs.Names.{distinct}
use Rattle.conf_text.specs.declared.line.Line.{Line}
use Rattle.conf_text.specs.declared.line.LineFault.{LineFault}
use Rattle.conf_text.specs.Lines.{lines_of}
use Rattle.conf_line.specs.declared.fault.ConfKind.{ConfKind}
use Rattle.conf_line.specs.declared.fault.ConfKind.TheVariants as kinds
use Rattle.conf_line.specs.declared.fault.ConfFault.{ConfFault}
use Rattle.conf_line.specs.declared.statement.SectionKind.TheVariants as sections
use Rattle.conf_tree.specs.declared.tree.SectionPlace.{SectionPlace}
use Rattle.conf_tree.specs.declared.tree.ConfigLine.{ConfigLine}
use Rattle.conf_line.specs.declared.statement.Statement.{Statement}
use Rattle.conf_line.specs.declared.statement.Statement.TheVariants as statements
use Rattle.conf_tree.specs.declared.claim.Claim.{Claim}
use Rattle.conf_tree.specs.declared.claim.Claim.TheVariants as claims
use Rattle.conf_line.specs.declared.statement.LineReading.{LineReading}
use Rattle.proxy_types.specs.declared.limits.TheConstants.{MOST_SECTIONS, MOST_BINDS, MOST_SERVERS}
use Rattle.conf_tree.specs.declared.limits.TheConstants.{MOST_ACLS, MOST_RULES}
use Rattle.conf_line.specs.Statements.{line_reading}

-- Sections.

-- before any section
abbrev pub outside : SectionPlace
outside = record { kind = sections.Outside; name = []; first = 0 }

abbrev pub place_at : Option ConfigLine → SectionPlace
place_at None = outside
place_at (Some item) = item.place

-- the section of the line after those, if it opens none
abbrev pub place_after : List ConfigLine → SectionPlace
place_after items = place_at (newest items)

-- the section of a line that says this, as the item of that number
abbrev pub place_of : SectionPlace → ℕ → Statement → SectionPlace
place_of place number statements.Global = record { kind = sections.Global; name = []; first = number }
place_of place number statements.Defaults = record { kind = sections.Defaults; name = []; first = number }
place_of place number (statements.Frontend name) = record { kind = sections.Frontend; name = name; first = number }
place_of place number (statements.Backend name) = record { kind = sections.Backend; name = name; first = number }
place_of place number statements.Nothing = place
place_of place number (statements.MaxConn limit) = place
place_of place number (statements.Timeout kind ms) = place
place_of place number (statements.Retries count) = place
place_of place number (statements.Redispatch every) = place
place_of place number (statements.DefaultBackend name) = place
place_of place number (statements.Balance method) = place
place_of place number (statements.Bind at proxy) = place
place_of place number (statements.Acl name test) = place
place_of place number (statements.Rule list action when) = place
place_of place number (statements.UseBackend name when) = place
place_of place number (statements.StickTable table) = place
place_of place number (statements.Server server) = place

-- the lines of a section, of all those before
abbrev pub section_lines : SectionPlace → List ConfigLine → List ConfigLine
section_lines place items = drop place.first items

-- Names that are declared.

abbrev pub acl_name : Statement → Option (List ℕ)
acl_name (statements.Acl name test) = Some name
acl_name statement = None

-- the names that some lines of a section declare, each once, in the order of their first declarations
abbrev pub acl_names : List ConfigLine → List (List ℕ)
acl_names lines = distinct (filter_map (λ item. acl_name item.statement) lines)

-- the names that a condition on the line after those may ask for: those of its own section
abbrev pub known_names : List ConfigLine → List (List ℕ)
known_names items = acl_names (section_lines (place_after items) items)

-- What may be given once.

-- what a line claims for itself in the whole text: a frontend's name, a backend's name, an endpoint, or
-- the table of a name
abbrev pub claim_of : SectionPlace → Statement → Option Claim
claim_of place (statements.Frontend name) = Some (claims.Frontend name)
claim_of place (statements.Backend name) = Some (claims.Backend name)
claim_of place (statements.Bind at proxy) = Some (claims.Endpoint at)
claim_of place (statements.StickTable table) = Some (claims.Table place.name)
claim_of place statements.Nothing = None
claim_of place statements.Global = None
claim_of place statements.Defaults = None
claim_of place (statements.MaxConn limit) = None
claim_of place (statements.Timeout kind ms) = None
claim_of place (statements.Retries count) = None
claim_of place (statements.Redispatch every) = None
claim_of place (statements.DefaultBackend name) = None
claim_of place (statements.Balance method) = None
claim_of place (statements.Acl name test) = None
claim_of place (statements.Rule list action when) = None
claim_of place (statements.UseBackend name when) = None
claim_of place (statements.Server server) = None

abbrev pub same_claim : Claim → Claim → Bool
same_claim (claims.Frontend a) (claims.Frontend b) = bytes_eq a b
same_claim (claims.Backend a) (claims.Backend b) = bytes_eq a b
same_claim (claims.Endpoint a) (claims.Endpoint b) = same_endpoint a b
same_claim (claims.Table a) (claims.Table b) = bytes_eq a b
same_claim a b = false

-- what those lines claim
abbrev pub claims_of : List ConfigLine → List Claim
claims_of items = filter_map (λ item. claim_of item.place item.statement) items

abbrev pub is_claim_taken : List Claim → Option Claim → Bool
is_claim_taken taken None = false
is_claim_taken taken (Some claim) = list_any (same_claim claim) taken

abbrev pub is_server_named : List ℕ → Statement → Bool
is_server_named name (statements.Server server) = bytes_eq server.name name
is_server_named name other = false

-- a server's name may be given once in its backend
abbrev pub has_server : List ConfigLine → Statement → Bool
has_server lines (statements.Server server) = list_any (λ item. is_server_named server.name item.statement) lines
has_server lines other = false

-- an earlier line has what may be given once
abbrev pub is_taken : List ConfigLine → SectionPlace → Statement → Bool
is_taken items place reading = is_claim_taken (claims_of items) (claim_of place reading) || has_server (section_lines place items) reading

-- How many there may be: 64 frontends and 64 backends; in a frontend 64 `bind` lines, 256 `acl`
-- lines, and 256 of `tcp-request` and `use_backend` lines together; in a backend 64 servers.

abbrev pub is_frontend : Claim → Bool
is_frontend (claims.Frontend name) = true
is_frontend other = false

abbrev pub is_backend : Claim → Bool
is_backend (claims.Backend name) = true
is_backend other = false

abbrev pub is_bind : Statement → Bool
is_bind (statements.Bind at proxy) = true
is_bind other = false

abbrev pub is_acl : Statement → Bool
is_acl (statements.Acl name test) = true
is_acl other = false

-- a `tcp-request` or `use_backend` line
abbrev pub is_rule : Statement → Bool
is_rule (statements.Rule list action when) = true
is_rule (statements.UseBackend name when) = true
is_rule statements.Nothing = false
is_rule statements.Global = false
is_rule statements.Defaults = false
is_rule (statements.Frontend name) = false
is_rule (statements.Backend name) = false
is_rule (statements.MaxConn limit) = false
is_rule (statements.Timeout kind ms) = false
is_rule (statements.Retries count) = false
is_rule (statements.Redispatch every) = false
is_rule (statements.DefaultBackend name) = false
is_rule (statements.Balance method) = false
is_rule (statements.Bind at proxy) = false
is_rule (statements.Acl name test) = false
is_rule (statements.StickTable table) = false
is_rule (statements.Server server) = false

abbrev pub is_server : Statement → Bool
is_server (statements.Server server) = true
is_server other = false

-- that many lines are there already
abbrev pub claims_reach : ℕ → (Claim → Bool) → List ConfigLine → Bool
claims_reach most test items = nat_le most (length (filter test (claims_of items)))

abbrev pub lines_reach : ℕ → (Statement → Bool) → List ConfigLine → Bool
lines_reach most test lines = nat_le most (length (filter (λ item. test item.statement) lines))

-- one line more of the kind is too many
abbrev pub is_full : List ConfigLine → SectionPlace → Statement → Bool
is_full items place (statements.Frontend name) = claims_reach MOST_SECTIONS is_frontend items
is_full items place (statements.Backend name) = claims_reach MOST_SECTIONS is_backend items
is_full items place (statements.Bind at proxy) = lines_reach MOST_BINDS is_bind (section_lines place items)
is_full items place (statements.Acl name test) = lines_reach MOST_ACLS is_acl (section_lines place items)
is_full items place (statements.Rule list action when) = lines_reach MOST_RULES is_rule (section_lines place items)
is_full items place (statements.UseBackend name when) = lines_reach MOST_RULES is_rule (section_lines place items)
is_full items place (statements.Server server) = lines_reach MOST_SERVERS is_server (section_lines place items)
is_full items place statements.Nothing = false
is_full items place statements.Global = false
is_full items place statements.Defaults = false
is_full items place (statements.MaxConn limit) = false
is_full items place (statements.Timeout kind ms) = false
is_full items place (statements.Retries count) = false
is_full items place (statements.Redispatch every) = false
is_full items place (statements.DefaultBackend name) = false
is_full items place (statements.Balance method) = false
is_full items place (statements.StickTable table) = false

-- a line that says this may come after those
abbrev pub check_line : List ConfigLine → SectionPlace → LineReading → Result (Unit {0}) ConfKind
check_line items place reading =
    if reading.repeats || is_taken items place reading.statement then Err kinds.Duplicate
    else if reading.exceeds || is_full items place reading.statement then Err kinds.Limit
    else Ok tt

-- The lines in turn.

-- what the line after those says
abbrev pub line_after : List ConfigLine → Line → Result ConfigLine ConfKind
line_after items line = do
  reading ← line_reading (place_after items).kind (known_names items) line.words
  _ ← check_line items (place_of (place_after items) (length items) reading.statement) reading
  Ok (record { line = line.number; place = place_of (place_after items) (length items) reading.statement; statement = reading.statement })

abbrev pub at_line : {X : Type 0} → ℕ → Result X ConfKind → Result X ConfFault
at_line line (Ok x) = Ok x
at_line line (Err kind) = Err (record { line = line; kind = kind })

abbrev pub item_after : List ConfigLine → Line → Result ConfigLine ConfFault
item_after items line = at_line line.number (line_after items line)

abbrev pub text_fault : Result (List Line) LineFault → Result (List Line) ConfFault
text_fault (Ok lines) = Ok lines
text_fault (Err f) = Err (record { line = f.line; kind = kinds.Text f.kind })

abbrev pub has_effect : Statement → Bool
has_effect statements.Nothing = false
has_effect statement = true

-- the items of the lines that have an effect
abbrev pub with_effect : List ConfigLine → List ConfigLine
with_effect items = filter (λ item. has_effect item.statement) items

-- what the line after those says in the light of those that have an effect
abbrev pub next_item : List ConfigLine → Line → Result ConfigLine ConfFault
next_item items line = item_after (with_effect items) line

-- what the lines say that have an effect, or the fault of the first faulty line
abbrev pub items_in : List Line → Result (List ConfigLine) ConfFault
items_in lines = each next_item [] lines >>= λ items. Ok (with_effect items)

-- the same of a text, or the fault of its characters
abbrev pub items_of : List ℕ → Result (List ConfigLine) ConfFault
items_of text = text_fault (lines_of text) >>= λ lines. items_in lines

-- the items are, of what each line says in the light of those before it, all that has an effect
abbrev pub AreItems : List ℕ → List ConfigLine → Type 0
AreItems text items = (lines : List Line) × (all : List ConfigLine) × (lines_of text ≡ Ok lines) × IsRead next_item lines all × (items ≡ with_effect all)

-- what is reported where memory ran out
abbrev pub no_memory : ConfFault
no_memory = record { line = 0; kind = kinds.NoMemory }

-- f is the fault of the text's lines as text, or else of the first line that has one
abbrev pub IsConfFault : List ℕ → ConfFault → Type 0
IsConfFault text f = (text_fault (lines_of text) ≡ Err f) ⊎ ((lines : List Line) × (lines_of text ≡ Ok lines) × IsFirstFault next_item lines f)
