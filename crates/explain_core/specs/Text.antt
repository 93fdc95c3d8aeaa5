-- An explanation as text, line by line.
use Rattle.std.specs.Prelude.{ℕ, Bool, true, false, not, ◌==◌, ◌-◌, ◌&&◌, nat_lt, slice_get, slice_index, List, [], ◌∷◌, ◌++◌, length, map, filter, find, codes, Option, Some, None, option_map, if◌then◌else◌}
use Rattle.std.specs.List.{enumerate_from, flat_map, zip}
use Rattle.std.specs.Option.{option_map_or}
use Rattle.std.specs.Str.{bytes_eq}
use Rattle.text_core.specs.Decimal.{decimal}
use Rattle.addr_core.specs.PairValue.{PairValue}
use Rattle.addr_core.specs.Text.{endpoint_text, text_of}
use Rattle.addr_core.specs.declared.addr.Addr.{Addr}
use Rattle.addr_core.specs.declared.addr.Endpoint.{Endpoint}
use Rattle.conf_text.specs.declared.line.Line.{Line}
use Rattle.acl_core.specs.Truth.{applies}
use Rattle.acl_core.specs.declared.condition.Acl.{Acl}
use Rattle.acl_core.specs.declared.condition.Cond.{Cond}
use Rattle.acl_core.specs.declared.condition.Operand.{Operand}
use Rattle.acl_core.specs.declared.condition.Operand.TheVariants as operands
use Rattle.acl_core.specs.declared.condition.Term.{Term}
use Rattle.acl_core.specs.declared.condition.When.{When}
use Rattle.acl_core.specs.declared.condition.When.TheVariants.{Always, If, Unless}
use Rattle.acl_core.specs.declared.criterion.Criterion.{Criterion}
use Rattle.acl_core.specs.declared.criterion.Criterion.TheVariants as criteria
use Rattle.acl_core.specs.declared.criterion.Value.{Value}
use Rattle.acl_core.specs.declared.criterion.Value.TheVariants as values
use Rattle.plan_types.specs.declared.plan.Action.{Action}
use Rattle.plan_types.specs.declared.plan.Action.TheVariants as actions
use Rattle.plan_types.specs.declared.plan.Backend.{Backend}
use Rattle.plan_types.specs.declared.plan.Choice.{Choice}
use Rattle.plan_types.specs.declared.plan.Frontend.{Frontend}
use Rattle.plan_types.specs.declared.plan.Rule.{Rule}
use Rattle.plan_types.specs.declared.plan.Server.{Server}
use Rattle.plan_types.specs.declared.plan.Table.{Table}
use Rattle.rule_engine.specs.Meaning.{SceneMeaning, present}
use Rattle.rule_engine.specs.Judging.{TrackSlots, is_free}
use Rattle.conn_model.specs.Rules.{RuleView, rejection, scene_of, worth}
use Rattle.conn_model.specs.Servers.{cursor_at, identity_in, pick_in}
use Rattle.conn_model.specs.declared.plain.Listener.{Listener}
use Rattle.conn_core.specs.declared.facts.RuleFacts.{RuleFacts}
use Rattle.conn_core.specs.Judging.{facts_view}
use Rattle.event_text.specs.Script.{ended_lines}
use Rattle.explain_core.specs.declared.explaining.Trials.{Trials}
use Rattle.explain_core.specs.declared.tried.Tried.{Tried}
use Rattle.explain_core.specs.declared.tried.TriedChoice.{TriedChoice}

-- Lines of the configuration.

-- words with a space before each
abbrev pub words_text : List (List ℕ) → List ℕ
words_text words = flat_map (λ word. codes " " ++ word) words

-- the line of a number with its words: one space is between them, and its comment is no part of it
abbrev pub line_text : List Line → ℕ → List ℕ
line_text lines number = codes "line " ++ decimal number ++ option_map_or (λ line. words_text line.words) (find (λ line. line.number == number) lines) []

-- What a condition saw.

abbrev pub named_text : List ℕ → Option (List ℕ) → List ℕ
named_text word None = word
named_text word (Some name) = word ++ codes "(" ++ name ++ codes ")"

-- a criterion as a configuration has it
abbrev pub criterion_text : Criterion → List ℕ
criterion_text criteria.Source = codes "src"
criterion_text (criteria.TrackedConnections counter) = codes "sc" ++ decimal counter ++ codes "_conn_cur"
criterion_text (criteria.TrackedTotal counter) = codes "sc" ++ decimal counter ++ codes "_conn_cnt"
criterion_text (criteria.SourceConnections name) = named_text (codes "src_conn_cur") name
criterion_text (criteria.SourceTotal name) = named_text (codes "src_conn_cnt") name
criterion_text (criteria.FrontendConnections name) = named_text (codes "fe_conn") name
criterion_text (criteria.BackendConnections name) = named_text (codes "be_conn") (Some name)

abbrev pub value_text : Value → List ℕ
value_text values.Absent = codes "none"
value_text (values.Number number) = decimal number
value_text (values.Source addr) = text_of addr

-- a criterion with its value
abbrev pub criterion_line : (Criterion → Value) → Criterion → List ℕ
criterion_line worth criterion = codes "  " ++ criterion_text criterion ++ codes " " ++ value_text (worth criterion)

-- what a name asks for
abbrev pub asked_by_acl : Acl → List Criterion
asked_by_acl acl = map (λ test. test.criterion) acl.tests

-- what an operand asks for, in a section with those names
abbrev pub asked_by : List Acl → Operand → List Criterion
asked_by acls (operands.Constant truth) = []
asked_by acls (operands.Test test) = test.criterion ∷ []
asked_by acls (operands.Acl number) = option_map_or asked_by_acl (slice_get acls number) []

-- what the terms of a group ask for, in their order
abbrev pub asked_in_group : List Acl → List Term → List Criterion
asked_in_group acls group = flat_map (λ term. asked_by acls term.operand) group

-- what a condition asks for, in its order
abbrev pub asked_in : List Acl → Cond → List Criterion
asked_in acls condition = flat_map (asked_in_group acls) condition.groups

abbrev pub asked_when : List Acl → When → List Criterion
asked_when acls Always = []
asked_when acls (If condition) = asked_in acls condition
asked_when acls (Unless condition) = asked_in acls condition

-- each line once, where it comes first
abbrev pub once : List (List ℕ) → List (List ℕ)
once [] = []
once (line ∷ lines) = line ∷ filter (λ other. not (bytes_eq line other)) (once lines)

-- what a condition saw: each criterion that it asks for, once, with its value
abbrev pub seen_text : List Acl → (Criterion → Value) → When → List ℕ
seen_text acls worth when = ended_lines (once (map (criterion_line worth) (asked_when acls when)))

-- Rules.

abbrev pub table_name : List Table → ℕ → List ℕ
table_name tables number = option_map_or (λ table. table.name) (slice_get tables number) []

-- what a counter begins to track in the table of a number, if it begins to
abbrev pub begins_to_track : SceneMeaning → TrackSlots → ℕ → ℕ → Option Addr
begins_to_track scene tracks counter number = if is_free scene tracks counter then option_map (λ found. found.1) (scene.key (present tracks) number) else None

abbrev pub tracking_text : List Table → ℕ → Option Addr → List ℕ
tracking_text tables number None = codes ", tracks nothing"
tracking_text tables number (Some key) = codes ", tracks " ++ text_of key ++ codes " in " ++ table_name tables number

-- what a rule does that applies, once those tracks are made
abbrev pub effect_text : List Table → SceneMeaning → TrackSlots → Action → List ℕ
effect_text tables scene tracks actions.Accept = codes ", decides"
effect_text tables scene tracks actions.Reject = codes ", decides"
effect_text tables scene tracks (actions.Track counter number) = tracking_text tables number (begins_to_track scene tracks counter number)
effect_text tables scene tracks actions.ExpectProxy = codes ", a header is expected"

abbrev pub verdict_text : List Table → SceneMeaning → Tried → List ℕ
verdict_text tables scene it = if it.applies then codes ": yes" ++ effect_text tables scene it.before it.action else codes ": no"

-- a rule that was tried, with what it saw
abbrev pub rule_text : List Line → List Table → SceneMeaning → Rule × Tried → List ℕ
rule_text lines tables scene (rule, it) =
    line_text lines it.line ++ verdict_text tables scene it ++ codes "\n" ++ seen_text scene.acls (scene.worth (present it.before)) rule.when

-- the rules of a list that were tried
abbrev pub rules_text : List Line → RuleFacts → List Rule → List Tried → List ℕ
rules_text lines facts rules tried = flat_map (rule_text lines facts.version.now.plan.tables (scene_of (facts_view facts))) (zip rules tried)

-- a `use_backend` line that was tried, with what it saw
abbrev pub choice_text : List Line → RuleView → Choice × TriedChoice → List ℕ
choice_text lines v (choice, it) =
    line_text lines it.line ++ (if it.applies then codes ": yes, decides\n" else codes ": no\n") ++ seen_text v.frontend.acls (worth v) choice.when

abbrev pub choices_text : List Line → RuleView → List TriedChoice → List ℕ
choices_text lines v tried = flat_map (choice_text lines v) (zip v.frontend.choices tried)

-- The backend.

-- the number of the server that is picked, of the backend of that number
abbrev pub picked_in : RuleView → ℕ → Backend → Option ℕ
picked_in v number backend = option_map (λ turn. turn.server) (pick_in v.served v.barred backend (cursor_at v.version.cursors number) v.source)

abbrev pub weight_text : ℕ → ℕ → Bool → List ℕ
weight_text weight connections is_picked = codes ": weight " ++ decimal weight ++ codes ", " ++ decimal connections ++ (if is_picked then codes " open: picked\n" else codes " open\n")

abbrev pub load_text : RuleView → Backend → Server → Bool → List ℕ
load_text v backend server is_picked = if server.disabled then codes ": disabled\n" else weight_text server.weight (v.served (identity_in backend server)) is_picked

-- a server by its number in its backend, of which that one is picked
abbrev pub server_text : List Line → RuleView → Backend → Option ℕ → ℕ × Server → List ℕ
server_text lines v backend picked (number, server) =
    codes "  " ++ line_text lines server.line ++ load_text v backend server (option_map_or (λ turn. turn == number) picked false)

-- the name of a section, with its line
abbrev pub section_text : List ℕ → List ℕ → ℕ → List ℕ
section_text kind name line = kind ++ name ++ codes " line " ++ decimal line

-- a backend by its number, with its servers as its method sees them
abbrev pub backend_text : List Line → RuleView → ℕ → Bool → Backend → List ℕ
backend_text lines v number is_default backend =
    section_text (codes "backend ") backend.name backend.line ++ (if is_default then codes ", the default\n" else codes "\n")
    ++ flat_map (server_text lines v backend (picked_in v number backend)) (enumerate_from 0 backend.servers)

abbrev pub numbered_text : List Line → RuleView → ℕ → Bool → List ℕ
numbered_text lines v number is_default = option_map_or (backend_text lines v number is_default) (slice_get v.version.plan.backends number) []

-- the backend of a `use_backend` line that applies, or else the default one
abbrev pub chosen_text : List Line → RuleView → Option Choice → Option ℕ → List ℕ
chosen_text lines v (Some choice) default = numbered_text lines v choice.backend false
chosen_text lines v None (Some number) = numbered_text lines v number true
chosen_text lines v None None = []

-- the first `use_backend` line that applies
abbrev pub chosen_in : RuleView → Option Choice
chosen_in v = find (λ choice. applies v.frontend.acls (worth v) choice.when) v.frontend.choices

-- the `use_backend` lines that were tried, and the backend, unless a session rule rejected
abbrev pub choice_unless : Option ℕ → List Line → RuleView → List TriedChoice → List ℕ
choice_unless (Some line) lines v tried = []
choice_unless None lines v tried = choices_text lines v tried ++ chosen_text lines v (chosen_in v) v.frontend.default

-- All of it.

-- what was tried once it was known who the client is
abbrev pub trials_text : List Line → RuleFacts → Trials → List ℕ
trials_text lines facts trials =
    rules_text lines facts facts.frontend.now.session_rules trials.session.items
    ++ choice_unless (rejection trials.says) lines (facts_view facts (present trials.says.tracks)) trials.choices.items

-- the frontend, and the listener that takes the connection
abbrev pub frontend_text : Frontend → Endpoint → Bool → List ℕ
frontend_text frontend at accept_proxy =
    section_text (codes "frontend ") frontend.name frontend.line ++ codes " listener " ++ endpoint_text at ++ (if accept_proxy then codes " accept-proxy\n" else codes "\n")

-- whether a limit decides, where so many are open with the connection
abbrev pub passed_text : ℕ → ℕ → List ℕ
passed_text limit connections = if nat_lt limit connections then codes " open, decides\n" else codes " open, goes on\n"

abbrev pub limit_line_text : List Line → Frontend → ℕ → List ℕ
limit_line_text lines frontend connections = line_text lines frontend.limit_line ++ codes ": " ++ decimal (connections - 1) ++ passed_text frontend.limit connections

-- the limit of the frontend, where so many are open with the connection: nothing where no line states it
abbrev pub limit_text : List Line → Frontend → ℕ → List ℕ
limit_text lines frontend connections = if frontend.limit_line == 0 then [] else limit_line_text lines frontend connections

-- what was tried at the accept
abbrev pub accept_text : List Line → RuleFacts → Listener → List Tried → Option Trials → List ℕ
accept_text lines facts at entry trials =
    frontend_text facts.frontend.now at.at at.accept_proxy
    ++ limit_text lines facts.frontend.now facts.connections
    ++ rules_text lines facts facts.frontend.now.connection_rules entry
    ++ option_map_or (trials_text lines facts) trials []

-- a header of version 1 is a line that begins with a P
abbrev pub is_line : List ℕ → Bool
is_line header = nat_lt 0 (length header) && (slice_index header 0 == 0x50)

abbrev pub version_text : List ℕ → List ℕ
version_text header = if is_line header then codes "header version 1, " else codes "header version 2, "

abbrev pub pair_text : PairValue → List ℕ
pair_text judged = codes " bytes: " ++ endpoint_text judged.source ++ codes " to " ++ endpoint_text judged.destination ++ codes "\n"

-- a header of so many bytes, with the pair by which the connection is judged
abbrev pub header_text : List ℕ → ℕ → PairValue → List ℕ
header_text header count judged = version_text header ++ decimal count ++ pair_text judged
