-- What a plan that is made keeps: numbers that are in range, and rules in the order of their lines.
use Rattle.std.proofs.Common.{◌≡◌, ℕ, ◌<◌, ◌≤◌, Bool, true, false, List, [], ◌∷◌, ◌++◌, length, map, Option, Some, None, refl, sym, ap, subst, ◌∙◌, if◌then◌else◌}
use native.Mathlib.Omega.{arith}
use Rattle.std.specs.Prelude.{IfSome, unwrap_or, option_map, option_to_list, position}
use Rattle.std.specs.List.{AllByRecursion, cons_option}
use Rattle.std.specs.Option.{option_or}
use Rattle.std.specs.Str.{bytes_eq}
use Rattle.std.proofs.lemmas.List.Quantifiers.{position-Some}
use Rattle.conf_line.specs.declared.statement.ActionWords as line
use Rattle.conf_line.specs.declared.statement.ActionWords.TheVariants as words
use Rattle.conf_line.specs.declared.statement.Ruleset.{Ruleset}
use Rattle.conf_line.specs.declared.statement.Ruleset.TheVariants.{Connection, Session}
use Rattle.conf_line.specs.declared.statement.ServerWords.{ServerWords}
use Rattle.conf_line.specs.declared.statement.Statement.{Statement}
use Rattle.conf_line.specs.declared.statement.Statement.TheVariants as statements
use Rattle.conf_tree.specs.declared.tree.ConfigLine.{ConfigLine}
use Rattle.conf_line.specs.declared.statement.TableWords.{TableWords}
use Rattle.conf_line.specs.Sound.{AreSoundChecks, IsSoundInterval, IsSoundStatement}
use Rattle.conf_line.specs.Sound as lines
use Rattle.conf_tree.specs.Rising.{AreAbove, Rises}
use Rattle.conf_tree.specs.Sections.{opens, own_lines}
use Rattle.conf_tree.specs.Sound.{AreSoundStatements, IsSoundSection, AreSoundSections, IsSoundTree}
use Rattle.plan_types.specs.declared.plan.Action.{Action}
use Rattle.plan_types.specs.declared.plan.Backend.{Backend}
use Rattle.plan_types.specs.declared.plan.Check.{Check}
use Rattle.plan_types.specs.declared.plan.Choice.{Choice}
use Rattle.plan_types.specs.declared.plan.Plan.{Plan}
use Rattle.plan_types.specs.declared.plan.Rule.{Rule}
use Rattle.plan_types.specs.declared.plan.Table.{Table}
use Rattle.plan_types.specs.declared.plan.Server.{Server}
use Rattle.proxy_types.specs.declared.limits.TheConstants.{GREATEST_WEIGHT, MOST_CONNECTIONS, MOST_ENTRIES, MOST_SECTIONS, MOST_TABLES}
use Rattle.plan_types.specs.Sound.{IsSoundAction, RulesRise, AreSoundRules, ChoicesRise, IsWithin, IsSoundCheck, IsSoundFrontend, IsSoundServer, IsSoundBackend, IsSoundTable, IsSoundPlan}
use Rattle.plan_core.specs.declared.fields.Limit.{Limit}
use Rattle.plan_core.specs.declared.fields.Named.{Named}
use Rattle.plan_core.specs.declared.proxies.Proxy.{Proxy}
use Rattle.plan_core.specs.Compiled.{default_number, frontend_of, backend_of, backends_in, plan_faults}
use Rattle.plan_core.specs.declared.fields.TheConstants.{DEFAULT_FALL, DEFAULT_INTERVAL, DEFAULT_RISE}
use Rattle.plan_core.specs.Fields.{check_with, line_bind, line_default, line_limit, line_table, line_server, line_rule, line_choice, choice_with, backend_number, rule_with, all_of, last_of, setting_in, limit_in, table_with, tables_in, table_number, is_table_of, action_of, track_with, is_in}
use Rattle.plan_core.specs.Proxies.{line_head, base_after, proxy_with, proxies, is_frontend, is_backend, frontends, backends}
use Rattle.plan_core.proofs.CountLemmas.{HasBind, each_has_bind, few_binds, few_servers}
use Rattle.conf_tree.proofs.SectionLemmas.{own_more}
use Rattle.plan_core.proofs.LineLemmas.{own_above, lines_differ}
use Rattle.plan_core.proofs.NameLemmas.{frontend_names_differ, backend_names_differ, server_names_differ}

-- Numbers.

within : {X : Type 0} (test : X → Bool) (xs : List X) → IfSome (position test xs) (λ n. n < length xs)
within test [] = tt
within test (x ∷ xs) = by (position test (x ∷ xs)) refl
  where
    by : (o : Option ℕ) → position test (x ∷ xs) ≡ o → IfSome o (λ n. n < length (x ∷ xs))
    by None is = tt
    by (Some n) is = (position-Some test (x ∷ xs) n x is).0

some_table : (tables : List Table) (name : List ℕ) (named : Option (List ℕ)) → IfSome (table_number tables name named) (λ n. n < length tables)
some_table tables name None = within (is_table_of name) tables
some_table tables name (Some other) = within (λ (table : Table). bytes_eq table.name other) tables

some_action : (tables : List Table) (name : List ℕ) (action : line.ActionWords) → lines.IsSoundAction action → IfSome (action_of tables name action) (IsSoundAction (length tables))
some_action tables name (words.Track track) sound = by (table_number tables name track.table) (some_table tables name track.table)
  where
    by : (o : Option ℕ) → IfSome o (λ n. n < length tables) → IfSome (option_map (track_with track.counter) o) (IsSoundAction (length tables))
    by None less = tt
    by (Some n) less = (sound, less)
some_action tables name event sound = tt

some_default : (backends : List Backend) (setting : Option Named) → IfSome (default_number backends setting) (λ n. n < length backends)
some_default backends None = tt
some_default backends (Some named) = within (λ (backend : Backend). bytes_eq backend.name named.name) backends

-- Rules.

abbrev IsRuleOf : ℕ → ℕ → Rule → Type 0
IsRuleOf tables at rule = IsSoundAction tables rule.action × (rule.line ≡ at)

some_rule : (list : Ruleset) (tables : List Table) (name : List ℕ) (at : ℕ) (s : Statement) → IsSoundStatement s → IfSome (line_rule list tables name at s) (IsRuleOf (length tables) at)
some_rule list tables name at (statements.Rule other action when) sound = by (is_in list other) (action_of tables name action) (some_action tables name action sound)
  where
    by : (b : Bool) (o : Option Action) → IfSome o (IsSoundAction (length tables)) → IfSome (if b then option_map (rule_with at when) o else None) (IsRuleOf (length tables) at)
    by true None is = tt
    by true (Some done) is = (is, refl)
    by false o is = tt
some_rule list tables name at statement sound = tt

-- one rule more in front
rules_more : (o : Option Rule) (tables at : ℕ) (rest : List Rule) → IfSome o (IsRuleOf tables at) → AllByRecursion (λ rule. IsSoundAction tables rule.action) rest →
    AllByRecursion (λ rule. IsSoundAction tables rule.action) (cons_option o rest)
rules_more None tables at rest is all = all
rules_more (Some rule) tables at rest is all = (is.0, all)

sound_actions : (list : Ruleset) (tables : List Table) (name : List ℕ) (items : List ConfigLine) → AreSoundStatements items →
    AllByRecursion (λ rule. IsSoundAction (length tables) rule.action) (all_of (line_rule list tables name) items)
sound_actions list tables name [] sound = tt
sound_actions list tables name (item ∷ rest) sound =
    rules_more (line_rule list tables name item.line item.statement) (length tables) item.line (all_of (line_rule list tables name) rest)
    (some_rule list tables name item.line item.statement sound.0) (sound_actions list tables name rest sound.1)

above_more : (o : Option Rule) (n tables at : ℕ) (rest : List Rule) → IfSome o (IsRuleOf tables at) → n < at → AllByRecursion (λ rule. n < rule.line) rest →
    AllByRecursion (λ rule. n < rule.line) (cons_option o rest)
above_more None n tables at rest is less all = all
above_more (Some rule) n tables at rest is less all = (subst (λ m. n < m) (sym is.1) less, all)

rules_above : (n : ℕ) (list : Ruleset) (tables : List Table) (name : List ℕ) (items : List ConfigLine) → AreSoundStatements items → AreAbove n items →
    AllByRecursion (λ rule. n < rule.line) (all_of (line_rule list tables name) items)
rules_above n list tables name [] sound above = tt
rules_above n list tables name (item ∷ rest) sound above =
    above_more (line_rule list tables name item.line item.statement) n (length tables) item.line (all_of (line_rule list tables name) rest)
    (some_rule list tables name item.line item.statement sound.0) above.0 (rules_above n list tables name rest sound.1 above.1)

rise_more : (o : Option Rule) (tables at : ℕ) (rest : List Rule) → IfSome o (IsRuleOf tables at) → AllByRecursion (λ rule. at < rule.line) rest → RulesRise rest → RulesRise (cons_option o rest)
rise_more None tables at rest is above rise = rise
rise_more (Some rule) tables at rest is above rise = (subst (λ m. AllByRecursion (λ (other : Rule). m < other.line) rest) (sym is.1) above, rise)

rules_rise : (list : Ruleset) (tables : List Table) (name : List ℕ) (items : List ConfigLine) → AreSoundStatements items → Rises items → RulesRise (all_of (line_rule list tables name) items)
rules_rise list tables name [] sound rises = tt
rules_rise list tables name (item ∷ rest) sound rises =
    rise_more (line_rule list tables name item.line item.statement) (length tables) item.line (all_of (line_rule list tables name) rest)
    (some_rule list tables name item.line item.statement sound.0) (rules_above item.line list tables name rest sound.1 rises.0) (rules_rise list tables name rest sound.1 rises.1)

sound_rules : (list : Ruleset) (tables : List Table) (name : List ℕ) (items : List ConfigLine) → AreSoundStatements items → Rises items →
    AreSoundRules (length tables) (all_of (line_rule list tables name) items)
sound_rules list tables name items sound rises = record { actions = sound_actions list tables name items sound; rise = rules_rise list tables name items sound rises }

-- Choices.

abbrev IsChoiceOf : ℕ → ℕ → Choice → Type 0
IsChoiceOf backends at choice = (choice.backend < backends) × (choice.line ≡ at)

some_choice : (backends : List Backend) (at : ℕ) (s : Statement) → IfSome (line_choice backends at s) (IsChoiceOf (length backends) at)
some_choice backends at (statements.UseBackend called when) = by (backend_number backends called) (within (λ (backend : Backend). bytes_eq backend.name called) backends)
  where
    by : (o : Option ℕ) → IfSome o (λ n. n < length backends) → IfSome (option_map (choice_with at when) o) (IsChoiceOf (length backends) at)
    by None less = tt
    by (Some n) less = (less, refl)
some_choice backends at statement = tt

choices_within : (backends : List Backend) (items : List ConfigLine) → AllByRecursion (λ choice. choice.backend < length backends) (all_of (line_choice backends) items)
choices_within backends [] = tt
choices_within backends (item ∷ rest) = by (line_choice backends item.line item.statement) (some_choice backends item.line item.statement) (choices_within backends rest)
  where
    by : (o : Option Choice) → IfSome o (IsChoiceOf (length backends) item.line) → AllByRecursion (λ choice. choice.backend < length backends) (all_of (line_choice backends) rest) →
        AllByRecursion (λ choice. choice.backend < length backends) (cons_option o (all_of (line_choice backends) rest))
    by None is later = later
    by (Some choice) is later = (is.0, later)

choices_above : (n : ℕ) (backends : List Backend) (items : List ConfigLine) → AreAbove n items → AllByRecursion (λ choice. n < choice.line) (all_of (line_choice backends) items)
choices_above n backends [] above = tt
choices_above n backends (item ∷ rest) above = by (line_choice backends item.line item.statement) (some_choice backends item.line item.statement) (choices_above n backends rest above.1)
  where
    by : (o : Option Choice) → IfSome o (IsChoiceOf (length backends) item.line) → AllByRecursion (λ choice. n < choice.line) (all_of (line_choice backends) rest) →
        AllByRecursion (λ choice. n < choice.line) (cons_option o (all_of (line_choice backends) rest))
    by None is later = later
    by (Some choice) is later = (subst (λ m. n < m) (sym is.1) above.0, later)

choices_rise : (backends : List Backend) (items : List ConfigLine) → Rises items → ChoicesRise (all_of (line_choice backends) items)
choices_rise backends [] rises = tt
choices_rise backends (item ∷ rest) rises =
    by (line_choice backends item.line item.statement) (some_choice backends item.line item.statement) (choices_above item.line backends rest rises.0) (choices_rise backends rest rises.1)
  where
    by : (o : Option Choice) → IfSome o (IsChoiceOf (length backends) item.line) → AllByRecursion (λ choice. item.line < choice.line) (all_of (line_choice backends) rest) →
        ChoicesRise (all_of (line_choice backends) rest) → ChoicesRise (cons_option o (all_of (line_choice backends) rest))
    by None is above later = later
    by (Some choice) is above later = (subst (λ m. AllByRecursion (λ (other : Choice). m < other.line) (all_of (line_choice backends) rest)) (sym is.1) above, later)

-- The lines of each section.

own_sound : (items : List ConfigLine) → AreSoundStatements items → AreSoundStatements (own_lines items)
own_sound [] sound = tt
own_sound (item ∷ rest) sound = subst (λ xs. AreSoundStatements xs) (sym (own_more item rest)) (by (opens item.statement) (own_sound rest sound.1))
  where
    by : (b : Bool) → AreSoundStatements (own_lines rest) → AreSoundStatements (if b then [] else item ∷ own_lines rest)
    by true later = tt
    by false later = (sound.0, later)

own_rises : (items : List ConfigLine) → Rises items → Rises (own_lines items)
own_rises [] rises = tt
own_rises (item ∷ rest) rises = subst (λ xs. Rises xs) (sym (own_more item rest)) (by (opens item.statement) (own_rises rest rises.1))
  where
    by : (b : Bool) → Rises (own_lines rest) → Rises (if b then [] else item ∷ own_lines rest)
    by true later = tt
    by false later = (own_above item.line rest rises.0, later)

base_sound : (s : Statement) (base own : List ConfigLine) → AreSoundStatements base → AreSoundStatements own → AreSoundStatements (base_after base own s)
base_sound statements.Defaults base own sound more = more
base_sound statement base own sound more = sound

record IsSoundProxy (proxy : Proxy) : Type 0 where
  rises : Rises proxy.own
  own : AreSoundStatements proxy.own
  base : AreSoundStatements proxy.base
  section : IsSoundSection proxy.own

one_proxy : (s : Statement) (at : ℕ) (base own : List ConfigLine) (rest : List Proxy) → Rises own → AreSoundStatements own → AreSoundStatements base → IsSoundSection own → AllByRecursion IsSoundProxy rest →
    AllByRecursion IsSoundProxy (option_to_list (option_map (proxy_with base own) (line_head at s)) ++ rest)
one_proxy (statements.Frontend name) at base own rest rises sound more section all = (record { rises = rises; own = sound; base = more; section = section }, all)
one_proxy (statements.Backend name) at base own rest rises sound more section all = (record { rises = rises; own = sound; base = more; section = section }, all)
one_proxy statement at base own rest rises sound more section all = all

all_proxies : (base items : List ConfigLine) → AreSoundStatements base → AreSoundStatements items → Rises items → AreSoundSections items → AllByRecursion IsSoundProxy (proxies base items)
all_proxies base [] more sound rises sections = tt
all_proxies base (item ∷ rest) more sound rises sections =
    one_proxy item.statement item.line base (own_lines rest) (proxies (base_after base (own_lines rest) item.statement) rest) (own_rises rest rises.1) (own_sound rest sound.1) more sections.0
    (all_proxies (base_after base (own_lines rest) item.statement) rest (base_sound item.statement base (own_lines rest) more (own_sound rest sound.1)) sound.1 rises.1 sections.1)

-- Numbers of a line.

or_some : {X : Type 0} (P : X → Type 0) (a b : Option X) → IfSome a P → IfSome b P → IfSome (option_or a b) P
or_some P None b one other = other
or_some P (Some x) b one other = one

-- what is said last is sound where each line is
last_sound : {X : Type 0} (read : ℕ → Statement → Option X) (P : X → Type 0) → ((at : ℕ) (s : Statement) → IsSoundStatement s → IfSome (read at s) P) → (items : List ConfigLine) → AreSoundStatements items →
    IfSome (last_of read items) P
last_sound read P each [] sound = tt
last_sound read P each (item ∷ rest) sound = or_some P (last_of read rest) (read item.line item.statement) (last_sound read P each rest sound.1) (each item.line item.statement sound.0)

some_limit : (at : ℕ) (s : Statement) → IsSoundStatement s → IfSome (line_limit at s) (λ limit. IsWithin MOST_CONNECTIONS limit.limit)
some_limit at (statements.MaxConn limit) sound = sound
some_limit at statement sound = tt

last_limit : (items : List ConfigLine) → AreSoundStatements items → IfSome (last_of line_limit items) (λ limit. IsWithin MOST_CONNECTIONS limit.limit)
last_limit = last_sound line_limit (λ limit. IsWithin MOST_CONNECTIONS limit.limit) some_limit

sound_limit : (proxy : Proxy) → IsSoundProxy proxy → IsWithin MOST_CONNECTIONS (limit_in proxy).limit
sound_limit proxy sound =
    by (setting_in line_limit proxy)
    (or_some (λ limit. IsWithin MOST_CONNECTIONS limit.limit) (last_of line_limit proxy.own) (last_of line_limit proxy.base) (last_limit proxy.own sound.own) (last_limit proxy.base sound.base))
  where
    by : (o : Option Limit) → IfSome o (λ limit. IsWithin MOST_CONNECTIONS limit.limit) → IsWithin MOST_CONNECTIONS (unwrap_or o (record { limit = 2000; line = proxy.head.line })).limit
    by None is = (omega arith, omega arith)
    by (Some limit) is = is

some_words : (at : ℕ) (s : Statement) → IsSoundStatement s → IfSome (line_table at s) (λ words. IsWithin MOST_ENTRIES words.size)
some_words at (statements.StickTable table) sound = sound
some_words at statement sound = tt

last_words : (items : List ConfigLine) → AreSoundStatements items → IfSome (last_of line_table items) (λ words. IsWithin MOST_ENTRIES words.size)
last_words = last_sound line_table (λ words. IsWithin MOST_ENTRIES words.size) some_words

sound_tables : (all : List Proxy) → AllByRecursion IsSoundProxy all → AllByRecursion IsSoundTable (tables_in all)
sound_tables [] sound = tt
sound_tables (proxy ∷ rest) sound = by (last_of line_table proxy.own) (last_words proxy.own sound.0.own) (sound_tables rest sound.1)
  where
    by : (o : Option TableWords) → IfSome o (λ words. IsWithin MOST_ENTRIES words.size) → AllByRecursion IsSoundTable (tables_in rest) →
        AllByRecursion IsSoundTable (cons_option (option_map (table_with proxy.head) o) (tables_in rest))
    by None is later = later
    by (Some words) is later = (is, later)

weight_sound : (weight : Option ℕ) → IfSome weight (λ w. w ≤ GREATEST_WEIGHT) → unwrap_or weight 1 ≤ GREATEST_WEIGHT
weight_sound None is = omega arith
weight_sound (Some w) is = is

limit_sound : (limit : Option ℕ) → IfSome limit (λ l. l ≤ MOST_CONNECTIONS) → unwrap_or limit 0 ≤ MOST_CONNECTIONS
limit_sound None is = omega arith
limit_sound (Some l) is = is

interval_sound : (inter : Option ℕ) → IsSoundInterval inter → 1 ≤ unwrap_or inter DEFAULT_INTERVAL
interval_sound None sound = omega arith
interval_sound (Some ms) sound = sound.0

fall_sound : (fall : Option ℕ) → AreSoundChecks fall → 1 ≤ unwrap_or fall DEFAULT_FALL
fall_sound None sound = omega arith
fall_sound (Some count) sound = sound.0

rise_sound : (rise : Option ℕ) → AreSoundChecks rise → 1 ≤ unwrap_or rise DEFAULT_RISE
rise_sound None sound = omega arith
rise_sound (Some count) sound = sound.0

check_sound : (server : ServerWords) → IsSoundInterval server.inter → AreSoundChecks server.fall → AreSoundChecks server.rise → IfSome (check_with server) IsSoundCheck
check_sound server inter fall rise = by server.check
  where
    says : Check
    says = record { inter = unwrap_or server.inter DEFAULT_INTERVAL; fall = unwrap_or server.fall DEFAULT_FALL; rise = unwrap_or server.rise DEFAULT_RISE }

    by : (checked : Bool) → IfSome (if checked then Some says else None) IsSoundCheck
    by true = record { inter = interval_sound server.inter inter; fall = fall_sound server.fall fall; rise = rise_sound server.rise rise }
    by false = tt

some_server : (at : ℕ) (s : Statement) → IsSoundStatement s → IfSome (line_server at s) IsSoundServer
some_server at (statements.Server server) sound = record {
  weight = weight_sound server.weight sound.0;
  limit = limit_sound server.limit sound.1;
  check = check_sound server sound.2 sound.3 sound.4;
}
some_server at statement sound = tt

sound_servers : (items : List ConfigLine) → AreSoundStatements items → AllByRecursion IsSoundServer (all_of line_server items)
sound_servers [] sound = tt
sound_servers (item ∷ rest) sound = by (line_server item.line item.statement) (some_server item.line item.statement sound.0) (sound_servers rest sound.1)
  where
    by : (o : Option Server) → IfSome o IsSoundServer → AllByRecursion IsSoundServer (all_of line_server rest) → AllByRecursion IsSoundServer (cons_option o (all_of line_server rest))
    by None is later = later
    by (Some server) is later = (is, later)

-- Sections.

sound_frontend : (tables : List Table) (backends : List Backend) (proxy : Proxy) → IsSoundProxy proxy → 1 ≤ length (all_of line_bind proxy.own) →
    IsSoundFrontend (length tables) (length backends) (frontend_of tables backends proxy)
sound_frontend tables backends proxy sound bind = record {
  binds = (bind, few_binds proxy.own sound.section);
  limit = sound_limit proxy sound;
  connection_rules = sound_rules Connection tables proxy.head.name proxy.own sound.own sound.rises;
  session_rules = sound_rules Session tables proxy.head.name proxy.own sound.own sound.rises;
  choices = record { within = choices_within backends proxy.own; rise = choices_rise backends proxy.own sound.rises };
  default = some_default backends (setting_in line_default proxy);
}

sound_frontends : (tables : List Table) (backends : List Backend) (all : List Proxy) → AllByRecursion IsSoundProxy all → AllByRecursion HasBind all →
    AllByRecursion (IsSoundFrontend (length tables) (length backends)) (map (frontend_of tables backends) (frontends all))
sound_frontends tables backends [] sound binds = tt
sound_frontends tables backends (proxy ∷ rest) sound binds = by (is_frontend proxy) refl (sound_frontends tables backends rest sound.1 binds.1)
  where
    by : (b : Bool) → is_frontend proxy ≡ b → AllByRecursion (IsSoundFrontend (length tables) (length backends)) (map (frontend_of tables backends) (frontends rest)) →
        AllByRecursion (IsSoundFrontend (length tables) (length backends)) (map (frontend_of tables backends) (if b then proxy ∷ frontends rest else frontends rest))
    by true is later = (sound_frontend tables backends proxy sound.0 (binds.0 is), later)
    by false is later = later

sound_backends : (all : List Proxy) → AllByRecursion IsSoundProxy all → AllByRecursion IsSoundBackend (backends_in all)
sound_backends [] sound = tt
sound_backends (proxy ∷ rest) sound = by (is_backend proxy) (sound_backends rest sound.1)
  where
    by : (b : Bool) → AllByRecursion IsSoundBackend (backends_in rest) → AllByRecursion IsSoundBackend (map backend_of (if b then proxy ∷ backends rest else backends rest))
    by true later = (record { servers = few_servers proxy.own sound.0.section; each_server = sound_servers proxy.own sound.0.own; server_names = server_names_differ proxy.own sound.0.section.names }, later)
    by false later = later

pub sound_plan : (items : List ConfigLine) (plan : Plan) (tables : List Table) (backends : List Backend) (all : List Proxy) → IsSoundTree items → plan_faults items ≡ [] → all ≡ proxies [] items →
    tables ≡ plan.tables → backends ≡ plan.backends → plan.tables ≡ tables_in all → plan.backends ≡ backends_in all → plan.frontends ≡ map (frontend_of tables backends) (frontends all) →
    length plan.frontends ≤ MOST_SECTIONS → length plan.backends ≤ MOST_SECTIONS → length plan.tables ≤ MOST_TABLES → IsSoundPlan plan
sound_plan items plan tables backends all tree faultless of_items of_tables of_backends all_tables all_backends of_frontends few_frontends few_backends few_tables =
    let sound : AllByRecursion IsSoundProxy (proxies [] items) = all_proxies [] items tt tree.statements tree.rises tree.sections in
    record {
      frontends = few_frontends;
      backends = few_backends;
      tables = few_tables;
      each_frontend = rw (of_frontends, of_items, of_tables, of_backends) (sound_frontends plan.tables plan.backends (proxies [] items) sound (each_has_bind items faultless));
      each_backend = rw (all_backends, of_items) (sound_backends (proxies [] items) sound);
      each_table = rw (all_tables, of_items) (sound_tables (proxies [] items) sound);
      frontend_names = rw (of_frontends, of_items) (frontend_names_differ tables backends items tree.claims);
      backend_names = rw (all_backends, of_items) (backend_names_differ items tree.claims);
      lines = lines_differ items plan tree.rises (all_backends ∙ ap backends_in of_items);
    }
