-- The lines of each plan that a text means name backends that it has.
use Rattle.std.specs.Prelude.{ℕ, Bool, List, [], ◌∷◌, length, position, Option, Some, None, option_map, Result, Ok, Err, IfSome, refl, ◌<◌, ◌≡◌, ◌==◌}
use Rattle.std.specs.List.{cons_option, AllByRecursion}
use Rattle.std.specs.Str.{bytes_eq}
use Rattle.std.proofs.Common.{ap, ◌∙◌, subst}
use Rattle.conf_line.specs.declared.fault.ConfFault.{ConfFault}
use Rattle.conf_line.specs.declared.statement.Statement.{Statement}
use Rattle.conf_line.specs.declared.statement.Statement.TheVariants as statements
use Rattle.conf_tree.specs.declared.tree.ConfigLine.{ConfigLine}
use Rattle.conf_tree.specs.Config.{items_of}
use Rattle.plan_types.specs.declared.plan.Backend.{Backend}
use Rattle.plan_types.specs.declared.plan.Choice.{Choice}
use Rattle.plan_types.specs.declared.plan.Frontend.{Frontend}
use Rattle.plan_types.specs.declared.plan.Plan.{Plan}
use Rattle.plan_types.specs.declared.plan.Table.{Table}
use Rattle.plan_core.specs.declared.fault.PlanFault.{PlanFault}
use Rattle.plan_core.specs.declared.fields.Named.{Named}
use Rattle.plan_core.specs.declared.proxies.Proxy.{Proxy}
use Rattle.plan_core.specs.Compiled.{backends_in, default_number, frontend_of, plan_faults, plan_or, plan_with as plan_made}
use Rattle.plan_core.specs.Faults.{least}
use Rattle.plan_core.specs.Fields.{all_of, backend_number, choice_with, line_choice, line_default, setting_in, tables_in}
use Rattle.plan_core.specs.Proxies.{frontends, proxies}
use Rattle.config_core.specs.Meaning.{meaning, meant, opened}
use Rattle.config_core.specs.declared.fault.OpenFault.{OpenFault}
use Rattle.conn_model.specs.declared.event.ConnId.{ConnId}
use Rattle.conn_model.specs.declared.event.OwnedEvent.{OwnedEvent}
use Rattle.conn_model.specs.declared.event.OwnedEvent.TheVariants.{Reload}
use Rattle.conn_model.specs.declared.plain.Plain.{Plain}
use Rattle.conn_model.specs.History.{after, number_said, opening, plan_in, plan_with, Entry, IsLegal, IsWell}
use Rattle.conn_model.proofs.Goes.{whole_in_parts}
use Rattle.conn_model.proofs.Lists.{all-each, all-found, all-map, position_within}
use Rattle.conn_model.proofs.TableSteps.{newest-all}
use Rattle.conn_model.proofs.VersionSteps.{plans_stay}
use Rattle.conn_model.proofs.Well.{opening_well, well_after}
use Rattle.conn_laws.specs.Deciding.{Arrival, Waiter}
use Rattle.conn_model.proofs.Reloads.{with_plan}

-- the lines of a frontend name none but so many backends
pub record NamesBackends (backends : ℕ) (frontend : Frontend) : Type 0 where
  pub choices : AllByRecursion (λ choice. choice.backend < backends) frontend.choices
  pub default : IfSome frontend.default (λ number. number < backends)

abbrev pub NamesOwn : Plan → Type 0
NamesOwn plan = AllByRecursion (NamesBackends (length plan.backends)) plan.frontends

-- A text.

within : {X : Type 0} (test : X → Bool) (xs : List X) → IfSome (position test xs) (λ n. n < length xs)
within test xs = by (position test xs) refl
  where
    by : (o : Option ℕ) → position test xs ≡ o → IfSome o (λ n. n < length xs)
    by None is = tt
    by (Some n) is = position_within test xs n is

some_choice : (backends : List Backend) (line : ℕ) (s : Statement) → IfSome (line_choice backends line s) (λ choice. choice.backend < length backends)
some_choice backends line (statements.UseBackend name when) = by (backend_number backends name) (within (λ (backend : Backend). bytes_eq backend.name name) backends)
  where
    by : (o : Option ℕ) → IfSome o (λ n. n < length backends) → IfSome (option_map (choice_with line when) o) (λ choice. choice.backend < length backends)
    by None less = tt
    by (Some n) less = less
some_choice backends line statement = tt

choices_within : (backends : List Backend) (items : List ConfigLine) → AllByRecursion (λ choice. choice.backend < length backends) (all_of (line_choice backends) items)
choices_within backends [] = tt
choices_within backends (item ∷ rest) = by (line_choice backends item.line item.statement) (some_choice backends item.line item.statement) (choices_within backends rest)
  where
    by : (o : Option Choice) → IfSome o (λ choice. choice.backend < length backends) → AllByRecursion (λ choice. choice.backend < length backends) (all_of (line_choice backends) rest) →
        AllByRecursion (λ choice. choice.backend < length backends) (cons_option o (all_of (line_choice backends) rest))
    by None less later = later
    by (Some choice) less later = (less, later)

some_default : (backends : List Backend) (setting : Option Named) → IfSome (default_number backends setting) (λ n. n < length backends)
some_default backends None = tt
some_default backends (Some named) = within (λ (backend : Backend). bytes_eq backend.name named.name) backends

frontend_names : (tables : List Table) (backends : List Backend) (proxy : Proxy) → NamesBackends (length backends) (frontend_of tables backends proxy)
frontend_names tables backends proxy = record { choices = choices_within backends proxy.own; default = some_default backends (setting_in line_default proxy) }

plan_names : (all : List Proxy) → NamesOwn (plan_made all)
plan_names all =
    all-map (NamesBackends (length (backends_in all))) (frontend_of (tables_in all) (backends_in all)) (frontends all)
    (all-each (λ proxy. NamesBackends (length (backends_in all)) (frontend_of (tables_in all) (backends_in all) proxy)) (frontends all) (frontend_names (tables_in all) (backends_in all)))

pub text_names : (text : List ℕ) (plan : Plan) → meaning text ≡ Ok plan → NamesOwn plan
text_names text plan is = by (items_of text) refl is
  where
    planned : (items : List ConfigLine) (o : Option PlanFault) → opened (plan_or (proxies [] items) o) ≡ Ok plan → NamesOwn plan
    planned items None made = let same : plan_made (proxies [] items) ≡ plan = cc in subst NamesOwn same (plan_names (proxies [] items))
    planned items (Some fault) made = absurd (let wrong : opened (Err fault) ≡ Ok plan = made in cc)

    by : (r : Result (List ConfigLine) ConfFault) → items_of text ≡ r → meant r ≡ Ok plan → NamesOwn plan
    by (Err fault) e made = absurd (let wrong : meant (Err fault) ≡ Ok plan = made in cc)
    by (Ok items) e made = planned items (least (plan_faults items)) made

-- A history.

-- the plan that an event brings is the one that its text means
brought_names : (event : OwnedEvent) (plan : Plan) → plan_with event ≡ Some plan → NamesOwn plan
brought_names (Reload text) plan is = by (meaning text) refl is
  where
    by : (r : Result Plan OpenFault) → meaning text ≡ r → plan_in r ≡ Some plan → NamesOwn plan
    by (Err fault) meant_is now = absurd (let wrong : None ≡ Some plan = now in cc)
    by (Ok other) meant_is now = let same : other ≡ plan = cc in text_names text plan (meant_is ∙ ap Ok same)
brought_names event plan is = absurd (let wrong : None ≡ Some plan = is in cc)

names_stay : (plan : Plan) (last : ℕ) (h : List Entry) → NamesOwn plan → IsLegal (opening plan last) h → AllByRecursion (λ version. NamesOwn version.plan) (after (opening plan last) h).versions
names_stay plan last [] names legal = (names, tt)
names_stay plan last (e ∷ h) names legal =
    let p : Plain = opening plan last in
    let well : IsWell p = opening_well plan last in
    subst (λ s. AllByRecursion (λ version. NamesOwn version.plan) s.versions) (whole_in_parts p well (e ∷ []) h legal)
    (plans_stay NamesOwn (after p h) (well_after p well h legal.0) e (names_stay plan last h names legal.0)
    (λ n brought brings. brought_names e.event brought (with_plan e.event (number_said e.reply.said) n brought brings)))

-- the frontend of a client that comes, and of a connection that waits

pub arrival_names : (text : List ℕ) (plan : Plan) (last : ℕ) (h : List Entry) → meaning text ≡ Ok plan → IsLegal (opening plan last) h → (listener : ℕ) (arrival : Arrival (after (opening plan last) h) listener) →
    NamesBackends (length arrival.version.plan.backends) arrival.frontend
arrival_names text plan last h is legal listener arrival =
    let names : NamesOwn arrival.version.plan =
    newest-all (λ version. NamesOwn version.plan) (after (opening plan last) h).versions arrival.version (names_stay plan last h (text_names text plan is) legal) arrival.in_force in
    (all-found (NamesBackends (length arrival.version.plan.backends)) (λ frontend. bytes_eq frontend.name arrival.own.name) arrival.version.plan.frontends arrival.frontend names arrival.found).0

pub waiter_names : (text : List ℕ) (plan : Plan) (last : ℕ) (h : List Entry) → meaning text ≡ Ok plan → IsLegal (opening plan last) h → (id : ConnId) (waiter : Waiter (after (opening plan last) h) id) →
    NamesBackends (length waiter.version.plan.backends) waiter.frontend
waiter_names text plan last h is legal id waiter =
    let names : NamesOwn waiter.version.plan =
    (all-found (λ version. NamesOwn version.plan) (λ version. version.number == waiter.row.version) (after (opening plan last) h).versions waiter.version (names_stay plan last h (text_names text plan is) legal) waiter.of_accept).0 in
    (all-found (NamesBackends (length waiter.version.plan.backends)) (λ frontend. bytes_eq frontend.name waiter.own.name) waiter.version.plan.frontends waiter.frontend names waiter.found).0
