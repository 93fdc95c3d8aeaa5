-- How many `bind` lines a frontend has, and how many servers a backend.
use Rattle.std.proofs.Common.{◌≡◌, ℕ, suc, ◌≤◌, Bool, true, false, List, [], ◌∷◌, ◌++◌, length, filter, Option, Some, None, refl, sym, ap, ◌∙◌, if◌then◌else◌}
use native.Mathlib.Omega.{arith}
use Rattle.std.specs.Prelude.{is_some, flat_map}
use Rattle.std.specs.List.{AllByRecursion, cons_option, list_any}
use Rattle.std.specs.Option.{option_or}
use Rattle.conf_line.specs.declared.statement.Statement.{Statement}
use Rattle.conf_line.specs.declared.statement.Statement.TheVariants as statements
use Rattle.conf_tree.specs.declared.tree.ConfigLine.{ConfigLine}
use Rattle.conf_tree.specs.Config.{is_bind, is_server}
use Rattle.conf_tree.specs.Sound.{IsSoundSection}
use Rattle.plan_types.specs.declared.plan.Backend.{Backend}
use Rattle.plan_types.specs.declared.plan.Table.{Table}
use Rattle.proxy_types.specs.declared.limits.TheConstants.{MOST_BINDS, MOST_SERVERS}
use Rattle.plan_core.specs.declared.fault.PlanFault.{PlanFault}
use Rattle.plan_core.specs.declared.fault.PlanKind.TheVariants.{NoBind}
use Rattle.plan_core.specs.declared.proxies.Proxy.{Proxy}
use Rattle.plan_core.specs.Compiled.{backends_in, plan_faults}
use Rattle.plan_core.specs.Faults.{bind_faults, default_faults, own_faults, frontend_faults, faults_in, no_frontend}
use Rattle.plan_core.specs.Fields.{line_bind, line_server, line_default, all_of, last_of, setting_in, tables_in}
use Rattle.plan_core.specs.Proxies.{is_frontend, proxies}

-- Without a fault there is one at least.

neither : {X : Type 0} (xs ys : List X) → xs ++ ys ≡ [] → (xs ≡ []) × (ys ≡ [])
neither [] ys none = (refl, none)
neither (x ∷ xs) ys none = absurd cc

none_of_each : {X Y : Type 0} (f : X → List Y) (xs : List X) → flat_map f xs ≡ [] → AllByRecursion (λ x. f x ≡ []) xs
none_of_each f [] none = tt
none_of_each f (x ∷ xs) none = let parts = neither (f x) (flat_map f xs) none in (parts.0, none_of_each f xs parts.1)

or_none : {X : Type 0} (o : Option X) → option_or o None ≡ o
or_none None = refl
or_none (Some x) = refl

-- where there is a last one, there is one
one_at_least : {X : Type 0} (setting : ℕ → Statement → Option X) (items : List ConfigLine) → is_some (last_of setting items) ≡ true → 1 ≤ length (all_of setting items)
one_at_least setting [] has = absurd cc
one_at_least {X} setting (item ∷ rest) has = by (setting item.line item.statement) has (λ later. one_at_least setting rest later)
  where
    by : (o : Option X) → is_some (option_or (last_of setting rest) o) ≡ true → (is_some (last_of setting rest) ≡ true → 1 ≤ length (all_of setting rest)) →
        1 ≤ length (cons_option o (all_of setting rest))
    by None has later = later (ap (λ o. is_some o) (sym (or_none (last_of setting rest))) ∙ has)
    by (Some x) has later = omega arith

-- a frontend has a `bind` line
abbrev pub HasBind : Proxy → Type 0
HasBind proxy = is_frontend proxy ≡ true → 1 ≤ length (all_of line_bind proxy.own)

has_bind : (tables : List Table) (backends : List Backend) (all : List Proxy) (proxy : Proxy) → faults_in tables backends all proxy ≡ [] → HasBind proxy
has_bind tables backends all proxy none is =
    let of_frontend : frontend_faults tables backends all proxy ≡ [] = rw is at none in
    let of_default = default_faults backends (setting_in line_default proxy) in
    let of_head = neither (bind_faults proxy ++ of_default) (own_faults tables backends all proxy.head.name proxy.own) of_frontend in
    let of_binds = neither (bind_faults proxy) of_default of_head.0 in
    one_at_least line_bind proxy.own (by (is_some (last_of line_bind proxy.own)) (record { line = proxy.head.line; kind = NoBind }) of_binds.0)
  where
    by : (b : Bool) (fault : PlanFault) → (if b then [] else fault ∷ []) ≡ [] → b ≡ true
    by true fault none = refl
    by false fault none = absurd cc

have_binds : (tables : List Table) (backends : List Backend) (all some : List Proxy) → AllByRecursion (λ proxy. faults_in tables backends all proxy ≡ []) some → AllByRecursion HasBind some
have_binds tables backends all [] none = tt
have_binds tables backends all (proxy ∷ rest) none = (has_bind tables backends all proxy none.0, have_binds tables backends all rest none.1)

pub each_has_bind : (items : List ConfigLine) → plan_faults items ≡ [] → AllByRecursion HasBind (proxies [] items)
each_has_bind items none = have_binds tables backends all all (none_of_each (faults_in tables backends all) all (by (list_any is_frontend all) none))
  where
    all : List Proxy
    all = proxies [] items

    tables : List Table
    tables = tables_in all

    backends : List Backend
    backends = backends_in all

    by : (b : Bool) → (if b then flat_map (faults_in tables backends all) all else no_frontend ∷ []) ≡ [] → flat_map (faults_in tables backends all) all ≡ []
    by true none = none
    by false none = absurd cc

-- There are not more than lines that say so.

as_many : {X : Type 0} (setting : ℕ → Statement → Option X) (test : Statement → Bool) → ((at : ℕ) (s : Statement) → is_some (setting at s) ≡ test s) → (items : List ConfigLine) →
    length (all_of setting items) ≡ length (filter (λ item. test item.statement) items)
as_many setting test same [] = refl
as_many {X} setting test same (item ∷ rest) = by (setting item.line item.statement) (test item.statement) (same item.line item.statement) (as_many setting test same rest)
  where
    those : List ConfigLine
    those = filter (λ (item : ConfigLine). test item.statement) rest

    by : (o : Option X) (b : Bool) → is_some o ≡ b → length (all_of setting rest) ≡ length those → length (cons_option o (all_of setting rest)) ≡ length (if b then item ∷ those else those)
    by None true is later = absurd cc
    by None false is later = later
    by (Some x) true is later = ap (λ n. suc n) later
    by (Some x) false is later = absurd cc

is_one_bind : (at : ℕ) (s : Statement) → is_some (line_bind at s) ≡ is_bind s
is_one_bind at statements.Nothing = refl
is_one_bind at statement = refl

is_one_server : (at : ℕ) (s : Statement) → is_some (line_server at s) ≡ is_server s
is_one_server at statements.Nothing = refl
is_one_server at statement = refl

pub few_binds : (own : List ConfigLine) → IsSoundSection own → length (all_of line_bind own) ≤ MOST_BINDS
few_binds own sound = rw (as_many line_bind is_bind is_one_bind own) sound.binds

pub few_servers : (own : List ConfigLine) → IsSoundSection own → length (all_of line_server own) ≤ MOST_SERVERS
few_servers own sound = rw (as_many line_server is_server is_one_server own) sound.servers
