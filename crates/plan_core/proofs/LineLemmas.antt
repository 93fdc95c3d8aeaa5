-- The frontends and backends of a configuration come one after the other.
use Rattle.std.proofs.Common.{◌≡◌, ℕ, zero, suc, ◌+◌, ◌<◌, ◌≤◌, Bool, true, false, eqb, List, [], ◌∷◌, ◌++◌, length, filter, Some, refl, sym, ap, subst, ◌∙◌, if◌then◌else◌}
use native.Mathlib.Omega.{arith}
use Rattle.std.specs.Prelude.{slice_get, ◌==◌, option_map, option_to_list}
use Rattle.std.specs.List.{AllByRecursion, cons_option, list_any}
use Rattle.std.proofs.lemmas.Bool.Decides.{nat_tests}
use Rattle.conf_tree.specs.declared.claim.Claim.{Claim}
use Rattle.conf_tree.specs.declared.tree.ConfigLine.{ConfigLine}
use Rattle.conf_tree.specs.declared.tree.SectionPlace.{SectionPlace}
use Rattle.conf_line.specs.declared.statement.Statement.{Statement}
use Rattle.conf_line.specs.declared.statement.Statement.TheVariants as statements
use Rattle.conf_tree.specs.Config as config
use Rattle.conf_tree.specs.Few.{FewSections}
use Rattle.conf_tree.specs.Rising.{AreAbove, Rises}
use Rattle.conf_tree.specs.Sections.{opens, own_lines}
use Rattle.conf_tree.proofs.SectionLemmas.{own_more}
use Rattle.plan_types.specs.declared.plan.Backend.{Backend}
use Rattle.plan_types.specs.declared.plan.Plan.{Plan}
use Rattle.plan_types.specs.declared.plan.Section.{Section}
use Rattle.plan_types.specs.declared.plan.Section.TheVariants as sections
use Rattle.plan_types.specs.declared.plan.Server.{Server}
use Rattle.plan_core.specs.declared.proxies.Proxy.{Proxy}
use Rattle.plan_core.specs.Compiled.{backend_of, backends_in}
use Rattle.plan_core.specs.Fields.{line_server, all_of}
use Rattle.plan_types.specs.Lines.{has_line, LinesDiffer}
use Rattle.plan_core.specs.Proxies.{line_head, base_after, proxy_with, proxies, is_frontend, is_backend, frontends, backends}

-- How many there are.

one_frontend : (setting : Statement) (line : ℕ) (place : SectionPlace) (base own : List ConfigLine) (rest : List Proxy) (claims : List Claim) → length (filter is_frontend rest) ≡ length (filter config.is_frontend claims) →
    length (filter is_frontend (option_to_list (option_map (proxy_with base own) (line_head line setting)) ++ rest)) ≡ length (filter config.is_frontend (cons_option (config.claim_of place setting) claims))
one_frontend (statements.Frontend name) line place base own rest claims same = ap (λ n. suc n) same
one_frontend statement line place base own rest claims same = same

one_backend : (setting : Statement) (line : ℕ) (place : SectionPlace) (base own : List ConfigLine) (rest : List Proxy) (claims : List Claim) → length (filter is_backend rest) ≡ length (filter config.is_backend claims) →
    length (filter is_backend (option_to_list (option_map (proxy_with base own) (line_head line setting)) ++ rest)) ≡ length (filter config.is_backend (cons_option (config.claim_of place setting) claims))
one_backend (statements.Backend name) line place base own rest claims same = ap (λ n. suc n) same
one_backend statement line place base own rest claims same = same

frontends_claimed : (base items : List ConfigLine) → length (frontends (proxies base items)) ≡ length (filter config.is_frontend (config.claims_of items))
frontends_claimed base [] = refl
frontends_claimed base (item ∷ rest) =
    one_frontend item.statement item.line item.place base (own_lines rest) (proxies (base_after base (own_lines rest) item.statement) rest) (config.claims_of rest)
    (frontends_claimed (base_after base (own_lines rest) item.statement) rest)

backends_claimed : (base items : List ConfigLine) → length (backends (proxies base items)) ≡ length (filter config.is_backend (config.claims_of items))
backends_claimed base [] = refl
backends_claimed base (item ∷ rest) =
    one_backend item.statement item.line item.place base (own_lines rest) (proxies (base_after base (own_lines rest) item.statement) rest) (config.claims_of rest)
    (backends_claimed (base_after base (own_lines rest) item.statement) rest)

pub few_frontends : (items : List ConfigLine) → FewSections items → length (frontends (proxies [] items)) ≤ 64
few_frontends items few = rw (frontends_claimed [] items) few.0

pub few_backends : (items : List ConfigLine) → FewSections items → length (backends (proxies [] items)) ≤ 64
few_backends items few = rw (backends_claimed [] items) few.1

both : (all : List Proxy) → length all ≡ length (frontends all) + length (backends all)
both [] = refl
both (proxy ∷ rest) = by proxy.head.section refl (both rest)
  where
    by : (section : Section) → proxy.head.section ≡ section → length rest ≡ length (frontends rest) + length (backends rest) →
        length (proxy ∷ rest) ≡ length (frontends (proxy ∷ rest)) + length (backends (proxy ∷ rest))
    by sections.Frontend is sum = rw is omega arith
    by sections.Backend is sum = rw is omega arith

pub few_proxies : (items : List ConfigLine) → FewSections items → length (proxies [] items) ≤ 128
few_proxies items few =
    let front : length (frontends (proxies [] items)) ≤ 64 = few_frontends items few in
    let back : length (backends (proxies [] items)) ≤ 64 = few_backends items few in
    let sum = both (proxies [] items) in
    omega arith

-- Their lines.

abbrev AreBehind : ℕ → List Proxy → Type 0
AreBehind line all = AllByRecursion (λ proxy. line < proxy.head.line) all

-- each section's lines are after its own head, and before the heads of those after it
abbrev Parted : List Proxy → Type 0
Parted [] = Unit {0}
Parted (proxy ∷ rest) =
    AllByRecursion (λ item. proxy.head.line < item.line) proxy.own × AllByRecursion (λ item. AreBehind item.line rest) proxy.own × Parted rest

one_behind : (setting : Statement) (n line : ℕ) (base own : List ConfigLine) (rest : List Proxy) → n < line → AreBehind n rest →
    AreBehind n (option_to_list (option_map (proxy_with base own) (line_head line setting)) ++ rest)
one_behind (statements.Frontend name) n line base own rest less behind = (less, behind)
one_behind (statements.Backend name) n line base own rest less behind = (less, behind)
one_behind statement n line base own rest less behind = behind

heads_behind : (n : ℕ) (base items : List ConfigLine) → AreAbove n items → AreBehind n (proxies base items)
heads_behind n base [] above = tt
heads_behind n base (item ∷ rest) above =
    one_behind item.statement n item.line base (own_lines rest) (proxies (base_after base (own_lines rest) item.statement) rest) above.0
    (heads_behind n (base_after base (own_lines rest) item.statement) rest above.1)

no_head : (setting : Statement) (line : ℕ) (base own : List ConfigLine) → opens setting ≡ false → option_to_list (option_map (proxy_with base own) (line_head line setting)) ≡ []
no_head statements.Global line base own is = absurd cc
no_head statements.Defaults line base own is = absurd cc
no_head (statements.Frontend name) line base own is = absurd cc
no_head (statements.Backend name) line base own is = absurd cc
no_head statement line base own is = refl

pub own_above : (n : ℕ) (items : List ConfigLine) → AreAbove n items → AllByRecursion (λ item. n < item.line) (own_lines items)
own_above n [] above = tt
own_above n (item ∷ rest) above = rw (own_more item rest) (by (opens item.statement) (own_above n rest above.1))
  where
    by : (b : Bool) → AllByRecursion (λ item. n < item.line) (own_lines rest) → AllByRecursion (λ item. n < item.line) (if b then [] else item ∷ own_lines rest)
    by true later = tt
    by false later = (above.0, later)

own_before : (base items : List ConfigLine) → Rises items → AllByRecursion (λ item. AreBehind item.line (proxies base items)) (own_lines items)
own_before base [] rises = tt
own_before base (item ∷ rest) rises = rw (own_more item rest) (by (opens item.statement) refl (own_before (base_after base (own_lines rest) item.statement) rest rises.1))
  where
    by : (b : Bool) → opens item.statement ≡ b → AllByRecursion (λ x. AreBehind x.line (proxies (base_after base (own_lines rest) item.statement) rest)) (own_lines rest) →
        AllByRecursion (λ x. AreBehind x.line (proxies base (item ∷ rest))) (if b then [] else item ∷ own_lines rest)
    by true is later = tt
    by false is later =
        let more = proxies (base_after base (own_lines rest) item.statement) rest in
        let same : proxies base (item ∷ rest) ≡ more = ap (λ head. head ++ more) (no_head item.statement item.line base (own_lines rest) is) in
        subst (λ all. AreBehind item.line all × AllByRecursion (λ x. AreBehind x.line all) (own_lines rest)) (sym same)
        (heads_behind item.line (base_after base (own_lines rest) item.statement) rest rises.0, later)

one_parted : (setting : Statement) (line : ℕ) (base own : List ConfigLine) (rest : List Proxy) → AllByRecursion (λ item. line < item.line) own → AllByRecursion (λ item. AreBehind item.line rest) own → Parted rest →
    Parted (option_to_list (option_map (proxy_with base own) (line_head line setting)) ++ rest)
one_parted (statements.Frontend name) line base own rest above before parted = (above, before, parted)
one_parted (statements.Backend name) line base own rest above before parted = (above, before, parted)
one_parted statement line base own rest above before parted = parted

parted : (base items : List ConfigLine) → Rises items → Parted (proxies base items)
parted base [] rises = tt
parted base (item ∷ rest) rises =
    one_parted item.statement item.line base (own_lines rest) (proxies (base_after base (own_lines rest) item.statement) rest)
    (own_above item.line rest rises.0) (own_before (base_after base (own_lines rest) item.statement) rest rises.1)
    (parted (base_after base (own_lines rest) item.statement) rest rises.1)

-- A server's line is one of its backend's.

eqb_same : (a b : ℕ) → eqb a b ≡ true → a ≡ b
eqb_same a b is = grind (arith, nat_tests)

one_line : (Q : ℕ → Type 0) (setting : Statement) (at line : ℕ) (rest : List Server) → list_any (λ server. server.line == line) (cons_option (line_server at setting) rest) ≡ true → Q at →
    (list_any (λ server. server.line == line) rest ≡ true → Q line) → Q line
one_line Q statements.Nothing at line rest has here later = later has
one_line Q statements.Global at line rest has here later = later has
one_line Q statements.Defaults at line rest has here later = later has
one_line Q (statements.Frontend name) at line rest has here later = later has
one_line Q (statements.Backend name) at line rest has here later = later has
one_line Q (statements.MaxConn limit) at line rest has here later = later has
one_line Q (statements.Timeout kind ms) at line rest has here later = later has
one_line Q (statements.Retries count) at line rest has here later = later has
one_line Q (statements.Redispatch every) at line rest has here later = later has
one_line Q (statements.DefaultBackend name) at line rest has here later = later has
one_line Q (statements.Balance method) at line rest has here later = later has
one_line Q (statements.Acl called test) at line rest has here later = later has
one_line Q (statements.UseBackend called when) at line rest has here later = later has
one_line Q (statements.Bind endpoint flag) at line rest has here later = later has
one_line Q (statements.Rule list action when) at line rest has here later = later has
one_line Q (statements.StickTable table) at line rest has here later = later has
one_line Q (statements.Server server) at line rest has here later = by (at == line) refl has
  where
    by : (b : Bool) → (at == line) ≡ b → list_any (λ server. server.line == line) (cons_option (line_server at (statements.Server server)) rest) ≡ true → Q line
    by true is has = subst Q (eqb_same at line is) here
    by false is has = later (rw is at has)

line_in : (Q : ℕ → Type 0) (line : ℕ) (own : List ConfigLine) → list_any (λ server. server.line == line) (all_of line_server own) ≡ true → AllByRecursion (λ item. Q item.line) own → Q line
line_in Q line [] has all = absurd cc
line_in Q line (item ∷ rest) has all =
    one_line Q item.statement item.line line (all_of line_server rest) has all.0 (λ later. line_in Q line rest later all.1)

-- So no two backends have servers of one line.

behind_all : (all : List Proxy) (n line j : ℕ) (b : Backend) → Parted all → AreBehind n all → slice_get (backends_in all) j ≡ Some b → has_line line b ≡ true → n < line
behind_all [] n line j b parts behind there has = absurd cc
behind_all (proxy ∷ rest) n line j b parts behind there has = by (is_backend proxy) refl j there (λ i more. behind_all rest n line i b parts.2 behind.1 more has)
  where
    here : backend_of proxy ≡ b → n < line
    here same =
        let own : has_line line (backend_of proxy) ≡ true = ap (has_line line) same ∙ has in
        let after : proxy.head.line < line = line_in (λ l. proxy.head.line < l) line proxy.own own parts.0 in
        let less : n < proxy.head.line = behind.0 in
        omega arith

    by : (back : Bool) → is_backend proxy ≡ back → (j : ℕ) → slice_get (backends_in (proxy ∷ rest)) j ≡ Some b → ((i : ℕ) → slice_get (backends_in rest) i ≡ Some b → n < line) → n < line
    by true is zero there more = here (let found : slice_get (backend_of proxy ∷ backends_in rest) 0 ≡ Some b = rw is at there in cc)
    by true is (suc i) there more = more i (rw is at there)
    by false is i there more = more i (rw is at there)

differ : (all : List Proxy) → Parted all → (line i j : ℕ) (a b : Backend) → slice_get (backends_in all) i ≡ Some a → slice_get (backends_in all) j ≡ Some b → has_line line a ≡ true → has_line line b ≡ true → a ≡ b
differ [] parts line i j a b first second in_a in_b = absurd cc
differ (proxy ∷ rest) parts line i j a b first second in_a in_b =
    by (is_backend proxy) refl i j first second (λ m n there also. differ rest parts.2 line m n a b there also in_a in_b)
  where
    apart : (x y : Backend) (n : ℕ) → backend_of proxy ≡ x → slice_get (backends_in rest) n ≡ Some y → has_line line x ≡ true → has_line line y ≡ true → ⊥
    apart x y n same there in_x in_y =
        let own : has_line line (backend_of proxy) ≡ true = ap (has_line line) same ∙ in_x in
        let behind : AreBehind line rest = line_in (λ l. AreBehind l rest) line proxy.own own parts.1 in
        let less : line < line = behind_all rest line line n y parts.2 behind there in_y in
        omega arith

    by : (back : Bool) → is_backend proxy ≡ back → (i j : ℕ) → slice_get (backends_in (proxy ∷ rest)) i ≡ Some a → slice_get (backends_in (proxy ∷ rest)) j ≡ Some b →
        ((m n : ℕ) → slice_get (backends_in rest) m ≡ Some a → slice_get (backends_in rest) n ≡ Some b → a ≡ b) → a ≡ b
    by true is zero zero first second more =
        let one : slice_get (backend_of proxy ∷ backends_in rest) 0 ≡ Some a = rw is at first in
        let two : slice_get (backend_of proxy ∷ backends_in rest) 0 ≡ Some b = rw is at second in
        cc
    by true is zero (suc n) first second more =
        let one : slice_get (backend_of proxy ∷ backends_in rest) 0 ≡ Some a = rw is at first in
        absurd (apart a b n (cc) (rw is at second) in_a in_b)
    by true is (suc m) zero first second more =
        let two : slice_get (backend_of proxy ∷ backends_in rest) 0 ≡ Some b = rw is at second in
        absurd (apart b a m (cc) (rw is at first) in_b in_a)
    by true is (suc m) (suc n) first second more = more m n (rw is at first) (rw is at second)
    by false is m n first second more = more m n (rw is at first) (rw is at second)

pub lines_differ : (items : List ConfigLine) (plan : Plan) → Rises items → plan.backends ≡ backends_in (proxies [] items) → LinesDiffer plan
lines_differ items plan rises is = rw is (differ (proxies [] items) (parted [] items rises))
