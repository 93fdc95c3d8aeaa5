-- No two frontends, no two backends, and no two servers of a backend have one name.
use Rattle.std.proofs.Common.{◌≡◌, ◌≢◌, ℕ, true, false, List, [], ◌∷◌, ◌++◌, map, refl, sym, ap, subst, ◌∙◌}
use Rattle.std.specs.Prelude.{option_map, option_to_list}
use Rattle.std.specs.List.{AllByRecursion, cons_option, list_any}
use Rattle.std.specs.Str.{bytes_eq}
use Rattle.std.proofs.lemmas.Slice.Eq.{bytes_eq-Decides}
use Rattle.conf_line.specs.declared.statement.Statement.{Statement}
use Rattle.conf_line.specs.declared.statement.Statement.TheVariants as statements
use Rattle.conf_tree.specs.declared.claim.Claim.{Claim}
use Rattle.conf_tree.specs.declared.claim.Claim.TheVariants as claims
use Rattle.conf_tree.specs.declared.tree.ConfigLine.{ConfigLine}
use Rattle.conf_tree.specs.declared.tree.SectionPlace.{SectionPlace}
use Rattle.conf_tree.specs.Config.{claim_of, claims_of, same_claim, is_server_named, has_server}
use Rattle.conf_tree.specs.Sections.{own_lines}
use Rattle.conf_tree.specs.Sound.{ClaimsDiffer, ServersDiffer}
use Rattle.conf_tree.proofs.SoundLemmas.{neither}
use Rattle.plan_types.specs.declared.plan.Backend.{Backend}
use Rattle.plan_types.specs.declared.plan.Server.{Server}
use Rattle.plan_types.specs.declared.plan.Table.{Table}
use Rattle.plan_types.specs.Sound.{NamesDiffer}
use Rattle.plan_core.specs.declared.proxies.Proxy.{Proxy}
use Rattle.plan_core.specs.Compiled.{frontend_of, backend_of, backends_in}
use Rattle.plan_core.specs.Fields.{line_server, all_of}
use Rattle.plan_core.specs.Proxies.{line_head, base_after, proxy_with, proxies, frontends, backends}

other_name : (a b : List ℕ) → bytes_eq a b ≡ false → a ≢ b
other_name a b is same = let wrong : false ≡ true = sym is ∙ (bytes_eq-Decides a b).1 same in absurd cc

abbrev names : List Proxy → List (List ℕ)
names all = map (λ proxy. proxy.head.name) all

abbrev AreOthers : Claim → List Claim → Type 0
AreOthers claim all = AllByRecursion (λ later. same_claim later claim ≡ false) all

abbrev AreOtherNames : List ℕ → List (List ℕ) → Type 0
AreOtherNames name all = AllByRecursion (λ other. other ≢ name) all

-- Frontends.

frontend_apart : (s : Statement) (at : ℕ) (place : SectionPlace) (base own : List ConfigLine) (name : List ℕ) (rest : List Proxy) (all : List Claim) → (AreOthers (claims.Frontend name) all → AreOtherNames name (names (frontends rest))) →
    AreOthers (claims.Frontend name) (cons_option (claim_of place s) all) → AreOtherNames name (names (frontends (option_to_list (option_map (proxy_with base own) (line_head at s)) ++ rest)))
frontend_apart (statements.Frontend own_name) at place base own name rest all later others = (other_name own_name name others.0, later others.1)
frontend_apart (statements.Backend own_name) at place base own name rest all later others = later others.1
frontend_apart (statements.Bind endpoint flag) at place base own name rest all later others = later others.1
frontend_apart (statements.StickTable table) at place base own name rest all later others = later others.1
frontend_apart statement at place base own name rest all later others = later others

frontends_apart : (name : List ℕ) (base items : List ConfigLine) → AreOthers (claims.Frontend name) (claims_of items) → AreOtherNames name (names (frontends (proxies base items)))
frontends_apart name base [] others = tt
frontends_apart name base (item ∷ rest) others =
    frontend_apart item.statement item.line item.place base (own_lines rest) name (proxies (base_after base (own_lines rest) item.statement) rest) (claims_of rest)
    (λ more. frontends_apart name (base_after base (own_lines rest) item.statement) rest more) others

one_frontend : (s : Statement) (at : ℕ) (place : SectionPlace) (base own : List ConfigLine) (rest : List Proxy) (all : List Claim) →
    ((name : List ℕ) → AreOthers (claims.Frontend name) all → AreOtherNames name (names (frontends rest))) → (ClaimsDiffer all → NamesDiffer (names (frontends rest))) →
    ClaimsDiffer (cons_option (claim_of place s) all) → NamesDiffer (names (frontends (option_to_list (option_map (proxy_with base own) (line_head at s)) ++ rest)))
one_frontend (statements.Frontend own_name) at place base own rest all apart later differ = (apart own_name differ.0, later differ.1)
one_frontend (statements.Backend own_name) at place base own rest all apart later differ = later differ.1
one_frontend (statements.Bind endpoint flag) at place base own rest all apart later differ = later differ.1
one_frontend (statements.StickTable table) at place base own rest all apart later differ = later differ.1
one_frontend statement at place base own rest all apart later differ = later differ

frontends_differ : (base items : List ConfigLine) → ClaimsDiffer (claims_of items) → NamesDiffer (names (frontends (proxies base items)))
frontends_differ base [] differ = tt
frontends_differ base (item ∷ rest) differ =
    one_frontend item.statement item.line item.place base (own_lines rest) (proxies (base_after base (own_lines rest) item.statement) rest) (claims_of rest)
    (λ name others. frontends_apart name (base_after base (own_lines rest) item.statement) rest others) (λ more. frontends_differ (base_after base (own_lines rest) item.statement) rest more) differ

-- Backends.

backend_apart : (s : Statement) (at : ℕ) (place : SectionPlace) (base own : List ConfigLine) (name : List ℕ) (rest : List Proxy) (all : List Claim) → (AreOthers (claims.Backend name) all → AreOtherNames name (names (backends rest))) →
    AreOthers (claims.Backend name) (cons_option (claim_of place s) all) → AreOtherNames name (names (backends (option_to_list (option_map (proxy_with base own) (line_head at s)) ++ rest)))
backend_apart (statements.Frontend own_name) at place base own name rest all later others = later others.1
backend_apart (statements.Backend own_name) at place base own name rest all later others = (other_name own_name name others.0, later others.1)
backend_apart (statements.Bind endpoint flag) at place base own name rest all later others = later others.1
backend_apart (statements.StickTable table) at place base own name rest all later others = later others.1
backend_apart statement at place base own name rest all later others = later others

backends_apart : (name : List ℕ) (base items : List ConfigLine) → AreOthers (claims.Backend name) (claims_of items) → AreOtherNames name (names (backends (proxies base items)))
backends_apart name base [] others = tt
backends_apart name base (item ∷ rest) others =
    backend_apart item.statement item.line item.place base (own_lines rest) name (proxies (base_after base (own_lines rest) item.statement) rest) (claims_of rest)
    (λ more. backends_apart name (base_after base (own_lines rest) item.statement) rest more) others

one_backend : (s : Statement) (at : ℕ) (place : SectionPlace) (base own : List ConfigLine) (rest : List Proxy) (all : List Claim) →
    ((name : List ℕ) → AreOthers (claims.Backend name) all → AreOtherNames name (names (backends rest))) → (ClaimsDiffer all → NamesDiffer (names (backends rest))) →
    ClaimsDiffer (cons_option (claim_of place s) all) → NamesDiffer (names (backends (option_to_list (option_map (proxy_with base own) (line_head at s)) ++ rest)))
one_backend (statements.Frontend own_name) at place base own rest all apart later differ = later differ.1
one_backend (statements.Backend own_name) at place base own rest all apart later differ = (apart own_name differ.0, later differ.1)
one_backend (statements.Bind endpoint flag) at place base own rest all apart later differ = later differ.1
one_backend (statements.StickTable table) at place base own rest all apart later differ = later differ.1
one_backend statement at place base own rest all apart later differ = later differ

backends_differ : (base items : List ConfigLine) → ClaimsDiffer (claims_of items) → NamesDiffer (names (backends (proxies base items)))
backends_differ base [] differ = tt
backends_differ base (item ∷ rest) differ =
    one_backend item.statement item.line item.place base (own_lines rest) (proxies (base_after base (own_lines rest) item.statement) rest) (claims_of rest)
    (λ name others. backends_apart name (base_after base (own_lines rest) item.statement) rest others) (λ more. backends_differ (base_after base (own_lines rest) item.statement) rest more) differ

-- Servers.

abbrev server_names : List Server → List (List ℕ)
server_names all = map (λ server. server.name) all

server_apart : (s : Statement) (at : ℕ) (name : List ℕ) (rest : List Server) → is_server_named name s ≡ false → AreOtherNames name (server_names rest) →
    AreOtherNames name (server_names (cons_option (line_server at s) rest))
server_apart (statements.Server server) at name rest none later = (other_name server.name name none, later)
server_apart statement at name rest none later = later

servers_apart : (name : List ℕ) (own : List ConfigLine) → list_any (λ item. is_server_named name item.statement) own ≡ false → AreOtherNames name (server_names (all_of line_server own))
servers_apart name [] none = tt
servers_apart name (item ∷ rest) none =
    let parts = neither (is_server_named name item.statement) (list_any (λ (other : ConfigLine). is_server_named name other.statement) rest) none in
    server_apart item.statement item.line name (all_of line_server rest) parts.0 (servers_apart name rest parts.1)

one_server : (s : Statement) (at : ℕ) (rest : List ConfigLine) → has_server rest s ≡ false → NamesDiffer (server_names (all_of line_server rest)) →
    NamesDiffer (server_names (cons_option (line_server at s) (all_of line_server rest)))
one_server (statements.Server server) at rest free later = (servers_apart server.name rest free, later)
one_server statement at rest free later = later

pub server_names_differ : (own : List ConfigLine) → ServersDiffer own → NamesDiffer (map (λ server. server.name) (all_of line_server own))
server_names_differ [] differ = tt
server_names_differ (item ∷ rest) differ = one_server item.statement item.line rest differ.0 (server_names_differ rest differ.1)

-- Those of a plan.

frontend_names : (tables : List Table) (backs : List Backend) (all : List Proxy) → map (λ frontend. frontend.name) (map (frontend_of tables backs) all) ≡ names all
frontend_names tables backs [] = refl
frontend_names tables backs (proxy ∷ rest) = ap (λ more. proxy.head.name ∷ more) (frontend_names tables backs rest)

backend_names : (all : List Proxy) → map (λ backend. backend.name) (map backend_of all) ≡ names all
backend_names [] = refl
backend_names (proxy ∷ rest) = ap (λ more. proxy.head.name ∷ more) (backend_names rest)

pub frontend_names_differ : (tables : List Table) (backs : List Backend) (items : List ConfigLine) → ClaimsDiffer (claims_of items) →
    NamesDiffer (map (λ frontend. frontend.name) (map (frontend_of tables backs) (frontends (proxies [] items))))
frontend_names_differ tables backs items differ = subst (λ xs. NamesDiffer xs) (sym (frontend_names tables backs (frontends (proxies [] items)))) (frontends_differ [] items differ)

pub backend_names_differ : (items : List ConfigLine) → ClaimsDiffer (claims_of items) → NamesDiffer (map (λ backend. backend.name) (backends_in (proxies [] items)))
backend_names_differ items differ = subst (λ xs. NamesDiffer xs) (sym (backend_names (backends (proxies [] items)))) (backends_differ [] items differ)
