-- Servers that are reported down.
use Rattle.std.proofs.Common.{◌≡◌, ℕ, Bool, true, false, ◌&&◌, ◌||◌, List, [], ◌∷◌, ◌++◌, map, Option, Some, None, refl, sym, ap, ◌∙◌, if◌then◌else◌}
use Rattle.std.specs.Prelude.{not, ◌==◌}
use Rattle.std.specs.List.{list_any, AllByRecursion}
use Rattle.std.specs.Option.{option_or}
use Rattle.std.proofs.lemmas.Bool.{false≢true}
use Rattle.proxy_types.specs.declared.server.ServerIdentity.{ServerIdentity}
use Rattle.proxy_types.specs.ServerIdentity.{same_server}
use Rattle.plan_types.specs.declared.plan.Backend.{Backend}
use Rattle.plan_types.specs.declared.plan.Server.{Server}
use Rattle.balance_core.specs.declared.load.ServerLoad.{ServerLoad}
use Rattle.conn_model.specs.declared.event.Health.{Health}
use Rattle.conn_model.specs.declared.event.Health.TheVariants.{Down, Up}
use Rattle.conn_model.specs.declared.plain.Plain.{Plain}
use Rattle.conn_model.specs.Servers.{has_room, identity_in, is_down, load_of, loads_of, weight_of}
use Rattle.conn_model.specs.History.{down_after, is_down_by, last_report, mark_of, marked_by, report_of, versions_after, with_down, without_down, Entry}
use Rattle.std.proofs.lemmas.List.Folds.{list_any-append}
use Rattle.conn_model.proofs.Offers.{weight-unbarred}
pub use Rattle.proxy_types.proofs.ServerLemmas.{same_server-refl, server_is}

-- What a report changes.

one_more : (a b : Bool) → (a || (b || false)) ≡ (b || a)
one_more true true = refl
one_more true false = refl
one_more false true = refl
one_more false false = refl

down-any : (other server : ServerIdentity) (down : List ServerIdentity) →
    list_any (same_server server) (with_down other down) ≡ is_down_by (list_any (same_server server) down) (if same_server server other then Some Down else None)
down-any other server down = by (same_server server other) (list_any (same_server other) down) refl refl
  where
    more : list_any (same_server server) (down ++ other ∷ []) ≡ (same_server server other || list_any (same_server server) down)
    more = list_any-append (same_server server) down (other ∷ []) ∙ one_more (list_any (same_server server) down) (same_server server other)

    by : (a b : Bool) → same_server server other ≡ a → list_any (same_server other) down ≡ b →
        list_any (same_server server) (with_down other down) ≡ is_down_by (list_any (same_server server) down) (if same_server server other then Some Down else None)
    by true true same there = rw (same, there) (ap (λ s. list_any (same_server s) down) (server_is server other same) ∙ there)
    by true false same there = rw (same, there) (more ∙ ap (λ b. b || list_any (same_server server) down) same)
    by false true same there = rw (same, there) refl
    by false false same there = rw (same, there) (more ∙ ap (λ b. b || list_any (same_server server) down) same)

-- the server that is reported up is not down
gone-any : (other server : ServerIdentity) (down : List ServerIdentity) → same_server server other ≡ true → list_any (same_server server) (without_down other down) ≡ false
gone-any other server [] same = refl
gone-any other server (x ∷ down) same = by (same_server other x) refl (gone-any other server down same)
  where
    by : (b : Bool) → same_server other x ≡ b → list_any (same_server server) (without_down other down) ≡ false → list_any (same_server server) (without_down other (x ∷ down)) ≡ false
    by true e rest = rw e rest
    by false e rest =
        let differs : same_server server x ≡ false = ap (λ s. same_server s x) (server_is server other same) ∙ e in
        rw (e, differs) rest

-- and the others stay as they are
left-any : (other server : ServerIdentity) (down : List ServerIdentity) → same_server server other ≡ false → list_any (same_server server) (without_down other down) ≡ list_any (same_server server) down
left-any other server [] differs = refl
left-any other server (x ∷ down) differs = by (same_server other x) refl (left-any other server down differs)
  where
    by : (b : Bool) → same_server other x ≡ b → list_any (same_server server) (without_down other down) ≡ list_any (same_server server) down →
        list_any (same_server server) (without_down other (x ∷ down)) ≡ list_any (same_server server) (x ∷ down)
    by true e rest =
        let not_this : same_server server x ≡ false = ap (same_server server) (sym (server_is other x e)) ∙ differs in
        rw (e, not_this) rest
    by false e rest = rw e (ap (λ b. same_server server x || b) rest)

up-any : (other server : ServerIdentity) (down : List ServerIdentity) →
    list_any (same_server server) (without_down other down) ≡ is_down_by (list_any (same_server server) down) (if same_server server other then Some Up else None)
up-any other server down = by (same_server server other) refl
  where
    by : (b : Bool) → same_server server other ≡ b →
        list_any (same_server server) (without_down other down) ≡ is_down_by (list_any (same_server server) down) (if same_server server other then Some Up else None)
    by true same = rw same (gone-any other server down same)
    by false same = rw same (left-any other server down same)

pub marked-any : (mark : Option (ServerIdentity × Health)) (down : List ServerIdentity) (server : ServerIdentity) →
    list_any (same_server server) (marked_by mark down) ≡ is_down_by (list_any (same_server server) down) (report_of server mark)
marked-any None down server = refl
marked-any (Some (other, Down)) down server = down-any other server down
marked-any (Some (other, Up)) down server = up-any other server down

newer : (before : Bool) (last now : Option Health) → is_down_by (is_down_by before last) now ≡ is_down_by before (option_or now last)
newer before last None = refl
newer before last (Some Down) = refl
newer before last (Some Up) = refl

pub down_by_last : (p : Plain) (h : List Entry) (server : ServerIdentity) → list_any (same_server server) (down_after p h) ≡ is_down_by (list_any (same_server server) p.down) (last_report p h server)
down_by_last p [] server = refl
down_by_last p (e ∷ h) server =
    let now : Option Health = report_of server (mark_of (versions_after p h) e.event) in
    marked-any (mark_of (versions_after p h) e.event) (down_after p h) server ∙ ap (λ b. is_down_by b now) (down_by_last p h server)
    ∙ newer (list_any (same_server server) p.down) (last_report p h server) now

-- Servers that are not checked.

unchecked-up : (down : List ServerIdentity) (backend : Backend) (server : Server) → server.check ≡ None → is_down down backend server ≡ false
unchecked-up down backend server none = rw none refl

unchecked-loads : (served : ServerIdentity → ℕ) (down : List ServerIdentity) (backend : Backend) (servers : List Server) → AllByRecursion (λ server. server.check ≡ None) servers →
    map (load_of served (is_down down) backend) servers ≡ map (load_of served (λ other server. false) backend) servers
unchecked-loads served down backend [] none = refl
unchecked-loads served down backend (server ∷ servers) none =
    let this : load_of served (is_down down) backend server ≡ load_of served (λ other server. false) backend server =
    ap (λ b. load_of served (λ other server. b) backend server) (unchecked-up down backend server none.0) in
    cc (this, unchecked-loads served down backend servers none.1)

pub loads_unchecked : (served : ServerIdentity → ℕ) (down : List ServerIdentity) (backend : Backend) → AllByRecursion (λ server. server.check ≡ None) backend.servers →
    loads_of served (is_down down) backend ≡ loads_of served (λ other server. false) backend
loads_unchecked served down backend none = unchecked-loads served down backend backend.servers none

pub load_unbarred : (served : ServerIdentity → ℕ) (backend : Backend) (server : Server) →
    load_of served (λ other s. false) backend server
    ≡ record { weight = weight_of server; has_room = has_room server.limit (served (identity_in backend server)); connections = served (identity_in backend server) }
load_unbarred served backend server =
    ap (λ w. load w (has_room server.limit (served (identity_in backend server))) (served (identity_in backend server))) (weight-unbarred backend.method server)
  where
    load : ℕ → Bool → ℕ → ServerLoad
    load weight room connections = record { weight = weight; has_room = room; connections = connections }
