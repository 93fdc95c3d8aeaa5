-- A report that a server is down, or up again, and what it leaves of a part.
use Rattle.std.specs.Prelude.{ℕ, Bool, true, false, is_some, List, [], slice_get, Option, Some, None, option_map, Ok, refl, ◌≡◌, ◌∷◌, if◌then◌else◌}
use Rattle.std.specs.List.{list_any}
use Rattle.std.specs.Option.{option_and_then}
use Rattle.std.proofs.Common.{sym, ap, subst, ◌∙◌}
use Rattle.proxy_types.specs.declared.server.ServerIdentity.{ServerIdentity}
use Rattle.proxy_types.specs.ServerIdentity.{same_server}
use Rattle.plan_types.specs.declared.plan.Backend.{Backend}
use Rattle.plan_types.specs.declared.plan.Server.{Server}
use Rattle.conn_model.specs.declared.event.Health.{Health}
use Rattle.conn_model.specs.declared.event.OwnedEvent.TheVariants.{Mark}
use Rattle.conn_model.specs.declared.plain.Plain.{Plain}
use Rattle.conn_model.specs.declared.plain.Version.{Version}
use Rattle.conn_model.specs.declared.reply.Reply.{Reply}
use Rattle.conn_model.specs.Answer.{answer_in, at_moment, checked_server}
use Rattle.conn_model.specs.Counts.{newest_backend}
use Rattle.conn_model.specs.Servers.{identity_in}
use Rattle.conn_model.specs.History.{after, entry, is_down_by, mark_of, marked_by, report_of}
use Rattle.conn_model.proofs.Marks.{marked-any, server_is}
use Rattle.conn_model.proofs.Replies.{reported, IsReported}
use Rattle.conn_model.proofs.Steps.{after-mark}
use Rattle.tenant_laws.specs.Parts.{Part}
use Rattle.tenant_laws.specs.Agreement.{IsApart, IsSound, LookAlike}
use Rattle.tenant_laws.proofs.Lists.{contrary, nothing, some_same}
use Rattle.tenant_laws.proofs.Later.{alike-same, at-apart, at-sound}
use Rattle.tenant_laws.proofs.Same.{mark-same}

-- a state in which those servers are down
abbrev with_downs : Plain → List ServerIdentity → Plain
with_downs p down = record p { down = down }

-- the part is apart in it, and sees no difference but of the servers of its backends

apart-downs : (part : Part) (p : Plain) (down : List ServerIdentity) → IsApart part p → IsApart part (with_downs p down)
apart-downs part p down apart = record { plans = apart.plans; named = apart.named; outside = apart.outside; inside = apart.inside }

look-downs : (part : Part) (p q : Plain) (down down' : List ServerIdentity) → LookAlike part p q →
    ((server : ServerIdentity) → part.backend_names server.backend ≡ true → list_any (same_server server) down ≡ list_any (same_server server) down') → LookAlike part (with_downs p down) (with_downs q down')
look-downs part p q down down' look same = record {
  listeners = look.listeners;
  names = look.names;
  number = look.number;
  frontends = look.frontends;
  versions = look.versions;
  down = same;
  left = apart-downs part p down look.left;
  right = apart-downs part q down' look.right;
}

-- the server of a report is one of the backend that it numbers
checked-of : (versions : List Version) (number n : ℕ) (backend : Backend) (found : Backend × Server) → newest_backend versions number ≡ Some backend → checked_server versions number n ≡ Some found → found.0 ≡ backend
checked-of versions number n backend found there is = at (slice_get backend.servers n) (rw there at is)
  where
    one : (server : Server) (b : Bool) → (if b then Some (backend, server) else None) ≡ Some found → found.0 ≡ backend
    one server true e = let same : (backend, server) ≡ found = some_same e in ap (λ (pair : Backend × Server). pair.0) (sym same)
    one server false e = nothing e

    at : (o : Option Server) → option_and_then {U = Backend × Server} (λ server. if is_some server.check then Some (backend, server) else None) o ≡ Some found → found.0 ≡ backend
    at None e = nothing e
    at (Some server) e = one server (is_some server.check) e

-- the state after it
mark-state : (p : Plain) → IsSound p → (moment number n : ℕ) (health : Health) (reply : Reply) → IsReported (at_moment moment p) number n health reply →
    after p (entry moment (Mark number n health) reply ∷ []) ≡ with_downs (at_moment moment p) (marked_by (mark_of p.versions (Mark number n health)) p.down)
mark-state p sound moment number n health reply got =
    ap (λ r. after p (entry moment (Mark number n health) r ∷ [])) (sym got.reply_is) ∙ after-mark p sound.well moment number n got.found.1.line health

-- a report of a server of the others
pub mark-outside : (part : Part) (p : Plain) → IsSound p → IsApart part p → (moment number n : ℕ) (health : Health) (backend : Backend) (reply : Reply) → newest_backend p.versions number ≡ Some backend →
    part.backend_names backend.name ≡ false → answer_in p moment (Mark number n health) ≡ Ok reply → LookAlike part (at_moment moment p) (after p (entry moment (Mark number n health) reply ∷ []))
mark-outside part p sound apart moment number n health backend reply there foreign is =
    subst (LookAlike part (at_moment moment p)) (sym (mark-state p sound moment number n health reply got))
    (look-downs part (at_moment moment p) (at_moment moment p) p.down (marked_by (mark_of p.versions (Mark number n health)) p.down) (alike-same part (at_moment moment p) (at-apart part p moment apart)) same)
  where
    got : IsReported (at_moment moment p) number n health reply
    got = reported (at_moment moment p) number n health reply is

    mark : mark_of p.versions (Mark number n health) ≡ Some (identity_in got.found.0 got.found.1, health)
    mark = ap (λ (o : Option (Backend × Server)). option_map {U = ServerIdentity × Health} (λ found. (identity_in found.0 found.1, health)) o) got.there

    differs : (server : ServerIdentity) → part.backend_names server.backend ≡ true → (b : Bool) → same_server server (identity_in got.found.0 got.found.1) ≡ b →
        report_of server (Some (identity_in got.found.0 got.found.1, health)) ≡ None
    differs server named true e =
        let level : server.backend ≡ got.found.0.name = ap (λ (s : ServerIdentity). s.backend) (server_is server (identity_in got.found.0 got.found.1) e) in
        let own : got.found.0 ≡ backend = checked-of p.versions number n backend got.found there got.there in
        contrary (part.backend_names server.backend) named (ap part.backend_names level ∙ ap (λ (b : Backend). part.backend_names b.name) own ∙ foreign)
    differs server named false e = rw e refl

    same : (server : ServerIdentity) → part.backend_names server.backend ≡ true → list_any (same_server server) p.down ≡ list_any (same_server server) (marked_by (mark_of p.versions (Mark number n health)) p.down)
    same server named =
        sym (marked-any (mark_of p.versions (Mark number n health)) p.down server
        ∙ ap (λ m. is_down_by (list_any (same_server server) p.down) (report_of server m)) mark
        ∙ ap (is_down_by (list_any (same_server server) p.down)) (differs server named (same_server server (identity_in got.found.0 got.found.1)) refl))

-- a report made in two states that look alike
pub mark-inside : (part : Part) (p q : Plain) → IsSound p → IsSound q → (moment number n : ℕ) (health : Health) (reply : Reply) → LookAlike part (at_moment moment p) (at_moment moment q) →
    answer_in p moment (Mark number n health) ≡ Ok reply → answer_in q moment (Mark number n health) ≡ Ok reply →
    LookAlike part (after p (entry moment (Mark number n health) reply ∷ [])) (after q (entry moment (Mark number n health) reply ∷ []))
mark-inside part p q sound sound' moment number n health reply look is is' =
    let left = mark-state p sound moment number n health reply (reported (at_moment moment p) number n health reply is) in
    let right = mark-state q sound' moment number n health reply (reported (at_moment moment q) number n health reply is') in
    subst (λ s. LookAlike part s (after q (entry moment (Mark number n health) reply ∷ []))) (sym left)
    (subst (LookAlike part (with_downs (at_moment moment p) (marked_by (mark_of p.versions (Mark number n health)) p.down))) (sym right)
    (look-downs part (at_moment moment p) (at_moment moment q) (marked_by (mark_of p.versions (Mark number n health)) p.down) (marked_by (mark_of q.versions (Mark number n health)) q.down) look same))
  where
    same : (server : ServerIdentity) → part.backend_names server.backend ≡ true →
        list_any (same_server server) (marked_by (mark_of p.versions (Mark number n health)) p.down) ≡ list_any (same_server server) (marked_by (mark_of q.versions (Mark number n health)) q.down)
    same server named =
        marked-any (mark_of p.versions (Mark number n health)) p.down server
        ∙ ap (λ b. is_down_by b (report_of server (mark_of p.versions (Mark number n health)))) (look.down server named)
        ∙ ap (λ m. is_down_by (list_any (same_server server) q.down) (report_of server m)) (mark-same part (at_moment moment p) (at_moment moment q) (at-sound p sound moment) (at-sound q sound' moment) look number n health)
        ∙ sym (marked-any (mark_of q.versions (Mark number n health)) q.down server)
