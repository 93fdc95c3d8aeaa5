-- What is said to a part's connection is the same in two states that look the same to it; and what is tracked and
-- offered is on the connection's side.
use Rattle.std.specs.Prelude.{ℕ, Bool, true, false, List, [], slice_get, is_none, Option, Some, None, option_map, Result, Ok, Err, refl, ◌≡◌, ◌&&◌, ◌||◌, nat_le, if◌then◌else◌}
use Rattle.std.specs.List.{AllByRecursion}
use Rattle.std.specs.Option.{option_map_or}
use Rattle.std.proofs.Common.{sym, ap, ◌∙◌}
use Rattle.addr_core.specs.declared.addr.Addr.{Addr}
use Rattle.addr_core.specs.PairValue.{PairValue}
use Rattle.pp_any.specs.Status as statuses
use Rattle.pp_any.specs.Status.{Status}
use Rattle.acl_core.specs.declared.criterion.Criterion.{Criterion}
use Rattle.rule_engine.specs.Meaning.{present}
use Rattle.rule_engine.specs.Judging.{judged, judged_after, no_tracks, TrackSlots}
use Rattle.rule_engine.specs.declared.judging.Judged.{Judged}
use Rattle.plan_types.specs.declared.plan.Backend.{Backend}
use Rattle.plan_types.specs.declared.plan.Frontend.{Frontend}
use Rattle.plan_types.specs.declared.plan.Plan.{Plan}
use Rattle.plan_types.specs.declared.plan.Rule.{Rule}
use Rattle.plan_types.specs.declared.plan.Server.{Server}
use Rattle.plan_types.specs.declared.track.TableId.{TableId}
use Rattle.plan_types.specs.declared.track.Track.{Track}
use Rattle.proxy_types.specs.declared.balance.Place.{Place}
use Rattle.conn_model.specs.declared.event.ConnId.{ConnId}
use Rattle.conn_model.specs.declared.plain.Plain.{Plain}
use Rattle.conn_model.specs.declared.plain.Version.{Version}
use Rattle.conn_model.specs.declared.reply.Cause.{Cause}
use Rattle.conn_model.specs.declared.reply.Cause.TheVariants.{Line, NoBackend, NoServer}
use Rattle.conn_model.specs.declared.reply.Reply.{Reply}
use Rattle.conn_model.specs.declared.reply.Said.{Said}
use Rattle.conn_model.specs.declared.reply.Said.TheVariants as saids
use Rattle.conn_model.specs.declared.reply.Said.TheVariants.{Wait, Offer, Refuse}
use Rattle.conn_model.specs.Words.{or_fault}
use Rattle.conn_model.specs.Servers.{cursor_at, pick_in}
use Rattle.conn_model.specs.Rules.{backend_for, rejection, scene_of, view_of, worth, Candidate, RuleView}
use Rattle.conn_model.specs.Answer.{admission, candidate_of, decision, demands_header, entry_reply, entry_rules, header_reply, judged_pair, numbered_server, reply_of, reply_with, said_of, server_for, server_unless, verdict, Decision, NumberedServer}
use Rattle.conn_model.proofs.Replies.{bind-ok, or_fault-ok}
use Rattle.tenant_laws.specs.Parts.{choices_pass, keeps_backend, keeps_criterion, keeps_lines, keeps_table, rules_pass, Part}
use Rattle.tenant_laws.specs.Agreement.{is_own_id}
use Rattle.tenant_laws.proofs.Lists.{both, nothing, some_same}
use Rattle.tenant_laws.proofs.Rules.{judged-kept, Known}
use Rattle.tenant_laws.proofs.Views.{backend_for-side, key-same, key_of-id, own-at, own_track-same, server-same, worth-same, SeatsAlike}

-- what the lines of a frontend keep on a side
pub record Keeps (part : Part) (side : Bool) (plan : Plan) (f : Frontend) : Type 0 where
  pub connection : rules_pass (keeps_table part side plan) (keeps_criterion part side plan f.name) f.acls f.connection_rules ≡ true
  pub session : rules_pass (keeps_table part side plan) (keeps_criterion part side plan f.name) f.acls f.session_rules ≡ true
  pub choices : choices_pass (keeps_backend part side plan) (keeps_criterion part side plan f.name) f.acls f.choices ≡ true
  pub default' : option_map_or (keeps_backend part side plan) f.default true ≡ true

pub keeps-parts : (part : Part) (side : Bool) (plan : Plan) (f : Frontend) → keeps_lines part side plan f ≡ true → Keeps part side plan f
keeps-parts part side plan f is =
    let passes : Criterion → Bool = keeps_criterion part side plan f.name in
    let a : Bool = rules_pass (keeps_table part side plan) passes f.acls f.connection_rules in
    let b : Bool = rules_pass (keeps_table part side plan) passes f.acls f.session_rules in
    let c : Bool = choices_pass (keeps_backend part side plan) passes f.acls f.choices in
    let d : Bool = option_map_or (keeps_backend part side plan) f.default true in
    let one = both a (b && (c && d)) is in
    let two = both b (c && d) one.1 in
    let three = both c d two.1 in
    record { connection = one.0; session = two.0; choices = three.0; default' = three.1 }

-- The same in both states.
module _ (part : Part) (s t : Plain) (v w : Version) (f : Frontend) (id : ConnId) (alike : SeatsAlike part s t v w id) (keeps : Keeps part true v.plan f) where
  abbrev left : Candidate
  left = candidate_of s id v f

  abbrev right : Candidate
  right = candidate_of t id w f

  judged-same : (source : Addr) (slots : TrackSlots) → Known (λ track. is_own_id part v track.table ≡ true) slots → (rules : List Rule) →
      rules_pass (keeps_table part true v.plan) (keeps_criterion part true v.plan f.name) f.acls rules ≡ true →
      (judged_after (scene_of (view_of left source)) slots rules ≡ judged_after (scene_of (view_of right source)) slots rules)
      × Known (λ track. is_own_id part v track.table ≡ true) (judged_after (scene_of (view_of left source)) slots rules).tracks
  judged-same source slots known rules kept =
      judged-kept (scene_of (view_of left source)) (scene_of (view_of right source)) (λ track. is_own_id part v track.table ≡ true) (keeps_table part true v.plan) (keeps_criterion part true v.plan f.name) f.acls
      refl refl (λ counter. ap is_none (own_track-same part s t v w f id alike source [] tt counter)) (worth-same part s t v w f id alike source) (key-same part s t v w f id alike source)
      (λ made counter number table addr owns is. own-at part v number table owns (key_of-id (view_of left source made) number table addr is)) slots known rules kept

  verdict-same : (source : Addr) (slots : TrackSlots) → Known (λ track. is_own_id part v track.table ≡ true) slots → verdict (view_of left source) f slots ≡ verdict (view_of right source) f slots
  verdict-same source slots known =
      let says = judged-same source slots known f.session_rules keeps.session in
      let one : Judged = judged_after (scene_of (view_of left source)) slots f.session_rules in
      ap (λ (r : Result NumberedServer Cause). record { result = r; made = one.tracks }) (unless (rejection one) (present one.tracks) says.1)
      ∙ ap (λ (j : Judged). record { result = server_unless (view_of right source (present j.tracks)) (rejection j); made = j.tracks }) says.0
    where
      unless : (line : Option ℕ) (made : List Track) → AllByRecursion (λ track. is_own_id part v track.table ≡ true) made →
          server_unless (view_of left source made) line ≡ server_unless (view_of right source made) line
      unless (Some line) made known = refl
      unless None made known = server-same part s t v w f id alike source made known keeps.choices keeps.default'

  decision-same : (used : ℕ) (pair : PairValue) (slots : TrackSlots) → Known (λ track. is_own_id part v track.table ≡ true) slots → decision left used pair slots ≡ decision right used pair slots
  decision-same used pair slots known = ap (λ (d : Decision). reply_with (said_of id used pair d.result) d.made) (verdict-same pair.source.addr slots known)

  entry-same : (accept_proxy : Bool) (real : PairValue) (slots : TrackSlots) (line : Option ℕ) → Known (λ track. is_own_id part v track.table ≡ true) slots →
      entry_reply left accept_proxy real slots line ≡ entry_reply right accept_proxy real slots line
  entry-same accept_proxy real slots (Some line) known = refl
  entry-same true real slots None known = refl
  entry-same false real slots None known = decision-same 0 real slots known

  pub admission-same : (accept_proxy : Bool) (real : PairValue) (others : ℕ) → admission left accept_proxy real others ≡ admission right accept_proxy real others
  admission-same accept_proxy real others =
      let says = judged-same real.source.addr no_tracks tt f.connection_rules keeps.connection in
      let one : Judged = entry_rules left real in
      ap (λ (r : Reply). if nat_le f.limit others then reply_of (Refuse id 0 (Line f.limit_line)) else r)
      (entry-same (demands_header left accept_proxy real) real one.tracks (rejection one) says.1
      ∙ ap (λ (j : Judged). entry_reply right (accept_proxy || j.expects_header) real j.tracks (rejection j)) says.0)

  pub header-same : (real : PairValue) (count : ℕ) (status : Status) → header_reply left real count status ≡ header_reply right real count status
  header-same real count statuses.Wait = refl
  header-same real count (statuses.Fault fault used) = refl
  header-same real count (statuses.Whole used meaning) = decision-same used (judged_pair real meaning) no_tracks tt

-- What is said, on a side.

-- an offer is of a server of a backend on the side
abbrev pub IsOfferOn : Part → Bool → Plan → Said → Type 0
IsOfferOn part side plan (Offer id used line number to judged send) =
    (k : ℕ) × (backend : Backend) × (server : Server) × (slice_get plan.backends k ≡ Some backend) × (slice_get backend.servers number ≡ Some server) × (server.line ≡ line)
    × (keeps_backend part side plan k ≡ true)
IsOfferOn part side plan said = Unit {0}

-- what it tracks has P, and what it offers is on the side
pub record IsSaidOn (part : Part) (side : Bool) (plan : Plan) (P : TableId → Type 0) (reply : Reply) : Type 0 where
  pub tracks : AllByRecursion (λ track. P track.table) reply.tracks.items
  pub offered : IsOfferOn part side plan reply.said

module _ (part : Part) (side : Bool) (s : Plain) (v : Version) (f : Frontend) (id : ConnId) (keeps : Keeps part side v.plan f) (P : TableId → Type 0)
    (places : (number : ℕ) (table : TableId) → keeps_table part side v.plan number ≡ true → slice_get v.tables number ≡ Some table → P table) where
  abbrev seat : Candidate
  seat = candidate_of s id v f

  judged-known : (source : Addr) (slots : TrackSlots) → Known (λ track. P track.table) slots → (rules : List Rule) →
      rules_pass (keeps_table part side v.plan) (keeps_criterion part side v.plan f.name) f.acls rules ≡ true → Known (λ track. P track.table) (judged_after (scene_of (view_of seat source)) slots rules).tracks
  judged-known source slots known rules kept =
      (judged-kept (scene_of (view_of seat source)) (scene_of (view_of seat source)) (λ track. P track.table) (keeps_table part side v.plan) (keeps_criterion part side v.plan f.name) f.acls
      refl refl (λ counter. refl) (λ made known criterion passes. refl) (λ made known number passes. refl)
      (λ made counter number table addr kept is. places number table kept (key_of-id (view_of seat source made) number table addr is)) slots known rules kept).1

  offered-on : (source : Addr) (made : List Track) (used : ℕ) (pair : PairValue) (result : Result NumberedServer Cause) → server_for (view_of seat source made) ≡ result → IsOfferOn part side v.plan (said_of id used pair result)
  offered-on source made used pair (Err cause) is = tt
  offered-on source made used pair (Ok given) is =
      let view : RuleView = view_of seat source made in
      let one = bind-ok (or_fault (NoBackend f.line) (backend_for (worth view) f)) _ given is in
      let number : ℕ = one.0 in
      let two = bind-ok (or_fault (NoBackend f.line) (slice_get v.plan.backends number)) _ given one.2 in
      let backend : Backend = two.0 in
      let three = bind-ok (or_fault (NoServer backend.line) (pick_in view.served view.barred backend (cursor_at v.cursors number) source)) _ given two.2 in
      let place : Place = three.0 in
      let chosen : backend_for (worth view) f ≡ Some number = or_fault-ok (NoBackend f.line) (backend_for (worth view) f) number one.1 in
      let there : slice_get v.plan.backends number ≡ Some backend = or_fault-ok (NoBackend f.line) (slice_get v.plan.backends number) backend two.1 in
      let server_is : numbered_server backend place.server ≡ Some given = or_fault-ok (NoServer backend.line) (numbered_server backend place.server) given three.2 in
      let kept : keeps_backend part side v.plan number ≡ true = backend_for-side part side view (keeps_criterion part side v.plan f.name) number keeps.choices keeps.default' chosen in
      found number backend place.server there kept (slice_get backend.servers place.server) (refl {a = slice_get backend.servers place.server}) server_is
    where
      found : (k : ℕ) (backend : Backend) (n : ℕ) → slice_get v.plan.backends k ≡ Some backend → keeps_backend part side v.plan k ≡ true → (o : Option Server) → slice_get backend.servers n ≡ o →
          option_map {U = NumberedServer} (λ server. record { number = n; server = server }) o ≡ Some given → IsOfferOn part side v.plan (said_of id used pair (Ok given))
      found k backend n there kept None e is = nothing is
      found k backend n there kept (Some server) e is =
          let same : record { number = n; server = server } ≡ given = some_same is in
          let number : n ≡ given.number = ap (λ (g : NumberedServer). g.number) same in
          let own : server ≡ given.server = ap (λ (g : NumberedServer). g.server) same in
          (k, backend, server, there, ap (slice_get backend.servers) (sym number) ∙ e, ap (λ (x : Server). x.line) own, kept)

  decision-on : (used : ℕ) (pair : PairValue) (slots : TrackSlots) → Known (λ track. P track.table) slots → IsSaidOn part side v.plan P (decision seat used pair slots)
  decision-on used pair slots known =
      let source : Addr = pair.source.addr in
      let says : Judged = judged_after (scene_of (view_of seat source)) slots f.session_rules in
      record {
        tracks = judged-known source slots known f.session_rules keeps.session;
        offered = unless (rejection says) (present says.tracks);
      }
    where
      unless : (line : Option ℕ) (made : List Track) → IsOfferOn part side v.plan (said_of id used pair (server_unless (view_of seat pair.source.addr made) line))
      unless (Some line) made = tt
      unless None made = offered-on pair.source.addr made used pair (server_for (view_of seat pair.source.addr made)) refl

  entry-on : (accept_proxy : Bool) (real : PairValue) (slots : TrackSlots) (line : Option ℕ) → Known (λ track. P track.table) slots → IsSaidOn part side v.plan P (entry_reply seat accept_proxy real slots line)
  entry-on accept_proxy real slots (Some line) known = record { tracks = known; offered = tt }
  entry-on true real slots None known = record { tracks = known; offered = tt }
  entry-on false real slots None known = decision-on 0 real slots known

  pub admission-on : (accept_proxy : Bool) (real : PairValue) (others : ℕ) → IsSaidOn part side v.plan P (admission seat accept_proxy real others)
  admission-on accept_proxy real others = by (nat_le f.limit others) refl
    where
      by : (b : Bool) → nat_le f.limit others ≡ b → IsSaidOn part side v.plan P (admission seat accept_proxy real others)
      by true e = rw e (record { tracks = tt; offered = tt })
      by false e =
          rw e (entry-on (demands_header seat accept_proxy real) real (entry_rules seat real).tracks (rejection (entry_rules seat real)) (judged-known real.source.addr no_tracks tt f.connection_rules keeps.connection))

  pub header-on : (real : PairValue) (count : ℕ) (status : Status) → IsSaidOn part side v.plan P (header_reply seat real count status)
  header-on real count statuses.Wait = record { tracks = tt; offered = tt }
  header-on real count (statuses.Fault fault used) = record { tracks = tt; offered = tt }
  header-on real count (statuses.Whole used meaning) = decision-on used (judged_pair real meaning) no_tracks tt
