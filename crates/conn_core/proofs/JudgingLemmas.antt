-- How a connection is judged.
use Rattle.std.proofs.Common.{◌≡◌, ℕ, Bool, true, false, List, [], length, Some, Result, Ok, Err, refl, sym, ap, subst, ◌∙◌, arith}
use Rattle.std.specs.Prelude.{nat_le, ◌<◌, ◌==◌, ◌||◌, if◌then◌else◌}
use Rattle.std.proofs.lemmas.Bool.{eqb-true}
use Rattle.std.proofs.lemmas.Bool.Decides.{nat_tests}
use Rattle.addr_core.specs.PairValue.{PairValue}
use Rattle.proxy_types.specs.declared.server.ServerIdentity.{ServerIdentity}
use Rattle.plan_types.specs.declared.plan.Frontend.{Frontend}
use Rattle.plan_types.specs.declared.plan.Rule.{Rule}
use Rattle.plan_types.specs.declared.track.Track.{Track}
use Rattle.plan_types.specs.Sound.{IsSoundPlan}
use Rattle.rule_engine.specs.Meaning.{present}
use Rattle.rule_engine.specs.Judging.{judged, judged_after, no_tracks, TrackSlots}
use Rattle.rule_engine.specs.declared.judging.Judged.{Judged}
use Rattle.rule_engine.proofs.SlotLemmas.{none_made}
use Rattle.pp_v1.specs.Line.{line_of}
use Rattle.pp_v2.specs.Block.{header_of}
use Rattle.conn_model.specs.declared.event.ConnId.{ConnId}
use Rattle.conn_model.specs.declared.reply.Cause.{Cause}
use Rattle.conn_model.specs.declared.reply.Cause.TheVariants.{Line}
use Rattle.conn_model.specs.declared.reply.Reply.{Reply}
use Rattle.conn_model.specs.declared.reply.Said.TheVariants.{Offer as GiveServer, Refuse}
use Rattle.conn_model.specs.declared.plain.Plain.{Plain}
use Rattle.conn_model.specs.declared.plain.Version.{Version}
use Rattle.conn_model.specs.Answer.{accept_answer, admission, candidate_at, entry_reply, reply_of, reply_with, said_of, server_unless, version_at, NumberedServer}
use Rattle.conn_model.specs.Rules.{Candidate, RuleView, rejection, scene_of, view_of}
use Rattle.conn_model.specs.Words.{newest}
use Rattle.conn_model.specs.Counts.{served_by}
use Rattle.conn_model.specs.Tables.{open_tracks}
use Rattle.conn_model.proofs.Lists.{all-each, all-found}
use Rattle.conn_model.proofs.Offers.{admission-offers, offered_backend, OffersWell}
use Rattle.conn_model.proofs.Replies.{accepted, Accepted}
use Rattle.conn_model.proofs.Versions.{newest-at}
use Rattle.conn_core.specs.declared.facts.RuleFacts.{RuleFacts}
use Rattle.conn_core.specs.declared.outcome.TrackedOutcome.{TrackedOutcome}
use Rattle.conn_core.specs.declared.outcome.HeaderForm.TheVariants.{Absent, Version1, Version2}
use Rattle.conn_core.specs.declared.outcome.Outcome.{Outcome}
use Rattle.conn_core.specs.declared.outcome.Outcome.TheVariants as outcomes
use Rattle.conn_core.specs.Changes.{CanOffer}
use Rattle.conn_core.specs.Machine.{AreSound, IsCoreState}
use Rattle.conn_core.specs.Judging.{decided, facts_view, AreAllowed, rows_at}
use Rattle.conn_core.specs.Outcome.{header_in, outcome_of, reply_by, said_by}
use Rattle.conn_core.specs.Tracking.{IsPossible}
use Rattle.conn_core.proofs.TrackLemmas.{allowed_after}
use Rattle.conn_model.specs.Servers.{is_down}
use Rattle.plan_types.specs.declared.plan.Backend.{Backend}
use Rattle.plan_types.specs.declared.plan.Server.{Server}

-- the header of the form that a server wants is the one that it is sent
header_is : (version2 version1 : Bool) (judged : PairValue) →
    header_in (if version2 then Version2 else if version1 then Version1 else Absent) judged ≡ (if version2 then header_of judged else if version1 then line_of judged else [])
header_is true version1 judged = refl
header_is false true judged = refl
header_is false false judged = refl

pub said_of_outcome : (id : ConnId) (used : ℕ) (judged : PairValue) (result : Result NumberedServer Cause) → said_by id used (outcome_of judged result) ≡ said_of id used judged result
said_of_outcome id used judged (Ok given) = ap (λ (items : List ℕ). GiveServer id used given.server.line given.number given.server.to judged (record { items = items })) (header_is given.server.send_proxy_v2 given.server.send_proxy judged)
said_of_outcome id used judged (Err cause) = refl

-- a version is found under its own number
pub own_number : (versions : List Version) (number : ℕ) (version : Version) → version_at versions number ≡ Some version → version_at versions version.number ≡ Some version
own_number versions number version there =
    let is : version.number ≡ number = eqb-true version.number number (all-found (λ v. v ≡ v) (λ v. v.number == number) versions version (all-each (λ v. v ≡ v) versions (λ v. refl)) there).1 in
    ap (version_at versions) is ∙ there

-- a decision offers a server of the version that judges, where the plans are sound
pub can_offer : (served : ServerIdentity → ℕ) (barred : Backend → Server → Bool) (versions : List Version) (number : ℕ) (version : Version) (id : ConnId) (used : ℕ) (outcome : Outcome) → AreSound versions → version_at versions number ≡ Some version →
    OffersWell served barred version.plan (said_by id used outcome) → CanOffer versions number outcome
can_offer served barred versions number version id used outcomes.Wait sound there offers = tt
can_offer served barred versions number version id used (outcomes.Offer offer) sound there offers =
    let plan = (all-found (λ v. IsSoundPlan v.plan) (λ v. v.number == number) versions version sound there).0 in (
      record {
        kept = version;
        backend = offers.backend;
        server = offers.server;
        version_is = there;
        backend_is = offered_backend served barred version.plan offer.seat.line offer.seat.server offer.seat.to offers plan.lines;
        server_is = offers.found;
      },
      offers.to_is,
    )
can_offer served barred versions number version id used (outcomes.Refuse cause) sound there offers = tt

-- so does one at an accept
pub accept_offers : (q : Plain) → IsCoreState q → (clock listener : ℕ) (real : PairValue) (id : ConnId) (decision : TrackedOutcome) (version : Version) → newest q.versions ≡ Some version →
    accept_answer q clock listener real ≡ Ok (reply_by id 0 decision) → CanOffer q.versions version.number decision.outcome
accept_offers q known clock listener real id decision version newest_is answer =
    let got : Accepted q clock listener real (reply_by id 0 decision) = accepted q clock listener real (reply_by id 0 decision) answer in
    let candidate : Candidate = candidate_at q clock got.at.frontend real got.own got.version got.frontend in
    let served : ServerIdentity → ℕ = served_by candidate.state.frontends in
    let barred : Backend → Server → Bool = is_down candidate.state.down in
    let same : got.version ≡ version = let it : Some got.version ≡ Some version = sym got.newest_is ∙ newest_is in cc in
    let offers : OffersWell served barred got.version.plan (said_by id 0 decision.outcome) =
    subst (λ (r : Reply). OffersWell served barred got.version.plan r.said) got.reply_is (admission-offers candidate got.at.accept_proxy real (length got.own.rows)) in
    can_offer served barred q.versions version.number version id 0 decision.outcome known.plans (newest-at q.versions version known.well.rise newest_is)
    (subst (λ (v : Version). OffersWell served barred v.plan (said_by id 0 decision.outcome)) same offers)

-- the reply of what the session rules and then the backend decide
pub decided_by : (views : List Track → RuleView) (frontend : Frontend) (earlier : TrackSlots) (judged : PairValue) (says : Judged) (result : Result NumberedServer Cause) (outcome : Outcome) →
    says ≡ judged_after (scene_of views) earlier frontend.session_rules → result ≡ server_unless (views (present says.tracks)) (rejection says) → outcome ≡ outcome_of judged result →
    (id : ConnId) (used : ℕ) → reply_by id used (record { outcome = outcome; tracks = says.tracks }) ≡ decided views frontend id used judged earlier
decided_by views frontend earlier judged says result outcome says_is result_is outcome_is id used =
    ap (λ (o : Outcome). reply_with (said_by id used o) says.tracks) outcome_is
    ∙ ap (λ s. reply_with s says.tracks) (said_of_outcome id used judged result)
    ∙ ap (λ (r : Result NumberedServer Cause). reply_with (said_of id used judged r) says.tracks) result_is
    ∙ ap (λ (s : Judged). reply_with (said_of id used judged (server_unless (views (present s.tracks)) (rejection s))) s.tracks) says_is

-- the limit of the frontend lets a candidate pass: the connection rules decide
pub admission_by : (candidate : Candidate) (accept_proxy : Bool) (real : PairValue) (others : ℕ) (views : List Track → RuleView) (says : Judged) → others < candidate.frontend.limit →
    view_of candidate real.source.addr ≡ views → says ≡ judged (scene_of views) candidate.frontend.connection_rules →
    admission candidate accept_proxy real others ≡ entry_reply candidate (accept_proxy || says.expects_header) real says.tracks (rejection says)
admission_by candidate accept_proxy real others views says less same says_is =
    let passes : nat_le candidate.frontend.limit others ≡ false = grind (arith, nat_tests) in
    ap (λ (b : Bool). if b then reply_of (Refuse candidate.id 0 (Line candidate.frontend.limit_line)) else entry_by (judged (scene_of (view_of candidate real.source.addr)) candidate.frontend.connection_rules)) passes
    ∙ ap entry_by (ap (λ (v : List Track → RuleView). judged (scene_of v) candidate.frontend.connection_rules) same ∙ sym says_is)
  where
    entry_by : Judged → Reply
    entry_by s = entry_reply candidate (accept_proxy || s.expects_header) real s.tracks (rejection s)

-- what a list of rules tracks may be tracked
pub allowed_then : (facts : RuleFacts) (earlier : TrackSlots) (rules : List Rule) (says : Judged) → says ≡ judged_after (scene_of (facts_view facts)) earlier rules → AreAllowed facts earlier → AreAllowed facts says.tracks
allowed_then facts earlier rules says is known = subst (λ (s : Judged). AreAllowed facts s.tracks) (sym is) (allowed_after facts earlier rules known)

-- also the first list of a step
pub allowed_first : (facts : RuleFacts) (rules : List Rule) (says : Judged) → says ≡ judged (scene_of (facts_view facts)) rules → AreAllowed facts says.tracks
allowed_first facts rules says is =
    allowed_then facts no_tracks rules says is (none_made (IsPossible (open_tracks facts.rows.now.frontends) (rows_at facts.moment facts.rows.now).tables (present facts.own) facts.source))
