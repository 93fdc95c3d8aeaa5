-- Why a connection is refused.
use Rattle.std.specs.Prelude.{ℕ, Bool, true, false, List, [], length, max, Option, Some, None, Result, Ok, Err, refl, nat_le, ◌+◌, ◌<◌, ◌++◌, ◌≡◌, if◌then◌else◌}
use Rattle.std.proofs.Common.{sym, ap, ◌∙◌, subst, arith, inl, inr}
use Rattle.std.proofs.lemmas.Bool.Decides.{nat_tests}
use Rattle.addr_core.specs.PairValue.{PairValue}
use Rattle.pp_v1.specs.declared.meaning.Meaning.{Meaning}
use Rattle.pp_any.specs.Header.{shifted}
use Rattle.pp_any.specs.NextPiece.{status_on}
use Rattle.pp_any.specs.Status as statuses
use Rattle.pp_any.specs.Status.{Status, status}
use Rattle.rule_engine.specs.Judging.{no_tracks, TrackSlots}
use Rattle.rule_engine.specs.declared.judging.Judged.{Judged}
use Rattle.plan_types.specs.declared.plan.Plan.{Plan}
use Rattle.plan_types.specs.declared.track.Track.{Track}
use Rattle.config_core.specs.Meaning.{meaning}
use Rattle.conn_model.specs.declared.event.ConnId.{ConnId}
use Rattle.conn_model.specs.declared.event.OwnedEvent.{OwnedEvent}
use Rattle.conn_model.specs.declared.event.OwnedEvent.TheVariants.{Accept, Piece, Connected, ConnectFailed, Close, Expire, Reload, Mark}
use Rattle.conn_model.specs.declared.event.Why.TheVariants.{Failed}
use Rattle.conn_model.specs.declared.reply.Cause.{Cause}
use Rattle.conn_model.specs.declared.reply.Cause.TheVariants.{Line, Header, Expired, NoBackend, NoServer}
use Rattle.conn_model.specs.declared.reply.Reply.{Reply}
use Rattle.conn_model.specs.declared.reply.Said.{Said}
use Rattle.conn_model.specs.declared.reply.Said.TheVariants as saids
use Rattle.conn_model.specs.declared.reply.Said.TheVariants.{Refuse}
use Rattle.conn_model.specs.declared.reply.StepFault.TheVariants.{NoSuch}
use Rattle.conn_model.specs.declared.plain.Plain.{Plain}
use Rattle.conn_model.specs.Words.{or_fault, row_at}
use Rattle.conn_model.specs.Rules.{rejection, scene_of, view_of, Candidate, RuleView}
use Rattle.conn_model.specs.Answer.{admission, decision, demands_header, entry_reply, entry_rules, header_reply, judged_pair, reply_of, said_of, server_for, server_unless, NumberedServer, at_moment, failure_said, other_server}
use Rattle.conn_model.specs.History.{after, answer, id_of, joined, opening, Entry, IsLegal}
use Rattle.conn_model.proofs.Replies.{accepted, admission-id, bind-ok, expired, followed, header_reply-id, received, server_answered, has_failed, reported}
use Rattle.conn_laws.specs.Deciding.{choice_view, newcomer, session_rules, session_tracks, waiting, Arrival, IsCause, IsNotRejected, IsRefusedAtAccept, IsRefusedAtPiece, IsWithheld, Waiter}
use Rattle.conn_laws.proofs.Rules.{not_rejected, rejected}
use Rattle.conn_laws.proofs.Named.{arrival_names, waiter_names, NamesBackends}
use Rattle.conn_laws.proofs.Unserved.{lacks, Lacks}
use Rattle.conn_laws.proofs.Offered.{arrival_of, piece_status, waiter_of}
use Rattle.conn_model.specs.declared.plain.Assignment.{Assignment}

-- A decision that refuses.

record Refuses (candidate : Candidate) (judged : PairValue) (made : TrackSlots) (used : ℕ) (cause : Cause) (count : ℕ) : Type 0 where
  pub used_is : used ≡ count
  pub withheld : IsWithheld candidate judged made cause

same_cause : (id other : ConnId) (used count : ℕ) (cause found : Cause) → Refuse id used cause ≡ Refuse other count found → (used ≡ count) × (cause ≡ found)
same_cause id other used count cause found is = (cc, cc)

-- a refusal names the connection that the reply speaks to
named : (said : Said) (id own : ConnId) (used : ℕ) (cause : Cause) → id_of said ≡ Some own → said ≡ Refuse id used cause → id ≡ own
named said id own used cause speaks is = let same : Some id ≡ Some own = ap id_of (sym is) ∙ speaks in cc

withheld_for : (candidate : Candidate) (judged : PairValue) (made : TrackSlots) (cause : Cause) → IsNotRejected (scene_of (view_of candidate judged.source.addr)) made candidate.frontend.session_rules → Lacks (choice_view candidate judged made) cause → IsWithheld candidate judged made cause
withheld_for candidate judged made (NoBackend line) none has = (none, has)
withheld_for candidate judged made (NoServer line) none has = (none, has)
withheld_for candidate judged made cause none has = absurd has

refuses : (candidate : Candidate) (used : ℕ) (judged : PairValue) (made : TrackSlots) (id : ConnId) (count : ℕ) (cause : Cause) → NamesBackends (length candidate.version.plan.backends) candidate.frontend → (decision candidate used judged made).said ≡ Refuse id count cause →
    Refuses candidate judged made used cause count
refuses candidate used judged made id count cause names is = by (rejection says) refl
  where
    says : Judged
    says = session_rules candidate judged made

    view : RuleView
    view = choice_view candidate judged made

    unserved : rejection says ≡ None → (r : Result NumberedServer Cause) → server_for view ≡ r → Refuses candidate judged made used cause count
    unserved none (Ok given) found = absurd (
        let wrong : said_of candidate.id used judged (Ok given) ≡ Refuse id count cause = sym (ap (λ o. said_of candidate.id used judged (server_unless view o)) none ∙ ap (said_of candidate.id used judged) found) ∙ is in cc
        )
    unserved none (Err found_cause) found =
        let now : Refuse candidate.id used found_cause ≡ Refuse id count cause = sym (ap (λ o. said_of candidate.id used judged (server_unless view o)) none ∙ ap (said_of candidate.id used judged) found) ∙ is in
        let both = same_cause candidate.id id used count found_cause cause now in
        record { used_is = both.0; withheld = subst (IsWithheld candidate judged made) both.1 (withheld_for candidate judged made found_cause (not_rejected (scene_of (view_of candidate judged.source.addr)) made candidate.frontend.session_rules none) (lacks view found_cause names found)) }

    by : (o : Option ℕ) → rejection says ≡ o → Refuses candidate judged made used cause count
    by None none = unserved none (server_for view) refl
    by (Some line) some =
        let now : Refuse candidate.id used (Line line) ≡ Refuse id count cause = sym (ap (λ o. said_of candidate.id used judged (server_unless view o)) some) ∙ is in
        let both = same_cause candidate.id id used count (Line line) cause now in
        record {
          used_is = both.0;
          withheld = subst (IsWithheld candidate judged made) both.1 (rejected (scene_of (view_of candidate judged.source.addr)) made candidate.frontend.session_rules line some);
        }

-- At an accept.

refused_at_accept : (candidate : Candidate) (accept_proxy : Bool) (real : PairValue) (others : ℕ) (id : ConnId) (used : ℕ) (cause : Cause) → NamesBackends (length candidate.version.plan.backends) candidate.frontend → (admission candidate accept_proxy real others).said ≡ Refuse id used cause →
    (used ≡ 0) × IsRefusedAtAccept candidate accept_proxy real others cause (admission candidate accept_proxy real others).tracks.items
refused_at_accept candidate accept_proxy real others id used cause names is = by (nat_le candidate.frontend.limit others) refl
  where
    says : Judged
    says = entry_rules candidate real

    demanded : Bool
    demanded = demands_header candidate accept_proxy real

    limited : Bool → Reply
    limited b = if b then reply_of (Refuse candidate.id 0 (Line candidate.frontend.limit_line)) else entry_reply candidate demanded real says.tracks (rejection says)

    tracks : List Track
    tracks = (admission candidate accept_proxy real others).tracks.items

    less : nat_le candidate.frontend.limit others ≡ false → others < candidate.frontend.limit
    less within = grind (arith, nat_tests)

    ruled_by : nat_le candidate.frontend.limit others ≡ false → (o : Option ℕ) → rejection says ≡ o → tracks ≡ (entry_reply candidate demanded real says.tracks o).tracks.items
    ruled_by within o is_o = ap (λ b. (limited b).tracks.items) within ∙ ap (λ o. (entry_reply candidate demanded real says.tracks o).tracks.items) is_o

    expects : nat_le candidate.frontend.limit others ≡ false → rejection says ≡ None → (b : Bool) → demanded ≡ b → (entry_reply candidate demanded real says.tracks None).said ≡ Refuse id used cause →
        (used ≡ 0) × IsRefusedAtAccept candidate accept_proxy real others cause tracks
    expects within none true proxied now = absurd (let wrong : saids.Wait candidate.id 0 ≡ Refuse id used cause = sym (ap (λ b. (entry_reply candidate b real says.tracks None).said) proxied) ∙ now in cc)
    expects within none false proxied now =
        let got = refuses candidate 0 real says.tracks id used cause names (sym (ap (λ b. (entry_reply candidate b real says.tracks None).said) proxied) ∙ now) in (
          sym got.used_is,
          inr (
              inr (
              record {
                no_header = proxied;
                admitted = record { limit = less within; rules = not_rejected (scene_of (view_of candidate real.source.addr)) no_tracks candidate.frontend.connection_rules none };
                withheld = got.withheld;
                tracks_are = ruled_by within None none ∙ ap (λ b. (entry_reply candidate b real says.tracks None).tracks.items) proxied;
              }
              )
              ),
        )

    ruled : nat_le candidate.frontend.limit others ≡ false → (o : Option ℕ) → rejection says ≡ o → (entry_reply candidate demanded real says.tracks (rejection says)).said ≡ Refuse id used cause →
        (used ≡ 0) × IsRefusedAtAccept candidate accept_proxy real others cause tracks
    ruled within None none now = expects within none demanded refl (sym (ap (λ o. (entry_reply candidate demanded real says.tracks o).said) none) ∙ now)
    ruled within (Some line) some now =
        let refusal : Refuse candidate.id 0 (Line line) ≡ Refuse id used cause = sym (ap (λ o. (entry_reply candidate demanded real says.tracks o).said) some) ∙ now in
        let both = same_cause candidate.id id 0 used (Line line) cause refusal in (
          sym both.0,
          inr (
              inl (
              record {
                limit = less within;
                line = line;
                cause_is = sym both.1;
                rejected = rejected (scene_of (view_of candidate real.source.addr)) no_tracks candidate.frontend.connection_rules line some;
                tracks_are = ruled_by within (Some line) some;
              }
              )
              ),
        )

    by : (b : Bool) → nat_le candidate.frontend.limit others ≡ b → (used ≡ 0) × IsRefusedAtAccept candidate accept_proxy real others cause tracks
    by true over =
        let refusal : Refuse candidate.id 0 (Line candidate.frontend.limit_line) ≡ Refuse id used cause = sym (ap (λ b. (limited b).said) over) ∙ is in
        let both = same_cause candidate.id id 0 used (Line candidate.frontend.limit_line) cause refusal in
        (sym both.0, inl (record { limit = grind (arith, nat_tests, over); cause_is = sym both.1; tracks_are = ap (λ b. (limited b).tracks.items) over }))
    by false within = ruled within (rejection says) refl (sym (ap (λ b. (limited b).said) within) ∙ is)

-- At a piece.

whole_refused : (q : Plain) (moment : ℕ) (id : ConnId) (waiter : Waiter q id) (bytes : List ℕ) (count : ℕ) (meaning : Meaning) (cause : Cause) (tracks : List Track) → status bytes ≡ statuses.Whole count meaning →
    IsWithheld (waiting q moment id waiter) (judged_pair waiter.row.real meaning) no_tracks cause → tracks ≡ session_tracks (waiting q moment id waiter) (judged_pair waiter.row.real meaning) no_tracks → IsRefusedAtPiece q moment id waiter bytes count cause tracks
whole_refused q moment id waiter bytes count meaning (Header fault) tracks is withheld made = absurd withheld
whole_refused q moment id waiter bytes count meaning Expired tracks is withheld made = absurd withheld
whole_refused q moment id waiter bytes count meaning cause tracks is withheld made = record { meaning = meaning; header = is; withheld = withheld; tracks_are = made }

refused_at_piece : (q : Plain) (moment : ℕ) (id : ConnId) (waiter : Waiter q id) (bytes piece : List ℕ) (before : ℕ) (other : ConnId) (used : ℕ) (cause : Cause) (state : Status) → NamesBackends (length waiter.version.plan.backends) waiter.frontend → status bytes ≡ shifted before state →
    (header_reply (waiting q moment id waiter) waiter.row.real (length piece) state).said ≡ Refuse other used cause →
    IsRefusedAtPiece q moment id waiter bytes (used + before) cause (header_reply (waiting q moment id waiter) waiter.row.real (length piece) state).tracks.items
refused_at_piece q moment id waiter bytes piece before other used cause statuses.Wait names state_is is = absurd (let wrong : saids.Wait id (length piece) ≡ Refuse other used cause = is in cc)
refused_at_piece q moment id waiter bytes piece before other used cause (statuses.Fault fault count) names state_is is =
    let both = same_cause id other count used (Header fault) cause is in
    subst (λ c. IsRefusedAtPiece q moment id waiter bytes (used + before) c []) both.1 (state_is ∙ ap (λ n. statuses.Fault fault (n + before)) both.0, refl)
refused_at_piece q moment id waiter bytes piece before other used cause (statuses.Whole count meaning) names state_is is =
    let got = refuses (waiting q moment id waiter) count (judged_pair waiter.row.real meaning) no_tracks other used cause names is in
    whole_refused q moment id waiter bytes (used + before) meaning cause (session_tracks (waiting q moment id waiter) (judged_pair waiter.row.real meaning) no_tracks) (state_is ∙ ap (λ n. statuses.Whole (n + before) meaning) got.used_is) got.withheld refl

-- Whole histories.

no_refusal : (reply : Reply) (said : Said) (id : ConnId) (used : ℕ) (cause : Cause) → reply_of said ≡ reply → reply.said ≡ Refuse id used cause → said ≡ Refuse id used cause
no_refusal reply said id used cause is refused = ap (λ (r : Reply). r.said) is ∙ refused

failure_refuses_none : (own : ConnId) (given : Assignment) (other : Option NumberedServer) (id : ConnId) (used : ℕ) (cause : Cause) → failure_said own given other ≡ Refuse id used cause → ⊥
failure_refuses_none own given None id used cause is = let wrong : saids.Closed own Failed ≡ Refuse id used cause = is in cc
failure_refuses_none own given (Some other) id used cause is = let wrong : said_of own 0 given.judged (Ok other) ≡ Refuse id used cause = is in cc

pub refused_for_cause : (text : List ℕ) (plan : Plan) (last : ℕ) (h : List Entry) → meaning text ≡ Ok plan → IsLegal (opening plan last) h → (moment : ℕ) (event : OwnedEvent) (reply : Reply) (id : ConnId) (used : ℕ) (cause : Cause) →
    answer (opening plan last) h moment event ≡ Ok reply → reply.said ≡ Refuse id used cause → IsCause (after (opening plan last) h) (λ id. joined id h) moment event id used cause reply.tracks.items
refused_for_cause text plan last h meant legal moment (Accept listener real) reply id used cause is said_is =
    let q : Plain = after (opening plan last) h in
    let got = accepted (at_moment moment q) (max q.clock moment) listener real reply is in
    let arrival : Arrival q listener = arrival_of q moment listener real reply got in
    let candidate : Candidate = newcomer q moment real listener arrival in
    let now : (admission candidate got.at.accept_proxy real (length got.own.rows)).said ≡ Refuse id used cause = ap (λ (r : Reply). r.said) got.reply_is ∙ said_is in
    let refused = refused_at_accept candidate got.at.accept_proxy real (length got.own.rows) id used cause (arrival_names text plan last h meant legal listener arrival) now in (
      refused.0,
      (
        arrival,
        named (admission candidate got.at.accept_proxy real (length got.own.rows)).said id candidate.id used cause (admission-id candidate got.at.accept_proxy real (length got.own.rows)) now,
        subst (λ t. IsRefusedAtAccept candidate got.at.accept_proxy real (length got.own.rows) cause t) (ap (λ (r : Reply). r.tracks.items) got.reply_is) refused.1,
      ),
    )
refused_for_cause text plan last h meant legal moment (Piece own piece) reply id used cause is said_is =
    let q : Plain = after (opening plan last) h in
    let got = received (at_moment moment q) own piece reply is in
    let waiter : Waiter q own = waiter_of q moment own piece reply got in
    let whole : Reply = header_reply (waiting q moment own waiter) waiter.row.real (length piece) (status_on waiter.rest piece) in
    let now : whole.said ≡ Refuse id used cause = ap (λ (r : Reply). r.said) got.reply_is ∙ said_is in
    let refused = refused_at_piece q moment own waiter (joined own h ++ piece) piece (length (joined own h)) id used cause (status_on waiter.rest piece) (waiter_names text plan last h meant legal own waiter) (piece_status plan last h legal own piece waiter) now in (
      named whole.said id own used cause (header_reply-id (waiting q moment own waiter) waiter.row.real (length piece) (status_on waiter.rest piece)) now,
      (
        waiter,
        subst (λ t. IsRefusedAtPiece q moment own waiter (joined own h ++ piece) (used + length (joined own h)) cause t) (ap (λ (r : Reply). r.tracks.items) got.reply_is) refused,
      ),
    )
refused_for_cause text plan last h meant legal moment (Connected own) reply id used cause is said_is =
    let q : Plain = after (opening plan last) h in
    absurd (let wrong : saids.Up own ≡ Refuse id used cause = no_refusal reply (saids.Up own) id used cause (server_answered (at_moment moment q) own (saids.Up own) reply is).reply_is said_is in cc)
refused_for_cause text plan last h meant legal moment (ConnectFailed own) reply id used cause is said_is =
    let q : Plain = after (opening plan last) h in
    let got = has_failed (at_moment moment q) own reply is in
    absurd (failure_refuses_none own got.given (other_server q got.row got.given) id used cause (ap (λ (r : Reply). r.said) got.reply_is ∙ said_is))
refused_for_cause text plan last h meant legal moment (Close own why) reply id used cause is said_is =
    let q : Plain = after (opening plan last) h in
    let one = bind-ok (or_fault NoSuch (row_at q.frontends own)) _ reply is in
    let same : reply_of (saids.Closed own why) ≡ reply = let it : Ok (reply_of (saids.Closed own why)) ≡ Ok reply = one.2 in cc in
    absurd (let wrong : saids.Closed own why ≡ Refuse id used cause = no_refusal reply (saids.Closed own why) id used cause same said_is in cc)
refused_for_cause text plan last h meant legal moment (Expire own) reply id used cause is said_is =
    let q : Plain = after (opening plan last) h in
    let got = expired (at_moment moment q) (max q.clock moment) own reply is in
    let now : Refuse own 0 Expired ≡ Refuse id used cause = no_refusal reply (Refuse own 0 Expired) id used cause got.reply_is said_is in
    let both = same_cause own id 0 used Expired cause now in
    let due = got.due in (
      named (Refuse own 0 Expired) id own used cause refl now,
      sym both.0,
      record { waiter_row = got.row; row_is = got.row_is; rest = got.rest; waits = got.waits; late = grind (arith, nat_tests, due); cause_is = sym both.1; tracks_are = ap (λ (r : Reply). r.tracks.items) (sym got.reply_is) },
    )
refused_for_cause text plan last h meant legal moment (Reload config) reply id used cause is said_is =
    let q : Plain = after (opening plan last) h in
    let got = followed (at_moment moment q) config reply is in
    absurd (let wrong : saids.Reloaded (got.version.number + 1) ≡ Refuse id used cause = no_refusal reply (saids.Reloaded (got.version.number + 1)) id used cause got.reply_is said_is in cc)
refused_for_cause text plan last h meant legal moment (Mark number n health) reply id used cause is said_is =
    let q : Plain = after (opening plan last) h in
    let got = reported (at_moment moment q) number n health reply is in
    absurd (let wrong : saids.Marked got.found.1.line health ≡ Refuse id used cause = no_refusal reply (saids.Marked got.found.1.line health) id used cause got.reply_is said_is in cc)
