-- A connection is lost or saved once at the most.
use Rattle.std.proofs.Common.{◌≡◌, ◌⊎◌, inl, inr, ℕ, Bool, true, false, List, [], ◌∷◌, Option, Some, None, Result, Ok, Err, refl, ap, sym, subst, ◌∙◌}
use Rattle.std.specs.Prelude.{◌&&◌, slice_get, is_some, if◌then◌else◌}
use Rattle.plan_types.specs.declared.plan.Plan.{Plan}
use Rattle.conn_model.specs.declared.event.ConnId.{ConnId}
use Rattle.conn_model.specs.declared.event.OwnedEvent.{OwnedEvent}
use Rattle.conn_model.specs.declared.event.OwnedEvent.TheVariants.{Accept, Piece, Connected, ConnectFailed, Close, Expire, Reload, Mark}
use Rattle.conn_model.specs.declared.plain.Assignment.{Assignment}
use Rattle.conn_model.specs.declared.plain.FrontendRows.{FrontendRows}
use Rattle.conn_model.specs.declared.plain.Plain.{Plain}
use Rattle.conn_model.specs.declared.reply.Reply.{Reply}
use Rattle.conn_model.specs.declared.reply.Said.{Said}
use Rattle.conn_model.specs.declared.reply.StepFault.{StepFault}
use Rattle.conn_model.specs.Answer.{answer_in, at_moment, failure_said, other_server, row_at, row_in, NumberedServer}
use Rattle.conn_model.specs.History.{Entry, IsLegal, after, entry, frontend_after, id_of, is_last, is_reload, opening, speaks_to}
use Rattle.conn_model.proofs.Replies.{answered, has_failed}
use Rattle.conn_model.proofs.Well.{opening_well, well_after}
use Rattle.conn_laws.specs.Deciding.{is_offer}
use Rattle.replay_core.specs.Turns.{plain_after}
use Rattle.whatif_core.specs.declared.decision.AfterFailure.{AfterFailure}
use Rattle.whatif_core.specs.declared.decision.AfterFailure.TheVariants.{Moved, Ended}
use Rattle.whatif_core.specs.Deciding.{after_failure, after_failure_by, after_failure_for, failure_outcome, is_failure, is_parted, played, stepped}
use Rattle.whatif_core.specs.Reporting.{history_report, parted_at, parted_of, trial_opening, turn_of, turn_with, HasParted}
use Rattle.whatif_core.proofs.LawLemmas.{arrived, before, contrary, ends, found_has, has, open_after, trial_after, Tied}
use Rattle.whatif_core.proofs.OnceLemmas.{given_on_answer, past_along, same_conn, speaks, IsBrought, IsPast}
use Rattle.whatif_core.proofs.MovedLemmas.{closed_offer, outcome_if, outcome_is}

-- ---- open connections

abbrev open_at : Plain → ConnId → Bool
open_at q id = is_some (row_at q.frontends id)

-- of a connection that is open after an entry: it was open before, or came, and the reply does not end it
abbrev IsOpened : Plain → Entry → ConnId → Type 0
IsOpened q e id = ((open_at q id ≡ true) ⊎ (arrived id.frontend id.serial e.event e.reply.said ≡ true)) × (ends e.reply.said id.frontend id.serial ≡ false)

opened : (q : Plain) (e : Entry) (id : ConnId) → open_at (after q (e ∷ [])) id ≡ true → IsOpened q e id
opened q e id is = by (slice_get (after q (e ∷ [])).frontends id.frontend) refl
  where
    of : (next : FrontendRows) → slice_get (after q (e ∷ [])).frontends id.frontend ≡ Some next → IsOpened q e id
    of next there =
        let was = before q e id.frontend next there in
        let now : has id.serial (frontend_after q (e ∷ []) id.frontend was.own).rows ≡ true =
        ap (λ (f : FrontendRows). has id.serial f.rows) (sym was.is) ∙ sym (found_has id.serial next.rows) ∙ sym (ap (λ (o : Option FrontendRows). is_some (row_in id.serial o)) there) ∙ is in
        let got = open_after q e id.frontend id.serial was.own now in (
          elim got.0 [
            | inl there_before ↦ inl (ap (λ (o : Option FrontendRows). is_some (row_in id.serial o)) was.there ∙ found_has id.serial was.own.rows ∙ there_before)
            | inr came ↦ inr came
          ],
          got.1,
        )

    by : (o : Option FrontendRows) → slice_get (after q (e ∷ [])).frontends id.frontend ≡ o → IsOpened q e id
    by None none = absurd (let wrong : false ≡ true = sym (ap (λ (o : Option FrontendRows). is_some (row_in id.serial o)) none) ∙ is in cc)
    by (Some next) there = of next there

open_brought : IsBrought open_at
open_brought q e id is = (opened q e id is).0

-- an answer that ends a connection leaves it closed
shut_by : (q : Plain) (e : Entry) (id : ConnId) → id_of e.reply.said ≡ Some id → is_last e.reply.said ≡ true → open_at (after q (e ∷ [])) id ≡ true → ⊥
shut_by q e id whom last is =
    contrary (ends e.reply.said id.frontend id.serial) ⊥ (ap (λ b. b && speaks_to id.frontend id.serial e.reply.said) last ∙ speaks id e.reply.said whom) (opened q e id is).1

-- ---- what a lost or saved connection says

record Parts (p n : Plain) (moment : ℕ) (event : OwnedEvent) (reply : Reply) (id : ConnId) : Type 0 where
  is_event : event ≡ ConnectFailed id
  whom : id_of reply.said ≡ Some id
  theirs : Reply
  answers : answer_in n moment (ConnectFailed id) ≡ Ok theirs
  apart : is_parted (Some (failure_outcome reply.said)) (Some (failure_outcome theirs.said)) ≡ true

none_parted : (came : Option AfterFailure) → is_parted came None ≡ false
none_parted None = refl
none_parted (Some Moved) = refl
none_parted (Some Ended) = refl

chosen_some : (b : Bool) (o : Option ConnId) (id : ConnId) → (if b then o else None) ≡ Some id → (b ≡ true) × (o ≡ Some id)
chosen_some true o id is = (refl, is)
chosen_some false o id is = absurd (let wrong : None ≡ Some id = is in cc)

parts_failed : (p n : Plain) (moment : ℕ) (own : ConnId) (reply : Reply) (id : ConnId) → answer_in p moment (ConnectFailed own) ≡ Ok reply → parted_of (turn_of p n (entry moment (ConnectFailed own) reply)) ≡ Some id →
    Parts p n moment (ConnectFailed own) reply id
parts_failed p n moment own reply id is now = by (answer_in n moment (ConnectFailed own)) refl
  where
    both : (is_parted (after_failure p moment (ConnectFailed own)) (after_failure n moment (ConnectFailed own)) ≡ true) × (id_of reply.said ≡ Some id)
    both = chosen_some (is_parted (after_failure p moment (ConnectFailed own)) (after_failure n moment (ConnectFailed own))) (id_of reply.said) id now

    same : own ≡ id
    same = same_conn own id (id_of reply.said) (answered p moment (ConnectFailed own) reply is).speaks both.1

    ours : is_parted (Some (failure_outcome reply.said)) (after_failure n moment (ConnectFailed own)) ≡ true
    ours = ap (λ o. is_parted o (after_failure n moment (ConnectFailed own))) (sym (outcome_is p moment own reply is)) ∙ both.0

    by : (answer : Result Reply StepFault) → answer_in n moment (ConnectFailed own) ≡ answer → Parts p n moment (ConnectFailed own) reply id
    by (Err fault) answers =
        contrary (is_parted (Some (failure_outcome reply.said)) (after_failure n moment (ConnectFailed own))) (Parts p n moment (ConnectFailed own) reply id) ours
        (ap (λ a. is_parted (Some (failure_outcome reply.said)) (after_failure_by (ConnectFailed own) a)) answers ∙ none_parted (Some (failure_outcome reply.said)))
    by (Ok theirs) answers = record {
      is_event = ap ConnectFailed same;
      whom = both.1;
      theirs = theirs;
      answers = ap (λ i. answer_in n moment (ConnectFailed i)) (sym same) ∙ answers;
      apart = ap (λ o. is_parted (Some (failure_outcome reply.said)) o) (sym (outcome_is n moment own theirs answers)) ∙ ours;
    }

nothing_came : (p : Plain) (moment : ℕ) (event : OwnedEvent) (reply : Reply) → answer_in p moment event ≡ Ok reply → is_failure event ≡ false → (would_come : Option AfterFailure) → is_parted (after_failure p moment event) would_come ≡ true → ⊥
nothing_came p moment event reply is other would_come now =
    contrary (is_parted (after_failure p moment event) would_come) ⊥ now
    (ap (λ a. is_parted (after_failure_by event a) would_come) is ∙ ap (λ b. is_parted (if b then Some (failure_outcome reply.said) else None) would_come) other)

not_parted : (p n : Plain) (moment : ℕ) (event : OwnedEvent) (reply : Reply) (id : ConnId) → answer_in p moment event ≡ Ok reply → is_failure event ≡ false → parted_of (turn_of p n (entry moment event reply)) ≡ Some id → ⊥
not_parted p n moment event reply id is other now = by (is_reload event) now
  where
    by : (b : Bool) → parted_of (if b then None else Some (turn_with p n (entry moment event reply))) ≡ Some id → ⊥
    by true turned = let wrong : None ≡ Some id = turned in cc
    by false turned =
        nothing_came p moment event reply is other (after_failure_for p.versions n moment event)
        (chosen_some (is_parted (after_failure p moment event) (after_failure_for p.versions n moment event)) (id_of reply.said) id turned).0

parts : (p n : Plain) (moment : ℕ) (event : OwnedEvent) (reply : Reply) (id : ConnId) → answer_in p moment event ≡ Ok reply → parted_of (turn_of p n (entry moment event reply)) ≡ Some id → Parts p n moment event reply id
parts p n moment (Accept listener real) reply id is now = absurd (not_parted p n moment (Accept listener real) reply id is refl now)
parts p n moment (Piece own bytes) reply id is now = absurd (not_parted p n moment (Piece own bytes) reply id is refl now)
parts p n moment (Connected own) reply id is now = absurd (not_parted p n moment (Connected own) reply id is refl now)
parts p n moment (ConnectFailed own) reply id is now = parts_failed p n moment own reply id is now
parts p n moment (Close own why) reply id is now = absurd (not_parted p n moment (Close own why) reply id is refl now)
parts p n moment (Expire own) reply id is now = absurd (not_parted p n moment (Expire own) reply id is refl now)
parts p n moment (Reload text) reply id is now = absurd (not_parted p n moment (Reload text) reply id is refl now)
parts p n moment (Mark number k health) reply id is now = absurd (not_parted p n moment (Mark number k health) reply id is refl now)

-- ---- it is closed in one of both

ended_is : (id : ConnId) (given : Assignment) (other : Option NumberedServer) → is_offer (failure_said id given other) ≡ false → is_last (failure_said id given other) ≡ true
ended_is id given None unoffered = refl
ended_is id given (Some other) unoffered = absurd (let wrong : true ≡ false = unoffered in cc)

last_of : (q : Plain) (moment : ℕ) (id : ConnId) (reply : Reply) → answer_in q moment (ConnectFailed id) ≡ Ok reply → is_offer reply.said ≡ false → is_last reply.said ≡ true
last_of q moment id reply is unoffered =
    let got = has_failed (at_moment moment q) id reply is in
    sym (ap (λ (r : Reply). is_last r.said) got.reply_is)
    ∙ ended_is id got.given (other_server (at_moment moment q) got.row got.given) (ap (λ (r : Reply). is_offer r.said) got.reply_is ∙ unoffered)

other_ended : (b : Bool) → is_parted (Some Moved) (outcome_if b) ≡ true → b ≡ false
other_ended true apart = absurd (let wrong : false ≡ true = apart in cc)
other_ended false apart = refl

past_failed : (plan : Plan) (h : List Entry) (n : Plain) (moment : ℕ) (reply theirs : Reply) (id : ConnId) → IsLegal (opening plan 0) h → answer_in (after (opening plan 0) h) moment (ConnectFailed id) ≡ Ok reply →
    id_of reply.said ≡ Some id → answer_in n moment (ConnectFailed id) ≡ Ok theirs → is_parted (Some (failure_outcome reply.said)) (Some (failure_outcome theirs.said)) ≡ true →
    IsPast open_at (after (after (opening plan 0) h) (entry moment (ConnectFailed id) reply ∷ [])) (played (after (opening plan 0) h).versions n moment (ConnectFailed id) reply.said) id
past_failed plan h n moment reply theirs id legal is whom answers apart =
    let given = given_on_answer p (well_after (opening plan 0) (opening_well plan 0) h legal) moment (ConnectFailed id) reply id is refl whom in
    record { own = given.own; there = given.there; given = given.given; once = λ first second. by (is_offer reply.said) refl first second }
  where
    p : Plain
    p = after (opening plan 0) h

    by : (b : Bool) → is_offer reply.said ≡ b → open_at (after p (entry moment (ConnectFailed id) reply ∷ [])) id ≡ true → open_at (played p.versions n moment (ConnectFailed id) reply.said) id ≡ true → ⊥
    by false ended first second = shut_by p (entry moment (ConnectFailed id) reply) id whom (last_of p moment id reply is ended) first
    by true offered first second =
        let next : Plain = stepped n moment (ConnectFailed id) in
        let theirs_ended : is_offer theirs.said ≡ false = other_ended (is_offer theirs.said) (ap (λ b. is_parted (outcome_if b) (Some (failure_outcome theirs.said))) (sym offered) ∙ apart) in
        let stepped_open : open_at next id ≡ true = sym (ap (λ q. open_at q id) (closed_offer moment reply.said next offered)) ∙ second in
        let theirs_open : open_at (after n (entry moment (ConnectFailed id) theirs ∷ [])) id ≡ true = sym (ap (λ a. open_at (plain_after n moment (ConnectFailed id) a) id) answers) ∙ stepped_open in
        shut_by n (entry moment (ConnectFailed id) theirs) id (answered n moment (ConnectFailed id) theirs answers).speaks (last_of n moment id theirs answers theirs_ended) theirs_open

past_parted : (plan : Plan) (h : List Entry) (n : Plain) (moment : ℕ) (event : OwnedEvent) (reply : Reply) (id : ConnId) → IsLegal (opening plan 0) h → answer_in (after (opening plan 0) h) moment event ≡ Ok reply →
    Parts (after (opening plan 0) h) n moment event reply id → IsPast open_at (after (after (opening plan 0) h) (entry moment event reply ∷ [])) (played (after (opening plan 0) h).versions n moment event reply.said) id
past_parted plan h n moment event reply id legal is got =
    let p : Plain = after (opening plan 0) h in
    subst (λ ev. IsPast open_at (after p (entry moment ev reply ∷ [])) (played p.versions n moment ev reply.said) id) (sym got.is_event)
    (past_failed plan h n moment reply got.theirs id legal (ap (λ ev. answer_in p moment ev) (sym got.is_event) ∙ is) got.whom got.answers got.apart)

-- ---- along a history

parted_past : (plan : Plan) (text : List ℕ) (trial : Plain) (h : List Entry) (id : ConnId) → trial_opening plan text ≡ Ok trial → IsLegal (opening plan 0) h → HasParted (opening plan 0) trial id h →
    IsPast open_at (after (opening plan 0) h) (trial_after plan trial h) id
parted_past plan text trial h id opens = past_along open_at open_brought plan text trial id (HasParted (opening plan 0) trial id) (λ g. parted_at (opening plan 0) trial g ≡ Some id) opens (λ has. has) (λ g e has. has)
    (λ g e legal now. past_parted plan g (trial_after plan trial g) e.moment e.event e.reply id legal.0 legal.1 (parts (after (opening plan 0) g) (trial_after plan trial g) e.moment e.event e.reply id legal.1 now)) h

pub one_parting : (plan : Plan) (text : List ℕ) (trial : Plain) (h : List Entry) (e : Entry) (id : ConnId) → trial_opening plan text ≡ Ok trial → IsLegal (opening plan 0) (e ∷ h) →
    HasParted (opening plan 0) trial id h → parted_at (opening plan 0) trial (e ∷ h) ≡ Some id → ⊥
one_parting plan text trial h e id opens legal first second =
    let p : Plain = after (opening plan 0) h in
    let n : Plain = (history_report false (opening plan 0) trial h).trial in
    let got = parts p n e.moment e.event e.reply id legal.1 second in
    let mine = answered p e.moment (ConnectFailed id) e.reply (ap (λ ev. answer_in p e.moment ev) (sym got.is_event) ∙ legal.1) in
    let theirs = answered n e.moment (ConnectFailed id) got.theirs got.answers in
    (parted_past plan text trial h id opens legal.0 first).once (ap is_some mine.there) (ap is_some theirs.there)
