-- What is hidden in a report is hidden behind a difference, or behind a connection that was lost or saved, or is not due in the trial.
use Rattle.std.proofs.Common.{◌≡◌, ◌⊎◌, inl, inr, ℕ, ◌+◌, Bool, true, false, List, ◌∷◌, Option, Some, None, Result, Ok, Err, refl, ap, sym, ◌∙◌, max}
use Rattle.std.specs.Prelude.{is_some, nat_le, if◌then◌else◌}
use Rattle.plan_types.specs.declared.plan.Plan.{Plan}
use Rattle.conn_model.specs.declared.event.ConnId.{ConnId}
use Rattle.conn_model.specs.declared.event.OwnedEvent.{OwnedEvent}
use Rattle.conn_model.specs.declared.event.OwnedEvent.TheVariants.{Accept, Piece, Connected, ConnectFailed, Close, Expire, Reload, Mark}
use Rattle.conn_model.specs.declared.event.TheConstants.{HEADER_WAIT}
use Rattle.conn_model.specs.declared.plain.Plain.{Plain}
use Rattle.conn_model.specs.declared.reply.Cause.TheVariants.{Expired}
use Rattle.conn_model.specs.declared.reply.Reply.{Reply}
use Rattle.conn_model.specs.declared.reply.Said.{Said}
use Rattle.conn_model.specs.declared.reply.Said.TheVariants as saids
use Rattle.conn_model.specs.declared.reply.StepFault.TheVariants.{NoSuch, NotDue}
use Rattle.conn_model.specs.Answer.{answer_in, at_moment, reply_of, rest_in, row_at}
use Rattle.conn_model.specs.History.{Entry, IsLegal, after, id_of, opening}
use Rattle.conn_model.specs.Words.{or_fault}
use Rattle.conn_model.proofs.Replies.{answered, bind-ok, expired, received, server_answered}
use Rattle.conn_laws.specs.Deciding.{is_judgement}
use Rattle.whatif_core.specs.Deciding.{after_failure, decided, decided_by, decision_of, is_failure, stepped}
use Rattle.whatif_core.specs.Reporting.{history_report, trial_opening, IsSeen}
use Rattle.whatif_core.proofs.LawLemmas.{accept_outcome, all_tied, contrary, trial_after, Outcome, Tied}
use Rattle.whatif_core.proofs.OnceLemmas.{decides, same_conn, waits_at, waits_here}
use Rattle.whatif_core.proofs.WaitingLemmas.{judged_on, waiting_row_at, waits_in_both, WaitingRow}
use Rattle.whatif_core.proofs.MovedLemmas.{failed_awaits, failure_answered, offered_in_both, of_three, outcome_is}

decided_some : (q : Plain) (moment : ℕ) (event : OwnedEvent) (reply : Reply) → answer_in q moment event ≡ Ok reply → is_failure event ≡ false → is_judgement reply.said ≡ true → is_some (decided q moment event) ≡ true
decided_some q moment event reply is no_failure judged =
    ap (λ a. is_some (decided_by (stepped q moment event) event a)) is
    ∙ ap (λ b. is_some (if b then None else decision_of (stepped q moment event) reply.said)) no_failure
    ∙ decides (stepped q moment event) reply.said ∙ judged

abbrev IsDecidedOr : Plain → ℕ → OwnedEvent → Type 0
IsDecidedOr n moment event = (is_some (decided n moment event) ≡ true) ⊎ (answer_in n moment event ≡ Err NotDue)

piece_seen : (plan : Plan) (n : Plain) (past : List Entry) → IsLegal (opening plan 0) past → n ≡ after (opening plan 0) past → (moment : ℕ) (id : ConnId) (bytes : List ℕ) → waits_at n id ≡ true → is_some (decided n moment (Piece id bytes)) ≡ true
piece_seen plan n past legal is moment id bytes waits = let judged = judged_on plan n past legal is moment id bytes waits in decided_some n moment (Piece id bytes) judged.0 judged.1 refl judged.2

expiry_seen : (n : Plain) (moment : ℕ) (id : ConnId) → waits_at n id ≡ true → IsDecidedOr n moment (Expire id)
expiry_seen n moment id waits = of (waiting_row_at n id waits)
  where
    of : WaitingRow n id → IsDecidedOr n moment (Expire id)
    of here = by_rest (rest_in here.row.phase) refl here.waits (nat_le (here.row.accepted + HEADER_WAIT) (max n.clock moment)) refl
      where
        by_rest : (rest : Option _) → rest_in here.row.phase ≡ rest → is_some rest ≡ true → (b : Bool) → nat_le (here.row.accepted + HEADER_WAIT) (max n.clock moment) ≡ b → IsDecidedOr n moment (Expire id)
        by_rest None none is b due = absurd (let wrong : false ≡ true = is in cc)
        by_rest (Some rest) some is true due = inl (decided_some n moment (Expire id) (reply_of (saids.Refuse id 0 Expired)) (rw (here.there, some, due) refl) refl refl)
        by_rest (Some rest) some is false due = inr (rw (here.there, some, due) refl)

-- of a connection whose server is out of reach by the record
failure_seen : (plan : Plan) (text : List ℕ) (trial : Plain) (h : List Entry) (e : Entry) (own id : ConnId) → trial_opening plan text ≡ Ok trial → IsLegal (opening plan 0) (e ∷ h) → e.event ≡ ConnectFailed own → id_of e.reply.said ≡ Some id →
    IsSeen (opening plan 0) trial id e h
failure_seen plan text trial h e own id opens legal is whom =
    let p : Plain = after (opening plan 0) h in
    let n : Plain = (history_report false (opening plan 0) trial h).trial in
    let now : answer_in p e.moment (ConnectFailed own) ≡ Ok e.reply = ap (λ ev. answer_in p e.moment ev) (sym is) ∙ legal.1 in
    let same : own ≡ id = same_conn own id (id_of e.reply.said) (answered p e.moment (ConnectFailed own) e.reply now).speaks whom in
    let of_id : e.event ≡ ConnectFailed id = is ∙ ap ConnectFailed same in
    let mine : answer_in p e.moment (ConnectFailed id) ≡ Ok e.reply = ap (λ ev. answer_in p e.moment ev) (sym of_id) ∙ legal.1 in
    of_three (offered_in_both plan text trial h id opens legal.0 (failed_awaits p e.moment id e.reply mine)) (λ different. inr (inr (inl different))) (λ parted. inr (inr (inr (inl parted))))
    (λ there.
    let theirs = failure_answered n e.moment id there in
    inr (inl (ap (λ ev. is_some (after_failure n e.moment ev)) of_id ∙ ap is_some (outcome_is n e.moment id theirs.0 theirs.1))))

pub seen : (plan : Plan) (text : List ℕ) (trial : Plain) (h : List Entry) (e : Entry) (id : ConnId) → trial_opening plan text ≡ Ok trial → IsLegal (opening plan 0) (e ∷ h) → is_judgement e.reply.said ≡ true → id_of e.reply.said ≡ Some id →
    IsSeen (opening plan 0) trial id e h
seen plan text trial h e id opens legal judged whom = by e.event refl
  where
    p : Plain
    p = after (opening plan 0) h

    n : Plain
    n = trial_after plan trial h

    tied : Tied plan p n
    tied = all_tied false plan text trial h opens legal.0

    answers : (event : OwnedEvent) → e.event ≡ event → answer_in p e.moment event ≡ Ok e.reply
    answers event is = ap (λ ev. answer_in p e.moment ev) (sym is) ∙ legal.1

    none : (said : Said) → said ≡ e.reply.said → is_judgement said ≡ false → IsSeen (opening plan 0) trial id e h
    none said same other = contrary (is_judgement e.reply.said) (IsSeen (opening plan 0) trial id e h) judged (ap is_judgement (sym same) ∙ other)

    by : (event : OwnedEvent) → e.event ≡ event → IsSeen (opening plan 0) trial id e h
    by (Accept listener real) is = of (accept_outcome plan h n e.moment listener real e.reply legal.0 (answers (Accept listener real) is) tied)
      where
        of : Outcome n e.moment (Accept listener real) e.reply.said → IsSeen (opening plan 0) trial id e h
        of (inl (fault, refused, wrong)) = absurd (cc)
        of (inr (theirs, found, agree)) = inl (ap (λ ev. is_some (decided n e.moment ev)) is ∙ decided_some n e.moment (Accept listener real) theirs found refl agree.2)
    by (Piece own bytes) is =
        let got = received (at_moment e.moment p) own bytes e.reply (answers (Piece own bytes) is) in
        let same : own ≡ id = same_conn own id (id_of e.reply.said) (answered p e.moment (Piece own bytes) e.reply (answers (Piece own bytes) is)).speaks whom in
        elim (waits_in_both plan text trial h id opens legal.0 (ap (waits_at p) (sym same) ∙ waits_here p own got.row got.row_is (ap is_some got.waits))) [
          | inl different ↦ inr (inr (inl different))
          | inr there ↦ inl (ap (λ ev. is_some (decided n e.moment ev)) (is ∙ ap (λ i. Piece i bytes) same) ∙ piece_seen plan n tied.past tied.legal tied.is e.moment id bytes there)
        ]
    by (Connected own) is = none (saids.Up own) (ap (λ (r : Reply). r.said) (server_answered p own (saids.Up own) e.reply (answers (Connected own) is)).reply_is) refl
    by (ConnectFailed own) is = failure_seen plan text trial h e own id opens legal is whom
    by (Close own why) is =
        let one = bind-ok (or_fault NoSuch (row_at p.frontends own)) _ e.reply (answers (Close own why) is) in
        let it : reply_of (saids.Closed own why) ≡ e.reply = let both : Ok (reply_of (saids.Closed own why)) ≡ Ok e.reply = one.2 in cc in
        none (saids.Closed own why) (ap (λ (r : Reply). r.said) it) refl
    by (Expire own) is =
        let got = expired (at_moment e.moment p) (max p.clock e.moment) own e.reply (answers (Expire own) is) in
        let same : own ≡ id = same_conn own id (id_of e.reply.said) (answered p e.moment (Expire own) e.reply (answers (Expire own) is)).speaks whom in
        let of_id : e.event ≡ Expire id = is ∙ ap Expire same in
        elim (waits_in_both plan text trial h id opens legal.0 (ap (waits_at p) (sym same) ∙ waits_here p own got.row got.row_is (ap is_some got.waits))) [
          | inl different ↦ inr (inr (inl different))
          | inr there ↦ elim (expiry_seen n e.moment id there) [
            | inl some ↦ inl (ap (λ ev. is_some (decided n e.moment ev)) of_id ∙ some)
            | inr early ↦ inr (inr (inr (inr (ap (λ ev. answer_in n e.moment ev) of_id ∙ early))))
          ]
        ]
    by (Reload text) is = none _ (sym (answered p e.moment (Reload text) e.reply (answers (Reload text) is)).says) refl
    by (Mark number k health) is = none _ (sym (answered p e.moment (Mark number k health) e.reply (answers (Mark number k health) is)).says) refl

-- so where the record ends it, too
pub failures_seen : (plan : Plan) (text : List ℕ) (trial : Plain) (h : List Entry) (e : Entry) (id : ConnId) → trial_opening plan text ≡ Ok trial → IsLegal (opening plan 0) (e ∷ h) → is_failure e.event ≡ true → id_of e.reply.said ≡ Some id →
    IsSeen (opening plan 0) trial id e h
failures_seen plan text trial h e id opens legal fails whom = by e.event refl
  where
    none : (event : OwnedEvent) → e.event ≡ event → is_failure event ≡ false → IsSeen (opening plan 0) trial id e h
    none event is other = contrary (is_failure e.event) (IsSeen (opening plan 0) trial id e h) fails (ap is_failure is ∙ other)

    by : (event : OwnedEvent) → e.event ≡ event → IsSeen (opening plan 0) trial id e h
    by (Accept listener real) is = none (Accept listener real) is refl
    by (Piece own bytes) is = none (Piece own bytes) is refl
    by (Connected own) is = none (Connected own) is refl
    by (ConnectFailed own) is = failure_seen plan text trial h e own id opens legal is whom
    by (Close own why) is = none (Close own why) is refl
    by (Expire own) is = none (Expire own) is refl
    by (Reload text) is = none (Reload text) is refl
    by (Mark number k health) is = none (Mark number k health) is refl
