-- A connection that awaits its server in the record awaits it in the trial, unless it has had a difference, or was lost or saved.
use Rattle.std.proofs.Common.{◌≡◌, ◌⊎◌, inl, inr, ℕ, ◌+◌, ◌≤◌, Bool, true, false, List, [], ◌∷◌, ◌++◌, Option, Some, None, Ok, refl, ap, sym, subst, ◌∙◌, max}
use Rattle.std.specs.Prelude.{◌==◌, ◌&&◌, ◌||◌, not, filter, slice_get, is_some, option_map, if◌then◌else◌}
use Rattle.std.specs.Option.{option_map_or}
use Rattle.addr_core.specs.PairValue.{PairValue}
use Rattle.plan_types.specs.declared.plan.Plan.{Plan}
use Rattle.conn_model.specs.declared.event.ConnId.{ConnId}
use Rattle.conn_model.specs.declared.event.OwnedEvent.{OwnedEvent}
use Rattle.conn_model.specs.declared.event.OwnedEvent.TheVariants.{Accept, Piece, Connected, ConnectFailed, Close, Expire, Reload, Mark}
use Rattle.conn_model.specs.declared.plain.Assignment.{Assignment}
use Rattle.conn_model.specs.declared.plain.FrontendRows.{FrontendRows}
use Rattle.conn_model.specs.declared.plain.Phase.{Phase}
use Rattle.conn_model.specs.declared.plain.Phase.TheVariants.{Waiting, Offered, Up}
use Rattle.conn_model.specs.declared.plain.Plain.{Plain}
use Rattle.conn_model.specs.declared.plain.Row.{Row}
use Rattle.conn_model.specs.declared.reply.Cause.TheVariants.{Expired}
use Rattle.conn_model.specs.declared.reply.Reply.{Reply}
use Rattle.conn_model.specs.declared.reply.Said.{Said}
use Rattle.conn_model.specs.declared.reply.Said.TheVariants as saids
use Rattle.conn_model.specs.declared.reply.StepFault.TheVariants.{NoSuch}
use Rattle.conn_model.specs.Answer.{answer_in, at_moment, awaits_server, failure_said, offer_in, other_server, new_row, reply_of, row_at, row_in, NumberedServer}
use Rattle.conn_model.specs.History.{Entry, IsLegal, IsWell, after, arrival, arrival_of, arrivals, entry, frontend_after, has_ended, id_of, is_last, is_reload, leaves_open, opening, phase_by, phase_on, phase_up, plan_of, row_after, speaks_to}
use Rattle.conn_model.specs.Words.{or_fault}
use Rattle.conn_model.proofs.Lists.{and_true, get-from_zero}
use Rattle.conn_model.proofs.Offers.{failure_answers}
use Rattle.conn_model.proofs.Replies.{answered, bind-ok, expired, has_failed, received, server_answered, IsNew}
use Rattle.conn_model.proofs.Well.{opening_well, well_after}
use Rattle.conn_laws.specs.Deciding.{is_judgement, is_offer}
use Rattle.replay_core.specs.Turns.{plain_after}
use Rattle.whatif_core.specs.declared.decision.AfterFailure.{AfterFailure}
use Rattle.whatif_core.specs.declared.decision.AfterFailure.TheVariants.{Moved, Ended}
use Rattle.whatif_core.specs.Deciding.{after_failure, after_failure_by, closed, decided, decided_by, decision_of, difference, failure_outcome, handed, is_failure, is_parted, offer_of, played, stepped}
use Rattle.whatif_core.specs.Reporting.{differs_of, history_report, parted_of, trial_opening, turn_of, HasDiffered, HasParted}
use Rattle.whatif_core.proofs.LawLemmas.{all_tied, and_no, before, contrary, ends, trial_after, trial_next, Tied}
use Rattle.whatif_core.proofs.OnceLemmas.{and_left, below_itself, found, found_appended, found_mapped, found_serial, live_row, not_new, offers, old_given, same_conn, speaks, spoken, waits_at, waits_here}
use Rattle.whatif_core.proofs.WaitingLemmas.{along, both_told, elsewhere, found_kept, found_on, judged_on, newcomer_answered, newcomer_row, not_either, not_waiting, spoken_id, waiting_row_at, waits_in_both, well_of, IsKept}

-- ---- who awaits its server after an entry

abbrev pub awaits_in : Option Row → Bool
awaits_in row = option_map_or (λ (r : Row). awaits_server r.phase) row false

abbrev pub awaits_at : Plain → ConnId → Bool
awaits_at q id = awaits_in (row_at q.frontends id)

-- the reply says that a server took its connection
abbrev is_up : Said → Bool
is_up (saids.Up id) = true
is_up said = false

-- that connection
abbrev takes : Said → ℕ → ℕ → Bool
takes said number serial = is_up said && speaks_to number serial said

on_piece_awaits : (piece : List ℕ) (phase : Phase) → awaits_server (phase_on piece phase) ≡ awaits_server phase
on_piece_awaits piece (Waiting rest) = refl
on_piece_awaits piece (Offered assignment) = refl
on_piece_awaits piece (Up assignment) = refl

once_up_awaits : (phase : Phase) → awaits_server (phase_up phase) ≡ false
once_up_awaits (Waiting rest) = refl
once_up_awaits (Offered assignment) = refl
once_up_awaits (Up assignment) = refl

-- a phase that awaits the server after a reply: that is an offer, or the phase was one before, and the server did not take it
awaited : (plan : Option Plan) (event : OwnedEvent) (said : Said) (phase : Phase) → awaits_server (phase_by plan event said phase) ≡ true →
    (is_offer said ≡ true) ⊎ ((awaits_server phase ≡ true) × (is_up said ≡ false))
awaited plan event (saids.Wait id used) phase is = inr (sym (on_piece_awaits _ phase) ∙ is, refl)
awaited plan event (saids.Offer id used line server to judged send) phase is = inl refl
awaited plan event (saids.Up id) phase is = absurd (let wrong : false ≡ true = sym (once_up_awaits phase) ∙ is in cc)
awaited plan event said phase is = inr (is, refl)

awaited_if : (plan : Option Plan) (event : OwnedEvent) (said : Said) (phase : Phase) (b : Bool) → awaits_server (if b then phase_by plan event said phase else phase) ≡ true →
    ((is_offer said && b) ≡ true) ⊎ ((awaits_server phase ≡ true) × ((is_up said && b) ≡ false))
awaited_if plan event said phase true is = elim (awaited plan event said phase is) [
  | inl offered ↦ inl (ap (λ o. o && true) offered)
  | inr before_it ↦ inr (before_it.0, ap (λ o. o && true) before_it.1)
]
awaited_if plan event said phase false is = inr (is, and_no (is_up said))

-- a connection that comes awaits no server yet
none_awaits : (serial number clock version : ℕ) (event : OwnedEvent) (said : Said) (row : Row) → found serial (arrival number clock version event said) ≡ Some row → awaits_server row.phase ≡ false
none_awaits serial number clock version (Accept listener real) said row is = of (id_of said) is
  where
    of : (id : Option ConnId) → found serial (arrival_of number clock version real said id) ≡ Some row → awaits_server row.phase ≡ false
    of None there = absurd (let wrong : None ≡ Some row = there in cc)
    of (Some id) there = by (leaves_open said && (id.frontend == number)) there
      where
        here : (b : Bool) → (id.serial == serial) ≡ b → found serial (new_row id.serial version real clock ∷ []) ≡ Some row → awaits_server row.phase ≡ false
        here true same there =
            let one : Some (new_row id.serial version real clock) ≡ Some row = rw same at there in
            let it : new_row id.serial version real clock ≡ row = cc in
            ap (λ (r : Row). awaits_server r.phase) (sym it)
        here false apart there = absurd (let wrong : None ≡ Some row = rw apart at there in cc)

        by : (b : Bool) → found serial (if b then new_row id.serial version real clock ∷ [] else []) ≡ Some row → awaits_server row.phase ≡ false
        by true there = here (id.serial == serial) refl there
        by false there = absurd (let wrong : None ≡ Some row = there in cc)
none_awaits serial number clock version (Piece id bytes) said row is = absurd (let wrong : None ≡ Some row = is in cc)
none_awaits serial number clock version event said row is = absurd (let wrong : None ≡ Some row = is in cc)

-- of a connection that awaits its server after an entry: the reply does not end it, and it offers it one; or it awaited it
-- before, and the reply does not say that this took it
record Awaited (before : Bool) (said : Said) (number serial : ℕ) : Type 0 where
  lasts : ends said number serial ≡ false
  how : (offers said number serial ≡ true) ⊎ ((before ≡ true) × (takes said number serial ≡ false))

found_awaits : (row : Row) (o : Option Row) → o ≡ Some row → awaits_server row.phase ≡ true → awaits_in o ≡ true
found_awaits row o is awaits = ap awaits_in is ∙ awaits

awaits_in_rows : (q : Plain) (e : Entry) (number serial : ℕ) (own : FrontendRows) → awaits_in (found serial (frontend_after q (e ∷ []) number own).rows) ≡ true →
    Awaited (awaits_in (found serial own.rows)) e.reply.said number serial
awaits_in_rows q e number serial own is =
    let live = live_row (λ r. awaits_server r.phase) q e number serial own is in
    let awaits = awaited_if (plan_of q [] live.row.version) e.event e.reply.said live.row.phase (speaks_to number live.row.serial e.reply.said) live.holds in
    record { lasts = live.lasts; how = how_it_is live.row live.there live.same awaits }
  where
    old_one : (row : Row) → found serial (own.rows ++ arrivals q number (e ∷ [])) ≡ Some row → awaits_server row.phase ≡ true → awaits_in (found serial own.rows) ≡ true
    old_one row there awaits = elim (found_appended serial own.rows (arrivals q number (e ∷ [])) row there) [
      | inl old ↦ found_awaits row (found serial own.rows) old awaits
      | inr new ↦ contrary (awaits_server row.phase) (awaits_in (found serial own.rows) ≡ true) awaits (none_awaits serial number _ _ e.event e.reply.said row new)
    ]

    how_it_is : (row : Row) → found serial (own.rows ++ arrivals q number (e ∷ [])) ≡ Some row → row.serial ≡ serial →
        ((is_offer e.reply.said && speaks_to number row.serial e.reply.said) ≡ true) ⊎ ((awaits_server row.phase ≡ true) × ((is_up e.reply.said && speaks_to number row.serial e.reply.said) ≡ false)) →
        (offers e.reply.said number serial ≡ true) ⊎ ((awaits_in (found serial own.rows) ≡ true) × (takes e.reply.said number serial ≡ false))
    how_it_is row there same (inl offered) = inl (ap (λ n. is_offer e.reply.said && speaks_to number n e.reply.said) (sym same) ∙ offered)
    how_it_is row there same (inr (awaits, untaken)) = inr (old_one row there awaits, ap (λ n. is_up e.reply.said && speaks_to number n e.reply.said) (sym same) ∙ untaken)

awaits_after : (q : Plain) (e : Entry) (id : ConnId) → awaits_at (after q (e ∷ [])) id ≡ true → Awaited (awaits_at q id) e.reply.said id.frontend id.serial
awaits_after q e id is = by (slice_get (after q (e ∷ [])).frontends id.frontend) refl
  where
    of : (next : FrontendRows) → slice_get (after q (e ∷ [])).frontends id.frontend ≡ Some next → Awaited (awaits_at q id) e.reply.said id.frontend id.serial
    of next there =
        let was = before q e id.frontend next there in
        let now : awaits_in (found id.serial (frontend_after q (e ∷ []) id.frontend was.own).rows) ≡ true =
        ap (λ (f : FrontendRows). awaits_in (found id.serial f.rows)) (sym was.is) ∙ sym (ap (λ (o : Option FrontendRows). awaits_in (row_in id.serial o)) there) ∙ is in
        let got = awaits_in_rows q e id.frontend id.serial was.own now in
        subst (λ b. Awaited b e.reply.said id.frontend id.serial) (sym (ap (λ (o : Option FrontendRows). awaits_in (row_in id.serial o)) was.there)) got

    by : (o : Option FrontendRows) → slice_get (after q (e ∷ [])).frontends id.frontend ≡ o → Awaited (awaits_at q id) e.reply.said id.frontend id.serial
    by None none = absurd (let wrong : false ≡ true = sym (ap (λ (o : Option FrontendRows). awaits_in (row_in id.serial o)) none) ∙ is in cc)
    by (Some next) there = of next there

-- ---- a connection that awaits its server on

awaits_if : (plan : Option Plan) (event : OwnedEvent) (said : Said) (phase : Phase) (b : Bool) → b ≡ false → awaits_server phase ≡ true → awaits_server (if b then phase_by plan event said phase else phase) ≡ true
awaits_if plan event said phase true quiet is = absurd (let wrong : true ≡ false = quiet in cc)
awaits_if plan event said phase false quiet is = is

awaits_offer : (plan : Option Plan) (event : OwnedEvent) (said : Said) (phase : Phase) → is_offer said ≡ true → awaits_server (phase_by plan event said phase) ≡ true
awaits_offer plan event (saids.Offer id used line server to judged send) phase offered = refl
awaits_offer plan event said phase offered = absurd (cc)

offered_if : (plan : Option Plan) (event : OwnedEvent) (said : Said) (phase : Phase) (b : Bool) → b ≡ true → is_offer said ≡ true → awaits_server (if b then phase_by plan event said phase else phase) ≡ true
offered_if plan event said phase true told offered = awaits_offer plan event said phase offered
offered_if plan event said phase false told offered = absurd (let wrong : false ≡ true = told in cc)

offer_open : (said : Said) → is_offer said ≡ true → (leaves_open said ≡ true) × (is_last said ≡ false)
offer_open (saids.Offer id used line server to judged send) is = (refl, refl)
offer_open said is = absurd (cc)

-- a row, old or new, that awaits its server once the reply came
row_awaits : (q : Plain) (e : Entry) (number serial : ℕ) (own : FrontendRows) (row : Row) → found serial (own.rows ++ arrivals q number (e ∷ [])) ≡ Some row → ends e.reply.said number serial ≡ false →
    awaits_server (row_after q number (e ∷ []) row).phase ≡ true → awaits_in (found serial (frontend_after q (e ∷ []) number own).rows) ≡ true
row_awaits q e number serial own row there lasts awaits =
    let live : List Row = filter (λ r. not (has_ended number (e ∷ []) r.serial)) (own.rows ++ arrivals q number (e ∷ [])) in
    let kept : found serial live ≡ Some row = found_kept serial (λ n. not (has_ended number (e ∷ []) n)) (own.rows ++ arrivals q number (e ∷ [])) row (not_either (ends e.reply.said number serial) lasts) there in
    ap awaits_in (found_mapped serial (row_after q number (e ∷ [])) (λ r. refl) live)
    ∙ ap (λ o. awaits_in (option_map (row_after q number (e ∷ [])) o)) kept
    ∙ awaits

-- one that is offered a server
row_offered : (q : Plain) (e : Entry) (number serial : ℕ) (own : FrontendRows) (row : Row) → found serial (own.rows ++ arrivals q number (e ∷ [])) ≡ Some row → row.serial ≡ serial →
    is_offer e.reply.said ≡ true → speaks_to number serial e.reply.said ≡ true → awaits_in (found serial (frontend_after q (e ∷ []) number own).rows) ≡ true
row_offered q e number serial own row there same offered told =
    row_awaits q e number serial own row there (ap (λ b. b && speaks_to number serial e.reply.said) (offer_open e.reply.said offered).1)
    (offered_if (plan_of q [] row.version) e.event e.reply.said row.phase (speaks_to number row.serial e.reply.said) (ap (λ n. speaks_to number n e.reply.said) same ∙ told) offered)

-- the row of a connection that awaits its server
record AwaitingRow (q : Plain) (id : ConnId) : Type 0 where
  row : Row
  there : row_at q.frontends id ≡ Some row
  awaits : awaits_server row.phase ≡ true

awaiting_row_at : (q : Plain) (id : ConnId) → awaits_at q id ≡ true → AwaitingRow q id
awaiting_row_at q id is = by (row_at q.frontends id) refl is
  where
    by : (o : Option Row) → row_at q.frontends id ≡ o → awaits_in o ≡ true → AwaitingRow q id
    by None none now = absurd (let wrong : false ≡ true = now in cc)
    by (Some row) there now = record { row = row; there = there; awaits = now }

-- an open connection, where its frontend is after an entry
record Placed (q : Plain) (e : Entry) (id : ConnId) (row : Row) : Type 0 where
  own : FrontendRows
  rows : found id.serial (own.rows ++ arrivals q id.frontend (e ∷ [])) ≡ Some row
  serial : row.serial ≡ id.serial
  next : slice_get (after q (e ∷ [])).frontends id.frontend ≡ Some (frontend_after q (e ∷ []) id.frontend own)

placed : (q : Plain) → IsWell q → (e : Entry) (id : ConnId) (row : Row) → row_at q.frontends id ≡ Some row → Placed q e id row
placed q well e id row is =
    let given = old_given q well id row is in
    let in_own : found id.serial given.own.rows ≡ Some row = sym (ap (λ (o : Option FrontendRows). row_in id.serial o) given.there) ∙ is in
    record {
      own = given.own;
      rows = found_on id.serial given.own.rows (arrivals q id.frontend (e ∷ [])) row in_own;
      serial = found_serial id.serial given.own.rows row in_own;
      next = get-from_zero (frontend_after q (e ∷ [])) q.frontends id.frontend given.own given.there;
    }

-- it awaits on after an entry that says nothing to it
awaits_silent : IsKept awaits_at
awaits_silent q well e id is quiet =
    let here = awaiting_row_at q id is in
    let at = placed q well e id here.row here.there in
    ap (λ (o : Option FrontendRows). awaits_in (row_in id.serial o)) at.next
    ∙ row_awaits q e id.frontend id.serial at.own here.row at.rows (ap (λ b. is_last e.reply.said && b) quiet ∙ and_no (is_last e.reply.said))
    (awaits_if (plan_of q [] here.row.version) e.event e.reply.said here.row.phase (speaks_to id.frontend here.row.serial e.reply.said) (ap (λ n. speaks_to id.frontend n e.reply.said) at.serial ∙ quiet) here.awaits)

-- an open connection awaits a server once it is offered one
awaits_offered : (q : Plain) → IsWell q → (e : Entry) (id : ConnId) (row : Row) → row_at q.frontends id ≡ Some row → is_offer e.reply.said ≡ true → id_of e.reply.said ≡ Some id → awaits_at (after q (e ∷ [])) id ≡ true
awaits_offered q well e id row is offered whom =
    let at = placed q well e id row is in
    ap (λ (o : Option FrontendRows). awaits_in (row_in id.serial o)) at.next
    ∙ row_offered q e id.frontend id.serial at.own row at.rows at.serial offered (speaks id e.reply.said whom)

-- so does one that comes
awaits_new : (q : Plain) → IsWell q → (moment listener : ℕ) (real : PairValue) (reply : Reply) (id : ConnId) → IsNew q reply.said → id_of reply.said ≡ Some id → is_offer reply.said ≡ true →
    awaits_at (after q (entry moment (Accept listener real) reply ∷ [])) id ≡ true
awaits_new q well moment listener real reply id new whom offered =
    let here = newcomer_row q well moment listener real reply id new whom (offer_open reply.said offered).0 in
    ap (λ (o : Option FrontendRows). awaits_in (row_in id.serial o)) here.next
    ∙ row_offered q (entry moment (Accept listener real) reply) id.frontend id.serial here.own here.row here.there here.same offered (speaks id reply.said whom)

-- ---- decisions

unlike_offer : (q r : Plain) (ours theirs : Said) → is_offer ours ≡ true → is_judgement theirs ≡ true → is_offer theirs ≡ false → is_some (difference (decision_of q ours) (decision_of r theirs)) ≡ true
unlike_offer q r (saids.Offer own used line server to judged2 send) theirs offered judged other = by theirs _ judged other
  where
    by : (said : Said) (names : Option (List ℕ × List ℕ)) → is_judgement said ≡ true → is_offer said ≡ false → is_some (difference (Some (offer_of names line)) (decision_of r said)) ≡ true
    by (saids.Wait id used) None judged other = refl
    by (saids.Wait id used) (Some names) judged other = refl
    by (saids.Offer id used line server to judged2 send) names judged other = absurd (cc)
    by (saids.Refuse id used cause) None judged other = refl
    by (saids.Refuse id used cause) (Some names) judged other = refl
    by (saids.Up id) names judged other = absurd (cc)
    by (saids.Closed id why) names judged other = absurd (cc)
    by (saids.Reloaded version) names judged other = absurd (cc)
    by (saids.Marked line health) names judged other = absurd (cc)
unlike_offer q r said theirs offered judged other = absurd (cc)

decided_as : (q : Plain) (moment : ℕ) (event : OwnedEvent) (reply : Reply) → answer_in q moment event ≡ Ok reply → is_failure event ≡ false → decided q moment event ≡ decision_of (stepped q moment event) reply.said
decided_as q moment event reply is no_failure = ap (decided_by (stepped q moment event) event) is ∙ ap (λ b. if b then None else decision_of (stepped q moment event) reply.said) no_failure

-- the record offers it a server, and so does the trial, or that is a difference
both_offer : (p n : Plain) (moment : ℕ) (event : OwnedEvent) (reply theirs : Reply) (id : ConnId) → is_reload event ≡ false → is_failure event ≡ false → answer_in p moment event ≡ Ok reply → is_offer reply.said ≡ true → id_of reply.said ≡ Some id →
    answer_in n moment event ≡ Ok theirs → is_judgement theirs.said ≡ true → (is_offer theirs.said ≡ true) ⊎ (differs_of (turn_of p n (entry moment event reply)) ≡ Some id)
both_offer p n moment event reply theirs id other no_failure is offered whom answers judged = both_told is_offer p n moment event reply theirs id other whom (λ they.
    ap (λ d. is_some (difference d (decided n moment event))) (decided_as p moment event reply is no_failure)
    ∙ ap (λ d. is_some (difference (decision_of (stepped p moment event) reply.said) d)) (decided_as n moment event theirs answers no_failure)
    ∙ unlike_offer (stepped p moment event) (stepped n moment event) reply.said theirs.said offered judged they)

-- ---- the trial

pub closed_offer : (moment : ℕ) (said : Said) (q : Plain) → is_offer said ≡ true → closed moment said q ≡ q
closed_offer moment (saids.Offer id used line server to judged send) q is = refl
closed_offer moment said q is = absurd (cc)

-- both offer it a server
lets_await : (n : Plain) (moment : ℕ) (event : OwnedEvent) (reply theirs : Reply) (id : ConnId) → answer_in n moment event ≡ Ok theirs → awaits_at (after n (entry moment event theirs ∷ [])) id ≡ true → is_offer reply.said ≡ true →
    awaits_at (closed moment reply.said (stepped n moment event)) id ≡ true
lets_await n moment event reply theirs id answers on offered =
    ap (λ q. awaits_at q id) (closed_offer moment reply.said (stepped n moment event) offered) ∙ ap (λ a. awaits_at (plain_after n moment event a) id) answers ∙ on

-- after the entry it awaits its server in the trial, or the two differ there
abbrev AwaitsOn : Plain → Plain → ℕ → OwnedEvent → Reply → ConnId → Type 0
AwaitsOn p n moment event reply id =
    (differs_of (turn_of p n (entry moment event reply)) ≡ Some id)
    ⊎ ((parted_of (turn_of p n (entry moment event reply)) ≡ Some id) ⊎ (awaits_at (handed p.versions n moment event reply.said) id ≡ true))

-- a newcomer that the record offers a server
comes_offered : (plan : Plan) (h : List Entry) (n : Plain) (moment listener : ℕ) (real : PairValue) (reply : Reply) (id : ConnId) → IsLegal (opening plan 0) h → answer_in (after (opening plan 0) h) moment (Accept listener real) ≡ Ok reply →
    Tied plan (after (opening plan 0) h) n → id_of reply.said ≡ Some id → is_offer reply.said ≡ true → AwaitsOn (after (opening plan 0) h) n moment (Accept listener real) reply id
comes_offered plan h n moment listener real reply id legal is tied whom offered = newcomer_answered plan h n moment listener real reply legal is tied
    (λ theirs answers same judged. elim (both_offer (after (opening plan 0) h) n moment (Accept listener real) reply theirs id refl refl is offered whom answers judged) [
      | inl they ↦ inr (inr (lets_await n moment (Accept listener real) reply theirs id answers
          (awaits_new n (well_of plan n tied.past tied.legal tied.is) moment listener real theirs id (answered n moment (Accept listener real) theirs answers) (same ∙ whom) they) offered))
      | inr different ↦ inl different
    ])

-- a piece with which the record offers it one
piece_offered : (plan : Plan) (h : List Entry) (n : Plain) (moment : ℕ) (id : ConnId) (bytes : List ℕ) (reply : Reply) → IsLegal (opening plan 0) h → answer_in (after (opening plan 0) h) moment (Piece id bytes) ≡ Ok reply →
    Tied plan (after (opening plan 0) h) n → is_offer reply.said ≡ true → waits_at n id ≡ true → AwaitsOn (after (opening plan 0) h) n moment (Piece id bytes) reply id
piece_offered plan h n moment id bytes reply legal is tied offered there =
    let judged = judged_on plan n tied.past tied.legal tied.is moment id bytes there in
    let here = waiting_row_at n id there in
    elim (both_offer (after (opening plan 0) h) n moment (Piece id bytes) reply judged.0 id refl refl is offered (answered (after (opening plan 0) h) moment (Piece id bytes) reply is).speaks judged.1 judged.2) [
      | inl they ↦ inr (inr (lets_await n moment (Piece id bytes) reply judged.0 id judged.1
          (awaits_offered n (well_of plan n tied.past tied.legal tied.is) (entry moment (Piece id bytes) judged.0) id here.row here.there they (answered n moment (Piece id bytes) judged.0 judged.1).speaks) offered))
      | inr different ↦ inl different
    ]

offered_phase : (phase : Phase) → awaits_server phase ≡ true → (given : Assignment) × (phase ≡ Offered given)
offered_phase (Waiting rest) awaits = absurd (let wrong : false ≡ true = awaits in cc)
offered_phase (Offered given) awaits = (given, refl)
offered_phase (Up given) awaits = absurd (let wrong : false ≡ true = awaits in cc)

-- a balancer answers that the server of a connection is out of reach, if that awaits its server
pub failure_answered : (q : Plain) (moment : ℕ) (id : ConnId) → awaits_at q id ≡ true → (reply : Reply) × (answer_in q moment (ConnectFailed id) ≡ Ok reply)
failure_answered q moment id is =
    let here = awaiting_row_at q id is in
    let offered = offered_phase here.row.phase here.awaits in
    (reply_of (failure_said id offered.0 (other_server (at_moment moment q) here.row offered.0)), failure_answers (at_moment moment q) id here.row offered.0 here.there offered.1)

pub outcome_is : (q : Plain) (moment : ℕ) (id : ConnId) (reply : Reply) → answer_in q moment (ConnectFailed id) ≡ Ok reply → after_failure q moment (ConnectFailed id) ≡ Some (failure_outcome reply.said)
outcome_is q moment id reply is = ap (after_failure_by (ConnectFailed id)) is

abbrev pub outcome_if : Bool → Option AfterFailure
outcome_if moved = Some (if moved then Moved else Ended)

-- the record moves it, and the trial ends it
lost_made : (p n : Plain) (moment : ℕ) (id : ConnId) (reply theirs : Reply) → answer_in p moment (ConnectFailed id) ≡ Ok reply → is_offer reply.said ≡ true → id_of reply.said ≡ Some id →
    answer_in n moment (ConnectFailed id) ≡ Ok theirs → is_offer theirs.said ≡ false → parted_of (turn_of p n (entry moment (ConnectFailed id) reply)) ≡ Some id
lost_made p n moment id reply theirs is offered whom answers ended =
    let parted : is_parted (after_failure p moment (ConnectFailed id)) (after_failure n moment (ConnectFailed id)) ≡ true =
    ap (λ o. is_parted o (after_failure n moment (ConnectFailed id))) (outcome_is p moment id reply is ∙ ap outcome_if offered)
    ∙ ap (λ o. is_parted (Some Moved) o) (outcome_is n moment id theirs answers ∙ ap outcome_if ended) in
    ap (λ b. if b then id_of reply.said else None) parted ∙ whom

-- the server of the connection is out of reach, and the record moves it
moves_on : (plan : Plan) (h : List Entry) (n : Plain) (moment : ℕ) (id : ConnId) (reply : Reply) → answer_in (after (opening plan 0) h) moment (ConnectFailed id) ≡ Ok reply →
    Tied plan (after (opening plan 0) h) n → is_offer reply.said ≡ true → awaits_at n id ≡ true → AwaitsOn (after (opening plan 0) h) n moment (ConnectFailed id) reply id
moves_on plan h n moment id reply is tied offered there = by (is_offer theirs.said) refl
  where
    p : Plain
    p = after (opening plan 0) h

    theirs : Reply
    theirs = (failure_answered n moment id there).0

    answers : answer_in n moment (ConnectFailed id) ≡ Ok theirs
    answers = (failure_answered n moment id there).1

    by : (b : Bool) → is_offer theirs.said ≡ b → AwaitsOn p n moment (ConnectFailed id) reply id
    by true they =
        let here = awaiting_row_at n id there in
        inr (inr (lets_await n moment (ConnectFailed id) reply theirs id answers
        (awaits_offered n (well_of plan n tied.past tied.legal tied.is) (entry moment (ConnectFailed id) theirs) id here.row here.there they (answered n moment (ConnectFailed id) theirs answers).speaks) offered))
    by false they = inr (inl (lost_made p n moment id reply theirs is offered (answered p moment (ConnectFailed id) reply is).speaks answers they))

-- ---- an entry that speaks to a connection that awaits its server, and offers it none

moved_or_ended : (id : ConnId) (given : Assignment) (other : Option NumberedServer) → is_offer (failure_said id given other) ≡ false → is_last (failure_said id given other) ≡ false → ⊥
moved_or_ended id given None unoffered lasts = let wrong : true ≡ false = lasts in cc
moved_or_ended id given (Some other) unoffered lasts = let wrong : true ≡ false = unoffered in cc

-- there is no such entry: it ends the connection, or says that its server took it
nothing_else : (plan : Plan) (h : List Entry) (moment : ℕ) (event : OwnedEvent) (reply : Reply) (id : ConnId) → IsLegal (opening plan 0) h → answer_in (after (opening plan 0) h) moment event ≡ Ok reply → is_reload event ≡ false →
    awaits_at (after (opening plan 0) h) id ≡ true → speaks_to id.frontend id.serial reply.said ≡ true → is_last reply.said ≡ false → is_offer reply.said ≡ false → is_up reply.said ≡ false → ⊥
nothing_else plan h moment (Accept listener real) reply id legal is other awaits told lasts unoffered untaken =
    let p : Plain = after (opening plan 0) h in
    let here = awaiting_row_at p id awaits in
    let given = old_given p (well_after (opening plan 0) (opening_well plan 0) h legal) id here.row here.there in
    not_new p p (below_itself p) id given.own given.there given.given reply.said (answered p moment (Accept listener real) reply is) (spoken id (id_of reply.said) told)
nothing_else plan h moment (Piece own bytes) reply id legal is other awaits told lasts unoffered untaken =
    let p : Plain = after (opening plan 0) h in
    let one : own ≡ id = spoken_id id own reply.said (answered p moment (Piece own bytes) reply is).speaks told in
    let got = received (at_moment moment p) own bytes reply is in
    let here = awaiting_row_at p id awaits in
    not_waiting got.row here.row (ap is_some got.waits) here.awaits (let twice : Some got.row ≡ Some here.row = sym got.row_is ∙ ap (row_at p.frontends) one ∙ here.there in cc)
nothing_else plan h moment (Connected own) reply id legal is other awaits told lasts unoffered untaken =
    let got = server_answered (after (opening plan 0) h) own (saids.Up own) reply is in
    contrary (is_up reply.said) ⊥ (ap (λ (r : Reply). is_up r.said) (sym got.reply_is)) untaken
nothing_else plan h moment (ConnectFailed own) reply id legal is other awaits told lasts unoffered untaken =
    let q : Plain = at_moment moment (after (opening plan 0) h) in
    let got = has_failed q own reply is in
    moved_or_ended own got.given (other_server q got.row got.given) (ap (λ (r : Reply). is_offer r.said) got.reply_is ∙ unoffered) (ap (λ (r : Reply). is_last r.said) got.reply_is ∙ lasts)
nothing_else plan h moment (Close own why) reply id legal is other awaits told lasts unoffered untaken =
    let p : Plain = after (opening plan 0) h in
    let one = bind-ok (or_fault NoSuch (row_at p.frontends own)) _ reply is in
    let it : reply_of (saids.Closed own why) ≡ reply = let both : Ok (reply_of (saids.Closed own why)) ≡ Ok reply = one.2 in cc in
    contrary (is_last reply.said) ⊥ (ap (λ (r : Reply). is_last r.said) (sym it)) lasts
nothing_else plan h moment (Expire own) reply id legal is other awaits told lasts unoffered untaken =
    let p : Plain = after (opening plan 0) h in
    contrary (is_last reply.said) ⊥ (ap (λ (r : Reply). is_last r.said) (sym (expired p (max p.clock moment) own reply is).reply_is)) lasts
nothing_else plan h moment (Reload text) reply id legal is other awaits told lasts unoffered untaken = let wrong : true ≡ false = other in cc
nothing_else plan h moment (Mark number k health) reply id legal is other awaits told lasts unoffered untaken =
    contrary (speaks_to id.frontend id.serial reply.said) ⊥ told (ap (speaks_to id.frontend id.serial) (answered (after (opening plan 0) h) moment (Mark number k health) reply is).says)

-- ---- along a history

abbrev pub IsAwaited : Plan → Plain → List Entry → ConnId → Type 0
IsAwaited plan trial h id =
    HasDiffered (opening plan 0) trial id h ⊎ (HasParted (opening plan 0) trial id h ⊎ (awaits_at (history_report false (opening plan 0) trial h).trial id ≡ true))

-- one whose server is out of reach by the record awaits it
pub failed_awaits : (q : Plain) (moment : ℕ) (id : ConnId) (reply : Reply) → answer_in q moment (ConnectFailed id) ≡ Ok reply → awaits_at q id ≡ true
failed_awaits q moment id reply is =
    let got = has_failed (at_moment moment q) id reply is in
    ap awaits_in got.row_is ∙ by got.given got.row.phase got.offered
  where
    by : (given : Assignment) (phase : Phase) → offer_in phase ≡ Some given → awaits_server phase ≡ true
    by given (Waiting rest) offered = absurd (let wrong : None ≡ Some given = offered in cc)
    by given (Offered assignment) offered = refl
    by given (Up assignment) offered = absurd (let wrong : None ≡ Some given = offered in cc)

-- one of three
pub of_three : {A B C R : Type 0} → A ⊎ (B ⊎ C) → (A → R) → (B → R) → (C → R) → R
of_three (inl a) first second third = first a
of_three (inr (inl b)) first second third = second b
of_three (inr (inr c)) first second third = third c

-- the two have differed on it before the entry, or do so there, or it awaits its server in the trial
abbrev IsKnownOn : Plan → Plain → List Entry → Plain → ℕ → OwnedEvent → Reply → ConnId → Type 0
IsKnownOn plan trial h n moment event reply id =
    HasDiffered (opening plan 0) trial id h ⊎ (HasParted (opening plan 0) trial id h ⊎ AwaitsOn (after (opening plan 0) h) n moment event reply id)

-- the entry offers the connection a server
at_offer : (plan : Plan) (text : List ℕ) (trial : Plain) (h : List Entry) (n : Plain) (moment : ℕ) (event : OwnedEvent) (reply : Reply) (id : ConnId) → trial_opening plan text ≡ Ok trial → IsLegal (opening plan 0) h →
    n ≡ (history_report false (opening plan 0) trial h).trial → answer_in (after (opening plan 0) h) moment event ≡ Ok reply → Tied plan (after (opening plan 0) h) n → id_of reply.said ≡ Some id → is_offer reply.said ≡ true →
    (awaits_at (after (opening plan 0) h) id ≡ true → IsAwaited plan trial h id) → IsKnownOn plan trial h n moment event reply id
at_offer plan text trial h n moment event reply id opens legal it is tied whom offered earlier = by event refl
  where
    p : Plain
    p = after (opening plan 0) h

    none : (said : Said) → reply.said ≡ said → is_offer said ≡ false → IsKnownOn plan trial h n moment event reply id
    none said same other = contrary (is_offer reply.said) (IsKnownOn plan trial h n moment event reply id) offered (ap is_offer same ∙ other)

    by : (ev : OwnedEvent) → event ≡ ev → IsKnownOn plan trial h n moment event reply id
    by (Accept listener real) same =
        let now = ap (λ ev. answer_in p moment ev) (sym same) ∙ is in
        inr (inr (subst (λ ev. AwaitsOn p n moment ev reply id) (sym same) (comes_offered plan h n moment listener real reply id legal now tied whom offered)))
    by (Piece own bytes) same =
        let now = ap (λ ev. answer_in p moment ev) (sym same) ∙ is in
        let one : own ≡ id = same_conn own id (id_of reply.said) (answered p moment (Piece own bytes) reply now).speaks whom in
        let of_id : event ≡ Piece id bytes = same ∙ ap (λ i. Piece i bytes) one in
        let mine : answer_in p moment (Piece id bytes) ≡ Ok reply = ap (λ ev. answer_in p moment ev) (sym of_id) ∙ is in
        let got = received (at_moment moment p) id bytes reply mine in
        elim (waits_in_both plan text trial h id opens legal (waits_here p id got.row got.row_is (ap is_some got.waits))) [
          | inl different ↦ inl different
          | inr there ↦ inr (inr (subst (λ ev. AwaitsOn p n moment ev reply id) (sym of_id) (piece_offered plan h n moment id bytes reply legal mine tied offered (ap (λ q. waits_at q id) it ∙ there))))
        ]
    by (Connected own) same =
        let now = ap (λ ev. answer_in p moment ev) (sym same) ∙ is in
        none (saids.Up own) (ap (λ (r : Reply). r.said) (sym (server_answered p own (saids.Up own) reply now).reply_is)) refl
    by (ConnectFailed own) same =
        let now = ap (λ ev. answer_in p moment ev) (sym same) ∙ is in
        let one : own ≡ id = same_conn own id (id_of reply.said) (answered p moment (ConnectFailed own) reply now).speaks whom in
        let of_id : event ≡ ConnectFailed id = same ∙ ap ConnectFailed one in
        let mine : answer_in p moment (ConnectFailed id) ≡ Ok reply = ap (λ ev. answer_in p moment ev) (sym of_id) ∙ is in
        of_three (earlier (failed_awaits p moment id reply mine)) (λ different. inl different) (λ parted. inr (inl parted))
        (λ there. inr (inr (subst (λ ev. AwaitsOn p n moment ev reply id) (sym of_id) (moves_on plan h n moment id reply mine tied offered (ap (λ q. awaits_at q id) it ∙ there)))))
    by (Close own why) same =
        let now = ap (λ ev. answer_in p moment ev) (sym same) ∙ is in
        let got = bind-ok (or_fault NoSuch (row_at p.frontends own)) _ reply now in
        let closes : reply_of (saids.Closed own why) ≡ reply = let both : Ok (reply_of (saids.Closed own why)) ≡ Ok reply = got.2 in cc in
        none (saids.Closed own why) (ap (λ (r : Reply). r.said) (sym closes)) refl
    by (Expire own) same =
        let now = ap (λ ev. answer_in p moment ev) (sym same) ∙ is in
        none (saids.Refuse own 0 Expired) (ap (λ (r : Reply). r.said) (sym (expired p (max p.clock moment) own reply now).reply_is)) refl
    by (Reload text) same =
        let now = ap (λ ev. answer_in p moment ev) (sym same) ∙ is in
        none _ (answered p moment (Reload text) reply now).says refl
    by (Mark number k health) same =
        let now = ap (λ ev. answer_in p moment ev) (sym same) ∙ is in
        none _ (answered p moment (Mark number k health) reply now).says refl

offered_handed : (plan : Plan) (trial : Plain) (h : List Entry) (e : Entry) (id : ConnId) → is_reload e.event ≡ false → AwaitsOn (after (opening plan 0) h) (trial_after plan trial h) e.moment e.event e.reply id → IsAwaited plan trial (e ∷ h) id
offered_handed plan trial h e id other (inl different) = inl (inl different)
offered_handed plan trial h e id other (inr (inl parted)) = inr (inl (inl parted))
offered_handed plan trial h e id other (inr (inr on)) =
    let p : Plain = after (opening plan 0) h in
    let n : Plain = trial_after plan trial h in
    inr (inr (ap (λ q. awaits_at q id) (trial_next plan trial h e) ∙ ap (λ b. awaits_at (if b then n else handed p.versions n e.moment e.event e.reply.said) id) other ∙ on))

offered_next : (plan : Plan) (text : List ℕ) (trial : Plain) (h : List Entry) (e : Entry) (id : ConnId) → trial_opening plan text ≡ Ok trial → IsLegal (opening plan 0) (e ∷ h) →
    Awaited (awaits_at (after (opening plan 0) h) id) e.reply.said id.frontend id.serial → (awaits_at (after (opening plan 0) h) id ≡ true → IsAwaited plan trial h id) → IsAwaited plan trial (e ∷ h) id
offered_next plan text trial h e id opens legal a earlier = on (is_reload e.event) refl (offers e.reply.said id.frontend id.serial) refl a.how
  where
    p : Plain
    p = after (opening plan 0) h

    n : Plain
    n = trial_after plan trial h

    -- it awaited its server before, and still does if the trial does
    kept_next : (awaits_at n id ≡ true → awaits_at (played p.versions n e.moment e.event e.reply.said) id ≡ true) → IsAwaited plan trial h id → IsAwaited plan trial (e ∷ h) id
    kept_next goes (inl different) = inl (inr different)
    kept_next goes (inr (inl parted)) = inr (inl (inr parted))
    kept_next goes (inr (inr there)) = inr (inr (ap (λ q. awaits_at q id) (trial_next plan trial h e) ∙ goes there))

    offer_next : is_reload e.event ≡ false → offers e.reply.said id.frontend id.serial ≡ true → IsAwaited plan trial (e ∷ h) id
    offer_next other offered =
        let both = and_true (is_offer e.reply.said) (speaks_to id.frontend id.serial e.reply.said) offered in
        of_three (at_offer plan text trial h n e.moment e.event e.reply id opens legal.0 refl legal.1 (all_tied false plan text trial h opens legal.0) (spoken id (id_of e.reply.said) both.1) both.0 earlier)
        (λ different. inl (inr different)) (λ parted. inr (inl (inr parted))) (offered_handed plan trial h e id other)

    reload_next : is_reload e.event ≡ true → awaits_at n id ≡ true → awaits_at (played p.versions n e.moment e.event e.reply.said) id ≡ true
    reload_next is there = ap (λ b. awaits_at (if b then n else handed p.versions n e.moment e.event e.reply.said) id) is ∙ there

    silent_next : is_reload e.event ≡ false → speaks_to id.frontend id.serial e.reply.said ≡ false → awaits_at n id ≡ true → awaits_at (played p.versions n e.moment e.event e.reply.said) id ≡ true
    silent_next other quiet there =
        ap (λ b. awaits_at (if b then n else handed p.versions n e.moment e.event e.reply.said) id) other
        ∙ elsewhere awaits_at awaits_silent plan h n e.moment e.event e.reply id legal.0 legal.1 (all_tied false plan text trial h opens legal.0) other quiet there

    quiet_of : ends e.reply.said id.frontend id.serial ≡ false → offers e.reply.said id.frontend id.serial ≡ false → takes e.reply.said id.frontend id.serial ≡ false → is_reload e.event ≡ false → awaits_at p id ≡ true →
        (b : Bool) → speaks_to id.frontend id.serial e.reply.said ≡ b → speaks_to id.frontend id.serial e.reply.said ≡ false
    quiet_of lasts unoffered untaken other before_it false quiet = quiet
    quiet_of lasts unoffered untaken other before_it true told =
        absurd
        (nothing_else plan h e.moment e.event e.reply id legal.0 legal.1 other before_it told (and_left (is_last e.reply.said) (speaks_to id.frontend id.serial e.reply.said) lasts told)
        (and_left (is_offer e.reply.said) (speaks_to id.frontend id.serial e.reply.said) unoffered told) (and_left (is_up e.reply.said) (speaks_to id.frontend id.serial e.reply.said) untaken told))

    reload_offers : is_reload e.event ≡ true → offers e.reply.said id.frontend id.serial ≡ true → ⊥
    reload_offers is offered = no_offer e.event legal.1 is (and_true (is_offer e.reply.said) (speaks_to id.frontend id.serial e.reply.said) offered).0
      where
        no_offer : (event : OwnedEvent) → answer_in p e.moment event ≡ Ok e.reply → is_reload event ≡ true → is_offer e.reply.said ≡ true → ⊥
        no_offer (Accept listener real) answers is offered = let wrong : false ≡ true = is in cc
        no_offer (Piece own bytes) answers is offered = let wrong : false ≡ true = is in cc
        no_offer (Connected own) answers is offered = let wrong : false ≡ true = is in cc
        no_offer (ConnectFailed own) answers is offered = let wrong : false ≡ true = is in cc
        no_offer (Close own why) answers is offered = let wrong : false ≡ true = is in cc
        no_offer (Expire own) answers is offered = let wrong : false ≡ true = is in cc
        no_offer (Reload text) answers is offered = contrary (is_offer e.reply.said) ⊥ offered (ap is_offer (answered p e.moment (Reload text) e.reply answers).says)
        no_offer (Mark number k health) answers is offered = let wrong : false ≡ true = is in cc

    on : (b : Bool) → is_reload e.event ≡ b → (c : Bool) → offers e.reply.said id.frontend id.serial ≡ c → (offers e.reply.said id.frontend id.serial ≡ true) ⊎ ((awaits_at p id ≡ true) × (takes e.reply.said id.frontend id.serial ≡ false)) →
        IsAwaited plan trial (e ∷ h) id
    on true is c offered (inl offers_it) = absurd (reload_offers is offers_it)
    on true is c offered (inr (before_it, untaken)) = kept_next (reload_next is) (earlier before_it)
    on false other true offered how = offer_next other offered
    on false other false unoffered (inl offers_it) = contrary (offers e.reply.said id.frontend id.serial) (IsAwaited plan trial (e ∷ h) id) offers_it unoffered
    on false other false unoffered (inr (before_it, untaken)) =
        kept_next (silent_next other (quiet_of a.lasts unoffered untaken other before_it (speaks_to id.frontend id.serial e.reply.said) refl)) (earlier before_it)

-- a connection that awaits its server in the record awaits it in the trial, unless it has had a difference, or was lost or saved
pub offered_in_both : (plan : Plan) (text : List ℕ) (trial : Plain) (h : List Entry) (id : ConnId) → trial_opening plan text ≡ Ok trial → IsLegal (opening plan 0) h → awaits_at (after (opening plan 0) h) id ≡ true → IsAwaited plan trial h id
offered_in_both plan text trial h id opens =
    along awaits_in refl plan id (λ g. IsAwaited plan trial g id) (λ g e legal now. offered_next plan text trial g e id opens legal (awaits_after (after (opening plan 0) g) e id now)) h
