-- A connection that waits in the record waits in the trial, unless it has had a difference.
use Rattle.std.proofs.Common.{◌≡◌, ◌⊎◌, inl, inr, ℕ, ◌+◌, ◌≤◌, Bool, true, false, List, [], ◌∷◌, ◌++◌, Option, Some, None, Result, Ok, Err, refl, ap, sym, subst, ◌∙◌, max, arith}
use Rattle.std.specs.Prelude.{◌==◌, ◌&&◌, ◌||◌, not, filter, slice_get, is_some, option_map, if◌then◌else◌}
use Rattle.std.specs.Option.{option_map_or}
use Rattle.std.proofs.lemmas.Bool.{eq-eqb, eqb-true}
use Rattle.addr_core.specs.PairValue.{PairValue}
use Rattle.plan_types.specs.declared.plan.Frontend.{Frontend}
use Rattle.plan_types.specs.declared.plan.Plan.{Plan}
use Rattle.conn_core.specs.declared.checked.ServerNumbers.{ServerNumbers}
use Rattle.conn_model.specs.declared.event.ConnId.{ConnId}
use Rattle.conn_model.specs.declared.event.Health.{Health}
use Rattle.conn_model.specs.declared.plain.Assignment.{Assignment}
use Rattle.conn_model.specs.declared.event.OwnedEvent.{OwnedEvent}
use Rattle.conn_model.specs.declared.event.OwnedEvent.TheVariants.{Accept, Piece, Connected, ConnectFailed, Close, Expire, Reload, Mark}
use Rattle.conn_model.specs.declared.event.Why.TheVariants.{Done}
use Rattle.conn_model.specs.declared.plain.FrontendRows.{FrontendRows}
use Rattle.conn_model.specs.declared.plain.Phase.{Phase}
use Rattle.conn_model.specs.declared.plain.Phase.TheVariants.{Waiting, Offered, Up}
use Rattle.conn_model.specs.declared.plain.Plain.{Plain}
use Rattle.conn_model.specs.declared.plain.Row.{Row}
use Rattle.conn_model.specs.declared.reply.Cause.TheVariants.{Expired}
use Rattle.conn_model.specs.declared.reply.Reply.{Reply}
use Rattle.conn_model.specs.declared.reply.Said.{Said}
use Rattle.conn_model.specs.declared.reply.Said.TheVariants as saids
use Rattle.conn_model.specs.declared.reply.StepFault.{StepFault}
use Rattle.conn_model.specs.declared.reply.StepFault.TheVariants.{NoSuch}
use Rattle.conn_model.specs.Answer.{answer_in, at_moment, awaits_server, offer_in, new_row, reply_of, row_at, row_in}
use Rattle.conn_model.specs.History.{Entry, IsFrontendWell, IsLegal, IsWell, after, arrival_of, arrivals, entry, frontend_after, has_ended, id_of, is_last, is_reload, leaves_open, opening, phase_by, plan_of, row_after, speaks_to}
use Rattle.conn_model.specs.Words.{is_conn, or_fault}
use Rattle.conn_model.proofs.Goes.{whole_in_parts}
use Rattle.conn_model.proofs.Lists.{all-at, all-each, all-found, all-map, and_true, get-from_zero}
use Rattle.conn_model.proofs.Replies.{answered, bind-ok, expired, has_failed, server_answered, IsNew}
use Rattle.conn_model.proofs.Well.{after-nil, opening_well, well_after}
use Rattle.conn_laws.specs.Deciding.{is_judgement, is_offer, is_wait, IsJudged, Waiter}
use Rattle.conn_laws.proofs.Judged.{piece_judged}
use Rattle.conn_laws.proofs.Present.{waits_there}
use Rattle.replay_core.specs.Turns.{plain_after}
use Rattle.whatif_core.specs.declared.decision.ComparedDecision.TheVariants as decisions
use Rattle.whatif_core.specs.Deciding.{closed, decided, decided_by, decision_of, difference, handed, is_failure, numbers_for, offer_of, stepped, taken}
use Rattle.whatif_core.specs.Reporting.{differs_of, history_report, trial_opening, turn_of, turn_with, HasDiffered}
use Rattle.whatif_core.proofs.LawLemmas.{accept_outcome, all_tied, and_no, arrived, contrary, ends, trial_after, trial_next, Outcome, Tied}
use Rattle.whatif_core.proofs.OnceLemmas.{same_decided, and_left, below_itself, decided_wait, found, found_mapped, found_serial, is_waiting, not_new, offers, old_given, on_piece, once_up, same_conn, same_reply, same_whom, spoken, then_waits, waits_after, waits_at, waits_in, Waited}

-- ---- a connection that waits on

pub found_on : (serial : ℕ) (xs ys : List Row) (row : Row) → found serial xs ≡ Some row → found serial (xs ++ ys) ≡ Some row
found_on serial [] ys row is = absurd (let wrong : None ≡ Some row = is in cc)
found_on serial (other ∷ xs) ys row is = by (other.serial == serial) refl is (found_on serial xs ys row)
  where
    by : (b : Bool) → (other.serial == serial) ≡ b → found serial (other ∷ xs) ≡ Some row → (found serial xs ≡ Some row → found serial (xs ++ ys) ≡ Some row) → found serial (other ∷ xs ++ ys) ≡ Some row
    by true here there later = let same : Some other ≡ Some row = rw here at there in rw here same
    by false here there later = rw here (later (rw here at there))

pub found_next : (serial : ℕ) (xs ys : List Row) → found serial xs ≡ None → found serial (xs ++ ys) ≡ found serial ys
found_next serial [] ys none = refl
found_next serial (other ∷ xs) ys none = by (other.serial == serial) refl none (found_next serial xs ys)
  where
    by : (b : Bool) → (other.serial == serial) ≡ b → found serial (other ∷ xs) ≡ None → (found serial xs ≡ None → found serial (xs ++ ys) ≡ found serial ys) → found serial (other ∷ xs ++ ys) ≡ found serial ys
    by true here there later = absurd (let wrong : Some other ≡ None = rw here at there in cc)
    by false here there later = rw here (later (rw here at there))

pub found_kept : (serial : ℕ) (test : ℕ → Bool) (rows : List Row) (row : Row) → test serial ≡ true → found serial rows ≡ Some row → found serial (filter (λ r. test r.serial) rows) ≡ Some row
found_kept serial test [] row keeps is = absurd (let wrong : None ≡ Some row = is in cc)
found_kept serial test (other ∷ rows) row keeps is = by (test other.serial) refl (other.serial == serial) refl is (found_kept serial test rows row keeps)
  where
    by : (a : Bool) → test other.serial ≡ a → (b : Bool) → (other.serial == serial) ≡ b → found serial (other ∷ rows) ≡ Some row →
        (found serial rows ≡ Some row → found serial (filter (λ r. test r.serial) rows) ≡ Some row) → found serial (filter (λ r. test r.serial) (other ∷ rows)) ≡ Some row
    by true stays true here there later = let same : Some other ≡ Some row = rw here at there in rw (stays, here) same
    by true stays false here there later = rw (stays, here) (later (rw here at there))
    by false drops true here there later =
        contrary (test serial) (found serial (filter (λ r. test r.serial) (other ∷ rows)) ≡ Some row) keeps (ap test (sym (eqb-true other.serial serial here)) ∙ drops)
    by false drops false here there later = rw drops (later (rw here at there))

waits_by : (plan : Option Plan) (event : OwnedEvent) (said : Said) (phase : Phase) → is_offer said ≡ false → is_waiting phase ≡ true → is_waiting (phase_by plan event said phase) ≡ true
waits_by plan event (saids.Wait id used) phase other is = on_piece _ phase ∙ is
waits_by plan event (saids.Offer id used line server to judged send) phase other is = absurd (cc)
waits_by plan event (saids.Up id) phase other is = once_up phase ∙ is
waits_by plan event said phase other is = is

waits_if : (plan : Option Plan) (event : OwnedEvent) (said : Said) (phase : Phase) (b : Bool) → (is_offer said && b) ≡ false → is_waiting phase ≡ true → is_waiting (if b then phase_by plan event said phase else phase) ≡ true
waits_if plan event said phase true other is = waits_by plan event said phase (and_left (is_offer said) true other refl) is
waits_if plan event said phase false other is = is

pub not_either : (a : Bool) → a ≡ false → not (a || false) ≡ true
not_either true is = absurd (cc)
not_either false is = refl

-- a row that waits, old or new, waits after an entry that neither ends its connection nor offers it a server
row_waits : (q : Plain) (e : Entry) (number serial : ℕ) (own : FrontendRows) (row : Row) → found serial (own.rows ++ arrivals q number (e ∷ [])) ≡ Some row → is_waiting row.phase ≡ true → row.serial ≡ serial →
    ends e.reply.said number serial ≡ false → offers e.reply.said number serial ≡ false → waits_in (found serial (frontend_after q (e ∷ []) number own).rows) ≡ true
row_waits q e number serial own row there waits same lasts unoffered =
    let live : List Row = filter (λ r. not (has_ended number (e ∷ []) r.serial)) (own.rows ++ arrivals q number (e ∷ [])) in
    let kept : found serial live ≡ Some row = found_kept serial (λ n. not (has_ended number (e ∷ []) n)) (own.rows ++ arrivals q number (e ∷ [])) row (not_either (ends e.reply.said number serial) lasts) there in
    ap waits_in (found_mapped serial (row_after q number (e ∷ [])) (λ r. refl) live) ∙ ap (λ o. waits_in (option_map (row_after q number (e ∷ [])) o)) kept
    ∙ waits_if (plan_of q [] row.version) e.event e.reply.said row.phase (speaks_to number row.serial e.reply.said) (ap (λ n. is_offer e.reply.said && speaks_to number n e.reply.said) same ∙ unoffered) waits

-- the row of a connection that waits
pub record WaitingRow (q : Plain) (id : ConnId) : Type 0 where
  pub row : Row
  pub there : row_at q.frontends id ≡ Some row
  pub waits : is_waiting row.phase ≡ true

pub waiting_row_at : (q : Plain) (id : ConnId) → waits_at q id ≡ true → WaitingRow q id
waiting_row_at q id is = by (row_at q.frontends id) refl is
  where
    by : (o : Option Row) → row_at q.frontends id ≡ o → waits_in o ≡ true → WaitingRow q id
    by None none now = absurd (let wrong : false ≡ true = now in cc)
    by (Some row) there now = record { row = row; there = there; waits = now }

pub not_waiting : (a b : Row) → is_waiting a.phase ≡ true → awaits_server b.phase ≡ true → a ≡ b → ⊥
not_waiting a b waits awaits same = neither b.phase (ap (λ (r : Row). is_waiting r.phase) (sym same) ∙ waits) awaits
  where
    neither : (phase : Phase) → is_waiting phase ≡ true → awaits_server phase ≡ true → ⊥
    neither (Waiting rest) waits awaits = let wrong : false ≡ true = awaits in cc
    neither (Offered assignment) waits awaits = let wrong : false ≡ true = waits in cc
    neither (Up assignment) waits awaits = let wrong : false ≡ true = waits in cc

-- a connection that waits waits after such an entry
waits_kept : (q : Plain) → IsWell q → (e : Entry) (id : ConnId) → waits_at q id ≡ true → ends e.reply.said id.frontend id.serial ≡ false → offers e.reply.said id.frontend id.serial ≡ false → waits_at (after q (e ∷ [])) id ≡ true
waits_kept q well e id is lasts unoffered =
    let here = waiting_row_at q id is in
    let given = old_given q well id here.row here.there in
    let in_own : found id.serial given.own.rows ≡ Some here.row = sym (ap (λ (o : Option FrontendRows). row_in id.serial o) given.there) ∙ here.there in
    let next : slice_get (after q (e ∷ [])).frontends id.frontend ≡ Some (frontend_after q (e ∷ []) id.frontend given.own) = get-from_zero (frontend_after q (e ∷ [])) q.frontends id.frontend given.own given.there in
    ap (λ (o : Option FrontendRows). waits_in (row_in id.serial o)) next
    ∙ row_waits q e id.frontend id.serial given.own here.row (found_on id.serial given.own.rows (arrivals q id.frontend (e ∷ [])) here.row in_own) here.waits (found_serial id.serial given.own.rows here.row in_own) lasts unoffered

-- ---- a connection that comes and waits

waits_open : (said : Said) → is_wait said ≡ true → (leaves_open said ≡ true) × (is_last said ≡ false) × (is_offer said ≡ false)
waits_open (saids.Wait id used) is = (refl, refl, refl)
waits_open said is = absurd (cc)

pub came_in : (id : ConnId) (clock version : ℕ) (real : PairValue) (said : Said) → id_of said ≡ Some id → leaves_open said ≡ true → found id.serial (arrival_of id.frontend clock version real said (id_of said)) ≡ Some (new_row id.serial version real clock)
came_in id clock version real said whom stays = rw (whom, stays, eq-eqb id.frontend id.frontend refl, eq-eqb id.serial id.serial refl) refl

-- no open connection has the serial of a newcomer
pub new_serial : (q : Plain) → IsWell q → (id : ConnId) (own : FrontendRows) → slice_get q.frontends id.frontend ≡ Some own → id.serial ≡ own.serial + 1 → found id.serial own.rows ≡ None
new_serial q well id own there next = by (found id.serial own.rows) refl
  where
    by : (o : Option Row) → found id.serial own.rows ≡ o → found id.serial own.rows ≡ None
    by None none = none
    by (Some row) is =
        let fine = all-at (IsFrontendWell q.versions) q.frontends id.frontend own well.frontends there in
        let here = all-found (λ r. r.serial ≤ own.serial) (λ r. r.serial == id.serial) own.rows row fine.given is in
        let same : row.serial ≡ id.serial = eqb-true row.serial id.serial here.1 in
        let less : row.serial ≤ own.serial = here.0 in
        absurd (omega (arith, same, less, next))

-- The row of a newcomer.
pub record NewRow (q : Plain) (e : Entry) (id : ConnId) : Type 0 where
  pub own : FrontendRows
  pub row : Row
  pub there : found id.serial (own.rows ++ arrivals q id.frontend (e ∷ [])) ≡ Some row
  pub same : row.serial ≡ id.serial
  pub waits : is_waiting row.phase ≡ true
  pub next : slice_get (after q (e ∷ [])).frontends id.frontend ≡ Some (frontend_after q (e ∷ []) id.frontend own)

pub newcomer_row : (q : Plain) → IsWell q → (moment listener : ℕ) (real : PairValue) (reply : Reply) (id : ConnId) → IsNew q reply.said → id_of reply.said ≡ Some id → leaves_open reply.said ≡ true →
    NewRow q (entry moment (Accept listener real) reply) id
newcomer_row q well moment listener real reply id new whom stays =
    let e : Entry = entry moment (Accept listener real) reply in
    let same : new.id ≡ id = same_conn new.id id (id_of reply.said) new.speaks whom in
    let there : slice_get q.frontends id.frontend ≡ Some new.own = ap (λ (i : ConnId). slice_get q.frontends i.frontend) (sym same) ∙ new.there in
    let next : id.serial ≡ new.own.serial + 1 = ap (λ (i : ConnId). i.serial) (sym same) ∙ new.next in
    let rows = found_next id.serial new.own.rows (arrivals q id.frontend (e ∷ [])) (new_serial q well id new.own there next) ∙ came_in id _ _ real reply.said whom stays in
    record {
      own = new.own;
      row = _;
      there = rows;
      same = refl;
      waits = refl;
      next = get-from_zero (frontend_after q (e ∷ [])) q.frontends id.frontend new.own there;
    }

waits_new : (q : Plain) → IsWell q → (moment listener : ℕ) (real : PairValue) (reply : Reply) (id : ConnId) → IsNew q reply.said → id_of reply.said ≡ Some id → is_wait reply.said ≡ true →
    waits_at (after q (entry moment (Accept listener real) reply ∷ [])) id ≡ true
waits_new q well moment listener real reply id new whom waits =
    let open_still = waits_open reply.said waits in
    let here = newcomer_row q well moment listener real reply id new whom open_still.0 in
    ap (λ (o : Option FrontendRows). waits_in (row_in id.serial o)) here.next
    ∙ row_waits q (entry moment (Accept listener real) reply) id.frontend id.serial here.own here.row here.there here.waits here.same
    (ap (λ b. b && speaks_to id.frontend id.serial reply.said) open_still.1) (ap (λ b. b && speaks_to id.frontend id.serial reply.said) open_still.2)

-- ---- decisions

unlike_wait : (q : Plain) (said : Said) → is_judgement said ≡ true → is_wait said ≡ false → is_some (difference (Some decisions.Wait) (decision_of q said)) ≡ true
unlike_wait q (saids.Offer id used line server to judged2 send) judged other = by _
  where
    by : (names : Option (List ℕ × List ℕ)) → is_some (difference (Some decisions.Wait) (Some (offer_of names line))) ≡ true
    by None = refl
    by (Some names) = refl
unlike_wait q (saids.Refuse id used cause) judged other = refl
unlike_wait q said judged other = absurd (cc)

pub differs_made : (p n : Plain) (moment : ℕ) (event : OwnedEvent) (reply : Reply) (id : ConnId) → is_reload event ≡ false → is_some (difference (decided p moment event) (decided n moment event)) ≡ true → id_of reply.said ≡ Some id →
    differs_of (turn_of p n (entry moment event reply)) ≡ Some id
differs_made p n moment event reply id other some whom =
    ap (λ b. differs_of (if b then None else Some (turn_with p n (entry moment event reply)))) other
    ∙ ap (λ b. if b then id_of reply.said else None) (ap (λ d. is_some (difference (decided p moment event) d)) (same_decided p.versions n moment event) ∙ some)
    ∙ whom

-- the trial tells it the same, or that is a difference
pub both_told : (told : Said → Bool) (p n : Plain) (moment : ℕ) (event : OwnedEvent) (reply theirs : Reply) (id : ConnId) → is_reload event ≡ false → id_of reply.said ≡ Some id →
    (told theirs.said ≡ false → is_some (difference (decided p moment event) (decided n moment event)) ≡ true) → (told theirs.said ≡ true) ⊎ (differs_of (turn_of p n (entry moment event reply)) ≡ Some id)
both_told told p n moment event reply theirs id other whom unlike = by (told theirs.said) refl
  where
    by : (b : Bool) → told theirs.said ≡ b → (told theirs.said ≡ true) ⊎ (differs_of (turn_of p n (entry moment event reply)) ≡ Some id)
    by true they = inl they
    by false they = inr (differs_made p n moment event reply id other (unlike they) whom)

-- the record lets it wait
both_wait : (p n : Plain) (moment : ℕ) (event : OwnedEvent) (reply theirs : Reply) (id : ConnId) → is_reload event ≡ false → is_failure event ≡ false → answer_in p moment event ≡ Ok reply → is_wait reply.said ≡ true → id_of reply.said ≡ Some id →
    answer_in n moment event ≡ Ok theirs → is_judgement theirs.said ≡ true → (is_wait theirs.said ≡ true) ⊎ (differs_of (turn_of p n (entry moment event reply)) ≡ Some id)
both_wait p n moment event reply theirs id other no_failure is waits whom answers judged = both_told is_wait p n moment event reply theirs id other whom (λ they.
    ap (λ d. is_some (difference d (decided n moment event))) (decided_wait p moment event reply is no_failure waits)
    ∙ ap (λ a. is_some (difference (Some decisions.Wait) (decided_by (stepped n moment event) event a))) answers
    ∙ ap (λ b. is_some (difference (Some decisions.Wait) (if b then None else decision_of (stepped n moment event) theirs.said))) no_failure
    ∙ unlike_wait (stepped n moment event) theirs.said judged they)

-- ---- the trial

-- a state after a legal history judges a piece of a connection that waits
pub judged_on : (plan : Plan) (q : Plain) (past : List Entry) → IsLegal (opening plan 0) past → q ≡ after (opening plan 0) past → (moment : ℕ) (id : ConnId) (bytes : List ℕ) → waits_at q id ≡ true → IsJudged (answer_in q moment (Piece id bytes))
judged_on plan q past legal is moment id bytes waits =
    let here = waiting_row_at q id waits in
    piece_judged q moment id bytes (subst (λ m. Waiter m id) (sym is) (waits_there plan 0 past legal id here.row (ap (λ (m : Plain). row_at m.frontends id) (sym is) ∙ here.there) here.waits))

pub silent : (said : Said) (id : ConnId) → speaks_to id.frontend id.serial said ≡ false → (ends said id.frontend id.serial ≡ false) × (offers said id.frontend id.serial ≡ false)
silent said id is = (ap (λ b. is_last said && b) is ∙ and_no (is_last said), ap (λ b. is_offer said && b) is ∙ and_no (is_offer said))

pub well_of : (plan : Plan) (q : Plain) (past : List Entry) → IsLegal (opening plan 0) past → q ≡ after (opening plan 0) past → IsWell q
well_of plan q past legal is = subst IsWell (sym is) (well_after (opening plan 0) (opening_well plan 0) past legal)

-- what holds of a connection, and holds of it after each entry that says nothing to it
abbrev pub IsKept : (Plain → ConnId → Bool) → Type 0
IsKept holds = (q : Plain) → IsWell q → (e : Entry) (id : ConnId) → holds q id ≡ true → speaks_to id.frontend id.serial e.reply.said ≡ false → holds (after q (e ∷ [])) id ≡ true

waits_silent : IsKept waits_at
waits_silent q well e id is quiet = let none = silent e.reply.said id quiet in waits_kept q well e id is none.0 none.1

-- closing another connection
closed_other : (holds : Plain → ConnId → Bool) → IsKept holds → (n : Plain) → IsWell n → (moment : ℕ) (other id : ConnId) → is_conn id.frontend id.serial other ≡ false → holds n id ≡ true → holds (stepped n moment (Close other Done)) id ≡ true
closed_other holds kept n well moment other id apart is = by (answer_in n moment (Close other Done)) refl
  where
    by : (answer : Result Reply StepFault) → answer_in n moment (Close other Done) ≡ answer → holds (plain_after n moment (Close other Done) answer) id ≡ true
    by (Err fault) answers = is
    by (Ok reply) answers = kept n well (entry moment (Close other Done) reply) id is (ap (λ o. option_map_or (is_conn id.frontend id.serial) o false) (answered n moment (Close other Done) reply answers).speaks ∙ apart)

closed_on : (holds : Plain → ConnId → Bool) → IsKept holds → (n : Plain) → IsWell n → (moment : ℕ) (said : Said) (id : ConnId) → ends said id.frontend id.serial ≡ false → holds n id ≡ true → holds (closed moment said n) id ≡ true
closed_on holds kept n well moment (saids.Refuse other used cause) id lasts is = closed_other holds kept n well moment other id lasts is
closed_on holds kept n well moment (saids.Closed other why) id lasts is = closed_other holds kept n well moment other id lasts is
closed_on holds kept n well moment said id lasts is = is

-- the trial after an event that was handed in, whose answer leaves it so
handed_on : (holds : Plain → ConnId → Bool) → IsKept holds → (n : Plain) → IsWell n → (moment : ℕ) (event : OwnedEvent) (said : Said) (id : ConnId) → ((fault : StepFault) → answer_in n moment event ≡ Err fault → holds n id ≡ true) →
    ((theirs : Reply) → answer_in n moment event ≡ Ok theirs → (holds (after n (entry moment event theirs ∷ [])) id ≡ true) × IsWell (after n (entry moment event theirs ∷ []))) →
    ends said id.frontend id.serial ≡ false → holds (closed moment said (stepped n moment event)) id ≡ true
handed_on holds kept n well moment event said id refused goes lasts = by (answer_in n moment event) refl
  where
    by : (answer : Result Reply StepFault) → answer_in n moment event ≡ answer → holds (closed moment said (plain_after n moment event answer)) id ≡ true
    by (Err fault) answers = closed_on holds kept n well moment said id lasts (refused fault answers)
    by (Ok theirs) answers = let on = goes theirs answers in closed_on holds kept (after n (entry moment event theirs ∷ [])) on.1 moment said id lasts on.0

-- what a state after a legal history is after one answer more is well
well_next : (plan : Plan) (q : Plain) (past : List Entry) → IsLegal (opening plan 0) past → q ≡ after (opening plan 0) past → (moment : ℕ) (event : OwnedEvent) (reply : Reply) → answer_in q moment event ≡ Ok reply →
    IsWell (after q (entry moment event reply ∷ []))
well_next plan q past legal is moment event reply answers =
    let o : Plain = opening plan 0 in
    let longer : IsLegal o (entry moment event reply ∷ past) = (legal, ap (λ m. answer_in m moment event) (sym is) ∙ answers) in
    subst IsWell (sym (whole_in_parts o (opening_well plan 0) (entry moment event reply ∷ []) past longer) ∙ ap (λ m. after m (entry moment event reply ∷ [])) (sym is)) (well_after o (opening_well plan 0) (entry moment event reply ∷ past) longer)

-- the entry says nothing to the connection, and its event is handed in as it is: that holds on in the trial
elsewhere_as : (holds : Plain → ConnId → Bool) → IsKept holds → (plan : Plan) (h : List Entry) (n : Plain) (moment : ℕ) (event : OwnedEvent) (reply : Reply) (id : ConnId) → IsLegal (opening plan 0) h →
    answer_in (after (opening plan 0) h) moment event ≡ Ok reply → Tied plan (after (opening plan 0) h) n → is_reload event ≡ false → speaks_to id.frontend id.serial reply.said ≡ false → holds n id ≡ true →
    holds (closed moment reply.said (stepped n moment event)) id ≡ true
elsewhere_as holds kept plan h n moment event reply id legal is tied other quiet it =
    let well = well_of plan n tied.past tied.legal tied.is in
    handed_on holds kept n well moment event reply.said id (λ fault answers. it)
    (λ theirs answers. (
      kept n well (entry moment event theirs) id it (ap (λ o. option_map_or (is_conn id.frontend id.serial) o false) (same_whom plan h n moment event reply theirs legal is tied answers other) ∙ quiet),
      well_next plan n tied.past tied.legal tied.is moment event theirs answers,
    ))
    (silent reply.said id quiet).0

-- so it does where a report is taken as one of that server
reported_elsewhere : (holds : Plain → ConnId → Bool) → IsKept holds → (plan : Plan) (n : Plain) (past : List Entry) → IsLegal (opening plan 0) past → n ≡ after (opening plan 0) past → (moment : ℕ) (health : Health) (at : Option ServerNumbers) (said : Said) (id : ConnId) →
    ends said id.frontend id.serial ≡ false → holds n id ≡ true → holds (closed moment said (taken n moment (option_map (λ (a : ServerNumbers). Mark a.backend a.server health) at))) id ≡ true
reported_elsewhere holds kept plan n past legal is moment health None said id lasts it = closed_on holds kept n (well_of plan n past legal is) moment said id lasts it
reported_elsewhere holds kept plan n past legal is moment health (Some at) said id lasts it =
    let event : OwnedEvent = Mark at.backend at.server health in
    let well = well_of plan n past legal is in
    handed_on holds kept n well moment event said id (λ fault answers. it)
    (λ theirs answers. (
      kept n well (entry moment event theirs) id it (ap (λ o. option_map_or (is_conn id.frontend id.serial) o false) (ap id_of (answered n moment event theirs answers).says)),
      well_next plan n past legal is moment event theirs answers,
    ))
    lasts

pub elsewhere : (holds : Plain → ConnId → Bool) → IsKept holds → (plan : Plan) (h : List Entry) (n : Plain) (moment : ℕ) (event : OwnedEvent) (reply : Reply) (id : ConnId) → IsLegal (opening plan 0) h → answer_in (after (opening plan 0) h) moment event ≡ Ok reply →
    Tied plan (after (opening plan 0) h) n → is_reload event ≡ false → speaks_to id.frontend id.serial reply.said ≡ false → holds n id ≡ true →
    holds (handed (after (opening plan 0) h).versions n moment event reply.said) id ≡ true
elsewhere holds kept plan h n moment (Accept listener real) reply id legal is tied other quiet it = elsewhere_as holds kept plan h n moment (Accept listener real) reply id legal is tied other quiet it
elsewhere holds kept plan h n moment (Piece own bytes) reply id legal is tied other quiet it = elsewhere_as holds kept plan h n moment (Piece own bytes) reply id legal is tied other quiet it
elsewhere holds kept plan h n moment (Connected own) reply id legal is tied other quiet it = elsewhere_as holds kept plan h n moment (Connected own) reply id legal is tied other quiet it
elsewhere holds kept plan h n moment (ConnectFailed own) reply id legal is tied other quiet it = elsewhere_as holds kept plan h n moment (ConnectFailed own) reply id legal is tied other quiet it
elsewhere holds kept plan h n moment (Close own why) reply id legal is tied other quiet it = elsewhere_as holds kept plan h n moment (Close own why) reply id legal is tied other quiet it
elsewhere holds kept plan h n moment (Expire own) reply id legal is tied other quiet it = elsewhere_as holds kept plan h n moment (Expire own) reply id legal is tied other quiet it
elsewhere holds kept plan h n moment (Reload text) reply id legal is tied other quiet it = elsewhere_as holds kept plan h n moment (Reload text) reply id legal is tied other quiet it
elsewhere holds kept plan h n moment (Mark number k health) reply id legal is tied other quiet it =
    reported_elsewhere holds kept plan n tied.past tied.legal tied.is moment health (numbers_for (after (opening plan 0) h).versions n.versions number k) reply.said id (silent reply.said id quiet).0 it

-- both let it wait
lets_wait : (plan : Plan) (n : Plain) (moment : ℕ) (event : OwnedEvent) (reply theirs : Reply) (id : ConnId) (past : List Entry) → IsLegal (opening plan 0) past → n ≡ after (opening plan 0) past →
    answer_in n moment event ≡ Ok theirs → waits_at (after n (entry moment event theirs ∷ [])) id ≡ true → is_wait reply.said ≡ true → waits_at (closed moment reply.said (stepped n moment event)) id ≡ true
lets_wait plan n moment event reply theirs id past legal is answers on waits =
    handed_on waits_at waits_silent n (well_of plan n past legal is) moment event reply.said id (λ fault refused. absurd (let wrong : Err fault ≡ Ok theirs = sym refused ∙ answers in cc))
    (λ found found_is. (
      subst (λ (r : Reply). waits_at (after n (entry moment event r ∷ [])) id ≡ true) (same_reply (answer_in n moment event) theirs found answers found_is) on,
      well_next plan n past legal is moment event found found_is,
    ))
    (ap (λ b. b && speaks_to id.frontend id.serial reply.said) (waits_open reply.said waits).1)

abbrev WaitsOn : Plain → Plain → ℕ → OwnedEvent → Reply → ConnId → Type 0
WaitsOn p n moment event reply id = (differs_of (turn_of p n (entry moment event reply)) ≡ Some id) ⊎ (waits_at (handed p.versions n moment event reply.said) id ≡ true)

-- what comes of how the trial answers a newcomer
pub newcomer_answered : {R : Type 0} (plan : Plan) (h : List Entry) (n : Plain) (moment listener : ℕ) (real : PairValue) (reply : Reply) → IsLegal (opening plan 0) h → answer_in (after (opening plan 0) h) moment (Accept listener real) ≡ Ok reply →
    Tied plan (after (opening plan 0) h) n → ((theirs : Reply) → answer_in n moment (Accept listener real) ≡ Ok theirs → id_of theirs.said ≡ id_of reply.said → is_judgement theirs.said ≡ true → R) → R
newcomer_answered {R = R} plan h n moment listener real reply legal is tied leads = by (accept_outcome plan h n moment listener real reply legal is tied)
  where
    by : Outcome n moment (Accept listener real) reply.said → R
    by (inl (fault, refused, none)) = absurd (cc)
    by (inr (theirs, answers, agree)) = leads theirs answers agree.0 agree.2

-- a newcomer that the record lets wait
comes : (plan : Plan) (h : List Entry) (n : Plain) (moment listener : ℕ) (real : PairValue) (reply : Reply) (id : ConnId) → IsLegal (opening plan 0) h → answer_in (after (opening plan 0) h) moment (Accept listener real) ≡ Ok reply →
    Tied plan (after (opening plan 0) h) n → id_of reply.said ≡ Some id → is_wait reply.said ≡ true → WaitsOn (after (opening plan 0) h) n moment (Accept listener real) reply id
comes plan h n moment listener real reply id legal is tied whom waits = newcomer_answered plan h n moment listener real reply legal is tied
    (λ theirs answers same judged. elim (both_wait (after (opening plan 0) h) n moment (Accept listener real) reply theirs id refl refl is waits whom answers judged) [
      | inl they ↦ inr (lets_wait plan n moment (Accept listener real) reply theirs id tied.past tied.legal tied.is answers
          (waits_new n (well_of plan n tied.past tied.legal tied.is) moment listener real theirs id (answered n moment (Accept listener real) theirs answers) (same ∙ whom) they) waits)
      | inr different ↦ inl different
    ])

-- a piece after which it waits on in the record
goes_on : (plan : Plan) (h : List Entry) (n : Plain) (moment : ℕ) (id : ConnId) (bytes : List ℕ) (reply : Reply) → IsLegal (opening plan 0) h → answer_in (after (opening plan 0) h) moment (Piece id bytes) ≡ Ok reply →
    Tied plan (after (opening plan 0) h) n → is_wait reply.said ≡ true → waits_at n id ≡ true → WaitsOn (after (opening plan 0) h) n moment (Piece id bytes) reply id
goes_on plan h n moment id bytes reply legal is tied waits there =
    let judged = judged_on plan n tied.past tied.legal tied.is moment id bytes there in
    let theirs : Reply = judged.0 in
    let old = answered n moment (Piece id bytes) theirs judged.1 in
    elim (both_wait (after (opening plan 0) h) n moment (Piece id bytes) reply theirs id refl refl is waits (answered (after (opening plan 0) h) moment (Piece id bytes) reply is).speaks judged.1 judged.2) [
      | inl they ↦ (
          let open_still = waits_open theirs.said they in
          inr (lets_wait plan n moment (Piece id bytes) reply theirs id tied.past tied.legal tied.is judged.1
          (waits_kept n (well_of plan n tied.past tied.legal tied.is) (entry moment (Piece id bytes) theirs) id there
          (ap (λ b. b && speaks_to id.frontend id.serial theirs.said) open_still.1) (ap (λ b. b && speaks_to id.frontend id.serial theirs.said) open_still.2)) waits))
      | inr different ↦ inl different
    ]

-- ---- along a history

abbrev IsKnown : Plan → Plain → List Entry → ConnId → Type 0
IsKnown plan trial h id = HasDiffered (opening plan 0) trial id h ⊎ (waits_at (history_report false (opening plan 0) trial h).trial id ≡ true)

-- the same connection
pub spoken_id : (id own : ConnId) (said : Said) → id_of said ≡ Some own → speaks_to id.frontend id.serial said ≡ true → own ≡ id
spoken_id id own said whom is = same_conn own id (id_of said) whom (spoken id (id_of said) is)

-- it waited before the entry and after it in the record, and before it in the trial
on_entry : (plan : Plan) (h : List Entry) (n : Plain) (moment : ℕ) (event : OwnedEvent) (reply : Reply) (id : ConnId) → IsLegal (opening plan 0) h → answer_in (after (opening plan 0) h) moment event ≡ Ok reply →
    Tied plan (after (opening plan 0) h) n → is_reload event ≡ false → waits_at (after (opening plan 0) h) id ≡ true → waits_at n id ≡ true → (before came : Bool) → Waited before came reply.said id.frontend id.serial →
    WaitsOn (after (opening plan 0) h) n moment event reply id
on_entry plan h n moment event reply id legal is tied other waits there before came w = by (speaks_to id.frontend id.serial reply.said) refl
  where
    p : Plain
    p = after (opening plan 0) h

    last_not : speaks_to id.frontend id.serial reply.said ≡ true → is_last reply.said ≡ false
    last_not spoken_to = and_left (is_last reply.said) (speaks_to id.frontend id.serial reply.said) w.lasts spoken_to

    over : (said : Said) → is_last said ≡ true → said ≡ reply.said → speaks_to id.frontend id.serial reply.said ≡ true → WaitsOn p n moment event reply id
    over said last same spoken_to = contrary (is_last reply.said) (WaitsOn p n moment event reply id) (ap is_last (sym same) ∙ last) (last_not spoken_to)

    spoken_on : (ev : OwnedEvent) → event ≡ ev → speaks_to id.frontend id.serial reply.said ≡ true → WaitsOn p n moment event reply id
    spoken_on (Accept listener real) same spoken_to =
        let now = ap (λ ev. answer_in p moment ev) (sym same) ∙ is in
        let here = waiting_row_at p id waits in
        let given = old_given p (well_after (opening plan 0) (opening_well plan 0) h legal) id here.row here.there in
        absurd (not_new p p (below_itself p) id given.own given.there given.given reply.said (answered p moment (Accept listener real) reply now) (spoken id (id_of reply.said) spoken_to))
    spoken_on (Piece own bytes) same spoken_to =
        let now = ap (λ ev. answer_in p moment ev) (sym same) ∙ is in
        let one : own ≡ id = spoken_id id own reply.said (answered p moment (Piece own bytes) reply now).speaks spoken_to in
        let of_id : event ≡ Piece id bytes = same ∙ ap (λ i. Piece i bytes) one in
        let mine : answer_in p moment (Piece id bytes) ≡ Ok reply = ap (λ ev. answer_in p moment ev) (sym of_id) ∙ is in
        let judged = judged_on plan p h legal refl moment id bytes waits in
        let judged_reply : is_judgement reply.said ≡ true = ap (λ (r : Reply). is_judgement r.said) (same_reply (answer_in p moment (Piece id bytes)) reply judged.0 mine judged.1) ∙ judged.2 in
        let we_wait : is_wait reply.said ≡ true = then_waits reply.said judged_reply (last_not spoken_to) (and_left (is_offer reply.said) (speaks_to id.frontend id.serial reply.said) w.unoffered spoken_to) in
        subst (λ ev. WaitsOn p n moment ev reply id) (sym of_id) (goes_on plan h n moment id bytes reply legal mine tied we_wait there)
    spoken_on (Connected own) same spoken_to =
        let now = ap (λ ev. answer_in p moment ev) (sym same) ∙ is in
        let got = server_answered p own (saids.Up own) reply now in
        let one : own ≡ id = spoken_id id own reply.said (answered p moment (Connected own) reply now).speaks spoken_to in
        let here = waiting_row_at p id waits in
        absurd (not_waiting here.row got.row here.waits got.awaits (let twice : Some got.row ≡ Some here.row = sym got.row_is ∙ ap (row_at p.frontends) one ∙ here.there in cc))
    spoken_on (ConnectFailed own) same spoken_to =
        let now = ap (λ ev. answer_in p moment ev) (sym same) ∙ is in
        let got = has_failed (at_moment moment p) own reply now in
        let one : own ≡ id = spoken_id id own reply.said (answered p moment (ConnectFailed own) reply now).speaks spoken_to in
        let here = waiting_row_at p id waits in
        absurd (not_both got.row here.row got.given got.offered here.waits (let twice : Some got.row ≡ Some here.row = sym got.row_is ∙ ap (row_at p.frontends) one ∙ here.there in cc))
      where
        not_both : (a b : Row) (given : Assignment) → offer_in a.phase ≡ Some given → is_waiting b.phase ≡ true → a ≡ b → ⊥
        not_both a b given offered waits same = neither b.phase (ap (λ (r : Row). offer_in r.phase) (sym same) ∙ offered) waits
          where
            neither : (phase : Phase) → offer_in phase ≡ Some given → is_waiting phase ≡ true → ⊥
            neither (Waiting rest) offered waits = let wrong : None ≡ Some given = offered in cc
            neither (Offered assignment) offered waits = let wrong : false ≡ true = waits in cc
            neither (Up assignment) offered waits = let wrong : false ≡ true = waits in cc
    spoken_on (Close own why) same spoken_to =
        let now = ap (λ ev. answer_in p moment ev) (sym same) ∙ is in
        let one = bind-ok (or_fault NoSuch (row_at p.frontends own)) _ reply now in
        let it : reply_of (saids.Closed own why) ≡ reply = let both : Ok (reply_of (saids.Closed own why)) ≡ Ok reply = one.2 in cc in
        over (saids.Closed own why) refl (ap (λ (r : Reply). r.said) it) spoken_to
    spoken_on (Expire own) same spoken_to =
        let now = ap (λ ev. answer_in p moment ev) (sym same) ∙ is in
        over (saids.Refuse own 0 Expired) refl (ap (λ (r : Reply). r.said) (expired p (max p.clock moment) own reply now).reply_is) spoken_to
    spoken_on (Reload text) same spoken_to = contrary (is_reload event) (WaitsOn p n moment event reply id) (ap is_reload same) other
    spoken_on (Mark number k health) same spoken_to =
        let now = ap (λ ev. answer_in p moment ev) (sym same) ∙ is in
        contrary (speaks_to id.frontend id.serial reply.said) (WaitsOn p n moment event reply id) spoken_to (ap (speaks_to id.frontend id.serial) (answered p moment (Mark number k health) reply now).says)

    by : (b : Bool) → speaks_to id.frontend id.serial reply.said ≡ b → WaitsOn p n moment event reply id
    by true spoken_to = spoken_on event refl spoken_to
    by false quiet = inr (elsewhere waits_at waits_silent plan h n moment event reply id legal is tied other quiet there)

-- it came at the entry, and waits
at_entry : (plan : Plan) (h : List Entry) (n : Plain) (moment : ℕ) (event : OwnedEvent) (reply : Reply) (id : ConnId) → IsLegal (opening plan 0) h → answer_in (after (opening plan 0) h) moment event ≡ Ok reply →
    Tied plan (after (opening plan 0) h) n → arrived id.frontend id.serial event reply.said ≡ true → (before came : Bool) → Waited before came reply.said id.frontend id.serial → WaitsOn (after (opening plan 0) h) n moment event reply id
at_entry plan h n moment (Accept listener real) reply id legal is tied came before came_too w =
    let both = and_true (leaves_open reply.said) (speaks_to id.frontend id.serial reply.said) came in
    comes plan h n moment listener real reply id legal is tied (spoken id (id_of reply.said) both.1) (opens reply.said both.0 (and_left (is_offer reply.said) (speaks_to id.frontend id.serial reply.said) w.unoffered both.1))
  where
    opens : (said : Said) → leaves_open said ≡ true → is_offer said ≡ false → is_wait said ≡ true
    opens (saids.Wait id used) stays other = refl
    opens said stays other = absurd (cc)
at_entry plan h n moment (Piece own bytes) reply id legal is tied came before came_too w = absurd (cc)
at_entry plan h n moment event reply id legal is tied came before came_too w = absurd (cc)

nobody : (holds : Option Row → Bool) → holds None ≡ false → (plan : Plan) (id : ConnId) → holds (row_at (after (opening plan 0) []).frontends id) ≡ false
nobody holds none plan id = ap (λ (q : Plain). holds (row_at q.frontends id)) (after-nil (opening plan 0) (opening_well plan 0)) ∙ by (slice_get (opening plan 0).frontends id.frontend) refl
  where
    by : (o : Option FrontendRows) → slice_get (opening plan 0).frontends id.frontend ≡ o → holds (row_in id.serial o) ≡ false
    by None is = none
    by (Some own) there =
        let empty : own.rows ≡ [] =
        all-at (λ f. f.rows ≡ []) (opening plan 0).frontends id.frontend own
        (all-map (λ f. f.rows ≡ []) (λ (frontend : Frontend). record { name = frontend.name; serial = 0; rows = [] }) plan.frontends (all-each _ plan.frontends (λ frontend. refl))) there in
        ap (λ rows. holds (found id.serial rows)) empty ∙ none

-- what holds of no row at the opening leads to something after each history, if it does so from entry to entry
pub along : (holds : Option Row → Bool) → holds None ≡ false → (plan : Plan) (id : ConnId) (Leads : List Entry → Type 0) →
    ((h : List Entry) (e : Entry) → IsLegal (opening plan 0) (e ∷ h) → holds (row_at (after (after (opening plan 0) h) (e ∷ [])).frontends id) ≡ true →
    (holds (row_at (after (opening plan 0) h).frontends id) ≡ true → Leads h) → Leads (e ∷ h)) →
    (h : List Entry) → IsLegal (opening plan 0) h → holds (row_at (after (opening plan 0) h).frontends id) ≡ true → Leads h
along holds none plan id Leads next [] legal now = contrary (holds (row_at (after (opening plan 0) []).frontends id)) (Leads []) now (nobody holds none plan id)
along holds none plan id Leads next (e ∷ h) legal now =
    next h e legal (ap (λ (q : Plain). holds (row_at q.frontends id)) (whole_in_parts (opening plan 0) (opening_well plan 0) (e ∷ []) h legal) ∙ now) (along holds none plan id Leads next h legal.0)

waits_handed : (plan : Plan) (trial : Plain) (h : List Entry) (e : Entry) (id : ConnId) → is_reload e.event ≡ false → WaitsOn (after (opening plan 0) h) (trial_after plan trial h) e.moment e.event e.reply id → IsKnown plan trial (e ∷ h) id
waits_handed plan trial h e id other (inl different) = inl (inl different)
waits_handed plan trial h e id other (inr on) =
    let p : Plain = after (opening plan 0) h in
    let n : Plain = trial_after plan trial h in
    inr (ap (λ q. waits_at q id) (trial_next plan trial h e) ∙ ap (λ b. waits_at (if b then n else handed p.versions n e.moment e.event e.reply.said) id) other ∙ on)

waits_next : (plan : Plan) (text : List ℕ) (trial : Plain) (h : List Entry) (e : Entry) (id : ConnId) → trial_opening plan text ≡ Ok trial → IsLegal (opening plan 0) (e ∷ h) →
    Waited (waits_at (after (opening plan 0) h) id) (arrived id.frontend id.serial e.event e.reply.said) e.reply.said id.frontend id.serial → (waits_at (after (opening plan 0) h) id ≡ true → IsKnown plan trial h id) →
    IsKnown plan trial (e ∷ h) id
waits_next plan text trial h e id opens legal w earlier = on (is_reload e.event) refl
  where
    p : Plain
    p = after (opening plan 0) h

    n : Plain
    n = trial_after plan trial h

    came_next : is_reload e.event ≡ false → arrived id.frontend id.serial e.event e.reply.said ≡ true → IsKnown plan trial (e ∷ h) id
    came_next other came =
        waits_handed plan trial h e id other
        (at_entry plan h n e.moment e.event e.reply id legal.0 legal.1 (all_tied false plan text trial h opens legal.0) came (waits_at p id) (arrived id.frontend id.serial e.event e.reply.said) w)

    kept_next : is_reload e.event ≡ false → waits_at p id ≡ true → IsKnown plan trial h id → IsKnown plan trial (e ∷ h) id
    kept_next other before_it (inl different) = inl (inr different)
    kept_next other before_it (inr there) =
        waits_handed plan trial h e id other
        (on_entry plan h n e.moment e.event e.reply id legal.0 legal.1 (all_tied false plan text trial h opens legal.0) other before_it there (waits_at p id) (arrived id.frontend id.serial e.event e.reply.said) w)

    reload_next : is_reload e.event ≡ true → IsKnown plan trial h id → IsKnown plan trial (e ∷ h) id
    reload_next is (inl different) = inl (inr different)
    reload_next is (inr there) = inr (ap (λ q. waits_at q id) (trial_next plan trial h e) ∙ ap (λ b. waits_at (if b then n else handed p.versions n e.moment e.event e.reply.said) id) is ∙ there)

    no_arrival : (event : OwnedEvent) (said : Said) → is_reload event ≡ true → arrived id.frontend id.serial event said ≡ true → ⊥
    no_arrival (Accept listener real) said is came = absurd (cc)
    no_arrival event said is came = absurd (cc)

    on : (b : Bool) → is_reload e.event ≡ b → IsKnown plan trial (e ∷ h) id
    on true is = elim w.first [
      | inl before_it ↦ reload_next is (earlier before_it)
      | inr came ↦ absurd (no_arrival e.event e.reply.said is came)
    ]
    on false other = elim w.first [
      | inl before_it ↦ kept_next other before_it (earlier before_it)
      | inr came ↦ came_next other came
    ]

-- a connection that waits in the record waits in the trial, unless it has had a difference
pub waits_in_both : (plan : Plan) (text : List ℕ) (trial : Plain) (h : List Entry) (id : ConnId) → trial_opening plan text ≡ Ok trial → IsLegal (opening plan 0) h → waits_at (after (opening plan 0) h) id ≡ true → IsKnown plan trial h id
waits_in_both plan text trial h id opens =
    along waits_in refl plan id (λ g. IsKnown plan trial g id) (λ g e legal now. waits_next plan text trial g e id opens legal (waits_after (after (opening plan 0) g) e id now)) h
