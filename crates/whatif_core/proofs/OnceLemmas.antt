-- A connection has one difference at the most.
use Rattle.std.proofs.Common.{◌≡◌, ◌⊎◌, inl, inr, ℕ, ◌+◌, ◌≤◌, Bool, true, false, List, [], ◌∷◌, ◌++◌, Option, Some, None, Result, Ok, Err, refl, ap, sym, subst, ◌∙◌, max, arith}
use Rattle.std.specs.Prelude.{◌==◌, ◌&&◌, ◌||◌, not, filter, slice_get, is_some, option_map, option_and_then, if◌then◌else◌}
use Rattle.std.specs.Option.{option_map_or}
use Rattle.std.proofs.lemmas.Bool.{eq-eqb, eqb-true}
use Rattle.list_core.specs.Each.{◌>>=◌}
use Rattle.addr_core.specs.PairValue.{PairValue}
use Rattle.plan_types.specs.declared.plan.Plan.{Plan}
use Rattle.conn_core.specs.declared.checked.ServerNumbers.{ServerNumbers}
use Rattle.conn_model.specs.declared.event.ConnId.{ConnId}
use Rattle.conn_model.specs.declared.event.Health.{Health}
use Rattle.conn_model.specs.declared.event.OwnedEvent.{OwnedEvent}
use Rattle.conn_model.specs.declared.event.OwnedEvent.TheVariants.{Accept, Piece, Connected, ConnectFailed, Close, Expire, Reload, Mark}
use Rattle.conn_model.specs.declared.event.Why.TheVariants.{Done}
use Rattle.conn_model.specs.declared.plain.FrontendRows.{FrontendRows}
use Rattle.conn_model.specs.declared.plain.Phase.{Phase}
use Rattle.conn_model.specs.declared.plain.Phase.TheVariants.{Waiting, Offered, Up}
use Rattle.conn_model.specs.declared.plain.Plain.{Plain}
use Rattle.conn_model.specs.declared.plain.Row.{Row}
use Rattle.conn_model.specs.declared.plain.Version.{Version}
use Rattle.plan_types.specs.declared.plan.Backend.{Backend}
use Rattle.plan_types.specs.declared.plan.Server.{Server}
use Rattle.conn_model.specs.declared.reply.Reply.{Reply}
use Rattle.conn_model.specs.declared.reply.Said.{Said}
use Rattle.conn_model.specs.declared.reply.Said.TheVariants as saids
use Rattle.conn_model.specs.declared.reply.StepFault.{StepFault}
use Rattle.conn_model.specs.declared.reply.StepFault.TheVariants.{NoSuch, NotChecked}
use Rattle.conn_model.specs.Answer.{answer_in, at_moment, checked_server, reply_of, rest_in, row_at, row_in}
use Rattle.conn_model.specs.History.{Entry, IsFrontendWell, IsLegal, IsWell, accepts, after, arrivals, entry, frontend_after, has_ended, id_of, is_last, is_reload, leaves_open, opening, phase_by, phase_up, phase_on, plan_of, row_after, speaks_to}
use Rattle.conn_model.specs.Words.{is_conn, or_fault}
use Rattle.conn_model.proofs.Goes.{whole_in_parts}
use Rattle.conn_model.proofs.Lists.{all-at, all-found, and_true, get-from_zero}
use Rattle.conn_model.proofs.Replies.{answered, bind-ok, expired, received, server_answered, IsNew, IsOld}
use Rattle.conn_model.proofs.Well.{opening_well, well_after}
use Rattle.conn_laws.specs.Deciding.{is_judgement, is_offer, is_wait}
use Rattle.replay_core.specs.Turns.{plain_after}
use Rattle.whatif_core.specs.declared.decision.ComparedDecision.{ComparedDecision}
use Rattle.whatif_core.specs.declared.decision.ComparedDecision.TheVariants as decisions
use Rattle.whatif_core.specs.Deciding.{closed, decided, decided_by, decided_for, decision_of, difference, handed, is_failure, numbers_for, played, stepped, stepped_for, taken}
use Rattle.whatif_core.specs.Reporting.{differs_at, differs_of, history_report, trial_opening, turn_of, turn_with, HasDiffered}
use Rattle.whatif_core.proofs.LawLemmas.{accept_outcome, all_tied, and_no, arrived, before, contrary, ends, found_has, has, has_arrived, nothing_ended, one_item, trial_after, trial_next, IsBelow, Outcome, Tied}
pub use Rattle.conn_laws.proofs.Rows.{found, found_appended, found_filtered, found_mapped, found_serial}

-- ---- rows by their serials

abbrev pub is_waiting : Phase → Bool
is_waiting phase = is_some (rest_in phase)

abbrev pub waits_in : Option Row → Bool
waits_in row = option_map_or (λ (r : Row). is_waiting r.phase) row false

abbrev pub waits_at : Plain → ConnId → Bool
waits_at q id = waits_in (row_at q.frontends id)

-- ---- who waits after an entry

-- the reply offers that connection a server
abbrev pub offers : Said → ℕ → ℕ → Bool
offers said number serial = is_offer said && speaks_to number serial said

pub on_piece : (piece : List ℕ) (phase : Phase) → is_waiting (phase_on piece phase) ≡ is_waiting phase
on_piece piece (Waiting rest) = refl
on_piece piece (Offered assignment) = refl
on_piece piece (Up assignment) = refl

pub once_up : (phase : Phase) → is_waiting (phase_up phase) ≡ is_waiting phase
once_up (Waiting rest) = refl
once_up (Offered assignment) = refl
once_up (Up assignment) = refl

waited : (plan : Option Plan) (event : OwnedEvent) (said : Said) (phase : Phase) → is_waiting (phase_by plan event said phase) ≡ true → (is_waiting phase ≡ true) × (is_offer said ≡ false)
waited plan event (saids.Wait id used) phase is = (sym (on_piece _ phase) ∙ is, refl)
waited plan event (saids.Offer id used line server to judged send) phase is = absurd (cc)
waited plan event (saids.Up id) phase is = (sym (once_up phase) ∙ is, refl)
waited plan event said phase is = (is, refl)

waited_if : (plan : Option Plan) (event : OwnedEvent) (said : Said) (phase : Phase) (b : Bool) → is_waiting (if b then phase_by plan event said phase else phase) ≡ true → (is_waiting phase ≡ true) × ((is_offer said && b) ≡ false)
waited_if plan event said phase true is = let both = waited plan event said phase is in (both.0, ap (λ o. o && true) both.1)
waited_if plan event said phase false is = (is, and_no (is_offer said))

found_waits : (row : Row) (o : Option Row) → o ≡ Some row → is_waiting row.phase ≡ true → waits_in o ≡ true
found_waits row o is waits = ap waits_in is ∙ waits

-- of a connection that waits after an entry: it waited before, or came, and the reply neither ends it nor offers it a server
pub record Waited (before came : Bool) (said : Said) (number serial : ℕ) : Type 0 where
  pub first : (before ≡ true) ⊎ (came ≡ true)
  pub lasts : ends said number serial ≡ false
  pub unoffered : offers said number serial ≡ false

pub not_false : (a b : Bool) → not ((a && b) || false) ≡ true → (a && b) ≡ false
not_false true true is = absurd (cc)
not_false true false is = refl
not_false false b is = refl

-- The row of a connection of which something holds after an entry: it was there before, or came, and the reply does not end it.
pub record LiveRow (test : Row → Bool) (q : Plain) (e : Entry) (number serial : ℕ) (own : FrontendRows) : Type 0 where
  pub row : Row
  pub there : found serial (own.rows ++ arrivals q number (e ∷ [])) ≡ Some row
  pub same : row.serial ≡ serial
  pub lasts : ends e.reply.said number serial ≡ false
  pub holds : test (row_after q number (e ∷ []) row) ≡ true

pub live_row : (test : Row → Bool) (q : Plain) (e : Entry) (number serial : ℕ) (own : FrontendRows) → option_map_or test (found serial (frontend_after q (e ∷ []) number own).rows) false ≡ true → LiveRow test q e number serial own
live_row test q e number serial own is = by (found serial live) refl
  where
    came : List Row
    came = arrivals q number (e ∷ [])

    live : List Row
    live = filter (λ row. not (has_ended number (e ∷ []) row.serial)) (own.rows ++ came)

    tested : Option Row → Bool
    tested o = option_map_or test (option_map (row_after q number (e ∷ [])) o) false

    now : tested (found serial live) ≡ true
    now = sym (ap (λ o. option_map_or test o false) (found_mapped serial (row_after q number (e ∷ [])) (λ row. refl) live)) ∙ is

    by : (o : Option Row) → found serial live ≡ o → LiveRow test q e number serial own
    by None none = absurd (let wrong : false ≡ true = sym (ap tested none) ∙ now in cc)
    by (Some row) there =
        let kept = found_filtered serial (λ n. not (has_ended number (e ∷ []) n)) (own.rows ++ came) row there in
        record {
          row = row;
          there = kept.1;
          same = found_serial serial (own.rows ++ came) row kept.1;
          lasts = not_false (is_last e.reply.said) (speaks_to number serial e.reply.said) kept.0;
          holds = sym (ap tested there) ∙ now;
        }

waits_in_rows : (q : Plain) (e : Entry) (number serial : ℕ) (own : FrontendRows) → waits_in (found serial (frontend_after q (e ∷ []) number own).rows) ≡ true →
    Waited (waits_in (found serial own.rows)) (arrived number serial e.event e.reply.said) e.reply.said number serial
waits_in_rows q e number serial own is =
    let live = live_row (λ r. is_waiting r.phase) q e number serial own is in
    let first = waited_if (plan_of q [] live.row.version) e.event e.reply.said live.row.phase (speaks_to number live.row.serial e.reply.said) live.holds in
    record {
      first = elim (found_appended serial own.rows (arrivals q number (e ∷ [])) live.row live.there) [
        | inl old ↦ inl (found_waits live.row (found serial own.rows) old first.0)
        | inr new ↦ inr (sym (has_arrived serial number _ _ e.event e.reply.said) ∙ sym (found_has serial (arrivals q number (e ∷ []))) ∙ ap is_some new)
      ];
      lasts = live.lasts;
      unoffered = ap (λ n. is_offer e.reply.said && speaks_to number n e.reply.said) (sym live.same) ∙ first.1;
    }

pub waits_after : (q : Plain) (e : Entry) (id : ConnId) → waits_at (after q (e ∷ [])) id ≡ true → Waited (waits_at q id) (arrived id.frontend id.serial e.event e.reply.said) e.reply.said id.frontend id.serial
waits_after q e id is = by (slice_get (after q (e ∷ [])).frontends id.frontend) refl
  where
    of : (next : FrontendRows) → slice_get (after q (e ∷ [])).frontends id.frontend ≡ Some next → Waited (waits_at q id) (arrived id.frontend id.serial e.event e.reply.said) e.reply.said id.frontend id.serial
    of next there =
        let was = before q e id.frontend next there in
        let now : waits_in (found id.serial (frontend_after q (e ∷ []) id.frontend was.own).rows) ≡ true =
        ap (λ (f : FrontendRows). waits_in (found id.serial f.rows)) (sym was.is) ∙ sym (ap (λ (o : Option FrontendRows). waits_in (row_in id.serial o)) there) ∙ is in
        let got = waits_in_rows q e id.frontend id.serial was.own now in
        subst (λ b. Waited b (arrived id.frontend id.serial e.event e.reply.said) e.reply.said id.frontend id.serial) (sym (ap (λ (o : Option FrontendRows). waits_in (row_in id.serial o)) was.there)) got

    by : (o : Option FrontendRows) → slice_get (after q (e ∷ [])).frontends id.frontend ≡ o → Waited (waits_at q id) (arrived id.frontend id.serial e.event e.reply.said) e.reply.said id.frontend id.serial
    by None none = absurd (let wrong : false ≡ true = sym (ap (λ (o : Option FrontendRows). waits_in (row_in id.serial o)) none) ∙ is in cc)
    by (Some next) there = of next there

-- ---- whom a reply speaks to

pub spoken : (id : ConnId) (o : Option ConnId) → option_map_or (is_conn id.frontend id.serial) o false ≡ true → o ≡ Some id
spoken id None is = absurd (cc)
spoken id (Some other) is =
    let both = and_true (other.frontend == id.frontend) (other.serial == id.serial) is in
    let frontend : other.frontend ≡ id.frontend = eqb-true other.frontend id.frontend both.0 in
    let serial : other.serial ≡ id.serial = eqb-true other.serial id.serial both.1 in
    let same : other ≡ id = ap (λ f. record { frontend = f; serial = other.serial }) frontend ∙ ap (λ s. record { frontend = id.frontend; serial = s }) serial in
    ap Some same

pub speaks : (id : ConnId) (said : Said) → id_of said ≡ Some id → speaks_to id.frontend id.serial said ≡ true
speaks id said whom = rw (whom, eq-eqb id.frontend id.frontend refl, eq-eqb id.serial id.serial refl) refl

pub same_conn : (a b : ConnId) (o : Option ConnId) → o ≡ Some a → o ≡ Some b → a ≡ b
same_conn a b o left right = one_item o a b left right

pub same_reply : (answer : Result Reply StepFault) (a b : Reply) → answer ≡ Ok a → answer ≡ Ok b → a ≡ b
same_reply answer a b left right = let same : Ok a ≡ Ok b = sym left ∙ right in cc

-- a connection that was let in before does not come again
pub not_new : (n p : Plain) → IsBelow n p nothing_ended → (id : ConnId) (own : FrontendRows) → slice_get p.frontends id.frontend ≡ Some own → id.serial ≤ own.serial → (said : Said) → IsNew n said → id_of said ≡ Some id → ⊥
not_new n p below id own there given said new whom =
    let same : new.id ≡ id = same_conn new.id id (id_of said) new.speaks whom in
    let old = below id.frontend new.own (ap (λ (i : ConnId). slice_get n.frontends i.frontend) (sym same) ∙ new.there) in
    let mine : old.mine ≡ own = one_item (slice_get p.frontends id.frontend) old.mine own old.there there in
    let next : id.serial ≡ own.serial + 1 = ap (λ (i : ConnId). i.serial) (sym same) ∙ new.next ∙ ap (λ s. s + 1) (old.serial ∙ ap (λ (f : FrontendRows). f.serial) mine) in
    omega (arith, next, given)

not_come : (n p : Plain) → IsBelow n p nothing_ended → (id : ConnId) (own : FrontendRows) → slice_get p.frontends id.frontend ≡ Some own → id.serial ≤ own.serial → (moment : ℕ) (event : OwnedEvent) (theirs : Reply) →
    answer_in n moment event ≡ Ok theirs → arrived id.frontend id.serial event theirs.said ≡ true → ⊥
not_come n p below id own there given moment (Accept listener real) theirs is came =
    not_new n p below id own there given theirs.said (answered n moment (Accept listener real) theirs is) (spoken id (id_of theirs.said) (and_true (leaves_open theirs.said) (speaks_to id.frontend id.serial theirs.said) came).1)
not_come n p below id own there given moment (Piece other bytes) theirs is came = absurd (cc)
not_come n p below id own there given moment event theirs is came = absurd (cc)

-- each state is below itself
pub below_itself : (p : Plain) → IsBelow p p nothing_ended
below_itself p number own there = record { mine = own; there = there; serial = refl; rows = λ s is. inl is }

-- ---- what holds in the trial

-- what holds of a connection after an entry held of it before, or it came
abbrev pub IsBrought : (Plain → ConnId → Bool) → Type 0
IsBrought holds = (q : Plain) (e : Entry) (id : ConnId) → holds (after q (e ∷ [])) id ≡ true → (holds q id ≡ true) ⊎ (arrived id.frontend id.serial e.event e.reply.said ≡ true)

waits_brought : IsBrought waits_at
waits_brought q e id is = (waits_after q e id is).first

held_stepped : (holds : Plain → ConnId → Bool) → IsBrought holds → (n : Plain) (moment : ℕ) (event : OwnedEvent) (id : ConnId) → ((theirs : Reply) → answer_in n moment event ≡ Ok theirs → arrived id.frontend id.serial event theirs.said ≡ true → ⊥) →
    holds (stepped n moment event) id ≡ true → holds n id ≡ true
held_stepped holds brought n moment event id old is = by (answer_in n moment event) refl is
  where
    by : (answer : Result Reply StepFault) → answer_in n moment event ≡ answer → holds (plain_after n moment event answer) id ≡ true → holds n id ≡ true
    by (Err fault) answers now = now
    by (Ok theirs) answers now = elim (brought n (entry moment event theirs) id now) [
      | inl before_it ↦ before_it
      | inr came ↦ absurd (old theirs answers came)
    ]

held_closed : (holds : Plain → ConnId → Bool) → IsBrought holds → (n : Plain) (moment : ℕ) (said : Said) (id : ConnId) → holds (closed moment said n) id ≡ true → holds n id ≡ true
held_closed holds brought n moment (saids.Refuse other used cause) id is = held_stepped holds brought n moment (Close other Done) id (λ theirs answers came. absurd (cc)) is
held_closed holds brought n moment (saids.Closed other why) id is = held_stepped holds brought n moment (Close other Done) id (λ theirs answers came. absurd (cc)) is
held_closed holds brought n moment said id is = is

-- a report lets no connection in
held_reported : (holds : Plain → ConnId → Bool) → IsBrought holds → (n : Plain) (moment : ℕ) (health : Health) (at : Option ServerNumbers) (id : ConnId) →
    holds (taken n moment (option_map (λ (a : ServerNumbers). Mark a.backend a.server health) at)) id ≡ true → holds n id ≡ true
held_reported holds brought n moment health None id is = is
held_reported holds brought n moment health (Some at) id is = held_stepped holds brought n moment (Mark at.backend at.server health) id (λ theirs answers came. absurd (cc)) is

held_taken : (holds : Plain → ConnId → Bool) → IsBrought holds → (recorded : List Version) (n : Plain) (moment : ℕ) (event : OwnedEvent) (id : ConnId) →
    ((theirs : Reply) → answer_in n moment event ≡ Ok theirs → arrived id.frontend id.serial event theirs.said ≡ true → ⊥) → holds (stepped_for recorded n moment event) id ≡ true → holds n id ≡ true
held_taken holds brought recorded n moment (Accept listener real) id old is = held_stepped holds brought n moment (Accept listener real) id old is
held_taken holds brought recorded n moment (Piece own bytes) id old is = held_stepped holds brought n moment (Piece own bytes) id old is
held_taken holds brought recorded n moment (Connected own) id old is = held_stepped holds brought n moment (Connected own) id old is
held_taken holds brought recorded n moment (ConnectFailed own) id old is = held_stepped holds brought n moment (ConnectFailed own) id old is
held_taken holds brought recorded n moment (Close own why) id old is = held_stepped holds brought n moment (Close own why) id old is
held_taken holds brought recorded n moment (Expire own) id old is = held_stepped holds brought n moment (Expire own) id old is
held_taken holds brought recorded n moment (Reload text) id old is = held_stepped holds brought n moment (Reload text) id old is
held_taken holds brought recorded n moment (Mark number k health) id old is = held_reported holds brought n moment health (numbers_for recorded n.versions number k) id is

held_played : (holds : Plain → ConnId → Bool) → IsBrought holds → (recorded : List Version) (n : Plain) (moment : ℕ) (event : OwnedEvent) (said : Said) (id : ConnId) →
    ((theirs : Reply) → answer_in n moment event ≡ Ok theirs → arrived id.frontend id.serial event theirs.said ≡ true → ⊥) → holds (played recorded n moment event said) id ≡ true → holds n id ≡ true
held_played holds brought recorded n moment event said id old is = by (is_reload event) is
  where
    by : (b : Bool) → holds (if b then n else handed recorded n moment event said) id ≡ true → holds n id ≡ true
    by true now = now
    by false now = held_taken holds brought recorded n moment event id old (held_closed holds brought (stepped_for recorded n moment event) moment said id now)

-- ---- a connection of which that does not hold in both any more

-- it was let in or refused before, and that does not hold of it in both
pub record IsPast (holds : Plain → ConnId → Bool) (p n : Plain) (id : ConnId) : Type 0 where
  pub own : FrontendRows
  pub there : slice_get p.frontends id.frontend ≡ Some own
  pub given : id.serial ≤ own.serial
  pub once : holds p id ≡ true → holds n id ≡ true → ⊥

given_on : (a b c : ℕ) → a ≤ b → a ≤ b + c
given_on a b c le = omega (arith, le)

pub past_on : (holds : Plain → ConnId → Bool) → IsBrought holds → (plan : Plan) (p n : Plain) (moment : ℕ) (event : OwnedEvent) (reply : Reply) (id : ConnId) → Tied plan p n → answer_in p moment event ≡ Ok reply → IsPast holds p n id →
    IsPast holds (after p (entry moment event reply ∷ [])) (played p.versions n moment event reply.said) id
past_on holds brought plan p n moment event reply id tied is past =
    let e : Entry = entry moment event reply in
    record {
      own = frontend_after p (e ∷ []) id.frontend past.own;
      there = get-from_zero (frontend_after p (e ∷ [])) p.frontends id.frontend past.own past.there;
      given = given_on id.serial past.own.serial _ past.given;
      once = λ first second. past.once
          (elim (brought p e id first) [
            | inl before_it ↦ before_it
            | inr came ↦ absurd (not_come p p (below_itself p) id past.own past.there past.given moment event reply is came)
          ])
          (held_played holds brought p.versions n moment event reply.said id (not_come n p tied.below id past.own past.there past.given moment event) second);
    }

-- ---- what a difference says

pub decides : (q : Plain) (said : Said) → is_some (decision_of q said) ≡ is_judgement said
decides q (saids.Wait id used) = refl
decides q said = refl

-- a report decides nothing of a connection, so it makes no difference as which server the trial takes it
report_undecided : (q : Plain) (moment number k : ℕ) (health : Health) → decided q moment (Mark number k health) ≡ None
report_undecided q moment number k health = by (checked_server q.versions number k)
  where
    answer : Option (Backend × Server) → Result Reply StepFault
    answer found = or_fault NotChecked found >>= λ found. Ok (reply_of (saids.Marked found.1.line health))

    by : (found : Option (Backend × Server)) → decided_by (plain_after q moment (Mark number k health) (answer found)) (Mark number k health) (answer found) ≡ None
    by None = refl
    by (Some found) = refl

taken_undecided : (n : Plain) (moment : ℕ) (health : Health) (at : Option ServerNumbers) → option_and_then (decided n moment) (option_map (λ (a : ServerNumbers). Mark a.backend a.server health) at) ≡ None
taken_undecided n moment health None = refl
taken_undecided n moment health (Some at) = report_undecided n moment at.backend at.server health

pub same_decided : (recorded : List Version) (n : Plain) (moment : ℕ) (event : OwnedEvent) → decided_for recorded n moment event ≡ decided n moment event
same_decided recorded n moment (Mark number k health) = taken_undecided n moment health (numbers_for recorded n.versions number k) ∙ sym (report_undecided n moment number k health)
same_decided recorded n moment event = refl

-- an event that decides is handed in as it is
same_stepped : (recorded : List Version) (n : Plain) (moment : ℕ) (event : OwnedEvent) → is_some (decided n moment event) ≡ true → stepped_for recorded n moment event ≡ stepped n moment event
same_stepped recorded n moment (Mark number k health) is =
    contrary (is_some (decided n moment (Mark number k health))) (stepped_for recorded n moment (Mark number k health) ≡ stepped n moment (Mark number k health)) is (ap is_some (report_undecided n moment number k health))
same_stepped recorded n moment event is = refl

pub record IsJudgedSo (q : Plain) (moment : ℕ) (event : OwnedEvent) : Type 0 where
  pub reply : Reply
  pub answers : answer_in q moment event ≡ Ok reply
  pub no_failure : is_failure event ≡ false
  pub judged : is_judgement reply.said ≡ true

-- what a reply decides where its event is no failure
unless_failure : (b : Bool) (o : Option ComparedDecision) → is_some (if b then None else o) ≡ true → (b ≡ false) × (is_some o ≡ true)
unless_failure true o is = absurd (let wrong : false ≡ true = is in cc)
unless_failure false o is = (refl, is)

pub judged_so : (q : Plain) (moment : ℕ) (event : OwnedEvent) → is_some (decided q moment event) ≡ true → IsJudgedSo q moment event
judged_so q moment event is = by (answer_in q moment event) refl is
  where
    by : (answer : Result Reply StepFault) → answer_in q moment event ≡ answer → is_some (decided_by (stepped q moment event) event answer) ≡ true → IsJudgedSo q moment event
    by (Err fault) answers now = absurd (let wrong : false ≡ true = now in cc)
    by (Ok reply) answers now =
        let both = unless_failure (is_failure event) (decision_of (stepped q moment event) reply.said) now in
        record { reply = reply; answers = answers; no_failure = both.0; judged = sym (decides (stepped q moment event) reply.said) ∙ both.1 }

pub both_decide : (was would : Option ComparedDecision) → is_some (difference was would) ≡ true → (is_some was ≡ true) × (is_some would ≡ true)
both_decide None would is = absurd (let wrong : false ≡ true = is in cc)
both_decide (Some was) None is = absurd (let wrong : false ≡ true = is in cc)
both_decide (Some was) (Some would) is = (refl, refl)

pub wait_decision : (q : Plain) (said : Said) → is_wait said ≡ true → decision_of q said ≡ Some decisions.Wait
wait_decision q (saids.Wait id used) is = refl
wait_decision q said is = absurd (cc)

pub decided_wait : (q : Plain) (moment : ℕ) (event : OwnedEvent) (reply : Reply) → answer_in q moment event ≡ Ok reply → is_failure event ≡ false → is_wait reply.said ≡ true → decided q moment event ≡ Some decisions.Wait
decided_wait q moment event reply is no_failure waits =
    ap (decided_by (stepped q moment event) event) is
    ∙ ap (λ b. if b then None else decision_of (stepped q moment event) reply.said) no_failure
    ∙ wait_decision (stepped q moment event) reply.said waits

pub then_waits : (said : Said) → is_judgement said ≡ true → is_last said ≡ false → is_offer said ≡ false → is_wait said ≡ true
then_waits (saids.Wait id used) judged lasts unoffered = refl
then_waits said judged lasts unoffered = absurd (cc)

pub and_left : (a b : Bool) → (a && b) ≡ false → b ≡ true → a ≡ false
and_left true b is one = absurd (let wrong : true ≡ false = sym one ∙ is in cc)
and_left false b is one = refl

-- of a connection that waits after a judgement that speaks to it: it is let wait
pub is_let_wait : (before came : Bool) (said : Said) (id : ConnId) → id_of said ≡ Some id → is_judgement said ≡ true → Waited before came said id.frontend id.serial → is_wait said ≡ true
is_let_wait before came said id whom judged w =
    then_waits said judged (and_left (is_last said) (speaks_to id.frontend id.serial said) w.lasts (speaks id said whom)) (and_left (is_offer said) (speaks_to id.frontend id.serial said) w.unoffered (speaks id said whom))

-- the two decisions of an entry differ, on that connection
record Differs (p n : Plain) (moment : ℕ) (event : OwnedEvent) (reply : Reply) (id : ConnId) : Type 0 where
  no_reload : is_reload event ≡ false
  some : is_some (difference (decided p moment event) (decided n moment event)) ≡ true
  whom : id_of reply.said ≡ Some id

chosen_some : (b : Bool) (o : Option ConnId) (id : ConnId) → (if b then o else None) ≡ Some id → (b ≡ true) × (o ≡ Some id)
chosen_some true o id is = (refl, is)
chosen_some false o id is = absurd (let wrong : None ≡ Some id = is in cc)

differs : (p n : Plain) (moment : ℕ) (event : OwnedEvent) (reply : Reply) (id : ConnId) → differs_of (turn_of p n (entry moment event reply)) ≡ Some id → Differs p n moment event reply id
differs p n moment event reply id is = by (is_reload event) refl is
  where
    by : (b : Bool) → is_reload event ≡ b → differs_of (if b then None else Some (turn_with p n (entry moment event reply))) ≡ Some id → Differs p n moment event reply id
    by true reload now = absurd (let wrong : None ≡ Some id = now in cc)
    by false other now =
        let both = chosen_some (is_some (difference (decided p moment event) (decided_for p.versions n moment event))) (id_of reply.said) id now in
        record { no_reload = other; some = ap (λ d. is_some (difference (decided p moment event) d)) (sym (same_decided p.versions n moment event)) ∙ both.0; whom = both.1 }

-- both answers to an event that is judged speak to one connection
pub same_whom : (plan : Plan) (h : List Entry) (n : Plain) (moment : ℕ) (event : OwnedEvent) (reply theirs : Reply) → IsLegal (opening plan 0) h → answer_in (after (opening plan 0) h) moment event ≡ Ok reply →
    Tied plan (after (opening plan 0) h) n → answer_in n moment event ≡ Ok theirs → is_reload event ≡ false → id_of theirs.said ≡ id_of reply.said
same_whom plan h n moment (Accept listener real) reply theirs legal is tied answers other = by (accept_outcome plan h n moment listener real reply legal is tied)
  where
    by : Outcome n moment (Accept listener real) reply.said → id_of theirs.said ≡ id_of reply.said
    by (inl (fault, refused, none)) = absurd (cc)
    by (inr (found, found_is, agree)) = ap (λ (r : Reply). id_of r.said) (same_reply (answer_in n moment (Accept listener real)) theirs found answers found_is) ∙ agree.0
same_whom plan h n moment (Piece id bytes) reply theirs legal is tied answers other = (answered n moment (Piece id bytes) theirs answers).speaks ∙ sym (answered (after (opening plan 0) h) moment (Piece id bytes) reply is).speaks
same_whom plan h n moment (Connected id) reply theirs legal is tied answers other = (answered n moment (Connected id) theirs answers).speaks ∙ sym (answered (after (opening plan 0) h) moment (Connected id) reply is).speaks
same_whom plan h n moment (ConnectFailed id) reply theirs legal is tied answers other = (answered n moment (ConnectFailed id) theirs answers).speaks ∙ sym (answered (after (opening plan 0) h) moment (ConnectFailed id) reply is).speaks
same_whom plan h n moment (Close id why) reply theirs legal is tied answers other = (answered n moment (Close id why) theirs answers).speaks ∙ sym (answered (after (opening plan 0) h) moment (Close id why) reply is).speaks
same_whom plan h n moment (Expire id) reply theirs legal is tied answers other = (answered n moment (Expire id) theirs answers).speaks ∙ sym (answered (after (opening plan 0) h) moment (Expire id) reply is).speaks
same_whom plan h n moment (Reload text) reply theirs legal is tied answers other = absurd (cc)
same_whom plan h n moment (Mark number k health) reply theirs legal is tied answers other =
    ap id_of (answered n moment (Mark number k health) theirs answers).says ∙ sym (ap id_of (answered (after (opening plan 0) h) moment (Mark number k health) reply is).says)

-- the connection of an answer has a serial that was given out once it is answered
pub record IsGiven (p : Plain) (id : ConnId) : Type 0 where
  pub own : FrontendRows
  pub there : slice_get p.frontends id.frontend ≡ Some own
  pub given : id.serial ≤ own.serial

pub old_given : (q : Plain) → IsWell q → (id : ConnId) (row : Row) → row_at q.frontends id ≡ Some row → IsGiven q id
old_given q well id row is = by (slice_get q.frontends id.frontend) refl
  where
    by : (o : Option FrontendRows) → slice_get q.frontends id.frontend ≡ o → IsGiven q id
    by None none = absurd (let wrong : None ≡ Some row = sym (ap (row_in id.serial) none) ∙ is in cc)
    by (Some own) there =
        let fine = all-at (IsFrontendWell q.versions) q.frontends id.frontend own well.frontends there in
        let here = all-found (λ row. row.serial ≤ own.serial) (λ r. r.serial == id.serial) own.rows row fine.given (sym (ap (row_in id.serial) there) ∙ is) in
        record { own = own; there = there; given = subst (λ s. s ≤ own.serial) (eqb-true row.serial id.serial here.1) here.0 }

given_after : (p : Plain) (moment : ℕ) (event : OwnedEvent) (reply : Reply) (id : ConnId) → IsGiven p id → IsGiven (after p (entry moment event reply ∷ [])) id
given_after p moment event reply id is =
    let e : Entry = entry moment event reply in
    record {
      own = frontend_after p (e ∷ []) id.frontend is.own;
      there = get-from_zero (frontend_after p (e ∷ [])) p.frontends id.frontend is.own is.there;
      given = given_on id.serial is.own.serial _ is.given;
    }

new_given : (p : Plain) (moment listener : ℕ) (real : PairValue) (reply : Reply) (id : ConnId) → IsNew p reply.said → id_of reply.said ≡ Some id → IsGiven (after p (entry moment (Accept listener real) reply ∷ [])) id
new_given p moment listener real reply id new whom =
    let e : Entry = entry moment (Accept listener real) reply in
    let same : new.id ≡ id = same_conn new.id id (id_of reply.said) new.speaks whom in
    let there : slice_get p.frontends id.frontend ≡ Some new.own = ap (λ (i : ConnId). slice_get p.frontends i.frontend) (sym same) ∙ new.there in
    let next : id.serial ≡ new.own.serial + 1 = ap (λ (i : ConnId). i.serial) (sym same) ∙ new.next in
    let counts : accepts id.frontend (e ∷ []) ≡ 1 = rw (whom, eq-eqb id.frontend id.frontend refl) refl in
    record {
      own = frontend_after p (e ∷ []) id.frontend new.own;
      there = get-from_zero (frontend_after p (e ∷ [])) p.frontends id.frontend new.own there;
      given = omega (arith, next, counts);
    }

old_here : (p : Plain) → IsWell p → (moment : ℕ) (event : OwnedEvent) (reply : Reply) (own id : ConnId) → id_of reply.said ≡ Some id → IsOld p own reply.said → IsGiven (after p (entry moment event reply ∷ [])) id
old_here p well moment event reply own id whom old =
    given_after p moment event reply id (subst (IsGiven p) (same_conn own id (id_of reply.said) old.speaks whom) (old_given p well own old.row old.there))

pub given_on_answer : (p : Plain) → IsWell p → (moment : ℕ) (event : OwnedEvent) (reply : Reply) (id : ConnId) → answer_in p moment event ≡ Ok reply → is_reload event ≡ false → id_of reply.said ≡ Some id →
    IsGiven (after p (entry moment event reply ∷ [])) id
given_on_answer p well moment (Accept listener real) reply id is other whom = new_given p moment listener real reply id (answered p moment (Accept listener real) reply is) whom
given_on_answer p well moment (Piece own bytes) reply id is other whom = old_here p well moment (Piece own bytes) reply own id whom (answered p moment (Piece own bytes) reply is)
given_on_answer p well moment (Connected own) reply id is other whom = old_here p well moment (Connected own) reply own id whom (answered p moment (Connected own) reply is)
given_on_answer p well moment (ConnectFailed own) reply id is other whom = old_here p well moment (ConnectFailed own) reply own id whom (answered p moment (ConnectFailed own) reply is)
given_on_answer p well moment (Close own why) reply id is other whom = old_here p well moment (Close own why) reply own id whom (answered p moment (Close own why) reply is)
given_on_answer p well moment (Expire own) reply id is other whom = old_here p well moment (Expire own) reply own id whom (answered p moment (Expire own) reply is)
given_on_answer p well moment (Reload text) reply id is other whom = absurd (cc)
given_on_answer p well moment (Mark number k health) reply id is other whom =
    absurd (let wrong : None ≡ Some id = sym (ap id_of (answered p moment (Mark number k health) reply is).says) ∙ whom in cc)

-- ---- a difference is the last of its connection

past_by : (plan : Plan) (h : List Entry) (n : Plain) (moment : ℕ) (event : OwnedEvent) (reply : Reply) (id : ConnId) → IsLegal (opening plan 0) h → answer_in (after (opening plan 0) h) moment event ≡ Ok reply →
    Tied plan (after (opening plan 0) h) n → Differs (after (opening plan 0) h) n moment event reply id → IsPast waits_at (after (after (opening plan 0) h) (entry moment event reply ∷ [])) (played (after (opening plan 0) h).versions n moment event reply.said) id
past_by plan h n moment event reply id legal is tied has =
    let p : Plain = after (opening plan 0) h in
    let e : Entry = entry moment event reply in
    let sides = both_decide (decided p moment event) (decided n moment event) has.some in
    let ours = judged_so p moment event sides.0 in
    let other = judged_so n moment event sides.1 in
    let theirs : Reply = other.reply in
    let judged : is_judgement reply.said ≡ true = ap (λ (r : Reply). is_judgement r.said) (same_reply (answer_in p moment event) reply ours.reply is ours.answers) ∙ ours.judged in
    let whom : id_of theirs.said ≡ Some id = same_whom plan h n moment event reply theirs legal is tied other.answers has.no_reload ∙ has.whom in
    let given = given_on_answer p (well_after (opening plan 0) (opening_well plan 0) h legal) moment event reply id is has.no_reload has.whom in
    record {
      own = given.own;
      there = given.there;
      given = given.given;
      once = λ first second.
          let we_wait : is_wait reply.said ≡ true = is_let_wait (waits_at p id) _ reply.said id has.whom judged (waits_after p e id first) in
          let handed_on : waits_at (handed p.versions n moment event reply.said) id ≡ true = sym (ap (λ b. waits_at (if b then n else handed p.versions n moment event reply.said) id) has.no_reload) ∙ second in
          let taken_on : waits_at (stepped_for p.versions n moment event) id ≡ true = held_closed waits_at waits_brought (stepped_for p.versions n moment event) moment reply.said id handed_on in
          let stepped_on : waits_at (stepped n moment event) id ≡ true = sym (ap (λ q. waits_at q id) (same_stepped p.versions n moment event sides.1)) ∙ taken_on in
          let theirs_on : waits_at (after n (entry moment event theirs ∷ [])) id ≡ true = sym (ap (λ a. waits_at (plain_after n moment event a) id) other.answers) ∙ stepped_on in
          let they_wait : is_wait theirs.said ≡ true = is_let_wait (waits_at n id) _ theirs.said id whom other.judged (waits_after n (entry moment event theirs) id theirs_on) in
          let none : is_some (difference (decided p moment event) (decided n moment event)) ≡ false =
          ap (λ d. is_some (difference d (decided n moment event))) (decided_wait p moment event reply is ours.no_failure we_wait)
          ∙ ap (λ d. is_some (difference (Some decisions.Wait) d)) (decided_wait n moment event theirs other.answers ours.no_failure they_wait) in
          contrary (is_some (difference (decided p moment event) (decided n moment event))) ⊥ has.some none;
    }

pub waits_here : (q : Plain) (id : ConnId) (row : Row) → row_at q.frontends id ≡ Some row → is_waiting row.phase ≡ true → waits_at q id ≡ true
waits_here q id row row_is waits = ap waits_in row_is ∙ waits

not_judged : (said other : Said) → said ≡ other → is_judgement other ≡ false → is_judgement said ≡ true → ⊥
not_judged said other is none judged = contrary (is_judgement said) ⊥ judged (ap is_judgement is ∙ none)

-- two decisions of one event on a connection that waits in neither, or in one
not_again : (plan : Plan) (p n : Plain) (moment : ℕ) (event : OwnedEvent) (reply theirs : Reply) (id : ConnId) → answer_in p moment event ≡ Ok reply → is_failure event ≡ false → is_judgement reply.said ≡ true → id_of reply.said ≡ Some id →
    answer_in n moment event ≡ Ok theirs → IsPast waits_at p n id → ⊥
not_again plan p n moment (Accept listener real) reply theirs id is no_failure judged whom answers past =
    not_new p p (below_itself p) id past.own past.there past.given reply.said (answered p moment (Accept listener real) reply is) whom
not_again plan p n moment (Piece own bytes) reply theirs id is no_failure judged whom answers past =
    let same : own ≡ id = same_conn own id (id_of reply.said) (answered p moment (Piece own bytes) reply is).speaks whom in
    let a = received (at_moment moment p) own bytes reply is in
    let b = received (at_moment moment n) own bytes theirs answers in
    past.once (ap (waits_at p) (sym same) ∙ waits_here p own a.row a.row_is (ap is_some a.waits)) (ap (waits_at n) (sym same) ∙ waits_here n own b.row b.row_is (ap is_some b.waits))
not_again plan p n moment (Connected own) reply theirs id is no_failure judged whom answers past = not_judged reply.said (saids.Up own) (ap (λ (r : Reply). r.said) (sym (server_answered p own (saids.Up own) reply is).reply_is)) refl judged
not_again plan p n moment (ConnectFailed own) reply theirs id is no_failure judged whom answers past = absurd (let wrong : true ≡ false = no_failure in cc)
not_again plan p n moment (Close own why) reply theirs id is no_failure judged whom answers past =
    let one = bind-ok (or_fault NoSuch (row_at p.frontends own)) _ reply is in
    let same : reply_of (saids.Closed own why) ≡ reply = let it : Ok (reply_of (saids.Closed own why)) ≡ Ok reply = one.2 in cc in
    not_judged reply.said (saids.Closed own why) (ap (λ (r : Reply). r.said) (sym same)) refl judged
not_again plan p n moment (Expire own) reply theirs id is no_failure judged whom answers past =
    let same : own ≡ id = same_conn own id (id_of reply.said) (answered p moment (Expire own) reply is).speaks whom in
    let a = expired (at_moment moment p) (max p.clock moment) own reply is in
    let b = expired (at_moment moment n) (max n.clock moment) own theirs answers in
    past.once (ap (waits_at p) (sym same) ∙ waits_here p own a.row a.row_is (ap is_some a.waits)) (ap (waits_at n) (sym same) ∙ waits_here n own b.row b.row_is (ap is_some b.waits))
not_again plan p n moment (Reload text) reply theirs id is no_failure judged whom answers past = not_judged reply.said _ (answered p moment (Reload text) reply is).says refl judged
not_again plan p n moment (Mark number k health) reply theirs id is no_failure judged whom answers past = not_judged reply.said _ (answered p moment (Mark number k health) reply is).says refl judged

-- ---- along a history

-- what a connection has had along a history is past from there on, if it is past at the entry where it had it
pub past_along : (holds : Plain → ConnId → Bool) → IsBrought holds → (plan : Plan) (text : List ℕ) (trial : Plain) (id : ConnId) (Has Now : List Entry → Type 0) → trial_opening plan text ≡ Ok trial →
    (Has [] → ⊥) → ((h : List Entry) (e : Entry) → Has (e ∷ h) → Now (e ∷ h) ⊎ Has h) →
    ((h : List Entry) (e : Entry) → IsLegal (opening plan 0) (e ∷ h) → Now (e ∷ h) →
    IsPast holds (after (after (opening plan 0) h) (e ∷ [])) (played (after (opening plan 0) h).versions (trial_after plan trial h) e.moment e.event e.reply.said) id) →
    (h : List Entry) → IsLegal (opening plan 0) h → Has h → IsPast holds (after (opening plan 0) h) (trial_after plan trial h) id
past_along holds brought plan text trial id Has Now opens none either past [] legal has = absurd (none has)
past_along holds brought plan text trial id Has Now opens none either past (e ∷ h) legal has =
    let p : Plain = after (opening plan 0) h in
    let n : Plain = trial_after plan trial h in
    subst (λ q. IsPast holds q (trial_after plan trial (e ∷ h)) id) (whole_in_parts (opening plan 0) (opening_well plan 0) (e ∷ []) h legal)
    (subst (λ m. IsPast holds (after p (e ∷ [])) m id) (sym (trial_next plan trial h e))
    (elim (either h e has) [
      | inl now ↦ past h e legal now
      | inr earlier ↦ past_on holds brought plan p n e.moment e.event e.reply id (all_tied false plan text trial h opens legal.0) legal.1
          (past_along holds brought plan text trial id Has Now opens none either past h legal.0 earlier)
    ]))

past_at : (plan : Plan) (text : List ℕ) (trial : Plain) (h : List Entry) (id : ConnId) → trial_opening plan text ≡ Ok trial → IsLegal (opening plan 0) h → HasDiffered (opening plan 0) trial id h →
    IsPast waits_at (after (opening plan 0) h) (trial_after plan trial h) id
past_at plan text trial h id opens = past_along waits_at waits_brought plan text trial id (HasDiffered (opening plan 0) trial id) (λ g. differs_at (opening plan 0) trial g ≡ Some id) opens (λ has. has) (λ g e has. has)
    (λ g e legal now. past_by plan g (trial_after plan trial g) e.moment e.event e.reply id legal.0 legal.1 (all_tied false plan text trial g opens legal.0) (differs (after (opening plan 0) g) (trial_after plan trial g) e.moment e.event e.reply id now)) h

pub one_difference : (plan : Plan) (text : List ℕ) (trial : Plain) (h : List Entry) (e : Entry) (id : ConnId) → trial_opening plan text ≡ Ok trial → IsLegal (opening plan 0) (e ∷ h) →
    HasDiffered (opening plan 0) trial id h → differs_at (opening plan 0) trial (e ∷ h) ≡ Some id → ⊥
one_difference plan text trial h e id opens legal first second =
    let p : Plain = after (opening plan 0) h in
    let n : Plain = (history_report false (opening plan 0) trial h).trial in
    let has = differs p n e.moment e.event e.reply id second in
    let sides = both_decide (decided p e.moment e.event) (decided n e.moment e.event) has.some in
    let ours = judged_so p e.moment e.event sides.0 in
    let other = judged_so n e.moment e.event sides.1 in
    not_again plan p n e.moment e.event e.reply other.reply id legal.1 ours.no_failure (ap (λ (r : Reply). is_judgement r.said) (same_reply (answer_in p e.moment e.event) e.reply ours.reply legal.1 ours.answers) ∙ ours.judged) has.whom other.answers
    (past_at plan text trial h id opens legal.0 first)
