-- What is open in the trial is open in the balancer of the record.
use Rattle.std.proofs.Common.{◌≡◌, ◌⊎◌, inl, inr, ℕ, ◌+◌, ◌-◌, ◌<◌, ◌^◌, Bool, true, false, List, [], ◌∷◌, ◌++◌, length, Option, Some, None, Result, Ok, Err, refl, ap, sym, subst, ◌∙◌, max, arith}
use Rattle.std.specs.Prelude.{◌==◌, ◌&&◌, ◌||◌, not, nat_lt, map, option_map, filter, find, slice_get, is_some, IsSome, if◌then◌else◌}
use Rattle.std.specs.List.{list_any}
use Rattle.std.specs.Option.{option_map_or}
use Rattle.std.proofs.lemmas.Bool.Decides.{nat_tests}
use Rattle.list_core.specs.Each.{◌>>=◌}
use Rattle.addr_core.specs.PairValue.{PairValue}
use Rattle.plan_types.specs.declared.plan.Plan.{Plan}
use Rattle.conn_core.specs.declared.checked.ServerNumbers.{ServerNumbers}
use Rattle.conn_model.specs.declared.event.ConnId.{ConnId}
use Rattle.conn_model.specs.declared.event.Health.{Health}
use Rattle.conn_model.specs.declared.event.OwnedEvent.{OwnedEvent}
use Rattle.conn_model.specs.declared.event.OwnedEvent.TheVariants.{Accept, Piece, Connected, ConnectFailed, Close, Expire, Reload, Mark}
use Rattle.conn_model.specs.declared.event.Why.TheVariants.{Done}
use Rattle.conn_model.specs.declared.plain.FrontendRows.{FrontendRows}
use Rattle.conn_model.specs.declared.plain.Plain.{Plain}
use Rattle.conn_model.specs.declared.plain.Row.{Row}
use Rattle.conn_model.specs.declared.reply.Reply.{Reply}
use Rattle.conn_model.specs.declared.reply.Said.{Said}
use Rattle.conn_model.specs.declared.reply.Said.TheVariants as saids
use Rattle.conn_model.specs.declared.reply.StepFault.{StepFault}
use Rattle.conn_model.specs.declared.reply.StepFault.TheVariants.{NoSuch}
use Rattle.conn_model.specs.Answer.{admission, answer_in, candidate_at, new_row, reply_of, row_at, row_in, at_moment}
use Rattle.conn_model.specs.History.{Entry, IsLegal, after, answer, arrival, arrival_of, arrivals, entry, frontend_after, has_ended, id_of, is_accept_at, is_last, leaves_open, opening, row_after, speaks_to}
use Rattle.conn_model.specs.Words.{is_conn, or_fault}
use Rattle.conn_model.proofs.Goes.{whole_in_parts}
use Rattle.conn_model.proofs.Lists.{and_true, get-from_zero, or_left, or_right, or_true}
use Rattle.conn_model.proofs.Replies.{accepted, admission-id, answered, Accepted, IsReload}
use Rattle.conn_model.proofs.Well.{after-nil, opening_well}
use Rattle.conn_laws.specs.Deciding.{is_judgement, newcomer, Arrival, IsJudged}
use Rattle.conn_laws.proofs.Judged.{accept_judged}
use Rattle.conn_laws.proofs.Offered.{accept_is}
use Rattle.conn_laws.proofs.Present.{arrivals as arrives_at}
use Rattle.replay_core.specs.Turns.{plain_after}
use Rattle.whatif_core.specs.Deciding.{closed, numbers_for, played, stepped, taken}
use Rattle.whatif_core.specs.Reporting.{opened_by, history_report, report_of_turn, trial_opening, turn_of, Report}
use Rattle.whatif_core.specs.declared.turn.Turn.{Turn}
pub use Rattle.conn_laws.proofs.Rows.{before, contrary, one_item, Before}

-- ---- rows

-- there is a row of that serial
abbrev pub has : ℕ → List Row → Bool
has serial rows = list_any (λ row. row.serial == serial) rows

has_mapped : (serial : ℕ) (change : Row → Row) → ((row : Row) → (change row).serial ≡ row.serial) → (rows : List Row) → has serial (map change rows) ≡ has serial rows
has_mapped serial change keeps [] = refl
has_mapped serial change keeps (row ∷ rows) =
    ap (λ (n : ℕ). (n == serial) || has serial (map change rows)) (keeps row) ∙ ap (λ b. (row.serial == serial) || b) (has_mapped serial change keeps rows)

number_same : (a b : ℕ) → (a == b) ≡ true → a ≡ b
number_same a b is = grind (arith, nat_tests, is)

pub and_no : (a : Bool) → (a && false) ≡ false
and_no true = refl
and_no false = refl

or_no : (a : Bool) → (a || false) ≡ a
or_no true = refl
or_no false = refl

has_filtered : (serial : ℕ) (test : ℕ → Bool) (rows : List Row) → has serial (filter (λ row. test row.serial) rows) ≡ (has serial rows && test serial)
has_filtered serial test [] = refl
has_filtered serial test (row ∷ rows) = by (test row.serial) refl (row.serial == serial) refl (has_filtered serial test rows)
  where
    by : (a : Bool) → test row.serial ≡ a → (b : Bool) → (row.serial == serial) ≡ b → has serial (filter (λ r. test r.serial) rows) ≡ (has serial rows && test serial)
        → has serial (filter (λ r. test r.serial) (row ∷ rows)) ≡ (has serial (row ∷ rows) && test serial)
    by true keeps true here rest =
        let same : test serial ≡ true = ap test (sym (number_same row.serial serial here)) ∙ keeps in
        rw (keeps, here, same) refl
    by true keeps false there rest = rw (keeps, there) rest
    by false drops true here rest =
        let same : test serial ≡ false = ap test (sym (number_same row.serial serial here)) ∙ drops in
        rw (drops, here) (rest ∙ ap (λ b. has serial rows && b) same ∙ and_no (has serial rows) ∙ sym same)
    by false drops false there rest = rw (drops, there) rest

or_assoc : (a b c : Bool) → (a || (b || c)) ≡ ((a || b) || c)
or_assoc true b c = refl
or_assoc false b c = refl

pub has_appended : (serial : ℕ) (xs ys : List Row) → has serial (xs ++ ys) ≡ (has serial xs || has serial ys)
has_appended serial [] ys = refl
has_appended serial (row ∷ xs) ys = ap (λ b. (row.serial == serial) || b) (has_appended serial xs ys) ∙ or_assoc (row.serial == serial) (has serial xs) (has serial ys)

-- ---- one frontend after one entry

-- the reply ends that connection
abbrev pub ends : Said → ℕ → ℕ → Bool
ends said number serial = is_last said && speaks_to number serial said

-- the event opens that connection
abbrev pub arrived : ℕ → ℕ → OwnedEvent → Said → Bool
arrived number serial (Accept listener real) said = leaves_open said && speaks_to number serial said
arrived number serial event said = false

has_new : (serial number clock version : ℕ) (real : PairValue) (said : Said) (id : Option ConnId)
    → has serial (arrival_of number clock version real said id) ≡ (leaves_open said && option_map_or (is_conn number serial) id false)
has_new serial number clock version real said None = sym (and_no (leaves_open said))
has_new serial number clock version real said (Some id) = by (leaves_open said) (id.frontend == number)
  where
    by : (a b : Bool) → has serial (if a && b then new_row id.serial version real clock ∷ [] else []) ≡ (a && (b && (id.serial == serial)))
    by true true = or_no (id.serial == serial)
    by true false = refl
    by false b = refl

pub has_arrived : (serial number clock version : ℕ) (event : OwnedEvent) (said : Said) → has serial (arrival number clock version event said) ≡ arrived number serial event said
has_arrived serial number clock version (Accept listener real) said = has_new serial number clock version real said (id_of said)
has_arrived serial number clock version event said = refl

-- the open connections after an entry
has_after : (p : Plain) (e : Entry) (number serial : ℕ) (own : FrontendRows)
    → has serial (frontend_after p (e ∷ []) number own).rows ≡ ((has serial own.rows || arrived number serial e.event e.reply.said) && not (ends e.reply.said number serial))
has_after p e number serial own =
    let rows = own.rows ++ arrivals p number (e ∷ []) in
    has_mapped serial (row_after p number (e ∷ [])) (λ row. refl) (filter (λ row. not (has_ended number (e ∷ []) row.serial)) rows)
    ∙ has_filtered serial (λ n. not (has_ended number (e ∷ []) n)) rows
    ∙ ap (λ b. b && not (has_ended number (e ∷ []) serial)) (has_appended serial own.rows (arrivals p number (e ∷ [])) ∙ ap (λ b. has serial own.rows || b) (has_arrived serial number _ _ e.event e.reply.said))
    ∙ ap (λ b. (has serial own.rows || arrived number serial e.event e.reply.said) && not b) (or_no (ends e.reply.said number serial))

not_true : (b : Bool) → not b ≡ true → b ≡ false
not_true true is = absurd (cc)
not_true false is = refl

-- one that is open after it
pub open_after : (p : Plain) (e : Entry) (number serial : ℕ) (own : FrontendRows) → has serial (frontend_after p (e ∷ []) number own).rows ≡ true
    → ((has serial own.rows ≡ true) ⊎ (arrived number serial e.event e.reply.said ≡ true)) × (ends e.reply.said number serial ≡ false)
open_after p e number serial own is =
    let both = and_true (has serial own.rows || arrived number serial e.event e.reply.said) (not (ends e.reply.said number serial)) (sym (has_after p e number serial own) ∙ is) in
    (or_true (has serial own.rows) (arrived number serial e.event e.reply.said) both.0, not_true (ends e.reply.said number serial) both.1)

-- one that it leaves open
still_open : (p : Plain) (e : Entry) (number serial : ℕ) (own : FrontendRows) → (has serial own.rows || arrived number serial e.event e.reply.said) ≡ true → ends e.reply.said number serial ≡ false
    → has serial (frontend_after p (e ∷ []) number own).rows ≡ true
still_open p e number serial own is lasts = has_after p e number serial own ∙ ap (λ b. b && not (ends e.reply.said number serial)) is ∙ ap not lasts

-- ---- two states

-- of each frontend of the first the second gave out as many serials, and has each connection open that the test does not end
pub record Below (n p : Plain) (ended : ℕ → ℕ → Bool) (number : ℕ) (own : FrontendRows) : Type 0 where
  pub mine : FrontendRows
  pub there : slice_get p.frontends number ≡ Some mine
  pub serial : own.serial ≡ mine.serial
  pub rows : (s : ℕ) → has s own.rows ≡ true → (has s mine.rows ≡ true) ⊎ (ended number s ≡ true)

abbrev pub IsBelow : Plain → Plain → (ℕ → ℕ → Bool) → Type 0
IsBelow n p ended = (number : ℕ) (own : FrontendRows) → slice_get n.frontends number ≡ Some own → Below n p ended number own

abbrev pub nothing_ended : ℕ → ℕ → Bool
nothing_ended number serial = false

abbrev pub is_accept : OwnedEvent → Bool
is_accept (Accept listener real) = true
is_accept event = false

-- the second balancer answers as the first does to whom it speaks, where that is an accept
abbrev pub Agree : OwnedEvent → Said → Said → Type 0
Agree (Accept listener real) theirs said = (id_of theirs ≡ id_of said) × (is_judgement said ≡ true) × (is_judgement theirs ≡ true)
Agree event theirs said = Unit {0}

same_accept : (number : ℕ) (event : OwnedEvent) (theirs said : Said) → Agree event theirs said → is_accept_at number event theirs ≡ is_accept_at number event said
same_accept number (Accept listener real) theirs said agree = ap (λ (id : Option ConnId). option_map_or (λ id. id.frontend == number) id false) agree.0
same_accept number event theirs said agree = refl

left_open : (said : Said) → is_judgement said ≡ true → is_last said ≡ false → leaves_open said ≡ true
left_open (saids.Wait id used) judged open_still = refl
left_open (saids.Offer id used line server to judged2 send) judged open_still = refl
left_open said judged open_still = absurd (cc)

-- if the second opens a connection, so does the first, or its reply ends it
same_arrived : (number serial : ℕ) (event : OwnedEvent) (theirs said : Said) → Agree event theirs said → arrived number serial event theirs ≡ true
    → (arrived number serial event said ≡ true) ⊎ (ends said number serial ≡ true)
same_arrived number serial (Accept listener real) theirs said agree is =
    let speaks : speaks_to number serial said ≡ true = ap (λ (id : Option ConnId). option_map_or (is_conn number serial) id false) (sym agree.0) ∙ (and_true (leaves_open theirs) (speaks_to number serial theirs) is).1 in
    by (is_last said) refl speaks
  where
    by : (b : Bool) → is_last said ≡ b → speaks_to number serial said ≡ true
        → ((leaves_open said && speaks_to number serial said) ≡ true) ⊎ ((is_last said && speaks_to number serial said) ≡ true)
    by true last speaks = inr (rw (last, speaks) refl)
    by false lasts speaks = let stays = left_open said agree.1 lasts in inl (rw (stays, speaks) refl)
same_arrived number serial (Piece id bytes) theirs said agree is = absurd (cc)
same_arrived number serial event theirs said agree is = absurd (cc)

-- a row that is there, or came, is open after the entry, or the entry ends it
kept_or_ended : (p : Plain) (e : Entry) (number serial : ℕ) (own : FrontendRows) → (has serial own.rows || arrived number serial e.event e.reply.said) ≡ true
    → (has serial (frontend_after p (e ∷ []) number own).rows ≡ true) ⊎ (ends e.reply.said number serial ≡ true)
kept_or_ended p e number serial own is = by (ends e.reply.said number serial) refl
  where
    by : (b : Bool) → ends e.reply.said number serial ≡ b → (has serial (frontend_after p (e ∷ []) number own).rows ≡ true) ⊎ (ends e.reply.said number serial ≡ true)
    by true over = inr over
    by false lasts = inl (still_open p e number serial own is lasts)

counted : (a b c d : ℕ) → a ≡ b → c ≡ d → a + (0 + c) ≡ b + (0 + d)
counted a b c d first second = omega (arith, first, second)

abbrev one_if : Bool → ℕ
one_if b = if b then 1 else 0

if_same : (a b : Bool) → a ≡ b → one_if a ≡ one_if b
if_same a b is = ap one_if is

-- where a connection is open in the second, or came there, it is open in the first, or the reply ends it
followed : (p : Plain) (e : Entry) (number serial : ℕ) (own mine : FrontendRows) (theirs : Said) → Agree e.event theirs e.reply.said
    → ((s : ℕ) → has s own.rows ≡ true → (has s mine.rows ≡ true) ⊎ (false ≡ true))
    → (has serial own.rows ≡ true) ⊎ (arrived number serial e.event theirs ≡ true)
    → (has serial (frontend_after p (e ∷ []) number mine).rows ≡ true) ⊎ (ends e.reply.said number serial ≡ true)
followed p e number serial own mine theirs agree rows (inl is) = by (rows serial is)
  where
    by : (has serial mine.rows ≡ true) ⊎ (false ≡ true) → (has serial (frontend_after p (e ∷ []) number mine).rows ≡ true) ⊎ (ends e.reply.said number serial ≡ true)
    by (inl there) = kept_or_ended p e number serial mine (or_left (has serial mine.rows) (arrived number serial e.event e.reply.said) there)
    by (inr wrong) = absurd (cc)
followed p e number serial own mine theirs agree rows (inr came) = by (same_arrived number serial e.event theirs e.reply.said agree came)
  where
    by : (arrived number serial e.event e.reply.said ≡ true) ⊎ (ends e.reply.said number serial ≡ true)
        → (has serial (frontend_after p (e ∷ []) number mine).rows ≡ true) ⊎ (ends e.reply.said number serial ≡ true)
    by (inl there) = kept_or_ended p e number serial mine (or_right (has serial mine.rows) (arrived number serial e.event e.reply.said) there)
    by (inr over) = inr over

-- both answered an event
both_answered : (n p : Plain) (e : Entry) (theirs : Reply) → Agree e.event theirs.said e.reply.said → IsBelow n p nothing_ended
    → IsBelow (after n (entry e.moment e.event theirs ∷ [])) (after p (e ∷ [])) (ends e.reply.said)
both_answered n p e theirs agree below number next there =
    let other = entry e.moment e.event theirs in
    let was = before n other number next there in
    let old = below number was.own was.there in
    record {
      mine = frontend_after p (e ∷ []) number old.mine;
      there = get-from_zero (frontend_after p (e ∷ [])) p.frontends number old.mine old.there;
      serial =
          ap (λ (own : FrontendRows). own.serial) was.is
          ∙ counted was.own.serial old.mine.serial (one_if (is_accept_at number e.event theirs.said)) (one_if (is_accept_at number e.event e.reply.said)) old.serial
          (if_same (is_accept_at number e.event theirs.said) (is_accept_at number e.event e.reply.said) (same_accept number e.event theirs.said e.reply.said agree));
      rows = λ s is.
          followed p e number s was.own old.mine theirs.said agree old.rows (open_after n other number s was.own (ap (λ (own : FrontendRows). has s own.rows) (sym was.is) ∙ is)).0;
    }

no_accept : (number : ℕ) (event : OwnedEvent) (said : Said) → is_accept event ≡ false → is_accept_at number event said ≡ false
no_accept number (Accept listener real) said is = absurd (cc)
no_accept number event said is = refl

not_counted : (a b c : ℕ) → a ≡ b → c ≡ 0 → a ≡ b + (0 + c)
not_counted a b c first none = omega (arith, first, none)

-- the first alone answered an event that is no accept
one_answered : (n p : Plain) (e : Entry) → is_accept e.event ≡ false → IsBelow n p nothing_ended → IsBelow n (after p (e ∷ [])) (ends e.reply.said)
one_answered n p e none below number own there =
    let old = below number own there in
    record {
      mine = frontend_after p (e ∷ []) number old.mine;
      there = get-from_zero (frontend_after p (e ∷ [])) p.frontends number old.mine old.there;
      serial = not_counted own.serial old.mine.serial (one_if (is_accept_at number e.event e.reply.said)) old.serial (if_same (is_accept_at number e.event e.reply.said) false (no_accept number e.event e.reply.said none));
      rows = λ s is. by s (old.rows s is);
    }
  where
    by : (s : ℕ) → (has s (below number own there).mine.rows ≡ true) ⊎ (false ≡ true)
        → (has s (frontend_after p (e ∷ []) number (below number own there).mine).rows ≡ true) ⊎ (ends e.reply.said number s ≡ true)
    by s (inl is) = kept_or_ended p e number s (below number own there).mine (or_left (has s (below number own there).mine.rows) (arrived number s e.event e.reply.said) is)
    by s (inr wrong) = absurd (cc)

-- ---- what a reply ends is closed

-- no such connection is open
none_open : (frontends : List FrontendRows) (id : ConnId) (own : FrontendRows) (number serial : ℕ) → slice_get frontends number ≡ Some own → row_at frontends id ≡ None → is_conn number serial id ≡ true → has serial own.rows ≡ false
none_open frontends id own number serial there none same =
    let both = and_true (id.frontend == number) (id.serial == serial) same in
    let frontend : id.frontend ≡ number = number_same id.frontend number both.0 in
    let s : id.serial ≡ serial = number_same id.serial serial both.1 in
    found_none serial own.rows (ap (λ (o : Option FrontendRows). row_in serial o) (sym there) ∙ ap (λ (n : ℕ). row_in serial (slice_get frontends n)) (sym frontend) ∙ ap (λ (n : ℕ). row_in n (slice_get frontends id.frontend)) (sym s) ∙ none)
  where
    found_none : (serial : ℕ) (rows : List Row) → find (λ row. row.serial == serial) rows ≡ None → has serial rows ≡ false
    found_none serial [] none = refl
    found_none serial (row ∷ rows) none = by (row.serial == serial) refl none (found_none serial rows)
      where
        by : (b : Bool) → (row.serial == serial) ≡ b → find (λ (r : Row). r.serial == serial) (row ∷ rows) ≡ None → (find (λ (r : Row). r.serial == serial) rows ≡ None → has serial rows ≡ false)
            → has serial (row ∷ rows) ≡ false
        by true is none rest = let wrong = rw is at none in absurd (cc)
        by false is none rest = let more = rw is at none in rw is (rest more)

-- of each frontend after it the state before has one with as many serials, and the connections that are still open are not ended
record Shut (n : Plain) (said : Said) (number : ℕ) (next : FrontendRows) : Type 0 where
  own : FrontendRows
  there : slice_get n.frontends number ≡ Some own
  serial : next.serial ≡ own.serial
  rows : (s : ℕ) → has s next.rows ≡ true → (has s own.rows ≡ true) × (ends said number s ≡ false)

abbrev IsShut : Plain → Said → Plain → Type 0
IsShut n said m = (number : ℕ) (next : FrontendRows) → slice_get m.frontends number ≡ Some next → Shut n said number next

-- nothing is ended
not_shut : (n : Plain) (said : Said) → is_last said ≡ false → IsShut n said n
not_shut n said lasts number next there = record {
  own = next;
  there = there;
  serial = refl;
  rows = λ s is. (is, ap (λ b. b && speaks_to number s said) lasts);
}

plus_none : (a : ℕ) → a + (0 + 0) ≡ a
plus_none a = omega arith

-- a connection is closed if it is open
shut : (n : Plain) (moment : ℕ) (id : ConnId) (said : Said) → ((number s : ℕ) → ends said number s ≡ is_conn number s id) → IsShut n said (stepped n moment (Close id Done))
shut n moment id said speaks = by (row_at n.frontends id) refl
  where
    over : row_at n.frontends id ≡ None → (number s : ℕ) (next : FrontendRows) → slice_get n.frontends number ≡ Some next → has s next.rows ≡ true → (b : Bool) → is_conn number s id ≡ b → b ≡ false
    over none number s next there is true same = contrary (has s next.rows) (true ≡ false) is (none_open n.frontends id next number s there none same)
    over none number s next there is false apart = refl

    still : (number s : ℕ) (own : FrontendRows) → ((has s own.rows ≡ true) ⊎ (false ≡ true)) × (is_conn number s id ≡ false) → (has s own.rows ≡ true) × (ends said number s ≡ false)
    still number s own (inl is, apart) = (is, speaks number s ∙ apart)
    still number s own (inr wrong, apart) = absurd (cc)

    by : (row : Option Row) → row_at n.frontends id ≡ row → IsShut n said (plain_after n moment (Close id Done) (or_fault NoSuch row >>= λ row. Ok (reply_of (saids.Closed id Done))))
    by None none = λ number next there. record {
      own = next;
      there = there;
      serial = refl;
      rows = λ s is. (is, speaks number s ∙ over none number s next there is (is_conn number s id) refl);
    }
    by (Some row) open_now = λ number next there.
        let e = entry moment (Close id Done) (reply_of (saids.Closed id Done)) in
        let was = before n e number next there in
        record {
          own = was.own;
          there = was.there;
          serial = ap (λ (own : FrontendRows). own.serial) was.is ∙ plus_none was.own.serial;
          rows = λ s is. still number s was.own (open_after n e number s was.own (ap (λ (own : FrontendRows). has s own.rows) (sym was.is) ∙ is));
        }

closed_shut : (n : Plain) (moment : ℕ) (said : Said) → IsShut n said (closed moment said n)
closed_shut n moment (saids.Wait id used) = not_shut n (saids.Wait id used) refl
closed_shut n moment (saids.Offer id used line server to judged send) = not_shut n (saids.Offer id used line server to judged send) refl
closed_shut n moment (saids.Refuse id used cause) = shut n moment id (saids.Refuse id used cause) (λ number s. refl)
closed_shut n moment (saids.Up id) = not_shut n (saids.Up id) refl
closed_shut n moment (saids.Closed id why) = shut n moment id (saids.Closed id why) (λ number s. refl)
closed_shut n moment (saids.Reloaded version) = not_shut n (saids.Reloaded version) refl
closed_shut n moment (saids.Marked line health) = not_shut n (saids.Marked line health) refl

-- so what is left open is open in the first
shut_below : (n p m : Plain) (said : Said) → IsBelow n p (ends said) → IsShut n said m → IsBelow m p nothing_ended
shut_below n p m said below is_shut number next there =
    let was = is_shut number next there in
    let old = below number was.own was.there in
    record {
      mine = old.mine;
      there = old.there;
      serial = was.serial ∙ old.serial;
      rows = λ s is. by s (old.rows s (was.rows s is).0) (was.rows s is).1;
    }
  where
    by : (s : ℕ) → (has s (below number (is_shut number next there).own (is_shut number next there).there).mine.rows ≡ true) ⊎ (ends said number s ≡ true) → ends said number s ≡ false
        → (has s (below number (is_shut number next there).own (is_shut number next there).there).mine.rows ≡ true) ⊎ (false ≡ true)
    by s (inl is) lasts = inl is
    by s (inr over) lasts = inr (sym lasts ∙ over)

-- ---- along a history

-- the states of both balancers after a history
pub record Tied (plan : Plan) (p n : Plain) : Type 0 where
  pub listeners : n.listeners ≡ p.listeners
  pub below : IsBelow n p nothing_ended
  pub past : List Entry
  pub legal : IsLegal (opening plan 0) past
  pub is : n ≡ after (opening plan 0) past

-- a state after a legal history of its own
record HasPast (plan : Plan) (n : Plain) : Type 0 where
  past : List Entry
  legal : IsLegal (opening plan 0) past
  is : n ≡ after (opening plan 0) past

past_on : (plan : Plan) (n : Plain) (moment : ℕ) (event : OwnedEvent) → HasPast plan n → HasPast plan (stepped n moment event)
past_on plan n moment event has_past = by (answer_in n moment event) refl
  where
    by : (answered : Result Reply StepFault) → answer_in n moment event ≡ answered → HasPast plan (plain_after n moment event answered)
    by (Err fault) is = has_past
    by (Ok reply) is =
        let legal : IsLegal (opening plan 0) (entry moment event reply ∷ has_past.past) = (has_past.legal, ap (λ m. answer_in m moment event) (sym has_past.is) ∙ is) in
        record {
          past = entry moment event reply ∷ has_past.past;
          legal = legal;
          is = ap (λ m. after m (entry moment event reply ∷ [])) has_past.is ∙ whole_in_parts (opening plan 0) (opening_well plan 0) (entry moment event reply ∷ []) has_past.past legal;
        }

past_closed : (plan : Plan) (n : Plain) (moment : ℕ) (said : Said) → HasPast plan n → HasPast plan (closed moment said n)
past_closed plan n moment (saids.Refuse id used cause) has_past = past_on plan n moment (Close id Done) has_past
past_closed plan n moment (saids.Closed id why) has_past = past_on plan n moment (Close id Done) has_past
past_closed plan n moment said has_past = has_past

listeners_after : (n : Plain) (moment : ℕ) (event : OwnedEvent) (answered : Result Reply StepFault) → (plain_after n moment event answered).listeners ≡ n.listeners
listeners_after n moment event (Err fault) = refl
listeners_after n moment event (Ok reply) = refl

listeners_closed : (n : Plain) (moment : ℕ) (said : Said) → (closed moment said n).listeners ≡ n.listeners
listeners_closed n moment (saids.Refuse id used cause) = listeners_after n moment (Close id Done) (answer_in n moment (Close id Done))
listeners_closed n moment (saids.Closed id why) = listeners_after n moment (Close id Done) (answer_in n moment (Close id Done))
listeners_closed n moment said = refl

-- how the trial answers an event that the balancer of the record answered so
abbrev pub Outcome : Plain → ℕ → OwnedEvent → Said → Type 0
Outcome n moment event said =
    ((fault : StepFault) × (answer_in n moment event ≡ Err fault) × (is_accept event ≡ false))
    ⊎ ((theirs : Reply) × (answer_in n moment event ≡ Ok theirs) × Agree event theirs.said said)

-- of an event that is no accept
outcome_of : (n : Plain) (moment : ℕ) (event : OwnedEvent) (said : Said) → is_accept event ≡ false → ((theirs : Said) → Agree event theirs said) → Outcome n moment event said
outcome_of n moment event said none agree = by (answer_in n moment event) refl
  where
    by : (answered : Result Reply StepFault) → answer_in n moment event ≡ answered → Outcome n moment event said
    by (Err fault) is = inl (fault, is, none)
    by (Ok theirs) is = inr (theirs, is, agree theirs.said)

-- an arrival is of the listener and the frontend that are there
arrival_is : (m : Plain) (listener : ℕ) (arrival : Arrival m listener) (number serial : ℕ) (reply : Reply) (moment : ℕ) (real : PairValue) (a : Accepted (at_moment moment m) (max m.clock moment) listener real reply) → arrival.own.serial ≡ a.own.serial
arrival_is m listener arrival number serial reply moment real a =
    let at_same = one_item (slice_get m.listeners listener) arrival.at a.at arrival.listens a.listens in
    ap (λ (own : FrontendRows). own.serial)
    (one_item (slice_get m.frontends a.at.frontend) arrival.own a.own (ap (λ at. slice_get m.frontends at.frontend) (sym at_same) ∙ arrival.there) a.there)

fits_less : (a b : ℕ) → a ≡ b → nat_lt b 0xFFFF_FFFF_FFFF_FFFF ≡ true → a < 2 ^ 64 - 1
fits_less a b same fits = let less : b < 0xFFFF_FFFF_FFFF_FFFF = grind (arith, nat_tests, fits) in omega (arith, same, less)

judged_by : (answered : Result Reply StepFault) (reply : Reply) → answered ≡ Ok reply → IsJudged answered → is_judgement reply.said ≡ true
judged_by answered reply is judged = let both = sym judged.1 ∙ is in let same : judged.0 ≡ reply = cc in ap (λ (r : Reply). is_judgement r.said) (sym same) ∙ judged.2

pub accept_outcome : (plan : Plan) (h : List Entry) (n : Plain) (moment listener : ℕ) (real : PairValue) (reply : Reply) → IsLegal (opening plan 0) h
    → answer_in (after (opening plan 0) h) moment (Accept listener real) ≡ Ok reply → Tied plan (after (opening plan 0) h) n → Outcome n moment (Accept listener real) reply.said
accept_outcome plan h n moment listener real reply legal is tied =
    let p : Plain = after (opening plan 0) h in
    let a = accepted (at_moment moment p) (max p.clock moment) listener real reply is in
    let listens : slice_get n.listeners listener ≡ Some a.at = ap (λ ls. slice_get ls listener) tied.listeners ∙ a.listens in
    let arrival : Arrival n listener =
    subst (λ m. Arrival m listener) (sym tied.is) (arrives_at plan 0 tied.past tied.legal listener a.at (ap (λ (m : Plain). slice_get m.listeners listener) (sym tied.is) ∙ listens)) in
    let at_same : arrival.at ≡ a.at = one_item (slice_get n.listeners listener) arrival.at a.at arrival.listens listens in
    let old = tied.below arrival.at.frontend arrival.own arrival.there in
    let mine_same : old.mine ≡ a.own = one_item (slice_get p.frontends a.at.frontend) old.mine a.own (ap (λ at. slice_get p.frontends at.frontend) (sym at_same) ∙ old.there) a.there in
    let serial : arrival.own.serial ≡ a.own.serial = old.serial ∙ ap (λ (own : FrontendRows). own.serial) mine_same in
    let theirs : Reply = admission (newcomer n moment real listener arrival) arrival.at.accept_proxy real (length arrival.own.rows) in
    let whom : id_of reply.said ≡ Some (record { frontend = a.at.frontend; serial = a.own.serial + 1 }) =
    ap (λ (r : Reply). id_of r.said) (sym a.reply_is)
    ∙ admission-id (candidate_at (at_moment moment p) (max p.clock moment) a.at.frontend real a.own a.version a.frontend) a.at.accept_proxy real (length a.own.rows) in
    let first : Arrival p listener = arrives_at plan 0 h legal listener a.at a.listens in
    inr (
      theirs,
      accept_is n moment listener real arrival (fits_less arrival.own.serial a.own.serial serial a.fits),
      (
        admission-id (newcomer n moment real listener arrival) arrival.at.accept_proxy real (length arrival.own.rows)
            ∙ ap (λ at. Some (record { frontend = at.frontend; serial = arrival.own.serial + 1 })) at_same
            ∙ ap (λ s. Some (record { frontend = a.at.frontend; serial = s + 1 })) serial
            ∙ sym whom,
        judged_by (answer_in p moment (Accept listener real)) reply is
            (accept_judged p moment listener real first (fits_less first.own.serial a.own.serial (arrival_is p listener first 0 0 reply moment real a) a.fits)),
        judged_by (answer_in n moment (Accept listener real)) theirs (accept_is n moment listener real arrival (fits_less arrival.own.serial a.own.serial serial a.fits))
            (accept_judged n moment listener real arrival (fits_less arrival.own.serial a.own.serial serial a.fits)),
      ),
    )

-- an event that is handed in as it is
handed_tied : (plan : Plan) (p n : Plain) (moment : ℕ) (event : OwnedEvent) (reply : Reply) → Tied plan p n → Outcome n moment event reply.said
    → Tied plan (after p (entry moment event reply ∷ [])) (closed moment reply.said (stepped n moment event))
handed_tied plan p n moment event reply tied outcome =
    let next = stepped n moment event in
    let past = past_closed plan next moment reply.said (past_on plan n moment event (record { past = tied.past; legal = tied.legal; is = tied.is })) in
    record {
      listeners = listeners_closed next moment reply.said ∙ listeners_after n moment event (answer_in n moment event) ∙ tied.listeners;
      below = shut_below next (after p (entry moment event reply ∷ [])) (closed moment reply.said next) reply.said (by outcome) (closed_shut next moment reply.said);
      past = past.past;
      legal = past.legal;
      is = past.is;
    }
  where
    by : Outcome n moment event reply.said → IsBelow (stepped n moment event) (after p (entry moment event reply ∷ [])) (ends reply.said)
    by (inl (fault, is, none)) =
        subst (λ a. IsBelow (plain_after n moment event a) (after p (entry moment event reply ∷ [])) (ends reply.said)) (sym is) (one_answered n p (entry moment event reply) none tied.below)
    by (inr (theirs, is, agree)) =
        subst (λ a. IsBelow (plain_after n moment event a) (after p (entry moment event reply ∷ [])) (ends reply.said)) (sym is) (both_answered n p (entry moment event reply) theirs agree tied.below)

-- a reload is not
reload_tied : (plan : Plan) (p n : Plain) (moment : ℕ) (text : List ℕ) (reply : Reply) → answer_in p moment (Reload text) ≡ Ok reply → Tied plan p n
    → Tied plan (after p (entry moment (Reload text) reply ∷ [])) n
reload_tied plan p n moment text reply is tied =
    let says : IsReload p text reply.said = answered p moment (Reload text) reply is in
    record {
      listeners = tied.listeners;
      below =
          shut_below n (after p (entry moment (Reload text) reply ∷ [])) n reply.said (one_answered n p (entry moment (Reload text) reply) refl tied.below)
          (not_shut n reply.said (ap is_last says.says));
      past = tied.past;
      legal = tied.legal;
      is = tied.is;
    }

-- a report of a server opens no connection
reported_below : (n p : Plain) (moment number k : ℕ) (health : Health) → IsBelow n p nothing_ended → IsBelow (stepped n moment (Mark number k health)) p nothing_ended
reported_below n p moment number k health below = by (answer_in n moment (Mark number k health)) refl
  where
    still : (mine : FrontendRows) (s : ℕ) (own : FrontendRows) → ((has s own.rows ≡ true) → (has s mine.rows ≡ true) ⊎ (false ≡ true)) → (has s own.rows ≡ true) ⊎ (false ≡ true)
        → (has s mine.rows ≡ true) ⊎ (false ≡ true)
    still mine s own rows (inl is) = rows is
    still mine s own rows (inr wrong) = inr wrong

    by : (answered : Result Reply StepFault) → answer_in n moment (Mark number k health) ≡ answered → IsBelow (plain_after n moment (Mark number k health) answered) p nothing_ended
    by (Err fault) is = below
    by (Ok theirs) is = λ place next there.
        let e : Entry = entry moment (Mark number k health) theirs in
        let was = before n e place next there in
        let old = below place was.own was.there in
        record {
          mine = old.mine;
          there = old.there;
          serial = ap (λ (own : FrontendRows). own.serial) was.is ∙ plus_none was.own.serial ∙ old.serial;
          rows = λ s open_now. still old.mine s was.own (old.rows s) (open_after n e place s was.own (ap (λ (own : FrontendRows). has s own.rows) (sym was.is) ∙ open_now)).0;
        }

-- the trial once it took a report, as one of that server
taken_tied : (plan : Plan) (p n : Plain) (moment : ℕ) (health : Health) (at : Option ServerNumbers) → Tied plan p n
    → Tied plan p (taken n moment (option_map (λ (a : ServerNumbers). Mark a.backend a.server health) at))
taken_tied plan p n moment health None tied = tied
taken_tied plan p n moment health (Some at) tied =
    let past = past_on plan n moment (Mark at.backend at.server health) (record { past = tied.past; legal = tied.legal; is = tied.is }) in
    record {
      listeners = listeners_after n moment (Mark at.backend at.server health) (answer_in n moment (Mark at.backend at.server health)) ∙ tied.listeners;
      below = reported_below n p moment at.backend at.server health tied.below;
      past = past.past;
      legal = past.legal;
      is = past.is;
    }

-- the balancer of the record alone answers an event that is no accept, and what it ends is closed
closed_tied : (plan : Plan) (p n : Plain) (moment : ℕ) (event : OwnedEvent) (reply : Reply) → is_accept event ≡ false → Tied plan p n
    → Tied plan (after p (entry moment event reply ∷ [])) (closed moment reply.said n)
closed_tied plan p n moment event reply none tied =
    let e : Entry = entry moment event reply in
    let past = past_closed plan n moment reply.said (record { past = tied.past; legal = tied.legal; is = tied.is }) in
    record {
      listeners = listeners_closed n moment reply.said ∙ tied.listeners;
      below = shut_below n (after p (e ∷ [])) (closed moment reply.said n) reply.said (one_answered n p e none tied.below) (closed_shut n moment reply.said);
      past = past.past;
      legal = past.legal;
      is = past.is;
    }

entry_tied : (plan : Plan) (h : List Entry) (n : Plain) (moment : ℕ) (event : OwnedEvent) (reply : Reply) → IsLegal (opening plan 0) h → answer_in (after (opening plan 0) h) moment event ≡ Ok reply
    → Tied plan (after (opening plan 0) h) n → Tied plan (after (after (opening plan 0) h) (entry moment event reply ∷ [])) (played (after (opening plan 0) h).versions n moment event reply.said)
entry_tied plan h n moment (Accept listener real) reply legal is tied =
    handed_tied plan (after (opening plan 0) h) n moment (Accept listener real) reply tied (accept_outcome plan h n moment listener real reply legal is tied)
entry_tied plan h n moment (Piece id bytes) reply legal is tied =
    handed_tied plan (after (opening plan 0) h) n moment (Piece id bytes) reply tied (outcome_of n moment (Piece id bytes) reply.said refl (λ theirs. tt))
entry_tied plan h n moment (Connected id) reply legal is tied =
    handed_tied plan (after (opening plan 0) h) n moment (Connected id) reply tied (outcome_of n moment (Connected id) reply.said refl (λ theirs. tt))
entry_tied plan h n moment (ConnectFailed id) reply legal is tied =
    handed_tied plan (after (opening plan 0) h) n moment (ConnectFailed id) reply tied (outcome_of n moment (ConnectFailed id) reply.said refl (λ theirs. tt))
entry_tied plan h n moment (Close id why) reply legal is tied =
    handed_tied plan (after (opening plan 0) h) n moment (Close id why) reply tied (outcome_of n moment (Close id why) reply.said refl (λ theirs. tt))
entry_tied plan h n moment (Expire id) reply legal is tied =
    handed_tied plan (after (opening plan 0) h) n moment (Expire id) reply tied (outcome_of n moment (Expire id) reply.said refl (λ theirs. tt))
entry_tied plan h n moment (Reload text) reply legal is tied = reload_tied plan (after (opening plan 0) h) n moment text reply is tied
entry_tied plan h n moment (Mark number k health) reply legal is tied =
    let p : Plain = after (opening plan 0) h in
    let at = numbers_for p.versions n.versions number k in
    closed_tied plan p (taken n moment (option_map (λ (a : ServerNumbers). Mark a.backend a.server health) at)) moment (Mark number k health) reply refl (taken_tied plan p n moment health at tied)

-- ---- at the openings

brought_tied : (plan : Plan) (text : List ℕ) (trial : Plain) (answered : Result Reply StepFault) → answer_in (opening plan 0) 0 (Reload text) ≡ answered → opened_by (opening plan 0) text answered ≡ Ok trial
    → Tied plan (after (opening plan 0) []) trial
brought_tied plan text trial (Err fault) is opens = absurd (cc)
brought_tied plan text trial (Ok reply) is opens =
    let o : Plain = opening plan 0 in
    let e : Entry = entry 0 (Reload text) reply in
    let same : after o (e ∷ []) ≡ trial = cc in
    let nil = after-nil o (opening_well plan 0) in
    subst (λ p. Tied plan p trial) (sym nil)
    (subst (Tied plan o) same
    (record {
      listeners = refl;
      below = λ number next there.
          let was = before o e number next there in
          record {
            mine = was.own;
            there = was.there;
            serial = ap (λ (own : FrontendRows). own.serial) was.is ∙ plus_none was.own.serial;
            rows = λ s open_now. (open_after o e number s was.own (ap (λ (own : FrontendRows). has s own.rows) (sym was.is) ∙ open_now)).0;
          };
      past = e ∷ [];
      legal = (tt, ap (λ p. answer_in p 0 (Reload text)) nil ∙ is);
      is = refl;
    }))

pub turn_trial : (summary : Bool) (next : Plain) (t : Report) (turn : Option Turn) → (report_of_turn summary next t turn).trial ≡ next
turn_trial summary next t None = refl
turn_trial summary next t (Some turn) = refl

pub all_tied : (summary : Bool) (plan : Plan) (text : List ℕ) (trial : Plain) (h : List Entry) → trial_opening plan text ≡ Ok trial → IsLegal (opening plan 0) h
    → Tied plan (after (opening plan 0) h) (history_report summary (opening plan 0) trial h).trial
all_tied summary plan text trial [] opens legal = brought_tied plan text trial (answer_in (opening plan 0) 0 (Reload text)) refl opens
all_tied summary plan text trial (e ∷ h) opens legal =
    let o : Plain = opening plan 0 in
    let t : Report = history_report summary o trial h in
    subst (λ p. Tied plan p (history_report summary o trial (e ∷ h)).trial) (whole_in_parts o (opening_well plan 0) (e ∷ []) h legal)
    (subst (Tied plan (after (after o h) (e ∷ []))) (sym (turn_trial summary (played (after o h).versions t.trial e.moment e.event e.reply.said) t (turn_of (after o h) t.trial e)))
    (entry_tied plan h t.trial e.moment e.event e.reply legal.0 legal.1 (all_tied summary plan text trial h opens legal.0)))

-- the trial after a history, and after one entry more
abbrev pub trial_after : Plan → Plain → List Entry → Plain
trial_after plan trial h = (history_report false (opening plan 0) trial h).trial

pub trial_next : (plan : Plan) (trial : Plain) (h : List Entry) (e : Entry)
    → trial_after plan trial (e ∷ h) ≡ played (after (opening plan 0) h).versions (trial_after plan trial h) e.moment e.event e.reply.said
trial_next plan trial h e =
    let p : Plain = after (opening plan 0) h in
    let n : Plain = trial_after plan trial h in
    turn_trial false (played p.versions n e.moment e.event e.reply.said) (history_report false (opening plan 0) trial h) (turn_of p n e)

-- ---- what is open

pub found_has : (serial : ℕ) (rows : List Row) → is_some (find (λ row. row.serial == serial) rows) ≡ has serial rows
found_has serial [] = refl
found_has serial (row ∷ rows) = by (row.serial == serial) refl (found_has serial rows)
  where
    by : (b : Bool) → (row.serial == serial) ≡ b → is_some (find (λ (r : Row). r.serial == serial) rows) ≡ has serial rows → is_some (find (λ (r : Row). r.serial == serial) (row ∷ rows)) ≡ has serial (row ∷ rows)
    by true is rest = rw is refl
    by false is rest = rw is rest

open_below : (n p : Plain) (id : ConnId) → IsBelow n p nothing_ended → IsSome (row_at n.frontends id) → IsSome (row_at p.frontends id)
open_below n p id below is = by (slice_get n.frontends id.frontend) refl is
  where
    by : (own : Option FrontendRows) → slice_get n.frontends id.frontend ≡ own → is_some (row_in id.serial own) ≡ true → IsSome (row_at p.frontends id)
    by None there is = absurd (cc)
    by (Some own) there is =
        let old = below id.frontend own there in
        let rows : has id.serial old.mine.rows ≡ true = either (old.rows id.serial (sym (found_has id.serial own.rows) ∙ is)) in
        ap (λ (o : Option FrontendRows). is_some (row_in id.serial o)) old.there ∙ found_has id.serial old.mine.rows ∙ rows
      where
        either : {A : Bool} → (A ≡ true) ⊎ (false ≡ true) → A ≡ true
        either (inl is) = is
        either (inr wrong) = absurd (cc)

pub open_in_both : (summary : Bool) (plan : Plan) (text : List ℕ) (trial : Plain) (h : List Entry) → trial_opening plan text ≡ Ok trial → IsLegal (opening plan 0) h
    → (id : ConnId) → IsSome (row_at (history_report summary (opening plan 0) trial h).trial.frontends id) → IsSome (row_at (after (opening plan 0) h).frontends id)
open_in_both summary plan text trial h opens legal id is =
    open_below (history_report summary (opening plan 0) trial h).trial (after (opening plan 0) h) id (all_tied summary plan text trial h opens legal).below is

pub same_names : (summary : Bool) (plan : Plan) (text : List ℕ) (trial : Plain) (h : List Entry) → trial_opening plan text ≡ Ok trial → IsLegal (opening plan 0) h
    → (moment listener : ℕ) (real : PairValue) (reply : Reply) → answer (opening plan 0) h moment (Accept listener real) ≡ Ok reply
    → (theirs : Reply) × (answer_in (history_report summary (opening plan 0) trial h).trial moment (Accept listener real) ≡ Ok theirs) × (id_of theirs.said ≡ id_of reply.said)
same_names summary plan text trial h opens legal moment listener real reply is =
    by (accept_outcome plan h (history_report summary (opening plan 0) trial h).trial moment listener real reply legal is (all_tied summary plan text trial h opens legal))
  where
    by : Outcome (history_report summary (opening plan 0) trial h).trial moment (Accept listener real) reply.said
        → (theirs : Reply) × (answer_in (history_report summary (opening plan 0) trial h).trial moment (Accept listener real) ≡ Ok theirs) × (id_of theirs.said ≡ id_of reply.said)
    by (inl (fault, is, none)) = absurd (cc)
    by (inr (theirs, is, agree)) = (theirs, is, agree.0)
