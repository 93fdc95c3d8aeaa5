-- A part over a whole run.
use Rattle.std.specs.Prelude.{ℕ, zero, suc, Bool, true, false, List, [], map, zip, slice_get, Option, Some, None, option_map, is_ok, IsSome, Result, Ok, Err, refl, nat_le, ◌+◌, ◌≤◌, ◌≡◌, ◌==◌, ◌&&◌, ◌∷◌, if◌then◌else◌}
use Rattle.std.specs.List.{list_any, AllByRecursion, enumerate_from}
use Rattle.std.specs.Option.{option_map_or}
use Rattle.std.proofs.Common.{max, sym, ap, subst, inl, inr, ◌∙◌, arith}
use Rattle.std.proofs.lemmas.Bool.{false≢true}
use Rattle.std.proofs.lemmas.Bool.Decides.{nat_tests}
use Rattle.plan_types.specs.Lines.{LinesDiffer}
use Rattle.plan_types.specs.declared.plan.Backend.{Backend}
use Rattle.plan_types.specs.declared.plan.Frontend.{Frontend}
use Rattle.plan_types.specs.declared.plan.Plan.{Plan}
use Rattle.plan_types.specs.declared.plan.Table.{Table}
use Rattle.plan_types.specs.declared.track.TableId.{TableId}
use Rattle.config_core.specs.Meaning.{meaning}
use Rattle.conn_model.specs.declared.event.OwnedEvent.{OwnedEvent}
use Rattle.conn_model.specs.declared.event.OwnedEvent.TheVariants.{Accept, Piece, Connected, ConnectFailed, Close, Expire, Reload, Mark}
use Rattle.conn_model.specs.declared.plain.FrontendRows.{FrontendRows}
use Rattle.conn_model.specs.declared.plain.Listener.{Listener}
use Rattle.conn_model.specs.declared.plain.Plain.{Plain}
use Rattle.conn_model.specs.declared.plain.Row.{Row}
use Rattle.conn_model.specs.declared.plain.TableState.{TableState}
use Rattle.conn_model.specs.declared.plain.Version.{Version}
use Rattle.conn_model.specs.declared.reply.Reply.{Reply}
use Rattle.conn_model.specs.declared.reply.StepFault.{StepFault}
use Rattle.conn_model.specs.declared.reply.StepFault.TheVariants.{NoListener, NotChecked}
use Rattle.conn_model.specs.Answer.{answer_in, at_moment, version_at}
use Rattle.conn_model.specs.Counts.{newest_backend}
use Rattle.conn_model.specs.History.{after, answer, entry, new_version, number_said, opening, Entry, IsLegal, IsWell}
use Rattle.conn_model.specs.Tables.{new_id, new_table, same_id, table_at, written_tables}
use Rattle.conn_model.proofs.Goes.{whole_in_parts}
use Rattle.conn_model.proofs.Lists.{all-both, all-found, all-map, all-more}
use Rattle.conn_model.proofs.Nothing.{after-nil}
use Rattle.conn_model.proofs.OneTable.{same_id-is}
use Rattle.conn_model.proofs.Well.{opening_well}
use Rattle.tenant_laws.specs.Parts.{keeps_apart, owns_backend_at, owns_table, Part}
use Rattle.tenant_laws.specs.Agreement.{is_own_id, Agree, IsAlike, IsApart, IsInside, IsMeant, IsNamed, IsOfLine, IsOutside, IsSound, IsWritten, LookAlike}
use Rattle.tenant_laws.specs.Runs.{alone, answers_after, answers_to, is_accepted, is_alone, is_on, is_rising, next_state, part_answers, history_with, side_of, Steps, TextKeepsApart, TextsKeepApart}
use Rattle.tenant_laws.proofs.Lists.{both, nothing, some_same}
use Rattle.tenant_laws.proofs.Later.{agree-at, alike-same, answers-same, at-apart, at-sound, from-apart, reloads-same, sides-same}
use Rattle.tenant_laws.proofs.PartReplies.{brings-none}
use Rattle.tenant_laws.proofs.Step.{listed-there, sound-step}
use Rattle.tenant_laws.proofs.Outside.{outside-step}
use Rattle.tenant_laws.proofs.Inside.{inside-step, meant-there}
use Rattle.tenant_laws.proofs.Reload.{enumerate-get, reload-step, sound-after-reload}
use Rattle.tenant_laws.proofs.Texts.{text-lines}

-- What a state has to say for the laws.

-- goes on with each answered event
pub sound-event : (p : Plain) → IsSound p → (moment : ℕ) (event : OwnedEvent) (reply : Reply) → answer_in p moment event ≡ Ok reply → IsSound (after p (entry moment event reply ∷ []))
sound-event p sound moment (Accept listener real) reply is = sound-step p sound (entry moment (Accept listener real) reply) is (brings-none (Accept listener real) (number_said reply.said) tt)
sound-event p sound moment (Piece id bytes) reply is = sound-step p sound (entry moment (Piece id bytes) reply) is (brings-none (Piece id bytes) (number_said reply.said) tt)
sound-event p sound moment (Connected id) reply is = sound-step p sound (entry moment (Connected id) reply) is (brings-none (Connected id) (number_said reply.said) tt)
sound-event p sound moment (ConnectFailed id) reply is = sound-step p sound (entry moment (ConnectFailed id) reply) is (brings-none (ConnectFailed id) (number_said reply.said) tt)
sound-event p sound moment (Close id why) reply is = sound-step p sound (entry moment (Close id why) reply) is (brings-none (Close id why) (number_said reply.said) tt)
sound-event p sound moment (Expire id) reply is = sound-step p sound (entry moment (Expire id) reply) is (brings-none (Expire id) (number_said reply.said) tt)
sound-event p sound moment (Mark backend n health) reply is = sound-step p sound (entry moment (Mark backend n health) reply) is (brings-none (Mark backend n health) (number_said reply.said) tt)
sound-event p sound moment (Reload text) reply is = sound-after-reload p sound moment text reply (text-lines text) is

-- and with each legal history
pub sound-history : (p : Plain) → IsSound p → (h : List Entry) → IsLegal p h → IsSound (after p h)
sound-history p sound [] legal = subst IsSound (sym (after-nil p sound.well)) sound
sound-history p sound (e ∷ h) legal =
    subst IsSound (whole_in_parts p sound.well (e ∷ []) h legal) (sound-event (after p h) (sound-history p sound h legal.0) e.moment e.event e.reply legal.1)

-- an opening has it

only-version : (plan : Plan) (last k : ℕ) (v : Version) → version_at (opening plan last).versions k ≡ Some v → v ≡ new_version 1 plan
only-version plan last k v found = by (1 == k) refl
  where
    by : (b : Bool) → (1 == k) ≡ b → v ≡ new_version 1 plan
    by true e = sym (some_same (rw e at found))
    by false e = nothing (rw e at found)

opening-written : (plan : Plan) (last : ℕ) → AllByRecursion (IsWritten (opening plan last).tables) (written_tables (Some (new_version 1 plan)))
opening-written plan last =
    all-more (λ (pair : Table × TableId). IsSome (table_at (opening plan last).tables pair.1) × (IsSome (table_at (opening plan last).tables pair.1) → IsWritten (opening plan last).tables pair)) (IsWritten (opening plan last).tables)
    (written_tables (Some (new_version 1 plan))) (λ pair known. known.1 known.0)
    (all-both (λ (pair : Table × TableId). IsSome (table_at (opening plan last).tables pair.1)) (λ (pair : Table × TableId). IsSome (table_at (opening plan last).tables pair.1) → IsWritten (opening plan last).tables pair)
    (written_tables (Some (new_version 1 plan))) (listed-there (opening plan last) (opening_well plan last) 1 (new_version 1 plan) refl)
    (go 0 plan.tables (λ j. let place : 0 + j ≡ j = omega arith in ap (slice_get plan.tables) place)))
  where
    own : AllByRecursion (λ (s : TableState). slice_get plan.tables s.id.position ≡ Some s.table) (opening plan last).tables
    own =
        all-map (λ (s : TableState). slice_get plan.tables s.id.position ≡ Some s.table) (new_table 1) (enumerate_from 0 plan.tables)
        (all-more (λ (pair : ℕ × Table). slice_get plan.tables pair.0 ≡ Some pair.1) (λ (pair : ℕ × Table). slice_get plan.tables (new_table 1 pair).id.position ≡ Some (new_table 1 pair).table) (enumerate_from 0 plan.tables)
        (λ pair is. is) (enumerate-get plan.tables 0 plan.tables (λ j. let place : 0 + j ≡ j = omega arith in ap (slice_get plan.tables) place)))

    one : (k : ℕ) (t : Table) → slice_get plan.tables k ≡ Some t → (o : Option TableState) → table_at (opening plan last).tables (record { version = 1; position = k }) ≡ o → IsSome o → option_map (λ (s : TableState). s.table) o ≡ Some t
    one k t place None e is = absurd (false≢true is)
    one k t place (Some s) e is =
        let got = all-found (λ (s : TableState). slice_get plan.tables s.id.position ≡ Some s.table) (λ s. same_id s.id (record { version = 1; position = k })) (opening plan last).tables s own e in
        let at : s.id.position ≡ k = ap (λ (i : TableId). i.position) (same_id-is s.id (record { version = 1; position = k }) got.1) in
        sym got.0 ∙ ap (slice_get plan.tables) at ∙ place

    go : (k : ℕ) (ts : List Table) → ((j : ℕ) → slice_get plan.tables (k + j) ≡ slice_get ts j) →
        AllByRecursion (λ (pair : Table × TableId). IsSome (table_at (opening plan last).tables pair.1) → IsWritten (opening plan last).tables pair) (zip ts (map (new_id 1) (enumerate_from k ts)))
    go k [] same = tt
    go k (t ∷ ts) same = (
      (λ there. one k t (let place : k + 0 ≡ k = omega arith in ap (slice_get plan.tables) (sym place) ∙ same 0) (table_at (opening plan last).tables (record { version = 1; position = k })) refl there),
      go (k + 1) ts (λ j. let place : (k + 1) + j ≡ k + suc j = omega arith in ap (slice_get plan.tables) place ∙ same (suc j)),
    )

opening-empty : (plan : Plan) (last n : ℕ) (own : FrontendRows) → slice_get (opening plan last).frontends n ≡ Some own → own.rows ≡ []
opening-empty plan last n own there = go plan.frontends n there
  where
    go : (fs : List Frontend) (m : ℕ) → slice_get (map (λ (frontend : Frontend). record { name = frontend.name; serial = last; rows = [] }) fs) m ≡ Some own → own.rows ≡ []
    go [] m at = nothing at
    go (f ∷ fs) zero at = ap (λ (x : FrontendRows). x.rows) (sym (some_same at))
    go (f ∷ fs) (suc m) at = go fs m at

pub sound-opening : (text : List ℕ) (plan : Plan) (last : ℕ) → meaning text ≡ Ok plan → IsSound (opening plan last)
sound-opening text plan last is = record {
  well = opening_well plan last;
  written = λ k v found. subst (λ (x : Version). AllByRecursion (IsWritten (opening plan last).tables) (written_tables (Some x))) (sym (only-version plan last k v found)) (opening-written plan last);
  lines = λ k v found. subst (λ (x : Version). LinesDiffer x.plan) (sym (only-version plan last k v found)) (text-lines text plan is);
  offers = λ n own there. subst (AllByRecursion (λ (row : Row). IsOfLine (opening plan last).versions row.version row.phase)) (sym (opening-empty plan last n own there)) tt;
}

pub apart-opening : (part : Part) (plan : Plan) (last : ℕ) → keeps_apart part plan ≡ true → IsNamed part (opening plan last) → IsApart part (opening plan last)
apart-opening part plan last keeps named = record {
  plans = λ k v found. ap (λ (x : Version). keeps_apart part x.plan) (only-version plan last k v found) ∙ keeps;
  named = named;
  outside = λ n own out there. subst (AllByRecursion (IsOutside part (opening plan last).tables)) (sym (opening-empty plan last n own there)) tt;
  inside = λ n own in' there. subst (AllByRecursion (IsInside part (opening plan last).versions)) (sym (opening-empty plan last n own there)) tt;
}

-- Agreement.

-- of a state with itself
pub agree-same : (part : Part) (p : Plain) → IsApart part p → Agree part p p
agree-same part p apart = alike-same part (at_moment (max p.clock p.clock) p) (at-apart part p (max p.clock p.clock) apart)

alike-turn : (part : Part) (ps rs qs : List TableState) (v u w : Version) → IsAlike part ps rs v u → IsAlike part ps qs v w → IsAlike part rs qs u w
alike-turn part ps rs qs v u w x y = record {
  number = sym x.number ∙ y.number;
  plan = sym x.plan ∙ y.plan;
  tables = sym x.tables ∙ y.tables;
  cursors = λ n owns. let own : owns_backend_at part v.plan n ≡ true = ap (λ (plan : Plan). owns_backend_at part plan n) x.plan ∙ owns in sym (x.cursors n own) ∙ y.cursors n own;
  entries = λ id is_own. let own : is_own_id part v id ≡ true = unmoved id is_own in sym (x.entries id own) ∙ y.entries id own;
}
  where
    unmoved : (id : TableId) → is_own_id part u id ≡ true → is_own_id part v id ≡ true
    unmoved id own =
        ap (λ (plan : Plan). list_any (λ (pair : Table × TableId). owns_table part pair.0 && same_id pair.1 id) (zip plan.tables v.tables)) x.plan
        ∙ ap (λ ids. list_any (λ (pair : Table × TableId). owns_table part pair.0 && same_id pair.1 id) (zip u.plan.tables ids)) x.tables ∙ own

-- and turned round
look-turn : (part : Part) (p r q : Plain) → IsSound p → LookAlike part p r → LookAlike part p q → LookAlike part r q
look-turn part p r q sound x y = record {
  listeners = sym x.listeners ∙ y.listeners;
  names = sym x.names ∙ y.names;
  number = sym x.number ∙ y.number;
  frontends = λ n in'. sym (x.frontends n in') ∙ y.frontends n in';
  down = λ server named. sym (x.down server named) ∙ y.down server named;
  versions = λ k meant u w found found'.
      let was : IsMeant part p k = before k meant in
      let v = meant-there part p sound.well k was in
      alike-turn part p.tables r.tables q.tables v.0 u w (x.versions k was v.0 u v.1 found) (y.versions k was v.0 w v.1 found');
  left = x.right;
  right = y.right;
}
  where
    before : (k : ℕ) → IsMeant part r k → IsMeant part p k
    before k (inl newest') = inl (newest' ∙ sym x.number)
    before k (inr (n, own, in', there, has)) = inr (n, own, in', x.frontends n in' ∙ there, has)

-- where the first is not after the second
pub agree-turn : (part : Part) (p r q : Plain) → IsSound p → Agree part p r → Agree part p q → p.clock ≤ r.clock → Agree part r q
agree-turn part p r q sound x y before =
    let now : ℕ = max r.clock q.clock in
    look-turn part (at_moment now p) (at_moment now r) (at_moment now q) (at-sound p sound now)
    (agree-at part p r sound x now (omega (arith, before)) (omega arith)) (agree-at part p q sound y now (omega (arith, before)) (omega arith))

-- One step of the answers to a part.

-- a step that the run alone has not
skipped : (part : Part) (p q : Plain) (moment : ℕ) (event : OwnedEvent) (steps : Steps) → is_on part p event ≡ false → is_alone part p event (answer_in p moment event) ≡ false →
    part_answers part (next_state p moment event (answer_in p moment event)) steps ≡ part_answers part q (alone part (next_state p moment event (answer_in p moment event)) steps) →
    part_answers part p ((moment, event) ∷ steps) ≡ part_answers part q (alone part p ((moment, event) ∷ steps))
skipped part p q moment event steps off out rest =
    let p' : Plain = next_state p moment event (answer_in p moment event) in
    ap (λ b. if b then answer_in p moment event ∷ part_answers part p' steps else part_answers part p' steps) off
    ∙ rest ∙ sym (ap (λ b. part_answers part q (if b then (moment, event) ∷ alone part p' steps else alone part p' steps)) out)

-- one that it has, and that is answered alike
taken : (part : Part) (p q : Plain) (moment : ℕ) (event : OwnedEvent) (steps : Steps) → side_of part p event ≡ side_of part q event → is_alone part p event (answer_in p moment event) ≡ true →
    answer_in p moment event ≡ answer_in q moment event →
    part_answers part (next_state p moment event (answer_in p moment event)) steps
    ≡ part_answers part (next_state q moment event (answer_in q moment event)) (alone part (next_state p moment event (answer_in p moment event)) steps) →
    part_answers part p ((moment, event) ∷ steps) ≡ part_answers part q (alone part p ((moment, event) ∷ steps))
taken part p q moment event steps sides in' same rest =
    let p' : Plain = next_state p moment event (answer_in p moment event) in
    let q' : Plain = next_state q moment event (answer_in q moment event) in
    let left : Steps = alone part p' steps in
    ap (λ part_answers. if is_on part p event then answer_in p moment event ∷ part_answers else part_answers) rest
    ∙ ap (λ r. if is_on part p event then r ∷ part_answers part q' left else part_answers part q' left) same
    ∙ ap (λ (o : Option Bool). if option_map_or (λ side. side) o false then answer_in q moment event ∷ part_answers part q' left else part_answers part q' left) sides
    ∙ sym (ap (λ b. part_answers part q (if b then (moment, event) ∷ left else left)) in')

-- The states after a step.

pub next-sound : (p : Plain) → IsSound p → (moment : ℕ) (event : OwnedEvent) → IsSound (next_state p moment event (answer_in p moment event))
next-sound p sound moment event = by (answer_in p moment event) refl
  where
    by : (r : Result Reply StepFault) → answer_in p moment event ≡ r → IsSound (next_state p moment event r)
    by (Ok reply) e = sound-event p sound moment event reply e
    by (Err fault) e = sound

next-clock : (p : Plain) (moment : ℕ) (event : OwnedEvent) → p.clock ≤ moment → (next_state p moment event (answer_in p moment event)).clock ≤ moment
next-clock p moment event late = by (answer_in p moment event)
  where
    by : (r : Result Reply StepFault) → (next_state p moment event r).clock ≤ moment
    by (Ok reply) = omega (arith, late)
    by (Err fault) = late

next-inside : (part : Part) (p q : Plain) (moment : ℕ) (event : OwnedEvent) → IsSound p → IsSound q → Agree part p q → p.clock ≤ moment → q.clock ≤ moment →
    side_of part p event ≡ Some true → Agree part (next_state p moment event (answer_in p moment event)) (next_state q moment event (answer_in q moment event))
next-inside part p q moment event sound sound' agree late late' on =
    subst (λ (r : Result Reply StepFault). Agree part (next_state p moment event (answer_in p moment event)) (next_state q moment event r)) (answers-same part p q sound sound' agree moment event late late' on)
    (by (answer_in p moment event) refl)
  where
    by : (r : Result Reply StepFault) → answer_in p moment event ≡ r → Agree part (next_state p moment event r) (next_state q moment event r)
    by (Ok reply) e = inside-step part p q sound sound' agree moment event reply late late' on e
    by (Err fault) e = agree

next-outside : (part : Part) (p q : Plain) (moment : ℕ) (event : OwnedEvent) → IsSound p → Agree part p q → side_of part p event ≡ Some false → Agree part (next_state p moment event (answer_in p moment event)) q
next-outside part p q moment event sound agree off = by (answer_in p moment event) refl
  where
    by : (r : Result Reply StepFault) → answer_in p moment event ≡ r → Agree part (next_state p moment event r) q
    by (Ok reply) e = agree-turn part p (after p (entry moment event reply ∷ [])) q sound (outside-step part p sound (from-apart part p (max p.clock q.clock) agree.left) moment event reply off e) agree (omega arith)
    by (Err fault) e = agree

next-reload : (part : Part) (p q : Plain) (moment : ℕ) (text : List ℕ) → IsSound p → IsSound q → Agree part p q → (is_ok (answer_in p moment (Reload text)) ≡ true → (plan : Plan) → meaning text ≡ Ok plan → keeps_apart part plan ≡ true) →
    Agree part (next_state p moment (Reload text) (answer_in p moment (Reload text))) (next_state q moment (Reload text) (answer_in q moment (Reload text)))
next-reload part p q moment text sound sound' agree keeps =
    subst (λ (r : Result Reply StepFault). Agree part (next_state p moment (Reload text) (answer_in p moment (Reload text))) (next_state q moment (Reload text) r)) (reloads-same part p q sound sound' agree moment text)
    (by (answer_in p moment (Reload text)) refl keeps)
  where
    by : (r : Result Reply StepFault) → answer_in p moment (Reload text) ≡ r → (is_ok r ≡ true → (plan : Plan) → meaning text ≡ Ok plan → keeps_apart part plan ≡ true) →
        Agree part (next_state p moment (Reload text) r) (next_state q moment (Reload text) r)
    by (Ok reply) e kept = reload-step part p q sound sound' agree moment text reply (kept refl) e (sym (reloads-same part p q sound sound' agree moment text) ∙ e)
    by (Err fault) e kept = agree

-- an event on no side is a reload, or it is refused: an accept of no listener, or a report of no server
data OnNone (p : Plain) (moment : ℕ) (event : OwnedEvent) : Type 0 where
  refused : (fault : StepFault) → answer_in p moment event ≡ Err fault → is_accepted event (answer_in p moment event) ≡ false → OnNone p moment event
  reload : (text : List ℕ) → event ≡ Reload text → OnNone p moment event

on_none : (part : Part) (p : Plain) (moment : ℕ) (event : OwnedEvent) → side_of part p event ≡ None → OnNone p moment event
on_none part p moment (Accept listener real) off = by (slice_get p.listeners listener) refl off
  where
    by : (o : Option Listener) → slice_get p.listeners listener ≡ o → option_map part.frontends (option_map (λ (at : Listener). at.frontend) o) ≡ None → OnNone p moment (Accept listener real)
    by None e is = refused NoListener (rw e refl) refl
    by (Some at) e is = nothing (sym is)
on_none part p moment (Reload text) off = reload text refl
on_none part p moment (Mark number n health) off = by (newest_backend p.versions number) refl off
  where
    by : (o : Option Backend) → newest_backend p.versions number ≡ o → option_map (λ (backend : Backend). part.backend_names backend.name) o ≡ None → OnNone p moment (Mark number n health)
    by None e is = refused NotChecked (rw e refl) refl
    by (Some backend) e is = nothing (sym is)
on_none part p moment event off = nothing (sym off)

not_accepted : (part : Part) (p : Plain) (event : OwnedEvent) (r : Result Reply StepFault) (side : Bool) → side_of part p event ≡ Some side → is_accepted event r ≡ false
not_accepted part p (Reload text) r side on = nothing on
not_accepted part p event r side on = refl

reload-agrees : (part : Part) (p q : Plain) (moment : ℕ) (event : OwnedEvent) (text : List ℕ) → event ≡ Reload text → IsSound p → IsSound q → Agree part p q →
    (is_ok (answer_in p moment event) ≡ true → TextKeepsApart part event) → Agree part (next_state p moment event (answer_in p moment event)) (next_state q moment event (answer_in q moment event))
reload-agrees part p q moment event text is sound sound' agree keeps =
    let kept : is_ok (answer_in p moment (Reload text)) ≡ true → TextKeepsApart part (Reload text) = subst (λ ev. is_ok (answer_in p moment ev) ≡ true → TextKeepsApart part ev) is keeps in
    subst (λ ev. Agree part (next_state p moment ev (answer_in p moment ev)) (next_state q moment ev (answer_in q moment ev))) (sym is) (next-reload part p q moment text sound sound' agree kept)

-- a fault changes nothing
fault-agrees : (part : Part) (p q : Plain) (moment : ℕ) (event : OwnedEvent) (r : Result Reply StepFault) → Agree part p q → is_ok r ≡ false → Agree part (next_state p moment event r) q
fault-agrees part p q moment event (Ok reply) agree is = absurd (false≢true (sym is))
fault-agrees part p q moment event (Err fault) agree is = agree

-- The whole run.

pub run-same : (part : Part) (steps : Steps) (p q : Plain) (start : ℕ) → IsSound p → IsSound q → Agree part p q → p.clock ≤ start → q.clock ≤ start → is_rising start steps ≡ true → TextsKeepApart part p steps →
    part_answers part p steps ≡ part_answers part q (alone part p steps)
run-same part [] p q start sound sound' agree late late' rising keeps = refl
run-same part ((moment, event) ∷ steps) p q start sound sound' agree late late' rising keeps =
    by (side_of part p event) refl (run-same part steps (next_state p moment event (answer_in p moment event)))
  where
    parts : (nat_le start moment ≡ true) × (is_rising moment steps ≡ true)
    parts = both (nat_le start moment) (is_rising moment steps) rising

    at : p.clock ≤ moment
    at = let le : start ≤ moment = (let is : nat_le start moment ≡ true = (both (nat_le start moment) (is_rising moment steps) rising).0 in grind (arith, nat_tests)) in omega (arith, le, late)

    at' : q.clock ≤ moment
    at' = let le : start ≤ moment = (let is : nat_le start moment ≡ true = (both (nat_le start moment) (is_rising moment steps) rising).0 in grind (arith, nat_tests)) in omega (arith, le, late')

    on_by : (o : Option Bool) → side_of part p event ≡ o → is_on part p event ≡ option_map_or (λ side. side) o false
    on_by o e = ap (λ (o : Option Bool). option_map_or (λ side. side) o false) e

    alone_by : (o : Option Bool) → side_of part p event ≡ o → is_alone part p event (answer_in p moment event) ≡ (if option_map_or (λ side. side) o false then true else is_accepted event (answer_in p moment event))
    alone_by o e = ap (λ b. if b then true else is_accepted event (answer_in p moment event)) (on_by o e)

    by : (o : Option Bool) → side_of part p event ≡ o →
        ((r : Plain) (m : ℕ) → IsSound (next_state p moment event (answer_in p moment event)) → IsSound r → Agree part (next_state p moment event (answer_in p moment event)) r →
        (next_state p moment event (answer_in p moment event)).clock ≤ m → r.clock ≤ m → is_rising m steps ≡ true → TextsKeepApart part (next_state p moment event (answer_in p moment event)) steps →
        part_answers part (next_state p moment event (answer_in p moment event)) steps ≡ part_answers part r (alone part (next_state p moment event (answer_in p moment event)) steps)) →
        part_answers part p ((moment, event) ∷ steps) ≡ part_answers part q (alone part p ((moment, event) ∷ steps))
    by (Some true) on rest =
        taken part p q moment event steps (sides-same part p q sound sound' agree event) (alone_by (Some true) on) (answers-same part p q sound sound' agree moment event at at' on)
        (rest (next_state q moment event (answer_in q moment event)) moment (next-sound p sound moment event) (next-sound q sound' moment event) (next-inside part p q moment event sound sound' agree at at' on)
        (next-clock p moment event at) (next-clock q moment event at') parts.1 keeps.1)
    by (Some false) off rest =
        skipped part p q moment event steps (on_by (Some false) off) (alone_by (Some false) off ∙ not_accepted part p event (answer_in p moment event) false off)
        (rest q moment (next-sound p sound moment event) sound' (next-outside part p q moment event sound agree off) (next-clock p moment event at) at' parts.1 keeps.1)
    by None off rest = none (on_none part p moment event off)
      where
        none : OnNone p moment event → part_answers part p ((moment, event) ∷ steps) ≡ part_answers part q (alone part p ((moment, event) ∷ steps))
        none (refused fault is out) =
            skipped part p q moment event steps (on_by None off) (alone_by None off ∙ out)
            (rest q moment (next-sound p sound moment event) sound' (subst (λ (r : Result Reply StepFault). Agree part (next_state p moment event r) q) (sym is) agree) (next-clock p moment event at) at' parts.1 keeps.1)
        none (reload text is) = decided (is_ok (answer_in p moment event)) refl
          where
            accepts : (b : Bool) → is_ok (answer_in p moment event) ≡ b → is_alone part p event (answer_in p moment event) ≡ b
            accepts b e = alone_by None off ∙ ap (λ ev. is_accepted ev (answer_in p moment event)) is ∙ e

            decided : (b : Bool) → is_ok (answer_in p moment event) ≡ b → part_answers part p ((moment, event) ∷ steps) ≡ part_answers part q (alone part p ((moment, event) ∷ steps))
            decided true e =
                taken part p q moment event steps (sides-same part p q sound sound' agree event) (accepts true e)
                (subst (λ ev. answer_in p moment ev ≡ answer_in q moment ev) (sym is) (reloads-same part p q sound sound' agree moment text))
                (rest (next_state q moment event (answer_in q moment event)) moment (next-sound p sound moment event) (next-sound q sound' moment event)
                (reload-agrees part p q moment event text is sound sound' agree keeps.0) (next-clock p moment event at) (next-clock q moment event at') parts.1 keeps.1)
            decided false e =
                skipped part p q moment event steps (on_by None off) (accepts false e)
                (rest q moment (next-sound p sound moment event) sound' (fault-agrees part p q moment event (answer_in p moment event) agree e) (next-clock p moment event at) at' parts.1 keeps.1)

-- from an opening
pub tenants-apart : (part : Part) (text : List ℕ) (plan : Plan) (last : ℕ) → meaning text ≡ Ok plan → IsNamed part (opening plan last) → keeps_apart part plan ≡ true → (steps : Steps) →
    TextsKeepApart part (opening plan last) steps → is_rising 0 steps ≡ true → part_answers part (opening plan last) steps ≡ part_answers part (opening plan last) (alone part (opening plan last) steps)
tenants-apart part text plan last is named keeps steps texts rising =
    let sound : IsSound (opening plan last) = sound-opening text plan last is in
    run-same part steps (opening plan last) (opening plan last) 0 sound sound (agree-same part (opening plan last) (apart-opening part plan last keeps named)) (omega arith) (omega arith) rising texts

-- Going from state to state is going by the history.

pub by-history : (p : Plain) → IsWell p → (steps : Steps) (h : List Entry) → IsLegal p h → answers_to (after p h) steps ≡ answers_after p h steps
by-history p well [] h legal = refl
by-history p well ((moment, event) ∷ steps) h legal =
    ap (λ rest. answer p h moment event ∷ rest) (by (answer p h moment event) refl (λ h legal. by-history p well steps h legal))
  where
    by : (r : Result Reply StepFault) → answer p h moment event ≡ r → ((h : List Entry) → IsLegal p h → answers_to (after p h) steps ≡ answers_after p h steps) →
        answers_to (next_state (after p h) moment event (answer p h moment event)) steps ≡ answers_after p (history_with h moment event (answer p h moment event)) steps
    by (Ok reply) e rest =
        let more : IsLegal p (entry moment event reply ∷ h) = (legal, e) in
        rw e (ap (λ s. answers_to s steps) (whole_in_parts p well (entry moment event reply ∷ []) h more) ∙ rest (entry moment event reply ∷ h) more)
    by (Err fault) e rest = rw e (rest h legal)
