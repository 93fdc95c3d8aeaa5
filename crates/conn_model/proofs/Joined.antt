-- A connection that waits holds what a parser holds of all the bytes that came of it.
use Rattle.std.specs.Prelude.{ℕ, zero, suc, Bool, true, false, not, max, List, [], filter, find, length, slice_get, Option, Some, None, Result, Ok, Err, refl, ◌+◌, ◌≤◌, ◌<◌, ◌≡◌, ◌==◌, ◌&&◌, ◌||◌, ◌∷◌, ◌++◌, if◌then◌else◌}
use Rattle.std.specs.List.{AllByRecursion}
use Rattle.std.proofs.Common.{sym, ap, ◌∙◌, subst, arith, append-nil}
use Rattle.std.proofs.lemmas.Bool.{false≢true, eq-eqb, eqb-true}
use Rattle.std.proofs.lemmas.Bool.Decides.{nat_tests}
use Rattle.addr_core.specs.PairValue.{PairValue}
use Rattle.plan_types.specs.declared.plan.Plan.{Plan}
use Rattle.pp_any.specs.declared.rest.Rest.{Rest}
use Rattle.pp_any.specs.declared.rest.Rest.TheVariants.{Read}
use Rattle.pp_any.specs.Rest.{IsRest}
use Rattle.pp_any.specs.Status as statuses
use Rattle.pp_any.specs.Status.{Status, status}
use Rattle.pp_any.specs.Header.{shifted}
use Rattle.pp_any.specs.NextPiece.{status_on, rest_on}
use Rattle.pp_any.proofs.NextPiece.{goes_on}
use Rattle.conn_model.specs.declared.event.ConnId.{ConnId}
use Rattle.conn_model.specs.declared.event.OwnedEvent.{OwnedEvent}
use Rattle.conn_model.specs.declared.event.OwnedEvent.TheVariants.{Accept, Piece, Connected, ConnectFailed, Close, Expire, Reload, Mark}
use Rattle.conn_model.specs.declared.reply.Cause.{Cause}
use Rattle.conn_model.specs.declared.reply.Said.{Said}
use Rattle.conn_model.specs.declared.reply.Said.TheVariants as saids
use Rattle.conn_model.specs.declared.reply.Said.TheVariants.{Wait, Offer, Refuse, Closed, Reloaded, Marked}
use Rattle.conn_model.specs.declared.reply.Reply.{Reply}
use Rattle.conn_model.specs.declared.reply.StepFault.TheVariants.{NoSuch}
use Rattle.conn_model.specs.declared.plain.Phase.{Phase}
use Rattle.conn_model.specs.declared.plain.Phase.TheVariants.{Waiting, Offered, Up}
use Rattle.conn_model.specs.declared.plain.Row.{Row}
use Rattle.conn_model.specs.declared.plain.FrontendRows.{FrontendRows}
use Rattle.conn_model.specs.declared.plain.Plain.{Plain}
use Rattle.conn_model.specs.Words.{is_conn, map_from, Rise, or_fault}
use Rattle.rule_engine.specs.Judging.{no_tracks}
use Rattle.conn_model.specs.Rules.{Candidate, view_of}
use Rattle.conn_model.specs.Answer.{row_in, row_at, reply_of, rest_in, verdict, said_of, candidate_of, judged_pair, header_reply, answer_in, at_moment, NumberedServer, failure_said, other_server}
use Rattle.conn_model.specs.History.{newest_number, speaks_to, plan_of, phase_by, phase_up, is_last, arrival, has_ended, accepts, row_after, frontend_after, frontends_after, after, piece_for, joined, Entry, IsLegal, IsWell, opening}
use Rattle.conn_model.proofs.Lists.{all-append, all-more, all-each, all-filter_if, all-map, all-found, all-at, all-both}
use Rattle.conn_model.proofs.Replies.{bind-ok, Says, Received, received, expired, answered, server_answered, has_failed}
use Rattle.conn_model.proofs.Parts.{is_spoken_to, either_false}
use Rattle.conn_model.proofs.Serials.{FrontendFacts, facts_of, next_here, reload-silent, speaks_that, not_yet, arrival-all, mark-silent}
use Rattle.conn_model.proofs.Goes.{well_at, whole_in_parts}
use Rattle.conn_model.proofs.Well.{after-nil, opening_well, well_after}
use Rattle.conn_model.specs.declared.plain.Assignment.{Assignment}

abbrev conn : ℕ → ℕ → ConnId
conn number serial = record { frontend = number; serial = serial }

-- in that phase after those bytes
abbrev IsHeld : List ℕ → Phase → Type 0
IsHeld bytes (Waiting rest) = IsRest bytes rest
IsHeld bytes (Offered assignment) = Unit {0}
IsHeld bytes (Up assignment) = Unit {0}

abbrev IsRowHeld : List Entry → ℕ → Row → Type 0
IsRowHeld h number row = IsHeld (joined (conn number row.serial) h) row.phase

abbrev AreHeld : Plain → List Entry → Type 0
AreHeld q h = (number : ℕ) (own : FrontendRows) → slice_get q.frontends number ≡ Some own → AllByRecursion (IsRowHeld h number) own.rows

-- Lists.

get-back : {X : Type 0} (f : ℕ → X → X) (k : ℕ) (xs : List X) (i : ℕ) (y : X) → slice_get (map_from f k xs) i ≡ Some y → (x : X) × (slice_get xs i ≡ Some x) × (f (k + i) x ≡ y)
get-back f k [] i y there = absurd (cc)
get-back f k (x ∷ xs) zero y there = let place : k + 0 ≡ k = omega arith in (x, refl, rw place (cc))
get-back f k (x ∷ xs) (suc i) y there =
    let shift : k + suc i ≡ (k + 1) + i = omega arith in
    let rest = get-back f (k + 1) xs i y there in
    (rest.0, rest.1, rw shift rest.2)

get-back_zero : {X : Type 0} (f : ℕ → X → X) (xs : List X) (i : ℕ) (y : X) → slice_get (map_from f 0 xs) i ≡ Some y → (x : X) × (slice_get xs i ≡ Some x) × (f i x ≡ y)
get-back_zero f xs i y there =
    let got = get-back f 0 xs i y there in
    let place : i ≡ 0 + i = omega arith in
    (got.0, got.1, ap (λ n. f n got.0) place ∙ got.2)

-- where serials rise, each row is found by its own
rows-found : (rows : List Row) → Rise (λ row. row.serial) rows → AllByRecursion (λ row. find (λ r. r.serial == row.serial) rows ≡ Some row) rows
rows-found [] rise = tt
rows-found (row ∷ rows) rise = (
  rw (eq-eqb row.serial row.serial refl) refl,
  all-more (λ r. (row.serial < r.serial) × (find (λ s. s.serial == r.serial) rows ≡ Some r)) (λ r. find (λ s. s.serial == r.serial) (row ∷ rows) ≡ Some r) rows
      (λ r both. let less : row.serial < r.serial = both.0 in let differs : (row.serial == r.serial) ≡ false = grind (arith, nat_tests, less) in rw differs both.1)
      (all-both (λ r. row.serial < r.serial) (λ r. find (λ s. s.serial == r.serial) rows ≡ Some r) rows rise.0 (rows-found rows rise.1)),
)

-- Bytes of a connection to which nothing is said.

piece-unspoken : (q : Plain) (event : OwnedEvent) (said : Said) (number serial : ℕ) → Says q event said → speaks_to number serial said ≡ false → piece_for (conn number serial) event ≡ []
piece-unspoken q (Piece id bytes) said number serial old other =
    let differs : is_conn number serial id ≡ false = rw old.speaks at other in
    rw differs refl
piece-unspoken q event said number serial says other = refl

joined-unspoken : (p : Plain) (h : List Entry) (number serial : ℕ) → IsLegal p h → is_spoken_to number h serial ≡ false → joined (conn number serial) h ≡ []
joined-unspoken p [] number serial legal none = refl
joined-unspoken p (e ∷ h) number serial legal none =
    let both : (speaks_to number serial e.reply.said ≡ false) × (is_spoken_to number h serial ≡ false) = either_false (speaks_to number serial e.reply.said) (is_spoken_to number h serial) none in
    let before : joined (conn number serial) h ≡ [] = joined-unspoken p h number serial legal.0 both.1 in
    let this : piece_for (conn number serial) e.event ≡ [] = piece-unspoken (after p h) e.event e.reply.said number serial (answered (after p h) e.moment e.event e.reply legal.1) both.0 in
    rw (before, this) refl

-- A connection that is open.

record Known (h : List Entry) (number : ℕ) (own : FrontendRows) (row : Row) : Type 0 where
  pub held : IsRowHeld h number row
  pub given : row.serial ≤ own.serial
  pub first : find (λ r. r.serial == row.serial) own.rows ≡ Some row

phase_waits : (phase : Phase) (rest : Rest) → rest_in phase ≡ Some rest → phase ≡ Waiting rest
phase_waits (Waiting held) rest is = let same : held ≡ rest = let it : Some held ≡ Some rest = is in cc in ap (λ r. Waiting r) same
phase_waits (Offered assignment) rest is = absurd (let wrong : None ≡ Some rest = is in cc)
phase_waits (Up assignment) rest is = absurd (let wrong : None ≡ Some rest = is in cc)

decided-held : (plan : Option Plan) (event : OwnedEvent) (bytes : List ℕ) (phase : Phase) (id : ConnId) (used : ℕ) (judged : PairValue) (result : Result NumberedServer Cause) →
    is_last (said_of id used judged result) ≡ false → IsHeld bytes (phase_by plan event (said_of id used judged result) phase)
decided-held plan event bytes phase id used judged (Ok given) open' = tt
decided-held plan event bytes phase id used judged (Err cause) open' = absurd (false≢true (sym open'))

-- after a piece, by what it decides
status-held : (plan : Option Plan) (id : ConnId) (before bytes : List ℕ) (rest : Rest) (candidate : Candidate) (real : PairValue) (s : Status) →
    (s ≡ statuses.Wait → IsRest (before ++ bytes) (rest_on rest bytes)) → is_last (header_reply candidate real (length bytes) s).said ≡ false →
    IsHeld (before ++ bytes) (phase_by plan (Piece id bytes) (header_reply candidate real (length bytes) s).said (Waiting rest))
status-held plan id before bytes rest candidate real statuses.Wait waits open' = waits refl
status-held plan id before bytes rest candidate real (statuses.Fault fault count) waits open' = absurd (false≢true (sym open'))
status-held plan id before bytes rest candidate real (statuses.Whole count meaning) waits open' =
    let judged : PairValue = judged_pair real meaning in
    decided-held plan (Piece id bytes) (before ++ bytes) (Waiting rest) candidate.id count judged (verdict (view_of candidate judged.source.addr) candidate.frontend no_tracks).result open'

piece_row : (q : Plain) (h : List Entry) (id : ConnId) (bytes : List ℕ) (reply : Reply) (number : ℕ) (own : FrontendRows) (row : Row) (plan : Option Plan) → slice_get q.frontends number ≡ Some own →
    Received q id bytes reply → Known h number own row → is_conn number row.serial id ≡ true → id.frontend ≡ number → id.serial ≡ row.serial → is_last reply.said ≡ false →
    IsHeld (joined (conn number row.serial) h ++ piece_for (conn number row.serial) (Piece id bytes)) (phase_by plan (Piece id bytes) reply.said row.phase)
piece_row q h id bytes reply number own row plan there got known mine frontend serial open' =
    let before : List ℕ = joined (conn number row.serial) h in
    let looked : row_in row.serial (slice_get q.frontends number) ≡ Some got.row =
    ap (λ n. row_in row.serial (slice_get q.frontends n)) (sym frontend) ∙ ap (λ s. row_in s (slice_get q.frontends id.frontend)) (sym serial) ∙ got.row_is in
    let same : row ≡ got.row = let it : Some row ≡ Some got.row = sym (ap (row_in row.serial) there ∙ known.first) ∙ looked in cc in
    let phase : row.phase ≡ Waiting got.rest = phase_waits row.phase got.rest (ap (λ r. rest_in r.phase) same ∙ got.waits) in
    let held : IsRest before got.rest = subst (IsHeld before) phase known.held in
    let candidate : Candidate = candidate_of q id got.version got.frontend in
    let said_is : (header_reply candidate got.row.real (length bytes) (status_on got.rest bytes)).said ≡ reply.said = ap (λ r. r.said) got.reply_is in
    let P : Said → Type 0 = λ said. IsHeld (before ++ bytes) (phase_by plan (Piece id bytes) said (Waiting got.rest)) in
    let after_it : P reply.said =
    subst P said_is (status-held plan id before bytes got.rest candidate got.row.real (status_on got.rest bytes) (goes_on before bytes got.rest held).holds (ap is_last said_is ∙ open')) in
    rw (mine, phase) after_it

-- once its server took the connection
up-held : (bytes : List ℕ) (phase : Phase) → IsHeld bytes phase → IsHeld (bytes ++ []) (phase_up phase)
up-held bytes (Waiting rest) held = subst (λ all. IsRest all rest) (sym (append-nil bytes)) held
up-held bytes (Offered assignment) held = tt
up-held bytes (Up assignment) held = tt

-- once another server was offered
failure-held : (plan : Option Plan) (id : ConnId) (bytes : List ℕ) (phase : Phase) (given : Assignment) (other : Option NumberedServer) → is_last (failure_said id given other) ≡ false →
    IsHeld bytes (phase_by plan (ConnectFailed id) (failure_said id given other) phase)
failure-held plan id bytes phase given None open' = absurd (false≢true (sym open'))
failure-held plan id bytes phase given (Some other) open' = tt

-- the reply speaks to the connection and leaves it open
spoken_row : (q : Plain) (h : List Entry) (moment : ℕ) (event : OwnedEvent) (reply : Reply) (number : ℕ) (own : FrontendRows) (row : Row) (plan : Option Plan) → slice_get q.frontends number ≡ Some own →
    answer_in q moment event ≡ Ok reply → Known h number own row → speaks_to number row.serial reply.said ≡ true → is_last reply.said ≡ false →
    IsHeld (joined (conn number row.serial) h ++ piece_for (conn number row.serial) event) (phase_by plan event reply.said row.phase)
spoken_row q h moment (Accept listener real) reply number own row plan there answer known spoken open' =
    let new = answered q moment (Accept listener real) reply answer in
    let that = speaks_that number row.serial reply.said new.id new.speaks spoken in
    let same : new.own ≡ own = let it : Some new.own ≡ Some own = sym new.there ∙ ap (slice_get q.frontends) that.0 ∙ there in cc in
    let last : new.own.serial ≡ own.serial = ap (λ f. f.serial) same in
    absurd (let next = new.next in let serial = that.1 in let given = known.given in omega (arith, next, serial, given, last))
spoken_row q h moment (Piece id bytes) reply number own row plan there answer known spoken open' =
    let old = answered q moment (Piece id bytes) reply answer in
    let that = speaks_that number row.serial reply.said id old.speaks spoken in
    piece_row (at_moment moment q) h id bytes reply number own row plan there (received (at_moment moment q) id bytes reply answer) known (rw old.speaks at spoken) that.0 that.1 open'
spoken_row q h moment (Connected id) reply number own row plan there answer known spoken open' =
    let got = server_answered (at_moment moment q) id (saids.Up id) reply answer in
    let before : List ℕ = joined (conn number row.serial) h in
    subst (λ said. IsHeld (before ++ []) (phase_by plan (Connected id) said row.phase)) (ap (λ r. r.said) got.reply_is) (up-held before row.phase known.held)
spoken_row q h moment (ConnectFailed id) reply number own row plan there answer known spoken open' =
    let got = has_failed (at_moment moment q) id reply answer in
    let said_is : failure_said id got.given (other_server q got.row got.given) ≡ reply.said = ap (λ r. r.said) got.reply_is in
    subst (λ said. IsHeld (joined (conn number row.serial) h ++ []) (phase_by plan (ConnectFailed id) said row.phase)) said_is
    (failure-held plan id (joined (conn number row.serial) h ++ []) row.phase got.given (other_server q got.row got.given) (ap is_last said_is ∙ open'))
spoken_row q h moment (Close id why) reply number own row plan there answer known spoken open' =
    let one = bind-ok (or_fault NoSuch (row_at q.frontends id)) _ reply answer in
    let same : reply_of (Closed id why) ≡ reply = let it : Ok (reply_of (Closed id why)) ≡ Ok reply = one.2 in cc in
    absurd (false≢true (sym (ap (λ r. is_last r.said) same ∙ open')))
spoken_row q h moment (Expire id) reply number own row plan there answer known spoken open' =
    let got = expired (at_moment moment q) (max q.clock moment) id reply answer in
    absurd (false≢true (sym (ap (λ r. is_last r.said) got.reply_is ∙ open')))
spoken_row q h moment (Reload text) reply number own row plan there answer known spoken open' =
    absurd (reload-silent q text reply.said number row.serial (answered q moment (Reload text) reply answer) spoken)
spoken_row q h moment (Mark backend n health) reply number own row plan there answer known spoken open' =
    absurd (mark-silent q backend n health reply.said number row.serial (answered q moment (Mark backend n health) reply answer) spoken)

left_open : (last : Bool) → not ((last && true) || false) ≡ true → last ≡ false
left_open true live = absurd (false≢true live)
left_open false live = refl

old_row : (q : Plain) (h : List Entry) (e : Entry) (number : ℕ) (own : FrontendRows) (row : Row) → slice_get q.frontends number ≡ Some own → answer_in q e.moment e.event ≡ Ok e.reply →
    Known h number own row → not (has_ended number (e ∷ []) row.serial) ≡ true → IsRowHeld (e ∷ h) number (row_after q number (e ∷ []) row)
old_row q h e number own row there answer known live = by (speaks_to number row.serial e.reply.said) refl
  where
    before : List ℕ
    before = joined (conn number row.serial) h

    by : (b : Bool) → speaks_to number row.serial e.reply.said ≡ b → IsRowHeld (e ∷ h) number (row_after q number (e ∷ []) row)
    by true is =
        let open' : is_last e.reply.said ≡ false = left_open (is_last e.reply.said) (rw is at live) in
        rw is (spoken_row q h e.moment e.event e.reply number own row (plan_of q [] row.version) there answer known is open')
    by false is =
        let none : piece_for (conn number row.serial) e.event ≡ [] = piece-unspoken q e.event e.reply.said number row.serial (answered q e.moment e.event e.reply answer) is in
        rw (is, none) (subst (λ bytes. IsHeld bytes row.phase) (sym (append-nil (joined (conn number row.serial) h))) known.held)

-- A connection that was accepted now.

new-held : (plan : Option Plan) (listener : ℕ) (real : PairValue) (said : Said) (spoken : Bool) →
    IsHeld [] (if spoken then phase_by plan (Accept listener real) said (Waiting (Read (record { items = [] }))) else Waiting (Read (record { items = [] })))
new-held plan listener real (Wait id used) true = (refl, refl)
new-held plan listener real (Offer id used line server to judged send) true = tt
new-held plan listener real (Refuse id used cause) true = (refl, refl)
new-held plan listener real (saids.Up id) true = (refl, refl)
new-held plan listener real (Closed id why) true = (refl, refl)
new-held plan listener real (Reloaded version) true = (refl, refl)
new-held plan listener real (Marked line health) true = (refl, refl)
new-held plan listener real said false = (refl, refl)

new_rows : (p : Plain) → IsWell p → (h : List Entry) (moment : ℕ) (event : OwnedEvent) (reply : Reply) (number : ℕ) (own : FrontendRows) → slice_get p.frontends number ≡ Some own → IsLegal p h →
    answer_in (after p h) moment event ≡ Ok reply → (version clock : ℕ) →
    AllByRecursion (λ row. IsRowHeld (record { moment = moment; event = event; reply = reply } ∷ h) number (row_after (after p h) number (record { moment = moment; event = event; reply = reply } ∷ []) row)) (arrival number clock version event reply.said)
new_rows p well h moment (Accept listener real) reply number own there legal answer version clock =
    arrival-all (λ row. IsRowHeld (record { moment = moment; event = Accept listener real; reply = reply } ∷ h) number (row_after (after p h) number (record { moment = moment; event = Accept listener real; reply = reply } ∷ []) row))
    (after p h) number clock version (Accept listener real) reply.said (answered (after p h) moment (Accept listener real) reply answer)
    (λ new pair here accepting.
    let facts : FrontendFacts p h number own = facts_of p h number own there (well_at p well number own there) legal in
    let next : new.id.serial ≡ own.serial + accepts number h + 1 = next_here p h number own reply.said there new here in
    let fresh : is_spoken_to number h new.id.serial ≡ false = not_yet (is_spoken_to number h new.id.serial) new.id.serial (own.serial + accepts number h) (facts.past new.id.serial) (omega (arith, next)) in
    let none : joined (conn number new.id.serial) h ≡ [] = joined-unspoken p h number new.id.serial legal fresh in
    rw none (new-held (plan_of (after p h) [] version) listener real reply.said (speaks_to number new.id.serial reply.said)))
new_rows p well h moment (Piece id bytes) reply number own there legal answer version clock = tt
new_rows p well h moment event reply number own there legal answer version clock = tt

-- Along a history.

held_step : (p : Plain) → IsWell p → (e : Entry) (h : List Entry) → IsLegal p (e ∷ h) → AreHeld (after p h) h → AreHeld (after p (e ∷ h)) (e ∷ h)
held_step p well e h legal held number own' there' =
    let q : Plain = after p h in
    let one : after q (e ∷ []) ≡ after p (e ∷ h) = whole_in_parts p well (e ∷ []) h legal in
    let there : slice_get (frontends_after q (e ∷ [])) number ≡ Some own' = ap (λ s. slice_get s.frontends number) one ∙ there' in
    let got = get-back_zero (frontend_after q (e ∷ [])) q.frontends number own' there in
    let own : FrontendRows = got.0 in
    let start = get-back_zero (frontend_after p h) p.frontends number own got.1 in
    let fine = well_at q (well_after p well h legal.0) number own got.1 in
    let live : Row → Bool = λ row. not (has_ended number (e ∷ []) row.serial) in
    let P : Row → Type 0 = λ row. IsRowHeld (e ∷ h) number (row_after q number (e ∷ []) row) in
    let new' : List Row = arrival number (max q.clock e.moment) (newest_number q) e.event e.reply.said in
    let old : AllByRecursion (λ row. live row ≡ true → P row) own.rows =
    all-more (λ row. (IsRowHeld h number row × (row.serial ≤ own.serial)) × (find (λ r. r.serial == row.serial) own.rows ≡ Some row)) (λ row. live row ≡ true → P row) own.rows
    (λ row known stays. old_row q h e number own row got.1 legal.1 (record { held = known.0.0; given = known.0.1; first = known.1 }) stays)
    (all-both (λ row. IsRowHeld h number row × (row.serial ≤ own.serial)) (λ row. find (λ r. r.serial == row.serial) own.rows ≡ Some row) own.rows
    (all-both (IsRowHeld h number) (λ row. row.serial ≤ own.serial) own.rows (held number own got.1) fine.given) (rows-found own.rows fine.rise)) in
    let new'' : AllByRecursion (λ row. live row ≡ true → P row) new' =
    all-more P (λ row. live row ≡ true → P row) new' (λ row is stays. is) (new_rows p well h e.moment e.event e.reply number start.0 start.1 legal.0 legal.1 (newest_number q) (max q.clock e.moment)) in
    let all : AllByRecursion (IsRowHeld (e ∷ h) number) (frontend_after q (e ∷ []) number own).rows =
    all-map (IsRowHeld (e ∷ h) number) (row_after q number (e ∷ [])) (filter live (own.rows ++ new'))
    (all-filter_if P live (own.rows ++ new') (all-append (λ row. live row ≡ true → P row) own.rows new' old new'')) in
    subst (λ f. AllByRecursion (IsRowHeld (e ∷ h) number) f.rows) got.2 all

nothing-held : (plan : Plan) (last : ℕ) → AreHeld (opening plan last) []
nothing-held plan last number own there =
    let none : own.rows ≡ [] =
    all-at (λ f. f.rows ≡ []) (opening plan last).frontends number own
    (all-map (λ f. f.rows ≡ []) (λ frontend. record { name = frontend.name; serial = last; rows = [] }) plan.frontends (all-each _ plan.frontends (λ frontend. refl))) there in
    rw none tt

held_after : (plan : Plan) (last : ℕ) (h : List Entry) → IsLegal (opening plan last) h → AreHeld (after (opening plan last) h) h
held_after plan last [] legal = subst (λ q. AreHeld q []) (sym (after-nil (opening plan last) (opening_well plan last))) (nothing-held plan last)
held_after plan last (e ∷ h) legal = held_step (opening plan last) (opening_well plan last) e h legal (held_after plan last h legal.0)

-- a connection that waits after a legal history
pub holds_joined : (plan : Plan) (last : ℕ) (h : List Entry) → IsLegal (opening plan last) h → (id : ConnId) (row : Row) (rest : Rest) →
    row_at (after (opening plan last) h).frontends id ≡ Some row → row.phase ≡ Waiting rest → IsRest (joined id h) rest
holds_joined plan last h legal id row rest there waits = by (slice_get (after (opening plan last) h).frontends id.frontend) refl
  where
    by : (o : Option FrontendRows) → slice_get (after (opening plan last) h).frontends id.frontend ≡ o → IsRest (joined id h) rest
    by None is = absurd (let wrong : None ≡ Some row = sym (ap (row_in id.serial) is) ∙ there in cc)
    by (Some own) is =
        let found = all-found (IsRowHeld h id.frontend) (λ r. r.serial == id.serial) own.rows row (held_after plan last h legal id.frontend own is) (sym (ap (row_in id.serial) is) ∙ there) in
        let serial : row.serial ≡ id.serial = eqb-true row.serial id.serial found.1 in
        let held : IsHeld (joined (conn id.frontend id.serial) h) row.phase = subst (λ s. IsHeld (joined (conn id.frontend s) h) row.phase) serial found.0 in
        subst (IsHeld (joined id h)) waits held

-- and what its next piece decides
pub decides_joined : (plan : Plan) (last : ℕ) (h : List Entry) → IsLegal (opening plan last) h → (id : ConnId) (row : Row) (rest : Rest) →
    row_at (after (opening plan last) h).frontends id ≡ Some row → row.phase ≡ Waiting rest → (piece : List ℕ) →
    status (joined id h ++ piece) ≡ shifted (length (joined id h)) (status_on rest piece)
decides_joined plan last h legal id row rest there waits piece = (goes_on (joined id h) piece rest (holds_joined plan last h legal id row rest there waits)).status
