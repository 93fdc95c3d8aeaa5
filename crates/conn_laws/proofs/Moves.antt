-- A connection is moved no more often than its backend allows, and never to a server that it was offered before.
use Rattle.std.specs.Prelude.{ℕ, Bool, true, false, List, [], length, max, slice_get, Option, Some, None, Ok, refl, ◌+◌, ◌≤◌, ◌<◌, ◌≡◌, ◌⊎◌, ◌==◌, ◌||◌, ◌∷◌, ◌++◌, if◌then◌else◌}
use Rattle.std.specs.List.{list_any, AllByRecursion, IsDistinct}
use Rattle.std.proofs.Common.{sym, ap, ◌∙◌, subst, arith, append-nil, inl, inr}
use Rattle.std.proofs.lemmas.Bool.{false≢true, eqb-true}
use Rattle.std.proofs.lemmas.Bool.Decides.{nat_tests}
use Rattle.std.proofs.lemmas.List.{length-append}
use Rattle.std.proofs.lemmas.Map.Keys.{IsDistinct-cons, IsDistinct-head, IsDistinct-tail}
use Rattle.addr_core.specs.PairValue.{PairValue}
use Rattle.pp_any.specs.declared.rest.Rest.{Rest}
use Rattle.pp_any.specs.declared.rest.Rest.TheVariants.{Read}
use Rattle.plan_types.specs.declared.plan.Frontend.{Frontend}
use Rattle.plan_types.specs.declared.plan.Plan.{Plan}
use Rattle.plan_types.specs.declared.plan.Redispatch.{Redispatch}
use Rattle.plan_types.specs.declared.plan.Redispatch.TheVariants.{Never, Last, Every}
use Rattle.plan_types.specs.declared.plan.TheConstants.{MOST_MOVES}
use Rattle.plan_types.specs.declared.track.Track.{Track}
use Rattle.plan_types.specs.Moves.{moves_of}
use Rattle.conn_model.specs.declared.event.ConnId.{ConnId}
use Rattle.conn_model.specs.declared.event.OwnedEvent.{OwnedEvent}
use Rattle.conn_model.specs.declared.event.OwnedEvent.TheVariants.{Accept, Piece, ConnectFailed}
use Rattle.conn_model.specs.declared.plain.Assignment.{Assignment}
use Rattle.conn_model.specs.declared.plain.FrontendRows.{FrontendRows}
use Rattle.conn_model.specs.declared.plain.Phase.{Phase}
use Rattle.conn_model.specs.declared.plain.Phase.TheVariants.{Waiting, Offered, Up}
use Rattle.conn_model.specs.declared.plain.Plain.{Plain}
use Rattle.conn_model.specs.declared.plain.Row.{Row}
use Rattle.conn_model.specs.declared.reply.Reply.{Reply}
use Rattle.conn_model.specs.declared.reply.Said.{Said}
use Rattle.conn_model.specs.declared.reply.Said.TheVariants as saids
use Rattle.conn_model.specs.Words.{row_at}
use Rattle.conn_model.specs.Servers.{cursor_at, is_down}
use Rattle.conn_model.specs.Counts.{served_by}
use Rattle.conn_model.specs.Answer.{answer_in, at_moment, barred_for, failure_said, other_server, rest_in, row_in, NumberedServer}
use Rattle.conn_model.specs.History.{accepts, after, arrival, arrivals, entry, failed_by, frontend_after, newest_number, opening, phase_by, phase_on, phase_up, piece_of, plan_of, row_after, speaks_to, Entry, IsLegal, IsWell}
use Rattle.conn_model.proofs.Goes.{well_at, whole_in_parts}
use Rattle.conn_model.proofs.Lists.{all-append, all-at, all-each, all-found, all-map}
use Rattle.conn_model.proofs.Offers.{offer-phase, other_is, pick-offers, IsOther}
use Rattle.conn_model.proofs.Parts.{either_false, is_spoken_to}
use Rattle.conn_model.proofs.Replies.{answered, has_failed, received, HasFailed, IsNew}
use Rattle.conn_model.proofs.Serials.{arrival-all, facts_of, next_here, not_yet, speaks_that, FrontendFacts}
use Rattle.conn_model.proofs.Well.{after-nil, opening_well, well_after}
use Rattle.conn_laws.specs.Deciding.{is_offer, may_offer, IsMoved}
use Rattle.conn_laws.specs.Moving.{line_offered, lines_offered}
use Rattle.conn_laws.proofs.Offered.{nothing_else}
use Rattle.conn_laws.proofs.Present.{at_numbered}
use Rattle.conn_laws.proofs.Rows.{found, one_item, row_before, RowBefore}

abbrev conn : ℕ → ℕ → ConnId
conn number serial = record { frontend = number; serial = serial }

-- in that phase after offers of servers of those lines
abbrev IsTried : List ℕ → Phase → Type 0
IsTried lines (Waiting rest) = lines ≡ []
IsTried lines (Offered given) = lines ≡ given.failed ++ given.line ∷ []
IsTried lines (Up given) = lines ≡ given.failed ++ given.line ∷ []

abbrev AreTried : Plain → List Entry → Type 0
AreTried q h = (id : ConnId) (row : Row) → row_at q.frontends id ≡ Some row → IsTried (lines_offered id h) row.phase

-- ---- one reply

on_piece : (lines piece : List ℕ) (phase : Phase) → IsTried lines phase → IsTried lines (phase_on piece phase)
on_piece lines piece (Waiting rest) is = is
on_piece lines piece (Offered given) is = is
on_piece lines piece (Up given) is = is

once_up : (lines : List ℕ) (phase : Phase) → IsTried lines phase → IsTried lines (phase_up phase)
once_up lines (Waiting rest) is = is
once_up lines (Offered given) is = is
once_up lines (Up given) is = is

no_more : (lines : List ℕ) (phase : Phase) → IsTried lines phase → IsTried (lines ++ []) phase
no_more lines phase is = subst (λ all. IsTried all phase) (sym (append-nil lines)) is

-- a reply that is no offer
unoffered : (event : OwnedEvent) (said : Said) (q : Plain) (version : ℕ) (lines : List ℕ) (phase : Phase) → is_offer said ≡ false → IsTried lines phase → IsTried (lines ++ line_offered said) (phase_by (plan_of q [] version) event said phase)
unoffered event (saids.Wait id used) q version lines phase other is = on_piece (lines ++ []) (piece_of event) phase (no_more lines phase is)
unoffered event (saids.Offer id used line server to judged send) q version lines phase other is = absurd (false≢true (sym other))
unoffered event (saids.Up id) q version lines phase other is = once_up (lines ++ []) phase (no_more lines phase is)
unoffered event said q version lines phase other is = no_more lines phase is

-- an offer, where those that failed are the servers before
offered : (event : OwnedEvent) (said : Said) (q : Plain) (version : ℕ) (lines : List ℕ) (phase : Phase) → is_offer said ≡ true → lines ≡ failed_by event phase → IsTried (lines ++ line_offered said) (phase_by (plan_of q [] version) event said phase)
offered event (saids.Offer id used line server to judged send) q version lines phase offers same = ap (λ all. all ++ line ∷ []) same
offered event said q version lines phase offers same = absurd (false≢true offers)

-- ---- the servers before an offer

same_id : (a b : ConnId) → a.frontend ≡ b.frontend → a.serial ≡ b.serial → a ≡ b
same_id a b frontend serial = ap (λ f. conn f a.serial) frontend ∙ ap (λ s. conn b.frontend s) serial

-- the connection that an accept lets in is not one that is open
not_open : (q : Plain) → IsWell q → (moment listener : ℕ) (real : PairValue) (reply : Reply) (id : ConnId) (row : Row) → answer_in q moment (Accept listener real) ≡ Ok reply → row_at q.frontends id ≡ Some row →
    speaks_to id.frontend id.serial reply.said ≡ true → ⊥
not_open q well moment listener real reply id row answer row_is spoken =
    let new = answered q moment (Accept listener real) reply answer in
    let that = speaks_that id.frontend id.serial reply.said new.id new.speaks spoken in
    let there : slice_get q.frontends id.frontend ≡ Some new.own = ap (slice_get q.frontends) (sym that.0) ∙ new.there in
    let fine = well_at q well id.frontend new.own there in
    let here = all-found (λ r. r.serial ≤ new.own.serial) (λ r. r.serial == id.serial) new.own.rows row fine.given (sym (ap (row_in id.serial) there) ∙ row_is) in
    let same : row.serial ≡ id.serial = eqb-true row.serial id.serial here.1 in
    let next : new.id.serial ≡ new.own.serial + 1 = new.next in
    absurd (omega (arith, next, that.1, here.0, same))

waits_after_none : (lines : List ℕ) (phase : Phase) (rest : Rest) → phase ≡ Waiting rest → IsTried lines phase → lines ≡ []
waits_after_none lines phase rest waits is = subst (IsTried lines) waits is

phase_waits : (phase : Phase) (rest : Rest) → rest_in phase ≡ Some rest → phase ≡ Waiting rest
phase_waits phase rest is = by phase is
  where
    by : (phase : Phase) → rest_in phase ≡ Some rest → phase ≡ Waiting rest
    by (Waiting held) is = ap (λ r. Waiting r) (one_item (Some held) held rest refl is)
    by (Offered given) is = absurd (let wrong : None ≡ Some rest = is in cc)
    by (Up given) is = absurd (let wrong : None ≡ Some rest = is in cc)

-- of an open connection
before_offer : (q : Plain) → IsWell q → (lines : List ℕ) (moment : ℕ) (event : OwnedEvent) (reply : Reply) (id : ConnId) (row : Row) → answer_in q moment event ≡ Ok reply → row_at q.frontends id ≡ Some row →
    speaks_to id.frontend id.serial reply.said ≡ true → IsTried lines row.phase → may_offer event ≡ true → lines ≡ failed_by event row.phase
before_offer q well lines moment (Accept listener real) reply id row answer row_is spoken tried may = absurd (not_open q well moment listener real reply id row answer row_is spoken)
before_offer q well lines moment (Piece own bytes) reply id row answer row_is spoken tried may =
    let old = answered q moment (Piece own bytes) reply answer in
    let that = speaks_that id.frontend id.serial reply.said own old.speaks spoken in
    let got = received (at_moment moment q) own bytes reply answer in
    let one : got.row ≡ row = one_item (row_at q.frontends id) got.row row (ap (row_at q.frontends) (sym (same_id own id that.0 that.1)) ∙ got.row_is) row_is in
    waits_after_none lines row.phase got.rest (phase_waits row.phase got.rest (ap (λ (r : Row). rest_in r.phase) (sym one) ∙ got.waits)) tried
before_offer q well lines moment (ConnectFailed own) reply id row answer row_is spoken tried may =
    let old = answered q moment (ConnectFailed own) reply answer in
    let that = speaks_that id.frontend id.serial reply.said own old.speaks spoken in
    let got = has_failed (at_moment moment q) own reply answer in
    let one : got.row ≡ row = one_item (row_at q.frontends id) got.row row (ap (row_at q.frontends) (sym (same_id own id that.0 that.1)) ∙ got.row_is) row_is in
    let phase : row.phase ≡ Offered got.given = ap (λ (r : Row). r.phase) (sym one) ∙ offer-phase got.row.phase got.given got.offered in
    subst (λ p. IsTried lines p → lines ≡ failed_by (ConnectFailed own) p) (sym phase) (λ is. is) tried
before_offer q well lines moment event reply id row answer row_is spoken tried may = absurd (false≢true may)

-- ---- one entry

-- a connection that was open before
old_row : (q : Plain) → IsWell q → (h : List Entry) (e : Entry) (id : ConnId) (row : Row) → answer_in q e.moment e.event ≡ Ok e.reply → row_at q.frontends id ≡ Some row → row.serial ≡ id.serial →
    IsTried (lines_offered id h) row.phase → IsTried (lines_offered id (e ∷ h)) (row_after q id.frontend (e ∷ []) row).phase
old_row q well h e id row answer row_is serial tried = by (speaks_to id.frontend id.serial e.reply.said) refl
  where
    lines : List ℕ
    lines = lines_offered id h

    spoken_row : speaks_to id.frontend id.serial e.reply.said ≡ true → (b : Bool) → is_offer e.reply.said ≡ b → IsTried (lines ++ line_offered e.reply.said) (phase_by (plan_of q [] row.version) e.event e.reply.said row.phase)
    spoken_row spoken false other = unoffered e.event e.reply.said q row.version lines row.phase other tried
    spoken_row spoken true offers =
        offered e.event e.reply.said q row.version lines row.phase offers
        (before_offer q well lines e.moment e.event e.reply id row answer row_is spoken tried (nothing_else q e.moment e.event e.reply answer offers))

    by : (b : Bool) → speaks_to id.frontend id.serial e.reply.said ≡ b → IsTried (lines_offered id (e ∷ h)) (row_after q id.frontend (e ∷ []) row).phase
    by true spoken =
        let here : speaks_to id.frontend row.serial e.reply.said ≡ true = ap (λ s. speaks_to id.frontend s e.reply.said) serial ∙ spoken in
        rw (spoken, here) (spoken_row spoken (is_offer e.reply.said) refl)
    by false quiet =
        let here : speaks_to id.frontend row.serial e.reply.said ≡ false = ap (λ s. speaks_to id.frontend s e.reply.said) serial ∙ quiet in
        rw (quiet, here) (no_more lines row.phase tried)

lines_unspoken : (number serial : ℕ) (h : List Entry) → is_spoken_to number h serial ≡ false → lines_offered (conn number serial) h ≡ []
lines_unspoken number serial [] none = refl
lines_unspoken number serial (e ∷ h) none =
    let both = either_false (speaks_to number serial e.reply.said) (is_spoken_to number h serial) none in
    let before : lines_offered (conn number serial) h ≡ [] = lines_unspoken number serial h both.1 in
    let quiet : speaks_to number serial e.reply.said ≡ false = both.0 in
    rw (before, quiet) refl

-- a connection that an answer to an accept names was not spoken to before
not_spoken : (p : Plain) → IsWell p → (h : List Entry) → IsLegal p h → (number : ℕ) (own : FrontendRows) → slice_get p.frontends number ≡ Some own → (said : Said) (new : IsNew (after p h) said) → new.id.frontend ≡ number →
    is_spoken_to number h new.id.serial ≡ false
not_spoken p well h legal number own there said new here =
    let facts : FrontendFacts p h number own = facts_of p h number own there (well_at p well number own there) legal in
    let next : new.id.serial ≡ own.serial + accepts number h + 1 = next_here p h number own said there new here in
    not_yet (is_spoken_to number h new.id.serial) new.id.serial (own.serial + accepts number h) (facts.past new.id.serial) (omega (arith, next))

-- so it was not offered a server
none_before : (p : Plain) → IsWell p → (h : List Entry) → IsLegal p h → (moment listener : ℕ) (real : PairValue) (reply : Reply) (id : ConnId) → answer_in (after p h) moment (Accept listener real) ≡ Ok reply →
    speaks_to id.frontend id.serial reply.said ≡ true → lines_offered id h ≡ []
none_before p well h legal moment listener real reply id answer spoken =
    let new = answered (after p h) moment (Accept listener real) reply answer in
    let that = speaks_that id.frontend id.serial reply.said new.id new.speaks spoken in
    let start = at_numbered (frontend_after p h) 0 p.frontends new.id.frontend new.own new.there in
    ap (λ i. lines_offered i h) (sym (same_id new.id id that.0 that.1))
    ∙ lines_unspoken new.id.frontend new.id.serial h (not_spoken p well h legal new.id.frontend start.0 start.1 reply.said new refl)

new_after : (q : Plain) (version listener : ℕ) (real : PairValue) (said : Said) (spoken : Bool) →
    IsTried ([] ++ (if spoken then line_offered said else []))
    (if spoken then phase_by (plan_of q [] version) (Accept listener real) said (Waiting (Read (record { items = [] }))) else Waiting (Read (record { items = [] })))
new_after q version listener real (saids.Wait id used) true = refl
new_after q version listener real (saids.Offer id used line server to judged send) true = refl
new_after q version listener real (saids.Refuse id used cause) true = refl
new_after q version listener real (saids.Up id) true = refl
new_after q version listener real (saids.Closed id why) true = refl
new_after q version listener real (saids.Reloaded next) true = refl
new_after q version listener real (saids.Marked line health) true = refl
new_after q version listener real said false = refl

abbrev IsRowTried : Plain → List Entry → Entry → ℕ → Row → Type 0
IsRowTried p h e number row = IsTried (lines_offered (conn number row.serial) (e ∷ h)) (row_after (after p h) number (e ∷ []) row).phase

-- what comes with an entry
new_rows : (p : Plain) → IsWell p → (h : List Entry) → IsLegal p h → (moment : ℕ) (event : OwnedEvent) (reply : Reply) → answer_in (after p h) moment event ≡ Ok reply → (number : ℕ) (own : FrontendRows) → slice_get p.frontends number ≡ Some own →
    (clock version : ℕ) → AllByRecursion (IsRowTried p h (entry moment event reply) number) (arrival number clock version event reply.said)
new_rows p well h legal moment (Accept listener real) reply answer number own there clock version =
    arrival-all (IsRowTried p h (entry moment (Accept listener real) reply) number) (after p h) number clock version (Accept listener real) reply.said (answered (after p h) moment (Accept listener real) reply answer)
    (λ new pair here accepting.
    let none : lines_offered (conn number new.id.serial) h ≡ [] = lines_unspoken number new.id.serial h (not_spoken p well h legal number own there reply.said new here) in
    rw none (new_after (after p h) version listener real reply.said (speaks_to number new.id.serial reply.said)))
new_rows p well h legal moment (Piece id bytes) reply answer number own there clock version = tt
new_rows p well h legal moment event reply answer number own there clock version = tt

-- a connection that came
new_row : (p : Plain) → IsWell p → (h : List Entry) (e : Entry) → IsLegal p (e ∷ h) → (id : ConnId) (row : Row) → found id.serial (arrivals (after p h) id.frontend (e ∷ [])) ≡ Some row → row.serial ≡ id.serial → (own : FrontendRows) →
    slice_get p.frontends id.frontend ≡ Some own → IsTried (lines_offered id (e ∷ h)) (row_after (after p h) id.frontend (e ∷ []) row).phase
new_row p well h e legal id row came serial own there =
    let q : Plain = after p h in
    let all = new_rows p well h legal.0 e.moment e.event e.reply legal.1 id.frontend own there (max q.clock e.moment) (newest_number q) in
    let one = all-found (IsRowTried p h e id.frontend) (λ r. r.serial == id.serial) (arrivals q id.frontend (e ∷ [])) row all came in
    subst (λ i. IsTried (lines_offered i (e ∷ h)) (row_after q id.frontend (e ∷ []) row).phase) (same_id (conn id.frontend row.serial) id refl serial) one.0

-- ---- along a history

step : (p : Plain) → IsWell p → (e : Entry) (h : List Entry) → IsLegal p (e ∷ h) → AreTried (after p h) h → AreTried (after p (e ∷ h)) (e ∷ h)
step p well e h legal tried id row there =
    let q : Plain = after p h in
    let whole : after q (e ∷ []) ≡ after p (e ∷ h) = whole_in_parts p well (e ∷ []) h legal in
    let here : row_at (after q (e ∷ [])).frontends id ≡ Some row = ap (λ (s : Plain). row_at s.frontends id) whole ∙ there in
    let was : RowBefore q e id row = row_before q e id row here in
    let start = at_numbered (frontend_after p h) 0 p.frontends id.frontend was.own was.there in
    subst (λ (r : Row). IsTried (lines_offered id (e ∷ h)) r.phase) (sym was.is) (elim was.first [
      | inl old ↦ old_row q (well_after p well h legal.0) h e id was.old legal.1 old was.serial (tried id was.old old)
      | inr came ↦ new_row p well h e legal id was.old came was.serial start.0 start.1
    ])

nobody : (plan : Plan) (last : ℕ) → AreTried (opening plan last) []
nobody plan last id row there = by (slice_get (opening plan last).frontends id.frontend) refl
  where
    by : (o : Option FrontendRows) → slice_get (opening plan last).frontends id.frontend ≡ o → IsTried (lines_offered id []) row.phase
    by None none = absurd (let wrong : None ≡ Some row = sym (ap (row_in id.serial) none) ∙ there in cc)
    by (Some own) is =
        let none : own.rows ≡ [] =
        all-at (λ f. f.rows ≡ []) (opening plan last).frontends id.frontend own
        (all-map (λ f. f.rows ≡ []) (λ (frontend : Frontend). record { name = frontend.name; serial = last; rows = [] }) plan.frontends (all-each _ plan.frontends (λ frontend. refl))) is in
        let found_none : row_in id.serial (Some own) ≡ None = ap (λ rows. found id.serial rows) none in
        absurd (let wrong : None ≡ Some row = sym found_none ∙ sym (ap (row_in id.serial) is) ∙ there in cc)

-- what an open connection was offered, after a legal history
pub tried_after : (plan : Plan) (last : ℕ) (h : List Entry) → IsLegal (opening plan last) h → AreTried (after (opening plan last) h) h
tried_after plan last [] legal = subst (λ q. AreTried q []) (sym (after-nil (opening plan last) (opening_well plan last))) (nobody plan last)
tried_after plan last (e ∷ h) legal = step (opening plan last) (opening_well plan last) e h legal (tried_after plan last h legal.0)

-- ---- a connection that is moved

-- of a connection that is moved: it was offered so many servers before
pub moves_left : (plan : Plan) (last : ℕ) (h : List Entry) → IsLegal (opening plan last) h → (id : ConnId) (said : Said) (tracks : List Track) → (moved : IsMoved (after (opening plan last) h) id said tracks) →
    length (lines_offered id h) ≤ moves_of moved.backend.retries moved.backend.redispatch
moves_left plan last h legal id said tracks moved =
    let lines : lines_offered id h ≡ moved.given.failed ++ moved.given.line ∷ [] = subst (IsTried (lines_offered id h)) moved.offered (tried_after plan last h legal id moved.row moved.row_is) in
    let many : length (lines_offered id h) ≡ length moved.given.failed + 1 = ap length lines ∙ length-append moved.given.failed (moved.given.line ∷ []) in
    let fewer : length moved.given.failed < moves_of moved.backend.retries moved.backend.redispatch = moved.moves in
    omega (arith, many, fewer)

-- ---- the servers that a connection is offered

-- a test that no item of a list passes, nor one more at its end
none_last : (test : ℕ → Bool) (x : ℕ) (xs : List ℕ) → list_any test (x ∷ xs) ≡ false → list_any test (xs ++ x ∷ []) ≡ false
none_last test x [] none = none
none_last test x (y ∷ ys) none =
    let first = either_false (test x) (test y || list_any test ys) none in
    let second = either_false (test y) (list_any test ys) first.1 in
    let rest : list_any test (ys ++ x ∷ []) ≡ false = none_last test x ys (rw (first.0, second.1) refl) in
    rw (second.0, rest) refl

neither_second : (a b : Bool) → (a || b) ≡ false → b ≡ false
neither_second true b is = absurd (false≢true (sym is))
neither_second false b is = is

-- another server of a connection was not offered to it before
other_line : (q : Plain) (row : Row) (given : Assignment) (other : NumberedServer) → other_server q row given ≡ Some other → list_any (λ line. line == other.server.line) (given.failed ++ given.line ∷ []) ≡ false
other_line q row given other is =
    let at : IsOther q row given other = other_is q row given other is in
    let offer = pick-offers (served_by q.frontends) (barred_for q.down given) at.version.plan at.number at.backend (cursor_at at.version.cursors at.number) given.judged.source.addr at.turn other at.among at.picked at.server_is in
    let free : list_any (λ line. line == offer.server.line) (given.line ∷ given.failed) ≡ false = neither_second (is_down q.down offer.backend offer.server) _ offer.stands in
    none_last (λ line. line == other.server.line) given.line given.failed (ap (λ n. list_any (λ line. line == n) (given.line ∷ given.failed)) (sym offer.line_is) ∙ free)

offers_line : (said : Said) (line : ℕ) → line_offered said ≡ line ∷ [] → is_offer said ≡ true
offers_line (saids.Offer id used n server to judged send) line is = refl
offers_line said line is = absurd (cc)

-- the line of an offer after a failure
failure_line : (q : Plain) (id : ConnId) (given : Assignment) (row : Row) (o : Option NumberedServer) → other_server q row given ≡ o → (line : ℕ) → line_offered (failure_said id given o) ≡ line ∷ [] → list_any (λ l. l == line) (given.failed ++ given.line ∷ []) ≡ false
failure_line q id given row None other line is = absurd (let wrong : [] ≡ line ∷ [] = is in cc)
failure_line q id given row (Some server) other line is =
    let same : server.server.line ≡ line = let it : server.server.line ∷ [] ≡ line ∷ [] = is in cc in
    ap (λ n. list_any (λ l. l == n) (given.failed ++ given.line ∷ [])) (sym same) ∙ other_line q row given server other

-- what was before an offer: nothing, or the server that is out of reach, and those that were
record IsMovedFrom (q : Plain) (lines : List ℕ) (reply : Reply) : Type 0 where
  own : ConnId
  row : Row
  given : Assignment
  lines_are : lines ≡ given.failed ++ given.line ∷ []
  said_is : failure_said own given (other_server q row given) ≡ reply.said

at_offer : (plan : Plan) (last : ℕ) (h : List Entry) → IsLegal (opening plan last) h → (moment : ℕ) (event : OwnedEvent) (reply : Reply) → answer_in (after (opening plan last) h) moment event ≡ Ok reply → (id : ConnId) →
    speaks_to id.frontend id.serial reply.said ≡ true → may_offer event ≡ true → (lines_offered id h ≡ []) ⊎ IsMovedFrom (at_moment moment (after (opening plan last) h)) (lines_offered id h) reply
at_offer plan last h legal moment (Accept listener real) reply answer id spoken may = inl (none_before (opening plan last) (opening_well plan last) h legal moment listener real reply id answer spoken)
at_offer plan last h legal moment (Piece own bytes) reply answer id spoken may =
    let q : Plain = after (opening plan last) h in
    let that = speaks_that id.frontend id.serial reply.said own (answered q moment (Piece own bytes) reply answer).speaks spoken in
    let got = received (at_moment moment q) own bytes reply answer in
    let row_is : row_at q.frontends id ≡ Some got.row = ap (row_at q.frontends) (sym (same_id own id that.0 that.1)) ∙ got.row_is in
    inl (waits_after_none (lines_offered id h) got.row.phase got.rest (phase_waits got.row.phase got.rest got.waits) (tried_after plan last h legal id got.row row_is))
at_offer plan last h legal moment (ConnectFailed own) reply answer id spoken may =
    let q : Plain = after (opening plan last) h in
    let that = speaks_that id.frontend id.serial reply.said own (answered q moment (ConnectFailed own) reply answer).speaks spoken in
    let got : HasFailed (at_moment moment q) own reply = has_failed (at_moment moment q) own reply answer in
    let row_is : row_at q.frontends id ≡ Some got.row = ap (row_at q.frontends) (sym (same_id own id that.0 that.1)) ∙ got.row_is in
    inr (record {
      own = own;
      row = got.row;
      given = got.given;
      lines_are = subst (IsTried (lines_offered id h)) (offer-phase got.row.phase got.given got.offered) (tried_after plan last h legal id got.row row_is);
      said_is = ap (λ (r : Reply). r.said) got.reply_is;
    })
at_offer plan last h legal moment event reply answer id spoken may = absurd (false≢true may)

-- it is offered none of those
not_again : (q : Plain) (lines : List ℕ) (reply : Reply) (line : ℕ) → line_offered reply.said ≡ line ∷ [] → (lines ≡ []) ⊎ IsMovedFrom q lines reply → list_any (λ l. l == line) lines ≡ false
not_again q lines reply line is (inl none) = ap (list_any (λ l. l == line)) none
not_again q lines reply line is (inr moved) =
    ap (list_any (λ l. l == line)) moved.lines_are
    ∙ failure_line q moved.own moved.given moved.row (other_server q moved.row moved.given) refl line (ap line_offered moved.said_is ∙ is)

-- and those are not too many
most_moves : (retries : ℕ) (every : Redispatch) → moves_of retries every ≤ MOST_MOVES
most_moves retries Never = omega arith
most_moves retries Last = omega arith
most_moves retries (Every number) = omega arith

not_many : (q : Plain) (lines : List ℕ) (reply : Reply) (line : ℕ) → line_offered reply.said ≡ line ∷ [] → (lines ≡ []) ⊎ IsMovedFrom q lines reply → length lines ≤ MOST_MOVES
not_many q lines reply line is (inl none) = let nothing : length lines ≡ 0 = ap length none in omega (arith, nothing)
not_many q lines reply line is (inr moved) = by (other_server q moved.row moved.given) refl
  where
    many : length lines ≡ length moved.given.failed + 1
    many = ap length moved.lines_are ∙ length-append moved.given.failed (moved.given.line ∷ [])

    by : (o : Option NumberedServer) → other_server q moved.row moved.given ≡ o → length lines ≤ MOST_MOVES
    by None none = absurd (let wrong : [] ≡ line ∷ [] = sym (ap (λ o. line_offered (failure_said moved.own moved.given o)) none) ∙ ap line_offered moved.said_is ∙ is in cc)
    by (Some other) some =
        let at : IsOther q moved.row moved.given other = other_is q moved.row moved.given other some in
        let fewer : length moved.given.failed < moves_of at.backend.retries at.backend.redispatch = let less = at.moves in grind (arith, nat_tests, less) in
        let most : moves_of at.backend.retries at.backend.redispatch ≤ MOST_MOVES = most_moves at.backend.retries at.backend.redispatch in
        omega (arith, many, fewer, most)

distinct_more : (xs : List ℕ) (y : ℕ) → IsDistinct (λ a b. a == b) xs → list_any (λ x. x == y) xs ≡ false → IsDistinct (λ a b. a == b) (xs ++ y ∷ [])
distinct_more [] y differ none = IsDistinct-cons (λ a b. a == b) y [] tt differ
distinct_more (x ∷ xs) y differ none =
    let both = either_false (x == y) (list_any (λ z. z == y) xs) none in
    IsDistinct-cons (λ a b. a == b) x (xs ++ y ∷ [])
    (all-append (λ z. (x == z) ≡ false) xs (y ∷ []) (IsDistinct-head (λ a b. a == b) x xs differ) (both.0, tt))
    (distinct_more xs y (IsDistinct-tail (λ a b. a == b) x xs differ) both.1)

-- an entry offers one server at most
line_or_none : (said : Said) → (line_offered said ≡ []) ⊎ ((line : ℕ) × (line_offered said ≡ line ∷ []))
line_or_none (saids.Offer id used line server to judged send) = inr (line, refl)
line_or_none said = inl refl

-- ---- along a history

-- after an entry that offers a connection a server, and after one that does not
along : (P : List ℕ → Type 0) (id : ConnId) (e : Entry) (h : List Entry) → P (lines_offered id h) → ((line : ℕ) → speaks_to id.frontend id.serial e.reply.said ≡ true → line_offered e.reply.said ≡ line ∷ [] → P (lines_offered id h ++ line ∷ [])) →
    P (lines_offered id (e ∷ h))
along P id e h before one_more = by (speaks_to id.frontend id.serial e.reply.said) refl
  where
    same : P (lines_offered id h ++ [])
    same = subst P (sym (append-nil (lines_offered id h))) before

    spoken_to : speaks_to id.frontend id.serial e.reply.said ≡ true → (line_offered e.reply.said ≡ []) ⊎ ((line : ℕ) × (line_offered e.reply.said ≡ line ∷ [])) → P (lines_offered id h ++ line_offered e.reply.said)
    spoken_to spoken (inl none) = rw none same
    spoken_to spoken (inr (line, is)) = rw is (one_more line spoken is)

    by : (b : Bool) → speaks_to id.frontend id.serial e.reply.said ≡ b → P (lines_offered id (e ∷ h))
    by true spoken = rw spoken (spoken_to spoken (line_or_none e.reply.said))
    by false quiet = rw quiet same

before_line : (plan : Plan) (last : ℕ) (h : List Entry) (e : Entry) → IsLegal (opening plan last) (e ∷ h) → (id : ConnId) (line : ℕ) → speaks_to id.frontend id.serial e.reply.said ≡ true → line_offered e.reply.said ≡ line ∷ [] →
    (lines_offered id h ≡ []) ⊎ IsMovedFrom (at_moment e.moment (after (opening plan last) h)) (lines_offered id h) e.reply
before_line plan last h e legal id line spoken is =
    at_offer plan last h legal.0 e.moment e.event e.reply legal.1 id spoken (nothing_else (after (opening plan last) h) e.moment e.event e.reply legal.1 (offers_line e.reply.said line is))

pub lines_differ : (plan : Plan) (last : ℕ) (h : List Entry) → IsLegal (opening plan last) h → (id : ConnId) → IsDistinct (λ a b. a == b) (lines_offered id h)
unfolding IsDistinct
lines_differ plan last [] legal id = tt
lines_differ plan last (e ∷ h) legal id =
    along (IsDistinct (λ a b. a == b)) id e h (lines_differ plan last h legal.0 id)
    (λ line spoken is. distinct_more (lines_offered id h) line (lines_differ plan last h legal.0 id)
    (not_again (at_moment e.moment (after (opening plan last) h)) (lines_offered id h) e.reply line is (before_line plan last h e legal id line spoken is)))

pub most_offers : (plan : Plan) (last : ℕ) (h : List Entry) → IsLegal (opening plan last) h → (id : ConnId) → length (lines_offered id h) ≤ MOST_MOVES + 1
most_offers plan last [] legal id = omega arith
most_offers plan last (e ∷ h) legal id =
    along (λ lines. length lines ≤ MOST_MOVES + 1) id e h (most_offers plan last h legal.0 id)
    (λ line spoken is.
    let few : length (lines_offered id h) ≤ MOST_MOVES = not_many (at_moment e.moment (after (opening plan last) h)) (lines_offered id h) e.reply line is (before_line plan last h e legal id line spoken is) in
    let many : length (lines_offered id h ++ line ∷ []) ≡ length (lines_offered id h) + 1 = length-append (lines_offered id h) (line ∷ []) in
    omega (arith, few, many))
