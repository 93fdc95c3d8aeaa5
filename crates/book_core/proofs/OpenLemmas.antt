-- How many connections are open after one answer.
use Rattle.std.specs.Prelude.{ℕ, zero, suc, Bool, true, false, not, max, List, [], length, filter, map, find, slice_get, Option, Some, None, Ok, refl, ◌+◌, ◌≤◌, ◌<◌, ◌≡◌, ◌≢◌, ◌==◌, ◌&&◌, ◌∷◌, ◌++◌, if◌then◌else◌}
use Rattle.std.specs.List.{AllByRecursion}
use Rattle.std.proofs.Common.{sym, ap, ◌∙◌, arith}
use Rattle.std.proofs.lemmas.Bool.{eq-eqb, eqb-true, false≢true}
use Rattle.std.proofs.lemmas.Bool.Decides.{nat_tests}
use Rattle.std.proofs.lemmas.List.{length-append, length-map}
use Rattle.std.proofs.lemmas.List.Elements.{filter-append}
use Rattle.addr_core.specs.PairValue.{PairValue}
use Rattle.plan_types.specs.declared.plan.Frontend.{Frontend}
use Rattle.plan_types.specs.declared.plan.Plan.{Plan}
use Rattle.conn_model.specs.declared.event.ConnId.{ConnId}
use Rattle.conn_model.specs.declared.event.OwnedEvent.{OwnedEvent}
use Rattle.conn_model.specs.declared.event.OwnedEvent.TheVariants.{Accept, Piece, Connected, ConnectFailed, Close, Expire, Reload, Mark}
use Rattle.conn_model.specs.declared.plain.FrontendRows.{FrontendRows}
use Rattle.conn_model.specs.declared.plain.Plain.{Plain}
use Rattle.conn_model.specs.declared.plain.Row.{Row}
use Rattle.conn_model.specs.declared.reply.Reply.{Reply}
use Rattle.conn_model.specs.declared.reply.Said.{Said}
use Rattle.conn_model.specs.declared.reply.Said.TheVariants.{Wait, Offer, Up}
use Rattle.conn_model.specs.Answer.{answer_in, row_at, row_in}
use Rattle.conn_model.specs.Counts.{total, open_connections}
use Rattle.conn_model.specs.History.{after, arrival, entry, frontend_after, has_ended, id_of, is_last, leaves_open, newest_number, opening, row_after, speaks_to, Entry, IsFrontendWell, IsWell}
use Rattle.conn_model.specs.Words.{map_from, Rise}
use Rattle.conn_model.proofs.Lists.{all-at, all-more}
use Rattle.conn_model.proofs.Replies.{answered, IsNew, IsOld}
use Rattle.book_core.specs.Open.{connections_ended, connections_opened}

-- Rows of which some go.

keeps_all : (test : Row → Bool) (rows : List Row) → AllByRecursion (λ row. test row ≡ true) rows → length (filter test rows) ≡ length rows
keeps_all test [] all = refl
keeps_all test (row ∷ rows) all = rw all.0 (omega (arith, keeps_all test rows all.1))

-- the row of that serial goes, and no other
one_goes : (serial : ℕ) (test : Row → Bool) → ((row : Row) → test row ≡ not (row.serial == serial)) → (rows : List Row) (row : Row) → Rise (λ row. row.serial) rows →
    find (λ row. row.serial == serial) rows ≡ Some row → length (filter test rows) + 1 ≡ length rows
one_goes serial test is [] row rise there = absurd (let wrong : None ≡ Some row = there in cc)
one_goes serial test is (x ∷ rows) row rise there = by (x.serial == serial) refl (one_goes serial test is rows row rise.1)
  where
    by : (b : Bool) → (x.serial == serial) ≡ b → (find (λ row. row.serial == serial) rows ≡ Some row → length (filter test rows) + 1 ≡ length rows) →
        length (filter test (x ∷ rows)) + 1 ≡ length (x ∷ rows)
    by true e rest =
        let goes : test x ≡ false = rw (is x, e) refl in
        let same : x.serial ≡ serial = eqb-true x.serial serial e in
        let later : length (filter test rows) ≡ length rows =
        keeps_all test rows (all-more (λ y. x.serial < y.serial) (λ y. test y ≡ true) rows
        (λ y less. let other : (y.serial == serial) ≡ false = grind (arith, nat_tests, less, same) in rw (is y, other) refl) rise.0) in
        rw goes (omega (arith, later))
    by false e rest =
        let stays : test x ≡ true = rw (is x, e) refl in
        rw stays (omega (arith, rest (rw e at there)))

-- One frontend.

and_false : (a : Bool) → (a && false) ≡ false
and_false true = refl
and_false false = refl

same_number : (n : ℕ) → (n == n) ≡ true
same_number n = eq-eqb n n refl

abbrev stays : ℕ → Entry → Row → Bool
stays number e row = not (has_ended number (e ∷ []) row.serial)

abbrev comes : Plain → ℕ → Entry → List Row
comes p number e = arrival number (max p.clock e.moment) (newest_number p) e.event e.reply.said

-- its rows are those that stay of the old ones and of the one that comes
rows_after : (p : Plain) (e : Entry) (number : ℕ) (own : FrontendRows) →
    length (frontend_after p (e ∷ []) number own).rows ≡ length (filter (stays number e) own.rows) + length (filter (stays number e) (comes p number e))
rows_after p e number own =
    length-map (filter (stays number e) (own.rows ++ comes p number e)) (row_after p number (e ∷ []))
    ∙ ap length (filter-append (stays number e) own.rows (comes p number e))
    ∙ length-append (filter (stays number e) own.rows) (filter (stays number e) (comes p number e))

-- a row to which the reply does not speak stays
unspoken_stays : (number : ℕ) (e : Entry) (row : Row) → speaks_to number row.serial e.reply.said ≡ false → stays number e row ≡ true
unspoken_stays number e row free = rw (free, and_false _) refl

none_comes : (p : Plain) (number : ℕ) (e : Entry) (id : ConnId) → id_of e.reply.said ≡ Some id → number ≢ id.frontend → comes p number e ≡ []
none_comes p number e id whom differs = by e.event
  where
    by : (event : OwnedEvent) → arrival number (max p.clock e.moment) (newest_number p) event e.reply.said ≡ []
    by (Accept listener real) = let other : (id.frontend == number) ≡ false = grind (arith, nat_tests, differs) in rw (whom, other, and_false _) refl
    by (Piece other bytes) = refl
    by (Connected other) = refl
    by (ConnectFailed other) = refl
    by (Close other why) = refl
    by (Expire other) = refl
    by (Reload text) = refl
    by (Mark backend n health) = refl

elsewhere : (p : Plain) (number : ℕ) (e : Entry) (id : ConnId) (own : FrontendRows) → id_of e.reply.said ≡ Some id → number ≢ id.frontend →
    length (frontend_after p (e ∷ []) number own).rows ≡ length own.rows
elsewhere p number e id own whom differs =
    let other : (id.frontend == number) ≡ false = grind (arith, nat_tests, differs) in
    let free : (row : Row) → speaks_to number row.serial e.reply.said ≡ false = λ row. rw (whom, other) refl in
    let left : length (filter (stays number e) own.rows) ≡ length own.rows = keeps_all (stays number e) own.rows (each own.rows free) in
    let none : length (filter (stays number e) (comes p number e)) ≡ 0 = ap (λ rows. length (filter (stays number e) rows)) (none_comes p number e id whom differs) in
    omega (arith, rows_after p e number own, left, none)
  where
    each : (rows : List Row) → ((row : Row) → speaks_to number row.serial e.reply.said ≡ false) → AllByRecursion (λ row. stays number e row ≡ true) rows
    each [] free = tt
    each (row ∷ rows) free = (unspoken_stays number e row (free row), each rows free)

-- a reply that leaves a connection open is no last one
not_last : (said : Said) → leaves_open said ≡ true → is_last said ≡ false
not_last (Wait id used) is = refl
not_last (Offer id used line server to judged send) is = refl
not_last (Up id) is = refl
not_last said is = absurd (false≢true is)

accept_here : (p : Plain) (moment listener : ℕ) (real : PairValue) (reply : Reply) (id : ConnId) (own : FrontendRows) → IsFrontendWell p.versions own → id_of reply.said ≡ Some id → id.serial ≡ own.serial + 1 →
    length (frontend_after p (entry moment (Accept listener real) reply ∷ []) id.frontend own).rows + 0 ≡ length own.rows + (if leaves_open reply.said then 1 else 0)
accept_here p moment listener real reply id own well whom next =
    let e : Entry = entry moment (Accept listener real) reply in
    let left : length (filter (stays id.frontend e) own.rows) ≡ length own.rows =
    keeps_all (stays id.frontend e) own.rows (all-more (λ row. row.serial ≤ own.serial) (λ row. stays id.frontend e row ≡ true) own.rows
    (λ row le. unspoken_stays id.frontend e row (let other : (id.serial == row.serial) ≡ false = grind (arith, nat_tests, next, le) in rw (whom, other, and_false _) refl)) well.given) in
    omega (arith, rows_after p e id.frontend own, left, by (leaves_open reply.said) refl)
  where
    by : (b : Bool) → leaves_open reply.said ≡ b →
        length (filter (stays id.frontend (entry moment (Accept listener real) reply)) (comes p id.frontend (entry moment (Accept listener real) reply))) ≡ (if leaves_open reply.said then 1 else 0)
    by true is = rw (whom, is, same_number id.frontend) (rw (not_last reply.said is) refl)
    by false is = rw (whom, is) refl

-- an event of a connection that is open
old_here : (p : Plain) (e : Entry) (id : ConnId) (own : FrontendRows) (row : Row) → IsFrontendWell p.versions own → id_of e.reply.said ≡ Some id → comes p id.frontend e ≡ [] →
    find (λ row. row.serial == id.serial) own.rows ≡ Some row →
    length (frontend_after p (e ∷ []) id.frontend own).rows + (if is_last e.reply.said then 1 else 0) ≡ length own.rows + 0
old_here p e id own row well whom nothing there =
    let none : length (filter (stays id.frontend e) (comes p id.frontend e)) ≡ 0 = ap (λ rows. length (filter (stays id.frontend e) rows)) nothing in
    omega (arith, rows_after p e id.frontend own, none, by (is_last e.reply.said) refl)
  where
    goes : is_last e.reply.said ≡ true → (row : Row) → stays id.frontend e row ≡ not (row.serial == id.serial)
    goes last row = rw (whom, last) (let on : (id.frontend == id.frontend) ≡ true = same_number id.frontend in grind (arith, nat_tests, on))

    each : is_last e.reply.said ≡ false → (rows : List Row) → AllByRecursion (λ row. stays id.frontend e row ≡ true) rows
    each open' [] = tt
    each open' (row ∷ rows) = (rw open' refl, each open' rows)

    by : (b : Bool) → is_last e.reply.said ≡ b → length (filter (stays id.frontend e) own.rows) + (if is_last e.reply.said then 1 else 0) ≡ length own.rows
    by true last = rw last (one_goes id.serial (stays id.frontend e) (goes last) own.rows row well.rise there)
    by false open' = rw open' (omega (arith, keeps_all (stays id.frontend e) own.rows (each open' own.rows)))

-- All frontends.

-- where the rows of one frontend change
one_changes : (change : ℕ → FrontendRows → FrontendRows) (came gone start at : ℕ) (owns : List FrontendRows) (own : FrontendRows) → slice_get owns at ≡ Some own →
    length (change (start + at) own).rows + gone ≡ length own.rows + came →
    ((n : ℕ) (o : FrontendRows) → n ≢ start + at → length (change n o).rows ≡ length o.rows) →
    total (λ own. length own.rows) (map_from change start owns) + gone ≡ total (λ own. length own.rows) owns + came
one_changes change came gone start at [] own there here others = absurd (let wrong : None ≡ Some own = there in cc)
one_changes change came gone start zero (o ∷ owns) own there here others =
    let same : o ≡ own = let it : Some o ≡ Some own = there in cc in
    let place : start + 0 ≡ start = omega arith in
    let first : length (change start o).rows + gone ≡ length o.rows + came = rw same (rw place at here) in
    omega (arith, first, none_changes (start + 1) owns (λ n le o. others n o (omega (arith, le))))
  where
    none_changes : (from : ℕ) (owns : List FrontendRows) → ((n : ℕ) → from ≤ n → (o : FrontendRows) → length (change n o).rows ≡ length o.rows) →
        total (λ own. length own.rows) (map_from change from owns) ≡ total (λ own. length own.rows) owns
    none_changes from [] same = refl
    none_changes from (o ∷ owns) same = omega (arith, same from (omega arith) o, none_changes (from + 1) owns (λ n le. same n (omega (arith, le))))
one_changes change came gone start (suc at) (o ∷ owns) own there here others =
    let place : start + suc at ≡ (start + 1) + at = omega arith in
    let rest = one_changes change came gone (start + 1) at owns own there (rw place at here) (λ n o differs. others n o (λ is. differs (is ∙ place))) in
    omega (arith, others start o (omega arith), rest)

-- the frontend of a connection that is open
frontend_of : (frontends : List FrontendRows) (id : ConnId) (row : Row) → row_at frontends id ≡ Some row →
    (own : FrontendRows) × (slice_get frontends id.frontend ≡ Some own) × (find (λ row. row.serial == id.serial) own.rows ≡ Some row)
frontend_of frontends id row is = by (slice_get frontends id.frontend) refl
  where
    by : (o : Option FrontendRows) → slice_get frontends id.frontend ≡ o →
        (own : FrontendRows) × (slice_get frontends id.frontend ≡ Some own) × (find (λ row. row.serial == id.serial) own.rows ≡ Some row)
    by None none = absurd (let wrong : None ≡ Some row = ap (row_in id.serial) (sym none) ∙ is in cc)
    by (Some own) there = (own, there, ap (row_in id.serial) (sym there) ∙ is)

well_at : (p : Plain) → IsWell p → (number : ℕ) (own : FrontendRows) → slice_get p.frontends number ≡ Some own → IsFrontendWell p.versions own
well_at p well number own there = all-at (IsFrontendWell p.versions) p.frontends number own well.frontends there

new_answer : (p : Plain) → IsWell p → (moment listener : ℕ) (real : PairValue) (reply : Reply) → IsNew p reply.said →
    open_connections (after p (entry moment (Accept listener real) reply ∷ [])) + 0 ≡ open_connections p + (if leaves_open reply.said then 1 else 0)
new_answer p well moment listener real reply said =
    let e : Entry = entry moment (Accept listener real) reply in
    let zero_plus : 0 + said.id.frontend ≡ said.id.frontend = omega arith in
    one_changes (frontend_after p (e ∷ [])) (if leaves_open reply.said then 1 else 0) 0 0 said.id.frontend p.frontends said.own said.there
    (rw zero_plus (accept_here p moment listener real reply said.id said.own (well_at p well said.id.frontend said.own said.there) said.speaks said.next))
    (λ n o differs. elsewhere p n e said.id o said.speaks (λ is. differs (is ∙ sym zero_plus)))

old_answer : (p : Plain) → IsWell p → (e : Entry) (id : ConnId) → ((number : ℕ) → comes p number e ≡ []) → IsOld p id e.reply.said →
    open_connections (after p (e ∷ [])) + (if is_last e.reply.said then 1 else 0) ≡ open_connections p + 0
old_answer p well e id nothing said =
    let found = frontend_of p.frontends id said.row said.there in
    let zero_plus : 0 + id.frontend ≡ id.frontend = omega arith in
    one_changes (frontend_after p (e ∷ [])) 0 (if is_last e.reply.said then 1 else 0) 0 id.frontend p.frontends found.0 found.1
    (rw zero_plus (old_here p e id found.0 said.row (well_at p well id.frontend found.0 found.1) said.speaks (nothing id.frontend) found.2))
    (λ n o differs. elsewhere p n e id o said.speaks (λ is. differs (is ∙ sym zero_plus)))

-- what names no connection leaves the open ones as they are
unnamed_here : (p : Plain) (e : Entry) (number : ℕ) (own : FrontendRows) → id_of e.reply.said ≡ None → comes p number e ≡ [] → length (frontend_after p (e ∷ []) number own).rows ≡ length own.rows
unnamed_here p e number own none nothing =
    let free : (row : Row) → speaks_to number row.serial e.reply.said ≡ false = λ row. rw none refl in
    let left : length (filter (stays number e) own.rows) ≡ length own.rows = keeps_all (stays number e) own.rows (each own.rows free) in
    let new : length (filter (stays number e) (comes p number e)) ≡ 0 = ap (λ rows. length (filter (stays number e) rows)) nothing in
    omega (arith, rows_after p e number own, left, new)
  where
    each : (rows : List Row) → ((row : Row) → speaks_to number row.serial e.reply.said ≡ false) → AllByRecursion (λ row. stays number e row ≡ true) rows
    each [] free = tt
    each (row ∷ rows) free = (unspoken_stays number e row (free row), each rows free)

unnamed_answer : (p : Plain) (e : Entry) (start : ℕ) (owns : List FrontendRows) → id_of e.reply.said ≡ None → ((number : ℕ) → comes p number e ≡ []) →
    total (λ own. length own.rows) (map_from (frontend_after p (e ∷ [])) start owns) ≡ total (λ own. length own.rows) owns
unnamed_answer p e start [] none nothing = refl
unnamed_answer p e start (own ∷ owns) none nothing = omega (arith, unnamed_here p e start own none (nothing start), unnamed_answer p e (start + 1) owns none nothing)

pub open_after_answer : (p : Plain) → IsWell p → (moment : ℕ) (event : OwnedEvent) (reply : Reply) → answer_in p moment event ≡ Ok reply →
    open_connections (after p (entry moment event reply ∷ [])) + connections_ended event reply.said ≡ open_connections p + connections_opened event reply.said
open_after_answer p well moment (Accept listener real) reply is = new_answer p well moment listener real reply (answered p moment (Accept listener real) reply is)
open_after_answer p well moment (Piece id bytes) reply is = old_answer p well (entry moment (Piece id bytes) reply) id (λ number. refl) (answered p moment (Piece id bytes) reply is)
open_after_answer p well moment (Connected id) reply is = old_answer p well (entry moment (Connected id) reply) id (λ number. refl) (answered p moment (Connected id) reply is)
open_after_answer p well moment (ConnectFailed id) reply is = old_answer p well (entry moment (ConnectFailed id) reply) id (λ number. refl) (answered p moment (ConnectFailed id) reply is)
open_after_answer p well moment (Close id why) reply is = old_answer p well (entry moment (Close id why) reply) id (λ number. refl) (answered p moment (Close id why) reply is)
open_after_answer p well moment (Expire id) reply is = old_answer p well (entry moment (Expire id) reply) id (λ number. refl) (answered p moment (Expire id) reply is)
open_after_answer p well moment (Reload text) reply is =
    let said = answered p moment (Reload text) reply is in
    let none : id_of reply.said ≡ None = ap id_of said.says in
    omega (arith, unnamed_answer p (entry moment (Reload text) reply) 0 p.frontends none (λ number. refl))
open_after_answer p well moment (Mark backend n health) reply is =
    let said = answered p moment (Mark backend n health) reply is in
    let none : id_of reply.said ≡ None = ap id_of said.says in
    omega (arith, unnamed_answer p (entry moment (Mark backend n health) reply) 0 p.frontends none (λ number. refl))

-- Nothing is open at first.

none_in : (frontends : List Frontend) (last : ℕ) →
    total (λ (own : FrontendRows). length own.rows) (map (λ (frontend : Frontend). record { name = frontend.name; serial = last; rows = [] }) frontends) ≡ 0
none_in [] last = refl
none_in (frontend ∷ frontends) last = omega (arith, none_in frontends last)

pub none_open : (plan : Plan) (last : ℕ) → open_connections (opening plan last) ≡ 0
none_open plan last = none_in plan.frontends last
