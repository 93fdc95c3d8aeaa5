-- How the open connections of a server change with a reply.
use Rattle.std.specs.Prelude.{ℕ, Bool, true, false, not, List, [], length, map, max, filter, find, slice_get, slice_set, Option, Some, None, option_map, option_and_then, Ok, refl, ◌+◌, ◌≤◌, ◌<◌, ◌≡◌, ◌==◌, ◌∷◌, ◌++◌, if◌then◌else◌}
use Rattle.std.specs.List.{AllByRecursion}
use Rattle.std.proofs.Common.{sym, ap, ◌∙◌, subst, arith, ◌&&◌}
use Rattle.std.proofs.lemmas.Bool.{false≢true, eqb-true}
use Rattle.std.proofs.lemmas.Bool.Decides.{nat_tests}
use Rattle.std.proofs.lemmas.List.{length-append}
use Rattle.std.proofs.lemmas.List.Elements.{filter-append}
use Rattle.addr_core.specs.PairValue.{PairValue}
use Rattle.proxy_types.specs.declared.server.ServerIdentity.{ServerIdentity}
use Rattle.proxy_types.specs.ServerIdentity.{same_server}
use Rattle.plan_types.specs.declared.plan.Plan.{Plan}
use Rattle.plan_types.specs.declared.track.Track.{Track}
use Rattle.conn_model.specs.declared.event.ConnId.{ConnId}
use Rattle.conn_model.specs.declared.event.OwnedEvent.{OwnedEvent}
use Rattle.conn_model.specs.declared.event.OwnedEvent.TheVariants.{Accept, Piece, Connected, ConnectFailed, Close, Expire, Reload, Mark}
use Rattle.conn_model.specs.declared.reply.Reply.{Reply}
use Rattle.conn_model.specs.declared.reply.Said.{Said}
use Rattle.conn_model.specs.declared.reply.Said.TheVariants as saids
use Rattle.conn_model.specs.declared.reply.Said.TheVariants.{Wait, Offer, Refuse, Closed, Reloaded, Marked}
use Rattle.conn_model.specs.declared.plain.Phase.{Phase}
use Rattle.conn_model.specs.declared.plain.Phase.TheVariants.{Waiting, Offered, Up}
use Rattle.conn_model.specs.declared.plain.Row.{Row}
use Rattle.conn_model.specs.declared.plain.FrontendRows.{FrontendRows}
use Rattle.conn_model.specs.declared.plain.Plain.{Plain}
use Rattle.conn_model.specs.declared.plain.Version.{Version}
use Rattle.conn_model.specs.Words.{row_at, row_in, Rise}
use Rattle.conn_model.specs.Counts.{change_row, is_served_by, served_by, served_in, total}
use Rattle.conn_model.specs.Answer.{answer_in, at_moment, reply_of, version_at}
use Rattle.conn_model.specs.History.{after, by_counter, entry, id_of, identity_of, is_last, judging_version, newest_number, opening, phase_by, phase_on, phase_up, plan_of, served_less, served_more, version_for, Entry, IsLegal, IsWell, leaves_server}
use Rattle.conn_model.proofs.Replies.{answered, followed, Followed, IsNew, IsOld, IsReported, reported}
use Rattle.conn_model.proofs.Goes.{well_at, whole_in_parts}
use Rattle.conn_model.proofs.Well.{opening_well, well_after}
use Rattle.conn_model.proofs.Trackings.{row_unused}
use Rattle.conn_model.proofs.VersionSteps.{judging-new, judging-old}
use Rattle.conn_model.proofs.Totals.{total-set}
use Rattle.conn_model.proofs.Steps.{after-accept, after-change, after-end, after-reload, row_said, rows_left, IsOfOpen, after-mark}

-- Sums.

abbrev one_if : Bool → ℕ
one_if b = if b then 1 else 0

-- how many rows pass
abbrev passing : (Row → Bool) → List Row → ℕ
passing test rows = length (filter test rows)

passing-cons : (test : Row → Bool) (row : Row) (rows : List Row) → passing test (row ∷ rows) ≡ one_if (test row) + passing test rows
passing-cons test row rows = by (test row) refl
  where
    by : (b : Bool) → test row ≡ b → passing test (row ∷ rows) ≡ one_if (test row) + passing test rows
    by true e = rw e (omega arith)
    by false e = rw e (omega arith)

passing-append : (test : Row → Bool) (xs ys : List Row) → passing test (xs ++ ys) ≡ passing test xs + passing test ys
passing-append test xs ys = ap length (filter-append test xs ys) ∙ length-append (filter test xs) (filter test ys)

abbrev has : ℕ → Row → Bool
has serial row = row.serial == serial

-- where all serials are above one
none_gone : (serial : ℕ) (rows : List Row) → AllByRecursion (λ row. serial < row.serial) rows → filter (λ row. not (row.serial == serial)) rows ≡ rows
none_gone serial [] above = refl
none_gone serial (row ∷ rows) above =
    let less : serial < row.serial = above.0 in
    let other : (row.serial == serial) ≡ false = grind (arith, nat_tests, less) in
    rw other (ap (λ rs. row ∷ rs) (none_gone serial rows above.1))

none_changed : (serial : ℕ) (change : Row → Row) (rows : List Row) → AllByRecursion (λ row. serial < row.serial) rows → change_row serial change rows ≡ rows
none_changed serial change [] above = refl
none_changed serial change (row ∷ rows) above =
    let less : serial < row.serial = above.0 in
    let other : (row.serial == serial) ≡ false = grind (arith, nat_tests, less) in
    rw other (ap (λ rs. row ∷ rs) (none_changed serial change rows above.1))

-- the serials of those after a row are above its own
rest_above : (serial : ℕ) (row : Row) (rows : List Row) → (row.serial == serial) ≡ true → AllByRecursion (λ other. row.serial < other.serial) rows → AllByRecursion (λ other. serial < other.serial) rows
rest_above serial row rows e above = subst (λ n. AllByRecursion (λ other. n < other.serial) rows) (eqb-true row.serial serial e) above

gone : (test : Row → Bool) (serial : ℕ) (row : Row) (rows : List Row) → Rise (λ r. r.serial) rows → find (has serial) rows ≡ Some row →
    passing test rows ≡ passing test (filter (λ r. not (r.serial == serial)) rows) + one_if (test row)
gone test serial row [] rise found = absurd (let wrong : None ≡ Some row = found in cc)
gone test serial row (x ∷ rows) rise found = by (x.serial == serial) refl (gone test serial row rows rise.1)
  where
    by : (b : Bool) → (x.serial == serial) ≡ b → (find (has serial) rows ≡ Some row → passing test rows ≡ passing test (filter (λ r. not (r.serial == serial)) rows) + one_if (test row)) →
        passing test (x ∷ rows) ≡ passing test (filter (λ r. not (r.serial == serial)) (x ∷ rows)) + one_if (test row)
    by true e rest =
        let same : x ≡ row = let it : Some x ≡ Some row = rw e at found in cc in
        let left : filter (λ r. not (r.serial == serial)) rows ≡ rows = none_gone serial rows (rest_above serial x rows e rise.0) in
        let own : one_if (test x) ≡ one_if (test row) = ap (λ r. one_if (test r)) same in
        let count : passing test (filter (λ r. not (r.serial == serial)) rows) ≡ passing test rows = ap (passing test) left in
        let sum' : passing test (x ∷ rows) ≡ one_if (test x) + passing test rows = passing-cons test x rows in
        sum' ∙ rw e (omega (arith, own, count))
    by false e rest =
        let more : passing test rows ≡ passing test (filter (λ r. not (r.serial == serial)) rows) + one_if (test row) = rest (rw e at found) in
        let sum' : passing test (x ∷ rows) ≡ one_if (test x) + passing test rows = passing-cons test x rows in
        let that : passing test (x ∷ filter (λ r. not (r.serial == serial)) rows) ≡ one_if (test x) + passing test (filter (λ r. not (r.serial == serial)) rows) =
        passing-cons test x (filter (λ r. not (r.serial == serial)) rows) in
        sum' ∙ rw e (omega (arith, more, that))

changed : (test : Row → Bool) (serial : ℕ) (change : Row → Row) (row : Row) (rows : List Row) → Rise (λ r. r.serial) rows → find (has serial) rows ≡ Some row →
    passing test (change_row serial change rows) + one_if (test row) ≡ passing test rows + one_if (test (change row))
changed test serial change row [] rise found = absurd (let wrong : None ≡ Some row = found in cc)
changed test serial change row (x ∷ rows) rise found = by (x.serial == serial) refl (changed test serial change row rows rise.1)
  where
    by : (b : Bool) → (x.serial == serial) ≡ b →
        (find (has serial) rows ≡ Some row → passing test (change_row serial change rows) + one_if (test row) ≡ passing test rows + one_if (test (change row))) →
        passing test (change_row serial change (x ∷ rows)) + one_if (test row) ≡ passing test (x ∷ rows) + one_if (test (change row))
    by true e rest =
        let same : x ≡ row = let it : Some x ≡ Some row = rw e at found in cc in
        let left : change_row serial change rows ≡ rows = none_changed serial change rows (rest_above serial x rows e rise.0) in
        let own : one_if (test x) ≡ one_if (test row) = ap (λ r. one_if (test r)) same in
        let new' : one_if (test (change x)) ≡ one_if (test (change row)) = ap (λ r. one_if (test (change r))) same in
        let count : passing test (change_row serial change rows) ≡ passing test rows = ap (passing test) left in
        let sum' : passing test (x ∷ rows) ≡ one_if (test x) + passing test rows = passing-cons test x rows in
        let that : passing test (change x ∷ change_row serial change rows) ≡ one_if (test (change x)) + passing test (change_row serial change rows) = passing-cons test (change x) (change_row serial change rows) in
        rw e (omega (arith, own, new', count, sum', that))
    by false e rest =
        let more : passing test (change_row serial change rows) + one_if (test row) ≡ passing test rows + one_if (test (change row)) = rest (rw e at found) in
        let sum' : passing test (x ∷ rows) ≡ one_if (test x) + passing test rows = passing-cons test x rows in
        let that : passing test (x ∷ change_row serial change rows) ≡ one_if (test x) + passing test (change_row serial change rows) = passing-cons test x (change_row serial change rows) in
        rw e (omega (arith, more, sum', that))

-- The plan of a version.

plan_is : (p : Plain) (n : ℕ) → plan_of p [] n ≡ option_map (λ version. version.plan) (version_at p.versions n)
plan_is p n = by p.versions
  where
    by : (versions : List Version) → option_map (λ (pair : ℕ × Plan). pair.1) (find {X = ℕ × Plan} (λ pair. pair.0 == n) (map (λ version. (version.number, version.plan)) versions))
        ≡ option_map (λ version. version.plan) (version_at versions n)
    by [] = refl
    by (v ∷ versions) = one (v.number == n) refl (by versions)
      where
        one : (b : Bool) → (v.number == n) ≡ b →
            option_map (λ (pair : ℕ × Plan). pair.1) (find {X = ℕ × Plan} (λ pair. pair.0 == n) (map (λ version. (version.number, version.plan)) versions)) ≡ option_map (λ version. version.plan) (version_at versions n) →
            option_map (λ (pair : ℕ × Plan). pair.1) (find {X = ℕ × Plan} (λ pair. pair.0 == n) (map (λ version. (version.number, version.plan)) (v ∷ versions))) ≡ option_map (λ version. version.plan) (version_at (v ∷ versions) n)
        one true is rest = rw is refl
        one false is rest = rw is rest

-- by the plan of the version that judges
judged_plan : (q : Plain) (said : Said) (n : ℕ) → judging_version q.frontends (newest_number q) said ≡ n → plan_of q [] n ≡ option_map (λ version. version.plan) (version_for q said)
judged_plan q said n judges = plan_is q n ∙ ap (λ m. option_map (λ version. version.plan) (version_at q.versions m)) (sym judges)

-- An accept.

-- the row that an accept leaves
left-counts : (q : Plain) (server : ServerIdentity) (clock : ℕ) (real : PairValue) (tracks : List Track) (said : Said) → judging_version q.frontends (newest_number q) said ≡ newest_number q →
    option_and_then (row_at q.frontends) (id_of said) ≡ None → passing (λ row. is_served_by server row.phase) (rows_left q clock real tracks said) + served_less q said server ≡ served_more q said server
left-counts q server clock real tracks (Offer id used line n to judged send) judges none =
    let said : Said = Offer id used line n to judged send in
    let plan : plan_of q [] (newest_number q) ≡ option_map (λ version. version.plan) (version_for q said) = judged_plan q said (newest_number q) judges in
    let row : Row = record {
      serial = id.serial;
      version = newest_number q;
      real = real;
      accepted = clock;
      phase = Offered (record { server = identity_of (plan_of q [] (newest_number q)) line n to; line = line; judged = judged; failed = [] });
      tracks = by_counter tracks;
    } in
    let count : passing (λ row. is_served_by server row.phase) (rows_left q clock real tracks said) ≡ one_if (same_server server (identity_of (plan_of q [] (newest_number q)) line n to)) + 0 =
    passing-cons (λ row. is_served_by server row.phase) row [] in
    let less : served_less q said server ≡ 0 = rw none refl in
    omega (arith, count, less) ∙ ap (λ p. one_if (same_server server (identity_of p line n to))) plan
left-counts q server clock real tracks (Refuse id used cause) judges none = rw none refl
left-counts q server clock real tracks (Closed id why) judges none = rw none refl
left-counts q server clock real tracks said judges none = refl

accept_counts : (q : Plain) → IsWell q → (moment listener : ℕ) (real : PairValue) (reply : Reply) → IsNew q reply.said → (server : ServerIdentity) →
    served_by (after q (entry moment (Accept listener real) reply ∷ [])).frontends server + served_less q reply.said server ≡ served_by q.frontends server + served_more q reply.said server
accept_counts q well moment listener real reply new server =
    let given : AllByRecursion (λ row. row.serial ≤ new.own.serial) new.own.rows = (well_at q well new.id.frontend new.own new.there).given in
    let left : List Row = rows_left q (max q.clock moment) real reply.tracks.items reply.said in
    let own' : FrontendRows = record new.own { serial = new.own.serial + 1; rows = new.own.rows ++ left } in
    let state : (after q (entry moment (Accept listener real) reply ∷ [])).frontends ≡ slice_set q.frontends new.id.frontend own' =
    ap (λ s. s.frontends) (after-accept q well moment listener real reply new.id new.own new.there new.speaks new.next) in
    let counts : total (served_in server) (slice_set q.frontends new.id.frontend own') + served_in server new.own ≡ total (served_in server) q.frontends + served_in server own' =
    total-set (served_in server) q.frontends new.id.frontend new.own own' new.there in
    let rows : served_in server own' ≡ served_in server new.own + passing (λ row. is_served_by server row.phase) left = passing-append (λ row. is_served_by server row.phase) new.own.rows left in
    let none : option_and_then (row_at q.frontends) (id_of reply.said) ≡ None =
    ap (λ o. option_and_then (row_at q.frontends) o) new.speaks ∙ row_unused q.frontends new.id new.own new.there given new.next in
    let judges : judging_version q.frontends (newest_number q) reply.said ≡ newest_number q = judging-new q.frontends (newest_number q) reply.said new.id new.own new.speaks new.there given new.next in
    let more : passing (λ row. is_served_by server row.phase) left + served_less q reply.said server ≡ served_more q reply.said server =
    left-counts q server (max q.clock moment) real reply.tracks.items reply.said judges none in
    ap (λ fs. served_by fs server + served_less q reply.said server) state ∙ omega (arith, counts, rows, more)

-- A connection that is open.

-- its frontend is there, and it is found in it
record IsFound (frontends : List FrontendRows) (id : ConnId) (row : Row) : Type 0 where
  pub own : FrontendRows
  pub there : slice_get frontends id.frontend ≡ Some own
  pub found : find (has id.serial) own.rows ≡ Some row

found_row : (frontends : List FrontendRows) (id : ConnId) (row : Row) → row_at frontends id ≡ Some row → IsFound frontends id row
found_row frontends id row is = by (slice_get frontends id.frontend) refl
  where
    by : (o : Option FrontendRows) → slice_get frontends id.frontend ≡ o → IsFound frontends id row
    by None none = absurd (let wrong : None ≡ Some row = ap (row_in id.serial) (sym none) ∙ is in cc)
    by (Some own) there = record { own = own; there = there; found = ap (row_in id.serial) (sym there) ∙ is }

on-served : (server : ServerIdentity) (piece : List ℕ) (phase : Phase) → is_served_by server (phase_on piece phase) ≡ is_served_by server phase
on-served server piece (Waiting rest) = refl
on-served server piece (Offered assignment) = refl
on-served server piece (Up assignment) = refl

up-served : (server : ServerIdentity) (phase : Phase) → is_served_by server (phase_up phase) ≡ is_served_by server phase
up-served server (Waiting rest) = refl
up-served server (Offered assignment) = refl
up-served server (Up assignment) = refl

plus_zero : (a b : Bool) → a ≡ b → one_if a + 0 ≡ one_if b + 0
plus_zero a b same = ap (λ c. one_if c + 0) same

-- what a reply that leaves the connection open makes of it
phase_counts : (q : Plain) (event : OwnedEvent) (said : Said) (row : Row) (server : ServerIdentity) → judging_version q.frontends (newest_number q) said ≡ row.version → is_last said ≡ false →
    one_if (is_served_by server (phase_by (plan_of q [] row.version) event said row.phase)) + one_if (leaves_server said && is_served_by server row.phase)
    ≡ one_if (is_served_by server row.phase) + served_more q said server
phase_counts q event (Wait id used) row server judges last = plus_zero _ _ (on-served server _ row.phase)
phase_counts q event (Offer id used line n to judged send) row server judges last =
    let said : Said = Offer id used line n to judged send in
    let plan : plan_of q [] row.version ≡ option_map (λ version. version.plan) (version_for q said) = judged_plan q said row.version judges in
    let now : one_if (same_server server (identity_of (plan_of q [] row.version) line n to)) ≡ served_more q said server = ap (λ p. one_if (same_server server (identity_of p line n to))) plan in
    omega (arith, now)
phase_counts q event (Refuse id used cause) row server judges last = absurd (false≢true (sym last))
phase_counts q event (saids.Up id) row server judges last = plus_zero _ _ (up-served server row.phase)
phase_counts q event (Closed id why) row server judges last = absurd (false≢true (sym last))
phase_counts q event (Reloaded version) row server judges last = refl
phase_counts q event (Marked line health) row server judges last = refl

last_leaves : (said : Said) → is_last said ≡ true → leaves_server said ≡ true
last_leaves (Offer id used line n to judged send) last = refl
last_leaves (Refuse id used cause) last = refl
last_leaves (Closed id why) last = refl
last_leaves said last = absurd (false≢true last)

last_more : (q : Plain) (said : Said) (server : ServerIdentity) → is_last said ≡ true → served_more q said server ≡ 0
last_more q (Offer id used line n to judged send) server last = absurd (false≢true last)
last_more q said server last = refl

open_counts : (q : Plain) → IsWell q → (moment : ℕ) (event : OwnedEvent) (reply : Reply) (id : ConnId) → IsOfOpen event → answer_in q moment event ≡ Ok reply → IsOld q id reply.said → (server : ServerIdentity) →
    served_by (after q (entry moment event reply ∷ [])).frontends server + served_less q reply.said server ≡ served_by q.frontends server + served_more q reply.said server
open_counts q well moment event reply id old answer is server = by (is_last reply.said) refl
  where
    at : IsFound q.frontends id is.row
    at = found_row q.frontends id is.row is.there

    test : Row → Bool
    test = λ row. is_served_by server row.phase

    rise : Rise (λ r. r.serial) at.own.rows
    rise = (well_at q well id.frontend at.own at.there).rise

    here : option_and_then (row_at q.frontends) (id_of reply.said) ≡ Some is.row
    here = ap (λ o. option_and_then (row_at q.frontends) o) is.speaks ∙ is.there

    state : (own' : FrontendRows) → (after q (entry moment event reply ∷ [])).frontends ≡ slice_set q.frontends id.frontend own' →
        served_by (after q (entry moment event reply ∷ [])).frontends server + served_in server at.own ≡ served_by q.frontends server + served_in server own'
    state own' same =
        ap (λ fs. served_by fs server + served_in server at.own) same ∙ total-set (served_in server) q.frontends id.frontend at.own own' at.there

    by : (b : Bool) → is_last reply.said ≡ b →
        served_by (after q (entry moment event reply ∷ [])).frontends server + served_less q reply.said server ≡ served_by q.frontends server + served_more q reply.said server
    by true last =
        let own' : FrontendRows = record at.own { rows = filter (λ r. not (r.serial == id.serial)) at.own.rows } in
        let counts = state own' (ap (λ s. s.frontends) (after-end q well (entry moment event reply) id at.own at.there old is.speaks last)) in
        let rows : served_in server at.own ≡ served_in server own' + one_if (test is.row) = gone test id.serial is.row at.own.rows rise at.found in
        let less : served_less q reply.said server ≡ one_if (test is.row) = rw (last_leaves reply.said last, here) refl in
        let more : served_more q reply.said server ≡ 0 = last_more q reply.said server last in
        omega (arith, counts, rows, less, more)
    by false last =
        let change : Row → Row = row_said q event reply in
        let own' : FrontendRows = record at.own { rows = change_row id.serial change at.own.rows } in
        let counts = state own' (ap (λ s. s.frontends) (after-change q well (entry moment event reply) id at.own at.there old is.speaks last)) in
        let rows : served_in server own' + one_if (test is.row) ≡ served_in server at.own + one_if (test (change is.row)) = changed test id.serial change is.row at.own.rows rise at.found in
        let judges : judging_version q.frontends (newest_number q) reply.said ≡ is.row.version = judging-old q.frontends (newest_number q) reply.said id is.row is.speaks is.there in
        let more : one_if (test (change is.row)) + one_if (leaves_server reply.said && test is.row) ≡ one_if (test is.row) + served_more q reply.said server =
        phase_counts q event reply.said is.row server judges last in
        let less : served_less q reply.said server ≡ one_if (leaves_server reply.said && test is.row) = rw here refl in
        omega (arith, counts, rows, more, less)

-- A step, and a history.

step_counts : (q : Plain) → IsWell q → (moment : ℕ) (event : OwnedEvent) (reply : Reply) → answer_in q moment event ≡ Ok reply → (server : ServerIdentity) →
    served_by (after q (entry moment event reply ∷ [])).frontends server + served_less q reply.said server ≡ served_by q.frontends server + served_more q reply.said server
step_counts q well moment (Accept listener real) reply answer server = accept_counts q well moment listener real reply (answered q moment (Accept listener real) reply answer) server
step_counts q well moment (Piece id bytes) reply answer server = open_counts q well moment (Piece id bytes) reply id tt answer (answered q moment (Piece id bytes) reply answer) server
step_counts q well moment (Connected id) reply answer server = open_counts q well moment (Connected id) reply id tt answer (answered q moment (Connected id) reply answer) server
step_counts q well moment (ConnectFailed id) reply answer server = open_counts q well moment (ConnectFailed id) reply id tt answer (answered q moment (ConnectFailed id) reply answer) server
step_counts q well moment (Close id why) reply answer server = open_counts q well moment (Close id why) reply id tt answer (answered q moment (Close id why) reply answer) server
step_counts q well moment (Expire id) reply answer server = open_counts q well moment (Expire id) reply id tt answer (answered q moment (Expire id) reply answer) server
step_counts q well moment (Reload text) reply answer server =
    let got : Followed (at_moment moment q) text reply = followed (at_moment moment q) text reply answer in
    let number : ℕ = got.version.number + 1 in
    let frontends : (after q (entry moment (Reload text) (reply_of (Reloaded number)) ∷ [])).frontends ≡ q.frontends = ap (λ s. s.frontends) (after-reload q well moment number text got.plan got.meant) in
    subst (λ r. served_by (after q (entry moment (Reload text) r ∷ [])).frontends server + served_less q r.said server ≡ served_by q.frontends server + served_more q r.said server) got.reply_is
    (ap (λ fs. served_by fs server + 0) frontends)
step_counts q well moment (Mark backend n health) reply answer server =
    let got : IsReported (at_moment moment q) backend n health reply = reported (at_moment moment q) backend n health reply answer in
    let line : ℕ = got.found.1.line in
    let frontends : (after q (entry moment (Mark backend n health) (reply_of (Marked line health)) ∷ [])).frontends ≡ q.frontends = ap (λ s. s.frontends) (after-mark q well moment backend n line health) in
    subst (λ r. served_by (after q (entry moment (Mark backend n health) r ∷ [])).frontends server + served_less q r.said server ≡ served_by q.frontends server + served_more q r.said server) got.reply_is
    (ap (λ fs. served_by fs server + 0) frontends)

pub history_counts : (plan : Plan) (last : ℕ) (h : List Entry) (e : Entry) → IsLegal (opening plan last) (e ∷ h) → (server : ServerIdentity) →
    served_by (after (opening plan last) (e ∷ h)).frontends server + served_less (after (opening plan last) h) e.reply.said server
    ≡ served_by (after (opening plan last) h).frontends server + served_more (after (opening plan last) h) e.reply.said server
history_counts plan last h e legal server =
    let p : Plain = opening plan last in
    let well : IsWell p = opening_well plan last in
    let whole : after (after p h) (e ∷ []) ≡ after p (e ∷ h) = whole_in_parts p well (e ∷ []) h legal in
    ap (λ s. served_by s.frontends server + served_less (after p h) e.reply.said server) (sym whole)
    ∙ step_counts (after p h) (well_after p well h legal.0) e.moment e.event e.reply legal.1 server
