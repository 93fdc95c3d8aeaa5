-- The serials of a frontend rise.
use Rattle.std.specs.Prelude.{ℕ, Bool, true, false, not, List, [], filter, slice_get, Option, Some, None, refl, ◌+◌, ◌≤◌, ◌<◌, ◌≡◌, ◌⊎◌, ◌==◌, ◌&&◌, ◌∷◌, ◌++◌, if◌then◌else◌}
use Rattle.std.specs.List.{AllByRecursion}
use Rattle.std.proofs.Common.{sym, ap, ◌∙◌, subst, arith, inl, inr, append_assoc, append-nil}
use Rattle.std.proofs.lemmas.Bool.{false≢true, eqb-true, eq-eqb}
use Rattle.conn_model.specs.declared.reply.Said.{Said}
use Rattle.conn_model.specs.declared.event.ConnId.{ConnId}
use Rattle.conn_model.specs.declared.event.OwnedEvent.{OwnedEvent}
use Rattle.conn_model.specs.declared.plain.Row.{Row}
use Rattle.conn_model.specs.declared.plain.FrontendRows.{FrontendRows}
use Rattle.conn_model.specs.declared.plain.Plain.{Plain}
use Rattle.addr_core.specs.PairValue.{PairValue}
use Rattle.conn_model.specs.declared.event.OwnedEvent.TheVariants.{Accept, Piece, Connected, ConnectFailed, Close, Expire, Reload, Mark}
use Rattle.conn_model.specs.Words.{is_conn, Rise}
use Rattle.conn_model.specs.Answer.{row_in, new_row}
use Rattle.conn_model.specs.History.{now_of, id_of, speaks_to, in_force, newest_number, leaves_open, arrival_of, arrival, arrivals, has_ended, is_accept_at, accepts, row_after, frontend_after, frontends_after, after, Entry, IsLegal, IsFrontendWell}
use Rattle.conn_model.proofs.Parts.{is_spoken_to}
use Rattle.conn_model.proofs.Lists.{or_true, and_true, all-append, all-more, all-filter, all-map, all-found, get-from_zero, rise-append}
use Rattle.conn_model.proofs.Replies.{IsNew, IsOld, IsReload, Says, answered, IsMark}
use Rattle.conn_model.specs.declared.event.Health.{Health}

-- Rows that an entry opens.

arrival_of-all : (P : Row → Type 0) (q : Plain) (number clock version : ℕ) (real : PairValue) (said : Said) (new : IsNew q said) →
    (new.id.frontend ≡ number → P (new_row new.id.serial version real clock)) → AllByRecursion P (arrival_of number clock version real said (id_of said))
arrival_of-all P q number clock version real said new each = rw new.speaks (by (leaves_open said) (new.id.frontend == number) refl)
  where
    by : (a b : Bool) → (new.id.frontend == number) ≡ b → AllByRecursion P (if a && b then new_row new.id.serial version real clock ∷ [] else [])
    by true true e = (each (eqb-true new.id.frontend number e), tt)
    by true false e = tt
    by false b e = tt

-- what holds of a new row in the frontend holds of what an entry opens there
pub arrival-all : (P : Row → Type 0) (q : Plain) (number clock version : ℕ) (event : OwnedEvent) (said : Said) → Says q event said →
    ((new : IsNew q said) (real : PairValue) → new.id.frontend ≡ number → is_accept_at number event said ≡ true → P (new_row new.id.serial version real clock)) →
    AllByRecursion P (arrival number clock version event said)
arrival-all P q number clock version (Accept listener real) said new each =
    arrival_of-all P q number clock version real said new (λ here. each new real here (rw (new.speaks, here) (same_number number)))
  where
    same_number : (n : ℕ) → (n == n) ≡ true
    same_number n = eq-eqb n n refl
arrival-all P q number clock version (Piece id bytes) said says each = tt
arrival-all P q number clock version (Connected id) said says each = tt
arrival-all P q number clock version (ConnectFailed id) said says each = tt
arrival-all P q number clock version (Close id why) said says each = tt
arrival-all P q number clock version (Expire id) said says each = tt
arrival-all P q number clock version (Reload text) said says each = tt
arrival-all P q number clock version (Mark backend n health) said says each = tt

-- an entry opens one row at most
pub arrival-one : (number clock version : ℕ) (event : OwnedEvent) (said : Said) →
    (arrival number clock version event said ≡ []) ⊎ ((id : ConnId) × (real : PairValue) × (arrival number clock version event said ≡ new_row id.serial version real clock ∷ []))
arrival-one number clock version (Accept listener real) said = by (id_of said)
  where
    one : (id : ConnId) (b : Bool) → ((if b then new_row id.serial version real clock ∷ [] else []) ≡ []) ⊎
        ((id' : ConnId) × (real' : PairValue) × ((if b then new_row id.serial version real clock ∷ [] else []) ≡ new_row id'.serial version real' clock ∷ []))
    one id true = inr (id, real, refl)
    one id false = inl refl

    by : (id : Option ConnId) → (arrival_of number clock version real said id ≡ []) ⊎
        ((id' : ConnId) × (real' : PairValue) × (arrival_of number clock version real said id ≡ new_row id'.serial version real' clock ∷ []))
    by None = inl refl
    by (Some id) = one id (leaves_open said && (id.frontend == number))
arrival-one number clock version (Piece id bytes) said = inl refl
arrival-one number clock version event said = inl refl

arrival-rise : (number clock version : ℕ) (event : OwnedEvent) (said : Said) → Rise (λ row. row.serial) (arrival number clock version event said)
arrival-rise number clock version event said = elim (arrival-one number clock version event said) [
  | inl none ↦ rw none tt
  | inr one ↦ rw one.2 (tt, tt)
]

-- What holds along a legal history, in one frontend.

pub record FrontendFacts (p : Plain) (h : List Entry) (number : ℕ) (own : FrontendRows) : Type 0 where
  -- the serials of all that were opened rise
  pub rise : Rise (λ row. row.serial) (own.rows ++ arrivals p number h)
  -- and were given out
  pub given : AllByRecursion (λ row. row.serial ≤ own.serial + accepts number h) (own.rows ++ arrivals p number h)
  -- and those of all that were spoken to
  pub past : (serial : ℕ) → is_spoken_to number h serial ≡ true → serial ≤ own.serial + accepts number h

-- the open rows
pub rows_given : (p : Plain) (h : List Entry) (number : ℕ) (own : FrontendRows) → FrontendFacts p h number own →
    AllByRecursion (λ row. row.serial ≤ own.serial + accepts number h) (frontend_after p h number own).rows
rows_given p h number own facts =
    let P : Row → Type 0 = λ row. row.serial ≤ own.serial + accepts number h in
    all-map P (row_after p number h) (filter (λ row. not (has_ended number h row.serial)) (own.rows ++ arrivals p number h))
    (all-filter P (λ row. not (has_ended number h row.serial)) (own.rows ++ arrivals p number h) facts.given)

-- a new connection of the frontend has the next serial
pub next_here : (p : Plain) (h : List Entry) (number : ℕ) (own : FrontendRows) (said : Said) → slice_get p.frontends number ≡ Some own →
    (new : IsNew (after p h) said) → new.id.frontend ≡ number → new.id.serial ≡ own.serial + accepts number h + 1
next_here p h number own said there new here =
    let mine : slice_get (frontends_after p h) number ≡ Some (frontend_after p h number own) = get-from_zero (frontend_after p h) p.frontends number own there in
    let other : slice_get (frontends_after p h) number ≡ Some new.own = rw here at new.there in
    let both : Some new.own ≡ Some (frontend_after p h number own) = sym other ∙ mine in
    let same : new.own ≡ frontend_after p h number own = cc in
    new.next ∙ ap (λ l. l.serial + 1) same

-- an open connection of the frontend has a serial that was given out
old_here : (p : Plain) (h : List Entry) (number : ℕ) (own : FrontendRows) (id : ConnId) (said : Said) → slice_get p.frontends number ≡ Some own → FrontendFacts p h number own →
    IsOld (after p h) id said → id.frontend ≡ number → id.serial ≤ own.serial + accepts number h
old_here p h number own id said there facts is_old here =
    let mine : slice_get (frontends_after p h) number ≡ Some (frontend_after p h number own) = get-from_zero (frontend_after p h) p.frontends number own there in
    let found : row_in id.serial (slice_get (frontends_after p h) number) ≡ Some is_old.row = subst (λ n. row_in id.serial (slice_get (frontends_after p h) n) ≡ Some is_old.row) here is_old.there in
    let found' : row_in id.serial (Some (frontend_after p h number own)) ≡ Some is_old.row = ap (row_in id.serial) (sym mine) ∙ found in
    let it : (is_old.row.serial ≤ own.serial + accepts number h) × ((is_old.row.serial == id.serial) ≡ true) =
    all-found (λ row. row.serial ≤ own.serial + accepts number h) (λ row. row.serial == id.serial) (frontend_after p h number own).rows is_old.row (rows_given p h number own facts) found' in
    let same : is_old.row.serial ≡ id.serial = eqb-true is_old.row.serial id.serial it.1 in
    omega (arith, it.0, same)

-- whom a reply speaks to
pub speaks_that : (number serial : ℕ) (said : Said) (id : ConnId) → id_of said ≡ Some id → speaks_to number serial said ≡ true → (id.frontend ≡ number) × (id.serial ≡ serial)
speaks_that number serial said id whom is =
    let it : is_conn number serial id ≡ true = rw whom at is in
    let both : ((id.frontend == number) ≡ true) × ((id.serial == serial) ≡ true) = and_true (id.frontend == number) (id.serial == serial) it in
    (eqb-true id.frontend number both.0, eqb-true id.serial serial both.1)

-- a reload speaks to no connection
pub reload-silent : (q : Plain) (text : List ℕ) (said : Said) (number serial : ℕ) → IsReload q text said → speaks_to number serial said ≡ true → ⊥
reload-silent q text said number serial reload is = false≢true (ap (speaks_to number serial) (sym reload.says) ∙ is)

-- nor does a report of a server
pub mark-silent : (q : Plain) (backend n : ℕ) (health : Health) (said : Said) (number serial : ℕ) → IsMark q backend n health said → speaks_to number serial said ≡ true → ⊥
mark-silent q backend n health said number serial mark is = false≢true (ap (speaks_to number serial) (sym mark.says) ∙ is)

abbrev here_now : ℕ → OwnedEvent → Said → ℕ
here_now number event said = if is_accept_at number event said then 1 else 0

accept_counts : (number : ℕ) (listener : ℕ) (real : PairValue) (said : Said) (id : ConnId) → id_of said ≡ Some id → id.frontend ≡ number →
    here_now number (Accept listener real) said ≡ 1
accept_counts number listener real said id whom here = rw (whom, here, eq-eqb number number refl) refl

old_now : (p : Plain) (h : List Entry) (id : ConnId) (said : Said) (number : ℕ) (own : FrontendRows) → slice_get p.frontends number ≡ Some own → FrontendFacts p h number own →
    IsOld (after p h) id said → (serial : ℕ) → speaks_to number serial said ≡ true → serial ≤ own.serial + (accepts number h + 0)
old_now p h id said number own there facts is_old serial is =
    let that : (id.frontend ≡ number) × (id.serial ≡ serial) = speaks_that number serial said id is_old.speaks is in
    let below : id.serial ≤ own.serial + accepts number h = old_here p h number own id said there facts is_old that.0 in
    omega (arith, below, that.1)

-- a reply speaks to a serial that was given out, with this entry counted
spoken_now : (p : Plain) (h : List Entry) (event : OwnedEvent) (said : Said) (number : ℕ) (own : FrontendRows) → slice_get p.frontends number ≡ Some own → FrontendFacts p h number own →
    Says (after p h) event said → (serial : ℕ) → speaks_to number serial said ≡ true → serial ≤ own.serial + (accepts number h + here_now number event said)
spoken_now p h (Accept listener real) said number own there facts new serial is =
    let that : (new.id.frontend ≡ number) × (new.id.serial ≡ serial) = speaks_that number serial said new.id new.speaks is in
    let next : new.id.serial ≡ own.serial + accepts number h + 1 = next_here p h number own said there new that.0 in
    let one : here_now number (Accept listener real) said ≡ 1 = accept_counts number listener real said new.id new.speaks that.0 in
    rw one (omega (arith, next, that.1))
spoken_now p h (Piece id bytes) said number own there facts says serial is = old_now p h id said number own there facts says serial is
spoken_now p h (Connected id) said number own there facts says serial is = old_now p h id said number own there facts says serial is
spoken_now p h (ConnectFailed id) said number own there facts says serial is = old_now p h id said number own there facts says serial is
spoken_now p h (Close id why) said number own there facts says serial is = old_now p h id said number own there facts says serial is
spoken_now p h (Expire id) said number own there facts says serial is = old_now p h id said number own there facts says serial is
spoken_now p h (Reload text) said number own there facts says serial is = absurd (reload-silent (after p h) text said number serial says is)
spoken_now p h (Mark backend n health) said number own there facts says serial is = absurd (mark-silent (after p h) backend n health said number serial says is)

facts_more : (p : Plain) (h : List Entry) (e : Entry) (number : ℕ) (own : FrontendRows) → slice_get p.frontends number ≡ Some own → FrontendFacts p h number own →
    Says (after p h) e.event e.reply.said → FrontendFacts p (e ∷ h) number own
facts_more p h e number own there facts says =
    let this : ℕ = here_now number e.event e.reply.said in
    let P : Row → Type 0 = λ row. row.serial ≤ own.serial + (accepts number h + this) in
    let old : AllByRecursion P (own.rows ++ arrivals p number h) =
    all-more (λ row. row.serial ≤ own.serial + accepts number h) P (own.rows ++ arrivals p number h) (λ row le. omega (arith, le)) facts.given in
    let those : List Row = arrival number (now_of p.clock (e ∷ h)) (in_force (newest_number p) h) e.event e.reply.said in
    let above : AllByRecursion (λ row. own.serial + accepts number h < row.serial) those =
    arrival-all (λ row. own.serial + accepts number h < row.serial) (after p h) number (now_of p.clock (e ∷ h)) (in_force (newest_number p) h) e.event e.reply.said says
    (λ new real here accepting. let next : new.id.serial ≡ own.serial + accepts number h + 1 = next_here p h number own e.reply.said there new here in omega (arith, next)) in
    let new' : AllByRecursion P those =
    arrival-all P (after p h) number (now_of p.clock (e ∷ h)) (in_force (newest_number p) h) e.event e.reply.said says
    (λ new real here accepting.
    let next : new.id.serial ≡ own.serial + accepts number h + 1 = next_here p h number own e.reply.said there new here in
    rw accepting (omega (arith, next))) in
    record {
      rise = subst (Rise (λ row. row.serial)) (append_assoc own.rows (arrivals p number h) those)
          (rise-append (λ row. row.serial) (own.serial + accepts number h) (own.rows ++ arrivals p number h) those facts.rise
          (arrival-rise number (now_of p.clock (e ∷ h)) (in_force (newest_number p) h) e.event e.reply.said) facts.given above);
      given = subst (AllByRecursion P) (append_assoc own.rows (arrivals p number h) those) (all-append P (own.rows ++ arrivals p number h) those old new');
      past = λ serial is. elim (or_true (speaks_to number serial e.reply.said) (is_spoken_to number h serial) is) [
        | inl now ↦ spoken_now p h e.event e.reply.said number own there facts says serial now
        | inr before ↦ let le : serial ≤ own.serial + accepts number h = facts.past serial before in omega (arith, le)
      ];
    }

-- where the frontend is well at the start
pub facts_of : (p : Plain) (h : List Entry) (number : ℕ) (own : FrontendRows) → slice_get p.frontends number ≡ Some own → IsFrontendWell p.versions own → IsLegal p h → FrontendFacts p h number own
facts_of p [] number own there well legal = record {
  rise = subst (Rise (λ row. row.serial)) (sym (append-nil own.rows)) well.rise;
  given = subst (AllByRecursion (λ row. row.serial ≤ own.serial + 0)) (sym (append-nil own.rows))
      (all-more (λ row. row.serial ≤ own.serial) (λ row. row.serial ≤ own.serial + 0) own.rows (λ row le. omega (arith, le)) well.given);
  past = λ serial is. absurd (false≢true is);
}
facts_of p (e ∷ h) number own there well legal =
    facts_more p h e number own there (facts_of p h number own there well legal.0) (answered (after p h) e.moment e.event e.reply legal.1)

-- What is opened later.

-- all that a legal history opens has a serial above the last one before
pub arrivals-later : (q : Plain) (g : List Entry) (number : ℕ) (own : FrontendRows) → slice_get q.frontends number ≡ Some own → IsLegal q g → AllByRecursion (λ row. own.serial < row.serial) (arrivals q number g)
arrivals-later q [] number own there legal = tt
arrivals-later q (e ∷ g) number own there legal =
    let P : Row → Type 0 = λ row. own.serial < row.serial in
    all-append P (arrivals q number g) (arrival number (now_of q.clock (e ∷ g)) (in_force (newest_number q) g) e.event e.reply.said)
    (arrivals-later q g number own there legal.0)
    (arrival-all P (after q g) number (now_of q.clock (e ∷ g)) (in_force (newest_number q) g) e.event e.reply.said (answered (after q g) e.moment e.event e.reply legal.1)
    (λ new real here accepting.
    let next : new.id.serial ≡ own.serial + accepts number g + 1 = next_here q g number own e.reply.said there new here in
    omega (arith, next)))

pub not_yet : (b : Bool) (serial given : ℕ) → (b ≡ true → serial ≤ given) → given < serial → b ≡ false
not_yet true serial given past above = absurd (let le : serial ≤ given = past refl in omega (arith, le, above))
not_yet false serial given past above = refl

-- no reply of a history speaks to what is opened after it
pub fresh : (p : Plain) (g h : List Entry) (number : ℕ) (own : FrontendRows) → slice_get p.frontends number ≡ Some own → IsFrontendWell p.versions own →
    IsLegal p h → IsLegal (after p h) g → AllByRecursion (λ row. is_spoken_to number h row.serial ≡ false) (arrivals (after p h) number g)
fresh p g h number own there well legal later =
    let facts : FrontendFacts p h number own = facts_of p h number own there well legal in
    all-more (λ row. own.serial + accepts number h < row.serial) (λ row. is_spoken_to number h row.serial ≡ false) (arrivals (after p h) number g)
    (λ row above. not_yet (is_spoken_to number h row.serial) row.serial (own.serial + accepts number h) (facts.past row.serial) above)
    (arrivals-later (after p h) g number (frontend_after p h number own) (get-from_zero (frontend_after p h) p.frontends number own there) later)
