-- What a close is answered.
use Rattle.std.specs.Prelude.{ℕ, Bool, true, false, Ok, Err, refl, ◌≡◌, nat_lt}
use Rattle.std.proofs.Common.{sym, ap}
use Rattle.conn_model.specs.Answer.{answer_in, reply_of, row_at}
use Rattle.conn_model.specs.Words.{or_fault}
use Rattle.conn_model.specs.declared.event.ConnId.{ConnId}
use Rattle.conn_model.specs.declared.event.Why.{Why}
use Rattle.conn_model.specs.declared.event.OwnedEvent.{OwnedEvent}
use Rattle.conn_model.specs.declared.event.OwnedEvent.TheVariants as owned
use Rattle.conn_model.specs.declared.plain.Plain.{Plain}
use Rattle.conn_model.specs.declared.reply.Reply.{Reply}
use Rattle.conn_model.specs.declared.reply.Said.TheVariants.{Closed}
use Rattle.conn_model.specs.declared.reply.StepFault.TheVariants.{NoSuch, Exhausted}
use Rattle.conn_model.proofs.Replies.{bind-ok}
use Rattle.book_core.specs.Book.{book_answer, BookState, MOST_RECORDS}

closed_says : (p : Plain) (moment : ℕ) (id : ConnId) (why : Why) (reply : Reply) → answer_in p moment (owned.Close id why) ≡ Ok reply → reply.said ≡ Closed id why
closed_says p moment id why reply is =
    let one = bind-ok (or_fault NoSuch (row_at p.frontends id)) _ reply is in
    let same : reply_of (Closed id why) ≡ reply = let it : Ok (reply_of (Closed id why)) ≡ Ok reply = one.2 in cc in
    ap (λ (r : Reply). r.said) (sym same)

pub close_says : (b : BookState) (moment : ℕ) (id : ConnId) (why : Why) (reply : Reply) → book_answer b moment (owned.Close id why) ≡ Ok reply → reply.said ≡ Closed id why
close_says b moment id why reply is = by (nat_lt b.made MOST_RECORDS) refl
  where
    by : (test : Bool) → nat_lt b.made MOST_RECORDS ≡ test → reply.said ≡ Closed id why
    by true e = closed_says b.state moment id why reply (rw e at is)
    by false e = absurd (let wrong : Err Exhausted ≡ Ok reply = rw e at is in cc)

-- no record can be made
pub answer_exhausted : (b : BookState) (moment : ℕ) (event : OwnedEvent) → b.made ≡ MOST_RECORDS → book_answer b moment event ≡ Err Exhausted
answer_exhausted b moment event most = rw most refl
