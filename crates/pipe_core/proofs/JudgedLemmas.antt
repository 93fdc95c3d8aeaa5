-- What is known of a connection by what was said to it.
use Rattle.std.proofs.Common.{◌≡◌, ℕ, ◌+◌, ◌-◌, ◌≤◌, List, [], ◌∷◌, ◌++◌, length, take, drop, Option, Some, Result, Ok, ◌∙◌, sym, ap, subst, arith, append-nil}
use Rattle.std.proofs.Math.Path.{fun_ext}
use Rattle.std.proofs.lemmas.List.{drop-take, length-take-le}
use Rattle.std.specs.Io.KnownBytes.{Consumes, IsAtEnd, Keeps}
use Rattle.addr_core.specs.declared.addr.Endpoint.{Endpoint}
use Rattle.addr_core.specs.PairValue.{PairValue}
use Rattle.arrayvec.specs.ArrayVec.{ArrayVec}
use Rattle.conn_model.specs.declared.event.ConnId.{ConnId}
use Rattle.conn_model.specs.declared.event.OwnedEvent.TheVariants.{Accept, Piece}
use Rattle.conn_model.specs.declared.reply.Cause.{Cause}
use Rattle.conn_model.specs.declared.reply.Reply.{Reply}
use Rattle.conn_model.specs.declared.reply.Said.TheVariants as saids
use Rattle.conn_model.specs.declared.reply.StepFault.{StepFault}
use Rattle.conn_model.specs.declared.plain.Plain.{Plain}
use Rattle.conn_model.specs.Answer.{answer_in, at_moment, candidate_of, header_reply, reply_of}
use Rattle.plan_types.specs.declared.plan.Plan.{Plan}
use Rattle.conn_model.specs.History.{after, entry, opening, IsWell}
use Rattle.pipe_core.proofs.AcceptLemmas.{accepted_waits}
use Rattle.pipe_core.specs.Pipe.{end_by, end_of, output_of, passed_on, said_on, said_to}
use Rattle.pipe_core.specs.Judged.{IsReading, IsRefused, HasNoOffer, HasOffer}
use Rattle.pipe_core.specs.Stream.{ReadsAll}
use Rattle.pipe_core.specs.Waiting.{later, with_used, Holds, IsOffered, Waits}
use Rattle.pipe_core.specs.declared.end.PipeEnd.TheVariants as ends
use Rattle.pipe_core.proofs.PieceLemmas.{after_header, decided, later_none, status_nothing}
use Rattle.pipe_core.proofs.StateLemmas.{piece_said}
use Rattle.pipe_core.proofs.StreamLemmas.{consumes-both, consumes-nil, keeps-consumes, read_out}

-- A piece.

pub offers : (first : Plain) (id : ConnId) (q : Plain) (got piece : List ℕ) (reply : Reply) → Waits first id q got → answer_in q 0 (Piece id piece) ≡ Ok reply →
    (whom : ConnId) (used line server : ℕ) (to : Endpoint) (judged : PairValue) (send : ArrayVec ℕ) → reply.said ≡ saids.Offer whom used line server to judged send → used ≤ length piece →
    IsOffered (λ bytes. answer_in first 0 (Piece id bytes)) (got ++ piece) send.items (drop used piece)
offers first id q got piece reply waits is whom used line server to judged send said within more =
    let all = decided first id q got piece reply waits is (λ other count wrong. let e : saids.Offer whom used line server to judged send ≡ saids.Wait other count = sym said ∙ wrong in cc) more in
    let text = after_header got piece more used within in (
      ap (output_of ((got ++ piece) ++ more)) all ∙ ap (λ s. passed_on ((got ++ piece) ++ more) (with_used (length got) s)) said ∙ ap (λ t. send.items ++ t) text,
      ap (end_by ((got ++ piece) ++ more)) all ∙ ap (λ s. end_of ((got ++ piece) ++ more) (with_used (length got) s)) said ∙ ap (λ t. Some (ends.Offered (length (send.items ++ t)))) text,
    )

pub refuses : (first : Plain) (id : ConnId) (q : Plain) (got piece : List ℕ) (reply : Reply) → Waits first id q got → answer_in q 0 (Piece id piece) ≡ Ok reply →
    (whom : ConnId) (used : ℕ) (cause : Cause) → reply.said ≡ saids.Refuse whom used cause → IsRefused (λ bytes. answer_in first 0 (Piece id bytes)) (got ++ piece) cause
refuses first id q got piece reply waits is whom used cause said more =
    let all = decided first id q got piece reply waits is (λ other count wrong. let e : saids.Refuse whom used cause ≡ saids.Wait other count = sym said ∙ wrong in cc) more in (
      ap (output_of ((got ++ piece) ++ more)) all ∙ ap (λ s. passed_on ((got ++ piece) ++ more) (with_used (length got) s)) said,
      ap (end_by ((got ++ piece) ++ more)) all ∙ ap (λ s. end_of ((got ++ piece) ++ more) (with_used (length got) s)) said,
    )

-- A header.

pub reading_first : (first : Plain) (id : ConnId) (left : Option (List ℕ)) → Holds first id [] → IsReading first id first left left
reading_first first id left holds = record {
  got = [];
  read = consumes-nil left;
  waits = record { holds = holds; same = λ more. sym (later_none (answer_in first 0 (Piece id more))) };
}

-- what waits has no server yet
pub no_offer : (first : Plain) (id : ConnId) (q : Plain) (old mid new' : Option (List ℕ)) → IsReading first id q old mid → Keeps mid new' → HasNoOffer (λ bytes. answer_in first 0 (Piece id bytes)) old new'
no_offer first id q old mid new' reading kept = record {
  got = reading.got;
  read = keeps-consumes old mid new' reading.got reading.read kept;
  nothing = ap (output_of reading.got) said;
  waits = ap (end_by reading.got) said;
}
  where
    h : Holds q id reading.got
    h = reading.waits.holds

    said : answer_in first 0 (Piece id reading.got) ≡ Ok (reply_of (saids.Wait id (0 + length reading.got)))
    said =
        ap (λ bytes. answer_in first 0 (Piece id bytes)) (sym (append-nil reading.got))
        ∙ reading.waits.same []
        ∙ ap (later (length reading.got))
        (piece_said q id reading.got h [] ∙ ap (λ s. Ok (header_reply (candidate_of (at_moment 0 q) id h.version h.frontend) h.row.real 0 s)) (status_nothing reading.got h.rest h.is_rest))

pub unfinished : (first : Plain) (id : ConnId) (q : Plain) (old mid new' : Option (List ℕ)) → IsReading first id q old mid → IsAtEnd mid → Keeps mid new' →
    HasNoOffer (λ bytes. answer_in first 0 (Piece id bytes)) old new' × ReadsAll old new'
unfinished first id q old mid new' reading at_end kept = (no_offer first id q old mid new' reading kept, read_out old mid new' reading.got reading.read at_end kept)

-- An accept.

-- what is said to a connection that waits from its accept on
pub said_later : (p : Plain) (listener : ℕ) (real : PairValue) (reply : Reply) (id : ConnId) (count : ℕ) → answer_in p 0 (Accept listener real) ≡ Ok reply → reply.said ≡ saids.Wait id count →
    said_to p listener real ≡ (λ bytes. answer_in (after p (entry 0 (Accept listener real) reply ∷ [])) 0 (Piece id bytes))
said_later p listener real reply id count is said = fun_ext (λ bytes. rw is (ap (said_on p listener real bytes reply) said))

-- what is said to one that is judged at its accept
said_at_once : (p : Plain) (listener : ℕ) (real : PairValue) (reply : Reply) → answer_in p 0 (Accept listener real) ≡ Ok reply → ((bytes : List ℕ) → said_on p listener real bytes reply reply.said ≡ Ok reply) →
    (bytes : List ℕ) → said_to p listener real bytes ≡ Ok reply
said_at_once p listener real reply is once bytes = rw is (once bytes)

pub offered_at_once : (p : Plain) (listener : ℕ) (real : PairValue) (reply : Reply) → answer_in p 0 (Accept listener real) ≡ Ok reply →
    (whom : ConnId) (used line server : ℕ) (to : Endpoint) (judged : PairValue) (send : ArrayVec ℕ) → reply.said ≡ saids.Offer whom used line server to judged send → used ≤ 0 →
    IsOffered (said_to p listener real) [] send.items []
offered_at_once p listener real reply is whom used line server to judged send said none more =
    let all : said_to p listener real more ≡ Ok reply = said_at_once p listener real reply is (λ bytes. ap (said_on p listener real bytes reply) said) more in
    let zero_used : used ≡ 0 = omega arith in
    let text : drop used more ≡ more = ap (λ n. drop n more) zero_used in (
      ap (output_of more) all ∙ ap (passed_on more) said ∙ ap (λ t. send.items ++ t) text,
      ap (end_by more) all ∙ ap (end_of more) said ∙ ap (λ t. Some (ends.Offered (length (send.items ++ t)))) text,
    )

pub refused_at_once : (p : Plain) (listener : ℕ) (real : PairValue) (reply : Reply) → answer_in p 0 (Accept listener real) ≡ Ok reply →
    (whom : ConnId) (used : ℕ) (cause : Cause) → reply.said ≡ saids.Refuse whom used cause → IsRefused (said_to p listener real) [] cause
refused_at_once p listener real reply is whom used cause said more =
    let all : said_to p listener real more ≡ Ok reply = said_at_once p listener real reply is (λ bytes. ap (said_on p listener real bytes reply) said) more in
    (ap (output_of more) all ∙ ap (passed_on more) said, ap (end_by more) all ∙ ap (end_of more) said)

-- an offer to a piece at the front of a buffer
pub has_offer : (said : List ℕ → Result Reply StepFault) (old mid new' : Option (List ℕ)) (got buffer : List ℕ) (count : ℕ) (send : ArrayVec ℕ) (used : ℕ) → Consumes old mid got → Consumes mid new' (take count buffer) → count ≤ length buffer →
    used ≤ length (take count buffer) → IsOffered said (got ++ take count buffer) send.items (drop used (take count buffer)) → HasOffer said old new' buffer (record { send = send; from = used; to = count })
has_offer said old mid new' got buffer count send used first last within uses offers = record {
  got = got ++ take count buffer;
  read = consumes-both old mid new' got (take count buffer) first last;
  from = omega (arith, uses, length-take-le count buffer within);
  to = within;
  offers = subst (λ xs. IsOffered said (got ++ take count buffer) send.items xs) payload offers;
}
  where
    payload : drop used (take count buffer) ≡ take (count - used) (drop used buffer)
    payload =
        let sum : count ≡ used + (count - used) = omega (arith, uses, length-take-le count buffer within) in
        ap (λ n. drop used (take n buffer)) sum ∙ drop-take used (count - used) buffer

-- where a connection waits from its accept on
pub waits_of_accept : (p q : Plain) (plan : Plan) → p ≡ opening plan 0 → (listener : ℕ) (real : PairValue) (reply : Reply) (id : ConnId) (count : ℕ) → answer_in p 0 (Accept listener real) ≡ Ok reply → reply.said ≡ saids.Wait id count →
    q ≡ after p (entry 0 (Accept listener real) reply ∷ []) → IsWell q → Holds q id []
waits_of_accept p q plan opens listener real reply id count is said state well =
    let well_now : IsWell (after p (entry 0 (Accept listener real) reply ∷ [])) = subst IsWell state well in
    let well_opened : IsWell (after (opening plan 0) (entry 0 (Accept listener real) reply ∷ [])) = subst (λ s. IsWell (after s (entry 0 (Accept listener real) reply ∷ []))) opens well_now in
    let is_opened : answer_in (opening plan 0) 0 (Accept listener real) ≡ Ok reply = subst (λ s. answer_in s 0 (Accept listener real) ≡ Ok reply) opens is in
    let holds = accepted_waits plan listener real reply id count is_opened said well_opened in
    subst (λ s. Holds s id []) (sym state) (subst (λ s. Holds (after s (entry 0 (Accept listener real) reply ∷ [])) id []) (sym opens) holds)
