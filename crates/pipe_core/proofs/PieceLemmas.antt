-- What is said to a connection piece by piece is what is said to all its bytes.
use Rattle.std.proofs.Common.{◌≡◌, ◌≢◌, ℕ, ◌+◌, ◌≤◌, List, [], ◌∷◌, ◌++◌, length, drop, Result, Ok, Err, refl, ◌∙◌, sym, ap, subst, arith, append_assoc, append-nil, length-append}
use Rattle.std.proofs.Math.Seq.{drop-append-add}
use Rattle.std.proofs.lemmas.List.{drop-append-le}
use Rattle.addr_core.specs.PairValue.{PairValue}
use Rattle.pp_any.specs.Status as statuses
use Rattle.pp_any.specs.Status.{Status, status}
use Rattle.pp_any.specs.Header.{shifted}
use Rattle.pp_any.specs.Rest.{IsRest}
use Rattle.pp_any.specs.declared.rest.Rest.{Rest}
use Rattle.pp_any.specs.NextPiece.{rest_on, status_on}
use Rattle.pp_any.proofs.First.{decided_once}
use Rattle.pp_any.proofs.NextPiece.{goes_on}
use Rattle.conn_model.specs.declared.event.ConnId.{ConnId}
use Rattle.conn_model.specs.declared.event.OwnedEvent.TheVariants.{Piece}
use Rattle.conn_model.specs.declared.reply.Cause.{Cause}
use Rattle.conn_model.specs.declared.reply.Reply.{Reply}
use Rattle.conn_model.specs.declared.reply.Said.{Said}
use Rattle.conn_model.specs.declared.reply.Said.TheVariants as saids
use Rattle.conn_model.specs.declared.reply.StepFault.{StepFault}
use Rattle.conn_model.specs.declared.plain.Plain.{Plain}
use Rattle.rule_engine.specs.Judging.{no_tracks}
use Rattle.conn_model.specs.Rules.{Candidate, view_of}
use Rattle.conn_model.specs.Answer.{answer_in, at_moment, candidate_of, decision, header_reply, judged_pair, reply_of, reply_with, said_of, verdict, Decision, NumberedServer}
use Rattle.conn_model.specs.History.{after, entry}
use Rattle.pipe_core.specs.Waiting.{later, with_used, Holds, Waits}
use Rattle.pipe_core.proofs.StateLemmas.{after_is, holds_on, next_said, piece_said, state_on, view_on}

-- Statuses.

shifted_one : (n : ℕ) (s t : Status) → shifted n s ≡ shifted n t → s ≡ t
shifted_one n statuses.Wait statuses.Wait is = refl
shifted_one n statuses.Wait (statuses.Whole count meaning) is = absurd cc
shifted_one n statuses.Wait (statuses.Fault fault count) is = absurd cc
shifted_one n (statuses.Whole count meaning) statuses.Wait is = absurd cc
shifted_one n (statuses.Whole count meaning) (statuses.Whole other means) is =
    let sum : count + n ≡ other + n = cc in
    let same : meaning ≡ means = cc in
    let count_is : count ≡ other = omega arith in
    ap (λ k. statuses.Whole k meaning) count_is ∙ ap (λ m. statuses.Whole other m) same
shifted_one n (statuses.Whole count meaning) (statuses.Fault fault other) is = absurd cc
shifted_one n (statuses.Fault fault count) statuses.Wait is = absurd cc
shifted_one n (statuses.Fault fault count) (statuses.Whole other meaning) is = absurd cc
shifted_one n (statuses.Fault fault count) (statuses.Fault wrong other) is =
    let sum : count + n ≡ other + n = cc in
    let same : fault ≡ wrong = cc in
    let count_is : count ≡ other = omega arith in
    ap (λ k. statuses.Fault fault k) count_is ∙ ap (λ f. statuses.Fault f other) same

shifted_twice : (m n : ℕ) (s : Status) → shifted (m + n) s ≡ shifted m (shifted n s)
shifted_twice m n statuses.Wait = refl
shifted_twice m n (statuses.Whole count meaning) = let e : count + (m + n) ≡ count + n + m = omega arith in ap (λ k. statuses.Whole k meaning) e
shifted_twice m n (statuses.Fault fault count) = let e : count + (m + n) ≡ count + n + m = omega arith in ap (λ k. statuses.Fault fault k) e

shifted_wait : (n : ℕ) (s : Status) → shifted n s ≡ statuses.Wait → s ≡ statuses.Wait
shifted_wait n statuses.Wait is = refl
shifted_wait n (statuses.Whole count meaning) is = absurd cc
shifted_wait n (statuses.Fault fault count) is = absurd cc

-- a piece that decides nothing, and then another
status_joined : (got piece more : List ℕ) (rest : Rest) → IsRest got rest → status_on rest piece ≡ statuses.Wait →
    status_on rest (piece ++ more) ≡ shifted (length piece) (status_on (rest_on rest piece) more)
status_joined got piece more rest is waits =
    let on = goes_on got piece rest is in
    let all = goes_on got (piece ++ more) rest is in
    let next = goes_on (got ++ piece) more (rest_on rest piece) (on.holds waits) in
    shifted_one (length got) (status_on rest (piece ++ more)) (shifted (length piece) (status_on (rest_on rest piece) more))
    (sym all.status ∙ ap status (sym (append_assoc got piece more)) ∙ next.status
    ∙ ap (λ n. shifted n (status_on (rest_on rest piece) more)) (length-append got piece) ∙ shifted_twice (length got) (length piece) (status_on (rest_on rest piece) more))

-- a piece that decides something decides the same whatever follows it
status_stays : (got piece more : List ℕ) (rest : Rest) → IsRest got rest → status_on rest piece ≢ statuses.Wait → status_on rest (piece ++ more) ≡ status_on rest piece
status_stays got piece more rest is decides =
    let on = goes_on got piece rest is in
    let all = goes_on got (piece ++ more) rest is in
    let some : status (got ++ piece) ≢ statuses.Wait = λ waits. decides (shifted_wait (length got) (status_on rest piece) (sym on.status ∙ waits)) in
    shifted_one (length got) (status_on rest (piece ++ more)) (status_on rest piece)
    (sym all.status ∙ ap status (sym (append_assoc got piece more)) ∙ decided_once (got ++ piece) more some ∙ on.status)

-- no bytes decide nothing
pub status_nothing : (got : List ℕ) (rest : Rest) → IsRest got rest → status_on rest [] ≡ statuses.Wait
status_nothing got rest is =
    let on = goes_on got [] rest is in
    shifted_wait (length got) (status_on rest []) (sym on.status ∙ ap status (append-nil got) ∙ is.0)

-- What is said.

-- a reply of which so many more bytes are used
abbrev reply_used : ℕ → Reply → Reply
reply_used more reply = record reply { said = with_used more reply.said }

said_more : (id : ConnId) (used more : ℕ) (judged : PairValue) (result : Result NumberedServer Cause) → said_of id (used + more) judged result ≡ with_used more (said_of id used judged result)
said_more id used more judged (Ok given) = refl
said_more id used more judged (Err cause) = refl

-- the reply that a decision makes
abbrev reply_by : ConnId → ℕ → PairValue → Decision → Reply
reply_by id used judged decided = reply_with (said_of id used judged decided.result) decided.made

decision_more : (a b : Candidate) (used more : ℕ) (judged : PairValue) → a.id ≡ b.id → a.frontend ≡ b.frontend → view_of b judged.source.addr ≡ view_of a judged.source.addr →
    decision a (used + more) judged no_tracks ≡ reply_used more (decision b used judged no_tracks)
decision_more a b used more judged id frontend views =
    let decided : Decision = verdict (view_of a judged.source.addr) a.frontend no_tracks in
    ap (λ s. reply_with s decided.made) (said_more a.id used more judged decided.result)
    ∙ ap (λ v. reply_used more (reply_by a.id used judged (verdict v a.frontend no_tracks))) (sym views)
    ∙ ap (λ i. reply_used more (reply_by i used judged (verdict (view_of b judged.source.addr) a.frontend no_tracks))) id
    ∙ ap (λ f. reply_used more (reply_by b.id used judged (verdict (view_of b judged.source.addr) f no_tracks))) frontend

-- a piece after one that decided nothing
pub next_piece : (q : Plain) (id : ConnId) (got : List ℕ) (h : Holds q id got) (piece more : List ℕ) → status_on h.rest piece ≡ statuses.Wait →
    answer_in q 0 (Piece id (piece ++ more)) ≡ later (length piece) (answer_in (state_on q id piece h.own) 0 (Piece id more))
next_piece q id got h piece more waits =
    piece_said q id got h (piece ++ more)
    ∙ ap (λ s. Ok (header_reply (candidate_of (at_moment 0 q) id h.version h.frontend) h.row.real (length (piece ++ more)) s)) (status_joined got piece more h.rest h.is_rest waits)
    ∙ ap (λ r. Ok r) (by (status_on (rest_on h.rest piece) more))
    ∙ sym (ap (later (length piece)) (next_said q id got h piece more waits))
  where
    now : Plain
    now = at_moment 0 (state_on q id piece h.own)

    by : (s : Status) → header_reply (candidate_of (at_moment 0 q) id h.version h.frontend) h.row.real (length (piece ++ more)) (shifted (length piece) s)
        ≡ reply_used (length piece) (header_reply (candidate_of now id h.version h.frontend) h.row.real (length more) s)
    by statuses.Wait = let e : length (piece ++ more) ≡ length more + length piece = omega (arith, length-append piece more) in ap (λ n. reply_of (saids.Wait id n)) e
    by (statuses.Fault fault count) = refl
    by (statuses.Whole count meaning) =
        decision_more (candidate_of (at_moment 0 q) id h.version h.frontend) (candidate_of now id h.version h.frontend) count (length piece) (judged_pair h.row.real meaning) refl refl
        (view_on q id got h piece (judged_pair h.row.real meaning).source.addr)

later_twice : (m n : ℕ) (r : Result Reply StepFault) → later (m + n) r ≡ later m (later n r)
later_twice m n (Err fault) = refl
later_twice m n (Ok reply) = ap (λ s. Ok (record reply { said = s })) (by reply.said)
  where
    by : (s : Said) → with_used (m + n) s ≡ with_used m (with_used n s)
    by (saids.Wait id used) = let e : used + (m + n) ≡ used + n + m = omega arith in ap (λ k. saids.Wait id k) e
    by (saids.Offer id used line server to judged send) = let e : used + (m + n) ≡ used + n + m = omega arith in ap (λ k. saids.Offer id k line server to judged send) e
    by (saids.Refuse id used cause) = let e : used + (m + n) ≡ used + n + m = omega arith in ap (λ k. saids.Refuse id k cause) e
    by (saids.Up id) = refl
    by (saids.Closed id why) = refl
    by (saids.Reloaded version) = refl
    by (saids.Marked line health) = refl

pub later_none : (r : Result Reply StepFault) → later 0 r ≡ r
later_none (Err fault) = refl
later_none (Ok reply) = ap (λ s. Ok (record reply { said = s })) (by reply.said)
  where
    by : (s : Said) → with_used 0 s ≡ s
    by (saids.Wait id used) = let e : used + 0 ≡ used = omega arith in ap (λ k. saids.Wait id k) e
    by (saids.Offer id used line server to judged send) = let e : used + 0 ≡ used = omega arith in ap (λ k. saids.Offer id k line server to judged send) e
    by (saids.Refuse id used cause) = let e : used + 0 ≡ used = omega arith in ap (λ k. saids.Refuse id k cause) e
    by (saids.Up id) = refl
    by (saids.Closed id why) = refl
    by (saids.Reloaded version) = refl
    by (saids.Marked line health) = refl

-- What is known once a piece was answered.

-- the reply to a piece, by what the piece decides
pub reply_said : (q : Plain) (id : ConnId) (got : List ℕ) (h : Holds q id got) (piece : List ℕ) (reply : Reply) → answer_in q 0 (Piece id piece) ≡ Ok reply →
    reply ≡ header_reply (candidate_of (at_moment 0 q) id h.version h.frontend) h.row.real (length piece) (status_on h.rest piece)
reply_said q id got h piece reply is =
    let same : Ok reply ≡ Ok (header_reply (candidate_of (at_moment 0 q) id h.version h.frontend) h.row.real (length piece) (status_on h.rest piece)) = sym is ∙ piece_said q id got h piece in cc

decision_no_wait : (candidate : Candidate) (used : ℕ) (judged : PairValue) (id : ConnId) (count : ℕ) → (decision candidate used judged no_tracks).said ≢ saids.Wait id count
decision_no_wait candidate used judged id count = by (verdict (view_of candidate judged.source.addr) candidate.frontend no_tracks).result
  where
    by : (result : Result NumberedServer Cause) → said_of candidate.id used judged result ≢ saids.Wait id count
    by (Ok given) wrong = let e : said_of candidate.id used judged (Ok given) ≡ saids.Wait id count = wrong in cc
    by (Err cause) wrong = let e : said_of candidate.id used judged (Err cause) ≡ saids.Wait id count = wrong in cc

-- the answer is to wait exactly where nothing is decided
wait_said : (candidate : Candidate) (real : PairValue) (n : ℕ) (s : Status) (id : ConnId) (count : ℕ) → (header_reply candidate real n s).said ≡ saids.Wait id count → s ≡ statuses.Wait
wait_said candidate real n statuses.Wait id count is = refl
wait_said candidate real n (statuses.Fault fault used) id count is = absurd (let e : saids.Refuse candidate.id used _ ≡ saids.Wait id count = is in cc)
wait_said candidate real n (statuses.Whole used meaning) id count is = absurd (decision_no_wait candidate used (judged_pair real meaning) id count is)

-- the connection waits on
pub waits_on : (first : Plain) (id : ConnId) (q : Plain) (got piece : List ℕ) (reply : Reply) (whom : ConnId) (count : ℕ) → Waits first id q got → answer_in q 0 (Piece id piece) ≡ Ok reply → reply.said ≡ saids.Wait whom count →
    Waits first id (after q (entry 0 (Piece id piece) reply ∷ [])) (got ++ piece)
waits_on first id q got piece reply whom count waits is said =
    let h = waits.holds in
    let reply_is = reply_said q id got h piece reply is in
    let status : status_on h.rest piece ≡ statuses.Wait = wait_said (candidate_of (at_moment 0 q) id h.version h.frontend) h.row.real (length piece) (status_on h.rest piece) whom count (ap (λ r. r.said) (sym reply_is) ∙ said) in
    let waits_is : reply ≡ reply_of (saids.Wait id (length piece)) = reply_is ∙ ap (λ s. header_reply (candidate_of (at_moment 0 q) id h.version h.frontend) h.row.real (length piece) s) status in
    let state : state_on q id piece h.own ≡ after q (entry 0 (Piece id piece) reply ∷ []) = sym (after_is q id got h piece (length piece)) ∙ ap (λ r. after q (entry 0 (Piece id piece) r ∷ [])) (sym waits_is) in
    subst (λ s. Waits first id s (got ++ piece)) state (record {
      holds = holds_on q id got h piece status;
      same = λ more.
          ap (λ bytes. answer_in first 0 (Piece id bytes)) (append_assoc got piece more)
          ∙ waits.same (piece ++ more)
          ∙ ap (later (length got)) (next_piece q id got h piece more status)
          ∙ sym (later_twice (length got) (length piece) (answer_in (state_on q id piece h.own) 0 (Piece id more)))
          ∙ ap (λ n. later n (answer_in (state_on q id piece h.own) 0 (Piece id more))) (sym (length-append got piece));
    })

-- what is said to all bytes where the answer to a piece was not to wait
pub decided : (first : Plain) (id : ConnId) (q : Plain) (got piece : List ℕ) (reply : Reply) → Waits first id q got → answer_in q 0 (Piece id piece) ≡ Ok reply → ((whom : ConnId) (count : ℕ) → reply.said ≢ saids.Wait whom count) →
    (more : List ℕ) → answer_in first 0 (Piece id ((got ++ piece) ++ more)) ≡ later (length got) (Ok reply)
decided first id q got piece reply waits is said more =
    let h = waits.holds in
    let reply_is = reply_said q id got h piece reply is in
    let decides : status_on h.rest piece ≢ statuses.Wait = λ none. said id (length piece) (ap (λ r. r.said) reply_is ∙ ap (λ s. (header_reply (candidate_of (at_moment 0 q) id h.version h.frontend) h.row.real (length piece) s).said) none) in
    ap (λ bytes. answer_in first 0 (Piece id bytes)) (append_assoc got piece more)
    ∙ waits.same (piece ++ more)
    ∙ ap (later (length got))
    (piece_said q id got h (piece ++ more)
    ∙ ap (λ s. Ok (header_reply (candidate_of (at_moment 0 q) id h.version h.frontend) h.row.real (length (piece ++ more)) s)) (status_stays got piece more h.rest h.is_rest decides)
    ∙ ap (λ r. Ok r) (by (status_on h.rest piece) decides)
    ∙ ap (λ r. Ok r) (sym reply_is))
  where
    by : (s : Status) → s ≢ statuses.Wait → header_reply (candidate_of (at_moment 0 q) id waits.holds.version waits.holds.frontend) waits.holds.row.real (length (piece ++ more)) s ≡ header_reply (candidate_of (at_moment 0 q) id waits.holds.version waits.holds.frontend) waits.holds.row.real (length piece) s
    by statuses.Wait some = absurd (some refl)
    by (statuses.Fault fault count) some = refl
    by (statuses.Whole count meaning) some = refl

-- the bytes after a header
pub after_header : (got piece more : List ℕ) (used : ℕ) → used ≤ length piece → drop (used + length got) ((got ++ piece) ++ more) ≡ drop used piece ++ more
after_header got piece more used within =
    let sum : used + length got ≡ length got + used = omega arith in
    ap (λ n. drop n ((got ++ piece) ++ more)) sum
    ∙ ap (drop (length got + used)) (append_assoc got piece more)
    ∙ drop-append-add got (piece ++ more) used
    ∙ drop-append-le used piece more within
