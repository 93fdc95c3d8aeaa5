-- What is said at an accept and to a piece, and a connection that waits from its accept on.
use Rattle.std.proofs.Common.{◌≡◌, ℕ, zero, suc, ◌+◌, ◌≤◌, Bool, true, false, List, [], ◌∷◌, ◌++◌, length, Option, Some, None, Result, Ok, Err, refl, max, ◌∙◌, sym, ap, subst, arith}
use Rattle.std.specs.Prelude.{slice_get, slice_set, map, nat_le}
use Rattle.std.proofs.lemmas.Bool.{eq-eqb}
use Rattle.addr_core.specs.PairValue.{PairValue}
use Rattle.pp_any.specs.declared.rest.Rest.TheVariants.{Read}
use Rattle.pp_any.specs.Status as statuses
use Rattle.pp_any.specs.Status.{Status}
use Rattle.pp_any.specs.NextPiece.{status_on}
use Rattle.pp_any.proofs.NextPiece.{goes_on, used_by}
use Rattle.plan_types.specs.declared.plan.Frontend.{Frontend}
use Rattle.plan_types.specs.declared.plan.Plan.{Plan}
use Rattle.conn_model.specs.declared.event.ConnId.{ConnId}
use Rattle.conn_model.specs.declared.event.OwnedEvent.TheVariants.{Accept, Piece}
use Rattle.conn_model.specs.declared.reply.Cause.{Cause}
use Rattle.conn_model.specs.declared.reply.Reply.{Reply}
use Rattle.conn_model.specs.declared.reply.Said.{Said}
use Rattle.conn_model.specs.declared.reply.Said.TheVariants as saids
use Rattle.conn_model.specs.declared.plain.FrontendRows.{FrontendRows}
use Rattle.conn_model.specs.declared.plain.Plain.{Plain}
use Rattle.conn_model.specs.declared.plain.Row.{Row}
use Rattle.conn_model.specs.declared.plain.Version.{Version}
use Rattle.rule_engine.specs.Judging.{no_tracks, TrackSlots}
use Rattle.conn_model.specs.Rules.{Candidate, rejection, view_of}
use Rattle.conn_model.specs.Answer.{admission, answer_in, at_moment, candidate_at, candidate_of, decision, demands_header, entry_reply, entry_rules, frontend_in, header_reply, judged_pair, new_row, row_in, said_of, verdict, NumberedServer}
use Rattle.conn_model.specs.History.{after, by_counter, entry, id_of, new_version, newest_number, opening, tables_passed, with_said, IsWell}
use Rattle.conn_model.proofs.Replies.{accepted, admission-id, Accepted}
use Rattle.conn_model.proofs.Steps.{after-accept, rows_left}
use Rattle.conn_model.proofs.Well.{opening_well}
use Rattle.list_core.proofs.PlaceLemmas.{get-set}
use Rattle.pipe_core.specs.Waiting.{Holds}
use Rattle.pipe_core.proofs.PieceLemmas.{reply_said}

-- an offer uses at most so many bytes, no server takes the connection, nothing is closed, and nothing is reloaded
abbrev pub UsesAtMost : ℕ → Said → Type 0
UsesAtMost most (saids.Wait id used) = Unit {0}
UsesAtMost most (saids.Offer id used line server to judged send) = used ≤ most
UsesAtMost most (saids.Refuse id used cause) = Unit {0}
UsesAtMost most said = ⊥

decision_uses : (candidate : Candidate) (used most : ℕ) (judged : PairValue) (made : TrackSlots) → used ≤ most → UsesAtMost most (decision candidate used judged made).said
decision_uses candidate used most judged made within = by (verdict (view_of candidate judged.source.addr) candidate.frontend made).result
  where
    by : (result : Result NumberedServer Cause) → UsesAtMost most (said_of candidate.id used judged result)
    by (Ok given) = within
    by (Err cause) = tt

entry_uses : (candidate : Candidate) (accept_proxy : Bool) (real : PairValue) (made : TrackSlots) (line : Option ℕ) → UsesAtMost 0 (entry_reply candidate accept_proxy real made line).said
entry_uses candidate accept_proxy real made (Some line) = tt
entry_uses candidate true real made None = tt
entry_uses candidate false real made None = decision_uses candidate 0 0 real made (omega arith)

admission_uses : (candidate : Candidate) (accept_proxy : Bool) (real : PairValue) (others : ℕ) → UsesAtMost 0 (admission candidate accept_proxy real others).said
admission_uses candidate accept_proxy real others = by (nat_le candidate.frontend.limit others) refl
  where
    by : (b : Bool) → nat_le candidate.frontend.limit others ≡ b → UsesAtMost 0 (admission candidate accept_proxy real others).said
    by true e = rw e tt
    by false e = rw e (entry_uses candidate (demands_header candidate accept_proxy real) real (entry_rules candidate real).tracks (rejection (entry_rules candidate real)))

header_uses : (candidate : Candidate) (real : PairValue) (count : ℕ) (s : Status) → used_by s ≤ count → UsesAtMost count (header_reply candidate real count s).said
header_uses candidate real count statuses.Wait within = tt
header_uses candidate real count (statuses.Fault fault used) within = tt
header_uses candidate real count (statuses.Whole used meaning) within = decision_uses candidate used count (judged_pair real meaning) no_tracks within

-- an accept uses no byte
pub accept_uses : (p : Plain) (listener : ℕ) (real : PairValue) (reply : Reply) → answer_in p 0 (Accept listener real) ≡ Ok reply → UsesAtMost 0 reply.said
accept_uses p listener real reply is =
    let got = accepted (at_moment 0 p) (max p.clock 0) listener real reply is in
    subst (λ (r : Reply). UsesAtMost 0 r.said) got.reply_is (admission_uses (candidate_at (at_moment 0 p) (max p.clock 0) got.at.frontend real got.own got.version got.frontend) got.at.accept_proxy real (length got.own.rows))

-- a piece is used as far as it goes
pub piece_uses : (q : Plain) (id : ConnId) (got : List ℕ) → Holds q id got → (piece : List ℕ) (reply : Reply) → answer_in q 0 (Piece id piece) ≡ Ok reply → UsesAtMost (length piece) reply.said
piece_uses q id got h piece reply is =
    subst (λ (r : Reply). UsesAtMost (length piece) r.said) (sym (reply_said q id got h piece reply is))
    (header_uses (candidate_of (at_moment 0 q) id h.version h.frontend) h.row.real (length piece) (status_on h.rest piece) (goes_on got piece h.rest h.is_rest).used)

-- The first connection of a listener.

no_rows : (last : ℕ) (frontends : List Frontend) (n : ℕ) (own : FrontendRows) → slice_get {X = FrontendRows} (map (λ (frontend : Frontend). record { name = frontend.name; serial = last; rows = [] }) frontends) n ≡ Some own → own.rows ≡ []
no_rows last [] n own there = absurd (let wrong : None ≡ Some own = there in cc)
no_rows last (frontend ∷ frontends) zero own there =
    let first : FrontendRows = record { name = frontend.name; serial = last; rows = [] } in
    let same : first ≡ own = let e : Some first ≡ Some own = there in cc in
    ap (λ (o : FrontendRows). o.rows) (sym same)
no_rows last (frontend ∷ frontends) (suc n) own there = no_rows last frontends n own there

pub accepted_waits : (plan : Plan) (listener : ℕ) (real : PairValue) (reply : Reply) (id : ConnId) (count : ℕ) → answer_in (opening plan 0) 0 (Accept listener real) ≡ Ok reply → reply.said ≡ saids.Wait id count →
    IsWell (after (opening plan 0) (entry 0 (Accept listener real) reply ∷ [])) → Holds (after (opening plan 0) (entry 0 (Accept listener real) reply ∷ [])) id []
accepted_waits plan listener real reply id count is said well =
    subst (λ s. Holds s id []) (sym state) (record {
      row = row;
      rest = Read (record { items = [] });
      own = next;
      version = new_version 1 plan;
      frontend = got.frontend;
      row_is = ap (row_in id.serial) now_there ∙ (rw (none, eq-eqb id.serial id.serial refl) refl);
      waits = refl;
      there = now_there;
      kept = refl;
      found = ap (λ (v : Version). frontend_in v.plan got.own.name) version_is ∙ got.found;
      is_rest = (refl, refl);
      well = subst IsWell state well;
    })
  where
    p : Plain
    p = opening plan 0

    got : Accepted (at_moment 0 p) 0 listener real reply
    got = accepted (at_moment 0 p) 0 listener real reply is

    said_is : (admission (candidate_at (at_moment 0 p) 0 got.at.frontend real got.own got.version got.frontend) got.at.accept_proxy real (length got.own.rows)).said ≡ saids.Wait id count
    said_is = ap (λ (r : Reply). r.said) got.reply_is ∙ said

    id_is : id ≡ record { frontend = got.at.frontend; serial = got.own.serial + 1 }
    id_is =
        let e : Some id ≡ Some (record { frontend = got.at.frontend; serial = got.own.serial + 1 }) =
        ap id_of (sym said_is) ∙ admission-id (candidate_at (at_moment 0 p) 0 got.at.frontend real got.own got.version got.frontend) got.at.accept_proxy real (length got.own.rows) in cc

    there : slice_get p.frontends id.frontend ≡ Some got.own
    there = ap (λ (i : ConnId). slice_get p.frontends i.frontend) id_is ∙ got.there

    none : got.own.rows ≡ []
    none = no_rows 0 plan.frontends id.frontend got.own there

    version_is : new_version 1 plan ≡ got.version
    version_is = let e : Some (new_version 1 plan) ≡ Some got.version = got.newest_is in cc

    row : Row
    row = record (new_row id.serial 1 real 0) { tracks = by_counter reply.tracks.items }

    next : FrontendRows
    next = record got.own { serial = got.own.serial + 1; rows = got.own.rows ++ row ∷ [] }

    now_there : slice_get (slice_set p.frontends id.frontend next) id.frontend ≡ Some next
    now_there = get-set p.frontends id.frontend got.own next there

    -- where that is said at the accept
    state_with : Said → Plain
    state_with said = record {
      clock = 0;
      listeners = p.listeners;
      frontends = slice_set p.frontends id.frontend (record got.own { serial = got.own.serial + 1; rows = got.own.rows ++ rows_left p 0 real reply.tracks.items said });
      versions = with_said (newest_number p) said p.versions;
      tables = tables_passed 0 p.frontends p.tables reply;
      down = p.down;
    }

    state : after (opening plan 0) (entry 0 (Accept listener real) reply ∷ []) ≡ record {
      clock = 0;
      listeners = p.listeners;
      frontends = slice_set p.frontends id.frontend next;
      versions = p.versions;
      tables = tables_passed 0 p.frontends p.tables reply;
      down = p.down;
    }
    state =
        after-accept p (opening_well plan 0) 0 listener real reply id got.own there (ap id_of said) (ap (λ (i : ConnId). i.serial) id_is)
        ∙ ap state_with said
