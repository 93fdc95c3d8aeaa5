use Rattle.std.proofs.Common.{◌≡◌, ◌≤◌, ◌∙◌, [], length, Ok, ap, sym, subst, refl}
use Rattle.pp_any.specs.Status.{Status, Wait, Whole}
use Rattle.pp_any.specs.NextPiece.{status_on}
use Rattle.rule_engine.specs.Judging.{no_tracks}
use Rattle.conn_model.specs.declared.event.OwnedEvent.TheVariants.{Piece}
use Rattle.conn_model.specs.declared.plain.Plain.{Plain}
use Rattle.conn_model.specs.declared.reply.Cause.TheVariants.{Header}
use Rattle.conn_model.specs.Answer.{candidate_of, decision, header_reply, judged_pair}
use Rattle.conn_rows.specs.declared.row.RowSummary.{RowSummary}
use Rattle.conn_rows.specs.Value.{RowsValue}
use Rattle.conn_model.specs.Changes.{row_fed}
use Rattle.conn_rows.specs.Changes.{status_of}
use Rattle.conn_core.specs.Changes.{IsJudged, Judge}
use Rattle.conn_core.specs.Counts.{IsSeen}
use Rattle.conn_core.specs.Machine.{AreSound}
use Rattle.conn_core.specs.Tracking.{AreSorted}
use Rattle.conn_core.proofs.PieceLemmas.{decided_once, fed_waits, judge_fed, judged_by, piece_by, refused_once, rest_is, still_judged, waited_once}
use Rattle.conn_core.proofs.SeenLemmas.{seen_fed}
use Rattle.conn_core.proofs.TrackedLemmas.{sorted_rows, still_sorted}
use Rattle.conn_core.proofs.receiving.receive.Goals as goal

pub decide-requires-clause-there : goal.decide-requires-clause-there
decide-requires-clause-there c =
    subst (λ (s : RowsValue). IsJudged s.frontends c.args.id c.args.row.now.version) (sym c.feed.ensures.new)
    (still_judged c.args.id (row_fed c.args.piece.now) c.args.rows.now.frontends c.args.row.now.version (λ row. refl) (λ row. refl) (λ row waits. fed_waits c.args.piece.now row.phase waits)
    (subst (λ (s : RowSummary). IsJudged c.args.rows.now.frontends c.args.id s.version) (sym c.requires.waits.2) (judged_by c.args.rows.now.frontends c.args.id c.requires.waits.0 c.requires.waits.1)))

pub decide-requires-clause-sorted : goal.decide-requires-clause-sorted
decide-requires-clause-sorted c =
    subst (λ (s : RowsValue). AreSorted s.frontends c.args.id) (sym c.feed.ensures.new)
    (still_sorted c.args.id (row_fed c.args.piece.now) c.args.rows.now.frontends (λ row sorted. sorted) (λ row. refl) (sorted_rows c.args.rows.now.frontends c.args.id c.requires.sorted))

pub decide-requires-clause-judge : goal.decide-requires-clause-judge
decide-requires-clause-judge c =
    subst (λ (s : RowsValue). Judge s.frontends s.versions c.args.id c.args.row.now.version) (sym c.feed.ensures.new)
    (judge_fed c.args.rows.now.frontends c.args.rows.now.versions c.args.id c.args.row.now.version c.args.piece.now c.requires.judge)

pub decide-requires-clause-sound : goal.decide-requires-clause-sound
decide-requires-clause-sound c = subst (λ (s : RowsValue). AreSound s.versions) (sym c.feed.ensures.new) c.requires.sound

pub decide-requires-clause-room : goal.decide-requires-clause-room
decide-requires-clause-room c = subst (λ (s : RowsValue). 3 ≤ s.spare) (sym c.feed.ensures.new) c.requires.room

pub returns-in-Wait-clause-new : goal.returns-in-Wait-clause-new
returns-in-Wait-clause-new c =
    let found = c.requires.waits.0 in
    let status : status_on found.1 c.args.piece.now ≡ Wait = sym (c.feed.ensures.status found.1 (rest_is c.args.rows.now.frontends c.args.id found c.requires.waits.1)) ∙ ap status_of c.in-Wait.is in
    waited_once c.args.rows.now c.feed.new.self c.args.id c.args.row.now.version c.args.piece.now (length c.args.piece.now) found c.plain_reply.result c.requires.sorted c.requires.waits.1 status c.feed.ensures.new c.plain_reply.ensures

pub returns-in-Bad-clause-new : goal.returns-in-Bad-clause-new
returns-in-Bad-clause-new c =
    refused_once c.args.rows.now c.feed.new.self c.remove.new.self (Piece c.args.id c.args.piece.now) c.args.id c.args.row.now.version c.args.piece.now c.in-Bad.used (Header c.in-Bad.fault) c.requires.waits.0 c.plain_reply-in-Bad.result
    c.requires.sorted c.requires.waits.1 c.feed.ensures.new c.remove.ensures c.plain_reply-in-Bad.ensures

pub returns-in-Whole-clause-reply : goal.returns-in-Whole-clause-reply
unfolding judge_fed
returns-in-Whole-clause-reply c = λ p same.
    let found = c.requires.waits.0 in
    let judge = c.requires.judge in
    let status : status_on found.1 c.args.piece.now ≡ Whole c.in-Whole.used c.in-Whole.meaning =
    sym (c.feed.ensures.status found.1 (rest_is c.args.rows.now.frontends c.args.id found c.requires.waits.1)) ∙ ap status_of c.in-Whole.is in
    let says = subst (λ (s : RowsValue). (j : Judge s.frontends s.versions c.args.id c.args.row.now.version) (state : Plain) → IsSeen c.args.id state s →
    c.decide.result ≡ decision (candidate_of state c.args.id j.version j.frontend) c.in-Whole.used c.judged_pair-judged.result no_tracks) c.feed.ensures.new c.decide.ensures.reply in
    let reply : c.decide.result ≡ decision (candidate_of p c.args.id judge.version judge.frontend) c.in-Whole.used (judged_pair found.0.real c.in-Whole.meaning) no_tracks =
    says (judge_fed c.args.rows.now.frontends c.args.rows.now.versions c.args.id c.args.row.now.version c.args.piece.now judge) p (seen_fed c.args.id c.args.piece.now p c.args.rows.now same.frontends same.tables same.down)
    ∙ ap (λ j. decision (candidate_of p c.args.id judge.version judge.frontend) c.in-Whole.used j no_tracks)
    (c.judged_pair-judged.ensures ∙ ap (λ (s : RowSummary). judged_pair s.real c.in-Whole.meaning) c.requires.waits.2) in
    piece_by p c.args.rows.now c.args.id c.args.piece.now found c.args.row.now same c.requires.waits.1 c.requires.waits.2 judge
    ∙ ap (λ (st : Status). Ok (header_reply (candidate_of p c.args.id judge.version judge.frontend) found.0.real (length c.args.piece.now) st)) status
    ∙ ap Ok (sym reply)

pub returns-in-Whole-clause-new : goal.returns-in-Whole-clause-new
unfolding judge_fed
returns-in-Whole-clause-new c =
    let judge = c.requires.judge in
    let p : Plain = record { clock = 0; listeners = []; frontends = c.args.rows.now.frontends; versions = c.args.rows.now.versions; tables = c.args.rows.now.tables; down = c.args.rows.now.down } in
    let says = subst (λ (s : RowsValue). (j : Judge s.frontends s.versions c.args.id c.args.row.now.version) (state : Plain) → IsSeen c.args.id state s →
    c.decide.result ≡ decision (candidate_of state c.args.id j.version j.frontend) c.in-Whole.used c.judged_pair-judged.result no_tracks) c.feed.ensures.new c.decide.ensures.reply in
    let reply = says (judge_fed c.args.rows.now.frontends c.args.rows.now.versions c.args.id c.args.row.now.version c.args.piece.now judge) p (seen_fed c.args.id c.args.piece.now p c.args.rows.now refl refl refl) in
    decided_once c.args.rows.now c.feed.new.self c.decide.new.rows c.args.piece.now c.args.id c.args.row.now.version c.args.piece.now p judge.version judge.frontend c.in-Whole.used c.judged_pair-judged.result c.decide.result
    reply c.feed.ensures.new (c.decide.ensures.new c.args.piece.now)
