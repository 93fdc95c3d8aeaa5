use Rattle.std.proofs.Common.{◌≡◌, ℕ, List, [], sym, ap, subst, inl, inr, ◌∙◌, arith}
use Rattle.std.specs.Prelude.{IfOk}
use Rattle.conn_model.specs.declared.event.OwnedEvent.TheVariants.{Piece}
use Rattle.conn_model.specs.declared.plain.Plain.{Plain}
use Rattle.conn_model.specs.Answer.{answer_in}
use Rattle.pipe_core.specs.Judged.{IsJudged}
use Rattle.pipe_core.specs.Pipe.{said_to}
use Rattle.pipe_core.proofs.AcceptLemmas.{accept_uses, UsesAtMost}
use Rattle.pipe_core.proofs.ListenerLemmas.{accept_lacks_memory}
use Rattle.pipe_core.proofs.JudgedLemmas.{offered_at_once, said_later, waits_of_accept}
use Rattle.pipe_core.proofs.StreamLemmas.{consumes-nil}
use Rattle.pipe_core.proofs.header.judge.Goals as goal

pub judge_header-requires-clause-waits : goal.judge_header-requires-clause-waits
judge_header-requires-clause-waits g c =
    let opens = c.requires.opening in
    waits_of_accept c.args.core.now c.step.new.self opens.0 opens.1 c.args.listener c.args.real c.in-Ok.reply c.in-Wait.id _ c.in-Ok.ensures.plain_reply c.in-Wait.is c.in-Ok.ensures.plain_new c.in-Ok.ensures.well

pub returns-in-Offer-clause-ok : goal.returns-in-Offer-clause-ok
returns-in-Offer-clause-ok g c = record {
  got = [];
  read = consumes-nil (g.I.Input.left c.args.reader.now);
  from = omega arith;
  to = omega arith;
  offers = offered_at_once c.args.core.now c.args.listener c.args.real c.in-Ok.reply c.in-Ok.ensures.plain_reply _ _ _ _ _ _ c.in-Offer.send c.in-Offer.is
      (rw c.in-Offer.is at (accept_uses c.args.core.now c.args.listener c.args.real c.in-Ok.reply c.in-Ok.ensures.plain_reply));
}

pub lack_of_memory-requires : goal.lack_of_memory-requires
lack_of_memory-requires g c =
    let opens = c.requires.opening in
    let listens = c.requires.listens in
    accept_lacks_memory c.args.core.now opens.0 opens.1 listens.0 c.args.listener c.args.real c.in-Err.fault listens.1 c.in-Err.ensures.plain_fault

pub unreachable-requires : goal.unreachable-requires
unreachable-requires g c =
    let uses : UsesAtMost 0 c.in-Ok.reply.said = accept_uses c.args.core.now c.args.listener c.args.real c.in-Ok.reply c.in-Ok.ensures.plain_reply in
    elim c.in-Up.is [
      | inl up ↦ subst (UsesAtMost 0) up.1 uses
      | inr other ↦ elim other [
        | inl closed ↦ subst (UsesAtMost 0) closed.2 uses
        | inr named ↦ elim named [
          | inl reloaded ↦ subst (UsesAtMost 0) reloaded.1 uses
          | inr marked ↦ subst (UsesAtMost 0) marked.2 uses
        ]
      ]
    ]

pub returns-in-Wait-clause-ok : goal.returns-in-Wait-clause-ok
returns-in-Wait-clause-ok g c =
    let p : Plain = c.args.core.now in
    let said : said_to p c.args.listener c.args.real ≡ (λ bytes. answer_in c.step.new.self 0 (Piece c.in-Wait.id bytes)) =
    said_later p c.args.listener c.args.real c.in-Ok.reply c.in-Wait.id c.in-Wait.used c.in-Ok.ensures.plain_reply c.in-Wait.is
    ∙ ap (λ (s : Plain). λ (bytes : List ℕ). answer_in s 0 (Piece c.in-Wait.id bytes)) (sym c.in-Ok.ensures.plain_new) in
    subst (λ says. IfOk c.judge_header.result (λ verdict. IsJudged says (g.I.Input.left c.args.reader.now) (g.I.Input.left c.judge_header.new.reader) c.judge_header.new.buffer verdict)) (sym said) c.judge_header.ensures.ok
