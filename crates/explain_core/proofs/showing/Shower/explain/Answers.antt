use Rattle.std.proofs.Common.{◌++◌, IsOk, ap, sym, subst, ◌∙◌}
use Rattle.std.specs.Option.{option_copied}
use Rattle.conn_model.specs.declared.plain.Plain.{Plain}
use Rattle.event_text.specs.Replies.{reply_line}
use Rattle.conn_model.specs.declared.event.OwnedEvent.TheVariants.{Piece}
use Rattle.conn_model.specs.Answer.{answer_in}
use Rattle.explain_core.specs.Explained.{waiting_in, IsDecided}
use Rattle.explain_core.specs.Text.{accept_text}
use Rattle.explain_core.proofs.OpeningLemmas.{accept_answered, piece_answered}
use Rattle.explain_core.proofs.showing.Shower.explain.Goals as goal

pub returns-clause-explained : goal.returns-clause-explained
returns-clause-explained c =
    let later = c.in_ok-trials.ensures.0 in
    let accepted = accept_text c.args.self.now.lines.now c.in_ok-entry.ensures.0.facts c.args.at.now c.in_ok-entry.entry.items c.in_ok-entry.at_accept in
    let line = reply_line c.in_ok-trials.reply in
    record {
      at = c.args.at.now;
      at_accept = c.in_ok-entry.at_accept;
      first = c.in_ok-first.first;
      later = later;
      listens = c.requires.listens;
      next = c.in_ok-entry.ensures.0;
      answers = c.in_ok-first.ensures.reply;
      decided =
          subst (λ (p : Plain). IsDecided p c.args.self.now.lines.now c.args.real c.in_ok-first.first c.in_ok-entry.at_accept (waiting_in c.in_ok-first.first.said) (option_copied c.args.header) c.in_ok-trials.trials c.in_ok-trials.reply later)
          c.in_ok-first.ensures.plain c.in_ok-trials.ensures.2;
      text = c.in_ok-write_reply.ensures ∙ ap (λ xs. xs ++ line) (c.in_ok-trials.ensures.1 ∙ ap (λ xs. xs ++ later) (c.in_ok-entry.ensures.1 ∙ ap (λ xs. xs ++ accepted) c.new-text.ensures.items));
    }

pub explain_accept-requires : goal.explain_accept-requires
explain_accept-requires c = accept_answered c.args.core.now c.requires.opening.0 c.requires.opening.1 c.args.number c.args.at.now c.args.real c.requires.listens

pub step-requires : goal.step-requires
step-requires c = record {
  answers = accept_answered c.args.core.now c.requires.opening.0 c.requires.opening.1 c.args.number c.args.at.now c.args.real c.requires.listens;
  piece = tt;
}

pub explain_rest-requires : goal.explain_rest-requires
explain_rest-requires c = record {
  answers = λ id header waits.
      subst (λ (p : Plain). IsOk (answer_in p 0 (Piece id header))) (sym c.in_ok-first.ensures.plain)
      (piece_answered c.args.core.now c.requires.opening.0 c.requires.opening.1 c.args.number c.args.real c.in_ok-first.first id c.in_ok-first.ensures.reply waits header);
  header = c.requires.header;
}
