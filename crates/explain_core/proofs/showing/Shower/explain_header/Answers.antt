use Rattle.std.proofs.Common.{◌≡◌, [], ◌++◌, None, Some, refl, sym, ap, subst, ◌∙◌, append-nil, append_assoc}
use Rattle.pp_any.specs.NextPiece.{status_on}
use Rattle.pp_any.specs.Status.{Status, Wait, Whole, Fault}
use Rattle.conn_model.specs.declared.event.OwnedEvent.TheVariants.{Piece}
use Rattle.conn_model.specs.Answer.{answer_in, at_moment, judged_pair}
use Rattle.conn_core.specs.Seeing.{SeesWaiting}
use Rattle.explain_core.specs.Explained.{header_status, AreTriedLater}
use Rattle.explain_core.specs.Text.{header_text, trials_text}
use Rattle.explain_core.proofs.OpeningLemmas.{no_fault}
use Rattle.explain_core.proofs.showing.Shower.explain_header.Goals as goal

pub unreachable-requires : goal.unreachable-requires
unreachable-requires c = no_fault (answer_in c.args.core.now 0 (Piece c.args.id c.args.header.now)) c.requires (c.in_default.ensures.none 0 c.args.header.now)

pub returns-in-More : goal.returns-in-More
returns-in-More c =
    let waits : header_status c.args.header.now ≡ Wait = ap (λ r. status_on r c.args.header.now) c.new.ensures.1 ∙ (c.in-More.ensures.tells [] c.new.ensures).0 in (
      [],
      sym (append-nil c.args.text.now.items),
      subst (λ (s : Status). AreTriedLater c.args.core.now c.args.self.now.lines.now c.args.id c.args.real c.args.header.now s None []) (sym waits) (refl, refl),
    )

pub returns-in-Bad : goal.returns-in-Bad
returns-in-Bad c =
    let bad : header_status c.args.header.now ≡ Fault c.in-Bad.field-0 c.in-Bad.field-1 = ap (λ r. status_on r c.args.header.now) c.new.ensures.1 ∙ c.in-Bad.ensures.tells [] c.new.ensures in (
      [],
      sym (append-nil c.args.text.now.items),
      subst (λ (s : Status). AreTriedLater c.args.core.now c.args.self.now.lines.now c.args.id c.args.real c.args.header.now s None []) (sym bad) (refl, refl),
    )

pub returns-in_ok-show_trials-in-Whole : goal.returns-in_ok-show_trials-in-Whole
returns-in_ok-show_trials-in-Whole c =
    let whole : header_status c.args.header.now ≡ Whole c.in-Whole.used c.in-Whole.meaning = ap (λ r. status_on r c.args.header.now) c.new.ensures.1 ∙ c.in-Whole.ensures.tells [] c.new.ensures in
    let lines = c.args.self.now.lines.now in
    let header = c.args.header.now in
    let facts = c.in-Some.facts in
    let trials = c.in_ok-trials-in-Whole.trials in
    let tried = trials_text lines facts trials in
    let more = header_text header c.in-Whole.used (judged_pair c.args.real c.in-Whole.meaning) ++ tried in (
      more,
      c.in_ok-show_trials-in-Whole.ensures
          ∙ ap (λ xs. xs ++ tried) (c.in_ok-write_header-in-Whole.ensures ∙ ap (λ judged. c.args.text.now.items ++ header_text header c.in-Whole.used judged) c.judged_pair-judged.ensures)
          ∙ append_assoc c.args.text.now.items (header_text header c.in-Whole.used (judged_pair c.args.real c.in-Whole.meaning)) tried,
      subst (λ (s : Status). AreTriedLater c.args.core.now lines c.args.id c.args.real header s (Some trials) more) (sym whole) (record {
        facts = facts;
        sees = subst (λ judged. SeesWaiting (at_moment 0 c.args.core.now) c.args.id judged facts) c.judged_pair-judged.ensures c.in-Some.ensures.some;
        tried = c.in_ok-trials-in-Whole.ensures;
        text_is = refl;
      }),
    )
