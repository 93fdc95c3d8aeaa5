use Rattle.std.proofs.Common.{◌≡◌, Bool, true, false, refl, sym, ap, subst, ◌∙◌}
use Rattle.std.specs.Prelude.{not, ◌&&◌}
use Rattle.rule_engine.specs.Judging.{judged}
use Rattle.rule_engine.specs.declared.judging.Judged.{Judged}
use Rattle.conn_model.specs.Rules.{scene_of}
use Rattle.conn_core.specs.Judging.{facts_view}
use Rattle.explain_core.specs.Explained.{entry_says, goes_on, is_full, is_judged_at, AreTried}
use Rattle.explain_core.proofs.explaining.try_at_accept.Goals as goal

and_false : (b : Bool) → (b && false) ≡ false
and_false true = refl
and_false false = refl

pub returns-then-not-goes_on : goal.returns-then-not-goes_on
returns-then-not-goes_on c =
    let facts = c.args.facts.now in
    let says : c.judge-says.result ≡ entry_says facts = c.judge-says.ensures ∙ ap (judged (scene_of (facts_view facts))) c.as_slice.ensures in
    let stays : goes_on c.args.accept_proxy (entry_says facts) ≡ false = ap (goes_on c.args.accept_proxy) (sym says) ∙ sym c.goes_on.ensures ∙ c.if-not-goes_on.true in
    let never : is_judged_at c.args.accept_proxy facts ≡ false = ap (λ b. not (is_full facts) && b) stays ∙ and_false (not (is_full facts)) in
    record {
      judged = λ yes. absurd (let wrong : true ≡ false = sym yes ∙ never in cc);
      nothing = λ no. refl;
    }

pub returns : goal.returns
returns c =
    let facts = c.args.facts.now in
    let says : c.judge-says.result ≡ entry_says facts = c.judge-says.ensures ∙ ap (judged (scene_of (facts_view facts))) c.as_slice.ensures in
    let full : is_full facts ≡ false = sym c.is_full.ensures ∙ c.if-is_full.false in
    let goes : goes_on c.args.accept_proxy (entry_says facts) ≡ true = ap (goes_on c.args.accept_proxy) (sym says) ∙ sym c.goes_on.ensures ∙ c.if-not-goes_on.false in
    let always : is_judged_at c.args.accept_proxy facts ≡ true = ap (λ b. not b && goes_on c.args.accept_proxy (entry_says facts)) full ∙ goes in
    record {
      judged = λ yes. subst (λ (s : Judged). AreTried facts s.tracks c.in_ok-trials.trials) says c.in_ok-trials.ensures;
      nothing = λ no. absurd (let wrong : true ≡ false = sym always ∙ no in cc);
    }
