use Rattle.std.proofs.Common.{◌≡◌, ℕ, List, [], ◌++◌, Option, Some, None, refl, ap, subst, ◌∙◌, append_assoc}
use Rattle.std.specs.Prelude.{find, OnOk}
use Rattle.std.specs.Option.{option_copied}
use Rattle.acl_core.specs.Truth.{applies}
use Rattle.conf_text.specs.declared.line.Line.{Line}
use Rattle.plan_types.specs.declared.plan.Choice.{Choice}
use Rattle.plan_types.specs.declared.track.Track.{Track}
use Rattle.rule_engine.specs.Meaning.{present}
use Rattle.conn_model.specs.Rules.{worth}
use Rattle.conn_core.specs.declared.facts.RuleFacts.{RuleFacts}
use Rattle.conn_core.specs.Judging.{facts_view}
use Rattle.explain_core.specs.Text.{choices_text, chosen_in, chosen_text}
use Rattle.explain_core.proofs.showing.Shower.show_choice_of_backend.Goals as goal

-- what the step tracks makes no difference to how a backend is shown
shown_alike : (lines : List Line) (facts : RuleFacts) (a b : List Track) (choice : Option Choice) (default : Option ℕ) →
    chosen_text lines (facts_view facts a) choice default ≡ chosen_text lines (facts_view facts b) choice default
shown_alike lines facts a b (Some choice) default = refl
shown_alike lines facts a b None (Some number) = refl
shown_alike lines facts a b None None = refl

pub returns : goal.returns
returns c =
    let lines = c.args.self.now.lines.now in
    let facts = c.args.facts.now in
    let made = present c.args.tracks.now in
    let default = facts.frontend.now.default in
    let tried = choices_text lines (facts_view facts made) c.args.tried.now in
    let chosen = chosen_in (facts_view facts made) in
    let first : List Choice → Option Choice = λ xs. find (λ choice. applies facts.frontend.now.acls (worth (facts_view facts made)) choice.when) xs in
    let of : Option Choice → List ℕ = λ choice. chosen_text lines (facts_view facts []) choice default in
    let P : List ℕ → Type 0 = λ xs. OnOk c.show_chosen.result (c.show_chosen.new.out.items ≡ xs) in
    subst P
    (ap (λ xs. xs ++ of (option_copied c.chosen-choice.result)) c.in_ok-show_choices.ensures
    ∙ ap (λ choice. (c.args.out.now.items ++ tried) ++ of choice) (c.chosen-choice.ensures ∙ ap first c.as_slice.ensures)
    ∙ append_assoc c.args.out.now.items tried (of chosen)
    ∙ ap (λ xs. c.args.out.now.items ++ (tried ++ xs)) (shown_alike lines facts [] made chosen default))
    c.show_chosen.ensures
