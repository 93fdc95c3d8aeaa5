use Rattle.std.proofs.Common.{[], ◌∷◌, ◌++◌, subst, refl, ◌∙◌, ap, sym}
use Rattle.conf_line.specs.Sound.{AreSoundOptions, IsSoundOption}
use Rattle.conf_line.specs.Words.{onto, after}
use Rattle.conf_line.specs.declared.server.Options.{Options}
use Rattle.conf_line.specs.Servers.{server_options, with_option}
use Rattle.conf_line.proofs.OptionLemmas.{after_more, after_none, all_more, first_and_rest, options_more, options_sound}
use Rattle.conf_line.proofs.server.all_options.Goals as goal

pub loop-rest-init : goal.loop-rest-init
loop-rest-init c = ([], after_none (server_options c.args.words.now), refl, tt)

pub loop-rest-preserved : goal.loop-rest-preserved
loop-rest-preserved c =
    let all = c.loop-rest.invariant.0 in
    let option = c.in_ok-option.option in
    let there = first_and_rest c.loop-rest.rest.now c.name-item.result c.in-len1-up.len_at_least c.name-item.is in (
      all ++ option ∷ [],
      after_more all option (server_options c.words_after-rest.result.now)
          ∙ ap (after all) (ap (λ words. onto option (server_options words)) c.words_after-rest.ensures.words ∙ sym c.in_ok-option.ensures.ok ∙ ap server_options there)
          ∙ c.loop-rest.invariant.1,
      c.with_option-options.ensures ∙ ap (λ says. with_option says option) c.loop-rest.invariant.2 ∙ sym (options_more all option),
      all_more IsSoundOption all option c.loop-rest.invariant.3 c.in_ok-option.ensures.sound,
    )

pub returns-clause-sound : goal.returns-clause-sound
returns-clause-sound c = λ none.
    let exceeds = ap (λ (says : Options). says.exceeds) c.loop-rest.invariant.2 in
    subst AreSoundOptions (sym c.loop-rest.invariant.2) (options_sound c.loop-rest.invariant.0 c.loop-rest.invariant.3 (sym exceeds ∙ none))
