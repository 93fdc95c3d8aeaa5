use Rattle.std.proofs.Common.{◌≤◌, ◌||◌, subst, ◌&&◌, [], ◌∷◌, ◌++◌, refl, ◌∙◌, ap, sym}
use Rattle.std.specs.Prelude.{is_some}
use Rattle.std.specs.Option.{option_or}
use Rattle.conf_line.specs.Sound.{IsSoundSize}
use Rattle.conf_line.specs.Words.{last_of, onto, after}
use Rattle.conf_line.specs.Tables.{table_options, option_keys, option_size, option_expire, is_keys, is_size, is_expire, stores_cur, stores_cnt, has_repeat}
use Rattle.conf_line.proofs.OptionLemmas.{last_more, any_more, after_more, after_none, first_and_rest, or_sound, repeat_more}
use Rattle.conf_line.proofs.table.all_options.Goals as goal

pub loop-rest-init : goal.loop-rest-init
loop-rest-init c = ([], after_none (table_options c.args.words.now), refl, refl, refl, refl, refl, refl, tt)

pub loop-rest-preserved : goal.loop-rest-preserved
loop-rest-preserved c =
    let all = c.loop-rest.invariant.0 in
    let option = c.in_ok-option.option in
    let there = first_and_rest c.loop-rest.rest.now c.name-item.result c.in-len1-up.len_at_least c.name-item.is in (
      all ++ option ∷ [],
      after_more all option (table_options c.after_first-rest.result.now)
          ∙ ap (after all) (ap (λ words. onto option (table_options words)) c.after_first-rest.ensures.after ∙ sym c.in_ok-option.ensures.ok ∙ ap table_options there)
          ∙ c.loop-rest.invariant.1,
      c.with_option-options.ensures.keys ∙ ap (option_or (option_keys option)) c.loop-rest.invariant.2 ∙ sym (last_more option_keys all option),
      c.with_option-options.ensures.size ∙ ap (option_or (option_size option)) c.loop-rest.invariant.3 ∙ sym (last_more option_size all option),
      c.with_option-options.ensures.cur ∙ ap (λ b. b || stores_cur option) c.loop-rest.invariant.4 ∙ sym (any_more stores_cur all option),
      c.with_option-options.ensures.cnt ∙ ap (λ b. b || stores_cnt option) c.loop-rest.invariant.5 ∙ sym (any_more stores_cnt all option),
      c.with_option-options.ensures.expire ∙ ap (option_or (option_expire option)) c.loop-rest.invariant.6 ∙ sym (last_more option_expire all option),
      c.with_option-options.ensures.repeats
          ∙ ap (λ b. b || ((is_keys option && is_some c.loop-rest.options.keys) || (is_size option && is_some c.loop-rest.options.size) || (is_expire option && is_some c.loop-rest.options.expire))) c.loop-rest.invariant.7
          ∙ ap (λ k. has_repeat all || ((is_keys option && is_some k) || (is_size option && is_some c.loop-rest.options.size) || (is_expire option && is_some c.loop-rest.options.expire))) c.loop-rest.invariant.2
          ∙ ap (λ s. has_repeat all || ((is_keys option && is_some (last_of option_keys all)) || (is_size option && is_some s) || (is_expire option && is_some c.loop-rest.options.expire))) c.loop-rest.invariant.3
          ∙ ap (λ e. has_repeat all || ((is_keys option && is_some (last_of option_keys all)) || (is_size option && is_some (last_of option_size all)) || (is_expire option && is_some e))) c.loop-rest.invariant.6
          ∙ sym (repeat_more all option),
      subst IsSoundSize (sym c.with_option-options.ensures.size) (or_sound (λ n. 1 ≤ n) (option_size option) c.loop-rest.options.size c.in_ok-option.ensures.sound c.loop-rest.invariant.8),
    )
