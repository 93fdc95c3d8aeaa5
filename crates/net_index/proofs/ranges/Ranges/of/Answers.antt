use Rattle.std.proofs.Common.{◌||◌, ◌-◌, ◌++◌, ◌∷◌, [], List, get_or, length, take, drop, rules, of_calls, refl, sym, ap, subst, ◌∙◌, arith}
use Rattle.std.specs.List.Sorted.{IsNonDecreasingBy}
use Rattle.std.proofs.lemmas.List.{take_all}
use Rattle.std.proofs.lemmas.List.Sorted.{list_any-IsPermutation, IsNonDecreasingBy-from_sort_by_key}
use Rattle.net_index.specs.declared.range.Range.{Range}
use Rattle.net_index.specs.Ranges.{covers, is_within}
use Rattle.net_index.proofs.RangeLemmas.{covers_next, first_and_rest, first_begins, rest_sorted, rises_more}
use Rattle.net_index.proofs.ranges.Ranges.of.Goals as goal

abbrev none : Range
none = record { first = 0; last = 0 }

abbrev after_first : List Range → List Range
after_first all = take (length all - 1) (drop 1 all)

pub loop-range-init : goal.loop-range-init
loop-range-init c =
    let all = c.as_slice.result.now in
    let whole = first_and_rest all none (omega (arith, c.in-len1-up.len_at_least)) in
    let sorted : IsNonDecreasingBy (λ (range : Range). range.first) (get_or all 0 none ∷ after_first all) =
    subst (IsNonDecreasingBy (λ (range : Range). range.first)) (sym (whole ∙ c.as_slice.ensures.value))
    (IsNonDecreasingBy-from_sort_by_key (λ (range : Range). range.first) _ c.sort_unstable_by_key.ensures.sorted (λ a r f k. search (rules, of_calls))) in
    rw c.in_ok-items.ensures.items
    (record {
      apart = (tt, tt);
      rises = λ below. first_begins (get_or all 0 none) (after_first all) none sorted below;
      covers = λ n. refl;
    })

pub loop-range-preserved : goal.loop-range-preserved
loop-range-preserved c =
    let all = c.as_slice.result.now in
    let whole = first_and_rest all none (omega (arith, c.in-len1-up.len_at_least)) in
    let sorted : IsNonDecreasingBy (λ (range : Range). range.first) (get_or all 0 none ∷ after_first all) =
    subst (IsNonDecreasingBy (λ (range : Range). range.first)) (sym (whole ∙ c.as_slice.ensures.value))
    (IsNonDecreasingBy-from_sort_by_key (λ (range : Range). range.first) _ c.sort_unstable_by_key.ensures.sorted (λ a r f k. search (rules, of_calls))) in
    record {
      apart = c.in_ok-last.ensures.apart;
      rises = λ below. rises_more c.loop-range.range-index (after_first all) (c.join.new.items.items ++ c.in_ok-last.last ∷ []) none
          (rest_sorted (get_or all 0 none) (after_first all) sorted) below c.in_ok-last.ensures.rises;
      covers = λ n.
          c.in_ok-last.ensures.covers n ∙ ap (λ b. b || is_within n (get_or (after_first all) c.loop-range.range-index none)) (c.loop-range.invariant.covers n)
          ∙ sym (covers_next n c.loop-range.range-index (get_or all 0 none) (after_first all) none c.loop-range-test.true);
    }

pub returns : goal.returns
returns c n =
    let all = c.as_slice.result.now in
    let whole = first_and_rest all none (omega (arith, c.in-len1-up.len_at_least)) in
    ap (λ xs. covers xs n) c.in_ok-joined.ensures
    ∙ c.loop-range.invariant.covers n
    ∙ ap (λ xs. covers (get_or all 0 none ∷ xs) n) (take_all c.loop-range.range-index (after_first all) (omega (arith, c.loop-range-test.false)))
    ∙ ap (λ xs. covers xs n) (whole ∙ c.as_slice.ensures.value)
    ∙ sym (list_any-IsPermutation (is_within n) c.args.ranges.items _ c.sort_unstable_by_key.ensures.permutation)
