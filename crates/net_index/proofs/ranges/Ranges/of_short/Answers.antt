use Rattle.std.proofs.Common.{◌≡◌, ◌||◌, ◌+◌, ◌-◌, ◌<◌, ◌++◌, ◌∷◌, [], List, map, get_or, length, take, drop, rules, of_calls, refl, sym, ap, subst, ◌∙◌, arith}
use Rattle.std.specs.List.Sorted.{IsNonDecreasingBy}
use Rattle.std.proofs.lemmas.List.{get_or-map, length-map, take_all}
use Rattle.std.proofs.lemmas.List.Sorted.{list_any-IsPermutation, IsNonDecreasingBy-from_sort_by_key}
use Rattle.net_index.specs.declared.range.Range.{Range}
use Rattle.net_index.specs.declared.range.Short.{Short}
use Rattle.net_index.specs.Ranges.{covers, is_within, wide, BeginBefore}
use Rattle.net_index.proofs.RangeLemmas.{any_wide, covers_next, first_and_rest, first_begins, rest_sorted, rises_more, wide_sorted}
use Rattle.net_index.proofs.ranges.Ranges.of_short.Goals as goal

abbrev none : Range
none = record { first = 0; last = 0 }

abbrev short : Short
short = record { first = 0; last = 0 }

abbrev after_first : List Short → List Short
after_first all = take (length all - 1) (drop 1 all)

pub loop-range-init : goal.loop-range-init
loop-range-init c =
    let all = c.as_slice.result.now in
    let whole = first_and_rest all short (omega (arith, c.in-len1-up.len_at_least)) in
    let sorted : IsNonDecreasingBy (λ (range : Range). range.first) (map wide (get_or all 0 short ∷ after_first all)) =
    wide_sorted (get_or all 0 short ∷ after_first all)
    (subst (IsNonDecreasingBy (λ (range : Short). range.first)) (sym (whole ∙ c.as_slice.ensures.value))
    (IsNonDecreasingBy-from_sort_by_key (λ (range : Short). range.first) _ c.sort_unstable_by_key.ensures.sorted (λ a r f k. search (rules, of_calls)))) in
    rw (c.in_ok-items.ensures.items, c.wide-last.ensures)
    (record {
      apart = (tt, tt);
      rises = λ below. first_begins (wide (get_or all 0 short)) (map wide (after_first all)) none sorted (subst (λ n. 0 < n) (sym (length-map (after_first all) wide)) below);
      covers = λ n. refl;
    })

pub loop-range-preserved : goal.loop-range-preserved
loop-range-preserved c =
    let all = c.as_slice.result.now in
    let at = c.loop-range.range-index in
    let more = after_first all in
    let count = sym (length-map more wide) in
    let whole = first_and_rest all short (omega (arith, c.in-len1-up.len_at_least)) in
    let sorted : IsNonDecreasingBy (λ (range : Range). range.first) (map wide (get_or all 0 short ∷ more)) =
    wide_sorted (get_or all 0 short ∷ more)
    (subst (IsNonDecreasingBy (λ (range : Short). range.first)) (sym (whole ∙ c.as_slice.ensures.value))
    (IsNonDecreasingBy-from_sort_by_key (λ (range : Short). range.first) _ c.sort_unstable_by_key.ensures.sorted (λ a r f k. search (rules, of_calls)))) in
    let this : c.wide.result ≡ get_or (map wide more) at none = c.wide.ensures ∙ sym (get_or-map wide more at short none c.loop-range-test.true) in
    record {
      apart = c.in_ok-last.ensures.apart;
      rises = λ below. rises_more at (map wide more) (c.join.new.items.items ++ c.in_ok-last.last ∷ []) none
          (rest_sorted (wide (get_or all 0 short)) (map wide more) sorted) (subst (λ n. at + 1 < n) count below)
          (subst (λ r. BeginBefore r.first (c.join.new.items.items ++ c.in_ok-last.last ∷ [])) this c.in_ok-last.ensures.rises);
      covers = λ n.
          c.in_ok-last.ensures.covers n ∙ ap (λ b. b || is_within n c.wide.result) (c.loop-range.invariant.covers n)
          ∙ ap (λ r. covers (c.wide-last.result ∷ take at (map wide more)) n || is_within n r) this
          ∙ sym (covers_next n at c.wide-last.result (map wide more) none (subst (λ n. at < n) count c.loop-range-test.true));
    }

pub returns : goal.returns
returns c n =
    let all = c.as_slice.result.now in
    let more = after_first all in
    let count = length-map more wide in
    let whole = first_and_rest all short (omega (arith, c.in-len1-up.len_at_least)) in
    ap (λ xs. covers xs n) c.in_ok-joined.ensures
    ∙ c.loop-range.invariant.covers n
    ∙ ap (λ xs. covers (c.wide-last.result ∷ xs) n) (take_all c.loop-range.range-index (map wide more) (omega (arith, count, c.loop-range-test.false)))
    ∙ ap (λ r. covers (r ∷ map wide more) n) c.wide-last.ensures
    ∙ ap (λ xs. covers (map wide xs) n) (whole ∙ c.as_slice.ensures.value)
    ∙ any_wide n _
    ∙ sym (list_any-IsPermutation (λ s. is_within n (wide s)) c.args.ranges.items _ c.sort_unstable_by_key.ensures.permutation)
    ∙ sym (any_wide n c.args.ranges.items)
