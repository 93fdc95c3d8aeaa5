use Rattle.std.proofs.Common.{◌≡◌, ◌+◌, ◌==◌, ◌++◌, false, length, Some, None, refl, sym, ap, ◌∙◌, subst, arith}
use Rattle.std.specs.Prelude.{slice_set}
use Rattle.std.specs.List.{AllByRecursion}
use Rattle.std.specs.Option.{option_map}
use Rattle.std.specs.Map.{remove_entry}
use Rattle.std.specs.BTreeMap.{is_at}
use Rattle.std.specs.Ordering.{nat_cmp}
use Rattle.keyed_list.specs.Boxes.{entries_in, opened_by, settled}
use Rattle.keyed_list.specs.Entries.{item_at, total, without, Rise}
use Rattle.keyed_list.proofs.PlaceLemmas.{at_place, near_item, near_left, near_one_less, near_rise, near_worth, one_less, rise-back, same-after}
use Rattle.keyed_list.proofs.TreeLemmas.{far_item, far_left, far_one_less, far_rise_left, far_worth}
use Rattle.keyed_list.proofs.list.KeyedList.take.Goals as goal

pub place_of-requires : goal.place_of-requires
place_of-requires g c = subst (λ ps. Rise (λ p. p.0) ps) (sym c.as_slice.ensures.value) (rise-back (λ p. p.0) (settled c.self.inside.tree.entries) c.self.inside.places.items c.self.invariant.rise)

pub returns-in_err-own-clause-item : goal.returns-in_err-own-clause-item
returns-in_err-own-clause-item g c =
    c.from_residual.ensures ∙ ap (option_map (λ own. own.value)) c.in_err-own.ensures.value ∙ far_item (λ own. own.value) c.args.key c.self.inside.tree.entries c.self.inside.places.items (subst (λ ps. AllByRecursion (λ p. (p.0 == c.args.key) ≡ false) ps) c.as_slice.ensures.value c.in_default.ensures.none) ∙ ap (item_at c.args.key) c.self.view_is

pub returns-in_err-own-clause-left : goal.returns-in_err-own-clause-left
returns-in_err-own-clause-left g c =
    ap (λ t. entries_in (opened_by (λ own. own.value) (settled t ++ c.self.inside.places.items))) c.remove.ensures.entries ∙ far_left (λ own. own.value) c.args.key c.self.inside.tree.entries c.self.inside.places.items c.self.invariant.rise (subst (λ ps. AllByRecursion (λ p. (p.0 == c.args.key) ≡ false) ps) c.as_slice.ensures.value c.in_default.ensures.none) ∙ ap (without c.args.key) c.self.view_is

pub invariant_of-self-in_default : goal.invariant_of-self-in_default
invariant_of-self-in_default g c =
    let less = far_one_less (λ own. own.value) c.args.key c.in_ok-own.own c.self.inside.tree.entries c.self.inside.places.items (sym c.in_ok-own.ensures.value) in
    let same = ap (λ t. length (entries_in (opened_by (λ own. own.value) (settled t ++ c.self.inside.places.items)))) c.remove.ensures.entries in
    let few = c.self.invariant.few in
    record {
      rise = subst (λ t. Rise (λ p. p.0) (settled t ++ c.self.inside.places.items)) (sym c.remove.ensures.entries) (far_rise_left (is_at (nat_cmp c.args.key)) c.self.inside.tree.entries c.self.inside.places.items c.self.invariant.rise);
      count = c.self.invariant.count;
      few = omega (arith, less, same, few);
    }

pub returns-in_default-clause-item : goal.returns-in_default-clause-item
returns-in_default-clause-item g c =
    ap (λ x. Some x) c.into_inner.ensures ∙ ap (option_map (λ own. own.value)) c.in_ok-own.ensures.value ∙ far_item (λ own. own.value) c.args.key c.self.inside.tree.entries c.self.inside.places.items (subst (λ ps. AllByRecursion (λ p. (p.0 == c.args.key) ≡ false) ps) c.as_slice.ensures.value c.in_default.ensures.none) ∙ ap (item_at c.args.key) c.self.view_is

pub returns-in_default-clause-left : goal.returns-in_default-clause-left
returns-in_default-clause-left g c =
    ap (λ t. entries_in (opened_by (λ own. own.value) (settled t ++ c.self.inside.places.items))) c.remove.ensures.entries ∙ far_left (λ own. own.value) c.args.key c.self.inside.tree.entries c.self.inside.places.items c.self.invariant.rise (subst (λ ps. AllByRecursion (λ p. (p.0 == c.args.key) ≡ false) ps) c.as_slice.ensures.value c.in_default.ensures.none) ∙ ap (without c.args.key) c.self.view_is

pub returns-in_default-clause-counts : goal.returns-in_default-clause-counts
returns-in_default-clause-counts g c = λ worth.
    ap (λ t. total worth (entries_in (opened_by (λ own. own.value) (settled t ++ c.self.inside.places.items))) + worth (c.args.key, c.into_inner.result)) c.remove.ensures.entries
    ∙ ap (λ x. total worth (entries_in (opened_by (λ own. own.value) (settled (remove_entry (is_at (nat_cmp c.args.key)) c.self.inside.tree.entries) ++ c.self.inside.places.items))) + worth (c.args.key, x)) c.into_inner.ensures
    ∙ far_worth (λ own. own.value) c.args.key worth c.in_ok-own.own c.self.inside.tree.entries c.self.inside.places.items (sym c.in_ok-own.ensures.value) ∙ ap (total worth) c.self.view_is

pub returns-in_err-own-2-clause-item : goal.returns-in_err-own-2-clause-item
returns-in_err-own-2-clause-item g c =
    let there = at_place c.args.key c.as_slice.result.now c.self.inside.places.items c.as_slice.ensures.value c.in-Some.place c.in-Some.ensures.some c.index_mut.result.now c.index_mut.ensures.value in
    c.from_residual-in_err-own-2.ensures ∙ ap (option_map (λ own. own.value)) c.in_err-own-2.ensures.value ∙ near_item (λ own. own.value) c.args.key (settled c.self.inside.tree.entries) c.self.inside.places.items c.in-Some.place c.index_mut.result.now c.self.invariant.rise there.0 there.1 ∙ ap (item_at c.args.key) c.self.view_is

pub returns-in_err-own-2-clause-left : goal.returns-in_err-own-2-clause-left
returns-in_err-own-2-clause-left g c =
    let there = at_place c.args.key c.as_slice.result.now c.self.inside.places.items c.as_slice.ensures.value c.in-Some.place c.in-Some.ensures.some c.index_mut.result.now c.index_mut.ensures.value in
    ap (λ o. entries_in (opened_by (λ own. own.value) ((settled c.self.inside.tree.entries) ++ slice_set c.self.inside.places.items c.in-Some.place (c.index_mut.result.now.0, o)))) c.take.ensures.after ∙ near_left (λ own. own.value) c.args.key (settled c.self.inside.tree.entries) c.self.inside.places.items c.in-Some.place c.index_mut.result.now c.self.invariant.rise there.0 there.1 ∙ ap (without c.args.key) c.self.view_is

pub overflow_sub-self : goal.overflow_sub-self
overflow_sub-self g c =
    let there = at_place c.args.key c.as_slice.result.now c.self.inside.places.items c.as_slice.ensures.value c.in-Some.place c.in-Some.ensures.some c.index_mut.result.now c.index_mut.ensures.value in
    let less = one_less (λ own. own.value) c.in_ok-own-2.own c.self.inside.places.items c.in-Some.place c.index_mut.result.now there.0 (sym c.in_ok-own-2.ensures.value) in
    let count = c.self.invariant.count in
    omega (arith, less, count)

pub close_up-requires : goal.close_up-requires
close_up-requires g c =
    let there = at_place c.args.key c.as_slice.result.now c.self.inside.places.items c.as_slice.ensures.value c.in-Some.place c.in-Some.ensures.some c.index_mut.result.now c.index_mut.ensures.value in
    let less = one_less (λ own. own.value) c.in_ok-own-2.own c.self.inside.places.items c.in-Some.place c.index_mut.result.now there.0 (sym c.in_ok-own-2.ensures.value) in
    let same = ap length (ap (λ o. entries_in (opened_by (λ own. own.value) (slice_set c.self.inside.places.items c.in-Some.place (c.index_mut.result.now.0, o)))) c.take.ensures.after) in
    let count = c.self.invariant.count in
    omega (arith, less, same, count)

pub invariant_of-self-2 : goal.invariant_of-self-2
invariant_of-self-2 g c =
    let there = at_place c.args.key c.as_slice.result.now c.self.inside.places.items c.as_slice.ensures.value c.in-Some.place c.in-Some.ensures.some c.index_mut.result.now c.index_mut.ensures.value in
    let less = one_less (λ own. own.value) c.in_ok-own-2.own c.self.inside.places.items c.in-Some.place c.index_mut.result.now there.0 (sym c.in_ok-own-2.ensures.value) in
    let same = ap length (c.close_up.ensures.entries ∙ ap (λ o. entries_in (opened_by (λ own. own.value) (slice_set c.self.inside.places.items c.in-Some.place (c.index_mut.result.now.0, o)))) c.take.ensures.after) in
    let whole = ap length (same-after (λ own. own.value) (settled c.self.inside.tree.entries) c.close_up.new.places.items (slice_set c.self.inside.places.items c.in-Some.place (c.index_mut.result.now.0, c.take.new.self)) c.close_up.ensures.entries ∙ ap (λ o. entries_in (opened_by (λ own. own.value) ((settled c.self.inside.tree.entries) ++ slice_set c.self.inside.places.items c.in-Some.place (c.index_mut.result.now.0, o)))) c.take.ensures.after) in
    let fewer = near_one_less (λ own. own.value) c.in_ok-own-2.own (settled c.self.inside.tree.entries) c.self.inside.places.items c.in-Some.place c.index_mut.result.now there.0 (sym c.in_ok-own-2.ensures.value) in
    let count = c.self.invariant.count in
    let few = c.self.invariant.few in
    record {
      rise = c.close_up.ensures.rise (settled c.self.inside.tree.entries) (near_rise (λ own. own.value) (settled c.self.inside.tree.entries) c.self.inside.places.items c.in-Some.place c.index_mut.result.now (c.index_mut.result.now.0, c.take.new.self) there.0 refl c.self.invariant.rise);
      count = omega (arith, less, same, count);
      few = omega (arith, whole, fewer, few);
    }

pub returns-clause-item : goal.returns-clause-item
returns-clause-item g c =
    let there = at_place c.args.key c.as_slice.result.now c.self.inside.places.items c.as_slice.ensures.value c.in-Some.place c.in-Some.ensures.some c.index_mut.result.now c.index_mut.ensures.value in
    ap (λ x. Some x) c.into_inner-2.ensures ∙ ap (option_map (λ own. own.value)) c.in_ok-own-2.ensures.value ∙ near_item (λ own. own.value) c.args.key (settled c.self.inside.tree.entries) c.self.inside.places.items c.in-Some.place c.index_mut.result.now c.self.invariant.rise there.0 there.1 ∙ ap (item_at c.args.key) c.self.view_is

pub returns-clause-left : goal.returns-clause-left
returns-clause-left g c =
    let there = at_place c.args.key c.as_slice.result.now c.self.inside.places.items c.as_slice.ensures.value c.in-Some.place c.in-Some.ensures.some c.index_mut.result.now c.index_mut.ensures.value in
    same-after (λ own. own.value) (settled c.self.inside.tree.entries) c.close_up.new.places.items (slice_set c.self.inside.places.items c.in-Some.place (c.index_mut.result.now.0, c.take.new.self)) c.close_up.ensures.entries ∙ ap (λ o. entries_in (opened_by (λ own. own.value) ((settled c.self.inside.tree.entries) ++ slice_set c.self.inside.places.items c.in-Some.place (c.index_mut.result.now.0, o)))) c.take.ensures.after ∙ near_left (λ own. own.value) c.args.key (settled c.self.inside.tree.entries) c.self.inside.places.items c.in-Some.place c.index_mut.result.now c.self.invariant.rise there.0 there.1 ∙ ap (without c.args.key) c.self.view_is

pub returns-clause-counts : goal.returns-clause-counts
returns-clause-counts g c = λ worth.
    let there = at_place c.args.key c.as_slice.result.now c.self.inside.places.items c.as_slice.ensures.value c.in-Some.place c.in-Some.ensures.some c.index_mut.result.now c.index_mut.ensures.value in
    ap (λ es. total worth es + worth (c.args.key, c.into_inner-2.result)) (same-after (λ own. own.value) (settled c.self.inside.tree.entries) c.close_up.new.places.items (slice_set c.self.inside.places.items c.in-Some.place (c.index_mut.result.now.0, c.take.new.self)) c.close_up.ensures.entries ∙ ap (λ o. entries_in (opened_by (λ own. own.value) ((settled c.self.inside.tree.entries) ++ slice_set c.self.inside.places.items c.in-Some.place (c.index_mut.result.now.0, o)))) c.take.ensures.after)
    ∙ ap (λ e. total worth (entries_in (opened_by (λ own. own.value) ((settled c.self.inside.tree.entries) ++ slice_set c.self.inside.places.items c.in-Some.place (c.index_mut.result.now.0, None)))) + worth e) (ap (λ k. (k, c.into_inner-2.result)) (sym there.1) ∙ ap (λ x. (c.index_mut.result.now.0, x)) c.into_inner-2.ensures)
    ∙ near_worth (λ own. own.value) worth c.in_ok-own-2.own (settled c.self.inside.tree.entries) c.self.inside.places.items c.in-Some.place c.index_mut.result.now there.0 (sym c.in_ok-own-2.ensures.value) ∙ ap (total worth) c.self.view_is
