use Rattle.std.proofs.Common.{◌≡◌, ◌==◌, ◌++◌, false, length, Some, None, refl, sym, ap, ◌∙◌, subst, is_some}
use Rattle.std.specs.Prelude.{IsSome}
use Rattle.std.specs.List.{AllByRecursion}
use Rattle.std.specs.Option.{option_map}
use Rattle.std.specs.Box.{with_value}
use Rattle.std.specs.BTreeMap.{is_at}
use Rattle.std.specs.Ordering.{nat_cmp}
use Rattle.std.proofs.lemmas.Bool.{false≢true}
use Rattle.keyed_list.specs.Boxes.{entries_in, opened_by, settled}
use Rattle.keyed_list.specs.Entries.{item_at, with_item, IsFew, Rise}
use Rattle.keyed_list.proofs.PlaceLemmas.{at_place, near_item, near_put, near_rise, near_same_count, rise-back, same_count}
use Rattle.keyed_list.proofs.TreeLemmas.{far_item, far_put, far_rise_put, far_same_count}
use Rattle.keyed_list.proofs.list.KeyedList.at_mut.Goals as goal

pub place_of-requires : goal.place_of-requires
place_of-requires g c = subst (λ ps. Rise (λ p. p.0) ps) (sym c.as_slice.ensures.value) (rise-back (λ p. p.0) (settled c.self.inside.tree.entries) c.self.inside.places.items c.self.invariant.rise)

pub unreachable-requires : goal.unreachable-requires
unreachable-requires g c =
    let there = at_place c.args.key c.as_slice.result.now c.self.inside.places.items c.as_slice.ensures.value c.in-Some.place c.in-Some.ensures.some c.index_mut.result.now c.index_mut.ensures.value in
    let none : item_at c.args.key (entries_in (opened_by (λ own. own.value) ((settled c.self.inside.tree.entries) ++ c.self.inside.places.items))) ≡ None = sym (near_item (λ own. own.value) c.args.key (settled c.self.inside.tree.entries) c.self.inside.places.items c.in-Some.place c.index_mut.result.now c.self.invariant.rise there.0 there.1) ∙ ap (option_map (λ own. own.value)) (sym c.in-None-as_mut.ensures.value) in
    false≢true (ap is_some (sym none) ∙ subst (λ es. IsSome (item_at c.args.key es)) (sym c.self.view_is) c.requires)

pub invariant_of-self-lent : goal.invariant_of-self-lent
invariant_of-self-lent g c = λ w.
    let there = at_place c.args.key c.as_slice.result.now c.self.inside.places.items c.as_slice.ensures.value c.in-Some.place c.in-Some.ensures.some c.index_mut.result.now c.index_mut.ensures.value in
    record {
      rise = near_rise (λ own. own.value) (settled c.self.inside.tree.entries) c.self.inside.places.items c.in-Some.place c.index_mut.result.now (c.index_mut.result.now.0, Some (with_value c.in-Some-as_mut.own.now w)) there.0 refl c.self.invariant.rise;
      count = c.self.invariant.count
          ∙ sym (same_count (λ own. own.value) c.args.key (with_value c.in-Some-as_mut.own.now w) c.in-Some-as_mut.own.now c.self.inside.places.items c.in-Some.place c.index_mut.result.now (rise-back (λ p. p.0) (settled c.self.inside.tree.entries) c.self.inside.places.items c.self.invariant.rise) there.0 there.1 (sym c.in-Some-as_mut.ensures.value));
      few = subst IsFew (sym (near_same_count (λ own. own.value) c.args.key (with_value c.in-Some-as_mut.own.now w) c.in-Some-as_mut.own.now (settled c.self.inside.tree.entries) c.self.inside.places.items c.in-Some.place c.index_mut.result.now c.self.invariant.rise there.0 there.1 (sym c.in-Some-as_mut.ensures.value))) c.self.invariant.few;
    }

pub unreachable-requires-in-None-get_mut : goal.unreachable-requires-in-None-get_mut
unreachable-requires-in-None-get_mut g c =
    let none : item_at c.args.key (entries_in (opened_by (λ own. own.value) ((settled c.self.inside.tree.entries) ++ c.self.inside.places.items))) ≡ None = sym (far_item (λ own. own.value) c.args.key c.self.inside.tree.entries c.self.inside.places.items (subst (λ ps. AllByRecursion (λ p. (p.0 == c.args.key) ≡ false) ps) c.as_slice.ensures.value c.in-None.ensures.none)) ∙ sym (ap (option_map (λ own. own.value)) c.in-None-get_mut.ensures.value) in
    false≢true (ap is_some (sym none) ∙ subst (λ es. IsSome (item_at c.args.key es)) (sym c.self.view_is) c.requires)

pub invariant_of-self-lent-in-None : goal.invariant_of-self-lent-in-None
invariant_of-self-lent-in-None g c = λ w.
    let written = (c.get_mut.follows.holds (with_value c.in-Some-get_mut.far.now w)).0 in
    record {
      rise = subst (λ t. Rise (λ p. p.0) (settled t ++ c.self.inside.places.items)) (sym written) (far_rise_put (is_at (nat_cmp c.args.key)) (with_value c.in-Some-get_mut.far.now w) c.self.inside.tree.entries c.self.inside.places.items c.self.invariant.rise);
      count = c.self.invariant.count;
      few = subst (λ t. IsFew (length (entries_in (opened_by (λ own. own.value) (settled t ++ c.self.inside.places.items))))) (sym written) (subst IsFew (sym (far_same_count (λ own. own.value) c.args.key (with_value c.in-Some-get_mut.far.now w) c.self.inside.tree.entries c.self.inside.places.items c.self.invariant.rise (subst (λ ps. AllByRecursion (λ p. (p.0 == c.args.key) ≡ false) ps) c.as_slice.ensures.value c.in-None.ensures.none))) c.self.invariant.few);
    }

pub returns-in-Some-as_mut : goal.returns-in-Some-as_mut
returns-in-Some-as_mut g c =
    let there = at_place c.args.key c.as_slice.result.now c.self.inside.places.items c.as_slice.ensures.value c.in-Some.place c.in-Some.ensures.some c.index_mut.result.now c.index_mut.ensures.value in (
      (
        refl,
        λ w. near_put (λ own. own.value) c.args.key (with_value c.in-Some-as_mut.own.now w) c.in-Some-as_mut.own.now (settled c.self.inside.tree.entries) c.self.inside.places.items c.in-Some.place c.index_mut.result.now c.self.invariant.rise there.0 there.1 (sym c.in-Some-as_mut.ensures.value) ∙ ap (λ es. with_item c.args.key es w) c.self.view_is,
      ),
      record {
        writes_back = tt;
        value = ap (item_at c.args.key) (sym c.self.view_is) ∙ sym (near_item (λ own. own.value) c.args.key (settled c.self.inside.tree.entries) c.self.inside.places.items c.in-Some.place c.index_mut.result.now c.self.invariant.rise there.0 there.1) ∙ ap (option_map (λ own. own.value)) (sym c.in-Some-as_mut.ensures.value) ∙ ap (λ x. Some x) (sym c.deref_mut.ensures.value);
      },
    )

pub returns-in-Some-get_mut : goal.returns-in-Some-get_mut
returns-in-Some-get_mut g c = (
  (
    refl,
    λ w. ap (λ t. entries_in (opened_by (λ own. own.value) (settled t ++ c.self.inside.places.items))) (c.get_mut.follows.holds (with_value c.in-Some-get_mut.far.now w)).0 ∙ far_put (λ own. own.value) c.args.key (with_value c.in-Some-get_mut.far.now w) c.self.inside.tree.entries c.self.inside.places.items c.self.invariant.rise (subst (λ ps. AllByRecursion (λ p. (p.0 == c.args.key) ≡ false) ps) c.as_slice.ensures.value c.in-None.ensures.none) ∙ ap (λ es. with_item c.args.key es w) c.self.view_is,
  ),
  record {
    writes_back = tt;
    value = ap (item_at c.args.key) (sym c.self.view_is) ∙ sym (far_item (λ own. own.value) c.args.key c.self.inside.tree.entries c.self.inside.places.items (subst (λ ps. AllByRecursion (λ p. (p.0 == c.args.key) ≡ false) ps) c.as_slice.ensures.value c.in-None.ensures.none)) ∙ sym (ap (option_map (λ own. own.value)) c.in-Some-get_mut.ensures.value) ∙ ap (λ x. Some x) (sym c.deref_mut-in-Some-get_mut.ensures.value);
  },
)
