use Rattle.std.proofs.Common.{◌≡◌, ◌==◌, false, Some, sym, ap, ◌∙◌, subst}
use Rattle.std.specs.List.{AllByRecursion}
use Rattle.std.specs.Option.{option_map}
use Rattle.keyed_list.specs.Boxes.{settled}
use Rattle.keyed_list.specs.Entries.{item_at, Rise}
use Rattle.keyed_list.proofs.PlaceLemmas.{at_place, near_item, rise-back}
use Rattle.keyed_list.proofs.TreeLemmas.{far_item}
use Rattle.keyed_list.proofs.list.KeyedList.get.Goals as goal

pub place_of-requires : goal.place_of-requires
place_of-requires g c = subst (λ ps. Rise (λ p. p.0) ps) (sym c.as_slice.ensures.value) (rise-back (λ p. p.0) (settled c.self.inside.tree.entries) c.self.inside.places.items c.self.invariant.rise)

pub returns-in-Some-1₀ : goal.returns-in-Some-1₀
returns-in-Some-1₀ g c =
    let there = at_place c.args.key c.as_slice.result.now c.self.inside.places.items c.as_slice.ensures.value c.in-Some.place c.in-Some.ensures.some c.index.result.now c.index.ensures in
    ap (λ x. Some x) c.deref.ensures ∙ ap (option_map (λ own. own.value)) (sym c.in-Some-1₀.is)
    ∙ near_item (λ own. own.value) c.args.key (settled c.self.inside.tree.entries) c.self.inside.places.items c.in-Some.place c.index.result.now c.self.invariant.rise there.0 there.1 ∙ ap (item_at c.args.key) c.self.view_is

pub returns-in-None-1₀ : goal.returns-in-None-1₀
returns-in-None-1₀ g c =
    let there = at_place c.args.key c.as_slice.result.now c.self.inside.places.items c.as_slice.ensures.value c.in-Some.place c.in-Some.ensures.some c.index.result.now c.index.ensures in
    ap (option_map (λ own. own.value)) (sym c.in-None-1₀.is) ∙ near_item (λ own. own.value) c.args.key (settled c.self.inside.tree.entries) c.self.inside.places.items c.in-Some.place c.index.result.now c.self.invariant.rise there.0 there.1 ∙ ap (item_at c.args.key) c.self.view_is

pub returns-in-Some-get : goal.returns-in-Some-get
returns-in-Some-get g c =
    ap (λ x. Some x) c.deref-in-Some-get.ensures ∙ ap (option_map (λ own. own.value)) c.in-Some-get.ensures.value ∙ far_item (λ own. own.value) c.args.key c.self.inside.tree.entries c.self.inside.places.items (subst (λ ps. AllByRecursion (λ p. (p.0 == c.args.key) ≡ false) ps) c.as_slice.ensures.value c.in-None.ensures.none) ∙ ap (item_at c.args.key) c.self.view_is

pub returns-in-None-get : goal.returns-in-None-get
returns-in-None-get g c =
    ap (option_map (λ own. own.value)) c.in-None-get.ensures.value ∙ far_item (λ own. own.value) c.args.key c.self.inside.tree.entries c.self.inside.places.items (subst (λ ps. AllByRecursion (λ p. (p.0 == c.args.key) ≡ false) ps) c.as_slice.ensures.value c.in-None.ensures.none) ∙ ap (item_at c.args.key) c.self.view_is
