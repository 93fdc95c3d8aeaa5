use Rattle.std.proofs.Common.{◌≡◌, ◌++◌, ◌∷◌, length, Some, None, sym, ap, ◌∙◌, subst, arith}
use Rattle.keyed_list.specs.Boxes.{entries_in, opened_by, settled}
use Rattle.keyed_list.specs.Entries.{Rise}
use Rattle.keyed_list.proofs.PlaceLemmas.{below-next, rise-drop, skipped}
use Rattle.keyed_list.proofs.TreeLemmas.{not_there}
use Rattle.std.specs.Vec.Iter.{into_iter_items}
use Rattle.keyed_list.proofs.TreeLemmas.{settled_to_next}
use Rattle.keyed_list.proofs.places.settle_first.Goals as goal

pub loop-place-preserved-in_default-own : goal.loop-place-preserved-in_default-own
loop-place-preserved-in_default-own g c =
    let rest = (c.in-Some.ensures.items ∙ ap (λ o. (c.in-Some.key, o) ∷ into_iter_items c.next.new.self) c.in_default-own.is) in
    let count = c.loop-place.invariant.2 in
    let same = ap (λ ps. length (entries_in (opened_by (λ own. own.value) (ps)))) rest in
    let moved = c.loop-place.invariant.3 in (
      sym (skipped (λ own. own.value) (settled c.loop-place.tree.entries) (into_iter_items c.next.new.self) c.in-Some.key) ∙ ap (λ ps. entries_in (opened_by (λ own. own.value) (settled c.loop-place.tree.entries ++ ps))) (sym rest) ∙ c.loop-place.invariant.0,
      rise-drop (λ p. p.0) (settled c.loop-place.tree.entries) (c.in-Some.key, None) (into_iter_items c.next.new.self) (subst (λ ps. Rise (λ p. p.0) (settled c.loop-place.tree.entries ++ ps)) rest c.loop-place.invariant.1),
      omega (arith, count, same),
      omega (arith, moved),
      c.loop-place.invariant.4,
      c.loop-place.invariant.5,
    )

pub unreachable-requires : goal.unreachable-requires
unreachable-requires g c =
    let some : Some c.in-Ok-Some._own ≡ None = sym c.in-Ok-Some.field-0-is ∙ c.in-Ok-Some.ensures.old ∙ not_there c.in-Some.key c.loop-place.tree.entries (below-next (λ p. p.0) (settled c.loop-place.tree.entries) (c.in-Some.key, Some c.in-Some-own.own) (into_iter_items c.next.new.self) (subst (λ ps. Rise (λ p. p.0) (settled c.loop-place.tree.entries ++ ps)) (c.in-Some.ensures.items ∙ ap (λ o. (c.in-Some.key, o) ∷ into_iter_items c.next.new.self) c.in-Some-own.is) c.loop-place.invariant.1)) in
    cc

pub loop-place-preserved : goal.loop-place-preserved
loop-place-preserved g c =
    let rest = (c.in-Some.ensures.items ∙ ap (λ o. (c.in-Some.key, o) ∷ into_iter_items c.next.new.self) c.in-Some-own.is) in
    let moves = settled_to_next c.loop-place.tree.entries (c.insert.new.self.entries) (into_iter_items c.next.new.self) c.in-Some.key c.in-Some-own.own (below-next (λ p. p.0) (settled c.loop-place.tree.entries) (c.in-Some.key, Some c.in-Some-own.own) (into_iter_items c.next.new.self) (subst (λ ps. Rise (λ p. p.0) (settled c.loop-place.tree.entries ++ ps)) (c.in-Some.ensures.items ∙ ap (λ o. (c.in-Some.key, o) ∷ into_iter_items c.next.new.self) c.in-Some-own.is) c.loop-place.invariant.1)) c.in-Ok-None.ensures.entries in
    let count = c.loop-place.invariant.2 in
    let same = ap (λ ps. length (entries_in (opened_by (λ own. own.value) (ps)))) rest in
    let moved = c.loop-place.invariant.3 in (
      ap (λ ps. entries_in (opened_by (λ own. own.value) (ps))) (moves ∙ ap (λ ps. settled c.loop-place.tree.entries ++ ps) (sym rest)) ∙ c.loop-place.invariant.0,
      subst (λ ps. Rise (λ p. p.0) ps) (sym (moves ∙ ap (λ ps. settled c.loop-place.tree.entries ++ ps) (sym rest))) c.loop-place.invariant.1,
      omega (arith, count, same),
      omega (arith, moved),
      c.loop-place.invariant.4,
      c.loop-place.invariant.5,
    )
