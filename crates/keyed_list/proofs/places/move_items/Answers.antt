use Rattle.std.proofs.Common.{◌+◌, ◌++◌, ◌∷◌, length, None, sym, ap, ◌∙◌, subst}
use Rattle.std.specs.Prelude.{◌≤◌, vec_len, vec_capacity}
use Rattle.std.specs.Vec.Iter.{into_iter_items}
use Rattle.keyed_list.specs.Boxes.{entries_in, opened_by}
use Rattle.keyed_list.specs.Entries.{Rise}
use Rattle.keyed_list.proofs.PlaceLemmas.{middle_out, skipped}
use Rattle.keyed_list.proofs.places.move_items.Goals as goal

pub loop-key-preserved : goal.loop-key-preserved
loop-key-preserved g c =
    let kept = c.loop-key.to.items in
    let left = into_iter_items c.next.new.self in
    let rest = c.in-Some.ensures.items ∙ ap (λ o. (c.in-Some.key, o) ∷ left) c.in_default-own.is in (
      sym (skipped (λ own. own.value) kept left c.in-Some.key) ∙ ap (λ ps. entries_in (opened_by (λ own. own.value) (kept ++ ps))) (sym rest) ∙ c.loop-key.invariant.0,
      (λ far rise. middle_out far kept (c.in-Some.key, None) left (subst (λ ps. Rise (λ p. p.0) (far ++ (kept ++ ps))) rest (c.loop-key.invariant.1 far rise))),
      subst (λ ps. vec_len c.loop-key.to + length (entries_in (opened_by (λ own. own.value) ps)) ≤ vec_capacity c.loop-key.to) rest c.loop-key.invariant.2,
    )
