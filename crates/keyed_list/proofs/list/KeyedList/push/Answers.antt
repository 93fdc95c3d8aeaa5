use Rattle.std.proofs.Common.{◌<◌, ◌++◌, ◌∷◌, [], length, Some, sym, ap, ◌∙◌, subst, arith, length-append, append_assoc}
use Rattle.std.specs.List.{AllByRecursion}
use Rattle.keyed_list.specs.Boxes.{entries_in, opened_by, settled}
use Rattle.keyed_list.specs.Entries.{Rise}
use Rattle.keyed_list.proofs.EntryLemmas.{rise-last}
use Rattle.keyed_list.proofs.PlaceLemmas.{entries-last, rise-back, same-after}
use Rattle.keyed_list.proofs.TreeLemmas.{length-settled}
use Rattle.keyed_list.proofs.EntryLemmas.{all-append}
use Rattle.keyed_list.proofs.TreeLemmas.{far_below}
use Rattle.keyed_list.proofs.list.KeyedList.push.Goals as goal

pub trim-requires : goal.trim-requires
trim-requires g c = rise-back (λ p. p.0) (settled c.self-2.inside.tree.entries) c.self-2.inside.places.items c.self-2.invariant.rise

pub overflow_add-self : goal.overflow_add-self
overflow_add-self g c =
    let few = c.self-2.invariant.few in
    let count = c.self-2.invariant.count in
    let both = length-settled (λ own. own.value) c.self-2.inside.tree.entries c.self-2.inside.places.items in
    omega (arith, few, count, both)

pub invariant_of-self : goal.invariant_of-self
invariant_of-self g c =
    let below = far_below (λ own. own.value) (λ k. k < c.args.key) c.self-2.inside.tree.entries c.self-2.inside.places.items (subst (λ es. AllByRecursion (λ e. e.0 < c.args.key) es) (sym (c.self-2.view_is ∙ c.settle_first.ensures)) c.requires) in
    let all = all-append (λ p. p.0 < c.args.key) (settled c.self-2.inside.tree.entries) c.trim.new.places.items below.0 (c.trim.ensures.below c.args.key (subst (λ es. AllByRecursion (λ e. e.0 < c.args.key) es) (sym c.trim.ensures.entries) below.1)) in
    let more = ap length (ap (λ ps. entries_in (opened_by (λ own. own.value) (ps))) c.in-Ok.ensures.items ∙ entries-last (λ own. own.value) c.trim.new.places.items (c.args.key, Some c.in_ok-own.own)) ∙ length-append (entries_in (opened_by (λ own. own.value) (c.trim.new.places.items))) ((c.args.key, c.in_ok-own.own.value) ∷ []) in
    let same = ap length c.trim.ensures.entries in
    let count = c.self-2.invariant.count in
    let before = length-settled (λ own. own.value) c.self-2.inside.tree.entries c.self-2.inside.places.items in
    let after = length-settled (λ own. own.value) c.self-2.inside.tree.entries c.push.new.self.items in
    let len = c.len.ensures.value in
    let listed = ap length (c.self-2.view_is ∙ c.settle_first.ensures) in
    let few = c.if-len-ge-MOST.false in
    record {
      rise = subst (λ ps. Rise (λ p. p.0) ((settled c.self-2.inside.tree.entries) ++ ps)) (sym c.in-Ok.ensures.items)
          (subst (λ ps. Rise (λ p. p.0) ps) (append_assoc (settled c.self-2.inside.tree.entries) c.trim.new.places.items ((c.args.key, Some c.in_ok-own.own) ∷ [])) (rise-last (λ p. p.0) ((settled c.self-2.inside.tree.entries) ++ c.trim.new.places.items) (c.args.key, Some c.in_ok-own.own) (c.trim.ensures.rise (settled c.self-2.inside.tree.entries) c.self-2.invariant.rise) all));
      count = omega (arith, more, same, count);
      few = omega (arith, more, same, before, after, len, listed, few);
    }

pub invariant_of-self-in-Err : goal.invariant_of-self-in-Err
invariant_of-self-in-Err g c =
    let same = ap (λ ps. length (entries_in (opened_by (λ own. own.value) (ps)))) c.in-Err.ensures.items ∙ ap length c.trim.ensures.entries in
    let before = length-settled (λ own. own.value) c.self-2.inside.tree.entries c.self-2.inside.places.items in
    let after = length-settled (λ own. own.value) c.self-2.inside.tree.entries c.push.new.self.items in
    let few = c.self-2.invariant.few in
    record {
      rise = subst (λ ps. Rise (λ p. p.0) ((settled c.self-2.inside.tree.entries) ++ ps)) (sym c.in-Err.ensures.items) (c.trim.ensures.rise (settled c.self-2.inside.tree.entries) c.self-2.invariant.rise);
      count = c.self-2.invariant.count ∙ sym same;
      few = omega (arith, same, before, after, few);
    }

pub returns-in-Ok-clause-ok : goal.returns-in-Ok-clause-ok
returns-in-Ok-clause-ok g c =
    ap (λ ps. entries_in (opened_by (λ own. own.value) ((settled c.self-2.inside.tree.entries) ++ ps))) c.in-Ok.ensures.items ∙ ap (λ ps. entries_in (opened_by (λ own. own.value) (ps))) (sym (append_assoc (settled c.self-2.inside.tree.entries) c.trim.new.places.items ((c.args.key, Some c.in_ok-own.own) ∷ []))) ∙ entries-last (λ own. own.value) ((settled c.self-2.inside.tree.entries) ++ c.trim.new.places.items) (c.args.key, Some c.in_ok-own.own)
    ∙ ap (λ es. es ++ (c.args.key, c.in_ok-own.own.value) ∷ []) (same-after (λ own. own.value) (settled c.self-2.inside.tree.entries) c.trim.new.places.items c.self-2.inside.places.items c.trim.ensures.entries ∙ (c.self-2.view_is ∙ c.settle_first.ensures)) ∙ ap (λ x. c.args.self.now ++ (c.args.key, x) ∷ []) c.in_ok-own.ensures.ok

pub returns-in-Some-clause-err : goal.returns-in-Some-clause-err
returns-in-Some-clause-err g c =
    ap (λ ps. entries_in (opened_by (λ own. own.value) ((settled c.self-2.inside.tree.entries) ++ ps))) c.in-Err.ensures.items ∙ same-after (λ own. own.value) (settled c.self-2.inside.tree.entries) c.trim.new.places.items c.self-2.inside.places.items c.trim.ensures.entries ∙ (c.self-2.view_is ∙ c.settle_first.ensures)
