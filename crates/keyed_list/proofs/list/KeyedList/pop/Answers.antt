use Rattle.std.proofs.Common.{◌++◌, ◌∷◌, [], length, Some, sym, ap, ◌∙◌, subst, arith, length-append, append-nil, append_assoc}
use Rattle.keyed_list.specs.Boxes.{entries_in, opened_by, settled}
use Rattle.keyed_list.specs.Entries.{Rise}
use Rattle.keyed_list.proofs.PlaceLemmas.{entries-both, entries-last, last_out, same-after}
use Rattle.keyed_list.proofs.TreeLemmas.{length-settled, settled-append}
use Rattle.keyed_list.proofs.PlaceLemmas.{no-items}
use Rattle.keyed_list.proofs.TreeLemmas.{rise_popped}
use Rattle.keyed_list.proofs.list.KeyedList.pop.Goals as goal

pub close_up-requires : goal.close_up-requires
close_up-requires g c =
    let less = c.self.invariant.count ∙ ap length c.in-Some.ensures.entries ∙ length-append (entries_in (opened_by (λ own. own.value) (c.take_last.new.places.items))) ((c.in-Some.key, c.in-Some.own.value) ∷ []) in
    omega (arith, less)

pub invariant_of-self : goal.invariant_of-self
invariant_of-self g c =
    let less = c.self.invariant.count ∙ ap length c.in-Some.ensures.entries ∙ length-append (entries_in (opened_by (λ own. own.value) (c.take_last.new.places.items))) ((c.in-Some.key, c.in-Some.own.value) ∷ []) in
    let few = c.self.invariant.few in
    let before = length-settled (λ own. own.value) c.self.inside.tree.entries c.self.inside.places.items in
    let after = length-settled (λ own. own.value) c.self.inside.tree.entries c.close_up.new.places.items in
    let same = ap length c.close_up.ensures.entries in
    let count = c.self.invariant.count in
    record {
      rise = c.close_up.ensures.rise (settled c.self.inside.tree.entries)
          (last_out (settled c.self.inside.tree.entries) c.take_last.new.places.items (c.in-Some.key, Some c.in-Some.own) (c.in-Some.ensures.rise (settled c.self.inside.tree.entries) c.self.invariant.rise));
      count = omega (arith, less, same);
      few = omega (arith, few, before, after, less, count, same);
    }

pub returns-in-Some-clause-last : goal.returns-in-Some-clause-last
returns-in-Some-clause-last g c =
    sym c.self.view_is ∙ entries-both (λ own. own.value) (settled c.self.inside.tree.entries) c.self.inside.places.items ∙ ap (λ es. entries_in (opened_by (λ own. own.value) ((settled c.self.inside.tree.entries))) ++ es) c.in-Some.ensures.entries
    ∙ sym (append_assoc (entries_in (opened_by (λ own. own.value) ((settled c.self.inside.tree.entries)))) (entries_in (opened_by (λ own. own.value) (c.take_last.new.places.items))) ((c.in-Some.key, c.in-Some.own.value) ∷ []))
    ∙ ap (λ es. es ++ (c.in-Some.key, c.in-Some.own.value) ∷ []) (sym (entries-both (λ own. own.value) (settled c.self.inside.tree.entries) c.take_last.new.places.items)) ∙ ap (λ x. entries_in (opened_by (λ own. own.value) ((settled c.self.inside.tree.entries) ++ c.take_last.new.places.items)) ++ (c.in-Some.key, x) ∷ []) (sym c.into_inner.ensures)
    ∙ ap (λ es. es ++ (c.in-Some.key, c.into_inner.result) ∷ []) (sym (same-after (λ own. own.value) (settled c.self.inside.tree.entries) c.close_up.new.places.items c.take_last.new.places.items c.close_up.ensures.entries))

pub invariant_of-self-2 : goal.invariant_of-self-2
invariant_of-self-2 g c =
    let empty = no-items c.take_last.new.places.items (c.take_last.new.places.ok.0) c.in_default.ensures.none in
    let one = ap length c.in_ok-key.ensures.removal ∙ length-append c.pop_last.new.self.entries ((c.in_ok-key.key, c.in_ok-key.own) ∷ []) in
    let few = c.self.invariant.few in
    let before = length-settled (λ own. own.value) c.self.inside.tree.entries c.self.inside.places.items in
    let after = length-settled (λ own. own.value) c.pop_last.new.self.entries c.take_last.new.places.items in
    let same = ap length (c.in_default.ensures.entries ∙ append-nil (entries_in (opened_by (λ own. own.value) (c.take_last.new.places.items)))) in
    let count = c.self.invariant.count in
    record {
      rise = rise_popped c.pop_last.new.self.entries ((c.in_ok-key.key, c.in_ok-key.own) ∷ []) c.self.inside.places.items c.take_last.new.places.items empty (subst (λ t. Rise (λ p. p.0) (settled t ++ c.self.inside.places.items)) c.in_ok-key.ensures.removal c.self.invariant.rise);
      count = count ∙ same;
      few = omega (arith, few, before, after, one, same);
    }

pub returns-clause-last : goal.returns-clause-last
returns-clause-last g c =
    let empty = no-items c.take_last.new.places.items (c.take_last.new.places.ok.0) c.in_default.ensures.none in
    let none = c.in_default.ensures.entries ∙ append-nil (entries_in (opened_by (λ own. own.value) (c.take_last.new.places.items))) ∙ ap (λ ps. entries_in (opened_by (λ own. own.value) (ps))) empty in
    let kept = c.pop_last.new.self.entries in
    sym c.self.view_is ∙ entries-both (λ own. own.value) (settled c.self.inside.tree.entries) c.self.inside.places.items ∙ ap (λ es. entries_in (opened_by (λ own. own.value) ((settled c.self.inside.tree.entries))) ++ es) none ∙ append-nil (entries_in (opened_by (λ own. own.value) ((settled c.self.inside.tree.entries)))) ∙ ap (λ t. entries_in (opened_by (λ own. own.value) (settled t))) c.in_ok-key.ensures.removal
    ∙ ap (λ ps. entries_in (opened_by (λ own. own.value) (ps))) (settled-append kept ((c.in_ok-key.key, c.in_ok-key.own) ∷ [])) ∙ entries-last (λ own. own.value) (settled kept) (c.in_ok-key.key, Some c.in_ok-key.own)
    ∙ ap (λ ps. entries_in (opened_by (λ own. own.value) (ps)) ++ (c.in_ok-key.key, c.in_ok-key.own.value) ∷ []) (sym (append-nil (settled kept)) ∙ ap (λ ps. settled kept ++ ps) (sym empty))
    ∙ ap (λ x. entries_in (opened_by (λ own. own.value) (settled kept ++ c.take_last.new.places.items)) ++ (c.in_ok-key.key, x) ∷ []) (sym c.into_inner-2.ensures)
