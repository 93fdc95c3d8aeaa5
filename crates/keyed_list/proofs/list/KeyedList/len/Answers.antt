use Rattle.std.proofs.Common.{◌++◌, length, ap, subst, arith}
use Rattle.keyed_list.specs.Boxes.{opened_by, settled}
use Rattle.keyed_list.specs.Entries.{Rise}
use Rattle.keyed_list.proofs.PlaceLemmas.{opened-rise, rise-entries}
use Rattle.keyed_list.proofs.TreeLemmas.{length-settled}
use Rattle.keyed_list.proofs.list.KeyedList.len.Goals as goal

pub overflow_add-result : goal.overflow_add-result
overflow_add-result g c =
    let few = c.self.invariant.few in
    let count = c.self.invariant.count in
    let both = length-settled (λ own. own.value) c.self.inside.tree.entries c.self.inside.places.items in
    let far = c.len.ensures.len in
    omega (arith, few, count, both, far)

pub returns-clause-value : goal.returns-clause-value
returns-clause-value g c =
    let count = c.self.invariant.count in
    let both = length-settled (λ own. own.value) c.self.inside.tree.entries c.self.inside.places.items in
    let far = c.len.ensures.len in
    let all = ap length c.self.view_is in
    omega (arith, count, both, far, all)

pub returns-clause-few : goal.returns-clause-few
returns-clause-few g c =
    let few = c.self.invariant.few in
    let count = c.self.invariant.count in
    let both = length-settled (λ own. own.value) c.self.inside.tree.entries c.self.inside.places.items in
    let far = c.len.ensures.len in
    omega (arith, few, count, both, far)

pub returns-clause-rise : goal.returns-clause-rise
returns-clause-rise g c =
    subst (λ es. Rise (λ e. e.0) es) c.self.view_is (rise-entries (opened_by (λ own. own.value) ((settled c.self.inside.tree.entries) ++ c.self.inside.places.items)) (opened-rise (λ own. own.value) ((settled c.self.inside.tree.entries) ++ c.self.inside.places.items) c.self.invariant.rise))
