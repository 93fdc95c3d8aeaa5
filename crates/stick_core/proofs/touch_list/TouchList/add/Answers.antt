use Rattle.std.proofs.Common.{◌++◌, ◌∷◌, [], find, refl, ap, ◌∙◌}
use Rattle.stick_core.specs.Entries.{is_of, added, first_entry}
use Rattle.stick_core.specs.Places.{first_counts}
use Rattle.stick_core.proofs.PlaceLemmas.{IsAdded, add, new-lacks, no-place}
use Rattle.stick_core.proofs.touch_list.TouchList.add.Goals as goal

pub push-requires-clause-none : goal.push-requires-clause-none
push-requires-clause-none c =
    no-place c.self.inside.index.entries c.self.inside.touched c.self.inside.free c.args.key c.self.invariant
    (ap (λ t. find (is_of c.args.key) t.entries) c.self.view_is ∙ ap (find (is_of c.args.key)) c.reserve.ensures.entries ∙ c.requires)

pub push_back-requires-clause-lacks : goal.push_back-requires-clause-lacks
push_back-requires-clause-lacks c =
    new-lacks c.self.inside.index.entries c.self.inside.touched c.self.inside.free c.add_place-place.result c.add_place-place.new.self.order c.self.invariant
    c.add_place-place.ensures.place c.add_place-place.ensures.order

-- what the index and both orders are then
all : (c : goal.After-add_place) → IsAdded c.self.inside.index.entries c.push.new.self.entries c.self.inside.touched c.push_back.new.self c.add_place.new.self (first_entry c.args.moment c.args.key)
all c =
    let entries = c.self.inside.index.entries in
    add entries c.push.new.self.entries c.self.inside.touched c.push_back.new.self c.self.inside.free c.add_place.new.self (c.args.key, first_counts c.args.moment) c.self.invariant refl
    (c.push.ensures.entries ∙ ap (λ x. entries ++ (c.args.key, x) ∷ []) c.first_counts.ensures)
    (ap (λ r. r.order) c.push_back.ensures ∙ ap (λ l. l ++ c.add_place-place.result ∷ []) c.add_place-place.ensures.order
    ∙ ap (λ n. c.self.inside.touched.order ++ n ∷ []) c.add_place-place.ensures.place)
    (ap (λ r. r.places) c.push_back.ensures ∙ c.add_place-place.ensures.places)
    c.add_place.ensures.order c.add_place.ensures.places

pub invariant_of-self : goal.invariant_of-self
invariant_of-self c = (all c).kept

pub returns-clause-entries : goal.returns-clause-entries
returns-clause-entries c = (all c).entries ∙ ap (λ t. added c.args.moment c.args.key t.entries) c.self.view_is ∙ ap (added c.args.moment c.args.key) c.reserve.ensures.entries
