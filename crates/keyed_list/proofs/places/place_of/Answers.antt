use Rattle.std.proofs.Common.{sym, subst, rules}
use Rattle.std.proofs.lemmas.List.Sorted.{answers_always}
use Rattle.keyed_list.proofs.PlaceLemmas.{none-before, searched, Finds}
use Rattle.keyed_list.proofs.places.place_of.Goals as goal

pub returns-in_default-clause-some : goal.returns-in_default-clause-some
returns-in_default-clause-some g c =
    let compared = c.binary_search_by_key.ensures.position (λ p. p.0) (answers_always _ _ _ (λ f a r g called. search rules)) in
    (subst (λ o. Finds c.args.key c.args.places.now o) (sym c.ok.ensures.value) (searched c.args.key c.args.places.now c.requires c.binary_search_by_key.result c.binary_search_by_key.ensures.bound compared)).0

pub returns-in_default-clause-none : goal.returns-in_default-clause-none
returns-in_default-clause-none g c =
    let compared = c.binary_search_by_key.ensures.position (λ p. p.0) (answers_always _ _ _ (λ f a r g called. search rules)) in
    (subst (λ o. Finds c.args.key c.args.places.now o) (sym c.ok.ensures.value) (searched c.args.key c.args.places.now c.requires c.binary_search_by_key.result c.binary_search_by_key.ensures.bound compared)).1

pub returns-in-len1-up-2-clause-none : goal.returns-in-len1-up-2-clause-none
returns-in-len1-up-2-clause-none g c = none-before c.args.key c.args.places.now c.first-item.result c.first-item.is c.if-key-first.true c.requires
