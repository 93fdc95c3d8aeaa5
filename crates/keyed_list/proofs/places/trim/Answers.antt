use Rattle.std.proofs.Common.{◌<◌, ◌++◌, [], Some, sym, ap, ◌∙◌, subst}
use Rattle.std.specs.List.{AllByRecursion}
use Rattle.keyed_list.specs.Boxes.{entries_in, opened_by}
use Rattle.keyed_list.specs.Entries.{Rise}
use Rattle.keyed_list.proofs.PlaceLemmas.{all-last, below-last, entries-last}
use Rattle.keyed_list.proofs.places.trim.Goals as goal

pub returns-in-Some-clause-entries : goal.returns-in-Some-clause-entries
returns-in-Some-clause-entries g c =
    ap (λ ps. entries_in (opened_by (λ own. own.value) ps)) c.push_reserved.ensures.items ∙ entries-last (λ own. own.value) c.take_last.new.places.items (c.in-Some.key, Some c.in-Some.own)
    ∙ sym c.in-Some.ensures.entries

pub returns-in-Some-clause-rise : goal.returns-in-Some-clause-rise
returns-in-Some-clause-rise g c = λ far rise. subst (λ ps. Rise (λ p. p.0) (far ++ ps)) (sym c.push_reserved.ensures.items) (c.in-Some.ensures.rise far rise)

pub returns-in-Some-clause-below : goal.returns-in-Some-clause-below
returns-in-Some-clause-below g c = λ key all.
    let left = c.take_last.new.places.items in
    let entries = ap (λ ps. entries_in (opened_by (λ own. own.value) ps)) c.push_reserved.ensures.items ∙ entries-last (λ own. own.value) left (c.in-Some.key, Some c.in-Some.own) in
    let last = all-last (λ e. e.0 < key) (entries_in (opened_by (λ own. own.value) left)) (c.in-Some.key, c.in-Some.own.value) (subst (λ es. AllByRecursion (λ e. e.0 < key) es) entries all) in
    subst (λ ps. AllByRecursion (λ p. p.0 < key) ps) (sym c.push_reserved.ensures.items) (below-last (λ p. p.0) left (c.in-Some.key, Some c.in-Some.own) key (c.in-Some.ensures.rise [] c.requires) last)
