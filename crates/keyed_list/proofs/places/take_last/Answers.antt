use Rattle.std.proofs.Common.{◌++◌, ◌∷◌, [], ap, ◌∙◌, subst, arith, append-nil}
use Rattle.std.specs.Option.{option_map}
use Rattle.keyed_list.specs.Boxes.{entries_in, opened_by, with_first}
use Rattle.keyed_list.specs.Entries.{Rise}
use Rattle.keyed_list.proofs.PlaceLemmas.{last_out, entries-last}
use Rattle.keyed_list.proofs.places.take_last.Goals as goal

pub returns-in-Some-own-clause-entries : goal.returns-in-Some-own-clause-entries
returns-in-Some-own-clause-entries g c =
    let left = c.pop.new.self.items in
    c.loop-key.invariant.0 ∙ ap (λ ps. entries_in (opened_by (λ own. own.value) ps)) c.in-Some.ensures.items ∙ entries-last (λ own. own.value) left (c.in-Some.key, c.in-Some.own)
    ∙ ap (λ o. entries_in (opened_by (λ own. own.value) left) ++ with_first c.in-Some.key (option_map (λ own. own.value) o) []) c.in-Some-own.is

pub returns-in-Some-own-clause-rise : goal.returns-in-Some-own-clause-rise
returns-in-Some-own-clause-rise g c = λ far rise. subst (λ ps. Rise (λ p. p.0) (far ++ ps)) (c.in-Some.ensures.items ∙ ap (λ o. c.pop.new.self.items ++ (c.in-Some.key, o) ∷ []) c.in-Some-own.is) (c.loop-key.invariant.1 far rise)

pub loop-key-preserved : goal.loop-key-preserved
loop-key-preserved g c =
    let left = c.pop.new.self.items in (
      c.loop-key.invariant.0 ∙ ap (λ ps. entries_in (opened_by (λ own. own.value) ps)) c.in-Some.ensures.items ∙ entries-last (λ own. own.value) left (c.in-Some.key, c.in-Some.own)
          ∙ ap (λ o. entries_in (opened_by (λ own. own.value) left) ++ with_first c.in-Some.key (option_map (λ own. own.value) o) []) c.in_default-own.is ∙ append-nil (entries_in (opened_by (λ own. own.value) left)),
      (λ far rise. last_out far left (c.in-Some.key, c.in-Some.own) (subst (λ ps. Rise (λ p. p.0) (far ++ ps)) c.in-Some.ensures.items (c.loop-key.invariant.1 far rise))),
      (let room = c.loop-key.invariant.2 in let same = c.pop.ensures.capacity in let less = c.in-Some.ensures.len in omega (arith, room, same, less)),
    )
