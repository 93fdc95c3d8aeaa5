use Rattle.std.proofs.Common.{◌≡◌, ◌∙◌, None, Some, find, length, sym, ap, arith}
use Rattle.std.specs.Option.{is_some, option_map_or}
use Rattle.stick_core.specs.Entries.{is_of, cur_of, entry_with, touched}
use Rattle.stick_core.proofs.KeptLemmas.{with-key}
use Rattle.stick_core.proofs.PlaceLemmas.{IsChanged, change-put, found-entry, missing-entry}
use Rattle.stick_core.proofs.touch_list.TouchList.raise.Goals as goal

pub returns-in_default-clause-answer : goal.returns-in_default-clause-answer
returns-in_default-clause-answer c =
    let none : find (is_of c.args.key.now) c.args.self.now.entries ≡ None =
    ap (λ t. find (is_of c.args.key.now) t.entries) (sym c.self.view_is)
    ∙ missing-entry c.self.inside.index.entries c.self.inside.touched c.self.inside.free c.args.key.now c.self.invariant c.in_default.ensures.none in
    sym (ap is_some none)

pub tracked-requires : goal.tracked-requires
tracked-requires c =
    let there : find (is_of c.args.key.now) c.args.self.now.entries ≡ Some c.entry_at_place-entry.result =
    ap (λ t. find (is_of c.args.key.now) t.entries) (sym c.self.view_is)
    ∙ found-entry c.self.inside.index.entries c.self.inside.touched c.self.inside.free c.args.key.now c.in-Some.place c.self.invariant c.in-Some.ensures.some
    ∙ ap (λ e. Some e) (sym c.entry_at_place-entry.ensures) in
    let cur : cur_of c.args.key.now c.args.self.now.entries ≡ c.entry_at_place-entry.result.cur = ap (λ o. option_map_or (λ e. e.cur) o 0) there in
    omega (arith, cur, c.requires)

-- what the index and both orders are then
all : (c : goal.After-put_last) → IsChanged (entry_with c.args.expire c.args.moment) c.self.inside.index.entries c.put_last.new.index.entries c.self.inside.touched c.put_last.new.touched c.put_last.new.free c.args.key.now
all c =
    change-put (entry_with c.args.expire c.args.moment) (with-key c.args.expire c.args.moment) c.self.inside.index.entries c.put_last.new.index.entries c.self.inside.touched c.put_last.new.touched c.self.inside.free c.put_last.new.free
    c.args.key.now c.tracked.result c.in-Some.place c.self.invariant c.in-Some.ensures.some
    (c.tracked.ensures ∙ ap (entry_with c.args.expire c.args.moment) c.entry_at_place-entry.ensures)
    (ap (λ m. m.entries) c.put_last.ensures.index) c.put_last.ensures.touched c.put_last.ensures.free

pub invariant_of-self : goal.invariant_of-self
invariant_of-self c = (all c).kept

pub returns-clause-answer : goal.returns-clause-answer
returns-clause-answer c =
    let there : find (is_of c.args.key.now) c.args.self.now.entries ≡ Some c.entry_at_place-entry.result =
    ap (λ t. find (is_of c.args.key.now) t.entries) (sym c.self.view_is)
    ∙ found-entry c.self.inside.index.entries c.self.inside.touched c.self.inside.free c.args.key.now c.in-Some.place c.self.invariant c.in-Some.ensures.some
    ∙ ap (λ e. Some e) (sym c.entry_at_place-entry.ensures) in
    sym (ap is_some there)

pub returns-clause-entries : goal.returns-clause-entries
returns-clause-entries c = λ _. (all c).entries ∙ ap (λ t. touched (entry_with c.args.expire c.args.moment) c.args.key.now t.entries) c.self.view_is

pub returns-clause-len : goal.returns-clause-len
returns-clause-len c = (all c).len ∙ ap (λ t. length t.entries) c.self.view_is
