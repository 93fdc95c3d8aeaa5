use Rattle.std.proofs.Common.{◌≡◌, ◌∙◌, None, Some, find, length, refl, sym, ap, arith}
use Rattle.std.specs.Option.{option_map_or}
use Rattle.stick_core.specs.Entries.{is_of, cur_of, once_less, released}
use Rattle.stick_core.proofs.PlaceLemmas.{IsChanged, change-put, found-entry, missing-entry}
use Rattle.stick_core.proofs.touch_list.TouchList.lower.Goals as goal

pub returns-in_default-clause-entries : goal.returns-in_default-clause-entries
returns-in_default-clause-entries c =
    let none : find (is_of c.args.key.now) c.args.self.now.entries ≡ None =
    ap (λ t. find (is_of c.args.key.now) t.entries) (sym c.self.view_is)
    ∙ missing-entry c.self.inside.index.entries c.self.inside.touched c.self.inside.free c.args.key.now c.self.invariant c.in_default.ensures.none in
    let nobody : cur_of c.args.key.now c.args.self.now.entries ≡ 0 = ap (λ o. option_map_or (λ e. e.cur) o 0) none in
    absurd (omega (arith, nobody, c.requires))

pub lowered-requires : goal.lowered-requires
lowered-requires c =
    let there : find (is_of c.args.key.now) c.args.self.now.entries ≡ Some c.entry_at_place-entry.result =
    ap (λ t. find (is_of c.args.key.now) t.entries) (sym c.self.view_is)
    ∙ found-entry c.self.inside.index.entries c.self.inside.touched c.self.inside.free c.args.key.now c.in-Some.place c.self.invariant c.in-Some.ensures.some
    ∙ ap (λ e. Some e) (sym c.entry_at_place-entry.ensures) in
    let cur : cur_of c.args.key.now c.args.self.now.entries ≡ c.entry_at_place-entry.result.cur = ap (λ o. option_map_or (λ e. e.cur) o 0) there in
    omega (arith, cur, c.requires)

-- what the index and both orders are then
all : (c : goal.After-put_last) → IsChanged (once_less c.args.moment) c.self.inside.index.entries c.put_last.new.index.entries c.self.inside.touched c.put_last.new.touched c.put_last.new.free c.args.key.now
all c =
    change-put (once_less c.args.moment) (λ e. refl) c.self.inside.index.entries c.put_last.new.index.entries c.self.inside.touched c.put_last.new.touched c.self.inside.free c.put_last.new.free
    c.args.key.now c.lowered.result c.in-Some.place c.self.invariant c.in-Some.ensures.some
    (c.lowered.ensures ∙ ap (once_less c.args.moment) c.entry_at_place-entry.ensures)
    (ap (λ m. m.entries) c.put_last.ensures.index) c.put_last.ensures.touched c.put_last.ensures.free

pub invariant_of-self : goal.invariant_of-self
invariant_of-self c = (all c).kept

pub returns-clause-entries : goal.returns-clause-entries
returns-clause-entries c = (all c).entries ∙ ap (λ t. released c.args.moment c.args.key.now t.entries) c.self.view_is

pub returns-clause-len : goal.returns-clause-len
returns-clause-len c = (all c).len ∙ ap (λ t. length t.entries) c.self.view_is
