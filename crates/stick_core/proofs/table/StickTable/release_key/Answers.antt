use Rattle.std.proofs.Common.{ℕ, List, sym, ap, ◌∙◌, arith}
use Rattle.stick_core.specs.declared.entries.StickEntry.{StickEntry}
use Rattle.stick_core.specs.Entries.{cur_of, living, released}
use Rattle.stick_core.specs.Listing.{Listing}
use Rattle.stick_core.proofs.KeptLemmas.{is-lowered, IsReleased}
use Rattle.stick_core.proofs.LivingLemmas.{cur_of-living}
use Rattle.stick_core.proofs.table.StickTable.release_key.Goals as goal

pub lower-requires : goal.lower-requires
lower-requires c =
    let kept = c.self.inside.touched.entries in
    let same =
    sym (cur_of-living c.self.inside.expire c.self.inside.clock kept c.self.invariant.0.once c.addr.result)
    ∙ ap (λ key. cur_of key (living c.self.inside.expire c.self.inside.clock kept)) (c.addr.ensures ∙ c.tracked.view_is)
    ∙ ap (λ t. cur_of c.args.tracked t.entries) c.self.view_is in
    omega (arith, same, c.requires)

-- what is left then
left : (c : goal.After-lower) →
    IsReleased c.self.inside.size c.self.inside.expire c.self.inside.clock c.self.inside.touched.entries c.lower.new.self.entries c.addr.result
left c =
    let kept = c.self.inside.touched.entries in
    let same =
    sym (cur_of-living c.self.inside.expire c.self.inside.clock kept c.self.invariant.0.once c.addr.result)
    ∙ ap (λ key. cur_of key (living c.self.inside.expire c.self.inside.clock kept)) (c.addr.ensures ∙ c.tracked.view_is)
    ∙ ap (λ t. cur_of c.args.tracked t.entries) c.self.view_is in
    is-lowered c.self.inside.size c.self.inside.expire c.self.inside.clock kept c.lower.new.self.entries c.addr.result
    c.self.invariant.0 c.self.invariant.1 (omega (arith, same, c.requires)) c.lower.ensures.entries

pub invariant_of-self : goal.invariant_of-self
invariant_of-self c = ((left c).sound, (left c).turn)

pub returns : goal.returns
returns c =
    let lives = living c.self.inside.expire c.self.inside.clock c.self.inside.touched.entries in
    let change : List StickEntry → ℕ → Listing = λ l s. record {
      kind = c.self.inside.kind;
      size = c.self.inside.size;
      stores = c.self.inside.stores;
      expire = c.self.inside.expire;
      clock = c.self.inside.clock;
      entries = l;
      spare = s;
    } in
    let ending : Listing → Listing = λ t. record t { entries = released t.clock c.args.tracked t.entries } in
    ap (λ l. change l c.lower.new.self.spare) (left c).entries
    ∙ ap (λ s. change (released c.self.inside.clock c.addr.result lives) s) c.lower.ensures.spare
    ∙ ap (λ key. change (released c.self.inside.clock key lives) c.self.inside.touched.spare) (c.addr.ensures ∙ c.tracked.view_is)
    ∙ ap ending c.self.view_is
