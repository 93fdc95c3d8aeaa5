use Rattle.std.proofs.Common.{◌≤◌, List, sym, ap, subst, ◌∙◌, arith}
use Rattle.stick_core.specs.declared.entries.StickEntry.{StickEntry}
use Rattle.stick_core.specs.Listing.{passed, IsSound, Listing}
use Rattle.stick_core.proofs.LivingLemmas.{living-later, sound-living, turn-later}
use Rattle.stick_core.proofs.table.StickTable.pass.Goals as goal

pub invariant_of-self : goal.invariant_of-self
invariant_of-self c =
    let same = ap (λ t. t.clock) c.self.view_is in
    let later : c.self.inside.clock ≤ c.args.moment = omega (arith, same, c.requires) in
    (c.self.invariant.0, turn-later c.self.inside.clock c.args.moment c.self.inside.touched.entries later c.self.invariant.1)

pub returns-clause-value : goal.returns-clause-value
returns-clause-value c =
    let same = ap (λ t. t.clock) c.self.view_is in
    let later : c.self.inside.clock ≤ c.args.moment = omega (arith, same, c.requires) in
    let with_entries : List StickEntry → Listing = λ l. record {
      kind = c.self.inside.kind;
      size = c.self.inside.size;
      stores = c.self.inside.stores;
      expire = c.self.inside.expire;
      clock = c.args.moment;
      entries = l;
      spare = c.self.inside.touched.spare;
    } in
    ap with_entries (sym (living-later c.self.inside.expire c.self.inside.clock c.args.moment later c.self.inside.touched.entries))
    ∙ ap (passed c.args.moment) c.self.view_is

pub returns-clause-sound : goal.returns-clause-sound
returns-clause-sound c =
    let P : Listing → Type 0 = λ t. IsSound t.size t.entries in
    subst P c.self.view_is (sound-living c.self.inside.size c.self.inside.expire c.self.inside.clock c.self.inside.touched.entries c.self.invariant.0)
