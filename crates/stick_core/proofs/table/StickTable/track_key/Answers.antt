use Rattle.std.proofs.Common.{◌≡◌, Some, sym, ap, subst, ◌∙◌, arith}
use Rattle.std.specs.Option.{option_map_or}
use Rattle.stick_core.specs.Entries.{cur_of, living, AreInTurn}
use Rattle.stick_core.specs.Key.{key_in}
use Rattle.stick_core.specs.Listing.{cur_at, entries_after, key_taken, Listing}
use Rattle.stick_core.proofs.KeptLemmas.{after-refused, after-taken, is-fresh-after, is-raised, is-replaced-after, refused-after, refused-is, taken-is}
use Rattle.stick_core.proofs.LivingLemmas.{cur_of-living}
use Rattle.stick_core.proofs.table.StickTable.track_key.Goals as goal
use Rattle.stick_core.proofs.table.StickTable.track_key.Goals.{then-not-raise+then-has_place+in_ok-add, then-not-raise+else-has_place+else-not-replace_first_free, else-not-raise}

pub raise-requires : goal.raise-requires
raise-requires c =
    let kept = c.self.inside.touched.entries in
    let in_table : key_in c.self.inside.kind c.args.addr.now ≡ Some c.in-Some.key = sym c.key_of.ensures ∙ c.in-Some.is in
    let same : cur_of c.in-Some.key kept ≡ cur_at c.args.self.now c.args.addr.now =
    sym (cur_of-living c.self.inside.expire c.self.inside.clock kept c.self.invariant.0.once c.in-Some.key)
    ∙ ap (λ o. option_map_or (λ key. cur_of key (living c.self.inside.expire c.self.inside.clock kept)) o 0) (sym in_table)
    ∙ ap (λ t. cur_at t c.args.addr.now) c.self.view_is in
    omega (arith, same, c.requires)

pub invariant_of-self-else-not-raise : goal.invariant_of-self-else-not-raise
invariant_of-self-else-not-raise c =
    let done = is-raised c.self.inside.size c.self.inside.expire c.self.inside.clock c.self.inside.touched.entries c.raise.new.self.entries c.in-Some.key
    c.self.invariant.0 c.self.invariant.1 (sym c.raise.ensures.answer ∙ c.if-not-raise.false) (c.raise.ensures.entries c.if-not-raise.false) in
    (done.sound, done.turn)

pub has_place-requires : goal.has_place-requires
has_place-requires c =
    subst (λ l. AreInTurn c.self.inside.clock l) (sym (ap (λ t. t.entries) (c.raise.ensures.same c.if-not-raise.true))) c.self.invariant.1

pub invariant_of-self : goal.invariant_of-self
invariant_of-self c =
    let done = is-fresh-after c.self.inside.size c.self.inside.expire c.self.inside.clock c.self.inside.touched.entries c.raise.new.self.entries c.add.new.self.entries c.in-Some.key
    (ap (λ t. t.entries) (c.raise.ensures.same c.if-not-raise.true)) c.self.invariant.0 c.self.invariant.1 (sym c.raise.ensures.answer ∙ c.if-not-raise.true)
    (sym c.has_place.ensures ∙ c.if-has_place.true) c.in_ok-add.ensures.entries in
    (done.sound, done.turn)

pub invariant_of-self-else-not-replace_first_free : goal.invariant_of-self-else-not-replace_first_free
invariant_of-self-else-not-replace_first_free c =
    let done = is-replaced-after c.self.inside.size c.self.inside.expire c.self.inside.clock c.self.inside.touched.entries c.raise.new.self.entries c.replace_first_free.new.self.entries c.in-Some.key
    (ap (λ t. t.entries) (c.raise.ensures.same c.if-not-raise.true)) c.self.invariant.0 c.self.invariant.1 (sym c.raise.ensures.answer ∙ c.if-not-raise.true)
    (sym c.has_place.ensures ∙ c.if-has_place.false) (sym c.replace_first_free.ensures.answer ∙ c.if-not-replace_first_free.false)
    (c.replace_first_free.ensures.entries c.if-not-replace_first_free.false) in
    (done.sound, done.turn)

pub returns-then-not-replace_first_free-clause-tracked : goal.returns-then-not-replace_first_free-clause-tracked
returns-then-not-replace_first_free-clause-tracked c =
    let kept = c.self.inside.touched.entries in
    let table : Listing = record {
      kind = c.self.inside.kind;
      size = c.self.inside.size;
      stores = c.self.inside.stores;
      expire = c.self.inside.expire;
      clock = c.self.inside.clock;
      entries = living c.self.inside.expire c.self.inside.clock kept;
      spare = c.self.inside.touched.spare;
    } in
    let in_table : key_in table.kind c.args.addr.now ≡ Some c.in-Some.key = sym c.key_of.ensures ∙ c.in-Some.is in
    sym (refused-is table c.args.addr.now c.in-Some.key in_table
    (refused-after c.self.inside.size c.self.inside.expire c.self.inside.clock kept c.raise.new.self.entries c.in-Some.key (ap (λ t. t.entries) (c.raise.ensures.same c.if-not-raise.true)) c.self.invariant.0
    (sym c.raise.ensures.answer ∙ c.if-not-raise.true) (sym c.has_place.ensures ∙ c.if-has_place.false) (sym c.replace_first_free.ensures.answer ∙ c.if-not-replace_first_free.true)))
    ∙ ap (λ t. key_taken t c.args.addr.now) c.self.view_is

pub returns-then-not-replace_first_free-clause-entries : goal.returns-then-not-replace_first_free-clause-entries
returns-then-not-replace_first_free-clause-entries c =
    let kept = c.self.inside.touched.entries in
    let table : Listing = record {
      kind = c.self.inside.kind;
      size = c.self.inside.size;
      stores = c.self.inside.stores;
      expire = c.self.inside.expire;
      clock = c.self.inside.clock;
      entries = living c.self.inside.expire c.self.inside.clock kept;
      spare = c.self.inside.touched.spare;
    } in
    let in_table : key_in table.kind c.args.addr.now ≡ Some c.in-Some.key = sym c.key_of.ensures ∙ c.in-Some.is in
    let same = ap (λ t. t.entries) (c.raise.ensures.same c.if-not-raise.true) in
    let none =
    refused-is table c.args.addr.now c.in-Some.key in_table
    (refused-after c.self.inside.size c.self.inside.expire c.self.inside.clock kept c.raise.new.self.entries c.in-Some.key same c.self.invariant.0
    (sym c.raise.ensures.answer ∙ c.if-not-raise.true) (sym c.has_place.ensures ∙ c.if-has_place.false) (sym c.replace_first_free.ensures.answer ∙ c.if-not-replace_first_free.true)) in
    ap (living c.self.inside.expire c.self.inside.clock) (c.replace_first_free.ensures.same c.if-not-replace_first_free.true ∙ same)
    ∙ sym (after-refused table c.args.addr.now none)
    ∙ ap (λ t. entries_after t c.args.addr.now) c.self.view_is

pub returns-clause-tracked : goal.returns-clause-tracked
returns-clause-tracked c =
    let kept = c.self.inside.touched.entries in
    let table : Listing = record {
      kind = c.self.inside.kind;
      size = c.self.inside.size;
      stores = c.self.inside.stores;
      expire = c.self.inside.expire;
      clock = c.self.inside.clock;
      entries = living c.self.inside.expire c.self.inside.clock kept;
      spare = c.self.inside.touched.spare;
    } in
    let in_table : key_in table.kind c.args.addr.now ≡ Some c.in-Some.key = sym c.key_of.ensures ∙ c.in-Some.is in
    let token = ap (λ key. Some key) c.of.ensures in
    let rest = ap (λ t. key_taken t c.args.addr.now) c.self.view_is in
    elim c.if-not-raise.branch [
      | then-not-raise+then-has_place+in_ok-add w ↦
          let done = is-fresh-after c.self.inside.size c.self.inside.expire c.self.inside.clock kept c.raise.new.self.entries w.add.new.self.entries c.in-Some.key
          (ap (λ t. t.entries) (c.raise.ensures.same w.if-not-raise.true)) c.self.invariant.0 c.self.invariant.1 (sym c.raise.ensures.answer ∙ w.if-not-raise.true)
          (sym w.has_place.ensures ∙ w.if-has_place.true) w.in_ok-add.ensures.entries in
          token ∙ sym (taken-is table c.args.addr.now c.in-Some.key in_table done.can) ∙ rest
      | then-not-raise+else-has_place+else-not-replace_first_free w ↦
          let done = is-replaced-after c.self.inside.size c.self.inside.expire c.self.inside.clock kept c.raise.new.self.entries w.replace_first_free.new.self.entries c.in-Some.key
          (ap (λ t. t.entries) (c.raise.ensures.same w.if-not-raise.true)) c.self.invariant.0 c.self.invariant.1 (sym c.raise.ensures.answer ∙ w.if-not-raise.true)
          (sym w.has_place.ensures ∙ w.if-has_place.false) (sym w.replace_first_free.ensures.answer ∙ w.if-not-replace_first_free.false)
          (w.replace_first_free.ensures.entries w.if-not-replace_first_free.false) in
          token ∙ sym (taken-is table c.args.addr.now c.in-Some.key in_table done.can) ∙ rest
      | else-not-raise w ↦
          let done = is-raised c.self.inside.size c.self.inside.expire c.self.inside.clock kept c.raise.new.self.entries c.in-Some.key
          c.self.invariant.0 c.self.invariant.1 (sym c.raise.ensures.answer ∙ w.if-not-raise.false) (c.raise.ensures.entries w.if-not-raise.false) in
          token ∙ sym (taken-is table c.args.addr.now c.in-Some.key in_table done.can) ∙ rest
    ]

pub returns-clause-entries : goal.returns-clause-entries
returns-clause-entries c =
    let kept = c.self.inside.touched.entries in
    let table : Listing = record {
      kind = c.self.inside.kind;
      size = c.self.inside.size;
      stores = c.self.inside.stores;
      expire = c.self.inside.expire;
      clock = c.self.inside.clock;
      entries = living c.self.inside.expire c.self.inside.clock kept;
      spare = c.self.inside.touched.spare;
    } in
    let in_table : key_in table.kind c.args.addr.now ≡ Some c.in-Some.key = sym c.key_of.ensures ∙ c.in-Some.is in
    let rest = ap (λ t. entries_after t c.args.addr.now) c.self.view_is in
    elim c.if-not-raise.branch [
      | then-not-raise+then-has_place+in_ok-add w ↦
          let done = is-fresh-after c.self.inside.size c.self.inside.expire c.self.inside.clock kept c.raise.new.self.entries w.add.new.self.entries c.in-Some.key
          (ap (λ t. t.entries) (c.raise.ensures.same w.if-not-raise.true)) c.self.invariant.0 c.self.invariant.1 (sym c.raise.ensures.answer ∙ w.if-not-raise.true)
          (sym w.has_place.ensures ∙ w.if-has_place.true) w.in_ok-add.ensures.entries in
          ap (λ t. t.entries) w.self-is ∙ done.entries ∙ sym (after-taken table c.args.addr.now c.in-Some.key (taken-is table c.args.addr.now c.in-Some.key in_table done.can)) ∙ rest
      | then-not-raise+else-has_place+else-not-replace_first_free w ↦
          let done = is-replaced-after c.self.inside.size c.self.inside.expire c.self.inside.clock kept c.raise.new.self.entries w.replace_first_free.new.self.entries c.in-Some.key
          (ap (λ t. t.entries) (c.raise.ensures.same w.if-not-raise.true)) c.self.invariant.0 c.self.invariant.1 (sym c.raise.ensures.answer ∙ w.if-not-raise.true)
          (sym w.has_place.ensures ∙ w.if-has_place.false) (sym w.replace_first_free.ensures.answer ∙ w.if-not-replace_first_free.false)
          (w.replace_first_free.ensures.entries w.if-not-replace_first_free.false) in
          ap (λ t. t.entries) w.self-is ∙ done.entries ∙ sym (after-taken table c.args.addr.now c.in-Some.key (taken-is table c.args.addr.now c.in-Some.key in_table done.can)) ∙ rest
      | else-not-raise w ↦
          let done = is-raised c.self.inside.size c.self.inside.expire c.self.inside.clock kept c.raise.new.self.entries c.in-Some.key
          c.self.invariant.0 c.self.invariant.1 (sym c.raise.ensures.answer ∙ w.if-not-raise.false) (c.raise.ensures.entries w.if-not-raise.false) in
          ap (λ t. t.entries) w.self-is ∙ done.entries ∙ sym (after-taken table c.args.addr.now c.in-Some.key (taken-is table c.args.addr.now c.in-Some.key in_table done.can)) ∙ rest
    ]
