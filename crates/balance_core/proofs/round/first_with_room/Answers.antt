use Rattle.std.proofs.Common.{◌≡◌, ◌-◌, Bool, true, false, ℕ, Some, find, get_or, refl, sym, ◌∙◌, arith}
use Rattle.std.specs.Prelude.{slice_get}
use Rattle.std.specs.List.{range_with_len}
use Rattle.proxy_types.specs.declared.balance.Place.{Place}
use Rattle.balance_core.specs.Loads.{room_in}
use Rattle.balance_core.specs.Cycles.{passes_at}
use Rattle.balance_core.proofs.RangeLemmas.{find-here, find-past}
use Rattle.std.proofs.lemmas.Option.{slice_get-get_or}
use Rattle.balance_core.proofs.round.first_with_room.Goals as goal

pub returns-then-has : goal.returns-then-has
returns-then-has c =
    let test : ℕ → Bool = passes_at (room_in c.args.rooms.now) c.args.places.now in
    let first : Place = record { server = 0; turn = 0 } in
    let there : slice_get c.args.places.now c.loop-n.n ≡ Some (get_or c.args.places.now c.loop-n.n first) =
    slice_get-get_or c.args.places.now c.loop-n.n first (omega (arith, c.loop-n-test.true, c.requires)) in
    let passes : test c.loop-n.n ≡ true = rw there (sym c.has.ensures ∙ c.if-has.true) in
    let found : find test (range_with_len c.args.begin (c.args.end - c.args.begin)) ≡ Some c.loop-n.n =
    c.loop-n.invariant ∙ find-here test c.loop-n.n c.args.end c.loop-n-test.true passes in
    rw (found, there) refl

pub loop-n-preserved : goal.loop-n-preserved
loop-n-preserved c =
    let test : ℕ → Bool = passes_at (room_in c.args.rooms.now) c.args.places.now in
    let first : Place = record { server = 0; turn = 0 } in
    let there : slice_get c.args.places.now c.loop-n.n ≡ Some (get_or c.args.places.now c.loop-n.n first) =
    slice_get-get_or c.args.places.now c.loop-n.n first (omega (arith, c.loop-n-test.true, c.requires)) in
    let fails : test c.loop-n.n ≡ false = rw there (sym c.has.ensures ∙ c.if-has.false) in
    c.loop-n.invariant ∙ find-past test c.loop-n.n c.args.end c.loop-n-test.true fails
