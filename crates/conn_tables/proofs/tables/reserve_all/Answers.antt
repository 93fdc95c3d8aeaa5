use Rattle.std.proofs.Common.{◌≡◌, ◌≤◌, Some, length, refl, arith}
use Rattle.std.specs.Prelude.{slice_get}
use Rattle.std.proofs.lemmas.Option.{slice_get_read}
use Rattle.conn_tables.proofs.PlaceLemmas.{room_set}
use Rattle.conn_tables.proofs.TableLemmas.{grown_set, same_grown}
use Rattle.conn_tables.proofs.tables.reserve_all.Goals as goal

pub loop-place-init : goal.loop-place-init
loop-place-init c = record { grown = same_grown c.args.tables.now.items; len = refl; room = tt }

pub returns-in_err-reserve-clause-grown : goal.returns-in_err-reserve-clause-grown
returns-in_err-reserve-clause-grown c =
    let tables = c.loop-place.tables.items in
    let there : slice_get tables c.loop-place.place ≡ Some c.index_mut.result.now = slice_get_read tables (length tables) c.loop-place.place c.index_mut.result.now refl (omega arith) c.index_mut.ensures.value in
    grown_set c.args.tables.now.items tables c.loop-place.place c.index_mut.result.now c.reserve.new.self c.loop-place.invariant.grown there c.reserve.ensures.grown

pub loop-place-preserved : goal.loop-place-preserved
loop-place-preserved c =
    let tables = c.loop-place.tables.items in
    let there : slice_get tables c.loop-place.place ≡ Some c.index_mut.result.now = slice_get_read tables (length tables) c.loop-place.place c.index_mut.result.now refl (omega arith) c.index_mut.ensures.value in
    record {
      grown = grown_set c.args.tables.now.items tables c.loop-place.place c.index_mut.result.now c.reserve.new.self c.loop-place.invariant.grown there c.reserve.ensures.grown;
      len = c.loop-place.invariant.len;
      room = room_set (λ stored. c.args.more ≤ stored.entries.spare) tables c.loop-place.place c.reserve.new.self (omega arith) c.loop-place.invariant.room c.in_ok-reserve.ensures.room;
    }
