use Rattle.std.proofs.Common.{◌≡◌, take}
use Rattle.std.specs.Prelude.{slice_get}
use Rattle.stick_core.specs.Entries.{living}
use Rattle.stick_core.specs.Places.{ranked}
use Rattle.stick_core.specs.PlainEntries.{plain}
use Rattle.stick_core.proofs.touch_list.TouchList.listed.Given as goal

abbrev pub invariant-loop : goal.invariant-loop
invariant-loop l =
    (l.list.items ≡ plain (living l.expire l.moment (ranked l.self-inside.index.entries (take l.counter l.self-inside.touched.order))))
    × (l.next ≡ slice_get l.self-inside.touched.order l.counter)
