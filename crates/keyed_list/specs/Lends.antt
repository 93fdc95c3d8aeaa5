-- What a list ends as, where a `&mut` to one of its items is returned.
use Rattle.std.specs.Prelude.{ℕ, List}
use Rattle.std.specs.Borrow.{Lends, Fml, RattleType, MutBor}
use Rattle.keyed_list.specs.Entries.{with_item}
use Rattle.keyed_list.specs.contracts.list.KeyedList.{the_row}

module _ (T : RattleType) (list : MutBor (List (ℕ × T.Denot))) (key : ℕ) where
  -- once the borrow r ends, the key has the last item written through r
  abbrev pub lends_item : MutBor T.Denot → Fml
  lends_item r = Lends (the_row T) T list r (with_item key list.now)
