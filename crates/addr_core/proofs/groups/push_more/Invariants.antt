use Rattle.std.proofs.Common.{◌≡◌, ◌+◌, ◌*◌, ◌≤◌, ◌++◌, ◌∷◌, length, take}
use Rattle.std.specs.List.{flat_map}
use Rattle.addr_core.specs.Groups.{hexadecimal}
use Rattle.addr_core.proofs.groups.push_more.Given as goal

abbrev pub invariant-loop-group : goal.invariant-loop-group
invariant-loop-group l =
    (l.text.bytes ≡ l.fn.text.bytes ++ flat_map (λ group. 58 ∷ hexadecimal group) (take l.group-index l.groups))
    × (length l.text.bytes ≤ length l.fn.text.bytes + 5 * l.group-index)
