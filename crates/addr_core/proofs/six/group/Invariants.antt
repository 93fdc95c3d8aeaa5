use Rattle.std.proofs.Common.{◌≡◌, ◌<◌, ◌^◌, take}
use Rattle.addr_core.specs.Six.{hex_value}
use Rattle.addr_core.proofs.six.group.Given as goal

abbrev pub invariant-loop-byte : goal.invariant-loop-byte
invariant-loop-byte l = (l.group ≡ hex_value (take l.byte-index l.word)) × (l.group < 16 ^ l.byte-index)
