use Rattle.std.proofs.Common.{◌≡◌, ◌<◌, ◌^◌, take}
use Rattle.addr_core.specs.Six.{number_of}
use Rattle.addr_core.proofs.six.number_of.Given as goal

abbrev pub invariant-loop-group : goal.invariant-loop-group
invariant-loop-group l = (l.number ≡ number_of (take l.group-index l.groups)) × (l.number < 65536 ^ l.group-index)
