use Rattle.std.proofs.Common.{◌≡◌, ◌++◌, drop}
use Rattle.plan_core.specs.Fields.{line_server, all_of}
use Rattle.plan_core.proofs.fields.servers_in.Given as goal

abbrev pub invariant-loop-item : goal.invariant-loop-item
invariant-loop-item l = l.servers ++ all_of line_server (drop l.item-index l.items) ≡ all_of line_server l.items
