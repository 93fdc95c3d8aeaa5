use Rattle.std.proofs.Common.{◌≡◌, map, take}
use Rattle.conn_rows.specs.Stored.{plain_frontend}
use Rattle.conn_rows.proofs.rows.plain_frontends.Given as goal

abbrev pub invariant-loop-own : goal.invariant-loop-own
invariant-loop-own l = l.copies ≡ map (plain_frontend l.versions) (take l.own-index l.frontends)
