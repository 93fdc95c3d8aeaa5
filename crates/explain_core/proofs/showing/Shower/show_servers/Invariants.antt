use Rattle.std.proofs.Common.{◌≡◌, [], ◌++◌, drop}
use Rattle.std.specs.List.{enumerate_from, flat_map}
use Rattle.conn_core.specs.Judging.{facts_view}
use Rattle.explain_core.specs.Text.{server_text}
use Rattle.explain_core.proofs.showing.Shower.show_servers.Given as goal

abbrev pub invariant-loop-number : goal.invariant-loop-number
invariant-loop-number l =
    l.out.items ++ flat_map (server_text l.self.lines.now (facts_view l.facts []) l.backend l.picked) (enumerate_from l.number (drop l.number l.server-items))
    ≡ l.initial.out.items ++ flat_map (server_text l.self.lines.now (facts_view l.facts []) l.backend l.picked) (enumerate_from 0 l.server-items)
