use Rattle.std.proofs.Common.{◌≡◌, List, length}
use Rattle.std.specs.List.{AllByRecursion}
use Rattle.conf_line.specs.declared.statement.ServerOption.{ServerOption}
use Rattle.conf_line.specs.Sound.{IsSoundOption}
use Rattle.conf_line.specs.Words.{after}
use Rattle.conf_line.specs.Servers.{options_of, server_options}
use Rattle.conf_line.proofs.server.all_options.Given as goal

abbrev pub invariant-loop-rest : goal.invariant-loop-rest
invariant-loop-rest l =
    (all : List ServerOption) × (after all (server_options l.rest) ≡ server_options l.words) × (l.options ≡ options_of all) × AllByRecursion IsSoundOption all

abbrev pub decreases-loop-rest : goal.decreases-loop-rest
decreases-loop-rest l = length l.rest
