use Rattle.std.specs.Prelude.{Some}
use Rattle.desk_tests.proofs.tests.openings.clock_and_segments.Given as goal

abbrev pub ghosts-shut_at_once-M-Ledger : goal.ghosts-shut_at_once-M-Ledger
ghosts-shut_at_once-M-Ledger a = record { name = a.made.name; parts = a.made.parts }

abbrev pub ghosts-shut_at_once-O-Ledger : goal.ghosts-shut_at_once-O-Ledger
ghosts-shut_at_once-O-Ledger a = record { name = a.units.name; parts = a.units.parts }

abbrev pub ghosts-shut_at_once-B-Opening : goal.ghosts-shut_at_once-B-Opening
ghosts-shut_at_once-B-Opening a = record { opening = Some a.book }
