use Rattle.std.specs.Prelude.{Some}
use Rattle.crew_tests.proofs.tests.play.run.Given as goal

abbrev pub ghosts-act-M-Ledger : goal.ghosts-act-M-Ledger
ghosts-act-M-Ledger g a = record { name = a.made.name; parts = a.made.parts }

abbrev pub ghosts-act-O-Ledger : goal.ghosts-act-O-Ledger
ghosts-act-O-Ledger g a = record { name = a.units.name; parts = a.units.parts }

abbrev pub ghosts-act-B-Opening : goal.ghosts-act-B-Opening
ghosts-act-B-Opening g a = record { opening = Some a.book }
