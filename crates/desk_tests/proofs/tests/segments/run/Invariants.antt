use Rattle.desk_tests.proofs.tests.segments.run.Given as goal

abbrev pub ghosts-settled-M-Ledger : goal.ghosts-settled-M-Ledger
ghosts-settled-M-Ledger g a = record { name = a.made.name; parts = a.made.parts }

abbrev pub ghosts-settled-O-Ledger : goal.ghosts-settled-O-Ledger
ghosts-settled-O-Ledger g a = record { name = a.units.name; parts = a.units.parts }
