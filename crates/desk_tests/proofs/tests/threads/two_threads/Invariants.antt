use Rattle.desk_tests.proofs.tests.threads.two_threads.Given as goal

abbrev pub ghosts-both-M-Ledger : goal.ghosts-both-M-Ledger
ghosts-both-M-Ledger g a = record { name = a.made.name; parts = a.made.parts }

abbrev pub ghosts-both-O-Ledger : goal.ghosts-both-O-Ledger
ghosts-both-O-Ledger g a = record { name = a.units.name; parts = a.units.parts }
