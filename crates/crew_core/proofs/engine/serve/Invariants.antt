use Rattle.std.specs.Prelude.{Some}
use Rattle.crew_core.proofs.engine.serve.Given as goal

abbrev pub ghosts-run-M-Ledger : goal.ghosts-run-M-Ledger
ghosts-run-M-Ledger g a = record { name = a.made.name; parts = a.made.parts }

abbrev pub ghosts-run-O-Ledger : goal.ghosts-run-O-Ledger
ghosts-run-O-Ledger g a = record { name = a.leases.name; parts = a.leases.parts }

abbrev pub ghosts-run-B-Opening : goal.ghosts-run-B-Opening
ghosts-run-B-Opening g a = record { opening = Some a.book }
