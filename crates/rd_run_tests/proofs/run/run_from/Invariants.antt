use Rattle.rd_run_tests.proofs.run.run_from.Given as goal

-- each counter is of the ledger that its own blank opens
abbrev pub ghosts-counted-A-Ledger : goal.ghosts-counted-A-Ledger
ghosts-counted-A-Ledger g a = record { name = a.a.name; parts = a.a.parts }

abbrev pub ghosts-counted-B-Ledger : goal.ghosts-counted-B-Ledger
ghosts-counted-B-Ledger g a = record { name = a.b.name; parts = a.b.parts }
