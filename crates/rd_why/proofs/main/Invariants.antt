use Rattle.rd_why.proofs.main.Given as goal

-- each counter is of the ledger that its own blank opens
abbrev pub ghosts-run_counted-A-Ledger : goal.ghosts-run_counted-A-Ledger
ghosts-run_counted-A-Ledger a = record { name = a.made.name; parts = a.made.parts }

abbrev pub ghosts-run_counted-B-Ledger : goal.ghosts-run_counted-B-Ledger
ghosts-run_counted-B-Ledger a = record { name = a.looks.name; parts = a.looks.parts }
