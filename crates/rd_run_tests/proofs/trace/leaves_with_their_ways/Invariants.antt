use Rattle.rd_run_tests.proofs.trace.leaves_with_their_ways.Given as goal

-- each counter is of the ledger that its own blank opens
abbrev pub ghosts-a_pixel-A-Ledger : goal.ghosts-a_pixel-A-Ledger
ghosts-a_pixel-A-Ledger g a = record { name = a.items.name; parts = a.items.parts }

abbrev pub ghosts-a_pixel-B-Ledger : goal.ghosts-a_pixel-B-Ledger
ghosts-a_pixel-B-Ledger g a = record { name = a.boxes.name; parts = a.boxes.parts }
