use Rattle.rd_tests.proofs.engine.what_is_refused_changes_nothing.Given as goal

-- each counter is of the ledger that its own blank opens
abbrev pub ghosts-inserted_and_painted-A-Ledger : goal.ghosts-inserted_and_painted-A-Ledger
ghosts-inserted_and_painted-A-Ledger g a = record { name = a.items.name; parts = a.items.parts }

abbrev pub ghosts-inserted_and_painted-B-Ledger : goal.ghosts-inserted_and_painted-B-Ledger
ghosts-inserted_and_painted-B-Ledger g a = record { name = a.boxes.name; parts = a.boxes.parts }
