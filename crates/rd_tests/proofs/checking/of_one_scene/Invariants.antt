use Rattle.rd_tests.proofs.checking.of_one_scene.Given as goal

-- each counter is of the ledger that its own blank opens
abbrev pub ghosts-with_ledgers-A-Ledger : goal.ghosts-with_ledgers-A-Ledger
ghosts-with_ledgers-A-Ledger g a = record { name = a.one.name; parts = a.one.parts }

abbrev pub ghosts-with_ledgers-B-Ledger : goal.ghosts-with_ledgers-B-Ledger
ghosts-with_ledgers-B-Ledger g a = record { name = a.two.name; parts = a.two.parts }
