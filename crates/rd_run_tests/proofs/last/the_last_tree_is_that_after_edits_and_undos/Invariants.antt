use Rattle.rd_run_tests.proofs.last.the_last_tree_is_that_after_edits_and_undos.Given as goal

-- each counter is of the ledger that its own blank opens
abbrev pub ghosts-edits_and_undos-A-Ledger : goal.ghosts-edits_and_undos-A-Ledger
ghosts-edits_and_undos-A-Ledger g a = record { name = a.items.name; parts = a.items.parts }

abbrev pub ghosts-edits_and_undos-B-Ledger : goal.ghosts-edits_and_undos-B-Ledger
ghosts-edits_and_undos-B-Ledger g a = record { name = a.boxes.name; parts = a.boxes.parts }
