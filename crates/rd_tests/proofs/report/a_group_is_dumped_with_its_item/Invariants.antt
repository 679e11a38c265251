use Rattle.rd_tests.proofs.report.a_group_is_dumped_with_its_item.Given as goal

-- the counter of items is of the ledger that the blank opens, and so are the looks
abbrev pub ghosts-with_ledgers-A-Ledger : goal.ghosts-with_ledgers-A-Ledger
ghosts-with_ledgers-A-Ledger g a = record { name = a.blank.name; parts = a.blank.parts }

abbrev pub ghosts-with_ledgers-B-Ledger : goal.ghosts-with_ledgers-B-Ledger
ghosts-with_ledgers-B-Ledger g a = record { name = a.blank.name; parts = a.blank.parts }
