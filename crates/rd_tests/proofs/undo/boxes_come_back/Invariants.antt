use Rattle.rd_tests.proofs.undo.boxes_come_back.Given as goal

-- the counter is of the ledger that its blank opens
abbrev pub ghosts-all : goal.ghosts-all
ghosts-all g a = record { name = a.blank.name; parts = a.blank.parts }
