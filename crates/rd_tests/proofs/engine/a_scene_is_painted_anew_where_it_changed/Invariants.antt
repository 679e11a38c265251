use Rattle.rd_tests.proofs.engine.a_scene_is_painted_anew_where_it_changed.Given as goal

-- each counter is of the ledger that its own blank opens
abbrev pub ghosts-painted_twice-A-Ledger : goal.ghosts-painted_twice-A-Ledger
ghosts-painted_twice-A-Ledger g a = record { name = a.items.name; parts = a.items.parts }

abbrev pub ghosts-painted_twice-B-Ledger : goal.ghosts-painted_twice-B-Ledger
ghosts-painted_twice-B-Ledger g a = record { name = a.boxes.name; parts = a.boxes.parts }
