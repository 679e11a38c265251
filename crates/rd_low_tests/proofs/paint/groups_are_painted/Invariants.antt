use Rattle.rd_low_tests.proofs.paint.groups_are_painted.Given as goal

abbrev pub ghosts-is_painted : goal.ghosts-is_painted
ghosts-is_painted g a = record { name = a.blank.name; parts = a.blank.parts }
