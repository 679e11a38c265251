use Rattle.rd_low_tests.proofs.hit.the_topmost_is_hit.Given as goal

abbrev pub ghosts-are_right : goal.ghosts-are_right
ghosts-are_right g a = record { name = a.blank.name; parts = a.blank.parts }
