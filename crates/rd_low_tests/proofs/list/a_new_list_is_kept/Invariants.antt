use Rattle.rd_low_tests.proofs.list.a_new_list_is_kept.Given as goal

abbrev pub ghosts-lines_up : goal.ghosts-lines_up
ghosts-lines_up g a = record { name = a.blank.name; parts = a.blank.parts }
