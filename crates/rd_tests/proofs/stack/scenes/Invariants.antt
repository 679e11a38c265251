use Rattle.rd_tests.proofs.stack.scenes.Given as goal

abbrev pub ghosts-all_scenes : goal.ghosts-all_scenes
ghosts-all_scenes g a = record { name = a.blank.name; parts = a.blank.parts }
