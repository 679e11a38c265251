use Rattle.rd_low_tests.proofs.merge.small_merges.Given as goal

abbrev pub ghosts-merges : goal.ghosts-merges
ghosts-merges g a = record { name = a.blank.name; parts = a.blank.parts }
