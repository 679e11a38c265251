use Rattle.rd_low_tests.proofs.merge.drawn_merges_agree.Given as goal

abbrev pub ghosts-drawn_merges : goal.ghosts-drawn_merges
ghosts-drawn_merges g a = record { name = a.blank.name; parts = a.blank.parts }
