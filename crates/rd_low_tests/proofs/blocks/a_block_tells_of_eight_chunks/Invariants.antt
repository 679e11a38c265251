use Rattle.rd_low_tests.proofs.blocks.a_block_tells_of_eight_chunks.Given as goal

abbrev pub ghosts-are_told : goal.ghosts-are_told
ghosts-are_told g a = record { name = a.blank.name; parts = a.blank.parts }
