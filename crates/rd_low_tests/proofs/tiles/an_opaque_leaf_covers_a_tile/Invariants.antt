use Rattle.rd_low_tests.proofs.tiles.an_opaque_leaf_covers_a_tile.Given as goal

abbrev pub ghosts-covers : goal.ghosts-covers
ghosts-covers g a = record { name = a.items.name; parts = a.items.parts }
