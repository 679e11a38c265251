use Rattle.rd_low_tests.proofs.tiles.tiles_are_repainted.Given as goal

abbrev pub ghosts-tiles_repainted : goal.ghosts-tiles_repainted
ghosts-tiles_repainted g a = record { name = a.items.name; parts = a.items.parts }
