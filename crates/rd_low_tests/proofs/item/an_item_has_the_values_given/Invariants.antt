use Rattle.rd_low_tests.proofs.item.an_item_has_the_values_given.Given as goal

abbrev pub ghosts-has_its_values : goal.ghosts-has_its_values
ghosts-has_its_values g a = record { name = a.blank.name; parts = a.blank.parts }
