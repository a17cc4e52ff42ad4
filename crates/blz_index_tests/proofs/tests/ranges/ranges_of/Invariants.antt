use Rattle.blz_index_tests.proofs.tests.ranges.ranges_of.Given as goal

abbrev pub ghosts-found : goal.ghosts-found
ghosts-found a = record { name = a.blank.name; parts = a.blank.parts }
