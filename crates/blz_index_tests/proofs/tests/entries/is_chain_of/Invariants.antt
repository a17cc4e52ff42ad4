use Rattle.blz_index_tests.proofs.tests.entries.is_chain_of.Given as goal

abbrev pub ghosts-by_depth : goal.ghosts-by_depth
ghosts-by_depth a = record { name = a.blank.name; parts = a.blank.parts }
