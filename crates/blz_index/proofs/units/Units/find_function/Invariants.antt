use Rattle.blz_index.proofs.units.Units.find_function.Given as goal

abbrev pub ghosts-find_function : goal.ghosts-find_function
ghosts-find_function g a = record { name = a.blank.name; parts = a.blank.parts }
