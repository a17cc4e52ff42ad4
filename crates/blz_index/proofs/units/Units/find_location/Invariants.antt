use Rattle.blz_index.proofs.units.Units.find_location.Given as goal

abbrev pub ghosts-find_location : goal.ghosts-find_location
ghosts-find_location g a = record { name = a.blank.name; parts = a.blank.parts }
