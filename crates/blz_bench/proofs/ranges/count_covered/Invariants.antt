use Rattle.blz_bench.proofs.ranges.count_covered.Given as goal

abbrev pub ghosts-found_in : goal.ghosts-found_in
ghosts-found_in g a = record { name = a.blank.name; parts = a.blank.parts }
