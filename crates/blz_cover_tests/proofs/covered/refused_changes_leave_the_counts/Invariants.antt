use Rattle.blz_cover_tests.proofs.covered.refused_changes_leave_the_counts.Given as goal

abbrev pub ghosts-hit_four : goal.ghosts-hit_four
ghosts-hit_four g a = record { name = a.blank.name; parts = a.blank.parts }

abbrev pub ghosts-three_changes : goal.ghosts-three_changes
ghosts-three_changes g a = record { name = a.blank.name; parts = a.blank.parts }
