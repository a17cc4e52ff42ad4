use Rattle.blz_cover_tests.proofs.covered.hits_count_at_their_line_or_in_the_rest.Given as goal

abbrev pub ghosts-hit_four : goal.ghosts-hit_four
ghosts-hit_four g a = record { name = a.blank.name; parts = a.blank.parts }
