use Rattle.blz_cover_tests.proofs.covered.a_broken_line_refuses_its_address.Given as goal

abbrev pub ghosts-hit_four : goal.ghosts-hit_four
ghosts-hit_four g a = record { name = a.blank.name; parts = a.blank.parts }
