use Rattle.blz_bytes_tests.proofs.tests.bytes.gives_an_entry_for_a_step.Given as goal

abbrev pub ghosts-two_looks : goal.ghosts-two_looks
ghosts-two_looks g a = record { name = a.blank.name; parts = a.blank.parts }
