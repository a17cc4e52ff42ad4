use Rattle.blz_resolver_tests.proofs.tests.prepared.answered.Given as goal

abbrev pub ghosts-asked_in_both : goal.ghosts-asked_in_both
ghosts-asked_in_both a = record { name = a.blank.name; parts = a.blank.parts }
