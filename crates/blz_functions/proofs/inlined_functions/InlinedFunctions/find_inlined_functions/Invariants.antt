use Rattle.blz_functions.proofs.inlined_functions.InlinedFunctions.find_inlined_functions.Given as goal

abbrev pub ghosts-chain : goal.ghosts-chain
ghosts-chain a = record { name = a.blank.name; parts = a.blank.parts }
