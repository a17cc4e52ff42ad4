use Rattle.blz_units.proofs.built_unit.BuiltUnit.of_pieces.Goals as goal

pub of_file-requires-clause-shared : goal.of_file-requires-clause-shared
of_file-requires-clause-shared c = c.new-shared.ensures _
