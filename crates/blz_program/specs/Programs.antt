-- What a program's texts stand for.
use Rattle.blz_program.specs.Outcomes.{ProgramTexts}
use Rattle.blz_program.specs.declared.program.Program.{Program}

abbrev pub texts_of : Program → ProgramTexts
texts_of program = record { name = program.name.now; usage = program.usage.now; bad_line = program.bad_line.now }
