-- What the namer of a program's files stands for.
use Rattle.blz_line.specs.FileNames.{Naming, naming_of}
use Rattle.blz_line.specs.ProgramFiles.{nameless}
use Rattle.blz_line.specs.declared.naming.Namer.{Namer}

abbrev pub naming_view : Namer → Naming
naming_view n = nameless (naming_of n.sections.now n.unit.now n.root.now n.version n.directories.now)
