-- A part of DWARF that is needed and has no value is a mark of kind InvalidDwarf.
use Rattle.std.specs.Prelude.{Option}
use Rattle.blz_error.specs.declared.kind.ErrorKind.TheVariants.{InvalidDwarf}
use Rattle.blz_model.specs.Part.{Part, or_mark}

-- a value that has to be there, else the mark InvalidDwarf
abbrev pub or_invalid : {A : Type 0} → Option A → Part A
or_invalid o = or_mark o InvalidDwarf
