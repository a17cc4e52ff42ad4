-- What the code's entries of relocations stand for.
use Rattle.blz_image.specs.RelocationTables as model
use Rattle.blz_image.specs.declared.relocations.entries.Entry.{Entry}

abbrev pub entry_view : Entry → model.Entry
entry_view e = record { offset = e.offset; symbol = e.symbol; addend = e.addend }
