-- What units are read from, and what is read there.
use Rattle.std.specs.Prelude.{List}
use Rattle.blz_info.specs.declared.text.Texts.{Texts}
use Rattle.blz_functions.specs.Leaves.{UnitParts}
use Rattle.blz_units.specs.BuiltUnits.{Files, built_view, files_view}
use Rattle.blz_units.specs.KeptParts.{BuiltFit, PartsFit}
use Rattle.blz_units.specs.TableViews.{table_view}
use Rattle.blz_units.specs.UnitTables.{UnitTable}
use Rattle.blz_units.specs.declared.built_unit.BuiltUnit.{BuiltUnit}
use Rattle.blz_units.specs.declared.built_units.BuiltUnits.{BuiltUnits}
use Rattle.blz_units.specs.declared.caches.UnitCaches.{UnitCaches}
use Rattle.blz_reader.specs.declared.reader.Reader.{Reader}

abbrev pub reader_files : Reader → Files
reader_files r = files_view r.dwarf.now

abbrev pub reader_table : Reader → UnitTable
reader_table r = table_view r.table.now

abbrev pub reader_texts : Reader → Texts
reader_texts r = r.dwarf.now.texts

-- what is said of files and their units, of those of a reader
abbrev pub as_read : {A : Type 0} → Reader → (Files → UnitTable → A) → A
as_read r said = said (reader_files r) (reader_table r)

-- the same of what is said of their texts, too
abbrev pub as_texts_tell : {A : Type 0} → Reader → (Texts → Files → UnitTable → A) → A
as_texts_tell r said = as_read r (said (reader_texts r))

-- a unit that is built, as references see it
abbrev pub as_seen : Reader → BuiltUnit → UnitParts
as_seen r = built_view (reader_files r)

-- the units that are built, and the parts that are kept, are those of its files
abbrev pub BuiltFor : Reader → BuiltUnits → Type 0
BuiltFor r = BuiltFit (reader_files r) (reader_table r)

abbrev pub PartsFor : Reader → List UnitCaches → Type 0
PartsFor r = PartsFit (reader_files r) (reader_table r)
