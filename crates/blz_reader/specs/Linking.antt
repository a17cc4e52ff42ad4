-- What the references of a unit stand for, and what holds of them.
use Rattle.std.specs.Prelude.{◌≡◌, Some}
use Rattle.blz_reader.specs.declared.references.References.TheInside.{Inside}
use Rattle.blz_units.specs.BuiltUnits.{files_view, IsReadable}
use Rattle.blz_reader.specs.Linkage.{Linked}
use Rattle.blz_units.specs.KeptParts.{unit_of, BuiltFit}
use Rattle.blz_units.specs.declared.built_units.Side.TheVariants.{File}
use Rattle.blz_functions.specs.Opened.{open_view, CanBeOpened}
use Rattle.blz_units.specs.TableViews.{table_view}

abbrev pub linked_view : Inside → Linked
linked_view r = record { files = files_view r.dwarf; table = table_view r.table.now; unit = open_view r.unit }

-- The unit is the one of its number, and the units that are built are those of the files.
pub record AreLinked (r : Inside) : Type 0 where
  pub readable : IsReadable r.dwarf
  pub opened : CanBeOpened r.unit
  pub is : unit_of (files_view r.dwarf) File (table_view r.table.now).kept r.number ≡ Some (open_view r.unit)
  pub fits : BuiltFit (files_view r.dwarf) (table_view r.table.now) r.built
