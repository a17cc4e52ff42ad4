-- What the references of a unit lead to.
use Rattle.std.specs.Prelude.{Option}
use Rattle.blz_info.specs.declared.text.StrPlace.{StrPlace}
use Rattle.blz_info.specs.declared.forms.value.AttrValue.{AttrValue}
use Rattle.blz_functions.specs.Leaves.{UnitParts}
use Rattle.blz_functions.specs.References.{refer_from}
use Rattle.blz_units.specs.BuiltUnits.{Files}
use Rattle.blz_units.specs.UnitTables.{UnitTable, reach_of}

-- a unit whose references are followed, among the units of its files
pub record Linked : Type 0 where
  pub files : Files
  pub table : UnitTable
  pub unit : UnitParts

-- the name that a value of the unit leads to
unfoldable pub refer_in : Linked → AttrValue → Option (Option StrPlace)
refer_in l v = refer_from (reach_of l.files l.table) l.unit v
