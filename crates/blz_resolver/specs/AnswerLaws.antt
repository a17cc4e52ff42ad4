-- What holds between the answers: a function that answers covers the address, and is found by its name.
use Rattle.std.specs.Prelude.{◌≡◌, ℕ, ◌<◌, true, List, length, Some, is_some}
use Rattle.std.specs.List.{slice_get}
use Rattle.blz_ranges.specs.declared.span.Span.{Span}
use Rattle.blz_model.specs.Part.{Part, Good}
use Rattle.blz_elf.specs.Infos.{Info}
use Rattle.blz_ranges.specs.Best.{Covers}
use Rattle.blz_units.specs.BuiltUnits.{Files}
use Rattle.blz_functions.specs.FunctionList.{Lists}
use Rattle.blz_ranges.specs.Owned.{Owned}
use Rattle.blz_units.specs.UnitAnswers.{unit_functions, function_at}
use Rattle.blz_units.specs.UnitSites.{call_name}
use Rattle.blz_units.specs.UnitTables.{UnitTable}
use Rattle.blz_functions.specs.declared.functions.Function.{Function}
use Rattle.blz_resolver.specs.AddressAnswers.{function_numbered}
use Rattle.blz_resolver.specs.Books.{Book}
use Rattle.blz_resolver.specs.FileTexts.{texts_of}

-- a range of the function of a number, which covers an address
pub record HasRange (lists : Lists) (n addr : ℕ) : Type 0 where
  pub place : ℕ
  pub range : Owned Span
  pub there : slice_get lists.ranges place ≡ Some range
  pub owner : range.owner ≡ n
  pub covers : Covers range.item addr

-- a function of a unit covers an address by one of its ranges
pub record IsCovered (f : Files) (t : UnitTable) (addr k n : ℕ) : Type 0 where
  pub lists : Lists
  pub read : unit_functions f t k ≡ Some lists
  pub range : HasRange lists n addr

-- the functions of all units can be read
abbrev pub AllRead : Files → UnitTable → Type 0
AllRead f t = (k : ℕ) → k < length t.kept → is_some (unit_functions f t k) ≡ true

-- a function answers an address, and has a name that is UTF-8
pub record IsNamedAt (b : Book) (addr k n : ℕ) (name : List ℕ) : Type 0 where
  pub function : Function
  pub answers : function_at b.files b.table addr ≡ Some (Some (k, n))
  pub read : function_numbered b (k, n) ≡ Good function
  pub named : is_some function.name ≡ true
  pub utf8 : call_name (texts_of b.files) function.name ≡ Good name

-- a list that is not empty
pub record IsSomeList (p : Part (List Info)) : Type 0 where
  pub infos : List Info
  pub is : p ≡ Good infos
  pub some : 0 < length infos
