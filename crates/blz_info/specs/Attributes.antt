-- The values of an entry's attributes (DWARF 5 section 7.5.3).
use Rattle.std.specs.Prelude.{ℕ, Bool, ◌&&◌, ◌||◌, List, [], ◌∷◌, Option, Some, nat_lt, ◌==◌, if◌then◌else◌}
use Rattle.blz_constants.specs.declared.dwarf.TheConstants as dwarf
use Rattle.blz_model.specs.Reads.{Read, ◌>>=◌}
use Rattle.blz_model.specs.LebNumbers.{uleb}
use Rattle.blz_info.specs.Contents.{Contents}
use Rattle.blz_info.specs.Forms.{form_of, value_by}
use Rattle.blz_info.specs.declared.abbreviations.AttrSpec.{AttrSpec}
use Rattle.blz_info.specs.declared.encoding.Encoding.{Encoding}
use Rattle.blz_info.specs.declared.text.StrBase.{StrBase}
use Rattle.blz_info.specs.declared.forms.form.Form.{Form}
use Rattle.blz_info.specs.declared.forms.form.Form.TheVariants.{Numeric}
use Rattle.blz_info.specs.declared.forms.form.Field.TheVariants.{Offset}
use Rattle.blz_info.specs.declared.forms.form.Makes.TheVariants as makes
use Rattle.blz_info.specs.declared.forms.value.AttrValue.{AttrValue}
use Rattle.blz_info.specs.declared.forms.value.AttrValue.TheVariants.{Signed}

-- In versions 2 and 3, DW_FORM_data4 or DW_FORM_data8 of the unit's offset size is an offset at DW_AT_stmt_list
-- and DW_AT_ranges, since there was no form for offsets (DWARF 3 section 7.5.4, class lineptr and rangelistptr).
abbrev pub is_offset : ℕ → Encoding → ℕ → Bool
is_offset name e code = (name == dwarf.DW_AT_stmt_list || name == dwarf.DW_AT_ranges) && nat_lt e.version 4 && (code == (if e.wide then dwarf.DW_FORM_data8 else dwarf.DW_FORM_data4))

-- the form that a code means for an attribute of a name, none where the code is not known
unfoldable pub form_for : ℕ → Encoding → ℕ → Option Form
form_for name e code = if is_offset name e code then Some (Numeric Offset makes.SecOffset) else form_of code

-- an attribute whose form is of the table
unfoldable pub direct_attribute : ℕ → ℕ → Encoding → StrBase → Contents → ℕ → Read AttrValue
direct_attribute name code e base s at = do
  form ← form_for name e code
  value_by form e base s at

-- The value of an attribute, and the place after it. DW_FORM_implicit_const has its value in the abbreviation, and
-- DW_FORM_indirect is followed by the code of the form that is meant, which is of the table.
unfoldable pub attribute : AttrSpec → Encoding → StrBase → Contents → ℕ → Read AttrValue
attribute a e base s at = if a.form == dwarf.DW_FORM_implicit_const then Some (Signed a.constant, at) else (if a.form == dwarf.DW_FORM_indirect then (do
  inner ← uleb s.bytes at
  direct_attribute a.name inner.0 e base s inner.1) else direct_attribute a.name a.form e base s at)

-- the place behind some attributes
unfoldable pub passed : List AttrSpec → Encoding → StrBase → Contents → ℕ → Option ℕ
passed [] e base s at = Some at
passed (a ∷ rest) e base s at = do
  v ← attribute a e base s at
  passed rest e base s v.1

-- some attributes, each with its name
unfoldable pub attributes : List AttrSpec → Encoding → StrBase → Contents → ℕ → Read (List (ℕ × AttrValue))
attributes [] e base s at = Some ([], at)
attributes (a ∷ rest) e base s at = do
  v ← attribute a e base s at
  others ← attributes rest e base s v.1
  Some ((a.name, v.0) ∷ others.0, others.1)
