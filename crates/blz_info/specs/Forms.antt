-- Forms and the values that they have (DWARF 5 sections 7.5.5 and 7.5.6).
use Rattle.std.specs.Prelude.{ℕ, ◌+◌, List, [], ◌∷◌, length, Option, Some, None, ◌==◌, if◌then◌else◌, ℤ, pos, negsuc}
use Rattle.blz_constants.specs.declared.dwarf.TheConstants as dwarf
use Rattle.blz_model.specs.Reads.{Read, ◌>>=◌}
use Rattle.blz_bytes.specs.Pieces.{zero_ended}
use Rattle.blz_model.specs.LebNumbers.{uleb, sleb}
use Rattle.blz_info.specs.Contents.{Contents, field_at}
use Rattle.blz_info.specs.declared.encoding.Encoding.{Encoding}
use Rattle.blz_info.specs.declared.text.StrBase.{StrBase}
use Rattle.blz_info.specs.declared.forms.form.Width.TheVariants.{One, Two, Three, Four, Eight}
use Rattle.blz_info.specs.declared.forms.form.Field.TheVariants.{Nothing, Fixed, Address, Offset, RefAddress, Uleb, Sixteen, Block, UlebBlock}
use Rattle.blz_info.specs.declared.forms.form.Makes.{Makes}
use Rattle.blz_info.specs.declared.forms.form.Makes.TheVariants as makes
use Rattle.blz_info.specs.declared.forms.form.Form.{Form}
use Rattle.blz_info.specs.declared.forms.form.Form.TheVariants as forms
use Rattle.blz_info.specs.declared.forms.form.Form.TheVariants.{Numeric}
use Rattle.blz_info.specs.declared.forms.value.AttrValue.{AttrValue}
use Rattle.blz_info.specs.declared.forms.value.AttrValue.TheVariants.{Addr, AddrIndex, Const, Signed, Text, StrRef, LineStrRef, StrIndex, SupStr, UnitRef, InfoRef, SupRef, SecOffset, RangeIndex, Other}

-- The table: each form by its code, what it reads, and what kind of value that is. DW_FORM_indirect and
-- DW_FORM_implicit_const are told below it.
abbrev pub forms_table : List (ℕ × Form)
forms_table =
    (dwarf.DW_FORM_addr, Numeric Address makes.Addr)
    ∷ (dwarf.DW_FORM_block2, Numeric (Block Two) makes.Other)
    ∷ (dwarf.DW_FORM_block4, Numeric (Block Four) makes.Other)
    ∷ (dwarf.DW_FORM_data2, Numeric (Fixed Two) makes.Const)
    ∷ (dwarf.DW_FORM_data4, Numeric (Fixed Four) makes.Const)
    ∷ (dwarf.DW_FORM_data8, Numeric (Fixed Eight) makes.Const)
    ∷ (dwarf.DW_FORM_string, forms.Text)
    ∷ (dwarf.DW_FORM_block, Numeric UlebBlock makes.Other)
    ∷ (dwarf.DW_FORM_block1, Numeric (Block One) makes.Other)
    ∷ (dwarf.DW_FORM_data1, Numeric (Fixed One) makes.Const)
    ∷ (dwarf.DW_FORM_flag, Numeric (Fixed One) makes.Other)
    ∷ (dwarf.DW_FORM_sdata, forms.Signed)
    ∷ (dwarf.DW_FORM_strp, Numeric Offset makes.StrRef)
    ∷ (dwarf.DW_FORM_udata, Numeric Uleb makes.Const)
    ∷ (dwarf.DW_FORM_ref_addr, Numeric RefAddress makes.InfoRef)
    ∷ (dwarf.DW_FORM_ref1, Numeric (Fixed One) makes.UnitRef)
    ∷ (dwarf.DW_FORM_ref2, Numeric (Fixed Two) makes.UnitRef)
    ∷ (dwarf.DW_FORM_ref4, Numeric (Fixed Four) makes.UnitRef)
    ∷ (dwarf.DW_FORM_ref8, Numeric (Fixed Eight) makes.UnitRef)
    ∷ (dwarf.DW_FORM_ref_udata, Numeric Uleb makes.UnitRef)
    ∷ (dwarf.DW_FORM_sec_offset, Numeric Offset makes.SecOffset)
    ∷ (dwarf.DW_FORM_exprloc, Numeric UlebBlock makes.Other)
    ∷ (dwarf.DW_FORM_flag_present, Numeric Nothing makes.Other)
    ∷ (dwarf.DW_FORM_strx, Numeric Uleb makes.StrIndex)
    ∷ (dwarf.DW_FORM_addrx, Numeric Uleb makes.AddrIndex)
    ∷ (dwarf.DW_FORM_ref_sup4, Numeric (Fixed Four) makes.SupRef)
    ∷ (dwarf.DW_FORM_strp_sup, Numeric Offset makes.SupStr)
    ∷ (dwarf.DW_FORM_data16, Numeric Sixteen makes.Other)
    ∷ (dwarf.DW_FORM_line_strp, Numeric Offset makes.LineStrRef)
    ∷ (dwarf.DW_FORM_ref_sig8, Numeric (Fixed Eight) makes.Other)
    ∷ (dwarf.DW_FORM_loclistx, Numeric Uleb makes.Other)
    ∷ (dwarf.DW_FORM_rnglistx, Numeric Uleb makes.RangeIndex)
    ∷ (dwarf.DW_FORM_ref_sup8, Numeric (Fixed Eight) makes.SupRef)
    ∷ (dwarf.DW_FORM_strx1, Numeric (Fixed One) makes.StrIndex)
    ∷ (dwarf.DW_FORM_strx2, Numeric (Fixed Two) makes.StrIndex)
    ∷ (dwarf.DW_FORM_strx3, Numeric (Fixed Three) makes.StrIndex)
    ∷ (dwarf.DW_FORM_strx4, Numeric (Fixed Four) makes.StrIndex)
    ∷ (dwarf.DW_FORM_addrx1, Numeric (Fixed One) makes.AddrIndex)
    ∷ (dwarf.DW_FORM_addrx2, Numeric (Fixed Two) makes.AddrIndex)
    ∷ (dwarf.DW_FORM_addrx3, Numeric (Fixed Three) makes.AddrIndex)
    ∷ (dwarf.DW_FORM_addrx4, Numeric (Fixed Four) makes.AddrIndex)
    ∷ (dwarf.DW_FORM_GNU_ref_alt, Numeric Offset makes.SupRef)
    ∷ (dwarf.DW_FORM_GNU_strp_alt, Numeric Offset makes.SupStr)
    ∷ []

-- the form of a code by the rows of a table, none where no row has the code
abbrev pub form_in : ℕ → List (ℕ × Form) → Option Form
form_in code [] = None
form_in code (row ∷ rows) = if code == row.0 then Some row.1 else form_in code rows

-- the form of a code, none where it is not known
unfoldable pub form_of : ℕ → Option Form
form_of code = form_in code forms_table

-- a number as the value that it makes
abbrev pub made : Makes → ℕ → AttrValue
made makes.Addr n = Addr n
made makes.AddrIndex n = AddrIndex n
made makes.Const n = Const n
made makes.StrRef n = StrRef n
made makes.LineStrRef n = LineStrRef n
made makes.StrIndex n = StrIndex n
made makes.SupStr n = SupStr n
made makes.UnitRef n = UnitRef n
made makes.InfoRef n = InfoRef n
made makes.SupRef n = SupRef n
made makes.SecOffset n = SecOffset n
made makes.RangeIndex n = RangeIndex n
made makes.Other n = Other

-- the text from a place to its zero
unfoldable pub text_here : StrBase → List ℕ → ℕ → Read AttrValue
text_here base bytes at = do
  text ← zero_ended bytes at
  Some (Text (record { part = base.part; start = base.start + at; len = length text.0 }), text.1)

-- what a form reads at a place
unfoldable pub value_by : Form → Encoding → StrBase → Contents → ℕ → Read AttrValue
value_by (Numeric field makes) e base s at = do
  n ← field_at field e s at
  Some (made makes n.0, n.1)
value_by forms.Signed e base s at = do
  n ← sleb s.bytes at
  Some (Signed n.0, n.1)
value_by forms.Text e base s at = text_here base s.bytes at

-- a form that stands in the table
unfoldable pub direct_value : ℕ → Encoding → StrBase → Contents → ℕ → Read AttrValue
direct_value code e base s at = do
  form ← form_of code
  value_by form e base s at

-- Any form. DW_FORM_indirect is followed by the code of the form that is meant, which is of the table.
unfoldable pub form_value : ℕ → Encoding → StrBase → Contents → ℕ → Read AttrValue
form_value code e base s at = if code == dwarf.DW_FORM_indirect then (do
  inner ← uleb s.bytes at
  direct_value inner.0 e base s inner.1) else direct_value code e base s at

-- a value as a number without a sign
abbrev pub unsigned : ℤ → Option ℕ
unsigned (pos n) = Some n
unsigned (negsuc n) = None

-- a constant as a number; nothing for a value of another class, and for a constant below 0
abbrev pub udata : AttrValue → Option ℕ
udata (Const n) = Some n
udata (Signed n) = unsigned n
udata (Addr n) = None
udata (AddrIndex n) = None
udata (Text t) = None
udata (StrRef n) = None
udata (LineStrRef n) = None
udata (StrIndex n) = None
udata (SupStr n) = None
udata (UnitRef n) = None
udata (InfoRef n) = None
udata (SupRef n) = None
udata (SecOffset n) = None
udata (RangeIndex n) = None
udata Other = None
