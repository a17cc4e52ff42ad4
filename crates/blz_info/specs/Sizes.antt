-- Fields whose bytes the sizes of a unit tell, and the place behind an attribute, whatever its value (DWARF 5 section
-- 7.5.6).
use Rattle.std.specs.Prelude.{ℕ, ◌+◌, [], ◌∷◌, ◌||◌, Option, Some, None, option_map, ◌==◌, if◌then◌else◌, List}
use Rattle.blz_constants.specs.declared.dwarf.TheConstants as dwarf
use Rattle.blz_model.specs.Reads.{◌>>=◌, passed_over}
use Rattle.blz_model.specs.LebNumbers.{uleb, sleb}
use Rattle.blz_bytes.specs.Pieces.{zero_ended}
use Rattle.blz_info.specs.Contents.{Contents, bytes_in, offset_len, field_at}
use Rattle.blz_info.specs.Forms.{form_of}
use Rattle.blz_info.specs.declared.abbreviations.AttrSpec.{AttrSpec}
use Rattle.blz_info.specs.declared.encoding.Encoding.{Encoding}
use Rattle.blz_info.specs.declared.forms.form.Field.{Field}
use Rattle.blz_info.specs.declared.forms.form.Field.TheVariants.{Nothing, Fixed, Address, Offset, RefAddress, Uleb, Sixteen, Block, UlebBlock}
use Rattle.blz_info.specs.declared.forms.form.Form.{Form}
use Rattle.blz_info.specs.declared.forms.form.Form.TheVariants as forms
use Rattle.blz_info.specs.declared.forms.form.Form.TheVariants.{Numeric}

-- no other address can be read
abbrev pub address_len : ℕ → Option ℕ
address_len size = if size == 4 || size == 8 then Some size else None

-- the bytes of a field, where its own bytes do not tell them
abbrev pub size_of : Field → Encoding → Option ℕ
size_of Nothing e = Some 0
size_of (Fixed w) e = Some (bytes_in w)
size_of Address e = address_len e.address_size
size_of Offset e = Some (offset_len e.wide)
size_of RefAddress e = if e.version == 2 then address_len e.address_size else Some (offset_len e.wide)
size_of Uleb e = None
size_of Sixteen e = Some 16
size_of (Block w) e = None
size_of UlebBlock e = None

-- n bytes are passed over where they are there; no bytes are everywhere
unfoldable pub over : ℕ → List ℕ → ℕ → Option ℕ
over n bytes at = if n == 0 then Some at else passed_over n bytes at

-- the place behind what a form reads
unfoldable pub behind_form : Form → Encoding → Contents → ℕ → Option ℕ
behind_form (Numeric field makes) e s at = option_map (λ r. r.1) (field_at field e s at)
behind_form forms.Signed e s at = option_map (λ r. r.1) (sleb s.bytes at)
behind_form forms.Text e s at = option_map (λ r. r.1) (zero_ended s.bytes at)

-- the same of a form of the table by its code
unfoldable pub behind_code : ℕ → Encoding → Contents → ℕ → Option ℕ
behind_code code e s at = do
  form ← form_of code
  behind_form form e s at

-- the place behind an attribute
unfoldable pub behind : AttrSpec → Encoding → Contents → ℕ → Option ℕ
behind a e s at = if a.form == dwarf.DW_FORM_implicit_const then Some at else (if a.form == dwarf.DW_FORM_indirect then (do
  inner ← uleb s.bytes at
  behind_code inner.0 e s inner.1) else behind_code a.form e s at)

-- the bytes of what a form reads, where they are fixed
abbrev pub form_size : Option Form → Encoding → Option ℕ
form_size None e = None
form_size (Some (Numeric field makes)) e = size_of field e
form_size (Some forms.Signed) e = None
form_size (Some forms.Text) e = None

-- The bytes of an attribute. DW_FORM_implicit_const has none, and those of DW_FORM_indirect are not fixed, since it is
-- not of the table.
abbrev pub attribute_size : AttrSpec → Encoding → Option ℕ
attribute_size a e = if a.form == dwarf.DW_FORM_implicit_const then Some 0 else form_size (form_of a.form) e

-- the bytes of some attributes, where those of each are fixed
unfoldable pub size_together : List AttrSpec → Encoding → Option ℕ
size_together [] e = Some 0
size_together (a ∷ rest) e = do
  n ← attribute_size a e
  m ← size_together rest e
  Some (n + m)
