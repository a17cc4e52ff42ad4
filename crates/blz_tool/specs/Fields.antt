-- Numbers of a fixed size, the least byte first.
use Rattle.std.specs.Prelude.{List, [], ◌∷◌, ◌++◌}
use Rattle.std.specs.Int.{to_le_bytes, w16, w32, w64}
use Rattle.blz_error.specs.Texts.{Bytes}
use Rattle.blz_tool.specs.declared.fields.Field.{Field}
use Rattle.blz_tool.specs.declared.fields.Field.TheVariants.{U16, U32, U64}

-- the two, four or eight bytes of a number
abbrev pub field_bytes : Field → Bytes
field_bytes (U16 n) = to_le_bytes w16 n
field_bytes (U32 n) = to_le_bytes w32 n
field_bytes (U64 n) = to_le_bytes w64 n

-- the bytes of numbers, one behind another
abbrev pub fields_bytes : List Field → Bytes
fields_bytes [] = []
fields_bytes (field ∷ fields) = field_bytes field ++ fields_bytes fields
