-- Notes (ELF gABI, Note Section), and the build id among them (NT_GNU_BUILD_ID).
use Rattle.std.specs.Prelude.{ℕ, zero, suc, ◌+◌, ◌==◌, Bool, ◌&&◌, List, [], ◌∷◌, length, find, Option, Some, None}
use Rattle.std.specs.Int.{next_multiple_of}
use Rattle.std.specs.Option.{option_map}
use Rattle.std.specs.Str.{bytes_eq}
use Rattle.blz_constants.specs.declared.elf.TheConstants.{NT_GNU_BUILD_ID}
use Rattle.blz_model.specs.declared.byte_order.ByteOrder.{ByteOrder}
use Rattle.blz_model.specs.Reads.{Read, ◌>>=◌, number}
use Rattle.blz_bytes.specs.Pieces.{piece}

-- a note: its type, the namesz bytes of its name, and the descsz bytes of its descriptor
pub record NoteValue : Type 0 where
  pub kind : ℕ
  pub name : List ℕ
  pub descriptor : List ℕ

-- a number of bytes with their padding
abbrev pub padded : ℕ → ℕ
padded size = next_multiple_of size 4

-- The note at a place: the sizes of its name and of its descriptor, its type, then both, each padded to a multiple of
-- four. The padding of the descriptor need not be there.
unfoldable pub note_at : ByteOrder → List ℕ → ℕ → Read NoteValue
note_at order bytes at = do
  name_size ← number order 4 bytes at
  size ← number order 4 bytes (at + 4)
  kind ← number order 4 bytes (at + 8)
  name ← piece name_size.0 bytes (at + 12)
  descriptor ← piece size.0 bytes (at + 12 + padded name_size.0)
  Some (record { kind = kind.0; name = name.0; descriptor = descriptor.0 }, at + 12 + padded name_size.0 + padded size.0)

-- a note and those behind it
abbrev pub then_notes : (ℕ → List NoteValue) → Read NoteValue → List NoteValue
then_notes rest None = []
then_notes rest (Some note) = note.0 ∷ rest note.1

-- at most n notes from a place on; one that is cut short ends the list
unfoldable pub notes_from : ℕ → ByteOrder → List ℕ → ℕ → List NoteValue
notes_from zero order bytes at = []
notes_from (suc n) order bytes at = then_notes (notes_from n order bytes) (note_at order bytes at)

-- Each note takes bytes, so these are all.
abbrev pub notes_of : ByteOrder → List ℕ → List NoteValue
notes_of order bytes = notes_from (length bytes) order bytes 0

-- `GNU` and a zero byte
abbrev pub gnu : List ℕ
gnu = 0x47 ∷ 0x4e ∷ 0x55 ∷ 0 ∷ []

-- a note of type NT_GNU_BUILD_ID
abbrev pub is_build_id : NoteValue → Bool
is_build_id note = (note.kind == NT_GNU_BUILD_ID) && bytes_eq note.name gnu

-- the descriptor of the first of some notes that is a build id
abbrev pub build_id_among : List NoteValue → Option (List ℕ)
build_id_among notes = option_map (λ note. note.descriptor) (find is_build_id notes)
