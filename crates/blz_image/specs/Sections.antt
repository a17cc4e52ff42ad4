-- The section table and the bytes of a section (ELF gABI, Sections).
use Rattle.std.specs.Prelude.{ℕ, ◌+◌, ◌*◌, ◌/◌, ◌%◌, Bool, ◌&&◌, ◌||◌, not, bit_and, List, [], length, map, slice_range, nat_le, nat_lt, ◌==◌, Option, Some, None, if◌then◌else◌}
use Rattle.std.specs.List.{range_with_len}
use Rattle.blz_constants.specs.declared.elf.TheConstants.{SHF_COMPRESSED, SHT_NOBITS}
use Rattle.blz_error.specs.declared.kind.ErrorKind.TheVariants.{InvalidData, Unsupported}
use Rattle.blz_model.specs.Numbers.{field}
use Rattle.blz_model.specs.Part.{Part, Good, Broken, ◌>>=◌, check}
use Rattle.blz_image.specs.declared.format.Format.{Format}
use Rattle.blz_image.specs.Formats.{word, section_size, compression_size, word_at}
use Rattle.blz_image.specs.Headers.{Header}
use Rattle.blz_image.specs.declared.section.Section.{Section}

-- the section header at a place
abbrev pub section_at : Format → List ℕ → ℕ → Section
section_at f bytes at = record {
  name_offset = field f.order bytes at 4;
  kind = field f.order bytes (at + 4) 4;
  flags = word_at f bytes (at + 8);
  addr = word_at f bytes (at + 8 + word f.class);
  offset = word_at f bytes (at + 8 + 2 * word f.class);
  size = word_at f bytes (at + 8 + 3 * word f.class);
  link = field f.order bytes (at + 8 + 4 * word f.class) 4;
  info = field f.order bytes (at + 12 + 4 * word f.class) 4;
}

-- SHT_NOBITS: a section without bytes
abbrev pub is_nobits : Section → Bool
is_nobits s = s.kind == SHT_NOBITS

-- the first section header, which holds what the header has no room for
unfoldable pub first_section : List ℕ → Header → Part Section
first_section bytes h = do
  inside ← check (nat_le (h.shoff + section_size h.format.class) (length bytes)) InvalidData
  Good (section_at h.format bytes h.shoff)

-- the number of sections: in the header, or in the size of the first section; none where there is no table
unfoldable pub section_count : List ℕ → Header → Part ℕ
section_count bytes h =
    if not (h.shnum == 0) then Good h.shnum
    else (if h.shoff == 0 then Good 0 else (do
      first ← first_section bytes h
      Good first.size))

-- the section table
unfoldable pub sections_of : List ℕ → Header → Part (List Section)
sections_of bytes h = do
  count ← section_count bytes h
  inside ← check (nat_le (h.shoff + section_size h.format.class * count) (length bytes)) InvalidData
  Good (map (λ i. section_at h.format bytes (h.shoff + section_size h.format.class * i)) (range_with_len 0 count))

-- the bytes of a section, whatever its flags say
unfoldable pub raw_data : List ℕ → Section → Part (List ℕ)
raw_data bytes s =
    if is_nobits s then Good []
    else (do
      inside ← check (nat_le (s.offset + s.size) (length bytes)) InvalidData
      Good (slice_range bytes s.offset (s.offset + s.size)))

-- SHF_COMPRESSED
abbrev pub is_compressed : Section → Bool
is_compressed s = bit_and s.flags SHF_COMPRESSED == SHF_COMPRESSED

-- The data of a section. Nothing unpacks compressed ones.
unfoldable pub data_of : Format → List ℕ → Section → Part (List ℕ)
data_of f bytes s = do
  content ← raw_data bytes s
  if not (is_nobits s) && is_compressed s then Broken (if nat_lt (length content) (compression_size f.class) then InvalidData else Unsupported) else Good content

-- records one after another: where the first begins, and how many they are
pub record Run : Type 0 where
  pub start : ℕ
  pub count : ℕ

-- where the records of a section lie, each of `size` bytes
unfoldable pub run_in : ℕ → List ℕ → Section → Part Run
run_in size bytes s =
    if is_nobits s || (s.size == 0) then Good (record { start = 0; count = 0 })
    else (do
      whole ← check (s.size % size == 0) InvalidData
      inside ← check (nat_le (s.offset + s.size) (length bytes)) InvalidData
      Good (record { start = s.offset; count = s.size / size }))

-- the records of a section
unfoldable pub records_of : {A : Type 0} → (List ℕ → ℕ → A) → ℕ → List ℕ → Section → Part (List A)
records_of record_at size bytes s = do
  run ← run_in size bytes s
  Good (map (λ i. record_at bytes (run.start + size * i)) (range_with_len 0 run.count))

-- what is read of a section, where there is one
abbrev pub if_there : {A : Type 0} → (Section → Part (List A)) → Option Section → Part (List A)
if_there read None = Good []
if_there read (Some s) = read s
