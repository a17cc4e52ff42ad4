-- The segments of an image (ELF gABI, Program Header).
use Rattle.std.specs.Prelude.{◌≡◌, ℕ, ◌+◌, ◌-◌, ◌*◌, ◌^◌, ◌<◌, ⊤, Bool, true, false, ◌&&◌, ◌||◌, List, [], ◌∷◌, length, map, slice_get, nat_le, nat_lt, ◌==◌, not, Option, Some, None, if◌then◌else◌}
use Rattle.std.specs.List.{range_with_len}
use Rattle.blz_constants.specs.declared.elf.TheConstants.{PN_XNUM, PT_LOAD}
use Rattle.blz_error.specs.declared.kind.ErrorKind.TheVariants.{InvalidData}
use Rattle.blz_model.specs.Numbers.{field}
use Rattle.blz_model.specs.Part.{Part, Good, Broken, ◌>>=◌, check}
use Rattle.blz_image.specs.declared.format.Format.{Format}
use Rattle.blz_image.specs.Formats.{word, word_at, segment_size}
use Rattle.blz_image.specs.Headers.{Header, header_of}
use Rattle.blz_image.specs.Sections.{first_section}
use Rattle.blz_image.specs.declared.segments.Segment.{Segment}

-- the program header at a place
abbrev pub segment_at : Format → List ℕ → ℕ → Segment
segment_at f bytes at = record {
  kind = field f.order bytes at 4;
  offset = word_at f bytes (at + word f.class);
  addr = word_at f bytes (at + 2 * word f.class);
  file_size = word_at f bytes (at + 4 * word f.class);
}

-- the number of segments; PN_XNUM says that it stands in the first section header
unfoldable pub segment_count : List ℕ → Header → Part ℕ
segment_count bytes h =
    if not (h.phnum == PN_XNUM) then Good h.phnum
    else (if h.shoff == 0 then Broken InvalidData else (do
      first ← first_section bytes h
      Good first.info))

-- the program headers of an image, whose table has to lie inside it
unfoldable pub segments_of : List ℕ → Header → Part (List Segment)
segments_of bytes h = do
  count ← segment_count bytes h
  inside ← check (nat_le (h.phoff + segment_size h.format.class * count) (length bytes)) InvalidData
  Good (map (λ i. segment_at h.format bytes (h.phoff + segment_size h.format.class * i)) (range_with_len 0 count))

-- ---- from addresses to places of the file and back

-- PT_LOAD
abbrev pub is_load : Segment → Bool
is_load s = s.kind == PT_LOAD

-- a number of 64 bits
abbrev pub if_fits : ℕ → Option ℕ
if_fits n = if nat_lt n (2 ^ 64) then Some n else None

-- The place in the file of `size` bytes at an address, by one segment. No bytes may begin at its end.
abbrev pub file_place : ℕ → ℕ → Segment → Option ℕ
file_place addr size s =
    if is_load s && (nat_le s.addr addr && (nat_lt addr (s.addr + s.file_size) || ((addr == s.addr + s.file_size) && (size == 0)))) then if_fits (addr - s.addr + s.offset)
    else None

-- a place in the file that a loaded segment holds
abbrev pub holds_place : ℕ → Segment → Bool
holds_place place s = is_load s && (nat_le s.offset place && nat_lt place (s.offset + s.file_size))

-- the address of a place in the file, by one segment
abbrev pub address_of : ℕ → Segment → Option ℕ
address_of place s = if holds_place place s then if_fits (place - s.offset + s.addr) else None

abbrev pub or_else : Option ℕ → Option ℕ → Option ℕ
or_else None later = later
or_else (Some n) later = Some n

-- what the first segment gives that gives something
abbrev pub first_given : (Segment → Option ℕ) → List Segment → Option ℕ
first_given f [] = None
first_given f (s ∷ segments) = or_else (f s) (first_given f segments)

unfoldable pub image_segments : List ℕ → Part (List Segment)
image_segments image = do
  header ← header_of image
  segments_of image header

unfoldable pub image_file_place : List ℕ → ℕ → ℕ → Part (Option ℕ)
image_file_place image addr size = do
  segments ← image_segments image
  Good (first_given (file_place addr size) segments)

unfoldable pub image_address_of : List ℕ → ℕ → Part (Option ℕ)
image_address_of image offset = do
  segments ← image_segments image
  Good (first_given (address_of offset) segments)

-- ---- there and back

-- no place in the file is held by two of them
pub record AreApart (segments : List Segment) : Type 0 where
  pub apart : (i j : ℕ) (s t : Segment) (place : ℕ) → i < j → slice_get segments i ≡ Some s → slice_get segments j ≡ Some t → holds_place place s ≡ true → holds_place place t ≡ false

-- The place of an address whose bytes are asked leads back to the address, where the segments are apart.
abbrev pub ComesBack : List ℕ → ℕ → ℕ → Option ℕ → Type 0
ComesBack image addr size None = ⊤
ComesBack image addr size (Some place) = (segments : List Segment) → image_segments image ≡ Good segments → AreApart segments → 0 < size → image_address_of image place ≡ Good (Some addr)
