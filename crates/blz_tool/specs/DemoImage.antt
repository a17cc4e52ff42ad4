-- The image of the demo: ELF64 with one unit of debug information (DWARF 4), byte for byte.
use Rattle.std.specs.Prelude.{ℕ, zero, suc, ◌+◌, ◌*◌, ◌-◌, [], ◌∷◌, ◌++◌, length, codes, decimal, replicate}
use Rattle.blz_error.specs.Texts.{Bytes}
use Rattle.blz_tool.specs.Fields.{fields_bytes}
use Rattle.blz_tool.specs.declared.fields.Field.TheVariants.{U16, U32, U64}

-- the first address
abbrev pub first_address : ℕ
first_address = 0x1000

-- the address of a function, each of which has room for 16 bytes
abbrev pub address_at : ℕ → ℕ
address_at i = first_address + 16 * i

-- a text that ends in a zero byte
abbrev pub text_bytes : Bytes → Bytes
text_bytes text = text ++ 0 ∷ []

-- ---- the sections

-- `.shstrtab`: a zero byte, then the names of the sections
abbrev pub section_names : Bytes
section_names = 0 ∷ [] ++ text_bytes (codes ".shstrtab") ++ text_bytes (codes ".debug_abbrev") ++ text_bytes (codes ".debug_info") ++ text_bytes (codes ".debug_line")

-- `.debug_abbrev`: a unit with its name, directory, low address, size and line program; a subprogram with its name, low
-- address and size
abbrev pub abbreviations : Bytes
abbreviations = 0x01 ∷ 0x11 ∷ 0x01 ∷ 0x03 ∷ 0x08 ∷ 0x1b ∷ 0x08 ∷ 0x11 ∷ 0x01 ∷ 0x12 ∷ 0x07 ∷ 0x10 ∷ 0x17 ∷ 0 ∷ 0
    ∷ 0x02 ∷ 0x2e ∷ 0 ∷ 0x03 ∷ 0x08 ∷ 0x11 ∷ 0x01 ∷ 0x12 ∷ 0x06 ∷ 0 ∷ 0 ∷ 0 ∷ []

-- the entry of a function of 8 bytes
abbrev pub function_entry : ℕ → Bytes
function_entry i = 0x02 ∷ [] ++ text_bytes (codes "f" ++ decimal i) ++ fields_bytes (U64 (address_at i) ∷ U32 8 ∷ [])

-- the entries of the first functions
abbrev pub function_entries : ℕ → Bytes
function_entries zero = []
function_entries (suc i) = function_entries i ++ function_entry i

-- the header of the unit of n functions after its length, and its first entry
abbrev pub unit_start : ℕ → Bytes
unit_start n = fields_bytes (U16 4 ∷ U32 0 ∷ []) ++ 0x08 ∷ 0x01 ∷ [] ++ text_bytes (codes "demo.c") ++ text_bytes (codes "/demo")
    ++ fields_bytes (U64 first_address ∷ U64 (16 * n) ∷ U32 0 ∷ [])

-- the unit of n functions after its length: its header, its root, the functions, and the zero that closes the root
abbrev pub unit : ℕ → Bytes
unit n = unit_start n ++ function_entries n ++ 0 ∷ []

-- a part after its length
abbrev pub with_length : Bytes → Bytes
with_length part = fields_bytes (U32 (length part) ∷ []) ++ part

-- the header of the line program after its length, and the row of the first function
abbrev pub line_start : Bytes
line_start = fields_bytes (U16 4 ∷ U32 30 ∷ [])
    ++ 0x01 ∷ 0x01 ∷ 0x01 ∷ 0xfb ∷ 0x0e ∷ 0x0d ∷ 0 ∷ 0x01 ∷ 0x01 ∷ 0x01 ∷ 0x01 ∷ 0 ∷ 0 ∷ 0 ∷ 0x01 ∷ 0 ∷ 0 ∷ 0x01 ∷ 0 ∷ []
    ++ codes "demo.c" ++ 0 ∷ 0 ∷ 0 ∷ 0 ∷ 0 ∷ []
    ++ 0 ∷ 0x09 ∷ 0x02 ∷ [] ++ fields_bytes (U64 first_address ∷ []) ++ 0x01 ∷ []

-- 16 bytes and one line on, a row
abbrev pub line_step : Bytes
line_step = 0x02 ∷ 0x10 ∷ 0x03 ∷ 0x01 ∷ 0x01 ∷ []

-- a row for each of n further functions
abbrev pub line_steps : ℕ → Bytes
line_steps zero = []
line_steps (suc i) = line_steps i ++ line_step

-- 16 bytes on, the sequence ends
abbrev pub line_end : Bytes
line_end = 0x02 ∷ 0x10 ∷ 0 ∷ 0x01 ∷ 0x01 ∷ []

-- the line program of n functions after its length
abbrev pub line_program : ℕ → Bytes
line_program n = line_start ++ line_steps (n - 1) ++ line_end

-- ---- the file

-- the headers take 384 bytes
abbrev pub headers_len : ℕ
headers_len = 384

-- the ELF header: 64 bit, least byte first, version 1; an executable for x86-64; five sections, of which the first has
-- the names
abbrev pub file_header : Bytes
file_header = 0x7f ∷ 0x45 ∷ 0x4c ∷ 0x46 ∷ 2 ∷ 1 ∷ 1 ∷ [] ++ replicate 9 0
    ++ fields_bytes (U16 2 ∷ U16 62 ∷ U32 1 ∷ U64 0 ∷ U64 0 ∷ U64 64 ∷ U32 0 ∷ U16 64 ∷ U16 0 ∷ U16 0 ∷ U16 64 ∷ U16 5 ∷ U16 1 ∷ [])

-- the header of a section: where its name begins, its type, its offset and its size
abbrev pub section_header : ℕ → ℕ → ℕ → ℕ → Bytes
section_header name kind offset size =
    fields_bytes (U32 name ∷ U32 kind ∷ U64 0 ∷ U64 0 ∷ U64 offset ∷ U64 size ∷ U32 0 ∷ U32 0 ∷ U64 1 ∷ U64 0 ∷ [])

-- the first header is all 0; the sections follow the headers without gaps
abbrev pub section_headers : ℕ → ℕ → Bytes
section_headers info_len line_len = replicate 64 0
    ++ section_header 1 3 headers_len (length section_names)
    ++ section_header 11 1 (headers_len + length section_names) (length abbreviations)
    ++ section_header 25 1 (headers_len + length section_names + length abbreviations) info_len
    ++ section_header 37 1 (headers_len + length section_names + length abbreviations + info_len) line_len

-- the file by its `.debug_info` and its `.debug_line`
abbrev pub file_of : Bytes → Bytes → Bytes
file_of info line = file_header ++ section_headers (length info) (length line) ++ section_names ++ abbreviations ++ info ++ line

-- the image with n functions
unfoldable pub demo : ℕ → Bytes
demo n = file_of (with_length (unit n)) (with_length (line_program n))
