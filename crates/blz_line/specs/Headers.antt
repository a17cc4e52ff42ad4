-- Headers of line number programs (DWARF 5 section 6.2.4).
use Rattle.std.specs.Prelude.{ℕ, ◌+◌, ◌-◌, Bool, ◌&&◌, not, length, Option, Some, None, ◌==◌, nat_lt, nat_le, if◌then◌else◌, ℤ, pos, ◌-ℤ◌}
use Rattle.blz_model.specs.Reads.{Read, ◌>>=◌, passed_over}
use Rattle.blz_bytes.specs.Pieces.{byte}
use Rattle.blz_info.specs.Contents.{Contents, cut, number_at, offset_len}
use Rattle.blz_info.specs.Headers.{extent_at, is_address_size}
use Rattle.blz_info.specs.declared.encoding.Encoding.{Encoding}
use Rattle.blz_line.specs.declared.paths.Paths.{Paths}
use Rattle.blz_line.specs.declared.rules.Rules.{Rules}
use Rattle.blz_line.specs.declared.header.LineHeader.{LineHeader}
use Rattle.blz_line.specs.PathTables.{listed_paths}
use Rattle.blz_line.specs.Formats.{formatted_paths}

-- an address has four or eight bytes
abbrev pub with_address_size : Encoding → ℕ → Read Encoding
with_address_size e at = if is_address_size e.address_size then Some (e, at) else None

-- The version, and in version 5 the sizes of addresses and of segment selectors, which are not supported. Before that
-- the address size is the unit's.
unfoldable pub encoding_at : Bool → ℕ → Contents → ℕ → Read Encoding
encoding_at wide address_size s at = do
  version ← number_at 2 s at
  if version.0 == 5 then (do
    size ← byte s.bytes version.1
    selector ← byte s.bytes size.1
    if selector.0 == 0 then with_address_size (record { version = 5; wide = wide; address_size = size.0 }) selector.1 else None) else (
      if nat_le 2 version.0 && nat_le version.0 4 then with_address_size (record { version = version.0; wide = wide; address_size = address_size }) version.1 else
      None)

-- where the program begins, by the header's length
unfoldable pub program_at : Bool → Contents → ℕ → Read ℕ
program_at wide s at = do
  len ← number_at (offset_len wide) s at
  if nat_le (len.1 + len.0) (length s.bytes) then Some (len.1 + len.0, len.1) else None

-- the number of operations of an instruction, which versions before 4 do not have
unfoldable pub max_ops_at : ℕ → Contents → ℕ → Read ℕ
max_ops_at version s at = if nat_le 4 version then byte s.bytes at else Some (1, at)

-- a byte with a sign
abbrev pub signed_byte : ℕ → ℤ
signed_byte b = if nat_lt b 128 then pos b else pos b -ℤ pos 256

-- these fields are not 0
abbrev pub is_usable : Rules → Bool
is_usable r = not (r.min_length == 0) && (not (r.max_ops == 0) && (not (r.line_range == 0) && not (r.opcode_base == 0)))

-- minimum_instruction_length up to opcode_base; default_is_stmt is read and counts for nothing
unfoldable pub rules_at : Encoding → Contents → ℕ → Read Rules
rules_at e s at = do
  min_length ← byte s.bytes at
  max_ops ← max_ops_at e.version s min_length.1
  default_is_stmt ← byte s.bytes max_ops.1
  line_base ← byte s.bytes default_is_stmt.1
  line_range ← byte s.bytes line_base.1
  opcode_base ← byte s.bytes line_range.1
  Some (record { version = e.version; address_size = e.address_size; min_length = min_length.0; max_ops = max_ops.0; line_base = signed_byte line_base.0; line_range = line_range.0; opcode_base = opcode_base.0 }, opcode_base.1)

-- the same, which have to be usable
unfoldable pub usable_rules_at : Encoding → Contents → ℕ → Read Rules
usable_rules_at e s at = do
  rules ← rules_at e s at
  if is_usable rules.0 then Some rules else None

-- the tables of directories and files
abbrev pub paths_at : Encoding → Contents → ℕ → Option Paths
paths_at e s at = if e.version == 5 then formatted_paths e s at else listed_paths s.bytes at

-- the fields of a header as one value; `counts` is the offset of the numbers of operands
abbrev pub header_from : Rules → ℕ → ℕ → ℕ → Paths → LineHeader
header_from r program end counts paths = record {
  version = r.version;
  address_size = r.address_size;
  program = program;
  end = end;
  min_length = r.min_length;
  max_ops = r.max_ops;
  line_base = r.line_base;
  line_range = r.line_range;
  opcode_base = r.opcode_base;
  counts = counts;
  paths = paths;
}

-- what lies inside the header's length: the rules, the numbers of operands of the standard opcodes, the tables
unfoldable pub fields_at : Encoding → ℕ → ℕ → Contents → ℕ → Option LineHeader
fields_at e program end s at = do
  rules ← usable_rules_at e s at
  counts_end ← passed_over (rules.0.opcode_base - 1) s.bytes rules.1
  paths ← paths_at e s counts_end
  Some (header_from rules.0 program end rules.1 paths)

-- the header at an offset; bytes between the tables and the header's end are passed over
unfoldable pub header_at : Contents → ℕ → ℕ → Option LineHeader
header_at s at address_size = do
  extent ← extent_at s at
  encoding ← encoding_at extent.0.wide address_size (cut extent.0.end s) extent.1
  program ← program_at extent.0.wide (cut extent.0.end s) encoding.1
  fields_at encoding.0 program.0 extent.0.end (cut program.0 s) program.1

-- what the steps of a program go by, of its header
abbrev pub rules_of : LineHeader → Rules
rules_of h = record {
  version = h.version;
  address_size = h.address_size;
  min_length = h.min_length;
  max_ops = h.max_ops;
  line_base = h.line_base;
  line_range = h.line_range;
  opcode_base = h.opcode_base;
}
