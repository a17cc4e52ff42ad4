-- Opcodes and their operands in the bytes of a line number program (DWARF 5 sections 6.2.5 and 7.22).
use Rattle.std.specs.Prelude.{ℕ, zero, suc, ◌+◌, ◌-◌, ◌||◌, ◌&&◌, List, length, slice_index, Option, Some, None, ◌==◌, nat_lt, nat_le, if◌then◌else◌}
use Rattle.blz_constants.specs.declared.dwarf.TheConstants as dwarf
use Rattle.blz_model.specs.Reads.{Read, ◌>>=◌, number}
use Rattle.blz_model.specs.LebNumbers.{uleb, sleb}
use Rattle.blz_bytes.specs.Pieces.{byte}
use Rattle.blz_info.specs.Contents.{Contents, address_at, cut}
use Rattle.blz_line.specs.declared.rules.Rules.{Rules}
use Rattle.blz_line.specs.PathTables.{file_at}
use Rattle.blz_line.specs.declared.opcode.Op.{Op}
use Rattle.blz_line.specs.declared.opcode.Op.TheVariants.{Special, Copy, AdvancePc, AdvanceLine, SetFile, SetColumn, Nothing, ConstAddPc, FixedAdvancePc, EndSequence, SetAddress, DefineFile}

-- n unsigned LEB128 numbers that are passed over
unfoldable pub ulebs_passed : ℕ → List ℕ → ℕ → Option ℕ
ulebs_passed zero bytes at = Some at
ulebs_passed (suc n) bytes at = do
  u ← uleb bytes at
  ulebs_passed n bytes u.1

-- an extended opcode, whose operands are the bytes up to the end
unfoldable pub extended_op : Rules → Contents → ℕ → ℕ → Option Op
extended_op r s code at =
    if code == dwarf.DW_LNE_end_sequence then Some EndSequence else (
    if code == dwarf.DW_LNE_set_address then (address_at r.address_size s at >>= λ a. Some (SetAddress a.0)) else (
    if code == dwarf.DW_LNE_define_file && nat_le r.version 4 then (file_at s.bytes at >>= λ f. Some (DefineFile f.0)) else
    Some Nothing))

-- an extended opcode behind its 0: its length, which is not 0, and as many bytes; what is left of them is passed over
unfoldable pub extended_at : Rules → Contents → ℕ → Read Op
extended_at r s at = do
  len ← uleb s.bytes at
  if len.0 == 0 || nat_lt (length s.bytes) (len.1 + len.0) then None else (do
    code ← byte s.bytes len.1
    op ← extended_op r (cut (len.1 + len.0) s) code.0 code.1
    Some (op, len.1 + len.0))

-- The table of standard opcodes and their operands. One that it does not have takes as many numbers as the header says.
unfoldable pub standard_at : Rules → List ℕ → Contents → ℕ → ℕ → Read Op
standard_at r counts s code at =
    if code == 0 then extended_at r s at else ( -- an extended opcode
    if code == dwarf.DW_LNS_copy then Some (Copy, at) else (
    if code == dwarf.DW_LNS_advance_pc then (uleb s.bytes at >>= λ n. Some (AdvancePc n.0, n.1)) else (
    if code == dwarf.DW_LNS_advance_line then (sleb s.bytes at >>= λ n. Some (AdvanceLine n.0, n.1)) else (
    if code == dwarf.DW_LNS_set_file then (uleb s.bytes at >>= λ n. Some (SetFile n.0, n.1)) else (
    if code == dwarf.DW_LNS_set_column then (uleb s.bytes at >>= λ n. Some (SetColumn n.0, n.1)) else (
    if (code == dwarf.DW_LNS_negate_stmt || code == dwarf.DW_LNS_set_basic_block) || (code == dwarf.DW_LNS_set_prologue_end || code == dwarf.DW_LNS_set_epilogue_begin) then Some (Nothing, at) else ( -- flags that rows do not keep
    if code == dwarf.DW_LNS_const_add_pc then Some (ConstAddPc, at) else (
    if code == dwarf.DW_LNS_fixed_advance_pc then (number s.order 2 s.bytes at >>= λ n. Some (FixedAdvancePc n.0, n.1)) else (
    if code == dwarf.DW_LNS_set_isa then (uleb s.bytes at >>= λ n. Some (Nothing, n.1)) else
    (ulebs_passed (slice_index counts (code - 1)) s.bytes at >>= λ next. Some (Nothing, next)))))))))))

-- the opcode at an offset; from `opcode_base` up it is special, also where the table of standard opcodes has it
unfoldable pub op_at : Rules → List ℕ → Contents → ℕ → Read Op
op_at r counts s at = do
  code ← byte s.bytes at
  if nat_le r.opcode_base code.0 then Some (Special (code.0 - r.opcode_base), code.1) else standard_at r counts s code.0 code.1
