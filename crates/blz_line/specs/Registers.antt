-- The registers of the line number state machine, and what each opcode does to them (DWARF 5 sections 6.2.2 and 6.2.5).
use Rattle.std.specs.Prelude.{ℕ, suc, ◌+◌, ◌-◌, ◌*◌, ◌/◌, ◌%◌, ◌^◌, true, false, ◌||◌, Option, Some, None, ◌==◌, nat_lt, nat_le, if◌then◌else◌, ℤ, pos, negsuc, ◌+ℤ◌}
use Rattle.blz_model.specs.Reads.{◌>>=◌}
use Rattle.blz_line.specs.declared.rules.Rules.{Rules}
use Rattle.blz_line.specs.declared.registers.Registers.{Registers}
use Rattle.blz_line.specs.declared.opcode.Op.{Op}
use Rattle.blz_line.specs.declared.opcode.Op.TheVariants.{Special, Copy, AdvancePc, AdvanceLine, SetFile, SetColumn, Nothing, ConstAddPc, FixedAdvancePc, EndSequence, SetAddress, DefineFile}

-- before each sequence
abbrev pub first_registers : Registers
first_registers = record { address = 0; op_index = 0; file = 1; line = 1; column = 0; skipping = false }

-- the greatest address
abbrev pub greatest : Rules → ℕ
greatest r = if r.address_size == 4 then 2 ^ 32 - 1 else 2 ^ 64 - 1

-- So many operations on; an instruction has at most `max_ops` of them. While rows are skipped the address stays.
unfoldable pub advanced : Rules → Registers → ℕ → Option Registers
advanced r g count = if g.skipping then Some g else (
    let total = g.op_index + count in
    let address = g.address + r.min_length * (total / r.max_ops) in
    if nat_le address (greatest r) then Some (record g { address = address; op_index = total % r.max_ops }) else None)

-- so many bytes on
unfoldable pub moved_on : Rules → Registers → ℕ → Option Registers
moved_on r g by = if g.skipping then Some g else (
    if nat_le (g.address + by) (greatest r) then Some (record g { address = g.address + by; op_index = 0 }) else None)

-- An address of all ones, or below the current one, is no place in the file: the rows are skipped until another address
-- is set.
unfoldable pub set_address : Rules → Registers → ℕ → Option Registers
set_address r g a =
    if a == greatest r || nat_lt a g.address then Some (record g { skipping = true }) else (
    if nat_le a (greatest r) then Some (record g { address = a; op_index = 0; skipping = false }) else None)

-- a line below 0 is 0, and a line wraps at 2 ^ 64
abbrev pub line_plus : ℕ → ℤ → ℕ
line_plus line (pos n) = (line + n) % 2 ^ 64
line_plus line (negsuc n) = line - suc n

-- a special opcode, by its distance from the first one
unfoldable pub special : Rules → Registers → ℕ → Option Registers
special r g code = advanced r g (code / r.line_range) >>= λ h.
    Some (record h { line = line_plus h.line (r.line_base +ℤ pos (code % r.line_range)) })

-- The table of opcodes: the registers after each.
unfoldable pub moved_by : Rules → Registers → Op → Option Registers
moved_by r g (Special code) = special r g code
moved_by r g Copy = Some g
moved_by r g (AdvancePc count) = advanced r g count
moved_by r g (AdvanceLine by) = Some (record g { line = line_plus g.line by })
moved_by r g (SetFile file) = Some (record g { file = file })
moved_by r g (SetColumn column) = Some (record g { column = column })
moved_by r g Nothing = Some g
moved_by r g ConstAddPc = advanced r g ((255 - r.opcode_base) / r.line_range)
moved_by r g (FixedAdvancePc by) = moved_on r g by
moved_by r g EndSequence = Some g
moved_by r g (SetAddress a) = set_address r g a
moved_by r g (DefineFile file) = Some g
