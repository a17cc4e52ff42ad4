-- The usual opcodes of a line program, which are run by four registers alone.
use Rattle.std.specs.Prelude.{ℕ, ◌+◌, ◌-◌, ◌<◌, ◌≤◌, ◌≡◌, false, List, length, Option, Some, None, ◌==◌, nat_le, if◌then◌else◌}
use Rattle.blz_constants.specs.declared.dwarf.TheConstants as dwarf
use Rattle.blz_model.specs.Reads.{Read, ◌>>=◌}
use Rattle.blz_model.specs.LebNumbers.{uleb, sleb}
use Rattle.blz_info.specs.Contents.{Contents}
use Rattle.blz_line.specs.declared.rules.Rules.{Rules}
use Rattle.blz_line.specs.declared.registers.Registers.{Registers}
use Rattle.blz_line.specs.declared.program.usual.Changed.{Changed}
use Rattle.blz_line.specs.declared.opcode.Op.TheVariants.{Special, Copy}
use Rattle.blz_line.specs.Registers.{line_plus, moved_by}
use Rattle.blz_line.specs.Program.{State, run_in}

-- all registers, at the first operation of an instruction whose row is not skipped
abbrev pub plain : Changed → Registers
plain c = record { address = c.address; op_index = 0; file = c.file; line = c.line; column = c.column; skipping = false }

-- the registers behind an opcode that makes a row and has no operands, where it is one
unfoldable pub row_by : Rules → Registers → ℕ → Option Registers
row_by r g code = if nat_le r.opcode_base code then moved_by r g (Special (code - r.opcode_base)) else (
    if code == dwarf.DW_LNS_copy then moved_by r g Copy else None)

-- what the standard opcodes set that make no row, with the place behind their operands
unfoldable pub set_by : Changed → ℕ → List ℕ → ℕ → Read Changed
set_by c code bytes at =
    if code == dwarf.DW_LNS_set_column then (uleb bytes at >>= λ n. Some (record c { column = n.0 }, n.1)) else (
    if code == dwarf.DW_LNS_advance_line then (sleb bytes at >>= λ n. Some (record c { line = line_plus c.line n.0 }, n.1)) else (
    if code == dwarf.DW_LNS_set_file then (uleb bytes at >>= λ n. Some (record c { file = n.0 }, n.1)) else (
    if code == dwarf.DW_LNS_negate_stmt then Some (c, at) else None)))

-- Some steps lead from one state and place to another, whatever is run behind them; each takes a byte at least.
pub record GoesOn (r : Rules) (bytes : List ℕ) (old : State) (at : ℕ) (new : State) (next : ℕ) : Type 0 where
  pub within : next ≤ length bytes
  pub steps : ℕ
  pub few : at + steps ≤ next
  pub same : (counts : List ℕ) (s : Contents) (n : ℕ) → s.bytes ≡ bytes → run_in r counts s (steps + n) old at ≡ run_in r counts s n new next

-- A run of more steps than there are bytes left gives what is wanted.
pub record Leaves (r : Rules) (counts : List ℕ) (s : Contents) (state : State) (at : ℕ) (wanted : Option State) : Type 0 where
  pub within : at ≤ length s.bytes
  pub steps : ℕ
  pub enough : length s.bytes < at + steps
  pub rest : run_in r counts s steps state at ≡ wanted
