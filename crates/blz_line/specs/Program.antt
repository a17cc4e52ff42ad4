-- The line number program: a fold of one step for each opcode (DWARF 5 section 6.2.5).
use Rattle.std.specs.Prelude.{ℕ, zero, suc, ◌+◌, ◌-◌, ◌%◌, ◌^◌, Bool, false, ◌||◌, List, [], ◌∷◌, ◌++◌, length, take, slice_get, Option, Some, None, ◌==◌, nat_lt, if◌then◌else◌, ◌≡◌, MatchResult, Result}
use Rattle.blz_error.specs.Fault.{Fault}
use Rattle.blz_error.specs.declared.kind.ErrorKind.TheVariants.{OutOfMemory, InvalidDwarf}
use Rattle.blz_model.specs.Part.{Fails, or_mark}
use Rattle.blz_model.specs.Reads.{◌>>=◌}
use Rattle.blz_info.specs.Contents.{Contents}
use Rattle.blz_line.specs.declared.row.LineRow.{LineRow}
use Rattle.blz_line.specs.declared.rules.Rules.{Rules}
use Rattle.blz_line.specs.declared.paths.FileEntry.{FileEntry}
use Rattle.blz_line.specs.declared.registers.Registers.{Registers}
use Rattle.blz_line.specs.declared.opcode.Op.{Op}
use Rattle.blz_line.specs.declared.opcode.Op.TheVariants.{Special, Copy, AdvancePc, AdvanceLine, SetFile, SetColumn, Nothing, ConstAddPc, FixedAdvancePc, EndSequence, SetAddress, DefineFile}
use Rattle.blz_line.specs.Registers.{first_registers, moved_by}
use Rattle.blz_line.specs.Sequences.{Sequence, start_of}
use Rattle.blz_line.specs.Opcodes.{op_at}

-- the machine between two opcodes: the rows of the sequence that is open, the sequences that have ended, the files
pub record State : Type 0 where
  pub registers : Registers
  pub rows : List LineRow
  pub sequences : List Sequence
  pub files : List FileEntry

-- the same without the registers
pub record Given : Type 0 where
  pub rows : List LineRow
  pub sequences : List Sequence
  pub files : List FileEntry

abbrev pub state_of : Registers → Given → State
state_of registers g = record { registers = registers; rows = g.rows; sequences = g.sequences; files = g.files }

-- before the first opcode, with the files of the header
abbrev pub first_state : List FileEntry → State
first_state files = record { registers = first_registers; rows = []; sequences = []; files = files }

-- the registers as a row
abbrev pub row_of : Registers → LineRow
row_of g = record { address = g.address; file_index = g.file; line = g.line % 2 ^ 32; column = g.column % 2 ^ 32 }

-- whether there is a row, and it is of an address
abbrev pub is_at : Option LineRow → ℕ → Bool
is_at None a = false
is_at (Some row) a = row.address == a

-- whether the last row is of an address
abbrev pub last_is_at : List LineRow → ℕ → Bool
last_is_at rows a = is_at (slice_get rows (length rows - 1)) a

-- a row more, which replaces the one before it at the same address
unfoldable pub with_row : List LineRow → LineRow → List LineRow
with_row rows row = (if last_is_at rows row.address then take (length rows - 1) rows else rows) ++ row ∷ []

-- the registers as one row more, unless the sequence is skipped
abbrev pub makes_row : State → State
makes_row s = if s.registers.skipping then s else record s { rows = with_row s.rows (row_of s.registers) }

-- what ends: a sequence without rows, and one that ends while rows are skipped, is dropped
abbrev pub closed_by : State → List Sequence
closed_by s = if s.registers.skipping || (length s.rows == 0) then []
    else (record { start = start_of s.rows; end = s.registers.address; rows = s.rows } ∷ [])

-- the sequence ends, and the registers are as at the beginning (DWARF 5 section 6.2.5.3)
unfoldable pub ended : State → State
ended s = record { registers = first_registers; rows = []; sequences = s.sequences ++ closed_by s; files = s.files }

-- what an opcode does beside the registers
abbrev pub noted : Op → State → State
noted (Special code) s = makes_row s
noted Copy s = makes_row s
noted EndSequence s = ended s
noted (DefineFile file) s = record s { files = s.files ++ file ∷ [] }
noted (AdvancePc count) s = s
noted (AdvanceLine by) s = s
noted (SetFile file) s = s
noted (SetColumn column) s = s
noted Nothing s = s
noted ConstAddPc s = s
noted (FixedAdvancePc by) s = s
noted (SetAddress a) s = s

-- one step
unfoldable pub step : Rules → State → Op → Option State
step r s op = do
  g ← moved_by r s.registers op
  Some (noted op (record s { registers = g }))

-- The program from an offset to the end of the bytes, in at most n steps. An opcode takes a byte at least, so as many
-- steps as there are bytes are enough.
unfoldable pub run_in : Rules → List ℕ → Contents → ℕ → State → ℕ → Option State
run_in r counts s zero state at = None
run_in r counts s (suc n) state at = if nat_lt at (length s.bytes) then (do
  op ← op_at r counts s at
  next ← step r state op.0
  run_in r counts s n next op.1)
    else Some state

-- the program from an offset to the end of the bytes
unfoldable pub run_from : Rules → List ℕ → Contents → State → ℕ → Option State
run_from r counts s state at = run_in r counts s (length s.bytes + 1) state at

-- A call notes what an opcode does beside the registers, but for want of memory.
abbrev pub NotesOp : Op → Registers → Given → Given → Result Registers Fault → Type 0
NotesOp op registers old new result =
    MatchResult result (λ g. state_of g new ≡ noted op (state_of registers old)) (λ e. e.kind ≡ OutOfMemory)

-- The registers aside, something is the state that a program ends in.
pub record IsEnd (state : Option State) (given : Given) : Type 0 where
  pub registers : Registers
  pub is : state ≡ Some (state_of registers given)

-- A call gives it, or InvalidDwarf exactly where there is none.
abbrev pub GivesState : Option State → Result Given Fault → Type 0
GivesState state result = MatchResult result (IsEnd state) (λ e. Fails e.kind (or_mark state InvalidDwarf))
