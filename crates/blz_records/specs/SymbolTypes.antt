-- What a symbol names (ELF gABI, Symbol Table).
use Rattle.std.specs.Prelude.{ℕ, ◌%◌, Bool, ◌||◌, ◌==◌, Option, Some, None, Result, Ok, Err, if◌then◌else◌}
use Rattle.blz_constants.specs.declared.elf.TheConstants.{STT_FUNC, STT_GNU_IFUNC, STT_NOTYPE, STT_OBJECT}
use Rattle.blz_records.specs.declared.sym_type.SymType.{SymType}
use Rattle.blz_records.specs.declared.sym_type.SymType.TheVariants.{Undefined, Function, Variable}

-- the type in the low four bits of a symbol's info (ELF32_ST_TYPE, ELF64_ST_TYPE)
abbrev pub code_of : ℕ → ℕ
code_of info = info % 16

-- whether a type is asked for: STT_NOTYPE always, STT_FUNC and STT_GNU_IFUNC as functions, STT_OBJECT as variables
abbrev pub matches : ℕ → SymType → Bool
matches code Undefined = code == STT_NOTYPE || code == STT_OBJECT || code == STT_FUNC || code == STT_GNU_IFUNC
matches code Function = code == STT_NOTYPE || code == STT_FUNC || code == STT_GNU_IFUNC
matches code Variable = code == STT_NOTYPE || code == STT_OBJECT

-- what a type names
abbrev pub sym_type_of : ℕ → Option SymType
sym_type_of code =
    if code == STT_NOTYPE then Some Undefined
    else (if code == STT_OBJECT then Some Variable
    else (if code == STT_FUNC || code == STT_GNU_IFUNC then Some Function else None))

abbrev pub as_option : {X E : Type 0} → Result X E → Option X
as_option (Ok x) = Some x
as_option (Err e) = None
