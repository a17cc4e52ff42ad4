-- What an error says: its kind, its texts with the outermost first, and what a check found beside what it looked for.
use Rattle.std.specs.Prelude.{List, [], ◌∷◌, Option, None, codes}
use Rattle.blz_error.specs.Texts.{Bytes}
use Rattle.blz_error.specs.declared.kind.ErrorKind.{ErrorKind}
use Rattle.blz_error.specs.declared.kind.ErrorKind.TheVariants as kind

-- an error: its kind, its texts with the outermost first, and what a check found beside what it looked for
pub record Fault : Type 0 where
  pub kind : ErrorKind
  pub texts : List Bytes
  pub mismatch : Option (Bytes × Bytes)

-- want of memory
abbrev pub out_of_memory : Fault
out_of_memory = record { kind = kind.OutOfMemory; texts = codes "out of memory" ∷ []; mismatch = None }
