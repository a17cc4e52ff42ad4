-- The kinds of what is broken in a file.
use Rattle.std.specs.Prelude.{◌≡◌, ◌⊎◌, ⊤}
use Rattle.blz_error.specs.declared.kind.ErrorKind.{ErrorKind}
use Rattle.blz_error.specs.declared.kind.ErrorKind.TheVariants as kind

-- It breaks its format, an index leads nowhere, its debug information breaks the standard, or a form is not read.
abbrev pub IsFormatKind : ErrorKind → Type 0
IsFormatKind kind.NotFound = ⊥
IsFormatKind kind.PermissionDenied = ⊥
IsFormatKind kind.AlreadyExists = ⊥
IsFormatKind kind.WouldBlock = ⊥
IsFormatKind kind.InvalidInput = ⊤
IsFormatKind kind.InvalidData = ⊤
IsFormatKind kind.InvalidDwarf = ⊤
IsFormatKind kind.TimedOut = ⊥
IsFormatKind kind.WriteZero = ⊥
IsFormatKind kind.Unsupported = ⊤
IsFormatKind kind.UnexpectedEof = ⊥
IsFormatKind kind.OutOfMemory = ⊥
IsFormatKind kind.Other = ⊥

-- an error of a file that is in memory: want of memory, or what is broken
abbrev pub IsMemoryOrFormat : ErrorKind → Type 0
IsMemoryOrFormat k = (k ≡ kind.OutOfMemory) ⊎ IsFormatKind k
