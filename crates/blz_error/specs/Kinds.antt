-- The text of each kind.
use Rattle.std.specs.Prelude.{codes}
use Rattle.blz_error.specs.Texts.{Bytes}
use Rattle.blz_error.specs.declared.kind.ErrorKind.{ErrorKind}
use Rattle.blz_error.specs.declared.kind.ErrorKind.TheVariants as kind

-- the text by which a kind is shown
abbrev pub kind_text : ErrorKind → Bytes
kind_text kind.NotFound = codes "entity not found"
kind_text kind.PermissionDenied = codes "permission denied"
kind_text kind.AlreadyExists = codes "entity already exists"
kind_text kind.WouldBlock = codes "operation would block"
kind_text kind.InvalidInput = codes "invalid input parameter"
kind_text kind.InvalidData = codes "invalid data"
kind_text kind.InvalidDwarf = codes "DWARF data invalid"
kind_text kind.TimedOut = codes "timed out"
kind_text kind.WriteZero = codes "write zero"
kind_text kind.Unsupported = codes "unsupported"
kind_text kind.UnexpectedEof = codes "unexpected end of file"
kind_text kind.OutOfMemory = codes "out of memory"
kind_text kind.Other = codes "other error"
