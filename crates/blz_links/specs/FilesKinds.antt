-- The error that a fault of files becomes.
use Rattle.std.specs.Prelude.{[], ◌∷◌, None}
use Rattle.blz_error.specs.Fault.{Fault}
use Rattle.blz_error.specs.Kinds.{kind_text}
use Rattle.blz_error.specs.declared.kind.ErrorKind.{ErrorKind}
use Rattle.blz_error.specs.declared.kind.ErrorKind.TheVariants as kind
use Rattle.blz_links.specs.declared.files.fault.FilesFault.{FilesFault}
use Rattle.blz_links.specs.declared.files.fault.FilesFault.TheVariants.{NotFound, Denied, Failed, Memory}

abbrev pub kind_from : FilesFault → ErrorKind
kind_from NotFound = kind.NotFound
kind_from Denied = kind.PermissionDenied
kind_from Failed = kind.Other
kind_from Memory = kind.OutOfMemory

-- one text, the kind's
abbrev pub error_from : FilesFault → Fault
error_from fault = record { kind = kind_from fault; texts = kind_text (kind_from fault) ∷ []; mismatch = None }
