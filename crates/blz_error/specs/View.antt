-- What the fields of an error stand for.
use Rattle.std.specs.Prelude.{List, ◌∷◌, [], ◌++◌, Option, Some, None, reverse}
use Rattle.std.specs.declared.vec.Vec.{Vec}
use Rattle.blz_error.specs.Texts.{Bytes}
use Rattle.blz_error.specs.Fault.{Fault}
use Rattle.blz_error.specs.declared.error.Error.TheInside.{Inside}

abbrev pub context_texts : {Z : Type 0} → Option (Vec Bytes Z) → List Bytes
context_texts None = []
context_texts (Some v) = reverse v.items

abbrev pub error_view : Inside → Fault
error_view e = record { kind = e.kind; texts = context_texts e.contexts ++ e.innermost ∷ []; mismatch = e.mismatch }
