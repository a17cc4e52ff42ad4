-- What reading a file finds.
use Rattle.std.specs.Prelude.{◌≡◌, ⊤, Option, Some, None}
use Rattle.std.specs.FinMap as map
use Rattle.blz_error.specs.Texts.{Bytes}
use Rattle.blz_error.specs.declared.kind.ErrorKind.{ErrorKind}
use Rattle.blz_error.specs.declared.kind.ErrorKind.TheVariants.{NotFound}
use Rattle.blz_resolver.specs.Contents.{Contents}

-- The path holds these bytes, or names nothing, where the contents are told.
abbrev pub Holds : Option Contents → Bytes → Option Bytes → Type 0
Holds None path held = ⊤
Holds (Some contents) path held = map.get contents path ≡ held

-- the path names nothing, and the kind says so
pub record FindsNothing (contents : Option Contents) (path : Bytes) (k : ErrorKind) : Type 0 where
  pub nothing : Holds contents path None
  pub kind : k ≡ NotFound
