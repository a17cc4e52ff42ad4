-- What the answers of files tell, and the causes of their faults.
use Rattle.std.specs.Prelude.{◌≡◌, ℕ, ◌≤◌, ⊤, Option, Some, None, Result, Ok, Err, is_some, Bool, IsSomeAnd, string_bytes}
use Rattle.std.specs.FinMap as map
use Rattle.std.specs.declared.vec.Vec.{Vec}
use Rattle.std.specs.declared.string.String.{String}
use Rattle.blz_error.specs.Texts.{Bytes}
use Rattle.blz_links.specs.Counts.{Rose}
use Rattle.blz_links.specs.Contents.{PathMap, Contents}
use Rattle.blz_links.specs.declared.files.stamp.Stamp.{Stamp}
use Rattle.blz_links.specs.declared.files.fault.FilesFault.{FilesFault}
use Rattle.blz_links.specs.declared.files.fault.FilesFault.TheVariants.{NotFound, Denied, Failed, Memory}

-- contents and stamps are told both, or neither, and of the same paths
abbrev pub AreToldTogether : Option Contents → Option (PathMap Stamp) → Type 0
AreToldTogether None None = ⊤
AreToldTogether None (Some stamps) = ⊥
AreToldTogether (Some contents) None = ⊥
AreToldTogether (Some contents) (Some stamps) = (path : Bytes) → map.contains_key contents path ≡ map.contains_key stamps path

-- a fact that is owed for the faults that are counted
abbrev pub OnCounted : {T : Type 0} → Result T FilesFault → Type 0 → Type 0
OnCounted (Ok x) P = ⊤
OnCounted (Err NotFound) P = ⊤
OnCounted (Err Denied) P = P
OnCounted (Err Failed) P = P
OnCounted (Err Memory) P = ⊤

-- the count did not fall, and Denied and Failed come only where it rose
pub record HasFilesCause {T : Type 0} (before now : ℕ) (result : Result T FilesFault) : Type 0 where
  pub later : before ≤ now
  pub counted : OnCounted result (Rose before now)

-- where the contents are told, a read gives them, and NotFound comes only where the path names nothing
abbrev pub ReadTells : {Z : Type 0} → Option Contents → Bytes → Result (Vec ℕ Z) FilesFault → Type 0
ReadTells None path result = ⊤
ReadTells (Some m) path (Ok v) = map.get m path ≡ Some v.items
ReadTells (Some m) path (Err NotFound) = map.get m path ≡ None
ReadTells (Some m) path (Err Denied) = ⊤
ReadTells (Some m) path (Err Failed) = ⊤
ReadTells (Some m) path (Err Memory) = ⊤

-- where the contents are known, an answer says whether the path names something in them
abbrev pub ExistsTells : Option Contents → Bytes → Result Bool FilesFault → Type 0
ExistsTells None path result = ⊤
ExistsTells (Some m) path (Ok there) = there ≡ is_some (map.get m path)
ExistsTells (Some m) path (Err e) = ⊤

-- the path itself where it is there
abbrev pub IsPathIfThere : {Z : Type 0} → Option Bytes → Bytes → Option (String Z) → Type 0
IsPathIfThere None path answer = answer ≡ None
IsPathIfThere (Some bytes) path answer = IsSomeAnd answer (λ s. string_bytes s ≡ path)

-- where the contents are known, a file is known by its own path, and a path that names nothing has none
abbrev pub CanonicalTells : {Z : Type 0} → Option Contents → Bytes → Result (Option (String Z)) FilesFault → Type 0
CanonicalTells None path result = ⊤
CanonicalTells (Some m) path (Ok answer) = IsPathIfThere (map.get m path) path answer
CanonicalTells (Some m) path (Err e) = ⊤

-- where the stamps are known, the answer is that of the path, and NotFound comes only where it has none
abbrev pub StampTells : Option (PathMap Stamp) → Bytes → Result Stamp FilesFault → Type 0
StampTells None path result = ⊤
StampTells (Some m) path (Ok stamp) = map.get m path ≡ Some stamp
StampTells (Some m) path (Err NotFound) = map.get m path ≡ None
StampTells (Some m) path (Err Denied) = ⊤
StampTells (Some m) path (Err Failed) = ⊤
StampTells (Some m) path (Err Memory) = ⊤
