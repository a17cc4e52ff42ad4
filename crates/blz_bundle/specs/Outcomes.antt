-- What a call that opens files gives: what it finds, or a refusal with its cause.
use Rattle.std.specs.Prelude.{◌≡◌, ◌⊎◌, ◌≤◌, ℕ, ⊤, Option, Some, None, Result, Ok, Err}
use Rattle.blz_error.specs.Fault.{Fault, out_of_memory}
use Rattle.blz_error.specs.Texts.{Bytes}
use Rattle.blz_error.specs.declared.kind.ErrorKind.{ErrorKind}
use Rattle.blz_error.specs.declared.kind.ErrorKind.TheVariants as kind
use Rattle.blz_links.specs.Contents.{Contents, PathMap}
use Rattle.blz_links.specs.declared.files.stamp.Stamp.{Stamp}
use Rattle.blz_bundle.specs.Opened.{Opened, Found, Refused}

-- the kinds of a failure that the files count
abbrev pub IsFaultKind : ErrorKind → Type 0
IsFaultKind kind.PermissionDenied = ⊤
IsFaultKind kind.Other = ⊤
IsFaultKind k = ⊥

-- a failure of the files; no check failed
pub record IsFault (failed : Type 0) (e : Fault) : Type 0 where
  pub kind : IsFaultKind e.kind
  pub counted : failed
  pub no_values : e.mismatch ≡ None

-- Where a check failed, the error has both values; where nothing is at a path, it has none.
abbrev pub KeepsValues : Option (Bytes × Bytes) → Fault → Type 0
KeepsValues None e = e.kind ≡ kind.NotFound → e.mismatch ≡ None
KeepsValues (Some values) e = e.mismatch ≡ Some values

-- a refusal of the kind that is found, with the values of the check
pub record Tells {A : Type 0} (IsFound : Opened A → Type 0) (e : Fault) : Type 0 where
  pub values : Option (Bytes × Bytes)
  pub is_found : IsFound (Refused e.kind values)
  pub kept : KeepsValues values e

-- An error is want of memory, a failure of the files that was counted, or what is found.
abbrev pub IsRefusal : {A : Type 0} → (Opened A → Type 0) → Type 0 → Fault → Type 0
IsRefusal IsFound failed e = (e ≡ out_of_memory) ⊎ (IsFault failed e ⊎ Tells IsFound e)

-- A call gives what is found, or a refusal; `failed` says that a failure of the files was counted.
abbrev pub Concludes : {X A : Type 0} → (X → A) → Result X Fault → Type 0 → (Opened A → Type 0) → Type 0
Concludes view (Ok x) failed IsFound = IsFound (Found (view x))
Concludes view (Err e) failed IsFound = IsRefusal IsFound failed e

-- The cause of a refusal's kind: a failure of the files, or a mark. Want of memory is neither.
abbrev pub HasKindCause : ErrorKind → Type 0 → Type 0 → Type 0
HasKindCause kind.PermissionDenied failed mark = failed
HasKindCause kind.Other failed mark = failed
HasKindCause kind.OutOfMemory failed mark = ⊥
HasKindCause k failed mark = mark

-- what files hold stays, and their count of failures does not fall
pub record FilesStay {S : Type 0} (contents : S → Option Contents) (stamps : S → Option (PathMap Stamp)) (faults : S → ℕ) (old new : S) : Type 0 where
  pub same_contents : contents new ≡ contents old
  pub same_stamps : stamps new ≡ stamps old
  pub later : faults old ≤ faults new
