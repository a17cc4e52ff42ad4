-- What a step of opening finds, or how it is refused.
use Rattle.std.specs.Prelude.{Bool, true, false, Option, Some, None}
use Rattle.std.specs.Str.{bytes_eq}
use Rattle.blz_error.specs.Texts.{Bytes}
use Rattle.blz_error.specs.declared.kind.ErrorKind.{ErrorKind}
use Rattle.blz_error.specs.declared.kind.ErrorKind.TheVariants.{InvalidData}
use Rattle.blz_model.specs.Part.{Part, Good, Broken}

-- what was found, or the kind of what is wrong, with what a check found beside what was recorded
pub data Opened (A : Type 0) : Type 0 where
  Found : A → Opened A
  Refused : ErrorKind → Option (Bytes × Bytes) → Opened A

-- a step, then another over what it found
infixl 10 ◌>>=◌
abbrev pub ◌>>=◌ : {A B : Type 0} → Opened A → (A → Opened B) → Opened B
(Found x) >>= f = f x
(Refused k m) >>= f = Refused k m

-- a part of an image that a step reads
abbrev pub of_part : {A : Type 0} → Part A → Opened A
of_part (Good x) = Found x
of_part (Broken k) = Refused k None

-- the same, without what a check found
abbrev pub part_of : {A : Type 0} → Opened A → Part A
part_of (Found x) = Good x
part_of (Refused k m) = Broken k

-- what has to be there
abbrev pub or_refused : {A : Type 0} → Option A → ErrorKind → Opened A
or_refused None k = Refused k None
or_refused (Some x) k = Found x

-- a check of what was found against what was recorded
abbrev pub agreeing : Bool → Bytes → Bytes → Opened (Unit {0})
agreeing true actual recorded = Found tt
agreeing false actual recorded = Refused InvalidData (Some (actual, recorded))

-- the bytes that were found have to be those that were recorded
abbrev pub same_bytes : Bytes → Bytes → Opened (Unit {0})
same_bytes actual recorded = agreeing (bytes_eq actual recorded) actual recorded
