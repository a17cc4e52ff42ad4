-- What is kept of files: a finite map from a path, and whether debug information is asked, to a stamp and the images.
use Rattle.std.specs.Prelude.{◌≡◌, ◌≢◌, ◌<◌, ℕ, length, Bool, false, ◌&&◌, ◌==◌, List, [], ◌∷◌, Option, Some, None, if◌then◌else◌, ⊤}
use Rattle.std.specs.Bool.{beq}
use Rattle.std.specs.List.{slice_get}
use Rattle.std.specs.Str.{bytes_eq}
use Rattle.blz_error.specs.Texts.{Bytes}
use Rattle.blz_bundle.specs.Images.{ImageSet}
use Rattle.blz_links.specs.declared.files.stamp.Stamp.{Stamp}

-- a file as it is asked: its path, and whether its debug information is asked
pub record Asked : Type 0 where
  pub path : Bytes
  pub debug_syms : Bool

-- a file as it was opened
pub record Opened : Type 0 where
  pub stamp : Stamp
  pub images : ImageSet

abbrev pub Entries : Type 0
Entries = List (Asked × Opened)

abbrev pub same_asked : Asked → Asked → Bool
same_asked a b = bytes_eq a.path b.path && beq a.debug_syms b.debug_syms

abbrev pub same_stamp : Stamp → Stamp → Bool
same_stamp a b = (a.size == b.size) && (a.changed == b.changed)

-- what is kept of a file
abbrev pub kept_of : Asked → Entries → Option Opened
kept_of a [] = None
kept_of a (e ∷ es) = if same_asked a e.0 then Some e.1 else kept_of a es

-- with a file in the place of what was kept of it
abbrev pub with_opened : Asked → Opened → Entries → Entries
with_opened a opened [] = (a, opened) ∷ []
with_opened a opened (e ∷ es) = if same_asked a e.0 then (a, opened) ∷ es else e ∷ with_opened a opened es

-- nothing is kept of the file, or it was opened at another stamp
abbrev pub IsStale : Stamp → Option Opened → Type 0
IsStale stamp None = ⊤
IsStale stamp (Some opened) = opened.stamp ≢ stamp

-- ---- where a file stands

-- none of the first n is the file
abbrev pub AreOthers : Asked → Entries → ℕ → Type 0
AreOthers a es n = (k : ℕ) (e : Asked × Opened) → k < n → slice_get es k ≡ Some e → same_asked a e.0 ≡ false

pub record IsFirst (a : Asked) (es : Entries) (at : ℕ) : Type 0 where
  pub opened : Opened
  pub there : slice_get es at ≡ Some (a, opened)
  pub before : AreOthers a es at

abbrev pub IsFound : Asked → Entries → Option ℕ → Type 0
IsFound a es None = AreOthers a es (length es)
IsFound a es (Some at) = IsFirst a es at

-- where a file stands that is kept at a stamp, and nowhere where what is kept of it has none or another
pub record IsAt (a : Asked) (stamp : Stamp) (es : Entries) (at : ℕ) : Type 0 where
  pub opened : Opened
  pub there : slice_get es at ≡ Some (a, opened)
  pub kept : kept_of a es ≡ Some opened
  pub same : opened.stamp ≡ stamp

abbrev pub IsPlace : Asked → Stamp → Entries → Option ℕ → Type 0
IsPlace a stamp es None = IsStale stamp (kept_of a es)
IsPlace a stamp es (Some at) = IsAt a stamp es at
