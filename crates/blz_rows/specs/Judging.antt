-- What the files of a unit are to a name.
use Rattle.std.specs.Prelude.{◌≡◌, ℕ, List, slice_get, Option, Some, None, if◌then◌else◌}
use Rattle.blz_rows.specs.Entries.{path_of}
use Rattle.blz_rows.specs.Matching.{matches}
use Rattle.blz_rows.specs.declared.verdict.Verdict.{Verdict}
use Rattle.blz_rows.specs.declared.verdict.Verdict.TheVariants.{Absent, Other, Meant}

-- a file that is there is meant by the name or not
abbrev pub verdict_of : List ℕ → Option (List ℕ × List ℕ) → Verdict
verdict_of name None = Absent
verdict_of name (Some file) = if matches (path_of file) name then Meant else Other

-- each verdict that was noted is that of the file of its number
abbrev pub AreNoted : List (List ℕ × List ℕ) → List ℕ → List (Option Verdict) → Type 0
AreNoted files name noted = (number : ℕ) (verdict : Verdict) → slice_get noted number ≡ Some (Some verdict) → verdict ≡ verdict_of name (slice_get files number)

-- the files of a unit, and the name that they are judged by
pub record JudgedFiles : Type 0 where
  pub files : List (List ℕ × List ℕ)
  pub name : List ℕ
