-- What a cover keeps for its list of changes.
use Rattle.std.specs.Prelude.{◌≡◌, ℕ, ◌+◌, ◌^◌, ◌<◌, ◌≤◌, ◌==◌, Bool, true, false, List, length, sum_by, slice_get, Option, Some, None}
use Rattle.std.specs.List.{list_any}
use Rattle.blz_cover.specs.Changes.{added_by, taken_by, count_of, total_of}
use Rattle.blz_cover.specs.Coverage.{seen_lines, count_at, rest_by}
use Rattle.blz_cover.specs.LineEntries.{LineEntry, found_or_last, met, recount}
use Rattle.blz_cover.specs.SourceLines.{SourceLine, path_of, is_same}
use Rattle.blz_cover.specs.declared.change.Change.{Change}
use Rattle.blz_cover.specs.declared.tally.Home.{Home}
use Rattle.blz_cover.specs.declared.tally.Home.TheVariants.{Line, Rest}
use Rattle.blz_cover.specs.declared.tally.Tally.{Tally}

-- nothing was taken that had not been added, whichever addresses are looked at
pub record NoneMissing (changes : List Change) : Type 0 where
  pub fits : (p : ℕ → Bool) → sum_by (taken_by p) changes ≤ sum_by (added_by p) changes

-- whether a change is at an address
abbrev pub has_change : ℕ → List Change → Bool
has_change addr changes = list_any (λ c. c.addr == addr) changes

module _ (line_of : ℕ → Option SourceLine) (is_answered : ℕ → Bool) (changes : List Change) where
  -- an entry stands for a line that was seen
  pub record EntryStands (e : LineEntry) (l : SourceLine) : Type 0 where
    pub path : e.path ≡ path_of l
    pub line : e.line ≡ l.line
    pub first : line_of e.addr ≡ Some l
    pub count : e.count ≡ count_at line_of changes l

  -- the entries are the lines that were seen, in their order
  pub record LinesStand (entries : List LineEntry) : Type 0 where
    pub count : length entries ≡ length (seen_lines line_of changes)
    pub each : (k : ℕ) (e : LineEntry) (l : SourceLine) → slice_get entries k ≡ Some e → slice_get (seen_lines line_of changes) k ≡ Some l → EntryStands e l

  -- an address stands at the line of an index
  pub record StandsAt (addr i : ℕ) : Type 0 where
    pub line : SourceLine
    pub seen : SourceLine
    pub has : line_of addr ≡ Some line
    pub there : slice_get (seen_lines line_of changes) i ≡ Some seen
    pub same : is_same seen line ≡ true

  abbrev pub HomeStands : ℕ → Home → Type 0
  HomeStands addr Rest = line_of addr ≡ None
  HomeStands addr (Line i) = StandsAt addr i

  -- what is kept of an address with a change
  pub record TallyStands (addr : ℕ) (t : Tally) : Type 0 where
    pub known : has_change addr changes ≡ true
    pub count : t.count ≡ count_of addr changes
    pub answered : is_answered addr ≡ true
    pub home : HomeStands addr t.home

  abbrev pub TallyStandsIf : ℕ → Option Tally → Type 0
  TallyStandsIf addr None = has_change addr changes ≡ false
  TallyStandsIf addr (Some t) = TallyStands addr t

  -- All that is kept: of each address with a change, of each line that was seen, and the sums.
  pub record Stands (tally_of : ℕ → Option Tally) (entries : List LineEntry) (rest total : ℕ) : Type 0 where
    pub none_missing : NoneMissing changes
    pub tallies : (addr : ℕ) → TallyStandsIf addr (tally_of addr)
    pub lines : LinesStand entries
    pub rest_is : rest ≡ rest_by line_of changes
    pub total_is : total ≡ total_of changes

-- ---- a count at a home

-- the lines and the rest, with another count at a home
abbrev pub lines_at : (ℕ → ℕ) → Home → List LineEntry → List LineEntry
lines_at f Rest entries = entries
lines_at f (Line i) entries = recount f entries i

abbrev pub rest_at : (ℕ → ℕ) → Home → ℕ → ℕ
rest_at f Rest rest = f rest
rest_at f (Line i) rest = rest

-- where an address counts, and the lines with its line
abbrev pub home_for : Option SourceLine → List LineEntry → Home
home_for None entries = Rest
home_for (Some l) entries = Line (found_or_last (path_of l) l.line entries)

abbrev pub lines_for : Option SourceLine → ℕ → List LineEntry → List LineEntry
lines_for None addr entries = entries
lines_for (Some l) addr entries = met (path_of l) l.line addr entries

-- a count can be added at a home
abbrev pub HasRoom : Home → ℕ → List LineEntry → ℕ → Type 0
HasRoom Rest count entries rest = rest + count < 2 ^ 64
HasRoom (Line i) count entries rest = (e : LineEntry) → slice_get entries i ≡ Some e → e.count + count < 2 ^ 64

-- and be taken there
abbrev pub HasCount : Home → ℕ → List LineEntry → ℕ → Type 0
HasCount Rest count entries rest = count ≤ rest
HasCount (Line i) count entries rest = (e : LineEntry) → slice_get entries i ≡ Some e → count ≤ e.count
