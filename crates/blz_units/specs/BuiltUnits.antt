-- Units that are built, and the unit that a unit is read from (DWARF 5 sections 3.1 and 7.3.5).
use Rattle.std.specs.Prelude.{◌≡◌, ℕ, ◌+◌, ◌^◌, ◌<◌, ◌≤◌, Bool, true, false, List, [], length, Option, Some, None, IfSome, option_map, ◌==◌, if◌then◌else◌}
use Rattle.std.specs.Arc.{arc_value}
use Rattle.std.specs.FinMap as map
use Rattle.blz_model.specs.Reads.{◌>>=◌}
use Rattle.blz_relocations.specs.Relocations.{OffsetMap}
use Rattle.blz_info.specs.AbbreviationTables.{abbreviations}
use Rattle.blz_info.specs.Abbrevs.{Abbrev}
use Rattle.blz_info.specs.Headers.{next_unit}
use Rattle.blz_entry.specs.Roots.{root_of}
use Rattle.blz_entry.specs.declared.root.UnitRoot.{UnitRoot}
use Rattle.blz_info.specs.declared.section.Section.{Section}
use Rattle.blz_info.specs.declared.section.Sections.{Sections}
use Rattle.blz_info.specs.declared.text.Texts.{Texts}
use Rattle.blz_info.specs.declared.units.UnitHeader.{UnitHeader}
use Rattle.blz_info.specs.declared.units.UnitKind.{UnitKind}
use Rattle.blz_info.specs.declared.units.UnitKind.TheVariants.{Compile, TypeUnit, Partial, Skeleton, SplitCompile, SplitType}
use Rattle.blz_line.specs.Headers.{header_at}
use Rattle.blz_info.specs.FileSections.{FileSections, sections_view}
use Rattle.blz_split.specs.SplitSections.{split_sections}
use Rattle.blz_split.specs.PackageParts.{PackageParts, package_view, split_unit, PiecesFit}
use Rattle.blz_split.specs.declared.package.Package.{Package}
use Rattle.blz_split.specs.declared.split_unit.SplitUnit.{SplitUnit}
use Rattle.blz_units.specs.declared.built_unit.BuiltUnit.{BuiltUnit}
use Rattle.blz_units.specs.declared.dwarf.Dwarf.{Dwarf}
use Rattle.blz_units.specs.declared.dwarf.Origin.{Origin}
use Rattle.blz_units.specs.declared.dwarf.Origin.TheVariants.{Main, Split, Sup}
use Rattle.blz_functions.specs.Leaves.{UnitParts, lying}

-- the files that units are read from, without where they lie in memory
pub record Files : Type 0 where
  pub main : FileSections
  pub «package» : Option PackageParts
  pub none : OffsetMap
  pub sup : Option FileSections

abbrev pub files_view : Dwarf → Files
files_view d = record { main = sections_view d.main; «package» = option_map package_view d.«package»; none = d.none.now; sup = option_map sections_view d.sup }

-- ---- what is asked of files that are handed in

abbrev pub bytes_of : Option Section → List ℕ
bytes_of None = []
bytes_of (Some s) = s.bytes.now

-- Sections of a whole file, whose places are numbers of the machine.
pub record AreWhole (s : Sections) : Type 0 where
  pub fits : s.shift + length s.info.bytes.now < 2 ^ 64
  pub at_start : s.shift ≡ 0
  pub not_split : s.split ≡ false

-- the sections of a supplementary file, whose strings are those that the main file refers to
pub record IsSupOf (main : Sections) (s : Sections) : Type 0 where
  pub whole : AreWhole s
  pub is_sup : s.sup ≡ true
  pub strings : main.sup_strings ≡ Some s.strings

-- the texts of a file
pub record AreTextsOf (s : Sections) (t : Texts) : Type 0 where
  pub info : t.info.now ≡ s.info.bytes.now
  pub line : t.line.now ≡ s.line.bytes.now
  pub strings : t.strings.now ≡ s.strings.bytes.now
  pub line_str : t.line_str.now ≡ s.line_str.bytes.now
  pub sup_strings : t.sup_strings.now ≡ bytes_of s.sup_strings

-- the texts of a package, empty without one
abbrev pub ArePacked : Option Package → Texts → Type 0
ArePacked None t = (t.pack_info.now ≡ []) × (t.pack_strings.now ≡ [])
ArePacked (Some p) t = (t.pack_info.now ≡ (package_view p).info) × (t.pack_strings.now ≡ (package_view p).strings)

-- the further texts of a supplementary file, empty without one
abbrev pub AreSupTexts : Option Sections → Texts → Type 0
AreSupTexts None t = (t.sup_info.now ≡ []) × (t.sup_line_str.now ≡ [])
AreSupTexts (Some s) t = (t.sup_info.now ≡ s.info.bytes.now) × (t.sup_line_str.now ≡ s.line_str.bytes.now)

-- Files that units can be read from: the sections are those of a whole file, the texts belong to them, and the map of no
-- relocations is empty.
pub record IsReadable (d : Dwarf) : Type 0 where
  pub main : AreWhole d.main
  pub not_sup : d.main.sup ≡ false
  pub none : d.none.now ≡ map.empty
  pub sup : IfSome d.sup (IsSupOf d.main)
  pub texts : AreTextsOf d.main d.texts
  pub packed : ArePacked d.«package» d.texts
  pub sup_texts : AreSupTexts d.sup d.texts

-- ---- units that are built

-- A line program has to have a header.
abbrev pub line_header : FileSections → ℕ → ℕ → Option (Unit {0})
line_header s at address_size = header_at s.line at address_size >>= λ _. Some tt

-- the line program of a root (DW_AT_stmt_list), where it has one, has to have a header
abbrev pub has_lines : FileSections → UnitHeader → Option ℕ → Option (Unit {0})
has_lines s h None = Some tt
has_lines s h (Some at) = line_header s at h.address_size

-- a unit with its abbreviations and its root
unfoldable pub built : FileSections → UnitHeader → Option UnitParts
built s h = do
  table ← abbreviations s.«abbrev».bytes h.«abbrev»
  root ← root_of (lying s) h table
  lines ← has_lines s h root.line
  Some (record { sections = s; header = h; table = table; root = root })

-- the root of a unit of the main file itself
abbrev pub root_in : Files → UnitHeader → Option UnitRoot
root_in f h = built f.main h >>= λ u. Some u.root

-- a skeleton, or a split unit of the main file, whose id may lead to a split unit of the package
abbrev pub has_id : UnitKind → Bool
has_id Compile = false
has_id TypeUnit = false
has_id Partial = false
has_id Skeleton = true
has_id SplitCompile = true
has_id SplitType = false

-- addresses and ranges of a split unit count from those of its main unit
abbrev pub rooted_on : UnitRoot → UnitRoot → UnitRoot
rooted_on main root = record root { addr_base = main.addr_base; low_pc = main.low_pc }

-- a split unit with the base of addresses and the first address of its main unit
abbrev pub based_on : UnitRoot → UnitParts → UnitParts
based_on main u = record { sections = u.sections; header = u.header; table = u.table; root = rooted_on main u.root }

-- the first unit of some sections, which has to be there
unfoldable pub first_unit : FileSections → Option UnitHeader
first_unit s = do
  first ← next_unit (record { section = s.info; place = 0 })
  first

-- the unit of the pieces, based on a main unit
unfoldable pub split_built : FileSections → UnitRoot → Option UnitParts
split_built s main = do
  header ← first_unit s
  u ← built s header
  Some (based_on main u)

-- A contribution without a unit counts as none.
abbrev pub not_empty : Option SplitUnit → Option SplitUnit
not_empty None = None
not_empty (Some pieces) = if pieces.info.len == 0 then None else Some pieces

-- the contributions of an id in a package; none without a package
abbrev pub pieces_in : ℕ → Option PackageParts → Option (Option SplitUnit)
pieces_in id None = Some None
pieces_in id (Some p) = split_unit p id >>= λ pieces. Some (not_empty pieces)

-- the pieces of the split unit of a unit, where the package has one
unfoldable pub pieces_of : Files → UnitHeader → Option (Option SplitUnit)
pieces_of f h = if has_id h.kind then pieces_in h.id f.«package» else Some None

-- the sections of pieces
abbrev pub split_from : Files → SplitUnit → Option PackageParts → FileSections
split_from f pieces None = f.main
split_from f pieces (Some p) = split_sections p pieces f.main f.none

-- the unit itself, or the split unit of its pieces, based on it
abbrev pub read_from : Files → UnitHeader → Option SplitUnit → Option UnitParts
read_from f h None = built f.main h
read_from f h (Some pieces) = built f.main h >>= λ main. split_built (split_from f pieces f.«package») main.root

-- The unit from which the functions of a unit are read: the split unit of its id where the package has one, and else
-- the unit itself.
unfoldable pub reading : Files → UnitHeader → Option UnitParts
reading f h = pieces_of f h >>= read_from f h

-- the unit of a supplementary file
abbrev pub sup_built : Option FileSections → UnitHeader → Option UnitParts
sup_built None h = None
sup_built (Some s) h = built s h

-- ---- as the code keeps them

abbrev pub or_main : Files → Option FileSections → FileSections
or_main f None = f.main
or_main f (Some s) = s

-- the sections of an origin; where it is not there, those of the main file
abbrev pub sections_from : Files → Origin → FileSections
sections_from f Main = f.main
sections_from f (Split pieces) = split_from f pieces f.«package»
sections_from f Sup = or_main f f.sup

-- pieces lie inside the package
abbrev pub IsInside : Option PackageParts → Origin → Type 0
IsInside None origin = Unit {0}
IsInside (Some p) Main = Unit {0}
IsInside (Some p) Sup = Unit {0}
IsInside (Some p) (Split pieces) = PiecesFit p pieces

-- what is read of a unit, as one value
abbrev pub parts_of : FileSections → UnitHeader → List Abbrev × UnitRoot → UnitParts
parts_of s h read = record { sections = s; header = h; table = read.0; root = read.1 }

-- what a built unit stands for
abbrev pub built_view : Files → BuiltUnit → UnitParts
built_view f u = record { sections = sections_from f u.origin; header = u.header; table = arc_value u.abbreviations; root = u.root }

-- A unit belongs to files.
pub record BuiltFits (f : Files) (u : BuiltUnit) : Type 0 where
  pub inside : IsInside f.«package» u.origin
  pub ordered : u.header.entries ≤ u.header.end
