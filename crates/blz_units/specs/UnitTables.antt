-- The units of a file, and the addresses that they announce (DWARF 5 sections 6.1.2, 7.5.1 and 3.1.1).
use Rattle.std.specs.Prelude.{ℕ, Bool, true, false, not, List, [], ◌∷◌, ◌++◌, length, Option, Some, None, filter, is_some, if◌then◌else◌}
use Rattle.std.specs.List.{slice_get}
use Rattle.blz_model.specs.Reads.{◌>>=◌}
use Rattle.blz_info.specs.Contents.{Contents}
use Rattle.blz_entry.specs.Folds.{fold_maybe}
use Rattle.blz_info.specs.Headers.{headers_from}
use Rattle.blz_entry.specs.declared.aranges.ArangeSet.{ArangeSet}
use Rattle.blz_ranges.specs.declared.span.Span.{Span}
use Rattle.blz_info.specs.declared.units.UnitHeader.{UnitHeader}
use Rattle.blz_info.specs.declared.units.UnitKind.{UnitKind}
use Rattle.blz_info.specs.declared.units.UnitKind.TheVariants.{Compile, TypeUnit, Partial, Skeleton, SplitCompile, SplitType}
use Rattle.blz_line.specs.Lookups.{spans_of}
use Rattle.blz_line.specs.UnitLines.{LineTable, maybe_table}
use Rattle.blz_info.specs.FileSections.{FileSections}
use Rattle.blz_units.specs.BuiltUnits.{Files, built, reading, sup_built}
use Rattle.blz_functions.specs.Leaves.{UnitParts, lying, ranges_in}
use Rattle.blz_ranges.specs.Owned.{Owned, items_of, own_all, owners_of}
use Rattle.blz_functions.specs.References.{Reach}
use Rattle.blz_units.specs.Sets.{sets_from, named}
use Rattle.blz_ranges.specs.Turns.{covering}

-- ---- what a unit announces

-- a type unit, which has no addresses
abbrev pub is_type : UnitKind → Bool
is_type Compile = false
is_type TypeUnit = true
is_type Partial = false
is_type Skeleton = false
is_type SplitCompile = false
is_type SplitType = true

-- a partial unit, which other units import
abbrev pub is_partial : UnitKind → Bool
is_partial Compile = false
is_partial TypeUnit = false
is_partial Partial = true
is_partial Skeleton = false
is_partial SplitCompile = false
is_partial SplitType = false

-- what the sequences of a line table cover; none where there is no table, or it has no value
abbrev pub sequences_of : Option (Option LineTable) → List Span
sequences_of None = []
sequences_of (Some None) = []
sequences_of (Some (Some table)) = spans_of table.sequences

-- the lines of a unit
abbrev pub lines_in : UnitParts → Option (Option LineTable)
lines_in u = maybe_table (lying u.sections) u.header u.root u.root.line

-- the ranges of a root, and where there are none the sequences of its lines
abbrev pub or_sequences : UnitParts → List Span → List Span
or_sequences u [] = sequences_of (lines_in u)
or_sequences u (s ∷ spans) = s ∷ spans

-- what a unit announces by itself: the ranges of its root, and where there are none what its lines cover
abbrev pub root_spans : UnitParts → Option (List Span)
root_spans u = ranges_in u u.root.ranges >>= λ spans. Some (or_sequences u spans)

-- A unit that cannot be built is not kept.
abbrev pub by_root : Option UnitParts → Option (Option (List Span))
by_root None = Some None
by_root (Some u) = root_spans u >>= λ spans. Some (Some spans)

-- A unit whose start is named with ranges is not built.
abbrev pub by_pairs : List Span → Option UnitParts → Option (Option (List Span))
by_pairs [] unit = by_root unit
by_pairs (s ∷ spans) unit = Some (Some (s ∷ spans))

-- The ranges that a unit announces, and none of one that is not kept: a type unit is not, and a partial unit is kept and
-- announces nothing. A list of ranges of a root has to have a value.
unfoldable pub announces : FileSections → List ArangeSet → UnitHeader → Option (Option (List Span))
announces s sets h =
    if is_type h.kind then Some None else (
    if is_partial h.kind then Some (Some []) else by_pairs (named s.aranges h.start sets) (built s h))

-- ranges behind others, and whether there is a unit that has them
abbrev pub added : List Span → Option (List Span) → List Span × Bool
added old None = (old, false)
added old (Some spans) = (old ++ spans, true)

abbrev pub added_to : List Span → Option (Option (List Span)) → Option (List Span × Bool)
added_to old spans = spans >>= λ new. Some (added old new)

-- the ranges of a root behind others
abbrev pub root_behind : UnitParts → List Span → Option (List Span)
root_behind u old = root_spans u >>= λ spans. Some (old ++ spans)

-- ---- the units of a file

-- the units that are kept so far, and what they announce, each range with the number of its unit
pub record KeptUnits : Type 0 where
  pub kept : List UnitHeader
  pub announced : List (Owned Span)

-- before the first unit
abbrev pub no_units : KeptUnits
no_units = record { kept = []; announced = [] }

-- the units with one more and the ranges that it announces, where it is kept
abbrev pub keep : KeptUnits → UnitHeader → Option (List Span) → KeptUnits
keep k h None = k
keep k h (Some spans) = record { kept = k.kept ++ h ∷ []; announced = k.announced ++ own_all (length k.kept) spans }

-- one unit more
unfoldable pub with_unit : FileSections → List ArangeSet → KeptUnits → UnitHeader → Option KeptUnits
with_unit s sets k h = announces s sets h >>= λ spans. Some (keep k h spans)

-- all units, in their order
abbrev pub units_kept : FileSections → List ArangeSet → Option KeptUnits
units_kept s sets = headers_from s.info 0 >>= fold_maybe (with_unit s sets) no_units

-- the units that references from the main file may lead to
abbrev pub no_types : List UnitHeader → List UnitHeader
no_types headers = filter (λ (h : UnitHeader). not (is_type h.kind)) headers

-- the units of a section, type units left out
abbrev pub units_in : Contents → Option (List UnitHeader)
units_in info = headers_from info 0 >>= λ headers. Some (no_types headers)

-- the units of the supplementary file; none without one
unfoldable pub sup_units : Option FileSections → Option (List UnitHeader)
sup_units None = Some []
sup_units (Some s) = units_in s.info

-- Their headers have to have a value.
abbrev pub sups_checked : Option FileSections → Option (Unit {0})
sups_checked s = sup_units s >>= λ _. Some tt

-- The units that are kept, what they announce, and the units of the supplementary file.
pub record UnitTable : Type 0 where
  pub kept : List UnitHeader
  pub announced : List (Owned Span)
  pub sups : List UnitHeader

-- All sets and all headers have to have a value.
unfoldable pub units_of : Files → Option UnitTable
units_of f = do
  sups ← sup_units f.sup
  sets ← sets_from f.main.aranges 0
  units ← units_kept f.main sets
  Some (record { kept = units.kept; announced = units.announced; sups = sups })

-- ---- what is asked of a table

-- what the references of its units may lead to
abbrev pub reach_of : Files → UnitTable → Reach
reach_of f t = record {
  kept = t.kept;
  reading = λ k. slice_get t.kept k >>= reading f;
  has_sup = is_some f.sup;
  sups = t.sups;
  sup = λ k. slice_get t.sups k >>= sup_built f.sup;
}

-- The units that announce an address, by the ranges that cover it: the greatest begin first, then the earlier place. A
-- unit may stand there more than once.
abbrev pub announcing : UnitTable → ℕ → List ℕ
announcing t addr = owners_of t.announced (covering (items_of t.announced) addr)
