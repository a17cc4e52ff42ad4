-- What units share is what stands at its offset.
use Rattle.std.proofs.Common.{◌≡◌, ℕ, List, Option, Some, None, option_map, subst}
use Rattle.std.specs.Prelude.{IfSome}
use Rattle.std.specs.Arc.{arc_value}
use Rattle.std.specs.declared.alloc.Global.{Global}
use Rattle.std.specs.declared.sync.Arc.{Arc}
use Rattle.std.specs.BTreeMap.{get, IsEmpty, Updates}
use Rattle.std.specs.Ordering.{nat_cmp}
use Rattle.blz_info.specs.FileSections.{FileSections}
use Rattle.blz_info.specs.AbbreviationTables.{abbreviations}
use Rattle.blz_info.specs.Abbrevs.{Abbrev}
use Rattle.blz_info.specs.declared.units.UnitHeader.{UnitHeader}
use Rattle.blz_units.specs.declared.shared.shared_parts.SharedParts.{SharedParts}
use Rattle.blz_units.specs.BuiltUnits.{line_header}
use Rattle.blz_units.specs.SharedPrograms.{ArePrograms}
use Rattle.blz_units.specs.Sharing.{table_cmp, table_key, table_kept, AreShared}
use Rattle.blz_units.proofs.KeptValues.{if_empty, number_more, pair_more}

abbrev Table : Type 0
Table = Arc (List Abbrev) Global

abbrev IsTableAt : FileSections → ℕ × ℕ → Table → Type 0
IsTableAt s key table = abbreviations s.«abbrev».bytes key.1 ≡ Some (arc_value table)

abbrev IsHeaderAt : FileSections → ℕ → ℕ → Type 0
IsHeaderAt s at size = line_header s at size ≡ Some tt

pub new_shared : (s : FileSections) (p : SharedParts) → IsEmpty p.tables → IsEmpty p.headers → ArePrograms s p.programs → AreShared s p
new_shared s p tables headers programs = record {
  tables = if_empty table_cmp p.tables (IsTableAt s) tables;
  headers = if_empty nat_cmp p.headers (IsHeaderAt s) headers;
  programs = programs;
}

-- the table that is kept is the one of its offset
told_by : {V A : Type 0} (view : V → A) (o : Option V) (P : A → Type 0) (x : A) → IfSome o (λ v. P (view v)) → Some x ≡ option_map view o → P x
told_by view None P x told e = absurd cc
told_by view (Some v) P x told e = let same : view v ≡ x = cc in subst P same told

pub table_told : (s : FileSections) (p : SharedParts) (h : UnitHeader) (table : List Abbrev) → AreShared s p → Some table ≡ table_kept p h → abbreviations s.«abbrev».bytes h.«abbrev» ≡ Some table
table_told s p h table shared e = told_by arc_value (get table_cmp p.tables (table_key h)) (λ t. abbreviations s.«abbrev».bytes h.«abbrev» ≡ Some t) table (shared.tables (table_key h)) e

header_by : (s : FileSections) (at size : ℕ) (o : Option ℕ) → IfSome o (IsHeaderAt s at) → o ≡ Some size → line_header s at size ≡ Some tt
header_by s at size None told e = absurd cc
header_by s at size (Some k) told e = let same : k ≡ size = cc in rw (← same) told

pub header_told : (s : FileSections) (p : SharedParts) (at size : ℕ) → AreShared s p → get nat_cmp p.headers at ≡ Some size → line_header s at size ≡ Some tt
header_told s p at size shared e = header_by s at size (get nat_cmp p.headers at) (shared.headers at) e

-- ---- one part more, or none

module _ (s : FileSections) (old new : SharedParts) where
  pub table_same : new.tables.entries ≡ old.tables.entries → new.headers ≡ old.headers → new.programs ≡ old.programs → AreShared s old → AreShared s new
  table_same e h k shared = record { tables = λ key. rw e (shared.tables key); headers = rw h shared.headers; programs = rw k shared.programs }

  pub header_same : new.headers.entries ≡ old.headers.entries → new.tables ≡ old.tables → new.programs ≡ old.programs → AreShared s old → AreShared s new
  header_same e t k shared = record { tables = rw t shared.tables; headers = λ at. rw e (shared.headers at); programs = rw k shared.programs }

  pub programs_again : new.tables ≡ old.tables → new.headers ≡ old.headers → ArePrograms s new.programs → AreShared s old → AreShared s new
  programs_again t h programs shared = record { tables = rw t shared.tables; headers = rw h shared.headers; programs = programs }

  pub table_more : (key : ℕ × ℕ) (table : Table) → Updates table_cmp old.tables new.tables key (Some table) → new.headers ≡ old.headers → new.programs ≡ old.programs → abbreviations s.«abbrev».bytes key.1 ≡ Some (arc_value table) → AreShared s old → AreShared s new
  table_more key table u h k here shared = record {
    tables = pair_more old.tables new.tables key table (IsTableAt s) u here shared.tables;
    headers = rw h shared.headers;
    programs = rw k shared.programs;
  }

  pub header_more : (at size : ℕ) → Updates nat_cmp old.headers new.headers at (Some size) → new.tables ≡ old.tables → new.programs ≡ old.programs → line_header s at size ≡ Some tt → AreShared s old → AreShared s new
  header_more at size u t k here shared = record {
    tables = rw t shared.tables;
    headers = number_more old.headers new.headers at size (IsHeaderAt s) u here shared.headers;
    programs = rw k shared.programs;
  }

-- ---- the same sections

pub shared_to : (s t : FileSections) (p : SharedParts) → s ≡ t → AreShared t p → AreShared s p
shared_to s t p e shared = rw e shared

pub shared_from : (s t : FileSections) (p : SharedParts) → s ≡ t → AreShared s p → AreShared t p
shared_from s t p e shared = rw (← e) shared
