-- The entries of a unit, and a walk over them (DWARF 5 section 7.5.3).
use Rattle.std.specs.Prelude.{◌≡◌, ℕ, ◌+◌, ◌-◌, false, pos, List, [], drop, slice_get, Option, Some, None, Result, Ok, Err, ◌==◌, nat_lt, if◌then◌else◌}
use Rattle.blz_error.specs.declared.kind.ErrorKind.TheVariants.{InvalidDwarf}
use Rattle.blz_error.specs.Fault.{Fault}
use Rattle.blz_model.specs.Reads.{◌>>=◌}
use Rattle.blz_model.specs.LebNumbers.{uleb}
use Rattle.blz_info.specs.Contents.{Contents, section_view, cut}
use Rattle.blz_info.specs.Abbrevs.{Abbrev, of_code}
use Rattle.blz_info.specs.Attributes.{attribute, attributes, passed}
use Rattle.blz_info.specs.Headers.{encoding_of}
use Rattle.blz_info.specs.Forest.{Head, Close, Open}
use Rattle.blz_info.specs.declared.abbreviations.AttrSpec.{AttrSpec}
use Rattle.blz_info.specs.declared.encoding.Encoding.{Encoding}
use Rattle.blz_info.specs.declared.entries.Entry.{Entry}
use Rattle.blz_info.specs.declared.section.Sections.{Sections}
use Rattle.blz_info.specs.declared.text.StrBase.{StrBase}
use Rattle.blz_info.specs.declared.text.StrPart.TheVariants.{Info as InfoPart, PackInfo, SupInfo}
use Rattle.blz_info.specs.declared.units.UnitHeader.{UnitHeader}
use Rattle.blz_info.specs.declared.forms.value.AttrValue.{AttrValue}

-- What the entries of a unit are read from: the section up to the unit's end, where its texts stand, the sizes of its
-- fields, its abbreviations, and its end.
pub record Source : Type 0 where
  pub section : Contents
  pub base : StrBase
  pub encoding : Encoding
  pub table : List Abbrev
  pub end : ℕ

-- where the texts among the entries stand
abbrev pub info_base : Sections → StrBase
info_base s = record { part = (if s.split then PackInfo else (if s.sup then SupInfo else InfoPart)); start = s.shift }

-- what the entries of a unit are read from, by its sections, its header and its abbreviations
abbrev pub source_of : Sections → UnitHeader → List Abbrev → Source
source_of s h table = record { section = cut h.end (section_view s.info); base = info_base s; encoding = encoding_of h; table = table; end = h.end }

-- what stands at a place of a unit: the code 0, or an entry with the attributes of its abbreviation
unfoldable pub head_at : Source → ℕ → Option Head
head_at u at = do
  code ← uleb u.section.bytes at
  if code.0 == 0 then Some (Close code.1) else (do
    a ← of_code code.0 u.table
    values ← attributes a.specs u.encoding u.base u.section code.1
    Some (Open a.children (record { place = at; code = code.0; tag = a.tag; children = a.children; attributes = values.0 }) values.1))

-- a walk: a place of a unit, the attributes of the last entry that were not read, and how many entries are open
pub record Walk : Type 0 where
  pub source : Source
  pub place : ℕ
  pub pending : List AttrSpec
  pub depth : ℕ

abbrev pub walk_from : Source → ℕ → Walk
walk_from u at = record { source = u; place = at; pending = []; depth = 0 }

-- the walk behind the code of the entry at a place, which has to be one
unfoldable pub opened : Source → ℕ → Option Walk
opened u at = do
  code ← uleb u.section.bytes at
  if code.0 == 0 then None else (do
    a ← of_code code.0 u.table
    Some (record { source = u; place = code.1; pending = a.specs; depth = 0 }))

-- The next entry at a place, and the walk behind its code; none at the end. The zero that closes an entry has the depth
-- of what it closes.
unfoldable pub entry_from : Source → ℕ → ℕ → Option (Option Entry × Walk)
entry_from u depth at = if nat_lt at u.end then (do
  code ← uleb u.section.bytes at
  if code.0 == 0 then Some (Some (record { place = at; depth = pos depth; code = 0; tag = 0; children = false }), record { source = u; place = code.1; pending = []; depth = depth - 1 }) else (do
    a ← of_code code.0 u.table
    Some (Some (record { place = at; depth = pos depth; code = code.0; tag = a.tag; children = a.children }), record { source = u; place = code.1; pending = a.specs; depth = if a.children then depth + 1 else depth })))
    else Some (None, record { source = u; place = at; pending = []; depth = depth })

-- the next entry behind the attributes that were not read
unfoldable pub next_of : Walk → Option (Option Entry × Walk)
next_of w = do
  at ← passed w.pending w.source.encoding w.source.base w.source.section w.place
  entry_from w.source w.depth at

-- the value of an attribute, which is the next one
unfoldable pub value_of : AttrSpec → Walk → Option (AttrValue × Walk)
value_of spec w = do
  v ← attribute spec w.source.encoding w.source.base w.source.section w.place
  Some (v.0, record { source = w.source; place = v.1; pending = drop 1 w.pending; depth = w.depth })

-- the walk behind the attributes that were not read
unfoldable pub skipped_of : Walk → Option (Unit {0} × Walk)
skipped_of w = do
  at ← passed w.pending w.source.encoding w.source.base w.source.section w.place
  Some (tt, record { source = w.source; place = at; pending = []; depth = w.depth })

-- A call on a walk gives what a step gives, and the walk behind it; or there is no step, and the walk is as before.
abbrev pub Steps : {X A : Type 0} → (X → A) → Option (A × Walk) → Walk → Result X Fault → Walk → Type 0
Steps view step old (Ok x) new = step ≡ Some (view x, new)
Steps view step old (Err e) new = (step ≡ None) × (e.kind ≡ InvalidDwarf) × (new ≡ old)

-- the attribute is the next one that was not read
abbrev pub IsNext : AttrSpec → List AttrSpec → Type 0
IsNext spec pending = slice_get pending 0 ≡ Some spec
