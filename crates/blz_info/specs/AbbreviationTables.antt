-- Abbreviation tables (DWARF 5 section 7.5.3).
use Rattle.std.specs.Prelude.{ℕ, zero, suc, Bool, true, false, ◌&&◌, pos, List, [], ◌∷◌, ◌++◌, length, Option, Some, None, ◌==◌, if◌then◌else◌}
use Rattle.std.specs.Prelude.{is_some}
use Rattle.blz_constants.specs.declared.dwarf.TheConstants as dwarf
use Rattle.blz_model.specs.Reads.{Read, ◌>>=◌}
use Rattle.blz_bytes.specs.Pieces.{byte}
use Rattle.blz_model.specs.LebNumbers.{uleb, sleb}
use Rattle.blz_info.specs.declared.abbreviations.AttrSpec.{AttrSpec}
use Rattle.blz_info.specs.Abbrevs.{Abbrev, of_code}

-- a name and a form, and behind DW_FORM_implicit_const the value itself
unfoldable pub spec_at : List ℕ → ℕ → Read AttrSpec
spec_at bytes at = do
  name ← uleb bytes at
  form ← uleb bytes name.1
  if form.0 == dwarf.DW_FORM_implicit_const then (do
    constant ← sleb bytes form.1
    Some (record { name = name.0; form = form.0; constant = constant.0 }, constant.1)) else Some (record { name = name.0; form = form.0; constant = pos 0 }, form.1)

-- The pair 0, 0 ends the list; a pair of which one alone is 0 does not.
abbrev pub is_last : AttrSpec → Bool
is_last s = (s.name == 0) && (s.form == 0)

-- the pairs from a place on, behind those so far; at most n of them
unfoldable pub specs_in : ℕ → List AttrSpec → List ℕ → ℕ → Read (List AttrSpec)
specs_in zero so_far bytes at = None
specs_in (suc n) so_far bytes at = do
  s ← spec_at bytes at
  if is_last s.0 then Some (so_far, s.1) else specs_in n (so_far ++ s.0 ∷ []) bytes s.1

-- the byte that tells whether an entry has children: DW_CHILDREN_no or DW_CHILDREN_yes
abbrev pub has_children : ℕ → Option Bool
has_children n = if n == dwarf.DW_CHILDREN_no then Some false else (if n == dwarf.DW_CHILDREN_yes then Some true else None)

-- an abbreviation behind its code
unfoldable pub abbreviation_at : ℕ → List ℕ → ℕ → Read Abbrev
abbreviation_at code bytes at = do
  tag ← uleb bytes at
  flag ← byte bytes tag.1
  children ← has_children flag.0
  specs ← specs_in (length bytes) [] bytes flag.1
  Some (record { code = code; tag = tag.0; children = children; specs = specs.0 }, specs.1)

-- whether some abbreviation has the code, which no second one may have
abbrev pub has_code : ℕ → List Abbrev → Bool
has_code code table = is_some (of_code code table)

-- the abbreviations from a place up to the code 0, behind those so far; at most n of them, and no code twice
unfoldable pub table_in : ℕ → List Abbrev → List ℕ → ℕ → Option (List Abbrev)
table_in zero so_far bytes at = None
table_in (suc n) so_far bytes at = do
  code ← uleb bytes at
  if code.0 == 0 then Some so_far else (if has_code code.0 so_far then None else (do
    a ← abbreviation_at code.0 bytes code.1
    table_in n (so_far ++ a.0 ∷ []) bytes a.1))

-- The table at an offset. Each of its abbreviations takes bytes, so there are fewer of them than bytes.
unfoldable pub abbreviations : List ℕ → ℕ → Option (List Abbrev)
abbreviations bytes at = table_in (length bytes) [] bytes at
