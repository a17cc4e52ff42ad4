-- The attributes of an abbreviation in runs: some whose bytes are fixed, and one behind them that is looked at.
use Rattle.std.specs.Prelude.{◌≡◌, ℕ, ◌+◌, ◌≤◌, Bool, true, false, ◌&&◌, ◌||◌, List, [], ◌∷◌, length, take, drop, slice_get, Option, Some, None, IfSome, ◌==◌, if◌then◌else◌}
use Rattle.blz_constants.specs.declared.dwarf.TheConstants as dwarf
use Rattle.blz_model.specs.Reads.{Read, ◌>>=◌}
use Rattle.blz_info.specs.Attributes.{form_for, attribute}
use Rattle.blz_info.specs.Contents.{Contents}
use Rattle.blz_info.specs.Forms.{value_by}
use Rattle.blz_info.specs.Sizes.{over, behind_form, behind, attribute_size, size_together}
use Rattle.blz_info.specs.Wanted.{is_wanted, any_placing}
use Rattle.blz_info.specs.declared.abbreviations.AttrSpec.{AttrSpec}
use Rattle.blz_info.specs.declared.encoding.Encoding.{Encoding}
use Rattle.blz_info.specs.declared.forms.form.Form.{Form}
use Rattle.blz_info.specs.declared.walking.ready.Ready.{Ready}
use Rattle.blz_info.specs.declared.walking.runs.Run.{Run}
use Rattle.blz_info.specs.declared.walking.runs.Runs.{Runs}
use Rattle.blz_info.specs.declared.text.StrBase.{StrBase}
use Rattle.blz_info.specs.declared.forms.value.AttrValue.{AttrValue}

-- where attributes are read, an attribute that is wanted
abbrev pub wants : Bool → AttrSpec → Bool
wants reading a = reading && is_wanted a.name

-- the bytes of an attribute that is passed over with its neighbours
abbrev pub skipped_size : Bool → AttrSpec → Encoding → Option ℕ
skipped_size reading a e = if wants reading a then None else attribute_size a e

-- how the form of an attribute is read, where the table of forms tells
abbrev pub form_at : AttrSpec → Encoding → Option Form
form_at a e = if a.form == dwarf.DW_FORM_implicit_const then None else (if a.form == dwarf.DW_FORM_indirect then None else form_for a.name e a.form)

-- the place behind an attribute, by its form where that is known
abbrev pub behind_by : Option Form → AttrSpec → Encoding → Contents → ℕ → Option ℕ
behind_by None a e s at = behind a e s at
behind_by (Some form) a e s at = behind_form form e s at

-- its value in the same way
abbrev pub value_by_form : Option Form → AttrSpec → Encoding → StrBase → Contents → ℕ → Read AttrValue
value_by_form None a e base s at = attribute a e base s at
value_by_form (Some form) a e base s at = value_by form e base s at

-- the place behind runs, and so many bytes behind them
unfoldable pub passed_by : List Run → ℕ → Encoding → Contents → ℕ → Option ℕ
passed_by [] tail e s at = over tail s.bytes at
passed_by (r ∷ rest) tail e s at = do
  start ← over r.skip s.bytes at
  next ← behind_by r.form r.spec e s start
  passed_by rest tail e s next

abbrev pub any_wanted : Bool → List AttrSpec → Bool
any_wanted reading [] = false
any_wanted reading (a ∷ rest) = wants reading a || any_wanted reading rest

-- attributes that have so many bytes together, and of which none is wanted
pub record AreSkipped (reading : Bool) (e : Encoding) (n : ℕ) (specs : List AttrSpec) : Type 0 where
  pub bytes : size_together specs e ≡ Some n
  pub unwanted : any_wanted reading specs ≡ false

-- the attribute that a run leads to
pub record IsLookedAt (reading : Bool) (e : Encoding) (r : Run) (spec : Option AttrSpec) : Type 0 where
  pub there : spec ≡ Some r.spec
  pub form : r.form ≡ form_at r.spec e
  pub wanted : r.wanted ≡ wants reading r.spec

-- runs, and so many bytes behind them, that are some attributes
abbrev pub AreRuns : Bool → Encoding → List Run → ℕ → List AttrSpec → Type 0
AreRuns reading e [] tail specs = AreSkipped reading e tail specs
AreRuns reading e (r ∷ rest) tail specs =
    AreSkipped reading e r.skip (take r.count specs) × (IsLookedAt reading e r (slice_get specs r.count) × AreRuns reading e rest tail (drop (r.count + 1) specs))

-- attributes that are passed over by runs
abbrev pub Passes : Encoding → Runs → List AttrSpec → Type 0
Passes e r specs = AreRuns false e r.runs.items r.tail specs

-- attributes that are left where so many runs were read
pub record Reads (e : Encoding) (taken : ℕ) (r : Runs) (specs : List AttrSpec) : Type 0 where
  pub within : taken ≤ length r.runs.items
  pub runs : AreRuns true e (drop taken r.runs.items) r.tail specs

-- Some attributes are passed over by one list of runs, and read by another one, if they are read; and whether one of them
-- tells addresses or refers to an entry.
pub record IsReady (r : Ready) (specs : List AttrSpec) : Type 0 where
  pub passing : Passes r.encoding r.passing specs
  pub reading : IfSome r.reading (λ runs. Reads r.encoding 0 runs specs)
  pub placing : r.placing ≡ any_placing specs

-- a run behind so many attributes with so many bytes
abbrev pub run_of : Bool → Encoding → ℕ → ℕ → AttrSpec → Run
run_of reading e skip count a = record { skip = skip; count = count; spec = a; form = form_at a e; wanted = wants reading a }
