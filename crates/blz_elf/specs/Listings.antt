-- The listing of all symbols: what is shown, up to the first mark.
use Rattle.std.specs.Prelude.{◌≡◌, ◌≢◌, ℕ, ◌<◌, ⊤, Bool, true, false, List, [], ◌∷◌, ◌++◌, length, map, Option, Some, None, Result, Ok, Err, ◌⊎◌}
use Rattle.blz_error.specs.Fault.{Fault}
use Rattle.blz_error.specs.declared.kind.ErrorKind.{ErrorKind}
use Rattle.blz_error.specs.declared.kind.ErrorKind.TheVariants.{OutOfMemory}
use Rattle.blz_model.specs.Part.{Part, Good, Broken}
use Rattle.blz_records.specs.declared.sym_type.SymType.{SymType}
use Rattle.blz_image.specs.Images.{Elf, elf_of}
use Rattle.blz_elf.specs.Infos.{Info, info_of}
use Rattle.blz_symbols.specs.NameRule.{Named, is_of_type, listed_names}
use Rattle.blz_image.specs.declared.symbols.TableKind.TheVariants.{Symtab, Dynsym}
use Rattle.blz_relocations.specs.declared.flow.Flow.{Flow}
use Rattle.blz_relocations.specs.declared.flow.Flow.TheVariants.{Continue, Break}

-- the infos before the first mark, and that mark
pub record Listing : Type 0 where
  pub shown : List Info
  pub mark : Option ErrorKind

abbrev pub one_before : Info → Listing → Listing
one_before info l = record { shown = info ∷ l.shown; mark = l.mark }

abbrev pub broken_by : ErrorKind → Listing
broken_by kind = record { shown = []; mark = Some kind }

abbrev pub listing_of : List (Part Info) → Listing
listing_of [] = record { shown = []; mark = None }
listing_of (Good info ∷ infos) = one_before info (listing_of infos)
listing_of (Broken kind ∷ infos) = broken_by kind

-- the listing of what was read, or its mark
abbrev pub listing_if : {A : Type 0} → (A → Listing) → Part A → Listing
listing_if f (Good x) = f x
listing_if f (Broken kind) = broken_by kind

-- one listing, then another where the first has no mark
abbrev pub then_also : List Info → Option ErrorKind → Listing → Listing
then_also shown None b = record { shown = shown ++ b.shown; mark = b.mark }
then_also shown (Some kind) b = record { shown = shown; mark = Some kind }

abbrev pub then_list : Listing → Listing → Listing
then_list a b = then_also a.shown a.mark b

abbrev pub infos_of : Elf → Bool → List Named → Listing
infos_of elf with_place named = listing_of (map (info_of elf None with_place) named)

-- the defined symbols of a type: those of `.symtab`, then those of `.dynsym` that it does not answer
abbrev pub all_symbols : SymType → Bool → Elf → Listing
all_symbols sym_type with_place elf = then_list (listing_if (infos_of elf with_place) (listed_names Symtab elf (is_of_type sym_type))) (listing_if (infos_of elf with_place) (listed_names Dynsym elf (is_of_type sym_type)))

abbrev pub image_symbols : List ℕ → SymType → Bool → Listing
image_symbols image sym_type with_place = listing_if (all_symbols sym_type with_place) (elf_of image)

-- ---- what a visitor was shown of a listing

abbrev pub Told : Type 0
Told = Option (List Info)

-- infos more, where they are told; what is told no longer stays untold
abbrev pub Shown : Told → Told → List Info → Type 0
Shown None None infos = ⊤
Shown None (Some more) infos = ⊥
Shown (Some before) None infos = ⊤
Shown (Some before) (Some after) infos = after ≡ before ++ infos

-- the whole of it, and there is no mark
pub record IsShown (l : Listing) (old new : Told) (stopped : Bool) : Type 0 where
  pub goes_on : stopped ≡ false
  pub whole : l.mark ≡ None
  pub shown : Shown old new l.shown

-- it stopped within it
pub record Breaks (l : Listing) (old new : Told) (stopped : Bool) : Type 0 where
  pub stops : stopped ≡ true
  pub front : List Info
  pub rest : List Info
  pub some : 0 < length front
  pub split : front ++ rest ≡ l.shown
  pub shown : Shown old new front

-- The mark was met after the whole of it. For want of memory a front of it was shown.
pub record IsRefused (l : Listing) (old new : Told) (stopped : Bool) (kind : ErrorKind) : Type 0 where
  pub goes_on : stopped ≡ false
  pub mark : kind ≢ OutOfMemory → l.mark ≡ Some kind
  pub whole : kind ≢ OutOfMemory → Shown old new l.shown
  pub front : List Info
  pub rest : List Info
  pub split : front ++ rest ≡ l.shown
  pub shown : Shown old new front

abbrev pub Shows : Listing → Told → Told → Bool → Result Flow Fault → Type 0
Shows l old new stopped (Ok Continue) = IsShown l old new stopped
Shows l old new stopped (Ok Break) = Breaks l old new stopped
Shows l old new stopped (Err e) = IsRefused l old new stopped e.kind

abbrev pub ShowsAll : {U : Type 0} → Listing → Told → Told → Bool → Result U Fault → Type 0
ShowsAll l old new stopped (Ok u) = IsShown l old new stopped ⊎ Breaks l old new stopped
ShowsAll l old new stopped (Err e) = IsRefused l old new stopped e.kind
