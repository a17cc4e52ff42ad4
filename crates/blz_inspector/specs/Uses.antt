-- The entry that a call uses, what is kept afterwards, and why a call is refused before it uses one.
use Rattle.std.specs.Prelude.{◌≡◌, ◌⊎◌, ℕ, Bool, true, false, Option, Some, None, Result, Ok, Err, IfSome}
use Rattle.std.specs.FinMap as map
use Rattle.std.specs.List.{slice_get}
use Rattle.blz_error.specs.Texts.{Bytes}
use Rattle.blz_error.specs.Fault.{Fault}
use Rattle.blz_error.specs.declared.kind.ErrorKind.{ErrorKind}
use Rattle.blz_error.specs.declared.kind.ErrorKind.TheVariants as kind
use Rattle.blz_model.specs.Part.{Part, Good, Broken, ◌>>=◌, or_mark, Gives}
use Rattle.blz_elf.specs.Listings as listing
use Rattle.blz_links.specs.Contents.{Contents, PathMap}
use Rattle.blz_links.specs.declared.files.stamp.Stamp.{Stamp}
use Rattle.blz_bundle.specs.Images.{ImageSet, alone}
use Rattle.blz_bundle.specs.Opening.{Opens, default_dirs}
use Rattle.blz_bundle.specs.Outcomes.{HasKindCause}
use Rattle.blz_inspector.specs.Entries.{Asked, Opened, Entries, kept_of, with_opened, IsStale}

-- what the files tell: the contents of the paths, and their stamps
pub record Told : Type 0 where
  pub contents : Option Contents
  pub stamps : Option (PathMap Stamp)

abbrev pub told_by : Option Contents → Option (PathMap Stamp) → Told
told_by contents stamps = record { contents = contents; stamps = stamps }

-- ---- opening

-- an image alone, named by its path
unfoldable pub image_alone : Bytes → Option Bytes → Part ImageSet
image_alone path held = do
  image ← or_mark held kind.NotFound
  Good (alone (record { image = image; module_name = Some path }))

-- where the contents are told, what they hold; else what some bytes at the path are
abbrev pub OpensAlone : Option Contents → Bytes → Part ImageSet → Type 0
OpensAlone (Some contents) path part = image_alone path (map.get contents path) ≡ part
OpensAlone None path part = (held : Option Bytes) × (image_alone path held ≡ part)

-- with debug information the companions are opened too
abbrev pub OpensAs : Bool → Option Contents → Bytes → Part ImageSet → Type 0
OpensAs true contents path part = Opens contents path default_dirs part
OpensAs false contents path part = OpensAlone contents path part

abbrev pub OpensAsked : Told → Asked → Part ImageSet → Type 0
OpensAsked told a part = OpensAs a.debug_syms told.contents a.path part

-- ---- the entry that is used

-- the stamp is the one that is told of the path, where stamps are
abbrev pub IsStampOf : Told → Bytes → Stamp → Type 0
IsStampOf told path stamp = IfSome told.stamps (λ stamps. map.get stamps path ≡ Some stamp)

-- what is kept of the file has this stamp, or the file was opened, since nothing of this stamp was kept
pub record IsKept (a : Asked) (used : Opened) (old : Entries) : Type 0 where
  pub kept : kept_of a old ≡ Some used

pub record IsOpened (told : Told) (a : Asked) (used : Opened) (old : Entries) : Type 0 where
  pub stale : IsStale used.stamp (kept_of a old)
  pub opens : OpensAsked told a (Good used.images)

-- an entry that is used, and kept from then on
pub record Uses (told : Told) (a : Asked) (used : Opened) (old new : Entries) : Type 0 where
  pub stamp : IsStampOf told a.path used.stamp
  pub origin : IsKept a used old ⊎ IsOpened told a used old
  pub after : new ≡ with_opened a used old

-- the same, with the place where it stands
pub record UsesAt (told : Told) (a : Asked) (at : ℕ) (old new : Entries) : Type 0 where
  pub used : Opened
  pub there : slice_get new at ≡ Some (a, used)
  pub uses : Uses told a used old new

-- ---- refusals before an entry is used

-- where stamps are told, none is told of the path
abbrev pub HasNoStamp : Told → Bytes → Type 0
HasNoStamp told path = IfSome told.stamps (λ stamps. map.get stamps path ≡ None)

-- the path names nothing
pub record IsAbsent (k : ErrorKind) (told : Told) (path : Bytes) : Type 0 where
  pub kind : k ≡ kind.NotFound
  pub none : HasNoStamp told path

-- opening the file has a mark, and nothing is kept of it at the stamp that it has
pub record IsBroken (k : ErrorKind) (told : Told) (a : Asked) (old : Entries) : Type 0 where
  pub stamp : Stamp
  pub is : IsStampOf told a.path stamp
  pub stale : IsStale stamp (kept_of a old)
  pub opens : OpensAsked told a (Broken k)

-- want of memory, a failure of the files, a path that names nothing, or a mark of opening
abbrev pub IsRefused : ErrorKind → Type 0 → Told → Asked → Entries → Type 0
IsRefused k failed told a old = (k ≡ kind.OutOfMemory) ⊎ HasKindCause k failed (IsAbsent k told a.path ⊎ IsBroken k told a old)

-- the call was refused, and all is kept as before
abbrev pub RefusesFirst : {X : Type 0} → Result X Fault → Type 0 → Told → Asked → Entries → Entries → Type 0
RefusesFirst (Ok x) failed told a old new = ⊥
RefusesFirst (Err e) failed told a old new = IsRefused e.kind failed told a old × (new ≡ old)

-- ---- what a call gives

-- the used entry's images are asked
pub record GivesUsed {X Y : Type 0} (view : X → Y) (result : Result X Fault) (part : ImageSet → Part Y) (told : Told) (a : Asked) (old new : Entries) : Type 0 where
  pub used : Opened
  pub uses : Uses told a used old new
  pub gives : Gives view result (part used.images)

-- the listing of the used entry's images is shown
pub record ShowsUsed {X : Type 0} (result : Result X Fault) (listed : ImageSet → listing.Listing) (before now : listing.Told) (stopped : Bool) (told : Told) (a : Asked) (old new : Entries) : Type 0 where
  pub used : Opened
  pub uses : Uses told a used old new
  pub shows : listing.ShowsAll (listed used.images) before now stopped result

-- nothing was shown
pub record ShowsNothing {X : Type 0} (result : Result X Fault) (before now : listing.Told) (stopped : Bool) (failed : Type 0) (told : Told) (a : Asked) (old new : Entries) : Type 0 where
  pub refused : RefusesFirst result failed told a old new
  pub shown : now ≡ before
  pub goes_on : stopped ≡ false
