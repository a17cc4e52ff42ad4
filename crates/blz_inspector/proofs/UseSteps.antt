-- The entry that is used.
use Rattle.std.proofs.Common.{◌≡◌, ℕ, Bool, true, false, Option, Some, None, Result, Ok, Vec, inl, sym, ap, ◌∙◌, subst}
use Rattle.std.specs.List.{slice_get}
use Rattle.std.specs.Option.{IfSome}
use Rattle.blz_error.specs.Fault.{Fault}
use Rattle.std.specs.FinMap as map
use Rattle.blz_error.specs.Texts.{Bytes}
use Rattle.blz_error.specs.declared.kind.ErrorKind.{ErrorKind}
use Rattle.blz_model.specs.Part.{Part, Good, Broken, Fails, Gives, ◌>>=◌}
use Rattle.blz_image.specs.Images.{elf_of}
use Rattle.blz_elf.specs.Listings.{Told, IsRefused}
use Rattle.blz_elf.proofs.ListingLemmas.{read_refused}
use Rattle.blz_links.specs.Contents.{Contents, PathMap}
use Rattle.blz_links.specs.FilesAnswers.{ReadTells, StampTells}
use Rattle.blz_links.specs.declared.files.stamp.Stamp.{Stamp}
use Rattle.blz_bundle.specs.Images.{ImageSet, alone}
use Rattle.blz_resolver.specs.Books.{Book, frame_of}
use Rattle.blz_resolver.specs.FunctionNames.{listing_in}
use Rattle.blz_inspector.specs.Entries.{Asked, Opened, Entries, IsAt}
use Rattle.blz_inspector.specs.Names.{framed_if, listed_in}
use Rattle.blz_inspector.specs.Uses as uses
use Rattle.blz_inspector.proofs.KeptEntries.{with_kept}

pub used_kept : (told : uses.Told) (a : Asked) (stamp : Stamp) (es : Entries) (at : ℕ) → uses.IsStampOf told a.path stamp → IsAt a stamp es at → uses.UsesAt told a at es es
used_kept told a stamp es at is it = record {
  used = it.opened;
  there = it.there;
  uses = record {
    stamp = subst (λ (s : Stamp). uses.IsStampOf told a.path s) (sym it.same) is;
    origin = inl (record { kept = it.kept });
    after = sym (with_kept a it.opened es it.kept);
  };
}

-- an image that was read
pub alone_good : {Z : Type 0} (o : Option Contents) (path : Bytes) (v : Vec ℕ Z) (b : ImageSet) → ReadTells {Z = Z} o path (Ok v) → b ≡ alone (record { image = v.items; module_name = Some path }) → uses.OpensAlone o path (Good b)
unfolding uses.image_alone
alone_good None path v b tells is = (Some v.items, ap (λ (i : ImageSet). Good i) (sym is))
alone_good (Some m) path v b tells is = rw tells (ap (λ (i : ImageSet). Good i) (sym is))

broken_frame : (p : Part Book) (kind : ErrorKind) → (p >>= λ book. Good (tt {0})) ≡ Broken kind → p ≡ Broken kind
broken_frame (Good b) kind e = absurd cc
broken_frame (Broken k) kind e = cc

good_broken : {P : Type 0} (kind : ErrorKind) → ◌≡◌ {A = Part (Unit {0})} (Good tt) (Broken kind) → P
good_broken kind e = absurd cc

-- a frame that is broken is met before anything is shown
pub frame_refused : (b : Bool) (images : ImageSet) (kind : ErrorKind) (old : Told) (stopped : Bool) → Fails kind (framed_if b images) → stopped ≡ false → IsRefused (listed_in b images) old old stopped kind
unfolding listing_in
frame_refused false images kind old stopped fails on = read_refused _ (elf_of images.main.image) kind old stopped (λ ne. good_broken kind (fails ne)) on
frame_refused true images kind old stopped fails on = read_refused _ (frame_of images) kind old stopped (λ ne. broken_frame (frame_of images) kind (fails ne)) on

pub stamp_told : (o : Option (PathMap Stamp)) (path : Bytes) (s : Stamp) → StampTells o path (Ok s) → IfSome o (λ stamps. map.get stamps path ≡ Some s)
stamp_told None path s tells = tt
stamp_told (Some m) path s tells = tells

-- what the used entry gives
pub gives_at : {X Y : Type 0} (view : X → Y) (result : Result X Fault) (part : Bool → ImageSet → Part Y) (told : uses.Told) (a : Asked) (at : ℕ) (old mid new : Entries) → uses.UsesAt told a at old mid → new ≡ mid
    → ((e : Asked × Opened) → slice_get mid at ≡ Some e → Gives view result (part e.0.debug_syms e.1.images)) → uses.GivesUsed view result (part a.debug_syms) told a old new
gives_at view result part told a at old mid new it same value = record {
  used = it.used;
  uses = record { stamp = it.uses.stamp; origin = it.uses.origin; after = same ∙ it.uses.after };
  gives = value (a, it.used) it.there;
}
