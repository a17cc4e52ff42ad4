-- A unit whose functions have no value is listed as broken.
use Rattle.std.proofs.Common.{◌≡◌, Bool, false, Option, Some, None, ap}
use Rattle.blz_error.specs.declared.kind.ErrorKind.{ErrorKind}
use Rattle.blz_error.specs.declared.kind.ErrorKind.TheVariants.{InvalidDwarf}
use Rattle.blz_model.specs.Part.{Broken, Fails}
use Rattle.blz_elf.specs.Listings.{listing_if, Told, IsRefused}
use Rattle.blz_elf.proofs.ListingLemmas.{read_refused}
use Rattle.blz_info.specs.Marks.{or_invalid}
use Rattle.blz_info.specs.declared.text.Texts.{Texts}
use Rattle.blz_functions.specs.FunctionList.{Lists}
use Rattle.blz_reader.specs.UnitNames.{listed}
use Rattle.blz_resolver.specs.FunctionNames.{lists_listing}
use Rattle.blz_bundle.specs.Images.{ImageSet}

broken_as : (kind : ErrorKind) (o : Option Lists) → or_invalid (listed o) ≡ Broken kind → or_invalid o ≡ Broken kind
broken_as kind None e = let same : InvalidDwarf ≡ kind = cc in ap Broken same
broken_as kind (Some l) e = absurd cc

pub unit_broken : (t : Texts) (images : ImageSet) (asked : Bool) (o : Option Lists) (kind : ErrorKind) (old : Told) (stopped : Bool) → Fails kind (or_invalid (listed o)) → stopped ≡ false → IsRefused (listing_if (lists_listing t images asked) (or_invalid o)) old old stopped kind
unit_broken t images asked o kind old stopped fails goes_on = read_refused (lists_listing t images asked) (or_invalid o) kind old stopped (λ ne. broken_as kind o (fails ne)) goes_on
