-- The book of debug information in the code, and what stays of it over a call.
use Rattle.blz_index.specs.UnitsWarm.{units_table}
use Rattle.blz_resolver.specs.Books.{Book, files_in}
use Rattle.blz_resolver.specs.FileViews.{images_view}
use Rattle.blz_bundle.specs.Images.{ImageSet}
use Rattle.blz_resolver.specs.Reading.{UnitsStay}
use Rattle.blz_resolver.specs.Resolver.{HasBook}
use Rattle.blz_resolver.specs.declared.debug.debug_info.DebugInfo.{DebugInfo}

abbrev pub info_book : ImageSet → DebugInfo → Book
info_book images d = record { images = images; files = files_in (images_view d.files); table = units_table d.units }

pub record KeepsBook (images : ImageSet) (old new : DebugInfo) : Type 0 where
  pub has : HasBook images new
  pub stay : UnitsStay old.units new.units
