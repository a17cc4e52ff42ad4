-- What the places of a function and of its inlined calls in the code stand for.
use Rattle.std.specs.Prelude.{option_map}
use Rattle.blz_elf.specs.CallViews.{site_view}
use Rattle.blz_resolver.specs.declared.answers.call_places.CallPlaces.{CallPlaces}
use Rattle.blz_resolver.specs.CallFrames.{Places}

abbrev pub places_view : CallPlaces → Places
places_view p = record { site = option_map site_view p.code_info; inlined = p.inlined }
