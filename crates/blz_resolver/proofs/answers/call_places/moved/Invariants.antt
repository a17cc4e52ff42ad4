use Rattle.std.proofs.Common.{◌≡◌, ◌++◌, map, option_map, reverse, vec_len}
use Rattle.blz_elf.specs.CallViews as shown
use Rattle.blz_line.specs.Lookups.{location_view}
use Rattle.blz_reader.specs.SiteViews.{inlined_view}
use Rattle.blz_resolver.specs.CallFrames.{site_of_next, moved}
use Rattle.blz_resolver.proofs.answers.call_places.moved.Given as goal

abbrev pub invariant-loop-call : goal.invariant-loop-call
invariant-loop-call l = record {
  first : site_of_next (map inlined_view l.rest.items) (option_map location_view l.site) ≡ site_of_next (map inlined_view l.fn.calls.items) (option_map location_view l.fn.last);
  inlined : moved (map inlined_view l.rest.items) (option_map location_view l.site) ++ reverse (map shown.inlined_view l.inlined.items) ≡ moved (map inlined_view l.fn.calls.items) (option_map location_view l.fn.last);
}

abbrev pub decreases-loop-call : goal.decreases-loop-call
decreases-loop-call l = vec_len l.rest
