use Rattle.std.proofs.Common.{◌≡◌, ◌-◌, true}
use Rattle.blz_resolver.specs.Resolver.{has_debug}
use Rattle.blz_rows.specs.Entries.{entries_of}
use Rattle.blz_rows.proofs.Splits.{units_left}
use Rattle.blz_listings.specs.Shown.{after, nothing}
use Rattle.blz_listings.proofs.gather.gathered.Given as goal

abbrev pub invariant-loop-unit : goal.invariant-loop-unit
invariant-loop-unit g l = record {
  so_far : after l.listing (units_left l.initial.resolver.images l.unit (l.unit-end - l.unit)) ≡ after (nothing l.fn.wanted) (entries_of l.initial.resolver.images);
  images : l.resolver.images ≡ l.initial.resolver.images;
  has_debug : has_debug l.resolver ≡ true;
}
