use Rattle.std.proofs.Common.{◌≡◌, true, map}
use Rattle.std.specs.Prelude.{string_bytes}
use Rattle.blz_resolver.specs.Resolver.{has_debug}
use Rattle.blz_listings.specs.FindTexts.{names_text}
use Rattle.blz_listings.proofs.NameSteps.{behind, texts_left}
use Rattle.blz_listings.proofs.addresses.names_text.Given as goal

abbrev pub invariant-loop-name : goal.invariant-loop-name
invariant-loop-name g l = record {
  so_far : behind l.out.items (texts_left l.opts l.initial.resolver.images l.names l.name-index) ≡ names_text l.opts l.initial.resolver.images (map string_bytes l.names);
  images : l.resolver.images ≡ l.initial.resolver.images;
  has_debug : has_debug l.resolver ≡ true;
}
