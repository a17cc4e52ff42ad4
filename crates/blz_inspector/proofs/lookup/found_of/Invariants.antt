use Rattle.std.proofs.Common.{◌≡◌, drop, map}
use Rattle.blz_model.specs.Part.{all_good}
use Rattle.blz_model.proofs.PartLemmas.{after_front}
use Rattle.blz_resolver.specs.Resolver.{has_debug}
use Rattle.blz_inspector.specs.Names.{infos_named}
use Rattle.blz_inspector.proofs.lookup.found_of.Given as goal

abbrev pub invariant-loop-name : goal.invariant-loop-name
invariant-loop-name g l =
    let f = infos_named l.initial.resolver.images (has_debug l.initial.resolver) in
    record {
      value : after_front l.lists.items (all_good (map f (drop l.name-index l.names))) ≡ all_good (map f l.names);
      images : l.resolver.images ≡ l.initial.resolver.images;
      has : has_debug l.resolver ≡ has_debug l.initial.resolver;
    }
