use Rattle.std.proofs.Common.{◌≡◌, ◌*◌, ◌^◌, ◌≤◌, map}
use Rattle.blz_elf.specs.declared.opts.FindSymOpts.TheVariants.{CodeInfo}
use Rattle.blz_model.specs.Part.{all_good}
use Rattle.blz_resolver.specs.Resolver.{has_debug}
use Rattle.blz_resolver.specs.Scan.{answers_of}
use Rattle.blz_tool.specs.Summary.{asked_addresses}
use Rattle.blz_tool.proofs.Tallied.{counting, rest_of}
use Rattle.blz_tool.proofs.demo.counted.Given as goal

abbrev pub invariant-loop-j : goal.invariant-loop-j
invariant-loop-j g l =
    let f = answers_of l.resolver.images (has_debug l.resolver) CodeInfo in
    record {
      same : counting l.tally (all_good (map f (rest_of l.j (2 * l.n)))) ≡ counting (record { found = 0; lines = 0 }) (all_good (map f (asked_addresses l.n)));
      found : l.tally.found ≤ l.j;
      lines : l.tally.lines ≤ l.j * 2 ^ 32;
    }
