use Rattle.std.proofs.Common.{◌≡◌, ◌++◌, drop, map, option_map}
use Rattle.blz_program.specs.Words.{each_address}
use Rattle.blz_tool.proofs.request.addresses_in.Given as goal

abbrev pub invariant-loop-word : goal.invariant-loop-word
invariant-loop-word l = each_address (map (λ w. w.now) l.words) ≡ option_map (λ rest. l.addrs.items ++ rest) (each_address (map (λ w. w.now) (drop l.word-index l.words)))
