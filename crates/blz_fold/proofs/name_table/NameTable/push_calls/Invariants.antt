use Rattle.std.proofs.Common.{◌++◌, List, ℕ, map, take}
use Rattle.blz_fold.specs.Naming.{shown}
use Rattle.blz_fold.specs.Numbered.{Grows, Spells}
use Rattle.blz_fold.proofs.name_table.NameTable.push_calls.Given as goal

abbrev pub invariant-loop-call : goal.invariant-loop-call
invariant-loop-call l = record {
  grown : Grows l.initial.self l.self;
  spelled : (names : List (List ℕ)) → Spells l.initial.self l.initial.numbers.items names → Spells l.self l.numbers.items (names ++ map (λ call. shown call.name.now) (take l.call-index l.calls));
}
