use Rattle.std.proofs.Common.{◌≡◌, ◌-◌}
use Rattle.blz_reader.specs.Following.{name_over}
use Rattle.blz_reader.proofs.references.References.name_of.Given as goal

abbrev pub invariant-loop : goal.invariant-loop
invariant-loop l = record {
  same : l.self ≡ l.fn.self;
  rest : name_over (16 - l.counter) l.fn.self l.reference ≡ name_over 16 l.fn.self l.fn.first;
}
