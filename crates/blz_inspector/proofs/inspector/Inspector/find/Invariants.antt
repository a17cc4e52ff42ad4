use Rattle.blz_inspector.specs.Entries.{AreOthers}
use Rattle.blz_inspector.specs.SourceViews.{elf_asked}
use Rattle.blz_inspector.proofs.inspector.Inspector.find.Given as goal

abbrev pub invariant-loop-at : goal.invariant-loop-at
invariant-loop-at l = record { others : AreOthers (elf_asked l.elf) l.self-inside.entries.items l.at }
