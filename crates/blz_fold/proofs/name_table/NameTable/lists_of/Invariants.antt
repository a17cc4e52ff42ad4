use Rattle.std.proofs.Common.{take}
use Rattle.std.specs.List.{AllZip}
use Rattle.blz_elf.specs.AnswerView.{answer_view}
use Rattle.blz_fold.specs.Naming.{names_of}
use Rattle.blz_fold.specs.Numbered.{Grows, Spells}
use Rattle.blz_fold.proofs.name_table.NameTable.lists_of.Given as goal

abbrev pub invariant-loop-answer : goal.invariant-loop-answer
invariant-loop-answer l = record {
  grown : Grows l.initial.self l.self;
  spelled : AllZip (λ answer numbers. Spells l.self numbers.items (names_of (answer_view answer))) (take l.answer-index l.answers) l.lists.items;
}
