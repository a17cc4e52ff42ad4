use Rattle.std.proofs.Common.{subst, sym, take, ◌+◌}
use Rattle.std.specs.List.{AllZip}
use Rattle.blz_elf.specs.AnswerView.{answer_view}
use Rattle.blz_fold.specs.Naming.{names_of}
use Rattle.blz_fold.specs.Numbered.{Spells}
use Rattle.blz_fold.proofs.Spelling.{grows_on, spells_grown, zip_weaker, zip_more}
use Rattle.blz_fold.proofs.name_table.NameTable.lists_of.Goals as goal

pub loop-answer-preserved : goal.loop-answer-preserved
loop-answer-preserved c =
    let old = c.loop-answer.self in
    let new = c.numbers_of.new.self in
    let more = c.in_ok-numbers_of.ensures.grown in
    record {
      grown = grows_on c.args.self.now old new c.loop-answer.invariant.grown more;
      spelled = subst (λ z. AllZip (λ answer numbers. Spells new numbers.items (names_of (answer_view answer))) (take (c.loop-answer.answer-index + 1) c.args.answers.now) z) (sym c.in_ok-push.ensures.items)
          (zip_more (λ answer numbers. Spells new numbers.items (names_of (answer_view answer))) c.args.answers.now c.loop-answer.answer-index c.answer-item.result c.loop-answer.lists.items c.in_ok-numbers_of.field-0 c.loop-answer-test.true c.answer-item.is
          (zip_weaker (λ answer numbers. Spells old numbers.items (names_of (answer_view answer))) (λ answer numbers. Spells new numbers.items (names_of (answer_view answer))) (λ answer numbers s. spells_grown old new numbers.items (names_of (answer_view answer)) more s) (take c.loop-answer.answer-index c.args.answers.now) c.loop-answer.lists.items c.loop-answer.invariant.spelled)
          c.in_ok-numbers_of.ensures.spelled);
    }
