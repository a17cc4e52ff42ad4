use Rattle.std.proofs.Common.{◌≡◌, ◌++◌, ◌∷◌, ◌∙◌, [], map, arith}
use Rattle.std.proofs.lemmas.List.{map_push, get_or_default, length-append}
use Rattle.blz_model.proofs.PartLemmas.{all_on}
use Rattle.blz_elf.specs.AnswerView.{answer_view}
use Rattle.blz_resolver.specs.AddressAnswers.{answers_in}
use Rattle.blz_resolver.specs.Reading.{book_of}
use Rattle.blz_resolver.proofs.ReaderSteps.{keeps_on}
use Rattle.blz_resolver.proofs.answers.book_reader.BookReader.answers.Goals as goal

pub loop-addr-preserved : goal.loop-addr-preserved
loop-addr-preserved g c =
    let k = c.loop-addr.invariant in
    let more : map answer_view c.push.new.self.items ≡ map answer_view c.loop-addr.answers.items ++ answer_view c.in_ok-answer.field-0 ∷ [] = rw c.in_ok-push.ensures.items (map_push answer_view c.loop-addr.answers.items _) in
    record {
      value = rw more (all_on (answers_in c.args.self.now.dwarf.texts (book_of c.args.self.now c.args.units.now) c.args.opts.now) c.args.addrs.now c.loop-addr.addr-index _ _ _ c.loop-addr-test.true (get_or_default c.args.addrs.now c.loop-addr.addr-index 0 _ c.loop-addr-test.true) (rw (← k.keeps.stay.table) c.in_ok-answer.ensures.value) k.value);
      count = rw c.in_ok-push.ensures.items (omega (arith, length-append c.loop-addr.answers.items (c.in_ok-answer.field-0 ∷ []), k.count));
      keeps = keeps_on _ _ _ _ k.keeps c.in_ok-answer.ensures.keeps;
      same = c.in_ok-answer.ensures.same ∙ k.same;
    }
