use Rattle.std.proofs.Common.{◌≡◌, drop, length, map}
use Rattle.blz_model.specs.Part.{all_good}
use Rattle.blz_model.proofs.PartLemmas.{after_front}
use Rattle.blz_elf.specs.AnswerView.{answer_view}
use Rattle.blz_resolver.specs.AddressAnswers.{answers_in}
use Rattle.blz_resolver.specs.Reading.{book_of, Keeps}
use Rattle.blz_resolver.proofs.answers.book_reader.BookReader.answers.Given as goal

abbrev pub invariant-loop-addr : goal.invariant-loop-addr
invariant-loop-addr g l =
    let f = answers_in l.self.dwarf.texts (book_of l.self l.initial.units) l.opts in
    record {
      value : after_front (map answer_view l.answers.items) (all_good (map f (drop l.addr-index l.addrs))) ≡ all_good (map f l.addrs);
      count : length l.answers.items ≡ l.addr-index;
      keeps : Keeps l.self l.initial.units l.units;
      same : l.parser ≡ l.initial.parser;
    }
