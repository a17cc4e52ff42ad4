use Rattle.std.proofs.Common.{◌≡◌, drop, map}
use Rattle.blz_model.specs.Part.{all_good}
use Rattle.blz_model.proofs.PartLemmas.{after_front}
use Rattle.blz_elf.specs.Infos.{info_view}
use Rattle.blz_resolver.specs.FunctionNames.{numbered_info}
use Rattle.blz_resolver.specs.Reading.{book_of}
use Rattle.blz_resolver.proofs.answers.book_reader.BookReader.infos.Given as goal

abbrev pub invariant-loop-at : goal.invariant-loop-at
invariant-loop-at l =
    let f = numbered_info l.self.dwarf.texts (book_of l.self l.units) l.asked in
    after_front (map info_view l.infos.items) (all_good (map f (drop l.at-index l.found))) ≡ all_good (map f l.found)
