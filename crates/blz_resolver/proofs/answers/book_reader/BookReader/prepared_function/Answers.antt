use Rattle.std.proofs.Common.{option_map}
use Rattle.blz_elf.specs.AnswerView.{resolved_view}
use Rattle.blz_line.specs.Lookups.{location_view}
use Rattle.blz_resolver.specs.PlaceViews.{places_view}
use Rattle.blz_resolver.specs.Reading.{book_of}
use Rattle.blz_resolver.proofs.PreparedSteps.{function_plain}
use Rattle.blz_resolver.proofs.answers.book_reader.BookReader.prepared_function.Goals as goal

pub returns-clause-value : goal.returns-clause-value
returns-clause-value g c =
    function_plain c.args.self.now.dwarf.texts (book_of c.args.self.now c.args.units.now) c.args.addr c.args.opts.now c.args.at (resolved_view c.in_ok-symbol.symbol) (option_map location_view c.in_ok-direct.direct) (places_view c.one_if.result) _
    c.requires.opts c.in_ok-symbol.ensures c.in_ok-direct.ensures.value c.one_if.ensures c.placed.ensures
