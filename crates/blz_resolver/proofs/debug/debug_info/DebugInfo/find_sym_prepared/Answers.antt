use Rattle.std.proofs.Common.{refl, sym, subst}
use Rattle.blz_model.specs.Answers.{Answer}
use Rattle.blz_model.specs.Part.{Part, Exactly}
use Rattle.blz_elf.specs.AnswerView.{answer_view}
use Rattle.blz_bundle.specs.BundleViews.{bundle_view}
use Rattle.blz_resolver.specs.Reading.{book_of}
use Rattle.blz_resolver.specs.declared.answers.book_reader.BookReader.{BookReader}
use Rattle.blz_resolver.proofs.PreparedSteps.{looks_few}
use Rattle.blz_resolver.proofs.ReadBooks.{IsReaderOf, answer_read, frame_read}
use Rattle.blz_resolver.proofs.debug.debug_info.DebugInfo.find_sym_prepared.Goals as goal

pub returns-clause-value : goal.returns-clause-value
returns-clause-value g c =
    let reader : BookReader = record { bundle = c.args.bundle.now; dwarf = c.dwarf.result } in
    let is : IsReaderOf (bundle_view c.args.bundle.now) c.args.self.now reader = record { bundle = refl; files = c.dwarf.ensures.view; readable = c.dwarf.ensures.readable } in
    let P : Part Answer → Type 0 = λ p. Exactly answer_view c.answer_prepared.result p in
    subst P (sym (answer_read (bundle_view c.args.bundle.now) c.args.self.now reader c.args.addr c.args.opts.now c.requires.fits is)) c.answer_prepared.ensures.value

pub returns-clause-cost : goal.returns-clause-cost
returns-clause-cost g c = λ plain.
    let reader : BookReader = record { bundle = c.args.bundle.now; dwarf = c.dwarf.result } in
    let is : IsReaderOf (bundle_view c.args.bundle.now) c.args.self.now reader = record { bundle = refl; files = c.dwarf.ensures.view; readable = c.dwarf.ensures.readable } in
    looks_few (bundle_view c.args.bundle.now) (book_of reader c.args.self.now.units) c.args.self.now.units c.args.addr _ (frame_read (bundle_view c.args.bundle.now) c.args.self.now reader c.requires.fits is) (c.answer_prepared.ensures.cost plain)
