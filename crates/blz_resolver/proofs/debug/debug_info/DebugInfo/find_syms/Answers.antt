use Rattle.std.proofs.Common.{List, map, refl, sym, subst}
use Rattle.blz_model.specs.Answers.{Answer}
use Rattle.blz_model.specs.Part.{Part, Gives}
use Rattle.blz_elf.specs.AnswerView.{answer_view}
use Rattle.blz_bundle.specs.BundleViews.{bundle_view}
use Rattle.blz_resolver.specs.declared.answers.book_reader.BookReader.{BookReader}
use Rattle.blz_resolver.proofs.ReadBooks.{IsReaderOf, answers_read}
use Rattle.blz_resolver.proofs.debug.debug_info.DebugInfo.find_syms.Goals as goal

pub returns-clause-value : goal.returns-clause-value
returns-clause-value g c =
    let reader : BookReader = record { bundle = c.args.bundle.now; dwarf = c.dwarf.result } in
    let is : IsReaderOf (bundle_view c.args.bundle.now) c.args.self.now reader = record { bundle = refl; files = c.dwarf.ensures.view; readable = c.dwarf.ensures.readable } in
    let P : Part (List Answer) → Type 0 = λ p. Gives (λ v. map answer_view v.items) c.answers.result p in
    subst P (sym (answers_read (bundle_view c.args.bundle.now) c.args.self.now reader c.args.addrs.now c.args.opts.now c.requires.fits is)) c.answers.ensures.value
