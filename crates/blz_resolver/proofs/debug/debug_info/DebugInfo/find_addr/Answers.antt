use Rattle.std.proofs.Common.{List, refl, sym, ◌∙◌, subst}
use Rattle.blz_model.specs.Part.{Part, Gives}
use Rattle.blz_elf.specs.Infos.{Info}
use Rattle.blz_bundle.specs.BundleViews.{bundle_view}
use Rattle.blz_resolver.specs.declared.answers.book_reader.BookReader.{BookReader}
use Rattle.blz_resolver.proofs.ReadBooks.{IsReaderOf, addresses_read, variables_refused}
use Rattle.blz_resolver.proofs.debug.debug_info.DebugInfo.find_addr.Goals as goal

pub returns-then-is_variable-clause-value : goal.returns-then-is_variable-clause-value
returns-then-is_variable-clause-value g c = λ other. rw c.unsupported.ensures (variables_refused (bundle_view c.args.bundle.now) c.args.name.now c.args.opts.now (sym c.is_variable.ensures ∙ c.if-is_variable.true))

pub returns-clause-value : goal.returns-clause-value
returns-clause-value g c =
    let reader : BookReader = record { bundle = c.args.bundle.now; dwarf = c.dwarf.result } in
    let is : IsReaderOf (bundle_view c.args.bundle.now) c.args.self.now reader = record { bundle = refl; files = c.dwarf.ensures.view; readable = c.dwarf.ensures.readable } in
    let P : Part (List Info) → Type 0 = λ p. Gives (λ v. v) c.find_addr.result p in
    subst P (sym (addresses_read (bundle_view c.args.bundle.now) c.args.self.now reader c.args.name.now c.args.opts.now c.requires.fits is (sym c.is_variable.ensures ∙ c.if-is_variable.false))) c.find_addr.ensures.value
