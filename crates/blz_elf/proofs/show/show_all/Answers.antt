use Rattle.std.proofs.Common.{Bool, inr}
use Rattle.std.proofs.lemmas.Result.{err_from_is_err_and}
use Rattle.blz_records.specs.declared.sym_type.SymType.{SymType}
use Rattle.blz_image.specs.declared.symbols.TableKind.TheVariants.{Symtab, Dynsym}
use Rattle.blz_image.specs.Images.{Elf}
use Rattle.blz_symbols.specs.NameRule.{is_of_type, listed_names}
use Rattle.blz_elf.specs.Listings.{Listing, infos_of, listing_if}
use Rattle.blz_elf.proofs.ListingLemmas.{break_first, refuse_first, then_refused, then_either}
use Rattle.blz_elf.proofs.show.show_all.Goals as goal

abbrev own : Elf → SymType → Bool → Listing
own elf sym_type with_place = listing_if (infos_of elf with_place) (listed_names Symtab elf (is_of_type sym_type))

abbrev theirs : Elf → SymType → Bool → Listing
theirs elf sym_type with_place = listing_if (infos_of elf with_place) (listed_names Dynsym elf (is_of_type sym_type))

pub returns-in_err-show_read-clause-shows : goal.returns-in_err-show_read-clause-shows
returns-in_err-show_read-clause-shows g c =
    let a = own c.args.image.now c.args.opts.now.sym_type c.args.opts.now.file_offset in
    let p = err_from_is_err_and c.from_residual.result c.from_residual.ensures.1 in
    rw (p.1, p.2) (refuse_first a.shown a.mark (theirs c.args.image.now c.args.opts.now.sym_type c.args.opts.now.file_offset) _ _ _ _ (c.in_err-show_read.ensures _ c.static_list-own.ensures.value))

pub returns-in-Break-clause-shows : goal.returns-in-Break-clause-shows
returns-in-Break-clause-shows g c =
    let a = own c.args.image.now c.args.opts.now.sym_type c.args.opts.now.file_offset in
    let h = c.in_ok-show_read.ensures (listed_names Symtab c.args.image.now (is_of_type c.args.opts.now.sym_type)) c.static_list-own.ensures.value in
    let k = rw c.in-Break.is at h in
    inr (break_first a.shown a.mark (theirs c.args.image.now c.args.opts.now.sym_type c.args.opts.now.file_offset) _ _ _ k)

pub returns-in_err-show_read-2-clause-shows : goal.returns-in_err-show_read-2-clause-shows
returns-in_err-show_read-2-clause-shows g c =
    let a = own c.args.image.now c.args.opts.now.sym_type c.args.opts.now.file_offset in
    let h = c.in_ok-show_read.ensures (listed_names Symtab c.args.image.now (is_of_type c.args.opts.now.sym_type)) c.static_list-own.ensures.value in
    let k = rw c.in_default.is at h in
    let p = err_from_is_err_and c.from_residual-in_err-show_read-2.result c.from_residual-in_err-show_read-2.ensures.1 in
    rw (p.1, p.2) (then_refused a.shown a.mark (theirs c.args.image.now c.args.opts.now.sym_type c.args.opts.now.file_offset) _ _ _ _ _ k.whole k.shown (c.in_err-show_read-2.ensures _ c.dynamic_list-theirs.ensures.value))

pub returns-clause-shows : goal.returns-clause-shows
returns-clause-shows g c =
    let a = own c.args.image.now c.args.opts.now.sym_type c.args.opts.now.file_offset in
    let h = c.in_ok-show_read.ensures (listed_names Symtab c.args.image.now (is_of_type c.args.opts.now.sym_type)) c.static_list-own.ensures.value in
    let k = rw c.in_default.is at h in
    then_either a.shown a.mark (theirs c.args.image.now c.args.opts.now.sym_type c.args.opts.now.file_offset) _ _ _ _ _ k.whole k.shown (c.in_ok-show_read-2.ensures _ c.dynamic_list-theirs.ensures.value)
