use Rattle.std.proofs.Common.{◌<◌, ◌∙◌, ap, sym, arith, length, Some}
use Rattle.std.proofs.lemmas.Option.{slice_get-get_or, slice_get_past}
use Rattle.blz_image.proofs.Tables.{count_is, item_is}
use Rattle.blz_elf.proofs.record_slice.ElfNSlice.get.Goals as goal

pub returns-then-rows-idx : goal.returns-then-rows-idx
returns-then-rows-idx g c = sym (slice_get_past c.args.self.now c.args.idx (omega (arith, count_is _ _ _ c.self.view_is, c.if-rows-idx.true)))

pub returns : goal.returns
returns g c =
    let inside : c.args.idx < length c.args.self.now = omega (arith, count_is _ _ _ c.self.view_is) in
    let here = item_is _ _ _ _ c.record_at.result c.self.view_is inside in
    sym (slice_get-get_or c.args.self.now c.args.idx c.record_at.result inside ∙ ap Some (here ∙ sym (rw (c.place_of-at.ensures.value, c.size_of-size.ensures) at c.record_at.ensures)))
