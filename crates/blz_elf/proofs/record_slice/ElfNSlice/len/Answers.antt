use Rattle.blz_image.proofs.Tables.{count_is}
use Rattle.blz_elf.proofs.record_slice.ElfNSlice.len.Goals as goal

pub returns : goal.returns
returns g c = count_is _ _ _ c.self.view_is
