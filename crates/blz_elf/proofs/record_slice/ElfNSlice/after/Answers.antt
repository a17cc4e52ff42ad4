use Rattle.std.proofs.Common.{arith}
use Rattle.blz_elf.specs.RecordLists.{of_class, record_at}
use Rattle.blz_image.proofs.Tables.{count_is}
use Rattle.blz_elf.proofs.RowLemmas.{rows_in-after}
use Rattle.blz_elf.proofs.record_slice.ElfNSlice.after.Goals as goal

pub rows_after-requires-clause-some : goal.rows_after-requires-clause-some
rows_after-requires-clause-some g c = omega (arith, count_is _ _ _ c.self.view_is)

pub returns : goal.returns
returns g c =
    let rest = c.rows_after.ensures in
    rows_in-after (record_at g.T.Ty32Bit.Pod.value g.T.Ty32Bit.Pod.SIZE g.T.Pod.value g.T.Pod.SIZE) (of_class g.T.Ty32Bit.Pod.SIZE g.T.Pod.SIZE) c.self.inside.image.now c.self.inside.rows c.rows_after.result _ _ c.self.view_is (omega (arith, count_is _ _ _ c.self.view_is)) rest.format (rw c.size_of-size.ensures at rest.at) rest.count
