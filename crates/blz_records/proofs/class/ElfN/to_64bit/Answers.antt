use Rattle.std.proofs.Common.{refl}
use Rattle.blz_records.proofs.class.ElfN.to_64bit.Goals as goal

pub returns-in-B32 : goal.returns-in-B32
returns-in-B32 g c = rw c.in-B32.is (_, refl, c.from.ensures)
