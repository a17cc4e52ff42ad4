use Rattle.blz_image.proofs.Tables.{count_is}
use Rattle.blz_image.proofs.relocations.entries.RelocationEntries.len.Goals as goal

pub returns : goal.returns
returns c = count_is _ _ _ c.self.view_is
