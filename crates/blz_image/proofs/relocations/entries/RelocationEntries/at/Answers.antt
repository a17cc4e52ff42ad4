use Rattle.std.proofs.Common.{◌∙◌, refl, arith}
use Rattle.blz_image.proofs.Tables.{count_is, item_is}
use Rattle.blz_image.proofs.relocations.entries.RelocationEntries.at.Goals as goal

pub place_of-at-requires-clause-index : goal.place_of-at-requires-clause-index
place_of-at-requires-clause-index c = omega (arith, count_is _ _ _ c.self.view_is)

pub returns : goal.returns
returns c = λ d. item_is _ _ _ _ d c.self.view_is c.requires ∙ rw (c.entry_at.ensures, c.place_of-at.ensures.value, c.entry_size-size.ensures.value) refl
