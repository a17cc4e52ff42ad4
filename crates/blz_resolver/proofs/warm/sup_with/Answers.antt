use Rattle.blz_resolver.proofs.WarmBooks.{sup_there, sup_is}
use Rattle.blz_resolver.proofs.warm.sup_with.Goals as goal

pub data_again-data-requires : goal.data_again-data-requires
data_again-data-requires c = rw c.from_mem-parser.ensures.image (sup_there _ _ c.requires)

pub returns : goal.returns
returns c = sup_is _ _ _ c.requires (rw (← c.from_mem-parser.ensures.image) c.data_again-data.ensures.value)
