use Rattle.blz_resolver.proofs.ReadBooks.{framed_is}
use Rattle.blz_resolver.proofs.resolver.ElfResolver.from_warm.Goals as goal

pub returns-in-Some-clause-frame : goal.returns-in-Some-clause-frame
returns-in-Some-clause-frame c = λ has. framed_is _ c.info_again-info.result c.info_again-info.ensures.has
