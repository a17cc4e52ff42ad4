use Rattle.blz_elf.specs.Listings.{infos_of}
use Rattle.blz_elf.proofs.ListingLemmas.{read_refused}
use Rattle.blz_elf.proofs.show.show_read.Goals as goal

pub returns-in-Err : goal.returns-in-Err
returns-in-Err g c = λ p given. let h = rw c.in-Err.is at given in read_refused (infos_of c.args.image.now c.args.with_place) p _ _ _ h c.requires
