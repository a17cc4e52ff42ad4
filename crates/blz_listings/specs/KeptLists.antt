-- What is kept of a listing.
use Rattle.std.specs.Prelude.{Bool, List}
use Rattle.blz_elf.specs.Infos.{Info}

-- the infos that were kept, and whether one was not, for want of memory
pub record KeptList : Type 0 where
  pub infos : List Info
  pub is_full : Bool
