-- What files hold: finite maps from a path.
use Rattle.std.specs.Ordering.{nat_cmp}
use Rattle.std.specs.Cmp.Lexicographic.{slice_cmp}
use Rattle.std.specs.FinMap as map
use Rattle.blz_error.specs.Texts.{Bytes}

-- what is known of paths; a path that names nothing has no entry
abbrev pub PathMap : Type 0 → Type 0
PathMap X = map.FinMap (slice_cmp nat_cmp) X

-- the bytes of the file at each path that names one
abbrev pub Contents : Type 0
Contents = PathMap Bytes
