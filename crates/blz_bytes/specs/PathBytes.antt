-- The bytes of a path's fields.
use Rattle.std.specs.Prelude.{ℕ, List, ◌++◌}
use Rattle.blz_bytes.specs.declared.dir_path.DirPath.TheInside.{Inside}

abbrev pub path_bytes : Inside → List ℕ
path_bytes p = p.head.now ++ p.separator.now ++ p.tail.now
