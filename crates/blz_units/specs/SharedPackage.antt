-- The rows of the split units of a package.
use Rattle.std.specs.Prelude.{Option, IfSome}
use Rattle.blz_split.specs.IndexRows.{AreRowsOf}
use Rattle.blz_split.specs.PackageParts.{PackageParts}
use Rattle.blz_split.specs.declared.id_rows.IdRows.{IdRows}
use Rattle.blz_units.specs.BuiltUnits.{Files}
use Rattle.blz_units.specs.declared.shared.shared_package.SharedPackage.{SharedPackage}

-- the rows of a package, if they were read
abbrev pub AreRows : PackageParts → Option IdRows → Type 0
AreRows p rows = IfSome rows (AreRowsOf p)

-- The rows that are kept are those of the package.
abbrev pub IsPackageShared : Files → SharedPackage → Type 0
IsPackageShared f p = IfSome f.«package» (λ x. AreRows x p.rows)
