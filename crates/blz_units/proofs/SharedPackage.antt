-- No rows of a package are kept at first.
use Rattle.std.proofs.Common.{◌≡◌, Option, Some, None}
use Rattle.std.specs.Prelude.{IfSome}
use Rattle.blz_split.specs.PackageParts.{PackageParts}
use Rattle.blz_split.specs.declared.id_rows.IdRows.{IdRows}
use Rattle.blz_units.specs.declared.shared.shared_package.SharedPackage.{SharedPackage}
use Rattle.blz_units.specs.BuiltUnits.{Files}
use Rattle.blz_units.specs.SharedPackage.{AreRows, IsPackageShared}

no_rows_by : (o : Option PackageParts) (rows : Option IdRows) → rows ≡ None → IfSome o (λ x. AreRows x rows)
no_rows_by None rows e = tt
no_rows_by (Some p) rows e = rw e tt

pub no_rows : (f : Files) (p : SharedPackage) → p.rows ≡ None → IsPackageShared f p
no_rows f p none = no_rows_by f.«package» p.rows none
