-- A record of either class.
use Rattle.std.specs.Prelude.{◌≡◌}
use Rattle.std.specs.Borrow.{Bor}
use Rattle.blz_records.specs.declared.class.ElfN.{ElfN}
use Rattle.blz_records.specs.declared.class.ElfN.TheVariants.{B32, B64}

-- f of a record of class 32, g of one of class 64
abbrev pub by_class : {N T X : Type 0} → (N → X) → (T → X) → ElfN T N → X
by_class f g (B32 r) = f r
by_class f g (B64 r) = g r

-- a record of class 64 as it is, one of class 32 as `from` gives it
abbrev pub Widens : {N T : Type 0} → (Bor N → T → Type 0) → ElfN T N → T → Type 0
Widens gives (B32 r) wide = (narrow : Bor _) × (narrow.now ≡ r) × gives narrow wide
Widens gives (B64 r) wide = wide ≡ r
