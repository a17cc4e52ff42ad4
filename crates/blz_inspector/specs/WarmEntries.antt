-- What was read of an entry's images, where something was.
use Rattle.std.specs.Prelude.{◌≡◌, Bool, Option, Some, None, is_some, ⊤}
use Rattle.blz_bundle.specs.Images.{ImageSet}
use Rattle.blz_resolver.specs.WarmFits.{WarmFits, warm_units}
use Rattle.blz_resolver.specs.declared.warm.Warm.{Warm}

pub record IsWarm (images : ImageSet) (debug_syms : Bool) (w : Warm) : Type 0 where
  pub fits : WarmFits images w
  pub has_debug : is_some (warm_units w) ≡ debug_syms

abbrev pub IsWarmIf : ImageSet → Bool → Option Warm → Type 0
IsWarmIf images debug_syms None = ⊤
IsWarmIf images debug_syms (Some w) = IsWarm images debug_syms w
