-- The name of a call, by its bytes.
use Rattle.std.proofs.Common.{◌≡◌, ℕ, true, false, List, Some, refl}
use Rattle.std.specs.Str.{is_utf8}
use Rattle.blz_error.specs.declared.kind.ErrorKind.TheVariants.{InvalidDwarf}
use Rattle.blz_model.specs.Part.{Good, Broken}
use Rattle.blz_info.specs.TextParts.{text_of}
use Rattle.blz_info.specs.declared.text.StrPlace.{StrPlace}
use Rattle.blz_info.specs.declared.text.Texts.{Texts}
use Rattle.blz_units.specs.UnitSites.{call_name}

pub name_good : (texts : Texts) (place : StrPlace) (bytes : List ℕ) → bytes ≡ text_of texts place → is_utf8 bytes ≡ true → call_name texts (Some place) ≡ Good bytes
name_good texts place bytes e utf8 = let u : is_utf8 (text_of texts place) ≡ true = rw e at utf8 in rw (e, u) refl

pub name_bad : (texts : Texts) (place : StrPlace) (bytes : List ℕ) → bytes ≡ text_of texts place → is_utf8 bytes ≡ false → call_name texts (Some place) ≡ Broken InvalidDwarf
name_bad texts place bytes e utf8 = let u : is_utf8 (text_of texts place) ≡ false = rw e at utf8 in rw u refl
