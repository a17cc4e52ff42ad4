-- A part that is needed and not there is a mark, and so is what needs it.
use Rattle.std.proofs.Common.{◌≡◌, Option, Some, None, false, refl}
use Rattle.std.specs.Prelude.{is_some}
use Rattle.blz_error.specs.declared.kind.ErrorKind.{ErrorKind}
use Rattle.blz_error.specs.declared.kind.ErrorKind.TheVariants.{InvalidDwarf}
use Rattle.blz_model.specs.Part.{Fails, Good}
use Rattle.blz_info.specs.Marks.{or_invalid}

pub marks : {A : Type 0} (kind : ErrorKind) (o : Option A) → o ≡ None → kind ≡ InvalidDwarf → Fails kind (or_invalid o)
marks kind o e k = rw (e, k) (λ _. cc)

pub marks_on : {A B : Type 0} (kind : ErrorKind) (o : Option A) (p : Option B) → Fails kind (or_invalid o) → (o ≡ None → p ≡ None) → Fails kind (or_invalid p)
marks_on kind None p f h = λ ne. let k = f ne in let same : InvalidDwarf ≡ kind = cc in let e = h refl in rw (e, same) refl
marks_on kind (Some x) p f h = λ ne. absurd (let k = f ne in cc)

pub good_some : {A : Type 0} (o : Option A) (x : A) → or_invalid o ≡ Good x → o ≡ Some x
good_some None x e = absurd cc
good_some (Some y) x e = cc

pub is_none : {A : Type 0} (o : Option A) → is_some o ≡ false → o ≡ None
is_none None e = refl
is_none (Some x) e = absurd cc
