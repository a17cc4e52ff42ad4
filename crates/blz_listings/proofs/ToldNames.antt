-- The name of a function that answers an address is told with addresses.
use Rattle.std.proofs.Common.{◌≡◌, ℕ, true, false, List, [], ◌∷◌, sym, ap, ◌∙◌}
use Rattle.std.proofs.lemmas.List.{append-nil}
use Rattle.blz_error.specs.Texts.{Bytes}
use Rattle.blz_model.specs.Part.{Part, Good, ◌>>=◌}
use Rattle.blz_elf.specs.Infos.{Info}
use Rattle.blz_resolver.specs.AnswerLaws.{AllRead, IsNamedAt, IsSomeList}
use Rattle.blz_resolver.specs.Books.{Book, frame_of}
use Rattle.blz_resolver.specs.FileTexts.{texts_of}
use Rattle.blz_resolver.specs.FunctionNames.{addresses_in, addresses_of}
use Rattle.blz_resolver.specs.Images.{ImageSet}
use Rattle.blz_resolver.proofs.NamedFunctions.{found_by_name}
use Rattle.blz_listings.specs.FindLaws.{IsTold}
use Rattle.blz_listings.specs.FindTexts.{asking, find_text, name_text, names_text}
use Rattle.blz_listings.proofs.InfoSteps.{told}
use Rattle.blz_listings.proofs.NameSteps.{behind}

addresses_are : (images : ImageSet) (b : Book) (name : Bytes) → frame_of images ≡ Good b → addresses_of images true name (asking false) ≡ addresses_in (texts_of b.files) b name false
unfolding addresses_of
addresses_are images b name frame = ap (λ (p : Part Book). p >>= λ b. addresses_in (texts_of b.files) b name false) frame

one_name : (images : ImageSet) (name : Bytes) (infos : List Info) → addresses_of images true name (asking false) ≡ Good infos → find_text false (name ∷ []) images ≡ Good (name_text false name infos)
unfolding find_text names_text
one_name images name infos found =
    ap (λ (p : Part (List Info)). p >>= λ infos. behind (name_text false name infos) (Good [])) found ∙ ap (λ (t : Bytes). Good t) (append-nil (name_text false name infos))

pub told_by_name : (images : ImageSet) (b : Book) (addr k n : ℕ) (name : Bytes) → frame_of images ≡ Good b → AllRead b.files b.table → IsNamedAt b addr k n name → IsTold images name
told_by_name images b addr k n name frame read at =
    let list : IsSomeList (addresses_in (texts_of b.files) b name false) = found_by_name b addr k n name read at in
    record {
      infos = list.infos;
      some = list.some;
      text = one_name images name list.infos (addresses_are images b name frame ∙ list.is) ∙ ap (λ (t : Bytes). Good t) (sym (told false name list.infos list.some));
    }
