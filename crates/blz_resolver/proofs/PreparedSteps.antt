-- Answers without inlined calls, and their looks.
use Rattle.std.proofs.Common.{◌≡◌, ℕ, false, Option, Some, None, refl, subst}
use Rattle.blz_model.specs.Answers.{Site, Resolved, Known}
use Rattle.blz_model.specs.Part.{Good}
use Rattle.blz_elf.specs.Asked.{asks_inlined_fns}
use Rattle.blz_elf.specs.declared.opts.FindSymOpts.{FindSymOpts}
use Rattle.blz_info.specs.declared.text.Texts.{Texts}
use Rattle.blz_index.specs.declared.units.Units.{Units}
use Rattle.blz_resolver.specs.AddressAnswers.{function_symbol, direct_site, places_of, placed, function_answer}
use Rattle.blz_resolver.specs.Books.{Book, frame_of}
use Rattle.blz_resolver.specs.CallFrames.{Places, one_place_if}
use Rattle.blz_bundle.specs.Images.{ImageSet}
use Rattle.blz_resolver.specs.Looks.{LooksFewAt, LooksFewIn}
use Rattle.blz_resolver.proofs.SameTexts.{good_is}

places_plain : (t : Texts) (b : Book) (a : ℕ) (opts : FindSymOpts) (at : ℕ × ℕ) (direct : Option Site) → asks_inlined_fns opts ≡ false → places_of t b a opts at direct ≡ Good (one_place_if direct)
unfolding places_of
places_plain t b a opts at None plain = refl
places_plain t b a opts at (Some direct) plain = rw plain refl

pub function_plain : (t : Texts) (b : Book) (a : ℕ) (opts : FindSymOpts) (at : ℕ × ℕ) (symbol : Resolved) (direct : Option Site) (places : Places) (shown : Resolved) → asks_inlined_fns opts ≡ false
    → function_symbol t b at ≡ Good symbol → direct_site t b a opts ≡ Good direct → places ≡ one_place_if direct → shown ≡ placed symbol places → function_answer t b a opts at ≡ Good (Known shown)
unfolding function_answer
function_plain t b a opts at symbol direct places shown plain one two here is = rw (is, here, one, two, places_plain t b a opts at direct plain) refl

pub looks_few : (images : ImageSet) (b : Book) (u : Units) (a looks : ℕ) → frame_of images ≡ Good b → LooksFewAt b u a looks → LooksFewIn images u a looks
looks_few images b u a looks is few other is_other =
    let e : b ≡ other = good_is b other (frame_of images) is is_other in
    let P : Book → Type 0 = λ b. LooksFewAt b u a looks in
    subst P e few
