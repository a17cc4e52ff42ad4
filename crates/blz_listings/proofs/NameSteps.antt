-- Texts of names, one after the other.
use Rattle.std.proofs.Common.{◌≡◌, ℕ, ◌+◌, ◌<◌, ◌≤◌, true, Bool, List, [], ◌∷◌, ◌++◌, length, map, drop, get_or, refl, sym, ap, ◌∙◌, append_assoc, arith}
use Rattle.std.specs.Prelude.{string_bytes}
use Rattle.std.specs.declared.string.String.{String}
use Rattle.std.proofs.lemmas.List.{append-nil, at_drop_more, at_drop_all}
use Rattle.blz_elf.specs.Infos.{Info}
use Rattle.blz_elf.specs.declared.find_addr_opts.FindAddrOpts.{FindAddrOpts}
use Rattle.blz_error.specs.Texts.{Bytes}
use Rattle.blz_error.specs.declared.kind.ErrorKind.{ErrorKind}
use Rattle.blz_model.specs.Part.{Part, Good, Broken, ◌>>=◌, Fails}
use Rattle.blz_resolver.specs.Books.{Book, frame_of, framed}
use Rattle.blz_resolver.specs.FunctionNames.{addresses_of, listing_in}
use Rattle.blz_resolver.specs.Images.{ImageSet}
use Rattle.blz_listings.specs.FindTexts.{asking, find_text, name_text, names_text}

-- a text, and behind it that of a part
abbrev pub behind : Bytes → Part Bytes → Part Bytes
behind text part = part >>= λ rest. Good (text ++ rest)

behind_both : (out text : Bytes) (p : Part Bytes) → behind out (behind text p) ≡ behind (out ++ text) p
behind_both out text (Good rest) = ap (λ (t : Bytes). Good t) (sym (append_assoc out text rest))
behind_both out text (Broken k) = refl

pub behind_none : (p : Part Bytes) → behind [] p ≡ p
behind_none (Good rest) = refl
behind_none (Broken k) = refl

-- ---- one name

found_on : (opts : FindAddrOpts) (images : ImageSet) (name : Bytes) (names : List Bytes) (infos : List Info) (out new : Bytes) (whole : Part Bytes)
    → addresses_of images true name opts ≡ Good infos → new ≡ out ++ name_text opts.file_offset name infos
    → behind out (names_text opts images (name ∷ names)) ≡ whole → behind new (names_text opts images names) ≡ whole
unfolding names_text
found_on opts images name names infos out new whole found text so_far =
    let rest = names_text opts images names in
    ap (λ (t : Bytes). behind t rest) text ∙ sym (behind_both out (name_text opts.file_offset name infos) rest)
    ∙ sym (ap (λ (p : Part (List Info)). behind out (p >>= λ infos. behind (name_text opts.file_offset name infos) rest)) found) ∙ so_far

found_break : (k : ErrorKind) (opts : FindAddrOpts) (images : ImageSet) (name : Bytes) (names : List Bytes) (out : Bytes) (whole : Part Bytes)
    → Fails k (addresses_of images true name opts) → behind out (names_text opts images (name ∷ names)) ≡ whole → Fails k whole
unfolding names_text
found_break k opts images name names out whole fails so_far memory =
    let rest = names_text opts images names in
    sym so_far ∙ ap (λ (p : Part (List Info)). behind out (p >>= λ infos. behind (name_text opts.file_offset name infos) rest)) (fails memory)

-- ---- the name at an index

module _ {Z : Type 0} (opts : FindAddrOpts) (images : ImageSet) (names : List (String Z)) where
  abbrev pub texts_left : ℕ → Part Bytes
  texts_left i = names_text opts images (map string_bytes (drop i names))

  left_is : (i : ℕ) (d : String Z) → i < length names → texts_left i ≡ names_text opts images (string_bytes (get_or names i d) ∷ map string_bytes (drop (i + 1) names))
  left_is i d lt = at_drop_more (λ (l : List (String Z)). names_text opts images (map string_bytes l)) names i d lt

  pub name_on : (i : ℕ) (name : String Z) (old : ImageSet) (has : Bool) (infos : List Info) (out new : Bytes) (whole : Part Bytes)
      → i < length names → name ≡ get_or names i name → old ≡ images → has ≡ true
      → addresses_of old has (string_bytes name) opts ≡ Good infos → new ≡ out ++ name_text opts.file_offset (string_bytes name) infos
      → behind out (texts_left i) ≡ whole → behind new (texts_left (i + 1)) ≡ whole
  name_on i name old has infos out new whole lt is same debug found text so_far =
      let there : addresses_of images true (string_bytes name) opts ≡ Good infos =
      sym (ap (λ (b : Bool). addresses_of images b (string_bytes name) opts) debug) ∙ sym (ap (λ (s : ImageSet). addresses_of s has (string_bytes name) opts) same) ∙ found in
      let whole_is = sym (ap (λ (n : String Z). behind out (names_text opts images (string_bytes n ∷ map string_bytes (drop (i + 1) names)))) (sym is)) in
      found_on opts images (string_bytes name) (map string_bytes (drop (i + 1) names)) infos out new whole there text (whole_is ∙ sym (ap (behind out) (left_is i name lt)) ∙ so_far)

  pub name_break : (k : ErrorKind) (i : ℕ) (name : String Z) (old : ImageSet) (has : Bool) (out : Bytes) (whole : Part Bytes)
      → i < length names → name ≡ get_or names i name → old ≡ images → has ≡ true
      → Fails k (addresses_of old has (string_bytes name) opts) → behind out (texts_left i) ≡ whole → Fails k whole
  name_break k i name old has out whole lt is same debug fails so_far =
      let there : Fails k (addresses_of images true (string_bytes name) opts) = λ memory.
      sym (ap (λ (b : Bool). addresses_of images b (string_bytes name) opts) debug) ∙ sym (ap (λ (s : ImageSet). addresses_of s has (string_bytes name) opts) same) ∙ fails memory in
      let whole_is = sym (ap (λ (n : String Z). behind out (names_text opts images (string_bytes n ∷ map string_bytes (drop (i + 1) names)))) (sym is)) in
      found_break k opts images (string_bytes name) (map string_bytes (drop (i + 1) names)) out whole there (whole_is ∙ sym (ap (behind out) (left_is i name lt)) ∙ so_far)

  pub names_ended : (i : ℕ) (out : Bytes) (whole : Part Bytes) → length names ≤ i → behind out (texts_left i) ≡ whole → whole ≡ Good out
  unfolding names_text
  names_ended i out whole le so_far =
      sym so_far ∙ ap (behind out) (at_drop_all (λ (l : List (String Z)). names_text opts images (map string_bytes l)) names i le) ∙ ap (λ (t : Bytes). Good t) (append-nil out)

-- names that are asked
pub names_asked : (file_offset : Bool) (names : List Bytes) (images : ImageSet) → 0 < length names → find_text file_offset names images ≡ names_text (asking file_offset) images names
unfolding find_text
names_asked file_offset [] images some = absurd (omega arith)
names_asked file_offset (name ∷ names) images some = refl

-- ---- the frame

abbrev is_read : Part Book → Part (Unit {0})
is_read frame = frame >>= λ book. Good tt

frame_is : (k : ErrorKind) (frame : Part Book) → is_read frame ≡ Broken k → frame ≡ Broken k
frame_is k (Good book) e = absurd cc
frame_is k (Broken other) e = let same : other ≡ k = cc in ap (λ (k : ErrorKind). Broken k) same

frame_mark : (k : ErrorKind) (file_offset : Bool) (names : List Bytes) (images : ImageSet) → frame_of images ≡ Broken k → find_text file_offset names images ≡ Broken k
unfolding find_text names_text addresses_of listing_in
frame_mark k file_offset [] images e = rw e refl
frame_mark k file_offset (name ∷ names) images e = rw e refl

-- a frame that is broken breaks the text
pub frame_break : (k : ErrorKind) (file_offset : Bool) (names : List Bytes) (images : ImageSet) → Fails k (framed images) → Fails k (find_text file_offset names images)
frame_break k file_offset names images fails memory = frame_mark k file_offset names images (frame_is k (frame_of images) (fails memory))
