-- From an address to its place in the file and back.
use Rattle.std.proofs.Common.{◌≡◌, ℕ, suc, ◌+◌, ◌-◌, ◌^◌, ◌<◌, ◌≤◌, Bool, true, false, cond, ◌&&◌, ◌||◌, eqb, leb, ltb, List, [], ◌∷◌, Option, Some, None, refl, ap, ◌∙◌, arith}
use Rattle.std.specs.List.{slice_get}
use Rattle.std.proofs.lemmas.Bool.{and_parts, eqb-true, leb-true, le-leb, ltb-true}
use Rattle.blz_model.specs.Part.{Good}
use Rattle.blz_image.specs.Headers.{Header, header_of}
use Rattle.blz_image.specs.Segments.{segments_of, is_load, if_fits, file_place, holds_place, address_of, or_else, first_given, image_segments, image_file_place, image_address_of, AreApart, ComesBack}
use Rattle.blz_image.specs.declared.segments.Segment.{Segment}

both : (a b : Bool) → a ≡ true → b ≡ true → (a && b) ≡ true
both true b p q = q
both false b p q = absurd cc

-- what fits is given as it is
fits_is : (n o : ℕ) → if_fits n ≡ Some o → n ≡ o
fits_is n o e = by (ltb n (2 ^ 64)) e
  where
    by : (t : Bool) → cond t (Some n) None ≡ Some o → n ≡ o
    by true e = cc
    by false e = absurd cc

fits : (n : ℕ) → n < 2 ^ 64 → if_fits n ≡ Some n
fits n lt = rw (le-leb (suc n) (2 ^ 64) (omega (arith, lt))) refl

-- some bytes are asked, so the address is not the end
inside : (a b : Bool) (size : ℕ) → 0 < size → (a || (b && eqb size 0)) ≡ true → a ≡ true
inside true b size some e = refl
inside false b size some e = absurd (let z = eqb-true size 0 (and_parts b (eqb size 0) e).1 in omega (arith, some, z))

-- the segment that gives the place holds it, and leads back
record Leads (a o : ℕ) (s : Segment) : Type 0 where
  holds : holds_place o s ≡ true
  back : address_of o s ≡ Some a

one_leads : (a size o : ℕ) (s : Segment) → a < 2 ^ 64 → 0 < size → file_place a size s ≡ Some o → Leads a o s
one_leads a size o s small some e = by (is_load s && (leb s.addr a && (ltb a (s.addr + s.file_size) || (eqb a (s.addr + s.file_size) && eqb size 0)))) refl e
  where
    by : (t : Bool) → (is_load s && (leb s.addr a && (ltb a (s.addr + s.file_size) || (eqb a (s.addr + s.file_size) && eqb size 0)))) ≡ t → cond t (if_fits (a - s.addr + s.offset)) None ≡ Some o → Leads a o s
    by false f e = absurd cc
    by true f e =
        let load = and_parts (is_load s) (leb s.addr a && (ltb a (s.addr + s.file_size) || (eqb a (s.addr + s.file_size) && eqb size 0))) f in
        let above = and_parts (leb s.addr a) (ltb a (s.addr + s.file_size) || (eqb a (s.addr + s.file_size) && eqb size 0)) load.1 in
        let low : s.addr ≤ a = leb-true s.addr a above.0 in
        let high : a < s.addr + s.file_size = ltb-true a (s.addr + s.file_size) (inside (ltb a (s.addr + s.file_size)) (eqb a (s.addr + s.file_size)) size some above.1) in
        let is : a - s.addr + s.offset ≡ o = fits_is (a - s.addr + s.offset) o e in
        let again : o - s.offset + s.addr ≡ a = omega (arith, low, is) in
        let h : holds_place o s ≡ true = both _ _ load.0 (both _ _ (le-leb s.offset o (omega (arith, low, is))) (le-leb (suc o) (s.offset + s.file_size) (omega (arith, low, high, is)))) in
        record { holds = h; back = rw (h, again) (fits a small) }

-- the same of some segments: which of them gives the place
record Returns (segments : List Segment) (o a : ℕ) : Type 0 where
  at : ℕ
  segment : Segment
  is : slice_get segments at ≡ Some segment
  holds : holds_place o segment ≡ true
  back : first_given (address_of o) segments ≡ Some a

tail_apart : (s : Segment) (segments : List Segment) → AreApart (s ∷ segments) → AreApart segments
tail_apart s segments h = record { apart = λ i j t u place lt is js. h.apart (suc i) (suc j) t u place (omega (arith, lt)) is js }

returns : (a size o : ℕ) (segments : List Segment) → a < 2 ^ 64 → 0 < size → AreApart segments → first_given (file_place a size) segments ≡ Some o → Returns segments o a
returns a size o [] small some apart e = absurd cc
returns a size o (s ∷ segments) small some apart e = by (returns a size o segments small some (tail_apart s segments apart)) (file_place a size s) refl e
  where
    behind : (r : Returns segments o a) (t : Bool) → holds_place o s ≡ t → or_else (cond t (if_fits (o - s.offset + s.addr)) None) (first_given (address_of o) segments) ≡ Some a
    behind r false h = r.back
    behind r true h = absurd (let no_other = apart.apart 0 (suc r.at) s r.segment o (omega arith) refl r.is h in let held = r.holds in cc)

    by : (first_given (file_place a size) segments ≡ Some o → Returns segments o a) → (r : Option ℕ) → file_place a size s ≡ r → or_else r (first_given (file_place a size) segments) ≡ Some o → Returns (s ∷ segments) o a
    by others (Some n) f e =
        let l = one_leads a size o s small some (f ∙ e) in
        record { at = 0; segment = s; is = refl; holds = l.holds; back = ap (λ (r : Option ℕ). or_else r (first_given (address_of o) segments)) l.back }
    by others None f e =
        let r = others e in
        record { at = suc r.at; segment = r.segment; is = r.is; holds = r.holds; back = behind r (holds_place o s) refl }

good_is : {A : Type 0} (x y : A) → Good x ≡ Good y → x ≡ y
good_is x y e = cc

pub comes_back : (image : List ℕ) (addr size : ℕ) (o : Option ℕ) → addr < 2 ^ 64 → image_file_place image addr size ≡ Good o → ComesBack image addr size o
unfolding image_file_place image_address_of
comes_back image addr size None small e = tt
comes_back image addr size (Some place) small e = λ segments is apart some.
    let given : first_given (file_place addr size) segments ≡ Some place = good_is _ _ (rw is at e) in
    let r = returns addr size place segments small some apart given in
    rw (is, r.back) refl

-- the place, by the parts that are read on the way
pub placed : (image : List ℕ) (h : Header) (segments : List Segment) (addr size : ℕ) (o : Option ℕ) → header_of image ≡ Good h → segments_of image h ≡ Good segments → o ≡ first_given (file_place addr size) segments → image_file_place image addr size ≡ Good o
unfolding image_file_place image_segments
placed image h segments addr size o head read is = rw (head, read, is) refl
