-- One listing after another.
use Rattle.std.proofs.Common.{◌≡◌, Bool, false, List, [], ◌++◌, Option, Some, None, Ok, ◌⊎◌, inl, inr, refl, sym, ap, ◌∙◌, append_assoc, length-append, arith}
use Rattle.std.proofs.lemmas.List.{append-nil}
use Rattle.blz_error.specs.declared.kind.ErrorKind.{ErrorKind}
use Rattle.blz_error.specs.declared.kind.ErrorKind.TheVariants.{OutOfMemory}
use Rattle.blz_model.specs.Part.{Part, Fails}
use Rattle.blz_elf.specs.Infos.{Info}
use Rattle.blz_relocations.specs.declared.flow.Flow.{Flow}
use Rattle.blz_relocations.specs.declared.flow.Flow.TheVariants.{Continue, Break}
use Rattle.blz_elf.specs.Listings.{Listing, broken_by, listing_if, then_also, Told, Shown, Shows, IsShown, Breaks, IsRefused}

pub shown_none : (old : Told) → Shown old old []
shown_none None = tt
shown_none (Some xs) = sym (append-nil xs)

pub shown_more : (a b c : Told) (xs ys : List Info) → Shown a b xs → Shown b c ys → Shown a c (xs ++ ys)
shown_more None None None xs ys p q = tt
shown_more None None (Some c) xs ys p q = absurd q
shown_more None (Some b) c xs ys p q = absurd p
shown_more (Some a) None None xs ys p q = tt
shown_more (Some a) None (Some c) xs ys p q = absurd q
shown_more (Some a) (Some b) None xs ys p q = tt
shown_more (Some a) (Some b) (Some c) xs ys p q = q ∙ ap (λ (zs : List Info). zs ++ ys) p ∙ append_assoc a xs ys

-- a mark that is met before anything is shown
pub refused_first : (kind : ErrorKind) (old : Told) (stopped : Bool) → stopped ≡ false → IsRefused (broken_by kind) old old stopped kind
refused_first kind old stopped e = record { goes_on = e; mark = λ ne. refl; whole = λ ne. shown_none old; front = []; rest = []; split = refl; shown = shown_none old }

-- want of memory before anything more is shown
pub wanting : (l : Listing) (old : Told) (stopped : Bool) → stopped ≡ false → IsRefused l old old stopped OutOfMemory
wanting l old stopped e = record { goes_on = e; mark = λ ne. absurd (ne refl); whole = λ ne. absurd (ne refl); front = []; rest = l.shown; split = refl; shown = shown_none old }

pub break_first : (shown : List Info) (mark : Option ErrorKind) (b : Listing) (old new : Told) (stopped : Bool) → Breaks (record { shown = shown; mark = mark }) old new stopped → Breaks (then_also shown mark b) old new stopped
break_first shown None b old new stopped h = record { stops = h.stops; front = h.front; rest = h.rest ++ b.shown; some = h.some; split = sym (append_assoc h.front h.rest b.shown) ∙ ap (λ (zs : List Info). zs ++ b.shown) h.split; shown = h.shown }
break_first shown (Some kind) b old new stopped h = h

pub refuse_first : (shown : List Info) (mark : Option ErrorKind) (b : Listing) (old new : Told) (stopped : Bool) (kind : ErrorKind) → IsRefused (record { shown = shown; mark = mark }) old new stopped kind → IsRefused (then_also shown mark b) old new stopped kind
refuse_first shown None b old new stopped kind h = record { goes_on = h.goes_on; mark = λ ne. absurd (let m = h.mark ne in cc); whole = λ ne. absurd (let m = h.mark ne in cc); front = h.front; rest = h.rest ++ b.shown; split = sym (append_assoc h.front h.rest b.shown) ∙ ap (λ (zs : List Info). zs ++ b.shown) h.split; shown = h.shown }
refuse_first shown (Some k) b old new stopped kind h = h

pub then_shown : (shown : List Info) (mark : Option ErrorKind) (b : Listing) (old mid new : Told) (stopped : Bool) → mark ≡ None → Shown old mid shown → IsShown b mid new stopped → IsShown (then_also shown mark b) old new stopped
then_shown shown None b old mid new stopped e first h = record { goes_on = h.goes_on; whole = h.whole; shown = shown_more old mid new shown b.shown first h.shown }
then_shown shown (Some k) b old mid new stopped e first h = absurd cc

pub then_breaks : (shown : List Info) (mark : Option ErrorKind) (b : Listing) (old mid new : Told) (stopped : Bool) → mark ≡ None → Shown old mid shown → Breaks b mid new stopped → Breaks (then_also shown mark b) old new stopped
then_breaks shown None b old mid new stopped e first h = record { stops = h.stops; front = shown ++ h.front; rest = h.rest; some = omega (arith, h.some, length-append shown h.front); split = append_assoc shown h.front h.rest ∙ ap (λ (zs : List Info). shown ++ zs) h.split; shown = shown_more old mid new shown h.front first h.shown }
then_breaks shown (Some k) b old mid new stopped e first h = absurd cc

pub then_refused : (shown : List Info) (mark : Option ErrorKind) (b : Listing) (old mid new : Told) (stopped : Bool) (kind : ErrorKind) → mark ≡ None → Shown old mid shown → IsRefused b mid new stopped kind → IsRefused (then_also shown mark b) old new stopped kind
then_refused shown None b old mid new stopped kind e first h = record { goes_on = h.goes_on; mark = h.mark; whole = λ ne. shown_more old mid new shown b.shown first (h.whole ne); front = shown ++ h.front; rest = h.rest; split = append_assoc shown h.front h.rest ∙ ap (λ (zs : List Info). shown ++ zs) h.split; shown = shown_more old mid new shown h.front first h.shown }
then_refused shown (Some k) b old mid new stopped kind e first h = absurd cc

-- what could not be read
pub read_refused : {A : Type 0} (f : A → Listing) (p : Part A) (kind : ErrorKind) (old : Told) (stopped : Bool) → Fails kind p → stopped ≡ false → IsRefused (listing_if f p) old old stopped kind
read_refused f p kind old stopped h e = record {
  goes_on = e;
  mark = λ ne. rw (h ne) refl;
  whole = λ ne. rw (h ne) (shown_none old);
  front = [];
  rest = (listing_if f p).shown;
  split = refl;
  shown = shown_none old;
}

pub then_either : (shown : List Info) (mark : Option ErrorKind) (b : Listing) (old mid new : Told) (stopped : Bool) (flow : Flow) → mark ≡ None → Shown old mid shown → Shows b mid new stopped (Ok flow) → IsShown (then_also shown mark b) old new stopped ⊎ Breaks (then_also shown mark b) old new stopped
then_either shown mark b old mid new stopped Continue e first h = inl (then_shown shown mark b old mid new stopped e first h)
then_either shown mark b old mid new stopped Break e first h = inr (then_breaks shown mark b old mid new stopped e first h)
