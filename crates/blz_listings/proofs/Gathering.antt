-- Entries that are put into a listing part by part.
use Rattle.std.proofs.Common.{◌≡◌, List, [], refl, sym, ap, ◌∙◌}
use Rattle.std.proofs.lemmas.List.Sums.{fold-append}
use Rattle.blz_error.specs.declared.kind.ErrorKind.{ErrorKind}
use Rattle.blz_model.specs.Part.{Part, Good, Broken, ◌>>=◌, Fails}
use Rattle.blz_rows.specs.Entries.{Entry, both}
use Rattle.blz_listings.specs.Shown.{Shown, after, shown_with}

after-both : (shown : Shown) (p q : Part (List Entry)) → after shown (both p q) ≡ (after shown p >>= λ new. after new q)
after-both shown (Broken k) q = refl
after-both shown (Good xs) (Broken k) = refl
after-both shown (Good xs) (Good ys) = ap (λ (s : Shown). Good s) (fold-append shown_with shown xs ys)

-- the first part was put in, so the second is left
pub goes_on : (shown new : Shown) (p q rest : Part (List Entry)) (whole : Part Shown)
    → rest ≡ both p q → after shown p ≡ Good new → after shown rest ≡ whole → after new q ≡ whole
goes_on shown new p q rest whole parts first so_far =
    sym (ap (λ (part : Part Shown). part >>= λ new. after new q) first)
    ∙ sym (after-both shown p q) ∙ sym (ap (after shown) parts) ∙ so_far

-- the first part is a mark, so the whole is
pub breaks : (k : ErrorKind) (shown : Shown) (p q rest : Part (List Entry)) (whole : Part Shown)
    → rest ≡ both p q → Fails k (after shown p) → after shown rest ≡ whole → Fails k whole
breaks k shown p q rest whole parts fails so_far memory =
    sym so_far ∙ ap (after shown) parts ∙ after-both shown p q ∙ ap (λ (part : Part Shown). part >>= λ new. after new q) (fails memory)

-- nothing is left
pub ended : (shown : Shown) (rest : Part (List Entry)) (whole : Part Shown) → rest ≡ Good [] → after shown rest ≡ whole → whole ≡ Good shown
ended shown rest whole none so_far = sym so_far ∙ ap (after shown) none
