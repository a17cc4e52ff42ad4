-- Texts behind a separator, written one after another.
use Rattle.std.proofs.Common.{◌≡◌, List, [], ◌∷◌, ◌++◌, Some, codes, refl, sym, ap, ◌∙◌, append_assoc}
use Rattle.blz_error.specs.Texts.{Bytes}
use Rattle.blz_error.specs.Reports.{after_first, cause_lines, causes_of, each_after, texts_in}

pub texts_in-causes_of : (texts : List Bytes) → texts_in (causes_of texts) ≡ after_first texts
texts_in-causes_of [] = refl
texts_in-causes_of (text ∷ []) = refl
texts_in-causes_of (text ∷ cause ∷ causes) = refl

-- one more text is written
pub each_after-step : (done separator text : Bytes) (texts : List Bytes) (whole : Bytes) → texts ≡ text ∷ after_first texts → done ++ each_after separator texts ≡ whole
    → (done ++ (separator ++ text)) ++ each_after separator (texts_in (causes_of texts)) ≡ whole
each_after-step done separator text texts whole first so_far =
    let others = each_after separator (after_first texts) in
    let split : each_after separator texts ≡ separator ++ (text ++ others) = ap (each_after separator) first in
    rw texts_in-causes_of
    (append_assoc done (separator ++ text) others
    ∙ ap (λ (tail : Bytes). done ++ tail) (append_assoc separator text others ∙ sym split)
    ∙ so_far)

-- where there are causes, they have their line
pub cause_lines-some : (texts causes : List Bytes) → Some causes ≡ causes_of texts → cause_lines (after_first texts) ≡ codes "\n\nCaused by:" ++ each_after (codes "\n    ") causes
cause_lines-some [] causes e = absurd cc
cause_lines-some (text ∷ []) causes e = absurd cc
cause_lines-some (text ∷ cause ∷ others) causes e = ap (λ (xs : List Bytes). codes "\n\nCaused by:" ++ each_after (codes "\n    ") xs) (sym (ap texts_in e))
