-- Texts of infos, one after the other.
use Rattle.std.proofs.Common.{◌≡◌, ℕ, ◌+◌, ◌<◌, ◌≤◌, Bool, List, [], ◌∷◌, ◌++◌, length, map, drop, get_or, refl, sym, ap, ◌∙◌, append_assoc, arith}
use Rattle.std.proofs.lemmas.List.{append-nil, at_drop_more, at_drop_all}
use Rattle.blz_elf.specs.Infos.{Info}
use Rattle.blz_error.specs.Texts.{Bytes}
use Rattle.blz_listings.specs.FindTexts.{info_text, infos_text, name_text}

module _ {A : Type 0} (asked : Bool) (view : A → Info) (infos : List A) where
  -- the text from an index on
  abbrev pub left : ℕ → Bytes
  left i = infos_text asked (map view (drop i infos))

  pub info_on : (i : ℕ) (d : A) (out new whole : Bytes) → i < length infos → new ≡ out ++ info_text asked (view (get_or infos i d)) → out ++ left i ≡ whole → new ++ left (i + 1) ≡ whole
  info_on i d out new whole lt more so_far =
      ap (λ (t : Bytes). t ++ left (i + 1)) more ∙ append_assoc out (info_text asked (view (get_or infos i d))) (left (i + 1))
      ∙ sym (ap (λ (t : Bytes). out ++ t) (at_drop_more (λ (l : List A). infos_text asked (map view l)) infos i d lt)) ∙ so_far

  pub infos_ended : (i : ℕ) (out whole : Bytes) → length infos ≤ i → out ++ left i ≡ whole → out ≡ whole
  infos_ended i out whole le so_far =
      sym (append-nil out) ∙ sym (ap (λ (t : Bytes). out ++ t) (at_drop_all (λ (l : List A). infos_text asked (map view l)) infos i le)) ∙ so_far

-- a name that something has
pub told : (asked : Bool) (name : Bytes) (infos : List Info) → 0 < length infos → infos_text asked infos ≡ name_text asked name infos
told asked name [] some = absurd (omega arith)
told asked name (info ∷ infos) some = refl
