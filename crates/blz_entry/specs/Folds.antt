-- Steps that may fail, one after the other, and those over the attributes of an entry.
use Rattle.std.specs.Prelude.{ℕ, List, [], ◌∷◌, Option, Some}
use Rattle.blz_model.specs.Reads.{◌>>=◌}
use Rattle.blz_info.specs.Attributes.{attributes}
use Rattle.blz_info.specs.Contents.{Contents}
use Rattle.blz_info.specs.declared.abbreviations.AttrSpec.{AttrSpec}
use Rattle.blz_info.specs.declared.encoding.Encoding.{Encoding}
use Rattle.blz_info.specs.declared.text.StrBase.{StrBase}
use Rattle.blz_info.specs.declared.forms.value.AttrValue.{AttrValue}
use Rattle.blz_info.specs.Walks.{Walk}

-- a step for each item, in their order; nothing where one of them fails
abbrev pub fold_maybe : {S A : Type 0} → (S → A → Option S) → S → List A → Option S
fold_maybe step s [] = Some s
fold_maybe step s (x ∷ xs) = step s x >>= λ t. fold_maybe step t xs

-- the attributes at a place, each a step
abbrev pub over_attributes : {S : Type 0} → (S → ℕ × AttrValue → Option S) → S → List AttrSpec → Encoding → StrBase → Contents → ℕ → Option S
over_attributes step s specs e base c at = attributes specs e base c at >>= λ r. fold_maybe step s r.0

-- the same of the attributes that a walk has not read
abbrev pub over_pending : {S : Type 0} → (S → ℕ × AttrValue → Option S) → S → Walk → Option S
over_pending step s w = over_attributes step s w.pending w.source.encoding w.source.base w.source.section w.place
