-- The first build id in some notes, one extent on.
use Rattle.std.proofs.Common.{◌≡◌, ℕ, List, [], ◌∷◌, map, Option, Some, None, refl, ap, ◌∙◌}
use Rattle.blz_error.specs.declared.kind.ErrorKind.{ErrorKind}
use Rattle.blz_model.specs.declared.byte_order.ByteOrder.{ByteOrder}
use Rattle.blz_model.specs.Part.{Good, Broken}
use Rattle.blz_links.specs.BuildIds.{Extent, extent_build_id, first_build_id}

pub first_build_id-broken : {A : Type 0} (notes : A → Option Extent) (order : ByteOrder) (image : List ℕ) (all rest : List A) (x : A) (k : ErrorKind) → all ≡ x ∷ rest → extent_build_id order image (notes x) ≡ Broken k → first_build_id order image (map notes all) ≡ Broken k
unfolding first_build_id
first_build_id-broken notes order image all rest x k e read = ap (λ xs. first_build_id order image (map notes xs)) e ∙ rw (read) refl

pub first_build_id-found : {A : Type 0} (notes : A → Option Extent) (order : ByteOrder) (image : List ℕ) (all rest : List A) (x : A) (id : List ℕ) → all ≡ x ∷ rest → extent_build_id order image (notes x) ≡ Good (Some id) → first_build_id order image (map notes all) ≡ Good (Some id)
unfolding first_build_id
first_build_id-found notes order image all rest x id e read = ap (λ xs. first_build_id order image (map notes xs)) e ∙ rw (read) refl

pub first_build_id-later : {A : Type 0} (notes : A → Option Extent) (order : ByteOrder) (image : List ℕ) (all rest : List A) (x : A) → all ≡ x ∷ rest → extent_build_id order image (notes x) ≡ Good None → first_build_id order image (map notes all) ≡ first_build_id order image (map notes rest)
unfolding first_build_id
first_build_id-later notes order image all rest x e read = ap (λ xs. first_build_id order image (map notes xs)) e ∙ rw (read) refl

pub first_build_id-none : {A : Type 0} (notes : A → Option Extent) (order : ByteOrder) (image : List ℕ) (all : List A) → all ≡ [] → first_build_id order image (map notes all) ≡ Good None
unfolding first_build_id
first_build_id-none notes order image all e = ap (λ xs. first_build_id order image (map notes xs)) e
