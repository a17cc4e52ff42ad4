-- The build id in a list of notes, one note on.
use Rattle.std.proofs.Common.{◌≡◌, ℕ, zero, suc, ◌+◌, true, false, List, Some, None, refl, ap, ◌∙◌, arith}
use Rattle.blz_model.specs.declared.byte_order.ByteOrder.{ByteOrder}
use Rattle.blz_links.specs.Notes.{NoteValue, build_id_among, is_build_id, note_at, notes_from, then_notes}

notes_from-suc : (n m : ℕ) (order : ByteOrder) (bytes : List ℕ) (at : ℕ) → n ≡ m + 1 → notes_from n order bytes at ≡ then_notes (notes_from m order bytes) (note_at order bytes at)
unfolding notes_from
notes_from-suc zero m order bytes at e = absurd (let f : ⊥ = omega arith in f)
notes_from-suc (suc n) m order bytes at e =
    let same : n ≡ m = omega arith in ap (λ k. then_notes (notes_from k order bytes) (note_at order bytes at)) same

-- a note that is cut short
pub build_id_among-no_note : (n m : ℕ) (order : ByteOrder) (bytes : List ℕ) (at : ℕ) → n ≡ m + 1 → note_at order bytes at ≡ None → build_id_among (notes_from n order bytes at) ≡ None
build_id_among-no_note n m order bytes at e read = ap build_id_among (notes_from-suc n m order bytes at e) ∙ rw (read) refl

-- a note that is the build id
pub build_id_among-found : (n m : ℕ) (order : ByteOrder) (bytes : List ℕ) (at : ℕ) (note : NoteValue) (next : ℕ) → n ≡ m + 1 → note_at order bytes at ≡ Some (note, next) → is_build_id note ≡ true → build_id_among (notes_from n order bytes at) ≡ Some note.descriptor
build_id_among-found n m order bytes at note next e read it = ap build_id_among (notes_from-suc n m order bytes at e) ∙ rw (read, it) refl

-- another note
pub build_id_among-later : (n m : ℕ) (order : ByteOrder) (bytes : List ℕ) (at : ℕ) (note : NoteValue) (next : ℕ) → n ≡ m + 1 → note_at order bytes at ≡ Some (note, next) → is_build_id note ≡ false → build_id_among (notes_from n order bytes at) ≡ build_id_among (notes_from m order bytes next)
build_id_among-later n m order bytes at note next e read other = ap build_id_among (notes_from-suc n m order bytes at e) ∙ rw (read, other) refl

-- no note is left
pub build_id_among-none : (n : ℕ) (order : ByteOrder) (bytes : List ℕ) (at : ℕ) → n ≡ 0 → build_id_among (notes_from n order bytes at) ≡ None
unfolding notes_from
build_id_among-none zero order bytes at e = refl
build_id_among-none (suc n) order bytes at e = absurd (let f : ⊥ = omega arith in f)
