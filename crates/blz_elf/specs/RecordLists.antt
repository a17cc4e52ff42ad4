-- The records of a table, in the class and the order of their image.
use Rattle.std.specs.Prelude.{ℕ, List, drop, take}
use Rattle.blz_model.specs.declared.byte_order.ByteOrder.{ByteOrder}
use Rattle.blz_records.specs.declared.class.ElfN.{ElfN}
use Rattle.blz_records.specs.declared.class.ElfN.TheVariants.{B32, B64}
use Rattle.blz_image.specs.declared.format.Class.{Class}
use Rattle.blz_image.specs.declared.format.Class.TheVariants.{Elf32, Elf64}
use Rattle.blz_image.specs.declared.format.Format.{Format}
use Rattle.blz_image.specs.declared.span.Rows.{Rows}
use Rattle.blz_image.specs.Places.{rows_in}

-- the first of class 32, the second of class 64
abbrev pub of_class : {A : Type 0} → A → A → Class → A
of_class narrow wide Elf32 = narrow
of_class narrow wide Elf64 = wide

-- what the first bytes from a place on spell
abbrev pub spelled : {R : Type 0} → (ByteOrder → List ℕ → R) → ℕ → ByteOrder → List ℕ → ℕ → R
spelled value size order image at = value order (take size (drop at image))

-- the record at a place: `narrow` and `wide` are what bytes of each class spell
abbrev pub record_at : {N T : Type 0} → (ByteOrder → List ℕ → N) → ℕ → (ByteOrder → List ℕ → T) → ℕ → Format → List ℕ → ℕ → ElfN T N
record_at narrow narrow_size wide wide_size f image at =
    of_class (B32 (spelled narrow narrow_size f.order image at)) (B64 (spelled wide wide_size f.order image at)) f.class

-- the records of a table, each as its bytes spell it in the class and the order of the image
abbrev pub records_in : {N T : Type 0} → (ByteOrder → List ℕ → N) → ℕ → (ByteOrder → List ℕ → T) → ℕ → List ℕ → Rows → List (ElfN T N)
records_in narrow narrow_size wide wide_size image r = rows_in (record_at narrow narrow_size wide wide_size) (of_class narrow_size wide_size) image r
