-- The places of an image whose entries were read for a section.
use Rattle.std.specs.Prelude.{◌≡◌, ℕ, ◌+◌, ◌*◌, ◌≤◌, Bool, true, List, Some}
use Rattle.std.specs.BTreeMap.{BTreeMap, get}
use Rattle.std.specs.FinMap as map
use Rattle.std.specs.Ordering.{nat_cmp}
use Rattle.blz_image.specs.declared.relocations.entries.EntryKind.TheVariants.{Rela, Rel}
use Rattle.blz_image.specs.declared.format.Format.{Format}
use Rattle.blz_image.specs.declared.relocations.read_places.ReadPlaces as code
use Rattle.blz_image.specs.Formats.{word_at}
use Rattle.blz_image.specs.RelocationTables.{entry_size}
use Rattle.blz_relocations.specs.Relocations.{OffsetMap}

-- A run ends with the entry at its key, and its value is how many entries of that size lie before it. Each of them passes.
abbrev pub AllRead : ℕ → (ℕ → Bool) → BTreeMap ℕ ℕ → Type 0
AllRead size is_read runs = (p n i q : ℕ) → get nat_cmp runs p ≡ Some n → i ≤ n → q + size * i ≡ p → is_read q ≡ true

-- the offset of the entry at a place has a relocation
abbrev pub is_known : Format → List ℕ → OffsetMap → ℕ → Bool
is_known f bytes m place = map.contains_key m (word_at f bytes place)

-- the runs of both kinds are of such entries
pub record AreRead (f : Format) (bytes : List ℕ) (m : OffsetMap) (r : code.ReadPlaces) : Type 0 where
  pub rela : AllRead (entry_size Rela f.class) (is_known f bytes m) r.rela
  pub rel : AllRead (entry_size Rel f.class) (is_known f bytes m) r.rel
