-- The order of (bytes of the name, place).
use Rattle.std.specs.Prelude.{◌≡◌, ℕ, ◌<◌, Bool, true, false, List, [], length, Option, Some, None, nat_lt, slice_get}
use Rattle.std.specs.Ordering.{nat_cmp, is_gt}
use Rattle.std.specs.declared.cmp.Ordering.{Ordering}
use Rattle.std.specs.declared.cmp.Ordering.TheVariants.{Less, Equal, Greater}
use Rattle.std.specs.Cmp.Lexicographic.{slice_cmp}
use Rattle.blz_model.specs.Reads.{Read}
use Rattle.blz_bytes.specs.declared.orders.NameSpan.{NameSpan}
use Rattle.blz_bytes.specs.Pieces.{piece}
use Rattle.blz_bytes.specs.Rising.{puts_in_order, IsOrderBy}

abbrev pub text_or_empty : Read (List ℕ) → List ℕ
text_or_empty None = []
text_or_empty (Some r) = r.0

abbrev pub text_in : List ℕ → Option NameSpan → List ℕ
text_in strs None = []
text_in strs (Some s) = text_or_empty (piece s.len strs s.start)

-- the bytes of a name; a span that passes the end counts as empty
abbrev pub name_in : List ℕ → List NameSpan → ℕ → List ℕ
name_in strs names place = text_in strs (slice_get names place)

abbrev pub name_cmp : List ℕ → List ℕ → Ordering
name_cmp a b = slice_cmp nat_cmp a b

abbrev pub with_places : Ordering → ℕ → ℕ → Bool
with_places Less p q = true
with_places Equal p q = nat_lt p q
with_places Greater p q = false

abbrev pub name_before : List ℕ → List NameSpan → ℕ → ℕ → Bool
name_before strs names p q = with_places (name_cmp (name_in strs names p) (name_in strs names q)) p q

-- as many places as names, each in the list, and the pairs rising
abbrev pub accepts_names : List ℕ → List NameSpan → List ℕ → Bool
accepts_names strs names places = puts_in_order (name_before strs names) (length names) places

-- The same as facts on two places.
pub record TextBefore (a : List ℕ) (p : ℕ) (b : List ℕ) (q : ℕ) : Type 0 where
  pub not_above : is_gt (name_cmp a b) ≡ false
  pub tie : name_cmp a b ≡ Equal → p < q

abbrev pub NameBefore : List ℕ → List NameSpan → ℕ → ℕ → Type 0
NameBefore strs names p q = TextBefore (name_in strs names p) p (name_in strs names q) q

-- What an accepted order of names is.
abbrev pub IsNameOrder : List ℕ → List NameSpan → List ℕ → Type 0
IsNameOrder strs names places = IsOrderBy (NameBefore strs names) (length names) places
