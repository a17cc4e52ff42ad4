-- The names of a table of symbols as they are kept, and an accepted order of them.
use Rattle.std.specs.Prelude.{◌≡◌, ℕ, ◌<◌, ◌≤◌, ⊤, Bool, true, false, List, [], length, map, get_or, Some}
use Rattle.std.specs.Ordering.{is_gt}
use Rattle.blz_bytes.specs.declared.orders.NameSpan.{NameSpan}
use Rattle.blz_bytes.specs.NameOrder.{text_in, name_cmp, TextBefore}
use Rattle.blz_bytes.specs.Rising.{StandsAt}
use Rattle.blz_model.specs.declared.cache.Cache.{Cache}
use Rattle.blz_model.specs.Kept.{Kept}
use Rattle.blz_symbols.specs.declared.names.SymbolName.{SymbolName}
use Rattle.blz_symbols.specs.declared.name_order.KeptNames.{KeptNames}
use Rattle.blz_symbols.specs.declared.name_order.NameOrder.{NameOrder}
use Rattle.blz_symbols.specs.declared.name_order.NameOrder.TheVariants.{Unasked, Refused, Accepted}
use Rattle.blz_image.specs.declared.symbols.TableKind.{TableKind}
use Rattle.blz_symbols.specs.Accepted.{no_symbol}
use Rattle.blz_image.specs.Images.{Elf}
use Rattle.blz_symbols.specs.NameRule.{Named, symbol_names}
use Rattle.blz_image.specs.Places.{SpanFits, span_in}

abbrev pub name_view : List ℕ → SymbolName → Named
name_view strings n = record { symbol = n.symbol; name = text_in strings (Some n.name) }

abbrev pub span_of : SymbolName → NameSpan
span_of n = n.name

abbrev pub named_in : List ℕ → List SymbolName → List Named
named_in strings listed = map (name_view strings) listed

abbrev pub names_view : List ℕ → KeptNames → List Named
names_view image n = named_in (span_in image n.strings) n.listed.items

-- ---- an accepted order: by the bytes of the name, then by the place in the table

abbrev pub no_name : Named
no_name = record { symbol = no_symbol; name = [] }

-- the name at the k-th place
abbrev pub named_at : List Named → List ℕ → ℕ → Named
named_at names places k = get_or names (get_or places k 0) no_name

-- the name at an index, empty outside
abbrev pub listed_name : List Named → ℕ → List ℕ
listed_name names i = (get_or names i no_name).name

-- each place in the list, each name at one, and rising
pub record AreSorted (names : List Named) (places : List ℕ) : Type 0 where
  pub inside : (k : ℕ) → k < length places → get_or places k 0 < length names
  pub every : (i : ℕ) → i < length names → StandsAt places i
  pub rising : (j k : ℕ) → j < k → k < length places → TextBefore (named_at names places j).name (get_or places j 0) (named_at names places k).name (get_or places k 0)

-- the first n places have names below a name, and the others none below it
pub record SplitsNames (names : List Named) (places : List ℕ) (n : ℕ) (name : List ℕ) : Type 0 where
  pub within : n ≤ length places
  pub low : (k : ℕ) → k < n → is_gt (name_cmp name (named_at names places k).name) ≡ true
  pub high : (k : ℕ) → n ≤ k → k < length places → is_gt (name_cmp name (named_at names places k).name) ≡ false

-- ---- what a cache of names holds

-- an order was asked for: the one that was handed in is kept, or was refused
abbrev pub is_asked : NameOrder → Bool
is_asked Unasked = false
is_asked Refused = true
is_asked (Accepted places) = true

-- where an order is kept, it is an accepted one
abbrev pub OrderFits : List Named → NameOrder → Type 0
OrderFits names Unasked = ⊤
OrderFits names Refused = ⊤
OrderFits names (Accepted places) = AreSorted names places.items

pub record NamesFit (image : List ℕ) (n : KeptNames) : Type 0 where
  pub strings : SpanFits image n.strings
  pub order : OrderFits (names_view image n) n.order

-- the cache is empty, or holds the names of one of the tables or their mark
abbrev pub NamesKept : TableKind → Elf → Cache KeptNames → Type 0
NamesKept kind elf names = Kept (NamesFit elf.image) (names_view elf.image) names (symbol_names kind elf)
