-- What a kept table of symbols stands for in its image.
use Rattle.std.specs.Prelude.{◌≡◌, ℕ, List, map, filter, IfSome}
use Rattle.blz_model.specs.declared.cache.Cache.{Cache}
use Rattle.blz_model.specs.Kept.{Kept}
use Rattle.blz_image.specs.declared.symbols.TableKind.{TableKind}
use Rattle.blz_image.specs.Images.{Elf}
use Rattle.blz_image.specs.SymbolTables as symbols
use Rattle.blz_image.specs.SymbolTables.{table_of, is_typed}
use Rattle.blz_image.specs.declared.symbols.Symbol.{Symbol}
use Rattle.blz_symbols.specs.declared.table.Table.{Table}
use Rattle.blz_symbols.specs.declared.sorted.Sorted.{Sorted}
use Rattle.blz_image.specs.Formats.{symbol_size}
use Rattle.blz_image.specs.Places.{SpanFits, span_in, RowsFit, symbols_in}
use Rattle.blz_symbols.specs.Needed.{IsSearchable}

abbrev pub table_view : List ℕ → Table → symbols.SymbolTable
table_view image t = record { symbols = symbols_in image t.symbols; strings = span_in image t.strings }

-- the symbols of the answered types, and what a search needs of an accepted order of them
pub record Sorts (symbols : List Symbol) (s : Sorted) : Type 0 where
  pub typed : s.typed.items ≡ filter is_typed symbols
  pub order : IfSome s.order (λ o. IsSearchable s.typed.items o.items)

pub record TableFits (image : List ℕ) (t : Table) : Type 0 where
  pub symbols : RowsFit symbol_size image t.symbols
  pub strings : SpanFits image t.strings
  pub sorted : IfSome t.sorted (Sorts (symbols_in image t.symbols))

-- the cache is empty, or holds one of the tables or its mark
abbrev pub TableKept : TableKind → Elf → Cache Table → Type 0
TableKept kind elf table = Kept (TableFits elf.image) (table_view elf.image) table (table_of kind elf)
