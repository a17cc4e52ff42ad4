-- The symbol of an address.
use Rattle.std.specs.Prelude.{ℕ, ◌+◌, Bool, true, ◌&&◌, not, List, [], length, map, filter, max, nat_le, nat_lt, ◌==◌, Option, Some, None, if◌then◌else◌}
use Rattle.std.specs.List.{fold}
use Rattle.blz_constants.specs.declared.elf.TheConstants.{SHN_UNDEF}
use Rattle.blz_model.specs.Part.{Part, Good, ◌>>=◌, all_good}
use Rattle.blz_model.specs.declared.reason.Reason.{Reason}
use Rattle.blz_model.specs.declared.reason.Reason.TheVariants as reason
use Rattle.blz_model.specs.declared.src_lang.SrcLang.TheVariants as lang
use Rattle.blz_model.specs.Answers.{Answer, Known, Unknown}
use Rattle.blz_model.specs.Texts.{name_at}
use Rattle.blz_image.specs.declared.symbols.TableKind.{TableKind}
use Rattle.blz_image.specs.declared.symbols.TableKind.TheVariants.{Symtab, Dynsym}
use Rattle.blz_symbols.specs.declared.question.Question.{Question}
use Rattle.blz_records.specs.declared.sym_type.SymType.TheVariants.{Undefined}
use Rattle.blz_records.specs.SymbolTypes.{matches}
use Rattle.blz_image.specs.Images.{Elf, elf_of}
use Rattle.blz_image.specs.SymbolTables.{SymbolTable, is_typed, table_of}
use Rattle.blz_image.specs.declared.symbols.Symbol.{Symbol}

-- of an answered type, and with a value up to the address
abbrev pub is_candidate : ℕ → Symbol → Bool
is_candidate addr s = is_typed s && nat_le s.value addr

-- the greatest value, or 0 where there is none
abbrev pub greatest : List Symbol → ℕ
greatest symbols = fold (λ g s. max g s.value) 0 symbols

-- whether a symbol of size 0 covers an address: in `.symtab` each from its value on, in `.dynsym` its value alone
abbrev pub sizeless_covers : TableKind → ℕ → ℕ → Bool
sizeless_covers Symtab addr value = true
sizeless_covers Dynsym addr value = value == addr

-- whether a symbol with a value up to an address covers it: by st_size, or by the rule for size 0
abbrev pub covers : TableKind → ℕ → Symbol → Bool
covers kind addr s = if s.size == 0 then sizeless_covers kind addr s.value else nat_lt addr (s.value + s.size)

-- it is defined (not SHN_UNDEF), covers the address, and is of the type that is asked for
abbrev pub may_answer : Question → Symbol → Bool
may_answer q s = not (s.section == SHN_UNDEF) && covers q.table q.addr s && matches s.kind q.sym_type

-- the larger, or the earlier where they are alike
abbrev pub larger : Option Symbol → Symbol → Option Symbol
larger None s = Some s
larger (Some t) s = if nat_lt t.size s.size then Some s else Some t

-- the first of the greatest size
abbrev pub largest : List Symbol → Option Symbol
largest symbols = fold larger None symbols

-- a symbol that answers, where g is the greatest value of the candidates
abbrev pub answers : Question → ℕ → Symbol → Bool
answers q g s = is_candidate q.addr s && (s.value == g) && may_answer q s

-- Of the candidates with the greatest value, the first of the greatest size that may answer.
unfoldable pub covering : Question → List Symbol → Option Symbol
covering q symbols = largest (filter (answers q (greatest (filter (is_candidate q.addr) symbols))) symbols)

-- a symbol as an answer
unfoldable pub named : Option (List ℕ) → SymbolTable → Symbol → Part Answer
named module_name table s = do
  name ← name_at table.strings s.name_offset
  Good (Known (record {
    name = name;
    module_name = module_name;
    addr = s.value;
    size = if s.size == 0 then None else Some s.size;
    lang = lang.Unknown;
    site = None;
    inlined = [];
  }))

-- the answer of a table to a question, where it has one
unfoldable pub answer_in : Option (List ℕ) → SymbolTable → Question → Part (Option Answer)
answer_in module_name table q = of (covering q table.symbols)
  where
    of : Option Symbol → Part (Option Answer)
    of None = Good None
    of (Some s) = do
      answer ← named module_name table s
      Good (Some answer)

-- what is asked of a table for an address alone
abbrev pub at_address : TableKind → ℕ → Question
at_address kind addr = record { table = kind; addr = addr; sym_type = Undefined }

-- the answer of one of the tables of an image
unfoldable pub table_answer : Option (List ℕ) → Elf → TableKind → ℕ → Part (Option Answer)
table_answer module_name elf kind addr = do
  table ← table_of kind elf
  answer_in module_name table (at_address kind addr)

-- why there is no symbol: `.symtab` has none at all, or none that covers the address
abbrev pub reason_of : SymbolTable → Reason
reason_of table = if length table.symbols == 0 then reason.MissingSyms else reason.UnknownAddr

-- why an image has no symbol for an address, by its `.symtab` alone
unfoldable pub reason_for : Elf → Part Reason
reason_for elf = do
  symtab ← table_of Symtab elf
  Good (reason_of symtab)

-- The answer of `.dynsym`, which is read only where `.symtab` has none, else the reason.
unfoldable pub dynamic_answer : Option (List ℕ) → Elf → ℕ → Part Answer
dynamic_answer module_name elf addr = do
  answer ← table_answer module_name elf Dynsym addr
  or_reason answer
  where
    or_reason : Option Answer → Part Answer
    or_reason (Some answer) = Good answer
    or_reason None = do
      reason ← reason_for elf
      Good (Unknown reason)

-- the symbol of an address
unfoldable pub symbol_for : Option (List ℕ) → Elf → ℕ → Part Answer
symbol_for module_name elf addr = do
  answer ← table_answer module_name elf Symtab addr
  or_dynamic answer
  where
    or_dynamic : Option Answer → Part Answer
    or_dynamic (Some answer) = Good answer
    or_dynamic None = dynamic_answer module_name elf addr

-- the symbol of an address in an image, with the name of its module, or why there is none
unfoldable pub image_symbol : List ℕ → Option (List ℕ) → ℕ → Part Answer
image_symbol image module_name addr = do
  elf ← elf_of image
  symbol_for module_name elf addr

-- the answers of some addresses
unfoldable pub image_scan : List ℕ → Option (List ℕ) → List ℕ → Part (List Answer)
image_scan image module_name addrs = do
  elf ← elf_of image
  all_good (map (symbol_for module_name elf) addrs)
