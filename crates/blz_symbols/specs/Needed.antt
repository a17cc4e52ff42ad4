-- The places of an order of symbols that a search needs.
use Rattle.std.specs.Prelude.{◌≡◌, ℕ, ◌<◌, ◌⊎◌, Bool, true, ◌&&◌, ◌||◌, not, ◌==◌, List, length, get_or}
use Rattle.blz_constants.specs.declared.elf.TheConstants.{SHN_UNDEF}
use Rattle.blz_symbols.specs.declared.question.Question.{Question}
use Rattle.blz_image.specs.declared.symbols.Symbol.{Symbol}
use Rattle.blz_symbols.specs.SymbolRule.{may_answer}
use Rattle.blz_symbols.specs.Accepted.{Before, no_symbol, at_place}

-- whether the second, where it comes behind the first in an order, answers nothing that the first does not: it has its
-- value and is undefined, or is of its kind, and not of size 0 unless the first is
abbrev pub stands_for : Symbol → Symbol → Bool
stands_for s t = (s.value == t.value) && ((t.section == SHN_UNDEF) || (not (s.section == SHN_UNDEF) && (s.kind == t.kind) && (not (t.size == 0) || (s.size == 0))))

-- one of the places has a symbol that stands for another
pub record HasStandIn (xs : List Symbol) (places : List ℕ) (s : Symbol) : Type 0 where
  pub at : ℕ
  pub inside : at < length places
  pub stands : stands_for (at_place xs places at) s ≡ true

-- A place has the i-th symbol, or an earlier one of its value that answers what it answers.
pub record Answers (xs : List Symbol) (places : List ℕ) (i : ℕ) : Type 0 where
  pub at : ℕ
  pub inside : at < length places
  pub value : (at_place xs places at).value ≡ (get_or xs i no_symbol).value
  pub may : (q : Question) → may_answer q (get_or xs i no_symbol) ≡ true → may_answer q (at_place xs places at) ≡ true
  pub order : (get_or places at 0 ≡ i) ⊎ Before (at_place xs places at) (get_or places at 0) (get_or xs i no_symbol) i

abbrev pub AreInside : List Symbol → List ℕ → Type 0
AreInside xs places = (k : ℕ) → k < length places → get_or places k 0 < length xs

-- places of the list, rising, and for each symbol one that answers what it answers
pub record IsSearchable (xs : List Symbol) (places : List ℕ) : Type 0 where
  pub inside : AreInside xs places
  pub every : (i : ℕ) → i < length xs → Answers xs places i
  pub rising : (j k : ℕ) → j < k → k < length places → Before (at_place xs places j) (get_or places j 0) (at_place xs places k) (get_or places k 0)
