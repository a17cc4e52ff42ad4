-- What is answered for an address.
use Rattle.std.specs.Prelude.{ℕ, List, Option}
use Rattle.blz_model.specs.declared.reason.Reason.{Reason}
use Rattle.blz_model.specs.declared.src_lang.SrcLang.{SrcLang}

-- a place in a source
pub record Site : Type 0 where
  pub dir : Option (List ℕ)
  pub file : List ℕ
  pub line : Option ℕ
  pub column : Option ℕ

-- an inlined call
pub record Inlined : Type 0 where
  pub name : List ℕ
  pub site : Option Site

-- a function or a symbol: name, module, first address, size in bytes, language, place and inlined calls
pub record Resolved : Type 0 where
  pub name : List ℕ
  pub module_name : Option (List ℕ)
  pub addr : ℕ
  pub size : Option ℕ
  pub lang : SrcLang
  pub site : Option Site
  pub inlined : List Inlined

-- what is answered for an address: the symbol that covers it, or why there is none
pub data Answer : Type 0 where
  Known : Resolved → Answer
  Unknown : Reason → Answer
