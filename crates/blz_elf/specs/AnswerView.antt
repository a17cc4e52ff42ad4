-- What an answer stands for.
use Rattle.std.specs.Option.{option_map}
use Rattle.blz_elf.specs.declared.answer.ResolvedSym.{ResolvedSym}
use Rattle.blz_elf.specs.declared.answer.Answer.{Answer}
use Rattle.blz_elf.specs.declared.answer.Answer.TheVariants.{Sym, NoSym}
use Rattle.blz_elf.specs.CallViews.{site_view}
use Rattle.blz_model.specs.Answers as model

-- a symbol that is returned, with its texts as bytes
abbrev pub resolved_view : ResolvedSym → model.Resolved
resolved_view s = record {
  name = s.name.now;
  module_name = option_map (λ m. m.now) s.module;
  addr = s.addr;
  size = s.size;
  lang = s.lang;
  site = option_map site_view s.code_info;
  inlined = s.inlined;
}

-- an answer that is returned: its symbol with texts as bytes, or its reason
abbrev pub answer_view : Answer → model.Answer
answer_view (Sym s) = model.Known (resolved_view s)
answer_view (NoSym r) = model.Unknown r
