-- What calls and places in a source stand for.
use Rattle.std.specs.Option.{option_map}
use Rattle.blz_elf.specs.declared.answer.CodeInfo.{CodeInfo}
use Rattle.blz_elf.specs.declared.answer.InlinedFn.{InlinedFn}
use Rattle.blz_model.specs.Answers as model

-- a place that is returned, with the name of its file as bytes
abbrev pub site_view : CodeInfo → model.Site
site_view s = record { dir = s.dir; file = s.file.now; line = s.line; column = s.column }

abbrev pub inlined_view : InlinedFn → model.Inlined
inlined_view f = record { name = f.name.now; site = option_map site_view f.code_info }
