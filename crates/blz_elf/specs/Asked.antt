-- What the options of a question ask.
use Rattle.std.specs.Prelude.{Bool, true, false}
use Rattle.blz_elf.specs.declared.opts.FindSymOpts.{FindSymOpts}
use Rattle.blz_elf.specs.declared.opts.FindSymOpts.TheVariants as opts

-- whether the place in the sources is asked for
abbrev pub asks_code_info : FindSymOpts → Bool
asks_code_info opts.Basic = false
asks_code_info opts.CodeInfo = true
asks_code_info opts.CodeInfoAndInlined = true

-- whether the inlined calls are asked for
abbrev pub asks_inlined_fns : FindSymOpts → Bool
asks_inlined_fns opts.Basic = false
asks_inlined_fns opts.CodeInfo = false
asks_inlined_fns opts.CodeInfoAndInlined = true
