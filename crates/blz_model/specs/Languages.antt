-- Source languages by their DW_AT_language code (DWARF 5 section 7.12).
use Rattle.std.specs.Prelude.{ℕ, Bool, ◌||◌, ◌==◌, Option, Some, None, if◌then◌else◌}
use Rattle.blz_constants.specs.declared.dwarf.TheConstants as dwarf
use Rattle.blz_model.specs.declared.src_lang.SrcLang.{SrcLang}
use Rattle.blz_model.specs.declared.src_lang.SrcLang.TheVariants.{Unknown, Cpp, Rust}

-- C++ of any version
abbrev pub is_cpp : ℕ → Bool
is_cpp code =
    (code == dwarf.DW_LANG_C_plus_plus) || (code == dwarf.DW_LANG_C_plus_plus_03) || (code == dwarf.DW_LANG_C_plus_plus_11)
    || (code == dwarf.DW_LANG_C_plus_plus_14) || (code == dwarf.DW_LANG_C_plus_plus_17) || (code == dwarf.DW_LANG_C_plus_plus_20)

-- the language of a code: C++, Rust, and Unknown for any other code and for none
abbrev pub language_of : Option ℕ → SrcLang
language_of None = Unknown
language_of (Some code) = if code == dwarf.DW_LANG_Rust then Rust else (if is_cpp code then Cpp else Unknown)
