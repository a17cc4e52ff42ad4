-- Answers that name texts that lie elsewhere in memory.
use Rattle.std.proofs.Common.{◌≡◌, ℕ, List, [], Option, Some, None, refl, ap, ◌∙◌, if◌then◌else◌}
use Rattle.blz_model.specs.Answers.{Site, Inlined, Resolved, Answer, Known, Unknown}
use Rattle.blz_model.specs.Part.{Part, Good, ◌>>=◌}
use Rattle.blz_elf.specs.Asked.{asks_code_info, asks_inlined_fns}
use Rattle.blz_symbols.specs.SymbolRule.{image_symbol}
use Rattle.blz_elf.specs.declared.opts.FindSymOpts.{FindSymOpts}
use Rattle.blz_info.specs.Marks.{or_invalid}
use Rattle.blz_info.specs.declared.text.Texts.{Texts}
use Rattle.blz_units.specs.UnitAnswers.{unit_language, function_at}
use Rattle.blz_resolver.specs.AddressAnswers.{function_numbered, begin_of, size_of, function_symbol, direct_site, places_of, placed, function_answer, with_place, symbol_answer, answer_by, answer_in}
use Rattle.blz_resolver.specs.Books.{Book}
use Rattle.blz_resolver.specs.CallFrames.{Places, one_place, one_place_if, frames}
use Rattle.blz_bundle.specs.Images.{debug_file}
use Rattle.blz_resolver.proofs.SameTexts.{SameTexts, same_bind, same_name, same_location, same_inlined_at}

module _ (t u : Texts) (s : SameTexts t u) (b : Book) where
  same_symbol : (at : ℕ × ℕ) → function_symbol t b at ≡ function_symbol u b at
  unfolding function_symbol
  same_symbol at = same_bind (function_numbered b at) _ _ (λ function.
      ap (λ (p : Part (List ℕ)). p >>= λ name. or_invalid (unit_language b.files b.table at.0) >>= λ lang. Good (record {
        name = name;
        module_name = b.images.main.module_name;
        addr = begin_of function.bounds;
        size = size_of function.bounds;
        lang = lang;
        site = None;
        inlined = [];
      })) (same_name t u s function.name))

  same_direct : (a : ℕ) (opts : FindSymOpts) → direct_site t b a opts ≡ direct_site u b a opts
  unfolding direct_site
  same_direct a opts = ap (λ (p : Part (Option Site)). if asks_code_info opts then p else Good None) (same_location t u s b.files b.table a)

  same_places : (a : ℕ) (opts : FindSymOpts) (at : ℕ × ℕ) (direct : Option Site) → places_of t b a opts at direct ≡ places_of u b a opts at direct
  unfolding places_of
  same_places a opts at None = refl
  same_places a opts at (Some direct) =
      ap (λ (p : Part (List Inlined)). if asks_inlined_fns opts then (p >>= λ calls. Good (frames direct calls)) else Good (one_place direct)) (same_inlined_at t u s b.files b.table a at.0 at.1)

  same_function : (a : ℕ) (opts : FindSymOpts) (at : ℕ × ℕ) → function_answer t b a opts at ≡ function_answer u b a opts at
  unfolding function_answer
  same_function a opts at =
      ap (λ (p : Part Resolved). p >>= λ symbol. direct_site t b a opts >>= λ direct. places_of t b a opts at direct >>= λ places. Good (Known (placed symbol places))) (same_symbol at)
      ∙ ap (λ (p : Part (Option Site)). function_symbol u b at >>= λ symbol. p >>= λ direct. places_of t b a opts at direct >>= λ places. Good (Known (placed symbol places))) (same_direct a opts)
      ∙ same_bind (function_symbol u b at) _ _ (λ symbol. same_bind (direct_site u b a opts) _ _ (λ direct.
      ap (λ (p : Part Places). p >>= λ places. Good (Known (placed symbol places))) (same_places a opts at direct)))

  same_with_place : (a : ℕ) (opts : FindSymOpts) (answer : Answer) → with_place t b a opts answer ≡ with_place u b a opts answer
  unfolding with_place
  same_with_place a opts (Unknown reason) = refl
  same_with_place a opts (Known symbol) =
      ap (λ (p : Part (Option Site)). p >>= λ direct. Good (Known (placed symbol (one_place_if direct)))) (same_direct a opts)

  same_by : (a : ℕ) (opts : FindSymOpts) (at : Option (ℕ × ℕ)) → answer_by t b a opts at ≡ answer_by u b a opts at
  unfolding answer_by symbol_answer
  same_by a opts None = same_bind (image_symbol (debug_file b.images).image (debug_file b.images).module_name a) _ _ (same_with_place a opts)
  same_by a opts (Some at) = same_function a opts at

  pub same_answer : (a : ℕ) (opts : FindSymOpts) → answer_in t b a opts ≡ answer_in u b a opts
  unfolding answer_in
  same_answer a opts = same_bind (or_invalid (function_at b.files b.table a)) _ _ (same_by a opts)
