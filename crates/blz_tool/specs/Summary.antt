-- What the demo prints.
use Rattle.std.specs.Prelude.{ℕ, ◌+◌, ◌*◌, List, ◌++◌, map, codes, decimal, None}
use Rattle.std.specs.List.{range_with_len}
use Rattle.blz_error.specs.Texts.{Bytes}
use Rattle.blz_model.specs.Answers.{Answer}
use Rattle.blz_model.specs.Part.{Part, Good, ◌>>=◌}
use Rattle.blz_elf.specs.declared.opts.FindSymOpts.TheVariants.{CodeInfo}
use Rattle.blz_program.specs.PrintedText.{line_feed}
use Rattle.blz_resolver.specs.Images.{ImageSet, alone}
use Rattle.blz_resolver.specs.Scan.{scan_of}
use Rattle.blz_tool.specs.DemoImage.{demo, first_address}
use Rattle.blz_tool.specs.Tallies.{tally_of}
use Rattle.blz_tool.specs.declared.tally.Tally.{Tally}

-- the addresses that are asked for, one in each function and one after it
abbrev pub asked_at : ℕ → ℕ
asked_at j = first_address + 8 * j

-- all that are asked for n functions: two for each
abbrev pub asked_addresses : ℕ → List ℕ
asked_addresses n = map asked_at (range_with_len 0 (2 * n))

-- a name, a number and a line feed
abbrev pub count_line : Bytes → ℕ → Bytes
count_line name count = name ++ codes " " ++ decimal count ++ line_feed

-- how many functions, addresses, answers with a symbol, and the sum of their lines, each on a line
abbrev pub summary_text : ℕ → Tally → Bytes
summary_text n tally = count_line (codes "functions") n ++ count_line (codes "addresses") (2 * n)
    ++ count_line (codes "found") tally.found ++ count_line (codes "lines") tally.lines

-- an image without a name and without companions
abbrev pub demo_images : Bytes → ImageSet
demo_images image = alone (record { image = image; module_name = None })

-- what some answers count, or their mark
abbrev pub tally_part : Part (List Answer) → Part Tally
tally_part answers = answers >>= λ answers. Good (tally_of answers)

-- what the scan of an image counts, or its first mark
unfoldable pub tallied : Bytes → ℕ → Part Tally
tallied image n = tally_part (scan_of (demo_images image) (asked_addresses n) CodeInfo)

-- the four lines for n functions, or the first mark
unfoldable pub summary : ℕ → Part Bytes
summary n = do
  tally ← tallied (demo n) n
  Good (summary_text n tally)
