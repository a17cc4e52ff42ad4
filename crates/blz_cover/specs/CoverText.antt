-- The printed counts.
use Rattle.std.specs.Prelude.{List, [], ◌∷◌, ◌++◌, codes, decimal, Option, Some, None}
use Rattle.blz_error.specs.Texts.{Bytes}
use Rattle.blz_bytes.specs.Joined.{joined}
use Rattle.blz_program.specs.PrintedText.{line_feed}
use Rattle.blz_resolver.specs.Images.{ImageSet}
use Rattle.blz_cover.specs.Changes.{total_of}
use Rattle.blz_cover.specs.Coverage.{CountedLine}
use Rattle.blz_cover.specs.Covers.{covered, rest_of}
use Rattle.blz_cover.specs.declared.change.Change.{Change}

-- the path, a colon, the line, a blank, the count
abbrev pub line_text : CountedLine → Bytes
line_text l = joined l.dir l.file ++ codes ":" ++ decimal l.line ++ codes " " ++ decimal l.count ++ line_feed

abbrev pub line_text_if : Option CountedLine → Bytes
line_text_if None = []
line_text_if (Some l) = line_text l

abbrev pub lines_text : List CountedLine → Bytes
lines_text [] = []
lines_text (l ∷ ls) = line_text l ++ lines_text ls

-- a line for each place, then the rest, then the total
unfoldable pub cover_text : ImageSet → List Change → Bytes
cover_text images changes = lines_text (covered images changes) ++ codes "rest " ++ decimal (rest_of images changes) ++ line_feed ++ codes "total " ++ decimal (total_of changes) ++ line_feed
