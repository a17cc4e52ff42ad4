-- What lines of the code stand for.
use Rattle.blz_cover.specs.Coverage.{CountedLine}
use Rattle.blz_cover.specs.SourceLines.{SourceLine}
use Rattle.blz_cover.specs.declared.cover_line.CoverLine.{CoverLine}
use Rattle.blz_cover.specs.declared.source_line.SourceLine as code

abbrev pub source_view : code.SourceLine → SourceLine
source_view l = record { dir = l.dir; file = l.file.now; line = l.line }

abbrev pub line_view : CoverLine → CountedLine
line_view l = record { dir = l.dir; file = l.file.now; line = l.line; count = l.count }
