use Rattle.blz_elf.proofs.HeaderSteps.{program_headers_of-good}
use Rattle.blz_elf.proofs.parser.headers.program_headers_of.Goals as goal

pub returns : goal.returns
returns c =
    let found = c.in_ok-rows.ensures in
    rw c.open_segments.ensures (program_headers_of-good _ _ c.in_ok-rows.rows found.value found.place.0 found.place.1)
