use Rattle.blz_elf.proofs.HeaderSteps.{section_headers_of-good}
use Rattle.blz_elf.proofs.parser.headers.section_headers_of.Goals as goal

pub returns : goal.returns
returns c =
    let found = c.in_ok-rows.ensures in
    rw c.open_sections.ensures (section_headers_of-good _ _ c.in_ok-rows.rows found.value found.place.0 found.place.1)
