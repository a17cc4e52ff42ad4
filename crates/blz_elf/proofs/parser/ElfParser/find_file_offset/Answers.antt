use Rattle.std.proofs.Common.{◌≡◌, ap, ◌∙◌}
use Rattle.blz_image.specs.SegmentViews.{segments_in}
use Rattle.blz_image.specs.Segments.{file_place, first_given}
use Rattle.blz_elf.specs.Sources.{Source}
use Rattle.blz_image.specs.Views.{header_view}
use Rattle.blz_elf.proofs.RoundTrip.{placed, comes_back}
use Rattle.blz_elf.proofs.parser.ElfParser.find_file_offset.Goals as goal

pub returns-clause-round_trip : goal.returns-clause-round_trip
returns-clause-round_trip c =
    let image = c.args.self.now.image in
    let rows = segments_in c.self.inside.image.now c.in_ok-rows.rows in
    let here : c.self.inside.image.now ≡ image = ap (λ (s : Source). s.image) (c.self.view_is ∙ c.in_ok-header.ensures.same) in
    let place = c.file_place.ensures ∙ ap (first_given (file_place c.args.addr c.args.size)) c.open.ensures in
    comes_back image c.args.addr c.args.size c.file_place.result c.ranges.addr.fits
    (placed image (header_view c.in_ok-header.header) rows c.args.addr c.args.size c.file_place.result c.in_ok-header.ensures.value (rw (← here) c.in_ok-rows.ensures.value) place)
