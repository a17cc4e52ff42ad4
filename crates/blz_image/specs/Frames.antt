-- What a frame stands for in its image.
use Rattle.std.specs.Prelude.{◌≡◌, ℕ, List}
use Rattle.blz_model.specs.Part.{Good}
use Rattle.blz_image.specs.Images as images
use Rattle.blz_image.specs.declared.image.Frame.{Frame}
use Rattle.blz_image.specs.Formats.{section_size}
use Rattle.blz_image.specs.Views.{header_view}
use Rattle.blz_image.specs.Names.{names_in}
use Rattle.blz_image.specs.Places.{SpanFits, span_in, RowsFit, sections_in}

abbrev pub frame_view : List ℕ → Frame → images.Elf
frame_view image f = record {
  image = image;
  header = header_view f.header;
  sections = sections_in image f.sections;
  names = names_in (span_in image f.texts) (sections_in image f.sections);
}

-- its places lie in the image, and its names can be read
pub record FrameFits (image : List ℕ) (f : Frame) : Type 0 where
  pub rows : RowsFit section_size image f.sections
  pub texts : SpanFits image f.texts
  pub names : images.names_of (span_in image f.texts) (sections_in image f.sections) ≡ Good (names_in (span_in image f.texts) (sections_in image f.sections))
