-- What the code's header stands for.
use Rattle.blz_image.specs.Headers as headers
use Rattle.blz_image.specs.declared.header.Header.{Header}

abbrev pub header_view : Header → headers.Header
header_view h = record { format = h.format; file_type = h.file_type; phoff = h.phoff; shoff = h.shoff; phnum = h.phnum; shnum = h.shnum; shstrndx = h.shstrndx }
