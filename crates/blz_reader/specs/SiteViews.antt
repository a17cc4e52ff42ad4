-- Inlined calls with their places in the sources: what they stand for, and what a reader has of them.
use Rattle.std.specs.Prelude.{ℕ, Option}
use Rattle.std.specs.Option.{option_map}
use Rattle.blz_model.specs.Answers.{Inlined, Site}
use Rattle.blz_model.specs.Part.{Part}
use Rattle.blz_functions.specs.declared.inlined_functions.InlinedFunction.{InlinedFunction}
use Rattle.blz_line.specs.Lookups.{location_view}
use Rattle.blz_line.specs.declared.lines.Location.{Location}
use Rattle.blz_reader.specs.Readers.{as_read, reader_texts}
use Rattle.blz_reader.specs.declared.reader.Reader.{Reader}
use Rattle.blz_reader.specs.declared.sites.InlinedSite.{InlinedSite}
use Rattle.blz_units.specs.UnitAnswers.{unit_lines}
use Rattle.blz_units.specs.UnitSites.{call_site, inlined_by}

abbrev pub site_view : Option Location → Option Site
site_view o = option_map location_view o

abbrev pub inlined_view : InlinedSite → Inlined
inlined_view s = record { name = s.name.now; site = option_map location_view s.site }

-- where a call of a function of a unit stands
abbrev pub site_read : Reader → ℕ → InlinedFunction → Option ℕ → Part (Option Site)
site_read r k call file = call_site (reader_texts r) (as_read r unit_lines k) call file

-- such a call with its name and its site
abbrev pub inlined_read : Reader → ℕ → InlinedFunction → Part Inlined
inlined_read r k call = inlined_by (reader_texts r) (as_read r unit_lines k) call
