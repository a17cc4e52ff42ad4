-- What is answered of the book that a reader and its units have: one name for each answer, whoever gives it.
use Rattle.std.specs.Prelude.{ℕ, Bool, List, Option}
use Rattle.blz_model.specs.Part.{Part}
use Rattle.blz_model.specs.Answers.{Site, Resolved, Answer}
use Rattle.blz_bundle.specs.BundleViews.{bundle_view}
use Rattle.blz_elf.specs.Infos.{Info}
use Rattle.blz_elf.specs.Listings.{Listing}
use Rattle.blz_elf.specs.declared.opts.FindSymOpts.{FindSymOpts}
use Rattle.blz_functions.specs.declared.functions.Function.{Function}
use Rattle.blz_index.specs.declared.units.Units.{Units}
use Rattle.blz_resolver.specs.AddressAnswers.{function_symbol, direct_site, places_of, function_answer, with_place, symbol_answer, answer_in, answers_in}
use Rattle.blz_resolver.specs.CallFrames.{Places}
use Rattle.blz_resolver.specs.FunctionNames.{function_info, numbered_info, addresses_in, unit_listing, functions_listing}
use Rattle.blz_resolver.specs.Reading.{as_read}
use Rattle.blz_resolver.specs.declared.answers.book_reader.BookReader.{BookReader}

-- ---- the answer of an address, and its parts

-- a function without its places
abbrev pub symbol_read : BookReader → Units → ℕ × ℕ → Part Resolved
symbol_read r u = as_read r u function_symbol

-- the place of the address, where it is asked
abbrev pub site_read : BookReader → Units → ℕ → FindSymOpts → Part (Option Site)
site_read r u = as_read r u direct_site

-- the places of a function and of the calls inlined in it, where they are asked
abbrev pub places_read : BookReader → Units → ℕ → FindSymOpts → ℕ × ℕ → Option Site → Part Places
places_read r u = as_read r u places_of

-- the answer by the function that covers the address
abbrev pub covered_read : BookReader → Units → ℕ → FindSymOpts → ℕ × ℕ → Part Answer
covered_read r u = as_read r u function_answer

-- the answer of the symbols, with the place of the address
abbrev pub placed_read : BookReader → Units → ℕ → FindSymOpts → Answer → Part Answer
placed_read r u = as_read r u with_place

-- the answer where no function covers the address
abbrev pub uncovered_read : BookReader → Units → ℕ → FindSymOpts → Part Answer
uncovered_read r u = as_read r u symbol_answer

-- the answer of an address
abbrev pub answer_read : BookReader → Units → ℕ → FindSymOpts → Part Answer
answer_read r u = as_read r u answer_in

-- the same by some options
abbrev pub answers_read : BookReader → Units → FindSymOpts → ℕ → Part Answer
answers_read r u = as_read r u answers_in

-- ---- the functions of a name, and their listing

-- a function as it is listed
abbrev pub listed_read : BookReader → Bool → Function → Part Info
listed_read r = function_info r.dwarf.texts (bundle_view r.bundle)

-- the same by its number
abbrev pub info_read : BookReader → Units → Bool → ℕ × ℕ → Part Info
info_read r u = as_read r u numbered_info

-- the functions of a name
abbrev pub infos_read : BookReader → Units → List ℕ → Bool → Part (List Info)
infos_read r u = as_read r u addresses_in

-- the listing of the functions of a unit
abbrev pub unit_read : BookReader → Units → Bool → ℕ → Listing
unit_read r u = as_read r u unit_listing

-- the listing of the functions of all units
abbrev pub units_read : BookReader → Units → Bool → Listing
units_read r u = as_read r u functions_listing
