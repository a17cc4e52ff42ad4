-- Where a function and the calls that were inlined in it stand in the sources. A call is told with the place from which
-- it was made; each place is shown with the function in which it lies.
use Rattle.std.specs.Prelude.{ℕ, min, List, [], ◌∷◌, Option, Some, None, option_map}
use Rattle.blz_model.specs.Answers.{Site, Inlined}

-- a column that is shown has 16 bits; a greater one is shown as the greatest of these
abbrev pub short_column : ℕ → ℕ
short_column n = min n 65535

-- a place with the column as it is shown
abbrev pub shown_site : Site → Site
shown_site s = record s { column = option_map short_column s.column }

-- the place from which the outermost of some calls was made, and a last one where there are none
abbrev pub site_of_next : List Inlined → Option Site → Option Site
site_of_next [] last = last
site_of_next (call ∷ rest) last = call.site

-- each call with the place from which the next one was made, and the innermost with a last place
unfoldable pub moved : List Inlined → Option Site → List Inlined
moved [] last = []
moved (call ∷ rest) last = record { name = call.name; site = option_map shown_site (site_of_next rest last) } ∷ moved rest last

-- the places of a function and of its inlined calls
pub record Places : Type 0 where
  pub site : Option Site
  pub inlined : List Inlined

-- where no place is asked for, or none is known
abbrev pub no_places : Places
no_places = record { site = None; inlined = [] }

-- the place of the address alone, without inlined calls
abbrev pub one_place : Site → Places
one_place direct = record { site = Some (shown_site direct); inlined = [] }

-- the same, where that place is known
abbrev pub one_place_if : Option Site → Places
one_place_if None = no_places
one_place_if (Some direct) = one_place direct

-- where the function is left for its outermost call is not known: it keeps the place of the address, and its innermost
-- call has none
abbrev pub frames_from : Site → List Inlined → Option Site → Places
frames_from direct calls None = record { site = Some (shown_site direct); inlined = moved calls None }
frames_from direct calls (Some outermost) = record { site = Some (shown_site outermost); inlined = moved calls (Some direct) }

-- The place of the address, and the calls that cover it: the function stands where its outermost call was made, and the
-- innermost call at the address.
abbrev pub frames : Site → List Inlined → Places
frames direct calls = frames_from direct calls (site_of_next calls None)
