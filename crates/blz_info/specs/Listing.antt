-- What a walk over the entries of a unit still gives.
use Rattle.std.specs.Prelude.{ℕ, pos, List, map, Option, option_map}
use Rattle.blz_model.specs.Reads.{◌>>=◌}
use Rattle.blz_info.specs.Attributes.{passed}
use Rattle.blz_info.specs.Forest.{Info, forest, preorder, flat}
use Rattle.blz_info.specs.Walks.{Source, Walk, head_at}
use Rattle.blz_info.specs.declared.entries.Entry.{Entry}
use Rattle.blz_info.specs.declared.listing.Listed.{Listed}
use Rattle.blz_info.specs.declared.forms.value.AttrValue.{AttrValue}

-- an entry of the flat list as a call gives it, with the values of its attributes
abbrev pub entry_of : ℕ × Info → Entry × List (ℕ × AttrValue)
entry_of e = (record { place = e.1.place; depth = pos e.0; code = e.1.code; tag = e.1.tag; children = e.1.children }, e.1.attributes)

abbrev pub listed_view : Listed → Entry × List (ℕ × AttrValue)
listed_view l = (l.entry, l.attributes.items)

-- the entries from a place on, where so many are open
abbrev pub listed_from : Source → ℕ → ℕ → Option (List (Entry × List (ℕ × AttrValue)))
listed_from u depth at = option_map (map entry_of) (flat (head_at u) u.end depth at)

-- the entries that a walk has not given yet
unfoldable pub rest_of : Walk → Option (List (Entry × List (ℕ × AttrValue)))
rest_of w = do
  at ← passed w.pending w.source.encoding w.source.base w.source.section w.place
  listed_from w.source w.depth at

-- the entries of a unit as trees, and their list: the preorder of the trees
abbrev pub trees_of : Source → ℕ → Option (List (Entry × List (ℕ × AttrValue)))
trees_of u at = option_map (λ f. map entry_of (preorder 0 f)) (forest (head_at u) u.end at)
