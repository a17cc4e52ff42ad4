-- The links of an image.
use Rattle.std.specs.Prelude.{◌≡◌, ℕ, List, Option, Some, None, Result, ⊤}
use Rattle.std.specs.Option.{option_map}
use Rattle.blz_error.specs.Fault.{Fault}
use Rattle.blz_model.specs.declared.byte_order.ByteOrder.{ByteOrder}
use Rattle.blz_model.specs.Part.{Part, Good, Broken, ◌>>=◌}
use Rattle.blz_image.specs.Images.{image_order, image_section, image_section_data}
use Rattle.blz_links.specs.LinkValues.{DebugLinkValue, DebugAltlinkValue, DebugSupValue}
use Rattle.blz_links.specs.declared.recorded.link_section.LinkSection.{LinkSection}
use Rattle.blz_links.specs.declared.recorded.link_section.LinkSection.TheVariants.{DebugLink, DebugAltlink, DebugSup}
use Rattle.blz_links.specs.LinkNames.{name_of}
use Rattle.blz_links.specs.LinkChecks.{Checked, debug_link_of, debug_altlink_of, debug_sup_of, seen_by, then_some}

-- what is found, where it can be looked for
abbrev pub found : {A : Type 0} → Part (Option A) → Option A
found (Good x) = x
found (Broken k) = None

-- what is read of the section at an index; nothing where none was found
abbrev pub if_found : {A : Type 0} → (ℕ → Part A) → Option ℕ → Part (Option A)
if_found read None = Good None
if_found read (Some index) = read index >>= λ x. Good (Some x)

-- the bytes of the section at an index, and the order of their numbers
unfoldable pub ordered_data : List ℕ → ℕ → Part (ByteOrder × List ℕ)
ordered_data image index = do
  order ← image_order image
  bytes ← image_section_data image index
  Good (order, bytes)

-- The same of the first section of a name. There is none where the name is not found, or where header, sections or names
-- are broken; where it is found, its data has to be whole.
unfoldable pub linked_data : List ℕ → List ℕ → Part (Option (ByteOrder × List ℕ))
linked_data image name = if_found (ordered_data image) (found (image_section image name))

-- what they say, where they are there
abbrev pub said : {A : Type 0} → (ByteOrder → List ℕ → Part A) → Option (ByteOrder × List ℕ) → Part (Option A)
said says None = Good None
said says (Some section) = says section.0 section.1 >>= λ x. Good (Some x)

-- the link in the section of a name
abbrev pub link_in : {A : Type 0} → List ℕ → List ℕ → (ByteOrder → List ℕ → Part A) → Part (Option A)
link_in image name says = linked_data image name >>= said says

-- the link of an image to its debug file (GNU debug links)
abbrev pub debug_link_in : List ℕ → Part (Option DebugLinkValue)
debug_link_in image = link_in image (name_of DebugLink) debug_link_of

-- the link of an image to the file that it shares with others (GNU debug links)
abbrev pub debug_altlink_in : List ℕ → Part (Option DebugAltlinkValue)
debug_altlink_in image = link_in image (name_of DebugAltlink) (λ order. debug_altlink_of)

-- what an image says of its supplementary file (DWARF 5 section 7.3.6)
abbrev pub debug_sup_in : List ℕ → Part (Option DebugSupValue)
debug_sup_in image = link_in image (name_of DebugSup) debug_sup_of

-- ---- the text of a refusal

-- Where the bytes of the section are there, the answer is that of their checks: the error too, text and all.
abbrev pub GivesChecks : {X Y : Type 0} → (X → Y) → (ByteOrder → List ℕ → Checked Y) → Part (Option (ByteOrder × List ℕ)) → Result (Option X) Fault → Type 0
GivesChecks view checks (Good None) result = ⊤
GivesChecks view checks (Good (Some section)) result = seen_by (option_map view) result ≡ then_some (checks section.0 section.1)
GivesChecks view checks (Broken k) result = ⊤

-- the same of an image's section
abbrev pub AsChecked : {X Y : Type 0} → (X → Y) → (ByteOrder → List ℕ → Checked Y) → LinkSection → List ℕ → Result (Option X) Fault → Type 0
AsChecked view checks section image result = GivesChecks view checks (linked_data image (name_of section)) result
