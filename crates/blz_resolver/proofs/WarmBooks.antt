-- Debug information that is read again for relocations and units that were kept.
use Rattle.std.proofs.Common.{◌≡◌, ℕ, Bool, List, Option, Some, None, option_map, is_some, refl, sym, ap, ◌∙◌, subst}
use Rattle.std.specs.FinMap as finite
use Rattle.blz_elf.specs.Sources.{Source}
use Rattle.blz_elf.specs.Warm as elf
use Rattle.blz_model.specs.Part.{Good, ◌>>=◌}
use Rattle.blz_model.proofs.PartLemmas.{bind_good}
use Rattle.blz_image.specs.Images.{elf_of}
use Rattle.blz_relocations.specs.Relocations.{SectionMap, maps_of}
use Rattle.blz_image.specs.RelocationTables.{image_relocations}
use Rattle.blz_info.specs.Marks.{or_invalid}
use Rattle.blz_split.specs.PackageParts.{PackageParts, package_of, package_view}
use Rattle.blz_units.specs.UnitTables.{sups_checked}
use Rattle.blz_index.specs.UnitsWarm.{units_prepared, UnitsFit}
use Rattle.blz_index.specs.declared.units.Units.{Units}
use Rattle.blz_resolver.specs.Books.{DebugImages, as_sup, debug_images, files_in, if_there, sup_image}
use Rattle.blz_resolver.specs.DebugSections.{DebugImage, DebugParts, debug_image, debug_parts, section_numbers}
use Rattle.blz_resolver.specs.DebugViews.{debug_view, parts_view}
use Rattle.blz_resolver.specs.FileViews.{images_view}
use Rattle.blz_bundle.specs.Images.{NamedImage, ImageSet, debug_file}
use Rattle.blz_resolver.specs.Resolver.{Fits, HasBook, ArePrepared, units_in}
use Rattle.blz_resolver.specs.Sources.{asked_file}
use Rattle.blz_resolver.specs.WarmFits.{IsThere, IsSupWith, SupFits, WarmBook, WarmBookIf, WarmFits, ArePreparedIn, relocations_in, warm_units_in}
use Rattle.blz_resolver.specs.declared.debug.debug_info.DebugInfo.{DebugInfo}
use Rattle.blz_resolver.specs.declared.debug.debug_image.DebugImage as image
use Rattle.blz_resolver.specs.declared.warm.Warm.{Warm}
use Rattle.blz_resolver.specs.declared.warm.WarmDebug.{WarmDebug}
use Rattle.blz_resolver.proofs.SameTexts.{good_is}

pub parts_there : (bytes : List ℕ) (d : DebugImage) → debug_image bytes ≡ Good d → debug_parts bytes ≡ Good d.parts
unfolding debug_image
parts_there bytes d is =
    let a = bind_good (elf_of bytes) (λ elf. image_relocations bytes >>= λ relocations. debug_parts bytes >>= λ parts. Good (record { parts = parts; relocations = maps_of (section_numbers parts) relocations })) d is in
    let b = bind_good (image_relocations bytes) (λ relocations. debug_parts bytes >>= λ parts. Good (record { parts = parts; relocations = maps_of (section_numbers parts) relocations })) d a.2 in
    let c = bind_good (debug_parts bytes) (λ parts. Good (record { parts = parts; relocations = maps_of (section_numbers parts) b.0 })) d b.2 in
    let e : record { parts = c.0; relocations = maps_of (section_numbers c.0) b.0 } ≡ d = good_is _ _ (Good d) (sym c.2) refl in
    c.1 ∙ ap (λ (x : DebugImage). Good x.parts) e

sup_debug : (bytes : List ℕ) (d : DebugImage) → sup_image bytes ≡ Good d → debug_image bytes ≡ Good d
unfolding sup_image
sup_debug bytes d is =
    let a = bind_good (debug_image bytes) (λ debug. or_invalid (sups_checked (Some (as_sup debug))) >>= λ checked. Good debug) d is in
    let b = bind_good (or_invalid (sups_checked (Some (as_sup a.0)))) (λ checked. Good a.0) d a.2 in
    a.1 ∙ b.2

same_image : (d : DebugImage) (parts : DebugParts) (relocations : SectionMap) → d.parts ≡ parts → d.relocations ≡ relocations → d ≡ record { parts = parts; relocations = relocations }
same_image d parts relocations p m = ap (λ (q : DebugParts). record { parts = q; relocations = d.relocations }) p ∙ ap (λ (q : SectionMap). record { parts = parts; relocations = q }) m

-- ---- the supplementary file

pub sup_there : (bytes : List ℕ) (relocations : SectionMap) → IsSupWith bytes relocations → IsThere (debug_parts bytes)
sup_there bytes relocations fits = record { value = fits.debug.parts; is = parts_there bytes fits.debug (sup_debug bytes fits.debug fits.is) }

pub sup_is : (bytes : List ℕ) (relocations : SectionMap) (parts : DebugParts) → IsSupWith bytes relocations → debug_parts bytes ≡ Good parts → sup_image bytes ≡ Good (record { parts = parts; relocations = relocations })
sup_is bytes relocations parts fits is =
    let same : fits.debug.parts ≡ parts = good_is _ _ (debug_parts bytes) (parts_there bytes fits.debug (sup_debug bytes fits.debug fits.is)) is in
    fits.is ∙ ap (λ (d : DebugImage). Good d) (same_image fits.debug parts relocations same fits.relocations_are)

some_is : {A : Type 0} (x y : A) → Some x ≡ Some y → x ≡ y
some_is x y e = cc

pub sup_with : (file : NamedImage) (relocations : SectionMap) → SupFits (Some file) (Some relocations) → IsSupWith file.image relocations
sup_with file relocations fits =
    let a = bind_good (sup_image file.image) (λ x. Good (Some x)) fits.debug fits.is in
    let e : Some a.0 ≡ fits.debug = good_is _ _ (Good fits.debug) (sym a.2) refl in
    record { debug = a.0; is = a.1; relocations_are = some_is _ _ (ap relocations_in e ∙ fits.relocations_are) }

none_there : (debug : Option DebugImage) → relocations_in debug ≡ None → debug ≡ None
none_there None e = refl
none_there (Some d) e = absurd cc

pub without_moves : (file : Option NamedImage) → SupFits file None → if_there sup_image file ≡ Good None
without_moves file fits = fits.is ∙ ap (λ (d : Option DebugImage). Good d) (none_there fits.debug fits.relocations_are)

-- ---- all

pub main_there : (images : ImageSet) (debug : DebugImages) → debug_images images ≡ Good debug → debug_image (debug_file images).image ≡ Good debug.main
unfolding debug_images
main_there images debug is =
    let a = bind_good (debug_image (debug_file images).image) (λ main. if_there sup_image images.supplementary >>= λ sup. if_there package_of images.package_file >>= λ parts. Good (record { main = main; sup = sup; package_parts = parts })) debug is in
    let b = bind_good (if_there sup_image images.supplementary) (λ sup. if_there package_of images.package_file >>= λ parts. Good (record { main = a.0; sup = sup; package_parts = parts })) debug a.2 in
    let c = bind_good (if_there package_of images.package_file) (λ parts. Good (record { main = a.0; sup = b.0; package_parts = parts })) debug b.2 in
    let e : record { main = a.0; sup = b.0; package_parts = c.0 } ≡ debug = good_is _ _ (Good debug) (sym c.2) refl in
    a.1 ∙ ap (λ (d : DebugImages). Good d.main) e

pub others_there : (images : ImageSet) (debug : DebugImages) → debug_images images ≡ Good debug → (if_there sup_image images.supplementary ≡ Good debug.sup) × (if_there package_of images.package_file ≡ Good debug.package_parts)
unfolding debug_images
others_there images debug is =
    let a = bind_good (debug_image (debug_file images).image) (λ main. if_there sup_image images.supplementary >>= λ sup. if_there package_of images.package_file >>= λ parts. Good (record { main = main; sup = sup; package_parts = parts })) debug is in
    let b = bind_good (if_there sup_image images.supplementary) (λ sup. if_there package_of images.package_file >>= λ parts. Good (record { main = a.0; sup = sup; package_parts = parts })) debug a.2 in
    let c = bind_good (if_there package_of images.package_file) (λ parts. Good (record { main = a.0; sup = b.0; package_parts = parts })) debug b.2 in
    let e : record { main = a.0; sup = b.0; package_parts = c.0 } ≡ debug = good_is _ _ (Good debug) (sym c.2) refl in
    (b.1 ∙ ap (λ (d : DebugImages). Good d.sup) e, c.1 ∙ ap (λ (d : DebugImages). Good d.package_parts) e)

-- the bundle's debug information again, from its parts
pub images_again : (images : ImageSet) (w : WarmDebug) (parts : DebugParts) (sup : Option DebugImage) (package_parts : Option PackageParts) → (it : WarmBook images w) → debug_parts (debug_file images).image ≡ Good parts
    → if_there sup_image images.supplementary ≡ Good sup → if_there package_of images.package_file ≡ Good package_parts → it.debug ≡ record { main = record { parts = parts; relocations = w.main }; sup = sup; package_parts = package_parts }
images_again images w parts sup package_parts it main_is sup_is package_is =
    let others = others_there images it.debug it.is in
    let m : it.debug.main ≡ record { parts = parts; relocations = w.main } = same_image it.debug.main parts w.main (good_is _ _ (debug_parts (debug_file images).image) (parts_there (debug_file images).image it.debug.main (main_there images it.debug it.is)) main_is) it.relocations in
    let s : it.debug.sup ≡ sup = good_is _ _ (if_there sup_image images.supplementary) others.0 sup_is in
    let p : it.debug.package_parts ≡ package_parts = good_is _ _ (if_there package_of images.package_file) others.1 package_is in
    ap (λ (x : DebugImage). record { main = x; sup = it.debug.sup; package_parts = it.debug.package_parts }) m
    ∙ ap (λ (x : Option DebugImage). record { main = record { parts = parts; relocations = w.main }; sup = x; package_parts = it.debug.package_parts }) s
    ∙ ap (λ (x : Option PackageParts). record { main = record { parts = parts; relocations = w.main }; sup = sup; package_parts = x }) p

-- the relocations that are kept of a supplementary file
pub moves_kept : (sup : Option image.DebugImage) → relocations_in (option_map debug_view sup) ≡ option_map (λ (d : image.DebugImage). d.relocations) sup
moves_kept None = refl
moves_kept (Some d) = refl

-- debug information that was read again has the bundle's book
pub book_again : (images : ImageSet) (w : WarmDebug) (d : DebugInfo) → (it : WarmBook images w) → d.files.none ≡ finite.empty → debug_parts (debug_file images).image ≡ Good (parts_view d.files.main.«data») → d.files.main.relocations ≡ w.main → d.units ≡ w.units
    → if_there sup_image images.supplementary ≡ Good (option_map debug_view d.files.sup) → if_there package_of images.package_file ≡ Good (option_map package_view d.files.«package») → HasBook images d
book_again images w d it none main relocations units sup package_parts =
    let same : it.debug ≡ images_view d.files =
    images_again images w (parts_view d.files.main.«data») (option_map debug_view d.files.sup) (option_map package_view d.files.«package») it main sup package_parts
    ∙ ap (λ (m : SectionMap). record { main = record { parts = parts_view d.files.main.«data»; relocations = m }; sup = option_map debug_view d.files.sup; package_parts = option_map package_view d.files.«package» }) (sym relocations) in
    let P : DebugImages → Type 0 = λ x. UnitsFit (files_in x) w.units in
    let Q : Units → Type 0 = λ u. UnitsFit (files_in (images_view d.files)) u in
    record { none = none; files = it.is ∙ ap (λ (x : DebugImages). Good x) same; units = subst Q (sym units) (subst P same it.units) }

-- a resolver's debug information, without its images
pub warm_book : (images : ImageSet) (d : DebugInfo) (w : WarmDebug) → HasBook images d → w.main ≡ d.files.main.relocations → w.sup ≡ option_map (λ (i : image.DebugImage). i.relocations) d.files.sup → w.units ≡ d.units → WarmBook images w
warm_book images d w has main sup units =
    let Q : Units → Type 0 = λ u. UnitsFit (files_in (images_view d.files)) u in
    record { debug = images_view d.files; is = has.files; relocations = sym main; sup_relocations = moves_kept d.files.sup ∙ sym sup; units = subst Q (sym units) has.units }

-- ---- a resolver

same_there : (w : Option WarmDebug) (d : Option DebugInfo) → warm_units_in w ≡ units_in d → is_some w ≡ is_some d
same_there None None e = refl
same_there None (Some d) e = absurd cc
same_there (Some w) None e = absurd cc
same_there (Some w) (Some d) e = refl

prepared_in : (w : Option WarmDebug) (d : Option DebugInfo) → warm_units_in w ≡ units_in d → ArePrepared d → ArePreparedIn w
prepared_in None d e are = tt
prepared_in (Some w) None e are = absurd cc
prepared_in (Some w) (Some d) e are = ap units_prepared (some_is w.units d.units e) ∙ are

pub warm_fits : (images : ImageSet) (parser : Source) (d : Option DebugInfo) (w : Warm) → Fits images parser d w.prepared → elf.Fits parser.image w.elf → elf.warm_prepared w.elf ≡ parser.prepared → WarmBookIf images w.debug → warm_units_in w.debug ≡ units_in d → WarmFits images w
warm_fits images parser d w fits symbols prepared book units =
    let P : List ℕ → Type 0 = λ bytes. elf.Fits bytes w.elf in
    record {
      symbols = subst P (fits.file.image ∙ ap (λ (b : Bool). (asked_file images b).image) (sym (same_there w.debug d units))) symbols;
      debug = book;
      full = λ e. record { symbols = prepared ∙ (fits.full e).symbols; units = prepared_in w.debug d units (fits.full e).units };
    }
