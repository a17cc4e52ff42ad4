-- One turn of the loop that looks for a wanted attribute.
use Rattle.std.proofs.Common.{◌≡◌, ◌∙◌, ℕ, suc, ◌+◌, ◌-◌, ◌<◌, ◌≤◌, true, false, List, [], length, get_or, take, drop, Option, Some, None, refl, ap, arith, drop-cons}
use Rattle.std.specs.Prelude.{MatchOption}
use Rattle.std.proofs.lemmas.List.{length-drop, take_all}
use Rattle.std.proofs.Math.ListN.{drop_of_length-le}
use Rattle.std.proofs.Math.Seq.{drop-length}
use Rattle.blz_info.specs.Contents.{Contents}
use Rattle.blz_info.specs.Attributes.{attribute}
use Rattle.blz_info.specs.Walks.{Walk}
use Rattle.blz_info.specs.Wanted.{is_wanted, wanted_in, wanted_of, met_view}
use Rattle.blz_info.specs.declared.walking.wanted.Met.{Met}
use Rattle.blz_info.specs.declared.abbreviations.AttrSpec.{AttrSpec}
use Rattle.blz_info.specs.declared.encoding.Encoding.{Encoding}
use Rattle.blz_info.specs.declared.text.StrBase.{StrBase}
use Rattle.blz_info.specs.declared.forms.value.AttrValue.{AttrValue}
use Rattle.blz_info.proofs.RunSteps.{none_left}

pub wanted_none : (specs : List AttrSpec) (i : ℕ) (d : AttrSpec) (e : Encoding) (base : StrBase) (s : Contents) (at : ℕ) → i < length specs → attribute (get_or specs i d) e base s at ≡ None → wanted_in (drop i specs) e base s at ≡ None
unfolding wanted_in
wanted_none specs i d e base s at lt h = let first = drop-cons specs i d lt in rw (first, h) refl

pub wanted_found : (specs : List AttrSpec) (i : ℕ) (d : AttrSpec) (e : Encoding) (base : StrBase) (s : Contents) (at next : ℕ) (v : AttrValue) → i < length specs → attribute (get_or specs i d) e base s at ≡ Some (v, next) → is_wanted (get_or specs i d).name ≡ true → wanted_in (drop i specs) e base s at ≡ Some (Some ((get_or specs i d).name, v), (drop (i + 1) specs, next))
unfolding wanted_in
wanted_found specs i d e base s at next v lt h k =
    let first = drop-cons specs i d lt in
    let one : i + 1 ≡ suc i = omega arith in
    rw (one, first, h, k) refl

pub wanted_more : (specs : List AttrSpec) (i : ℕ) (d : AttrSpec) (e : Encoding) (base : StrBase) (s : Contents) (at next : ℕ) (v : AttrValue) → i < length specs → attribute (get_or specs i d) e base s at ≡ Some (v, next) → is_wanted (get_or specs i d).name ≡ false → wanted_in (drop i specs) e base s at ≡ wanted_in (drop (i + 1) specs) e base s next
unfolding wanted_in
wanted_more specs i d e base s at next v lt h k =
    let first = drop-cons specs i d lt in
    let one : i + 1 ≡ suc i = omega arith in
    rw (one, first, h, k) refl

pub wanted_end : (specs : List AttrSpec) (i : ℕ) (e : Encoding) (base : StrBase) (s : Contents) (at : ℕ) → length specs ≤ i → none_left (drop (length specs) specs) at ≡ wanted_in (drop i specs) e base s at
unfolding wanted_in
wanted_end specs i e base s at le =
    let none : drop i specs ≡ [] = drop_of_length-le specs {i = i} le in
    let all : drop (length specs) specs ≡ [] = drop-length specs in
    rw (none, all) refl

-- what stands behind so many is all that is left of them
pub rest_whole : (specs : List AttrSpec) (n : ℕ) → take (length specs - n) (drop n specs) ≡ drop n specs
rest_whole specs n = take_all (length specs - n) (drop n specs) (omega (arith, length-drop n specs))

-- a walk whose next wanted attribute was met
pub wanted_step : (w : Walk) (m : Met) → Some (met_view w.pending m) ≡ wanted_in w.pending w.source.encoding w.source.base w.source.section w.place → wanted_of w ≡ Some (m.found, record { source = w.source; place = m.place; pending = take (length w.pending - m.count) (drop m.count w.pending); depth = w.depth })
unfolding wanted_of
wanted_step w m h = rw (← h, rest_whole w.pending m.count) refl

pub no_wanted_step : (w : Walk) → None ≡ wanted_in w.pending w.source.encoding w.source.base w.source.section w.place → wanted_of w ≡ None
unfolding wanted_of
no_wanted_step w h = rw (← h) refl

-- what is left behind it
pub left_of : (found : Option (ℕ × AttrValue)) (count : ℕ) (specs : List AttrSpec) → count ≤ length specs → MatchOption found (count ≡ length specs) (λ _. 0 < count) → MatchOption found (take (length specs - count) (drop count specs) ≡ []) (λ _. length (take (length specs - count) (drop count specs)) < length specs)
left_of None count specs le h = rest_whole specs count ∙ drop_of_length-le specs {i = count} (omega arith)
left_of (Some x) count specs le h = omega (arith, ap length (rest_whole specs count), length-drop count specs)
