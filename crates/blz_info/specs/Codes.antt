-- How the values that stand for a reader are stored, each as a tuple of what it is made of.
use Rattle.std.specs.Prelude.{◌≡◌, refl, ℕ, Bool, true, false, ℤ, List, ◌==◌, if◌then◌else◌}
use Rattle.std.specs.Coded.{Coded, code_by, coded×, coded_list, coded_ℕ, coded_ℤ, coded_bool}
use Rattle.std.specs.FinMap as map
use Rattle.std.proofs.Common.{ap}
use Rattle.blz_model.specs.declared.byte_order.ByteOrder.{ByteOrder}
use Rattle.blz_model.specs.declared.byte_order.ByteOrder.TheVariants.{Little, Big}
use Rattle.blz_relocations.specs.Relocations.{OffsetMap, relocation_code}
use Rattle.blz_info.specs.Contents.{Contents}
use Rattle.blz_info.specs.Abbrevs.{Abbrev}
use Rattle.blz_info.specs.Headers.{UnitList}
use Rattle.blz_info.specs.Walks.{Source, Walk}
use Rattle.blz_info.specs.declared.abbreviations.AttrSpec.{AttrSpec}
use Rattle.blz_info.specs.declared.encoding.Encoding.{Encoding}
use Rattle.blz_info.specs.declared.text.StrBase.{StrBase}
use Rattle.blz_info.specs.declared.text.StrPart.{StrPart}
use Rattle.blz_info.specs.declared.text.StrPart.TheVariants.{Info, Line, Strings, LineStr, SupStrings, PackInfo, PackStrings, SupInfo, SupLineStr}

-- whether the greatest byte comes first, and the order that says so
abbrev pub is_big : ByteOrder → Bool
is_big Little = false
is_big Big = true

abbrev pub order_of : Bool → ByteOrder
order_of false = Little
order_of true = Big

abbrev pub same_order : (o : ByteOrder) → order_of (is_big o) ≡ o
same_order Little = refl
same_order Big = refl

abbrev pub contents_code : Coded Contents
contents_code = code_by ((List ℕ × OffsetMap) × Bool) (coded× (coded× (coded_list coded_ℕ) (map.code coded_ℕ relocation_code)) coded_bool) (λ c. ((c.bytes, c.relocations), is_big c.order)) (λ p. record { bytes = p.0.0; relocations = p.0.1; order = order_of p.1 }) (λ c. ap (λ (o : ByteOrder). record { bytes = c.bytes; relocations = c.relocations; order = o }) (same_order c.order))

abbrev pub unit_list_code : Coded UnitList
unit_list_code = code_by (Contents × ℕ) (coded× contents_code coded_ℕ) (λ u. (u.section, u.place)) (λ p. record { section = p.0; place = p.1 }) (λ _. refl)

-- the number of a section that has texts, and the section of a number
abbrev pub part_number : StrPart → ℕ
part_number Info = 0
part_number Line = 1
part_number Strings = 2
part_number LineStr = 3
part_number SupStrings = 4
part_number PackInfo = 5
part_number PackStrings = 6
part_number SupInfo = 7
part_number SupLineStr = 8

abbrev pub numbered_part : ℕ → StrPart
numbered_part n =
    if n == 0 then Info else (if n == 1 then Line else (if n == 2 then Strings else (if n == 3 then LineStr else (
    if n == 4 then SupStrings else (if n == 5 then PackInfo else (if n == 6 then PackStrings else (if n == 7 then SupInfo else SupLineStr)))))))

abbrev pub same_part : (p : StrPart) → numbered_part (part_number p) ≡ p
same_part Info = refl
same_part Line = refl
same_part Strings = refl
same_part LineStr = refl
same_part SupStrings = refl
same_part PackInfo = refl
same_part PackStrings = refl
same_part SupInfo = refl
same_part SupLineStr = refl

abbrev pub base_code : Coded StrBase
base_code = code_by (ℕ × ℕ) (coded× coded_ℕ coded_ℕ) (λ b. (part_number b.part, b.start)) (λ p. record { part = numbered_part p.0; start = p.1 }) (λ b. ap (λ (p : StrPart). record { part = p; start = b.start }) (same_part b.part))

abbrev pub encoding_code : Coded Encoding
encoding_code = code_by ((ℕ × Bool) × ℕ) (coded× (coded× coded_ℕ coded_bool) coded_ℕ) (λ e. ((e.version, e.wide), e.address_size)) (λ p. record { version = p.0.0; wide = p.0.1; address_size = p.1 }) (λ _. refl)

abbrev pub spec_code : Coded AttrSpec
spec_code = code_by ((ℕ × ℕ) × ℤ) (coded× (coded× coded_ℕ coded_ℕ) coded_ℤ) (λ s. ((s.name, s.form), s.constant)) (λ p. record { name = p.0.0; form = p.0.1; constant = p.1 }) (λ _. refl)

abbrev pub abbrev_code : Coded Abbrev
abbrev_code = code_by ((ℕ × ℕ) × (Bool × List AttrSpec)) (coded× (coded× coded_ℕ coded_ℕ) (coded× coded_bool (coded_list spec_code))) (λ a. ((a.code, a.tag), (a.children, a.specs))) (λ p. record { code = p.0.0; tag = p.0.1; children = p.1.0; specs = p.1.1 }) (λ _. refl)

abbrev pub source_code : Coded Source
source_code = code_by ((Contents × StrBase) × (Encoding × (List Abbrev × ℕ))) (coded× (coded× contents_code base_code) (coded× encoding_code (coded× (coded_list abbrev_code) coded_ℕ))) (λ u. ((u.section, u.base), (u.encoding, (u.table, u.end)))) (λ p. record { section = p.0.0; base = p.0.1; encoding = p.1.0; table = p.1.1.0; end = p.1.1.1 }) (λ _. refl)

abbrev pub walk_code : Coded Walk
walk_code = code_by ((Source × ℕ) × (List AttrSpec × ℕ)) (coded× (coded× source_code coded_ℕ) (coded× (coded_list spec_code) coded_ℕ)) (λ w. ((w.source, w.place), (w.pending, w.depth))) (λ p. record { source = p.0.0; place = p.0.1; pending = p.1.0; depth = p.1.1 }) (λ _. refl)
